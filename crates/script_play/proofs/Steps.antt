-- A play goes on step by step.
use Rattle.std.proofs.Common.{◌≡◌, ℕ, ◌+◌, ◌<◌, List, length, drop, get_or, fold}
use Rattle.std.proofs.lemmas.List.{at_drop_more}
use Rattle.std.specs.List.{cons_option}
use Rattle.network.specs.Ways.{Ways}
use Rattle.script_steps.specs.Bounds.{signers_of}
use Rattle.script_steps.specs.Conditions.{signer_of}
use Rattle.script_play.specs.Play.{SceneOf, numbered, played}
use Rattle.script_steps.specs.declared.step.Step.{Step}

pub goes_on : {P : Type 0} (ways : Ways P) (s : SceneOf P) (number : ℕ) (steps : List Step) (i : ℕ) (d : Step) → i < length steps
    → fold (played ways) s (numbered number (drop i steps)) ≡ fold (played ways) (played ways s (number, get_or steps i d)) (numbered (number + 1) (drop (i + 1) steps))
goes_on ways s number steps i d h = at_drop_more (λ xs. fold (played ways) s (numbered number xs)) steps i d h

pub signers_go_on : (steps : List Step) (i : ℕ) (d : Step) → i < length steps → signers_of (drop i steps) ≡ cons_option (signer_of (get_or steps i d)) (signers_of (drop (i + 1) steps))
signers_go_on steps i d h = at_drop_more signers_of steps i d h
