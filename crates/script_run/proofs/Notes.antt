-- What the two note.
use Rattle.std.proofs.Common.{◌≡◌, ℕ, ◌+◌, ◌%◌, Bool, true, false, cond, List, [], ◌∷◌, arith}
use Rattle.std.specs.Prelude.{◌==◌, nat_le, Option, Some, None}
use Rattle.std.proofs.lemmas.Bool.Decides.{nat_tests}
use Rattle.channel_values.specs.Parts.{StateParts}
use Rattle.channel_values.specs.declared.chain.Signed.{Signed}
use Rattle.channel_values.specs.Messages.{message_of_state}
use Rattle.channel_values.specs.Rules.{Rules}
use Rattle.call_history.specs.declared.view.WorldView.{WorldView}
use Rattle.call_history.proofs.Names.{bytes_eq_self}
use Rattle.channel_node.specs.Minds.{noted}
use Rattle.script_run.specs.Pair.{mind, mark, marks_a, marks_b, state}
use Rattle.script_run.specs.TwoPeople.{Pair, fixed, name}

-- a key signed the state
abbrev pub Well : Rules → Pair → List ℕ → StateParts → List ℕ → Type 0
Well r p key s signature = r.verifies key (message_of_state (r.digest (name r p) s)) signature ≡ true

abbrev pub by : StateParts → List ℕ → Signed
by s signature = record { state = s; signature = signature }

pub notes_first : (r : Rules) (p : Pair) (own : Bool) (me : ℕ) (key : List ℕ) (v : WorldView) (last : Option StateParts) (signature : List ℕ)
    → Well r p p.key_a (state p 0 false p.a p.b) signature
    → noted r own (name r p) (by (state p 0 false p.a p.b) signature) (mind r p me key false v [] [] last)
    ≡ mind r p me key false v (state p 0 false p.a p.b ∷ []) (mark 0 signature ∷ []) (cond own (Some (state p 0 false p.a p.b)) last)
notes_first r p own me key v last signature well = simp (bytes_eq_self (name r p), well)

pub notes_second : (r : Rules) (p : Pair) (own : Bool) (me : ℕ) (key : List ℕ) (v : WorldView) (last : Option StateParts) (ga signature : List ℕ)
    → Well r p p.key_b (state p 1 false p.a p.b) signature → r.step (fixed p) (state p 0 false p.a p.b) (state p 1 false p.a p.b) ≡ None
    → noted r own (name r p) (by (state p 1 false p.a p.b) signature) (mind r p me key false v (state p 0 false p.a p.b ∷ []) (mark 0 ga ∷ []) last)
    ≡ mind r p me key false v (state p 0 false p.a p.b ∷ state p 1 false p.a p.b ∷ []) (marks_b ga signature) (cond own (Some (state p 1 false p.a p.b)) last)
notes_second r p own me key v last ga signature well step = simp (bytes_eq_self (name r p), well, step)

-- later turns
pub notes_a : (r : Rules) (p : Pair) (own closing : Bool) (me : ℕ) (key : List ℕ) (v : WorldView) (older latest s : StateParts) (last : Option StateParts) (ga gb signature : List ℕ)
    → (s.turn == latest.turn + 1) ≡ true → s.turn % 2 ≡ 0 → Well r p p.key_a s signature → r.step (fixed p) latest s ≡ None
    → noted r own (name r p) (by s signature) (mind r p me key closing v (older ∷ latest ∷ []) (marks_b ga gb) last)
    ≡ mind r p me key closing v (latest ∷ s ∷ []) (marks_a signature gb) (cond own (Some s) last)
notes_a r p own closing me key v older latest s last ga gb signature next even well step = simp (bytes_eq_self (name r p), next, even, well, step)

pub notes_b : (r : Rules) (p : Pair) (own closing : Bool) (me : ℕ) (key : List ℕ) (v : WorldView) (older latest s : StateParts) (last : Option StateParts) (ga gb signature : List ℕ)
    → (s.turn == latest.turn + 1) ≡ true → s.turn % 2 ≡ 1 → Well r p p.key_b s signature → r.step (fixed p) latest s ≡ None
    → noted r own (name r p) (by s signature) (mind r p me key closing v (older ∷ latest ∷ []) (marks_a ga gb) last)
    ≡ mind r p me key closing v (latest ∷ s ∷ []) (marks_b ga signature) (cond own (Some s) last)
notes_b r p own closing me key v older latest s last ga gb signature next odd well step = simp (bytes_eq_self (name r p), next, odd, well, step)

pub whole : (a b : ℕ) → nat_le (0 + a + b) (a + b) ≡ true
whole a b = grind (arith, nat_tests)
