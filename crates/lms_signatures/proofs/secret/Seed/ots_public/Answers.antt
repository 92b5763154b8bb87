use Rattle.std.proofs.Common.{◌≡◌, ap, refl, ◌∙◌, ◌-◌, ◌^◌}
use Rattle.lms_signatures.specs.Types.{chain_count, width}
use Rattle.lms_signatures.specs.Ots.{ends_hash, joined}
use Rattle.lms_signatures.specs.Runs.{run_at, end_of}
use Rattle.lms_signatures.proofs.Beside.{joined_alike}
use Rattle.lms_signatures.specs.Secret.{along, ots_public}
use Rattle.lms_signatures.proofs.Filling.{private_end}
use Rattle.lms_signatures.proofs.secret.Seed.ots_public.Goals as goal

pub returns : goal.returns
unfolding ots_public ends_hash
returns c =
    let s = c.args.self.now in
    let q = c.args.q in
    let top = 2 ^ width s.ots - 1 in
    let ran = c.run_chains.new.runs in
    let count = chain_count s.ots in
    let alike : joined (λ i. end_of s.id q i (run_at ran i)) count ≡ joined (λ i. along s q top i) count =
    joined_alike _ _ count (λ i lt. rw c.id.ensures at (c.run_chains.ensures.alike i) ∙ ap (end_of s.id q i) (c.start_runs.ensures.runs i lt) ∙ private_end s q top i) in
    c.hash_of_ends.ensures ∙ rw (c.id-2.ensures, c.run_chains.ensures.long, c.start_runs.ensures.long, alike) refl
