use Rattle.std.proofs.Common.{◌≡◌, ap, refl, ◌∙◌}
use Rattle.lms_signatures.specs.Types.{chain_count}
use Rattle.lms_signatures.specs.Ots.{chain_end, joined, ends_hash}
use Rattle.lms_signatures.specs.Runs.{run_at, end_of}
use Rattle.lms_signatures.proofs.Beside.{joined_alike}
use Rattle.lms_signatures.proofs.ots.ends_hash.Goals as goal

pub returns : goal.returns
unfolding ends_hash
returns c =
    let id = c.args.id.now in
    let q = c.args.index in
    let started = c.start_runs.new.runs in
    let ran = c.run_chains.new.runs in
    let count = chain_count c.args.ots in
    let alike : joined (λ i. end_of id q i (run_at ran i)) count ≡ joined (chain_end c.args.ots id q c.args.hash.now c.args.chains.now) count =
    joined_alike _ _ count (λ i lt. c.run_chains.ensures.alike i ∙ ap (end_of id q i) (c.start_runs.ensures.runs i lt)) in
    c.hash_of_ends.ensures ∙ rw (c.run_chains.ensures.long, c.start_runs.ensures.count, alike) refl
