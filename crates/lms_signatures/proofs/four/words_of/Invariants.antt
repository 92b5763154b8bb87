use Rattle.std.proofs.Common.{◌≡◌, ℕ, ◌<◌, ◌*◌, [], length, slice_index}
use Rattle.std.specs.List.{slice_index_or}
use Rattle.sha2.specs.Sha256.{word_at}
use Rattle.lms_signatures.specs.Lanes.{words}
use Rattle.lms_signatures.proofs.four.words_of.Given as goal

abbrev pub invariant-load : goal.invariant-load
invariant-load l = (length l.w ≡ 16)
    × ((j k : ℕ) → j < 4 → k < l.k → slice_index (words j l.w) k ≡ word_at (slice_index_or l.blocks j []) (4 * k))
