use Rattle.std.proofs.Common.{◌≡◌, ◌%◌, ◌+◌, [], slice_index, refl, arith}
use Rattle.std.specs.List.{slice_index_or}
use Rattle.std.proofs.lemmas.List.{map-set}
use Rattle.lms_signatures.specs.Lanes.{words}
use Rattle.lms_signatures.proofs.LaneLemmas.{lane_word}
use Rattle.lms_signatures.proofs.lanes.next_word.Goals as goal

pub returns : goal.returns
returns c = record {
  value = λ j h.
      let w = c.args.w.now in
      let p = c.args.place in
      let at : p % 16 ≡ p = omega arith in
      let e14 : slice_index (words j w) ((p + 14) % 16) ≡ slice_index (slice_index_or w ((p + 14) % 16) []) j = lane_word w j ((p + 14) % 16) (omega arith) in
      let e9 : slice_index (words j w) ((p + 9) % 16) ≡ slice_index (slice_index_or w ((p + 9) % 16) []) j = lane_word w j ((p + 9) % 16) (omega arith) in
      let e1 : slice_index (words j w) ((p + 1) % 16) ≡ slice_index (slice_index_or w ((p + 1) % 16) []) j = lane_word w j ((p + 1) % 16) (omega arith) in
      let e0 : slice_index (words j w) p ≡ slice_index (slice_index_or w p []) j = lane_word w j p (omega arith) in
      rw (at, e14, e9, e1, e0, c.add-word.ensures j h, c.add-sum2.ensures j h, c.add-sum1.ensures j h, c.small_sigma1-before2.ensures j h, c.small_sigma0-before15.ensures j h) refl;
  window = λ j h. map-set _ _ _ _;
}
