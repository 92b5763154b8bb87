use Rattle.std.proofs.Common.{rules, ◌*◌, [], ◌∷◌, arith}
use Rattle.std.specs.List.{slice_index_or}
use Rattle.sha2.specs.Sha256.{word_at}
use Rattle.lms_signatures.proofs.LaneLemmas.{below_four, words_more}
use Rattle.lms_signatures.proofs.four.words_of.Goals as goal

pub load-preserved : goal.load-preserved
load-preserved c = (
  search rules,
  words_more c.load.w c.load.k (c.load_be-a.result ∷ c.load_be-b.result ∷ c.load_be-c.result ∷ c.load_be-d.result ∷ []) (λ j k. word_at (slice_index_or c.args.blocks.now j []) (4 * k)) c.load.invariant.0 (omega arith) c.load.invariant.1
      (below_four _ c.load_be-a.ensures c.load_be-b.ensures c.load_be-c.ensures c.load_be-d.ensures),
)
