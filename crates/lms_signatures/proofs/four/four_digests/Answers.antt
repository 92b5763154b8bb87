use Rattle.std.proofs.Common.{◌≡◌, ℕ, ◌<◌, List, [], ◌∷◌, ap, ◌∙◌, refl, arith}
use Rattle.std.specs.List.{slice_index_or}
use Rattle.sha2.specs.Sha256.{compress, initial_hash_256}
use Rattle.lms_signatures.specs.Lanes.{lane}
use Rattle.lms_signatures.proofs.LaneLemmas.{below_four}
use Rattle.lms_signatures.proofs.OneBlock.{digest_is}
use Rattle.lms_signatures.proofs.four.four_digests.Goals as goal

pub returns : goal.returns
returns c =
    let state = c.compress.new.state in
    let blocks = c.block_of.result ∷ c.block_of-2.result ∷ c.block_of-3.result ∷ c.block_of-4.result ∷ [] in
    let at : (j : ℕ) → j < 4 → (b : List ℕ) → slice_index_or blocks j [] ≡ b → lane j state ≡ compress initial_hash_256 b =
    λ j lt b e. c.compress.ensures j b lt (λ k klt. c.words_of-block.ensures j k lt klt ∙ rw e refl) ∙ ap (λ (h : List ℕ). compress h b) (c.initial-state.ensures j lt) in
    below_four _
    (digest_is _ _ _ _ (omega arith) c.block_of.ensures c.digest_of.ensures (at 0 (omega arith) _ refl))
    (digest_is _ _ _ _ (omega arith) c.block_of-2.ensures c.digest_of-2.ensures (at 1 (omega arith) _ refl))
    (digest_is _ _ _ _ (omega arith) c.block_of-3.ensures c.digest_of-3.ensures (at 2 (omega arith) _ refl))
    (digest_is _ _ _ _ (omega arith) c.block_of-4.ensures c.digest_of-4.ensures (at 3 (omega arith) _ refl))
