use Rattle.std.proofs.Common.{◌≡◌, ℕ, ◌<◌, [], length, arith, sym, ap, ◌∙◌}
use Rattle.std.proofs.lemmas.List.Sums.{position_or_len_is}
use Rattle.std.specs.List.{position_or_len}
use Rattle.std.specs.Str.{bytes_eq}
use Rattle.node_knowledge.proofs.opening.place_among.Goals as goal

pub returns-then-same_key : goal.returns-then-same_key
returns-then-same_key c =
    let here : position_or_len (bytes_eq c.args.key.now) c.keys-keys.result.now ≡ c.loop-place.place =
    position_or_len_is (bytes_eq c.args.key.now) c.keys-keys.result.now c.loop-place.place [] c.loop-place.invariant.0 c.loop-place.invariant.1
    (λ (h : c.loop-place.place < length c.keys-keys.result.now). sym c.same_key.ensures ∙ c.if-same_key.true) in
    sym here ∙ ap (position_or_len (bytes_eq c.args.key.now)) c.keys-keys.ensures.value

pub returns : goal.returns
returns c =
    let here : position_or_len (bytes_eq c.args.key.now) c.keys-keys.result.now ≡ length c.keys-keys.result.now =
    position_or_len_is (bytes_eq c.args.key.now) c.keys-keys.result.now (length c.keys-keys.result.now) []
    (omega arith)
    (λ (k : ℕ) (h : k < length c.keys-keys.result.now). let within : k < c.loop-place.place = omega arith in c.loop-place.invariant.1 k within)
    (λ (h : length c.keys-keys.result.now < length c.keys-keys.result.now). absurd (omega arith)) in
    sym here ∙ ap (position_or_len (bytes_eq c.args.key.now)) c.keys-keys.ensures.value
