use Rattle.std.proofs.Common.{rules, ◌≡◌, ◌≤◌, ◌<◌, ◌++◌, [], length, get_or, sym, ◌∙◌, ap, subst, Contains}
use Rattle.std.specs.List.{flat_map}
use Rattle.std.proofs.lemmas.List.{take_all}
use Rattle.std.proofs.lemmas.List.Filters.{dedup_is}
use Rattle.std.proofs.lemmas.List.Kept.{Contains-dedup_nat}
use Rattle.std.proofs.lemmas.List.Sorted.{Contains-permutation}
use Rattle.std.proofs.lemmas.Map.Keys.{IsStrictlyIncreasing-dedup}
use Rattle.watchtower.specs.Holders.{holders_of}
use Rattle.watchtower.proofs.Concerning.{gathered_more}
use Rattle.watchtower.proofs.looking.concerned.Goals as goal

pub loop-channel-preserved : goal.loop-channel-preserved
loop-channel-preserved c =
    let f = holders_of c.args.holders.now.channels.keys c.args.holders.now.places.items in
    let lt : c.loop-channel.channel-index < length c.as_slice-channels.result.now = search rules in
    let one : c.of.result.now ≡ holders_of c.args.holders.now.channels.keys c.args.holders.now.places.items (get_or c.as_slice-channels.result.now c.loop-channel.channel-index []) = search rules in
    c.in_ok-extend_from_slice.ensures.items
    ∙ (λ i. c.loop-channel.invariant i ++ one i)
    ∙ gathered_more f c.as_slice-channels.result.now c.loop-channel.channel-index [] lt

pub returns-clause-rising : goal.returns-clause-rising
returns-clause-rising c =
    let is = dedup_is _ _ _ c.dedup.ensures.filtered in
    rw is (IsStrictlyIncreasing-dedup _ c.sort_unstable.ensures.sorted)

pub returns-clause-all : goal.returns-clause-all
returns-clause-all c place has =
    let is = dedup_is _ _ _ c.dedup.ensures.filtered in
    let moved = c.sort_unstable.ensures.permutation in
    let le : length c.as_slice-channels.result.now ≤ c.loop-channel.channel-index = search rules in
    let keys : c.as_slice-channels.result.now ≡ c.args.noted.now.keys = search rules in
    let whole = take_all c.loop-channel.channel-index c.as_slice-channels.result.now le ∙ keys in
    let all = c.loop-channel.invariant ∙ ap (flat_map (holders_of c.args.holders.now.channels.keys c.args.holders.now.places.items)) whole in
    rw is (Contains-dedup_nat _ place (Contains-permutation _ _ place moved (subst (λ l. Contains l place) (sym all) has)))
