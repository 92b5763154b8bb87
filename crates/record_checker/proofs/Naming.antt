-- Of an asset that no outcome of a plan's channels names, the share is what was paid.
use Rattle.std.proofs.Common.{◌≡◌, ℕ, ◌+◌, min, Bool, true, false, ◌||◌, cond, List, [], ◌∷◌, ◌++◌, refl, sym, ◌∙◌, ap, arith}
use Rattle.std.specs.Prelude.{Option, Some, None, ◌==◌}
use Rattle.std.specs.Str.{bytes_eq}
use Rattle.std.proofs.lemmas.List.Folds.{list_any-append}
use Rattle.channel_values.specs.declared.value.AssetOutcome.{AssetOutcome}
use Rattle.channel_values.specs.declared.value.Dest.TheVariants.{Person}
use Rattle.channel_values.specs.declared.value.Item.{Item}
use Rattle.call_history.specs.Mode.{is_final}
use Rattle.call_history.specs.Dues.{shape_in}
use Rattle.call_history.specs.Flows.{is_among}
use Rattle.call_history.specs.History.{mode, paid_to, rest_of_channel}
use Rattle.call_history.specs.declared.entry.Entry.{Entry}
use Rattle.call_history.specs.declared.held_chain.Known.{Known}
use Rattle.funding_plans.specs.Parts.{own_guarantor}
use Rattle.funding_plans.specs.Shapes.{items_of, items_in}
use Rattle.funding_plans.specs.declared.plan.Part.{Part}
use Rattle.funding_plans.specs.declared.plan.Part.TheVariants.{Root, OnLedger, End, Middle}
use Rattle.funding_plans.specs.declared.plan.Plan.{Plan}
use Rattle.plan_share.specs.Pages.{or_empty}
use Rattle.share_laws.specs.Books.{Books, Counting, one_of, outcome_in, varying, books_under}
use Rattle.share_laws.specs.Places.{listed, proposed, possible_if, counting_of, balances}
use Rattle.share_laws.specs.Share.{least_over, worth_under}
use Rattle.share_laws.specs.Worth.{Table, no_reach, affords, own_claim, virtual, end_reach, reach_after, part_worth, worth}
use Rattle.share_laws.proofs.Least.{Takes, least_over-some}
use Rattle.support_rules.specs.Real.{real}
use Rattle.run_record.specs.Plans.{possible_then, counting_then}
use Rattle.record_checker.specs.Seen.{share_by, assets_in, named_by, named, is_named}
use mathlib.Core.Path.{fun_ext}

-- ---- outcomes that don't name an asset

neither : (a b : Bool) → (a || b) ≡ false → (a ≡ false) × (b ≡ false)
neither true b e = absurd cc
neither false b e = (refl, e)

apart : (asset : ℕ) (xs ys : List ℕ) → is_named asset (xs ++ ys) ≡ false → (is_named asset xs ≡ false) × (is_named asset ys ≡ false)
apart asset xs ys e = neither (is_named asset xs) (is_named asset ys) (sym (list_any-append (λ (other : ℕ). other == asset) xs ys) ∙ e)

no_items : (asset : ℕ) (os : List AssetOutcome) → is_named asset (assets_in os) ≡ false → items_in asset os ≡ []
no_items asset [] e = refl
no_items asset (o ∷ os) e = go (o.asset == asset) refl (no_items asset os) e
  where
    go : (b : Bool) → (o.asset == asset) ≡ b → (is_named asset (assets_in os) ≡ false → items_in asset os ≡ []) → (b || is_named asset (assets_in os)) ≡ false → items_in asset (o ∷ os) ≡ []
    go true is rest f = absurd cc
    go false is rest f = ap (λ (b : Bool). items_of (cond b (Some o.shape) (shape_in os asset))) is ∙ rest f

-- neither outcome of a channel has items of the asset
abbrev HaveNone : ℕ → List Counting → Type 0
HaveNone asset [] = Unit {0}
HaveNone asset (x ∷ xs) = (items_in asset x.outcome ≡ []) × (items_in asset (or_empty x.proposal) ≡ []) × HaveNone asset xs

none_of_both : (asset : ℕ) (xs ys : List Counting) → HaveNone asset xs → HaveNone asset ys → HaveNone asset (xs ++ ys)
none_of_both asset [] ys none more = more
none_of_both asset (x ∷ xs) ys none more = (none.0, none.1, none_of_both asset xs ys none.2 more)

none_of_open : (asset : ℕ) (channel : List ℕ) (o : List AssetOutcome) (p : Option (List AssetOutcome)) → items_in asset o ≡ [] → items_in asset (or_empty p) ≡ [] → HaveNone asset (counting_of channel (o ∷ listed p))
none_of_open asset channel o None e f = (e, f, tt)
none_of_open asset channel o (Some p) e f = (e, f, tt)

none_of_final : (asset : ℕ) (channel : List ℕ) (rest : Option (List AssetOutcome)) → items_in asset (or_empty rest) ≡ [] → HaveNone asset (counting_of channel (listed rest))
none_of_final asset channel None e = tt
none_of_final asset channel (Some o) e = (e, refl, tt)

none_of : (h : List Entry) (k : Known) (asset : ℕ) → is_named asset (named_by h k) ≡ false → HaveNone asset (counting_of k.channel (possible_then real h k))
none_of h k asset e = go (is_final (mode real k.channel h))
  where
    rest : Option (List AssetOutcome)
    rest = rest_of_channel real k.channel h

    proposal : Option (List AssetOutcome)
    proposal = proposed k.last.app_bytes

    signed : (is_named asset (assets_in k.last.outcome) ≡ false) × (is_named asset (assets_in (or_empty rest) ++ assets_in (or_empty proposal)) ≡ false)
    signed = apart asset (assets_in k.last.outcome) (assets_in (or_empty rest) ++ assets_in (or_empty proposal)) e

    others : (is_named asset (assets_in (or_empty rest)) ≡ false) × (is_named asset (assets_in (or_empty proposal)) ≡ false)
    others = apart asset (assets_in (or_empty rest)) (assets_in (or_empty proposal)) signed.1

    go : (final : Bool) → HaveNone asset (counting_of k.channel (possible_if final rest k.last))
    go true = none_of_final asset k.channel rest (no_items asset (or_empty rest) others.0)
    go false = none_of_open asset k.channel k.last.outcome proposal (no_items asset k.last.outcome signed.0) (no_items asset (or_empty proposal) others.1)

none_of_all : (h : List Entry) (ks : List Known) (asset : ℕ) → is_named asset (named h ks) ≡ false → HaveNone asset (counting_then real h ks)
none_of_all h [] asset e = tt
none_of_all h (k ∷ ks) asset e =
    let each = apart asset (named_by h k) (named h ks) e in
    none_of_both asset (counting_of k.channel (possible_then real h k)) (counting_then real h ks) (none_of h k asset each.0) (none_of_all h ks asset each.1)

-- ---- books of nothing

no_items_in : (asset : ℕ) (xs : List Counting) (taken : List (List ℕ)) (channel : List ℕ) → HaveNone asset xs → items_in asset (outcome_in xs taken channel) ≡ []
no_items_in asset [] taken channel none = refl
no_items_in asset (x ∷ xs) taken channel none = go (bytes_eq x.channel channel) (no_items_in asset xs taken channel none.2)
  where
    chosen : (o : Option (List AssetOutcome)) (b : Bool) → items_in asset (or_empty o) ≡ [] → items_in asset (one_of o b x.outcome) ≡ []
    chosen None b second = none.0
    chosen (Some proposal) true second = second
    chosen (Some proposal) false second = none.0

    go : (b : Bool) → items_in asset (outcome_in xs taken channel) ≡ [] → items_in asset (cond b (one_of x.proposal (is_among x.channel taken) x.outcome) (outcome_in xs taken channel)) ≡ []
    go true rest = chosen x.proposal (is_among x.channel taken) none.1
    go false rest = rest

sum_nothing : (a b : ℕ) → a ≡ 0 → b ≡ 0 → a + b ≡ 0
sum_nothing a b e f = omega arith

min_nothing : (n : ℕ) → min 0 n ≡ 0
min_nothing n = omega arith

module _ (held : List ℕ → ℕ) (xs : List Counting) (asset : ℕ) (taken : List (List ℕ)) (me : List ℕ) where
  abbrev empty : Books
  empty = record (books_under held xs asset taken) { items = λ channel. [] }

  part_nothing : (reach : Table) (p : Part) → part_worth empty me reach p ≡ 0
  part_nothing reach (Root c) = refl
  part_nothing reach (OnLedger l c) = refl
  part_nothing reach (End v) =
      sum_nothing (affords empty v.channel (virtual empty (own_guarantor v) v.joint v.channel (end_reach empty reach v)) (Person me)) (own_claim empty me (own_guarantor v) v.joint v.channel (end_reach empty reach v))
      refl (min_nothing _)
  part_nothing reach (Middle v) = min_nothing _

  worth_nothing : (ps : List Part) (reach : Table) → worth empty me ps reach ≡ 0
  worth_nothing [] reach = refl
  worth_nothing (p ∷ ps) reach =
      sum_nothing (part_worth empty me reach p) (worth empty me ps (reach_after empty reach p)) (part_nothing reach p) (worth_nothing ps (reach_after empty reach p))

  is_empty : HaveNone asset xs → books_under held xs asset taken ≡ empty
  is_empty none = ap (λ (items : List ℕ → List Item). record (books_under held xs asset taken) { items = items }) (fun_ext (λ channel. no_items_in asset xs taken channel none))

least_nothing : (cs : List (List ℕ)) (value : List (List ℕ) → ℕ) → ((taken : List (List ℕ)) → value taken ≡ 0) → least_over cs value [] ≡ 0
least_nothing cs value none = go (least_over-some [] cs value)
  where
    go : ((s : List (List ℕ)) × Takes [] cs s × (least_over cs value [] ≡ value s)) → least_over cs value [] ≡ 0
    go some = some.2 ∙ none some.0

plus_nothing : (paid least : ℕ) → least ≡ 0 → paid + least ≡ paid
plus_nothing paid least e = omega arith

pub share_unnamed : (h : List Entry) (own : Plan) (ks : List Known) (asset : ℕ) → is_named asset (named h ks) ≡ false → share_by h own ks asset ≡ paid_to h own.me asset
share_unnamed h own ks asset e =
    plus_nothing (paid_to h own.me asset) (least_over (varying cs) (worth_under own.me own.parts held cs asset) [])
    (least_nothing (varying cs) (worth_under own.me own.parts held cs asset)
    (λ taken. ap (λ (b : Books). worth b own.me own.parts no_reach) (is_empty held cs asset taken own.me (none_of_all h ks asset e)) ∙ worth_nothing held cs asset taken own.me own.parts no_reach))
  where
    cs : List Counting
    cs = counting_then real h ks

    held : List ℕ → ℕ
    held = balances h asset
