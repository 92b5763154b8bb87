-- A share reads what is held by the channels in which the plan's person is a participant, and of one asset alone.
use Rattle.std.proofs.Common.{◌≡◌, ℕ, ◌+◌, ◌<◌, min, Bool, true, false, not, ◌&&◌, ◌||◌, cond, List, [], ◌∷◌, ◌++◌, map, length, take, get_or, refl, sym, ◌∙◌, ap, ◌↔◌}
use Rattle.std.specs.Prelude.{Result, Ok, Err, IfOk, IsTrue, ◌==◌}
use Rattle.std.specs.List.{list_all}
use Rattle.std.specs.Str.{bytes_eq}
use Rattle.std.proofs.lemmas.Bool.{eq-eqb}
use Rattle.std.proofs.lemmas.List.{take_more, map-append}
use Rattle.channel_values.specs.declared.fault.NoMemory.{NoMemory}
use Rattle.channel_values.specs.declared.value.Dest.TheVariants.{Person, Channel}
use Rattle.channel_values.specs.Amounts.{amt, has}
use Rattle.call_history.specs.Flows.{is_among}
use Rattle.call_history.specs.History.{held_of, paid_to}
use Rattle.call_history.specs.declared.entry.Entry.{Entry}
use Rattle.call_history.specs.declared.held_chain.Known.{Known}
use Rattle.call_history.specs.declared.view.ChannelView.{ChannelView}
use Rattle.call_history.specs.declared.view.WorldView.{WorldView}
use Rattle.call_history.proofs.Names.{same_bytes, bytes_eq_self, is_among-later}
use Rattle.funding_plans.specs.Parts.{joined_of, own_ledger, own_guarantor}
use Rattle.funding_plans.specs.declared.plan.Part.{Part}
use Rattle.funding_plans.specs.declared.plan.Part.TheVariants.{Root, OnLedger, End, Middle}
use Rattle.funding_plans.specs.declared.plan.Plan.{Plan}
use Rattle.funding_plans.specs.declared.plan.Virtual.{Virtual}
use Rattle.history_view.specs.Views.{view_of, held_amount, paid_amount}
use Rattle.plan_share.specs.Seen.{held_seen, possible_seen, counting_seen, share_seen}
use Rattle.share_laws.specs.Books.{Books, Counting, counts_in, varying, books_under}
use Rattle.share_laws.specs.Places.{balances, counting_of}
use Rattle.share_laws.specs.Share.{least_over, share_of}
use Rattle.share_laws.specs.Worth.{Table, no_reach, with_reach, affords, child, guarantor, claim, own_claim, virtual, end_reach, reach_after, second_amt, middle_worth, part_worth, worth}
use Rattle.support_rules.specs.Real.{real}
use Rattle.run_record.specs.declared.run_record.Ending.{Ending}
use Rattle.run_record.specs.Plans.{joined, without, firsts, possible_then, counting_then, shares_then}
use Rattle.record_checker.specs.Seen.{share_by, HasSharesBy, are_joined, channel_seen, plan_seen}
use mathlib.Core.Path.{fun_ext}

or_left : (a b : Bool) → a ≡ true → (a || b) ≡ true
or_left true b e = refl
or_left false b e = absurd cc

and-left : (a b : Bool) → (a && b) ≡ true → a ≡ true
and-left true b e = refl
and-left false b e = absurd cc

and-right : (a b : Bool) → (a && b) ≡ true → b ≡ true
and-right true b e = e
and-right false b e = absurd cc

-- ---- names

unequal : (x name : List ℕ) → bytes_eq name x ≡ true → bytes_eq x name ≡ false → ⊥
unequal x name same other =
    let flipped : bytes_eq x name ≡ true = ap (bytes_eq x) (same_bytes name x same) ∙ bytes_eq_self x in
    absurd cc

earlier : (name : List ℕ) (xs ys : List (List ℕ)) → is_among name xs ≡ true → is_among name (xs ++ ys) ≡ true
earlier name [] ys among = absurd cc
earlier name (x ∷ xs) ys among = go (bytes_eq name x) (earlier name xs ys) among
  where
    go : (b : Bool) → (is_among name xs ≡ true → is_among name (xs ++ ys) ≡ true) → (b || is_among name xs) ≡ true → (b || is_among name (xs ++ ys)) ≡ true
    go true rest e = refl
    go false rest e = rest e

or_right : (a b : Bool) → b ≡ true → (a || b) ≡ true
or_right true b e = refl
or_right false b e = e

-- what is there when a name went was there before
kept : (name gone : List ℕ) (names : List (List ℕ)) → is_among name (without gone names) ≡ true → is_among name names ≡ true
kept name gone [] among = among
kept name gone (x ∷ xs) among = go (not (bytes_eq gone x)) (kept name gone xs) among
  where
    split : (a : Bool) → (is_among name (without gone xs) ≡ true → is_among name xs ≡ true) → (a || is_among name (without gone xs)) ≡ true → (a || is_among name xs) ≡ true
    split true rest e = refl
    split false rest e = rest e

    go : (b : Bool) → (is_among name (without gone xs) ≡ true → is_among name xs ≡ true) → is_among name (cond b (x ∷ without gone xs) (without gone xs)) ≡ true → (bytes_eq name x || is_among name xs) ≡ true
    go true rest e = split (bytes_eq name x) rest e
    go false rest e = or_right (bytes_eq name x) (is_among name xs) (rest e)

-- ---- known states that count

and_both : (a b : Bool) → a ≡ true → b ≡ true → (a && b) ≡ true
and_both true b e f = f
and_both false b e f = absurd cc

module _ (wide : List (List ℕ)) where
  abbrev Within : List (List ℕ) → Type 0
  Within names = (name : List ℕ) → is_among name names ≡ true → is_among name wide ≡ true

  firsts_among : (names : List (List ℕ)) (ks : List Known) → Within names → list_all (λ (k : Known). is_among k.channel wide) (firsts names ks) ≡ true
  firsts_among names [] within = refl
  firsts_among names (k ∷ ks) within =
      go (is_among k.channel names) refl (firsts_among (without k.channel names) ks (λ name among. within name (kept name k.channel names among))) (firsts_among names ks within)
    where
      go : (b : Bool) → is_among k.channel names ≡ b → list_all (λ (j : Known). is_among j.channel wide) (firsts (without k.channel names) ks) ≡ true
          → list_all (λ (j : Known). is_among j.channel wide) (firsts names ks) ≡ true
          → list_all (λ (j : Known). is_among j.channel wide) (cond b (k ∷ firsts (without k.channel names) ks) (firsts names ks)) ≡ true
      go true e taken left = and_both (is_among k.channel wide) _ (within k.channel e) taken
      go false e taken left = left

pub firsts_joined : (own : Plan) (ks : List Known) → are_joined own (firsts (joined own.parts) ks) ≡ true
firsts_joined own ks = firsts_among (joined own.parts) (joined own.parts) ks (λ name among. among)

-- ---- the worth of parts

module _ (held other : List ℕ → ℕ) (xs : List Counting) (asset : ℕ) (taken : List (List ℕ)) (me : List ℕ) where
  abbrev mine : Books
  mine = books_under held xs asset taken

  abbrev theirs : Books
  theirs = books_under other xs asset taken

  abbrev Alike : List (List ℕ) → Type 0
  Alike names = (name : List ℕ) → is_among name names ≡ true → held name ≡ other name

  abbrev child_at : Table → (l c : List ℕ) → ℕ → ℕ
  child_at reach l c n = cond (has (mine.items l) (Channel c)) (n + affords mine l (reach l) (Channel c)) 0

  child_same : (reach : Table) (l c : List ℕ) → held c ≡ other c → child mine reach l c ≡ child theirs reach l c
  child_same reach l c same = ap (child_at reach l c) same

  guarantor_same : (reach : Table) (l g : List ℕ) (total : ℕ) → held g ≡ other g → guarantor mine reach l g total ≡ guarantor theirs reach l g total
  guarantor_same reach l g total same = ap (λ (n : ℕ). cond (counts_in xs g) (min n total) 0) (child_same reach l g same)

  virtual_same : (g j x : List ℕ) (r s : ℕ) → held x ≡ other x → r ≡ s → virtual mine g j x r ≡ virtual theirs g j x s
  virtual_same g j x r s same reaches =
      ap (λ (n : ℕ). cond (has (mine.items j) (Channel x)) (n + claim mine g j x r) 0) same
      ∙ ap (λ (n : ℕ). cond (has (mine.items j) (Channel x)) (other x + claim mine g j x n) 0) reaches

  end_same : (reach : Table) (v : Virtual) → held (own_guarantor v) ≡ other (own_guarantor v) → end_reach mine reach v ≡ end_reach theirs reach v
  end_same reach v same = guarantor_same reach (own_ledger v) (own_guarantor v) v.total same

  first : (name : List ℕ) (names : List (List ℕ)) → Alike (name ∷ names) → held name ≡ other name
  first name names alike = alike name (or_left (bytes_eq name name) (is_among name names) (bytes_eq_self name))

  later : (name : List ℕ) (names : List (List ℕ)) → Alike (name ∷ names) → Alike names
  later name names alike n among = alike n (is_among-later n (name ∷ []) names among)

  virtual_of : (reach : Table) (v : Virtual) → Alike (joined_of (End v))
      → virtual mine (own_guarantor v) v.joint v.channel (end_reach mine reach v) ≡ virtual theirs (own_guarantor v) v.joint v.channel (end_reach theirs reach v)
  virtual_of reach v alike =
      let rest : Alike (v.joint ∷ v.channel ∷ []) = later (own_guarantor v) (v.joint ∷ v.channel ∷ []) alike in
      let last : Alike (v.channel ∷ []) = later v.joint (v.channel ∷ []) rest in
      virtual_same (own_guarantor v) v.joint v.channel (end_reach mine reach v) (end_reach theirs reach v)
      (first v.channel [] last) (end_same reach v (first (own_guarantor v) (v.joint ∷ v.channel ∷ []) alike))

  abbrev middle_at : Virtual → (a b : ℕ) → ℕ
  middle_at v a b =
      middle_worth true true true (amt (mine.items v.joint) (Person me)) (amt (mine.items v.joint) (Channel v.channel))
      (second_amt (mine.items v.joint) (mine.list v.guarantor_a)) (second_amt (mine.items v.joint) (mine.list v.guarantor_b)) a b

  part_same : (reach : Table) (p : Part) → Alike (joined_of p) → part_worth mine me reach p ≡ part_worth theirs me reach p
  part_same reach (Root c) alike = ap (λ (n : ℕ). affords mine c n (Person me)) (first c [] alike)
  part_same reach (OnLedger l c) alike = ap (λ (n : ℕ). affords mine c n (Person me)) (child_same reach l c (first c [] alike))
  part_same reach (End v) alike =
      ap (λ (n : ℕ). affords mine v.channel n (Person me) + own_claim mine me (own_guarantor v) v.joint v.channel (end_reach mine reach v)) (virtual_of reach v alike)
      ∙ ap (λ (n : ℕ). affords mine v.channel (virtual theirs (own_guarantor v) v.joint v.channel (end_reach theirs reach v)) (Person me) + own_claim mine me (own_guarantor v) v.joint v.channel n)
      (end_same reach v (first (own_guarantor v) (v.joint ∷ v.channel ∷ []) alike))
  part_same reach (Middle v) alike =
      let rest : Alike (v.guarantor_b ∷ v.joint ∷ []) = later v.guarantor_a (v.guarantor_b ∷ v.joint ∷ []) alike in
      let of_b : ℕ = guarantor mine reach v.ledger_b v.guarantor_b v.total in
      ap (λ (n : ℕ). middle_at v n of_b) (guarantor_same reach v.ledger_a v.guarantor_a v.total (first v.guarantor_a (v.guarantor_b ∷ v.joint ∷ []) alike))
      ∙ ap (λ (n : ℕ). middle_at v (guarantor theirs reach v.ledger_a v.guarantor_a v.total) n) (guarantor_same reach v.ledger_b v.guarantor_b v.total (first v.guarantor_b (v.joint ∷ []) rest))

  reach_same : (reach : Table) (p : Part) → Alike (joined_of p) → reach_after mine reach p ≡ reach_after theirs reach p
  reach_same reach (Root c) alike = ap (with_reach reach c) (first c [] alike)
  reach_same reach (OnLedger l c) alike = ap (with_reach reach c) (child_same reach l c (first c [] alike))
  reach_same reach (End v) alike = ap (with_reach reach v.channel) (virtual_of reach v alike)
  reach_same reach (Middle v) alike = refl

  worth_same : (ps : List Part) (reach : Table) → Alike (joined ps) → worth mine me ps reach ≡ worth theirs me ps reach
  worth_same [] reach alike = refl
  worth_same (p ∷ ps) reach alike =
      ap (λ (n : ℕ). n + worth mine me ps (reach_after mine reach p)) (part_same reach p here)
      ∙ (ap (λ (t : Table). part_worth theirs me reach p + worth mine me ps t) (reach_same reach p here)
      ∙ ap (λ (n : ℕ). part_worth theirs me reach p + n) (worth_same ps (reach_after theirs reach p) there))
    where
      here : Alike (joined_of p)
      here name among = alike name (earlier name (joined_of p) (joined ps) among)

      there : Alike (joined ps)
      there name among = alike name (is_among-later name (joined_of p) (joined ps) among)

-- ---- a share

module _ (h : List Entry) (own : Plan) (asset : ℕ) where
  abbrev w : WorldView
  w = plan_seen h own asset

  seen_in : (names : List (List ℕ)) (name : List ℕ) → is_among name names ≡ true → view_of (map (channel_seen h asset) names) name ≡ channel_seen h asset name
  seen_in [] name among = absurd cc
  seen_in (x ∷ xs) name among = go (bytes_eq x name) refl (bytes_eq name x) refl (seen_in xs name) among
    where
      go : (b : Bool) → bytes_eq x name ≡ b → (a : Bool) → bytes_eq name x ≡ a
          → (is_among name xs ≡ true → view_of (map (channel_seen h asset) xs) name ≡ channel_seen h asset name) → (a || is_among name xs) ≡ true
          → cond b (channel_seen h asset x) (view_of (map (channel_seen h asset) xs) name) ≡ channel_seen h asset name
      go true e a f rest there = ap (channel_seen h asset) (same_bytes x name e)
      go false e true f rest there = absurd (unequal x name f e)
      go false e false f rest there = rest there

  counts_same : (ks : List Known) → are_joined own ks ≡ true → counting_seen w ks ≡ counting_then real h ks
  counts_same [] all = refl
  counts_same (k ∷ ks) all =
      ap (λ (v : ChannelView). counting_of k.channel (possible_seen w.now v k.last) ++ counting_seen w ks) (seen_in (joined own.parts) k.channel (and-left (is_among k.channel (joined own.parts)) (are_joined own ks) all))
      ∙ ap (λ (cs : List Counting). counting_of k.channel (possible_then real h k) ++ cs) (counts_same ks (and-right (is_among k.channel (joined own.parts)) (are_joined own ks) all))

  abbrev alone_of : ℕ → Bool → ℕ × ℕ
  alone_of n b = cond b (asset, n) (asset, 0)

  amount_alone : (n : ℕ) → held_amount ((asset, n) ∷ []) asset ≡ n
  amount_alone n = ap (λ (b : Bool). (alone_of n b).1) (eq-eqb asset asset refl)

  held_same : (name : List ℕ) → is_among name (joined own.parts) ≡ true → held_seen w asset name ≡ balances h asset name
  held_same name among = ap (λ (v : ChannelView). held_amount v.held asset) (seen_in (joined own.parts) name among) ∙ amount_alone (held_of h name asset)

  abbrev paid_of : Bool → List ℕ × ℕ × ℕ
  paid_of b = cond b (own.me, asset, paid_to h own.me asset) (own.me, asset, 0)

  paid_same : paid_amount w.paid own.me asset ≡ paid_to h own.me asset
  paid_same =
      ap (λ (b : Bool). (paid_of (b && (asset == asset))).2) (bytes_eq_self own.me)
      ∙ ap (λ (b : Bool). (paid_of b).2) (eq-eqb asset asset refl)

  share_same : (ks : List Known) → are_joined own ks ≡ true → share_seen w own ks asset ≡ share_by h own ks asset
  share_same ks all =
      ap (λ (n : ℕ). share_of own.me n own.parts (held_seen w asset) (counting_seen w ks) asset) paid_same
      ∙ (ap (λ (cs : List Counting). share_of own.me (paid_to h own.me asset) own.parts (held_seen w asset) cs asset) (counts_same ks all)
      ∙ ap (λ (value : List (List ℕ) → ℕ). paid_to h own.me asset + least_over (varying cs) value [])
      (fun_ext (λ taken. worth_same (held_seen w asset) (balances h asset) cs asset taken own.me own.parts no_reach held_same)))
    where
      cs : List Counting
      cs = counting_then real h ks

pub share_told : (r : Result ℕ NoMemory) (h : List Entry) (own : Plan) (ks : List Known) (asset : ℕ) (w : WorldView) → are_joined own ks ≡ true → w ≡ plan_seen h own asset
    → IfOk r (λ n. n ≡ share_seen w own ks asset) → IfOk r (λ n. n ≡ share_by h own ks asset)
share_told (Ok n) h own ks asset w all is told = told ∙ ap (λ (v : WorldView). share_seen v own ks asset) is ∙ share_same h own asset ks all
share_told (Err e) h own ks asset w all is told = tt

-- a list that is longer by one amount
pub shares_more : (f : ℕ → ℕ) (assets : List ℕ) (i : ℕ) (before more : List (ℕ × ℕ)) (amount : ℕ) → i < length assets → amount ≡ f (get_or assets i 0)
    → before ≡ map (λ asset. (asset, f asset)) (take i assets) → more ≡ before ++ (get_or assets i 0, amount) ∷ [] → more ≡ map (λ asset. (asset, f asset)) (take (i + 1) assets)
shares_more f assets i before more amount inside is so adds =
    adds ∙ ap (λ (xs : List (ℕ × ℕ)). xs ++ (get_or assets i 0, amount) ∷ []) so
    ∙ ap (λ (n : ℕ). map (λ asset. (asset, f asset)) (take i assets) ++ (get_or assets i 0, n) ∷ []) is
    ∙ sym (map-append (λ (asset : ℕ). (asset, f asset)) (take i assets) (get_or assets i 0 ∷ []))
    ∙ ap (map (λ (asset : ℕ). (asset, f asset))) (sym (take_more assets i 0 inside))

-- an ending's shares, by the known states that count
pub shares_wanted : (h : List Entry) (e : Ending) (ks : List Known) (assets : List ℕ) (wanted : List (ℕ × ℕ)) (result : Bool) → ks ≡ firsts (joined e.plan.parts) e.known
    → wanted ≡ map (λ asset. (asset, share_by h e.plan ks asset)) assets → IsTrue result ↔ (e.shares ≡ wanted) → IsTrue result ↔ HasSharesBy h assets e
shares_wanted h e ks assets wanted result are is same = (λ yes-so. same.0 yes-so ∙ all, λ holds. same.1 (holds ∙ sym all))
  where
    all : wanted ≡ shares_then real h e.plan e.known assets
    all = is ∙ ap (λ (those : List Known). map (λ asset. (asset, share_by h e.plan those asset)) assets) are
