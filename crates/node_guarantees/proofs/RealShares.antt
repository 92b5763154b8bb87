-- The network's steps keep what is possible, by what they keep for each participant.
use Rattle.std.proofs.Common.{◌≡◌, ℕ, zero, suc, ◌<◌, ◌≤◌, Bool, true, false, cond, ◌&&◌, List, [], ◌∷◌, inl, inr, map, refl, sym, ◌∙◌, ap, subst, arith}
use Rattle.std.specs.Prelude.{◌==◌, nat_le, nat_lt, slice_index_or, is_ok, Some, None, Result, Ok, Err}
use Rattle.std.specs.List.{slice_get}
use Rattle.std.specs.Result.{result_ok}
use Rattle.channel_values.specs.Parts.{FixedParts, StateParts}
use Rattle.channel_values.specs.Reading.{outcome_of}
use Rattle.channel_values.specs.declared.fault.ByteFault.{ByteFault}
use Rattle.channel_values.specs.declared.value.AssetOutcome.{AssetOutcome}
use Rattle.channel_values.specs.declared.value.Dest.{Dest}
use Rattle.channel_values.specs.declared.value.Dest.TheVariants.{Person}
use Rattle.channel_values.specs.declared.value.Shape.{Shape}
use Rattle.channel_values.specs.declared.value.Shape.TheVariants.{Allocation, Guarantee}
use Rattle.channel_values.specs.Digests.{name_of_person}
use Rattle.channel_values.specs.Amounts.{aff}
use Rattle.channel_values.specs.Rows.{last_of}
use Rattle.channel_values.specs.Rules.{people}
use Rattle.call_history.specs.Dues.{shape_in}
use Rattle.support_rules.specs.Ballots.{ballot_of}
use Rattle.support_rules.specs.Rules.{person_at}
use Rattle.support_rules.specs.Steps.{persons}
use Rattle.support_rules.specs.Real.{real}
use Rattle.support_rules.specs.NoWorse.{ShapeNoWorse, NoWorse}
use Rattle.support_rules.specs.May as mays
use Rattle.support_rules.specs.May.{OneOf, Ends, may}
use Rattle.support_rules.proofs.Kept.{steps_keep}
use Rattle.support_rules.proofs.Finals.{real_keeps_final}
use Rattle.funding_plans.specs.Shapes.{items_of, list_of, items_in, list_in}
use Rattle.share_laws.specs.Places.{proposed, listed, outcomes_of}
use Rattle.share_laws.specs.Finality.{StandsFor}
use Rattle.share_laws.proofs.FairPlaces.{fair_kept}
use Rattle.channel_safety.proofs.Lists.{get-within}
use Rattle.channel_safety.proofs.Tests.{lt-true, true-le, and-left, and-right}
use Rattle.call_history.specs.declared.entry.Entry.{Entry}
use Rattle.channel_safety.specs.Journals.{Line}
use Rattle.channel_safety.specs.Occurring.{AreValid}
use Rattle.channel_safety.specs.Hashing.{Hashes}
use Rattle.channel_safety.proofs.Telling.{tells}
use Rattle.node_guarantees.specs.Shares.{NetworkStepsKeepPossible, NetworkSharesAreKept}

-- ---- an outcome that is no worse affords as much in each asset

shape_affords : (d : Dest) (reach : ℕ) (s t : Shape) → ShapeNoWorse d s t → aff (items_of (Some s)) reach d ≤ aff (items_of (Some t)) reach d
shape_affords d reach (Allocation xs) (Allocation ys) w = w.affords reach
shape_affords d reach (Allocation xs) (Guarantee u es) w = absurd w
shape_affords d reach (Guarantee t ds) (Allocation ys) w = absurd w
shape_affords d reach (Guarantee t ds) (Guarantee u es) w = omega arith

shape_list : (d : Dest) (s t : Shape) → ShapeNoWorse d s t → list_of (Some t) ≡ list_of (Some s)
shape_list d (Allocation xs) (Allocation ys) w = refl
shape_list d (Allocation xs) (Guarantee u es) w = absurd w
shape_list d (Guarantee t ds) (Allocation ys) w = absurd w
shape_list d (Guarantee t ds) (Guarantee u es) w = w.1

affords_all : (d : Dest) (os ps : List AssetOutcome) → NoWorse d os ps → (asset reach : ℕ) → aff (items_in asset os) reach d ≤ aff (items_in asset ps) reach d
affords_all d [] [] w asset reach = omega arith
affords_all d [] (p ∷ ps) w asset reach = absurd w
affords_all d (o ∷ os) [] w asset reach = absurd w
affords_all d (o ∷ os) (p ∷ ps) w asset reach =
    subst (λ (m : ℕ). aff (items_of (cond (o.asset == asset) (Some o.shape) (shape_in os asset))) reach d ≤ aff (items_of (cond (m == asset) (Some p.shape) (shape_in ps asset))) reach d) (sym w.0)
    (go (o.asset == asset) (affords_all d os ps w.2 asset reach))
  where
    go : (b : Bool) → aff (items_in asset os) reach d ≤ aff (items_in asset ps) reach d →
        aff (items_of (cond b (Some o.shape) (shape_in os asset))) reach d ≤ aff (items_of (cond b (Some p.shape) (shape_in ps asset))) reach d
    go true rec = shape_affords d reach o.shape p.shape w.1
    go false rec = rec

list_all : (d : Dest) (os ps : List AssetOutcome) → NoWorse d os ps → (asset : ℕ) → list_in asset ps ≡ list_in asset os
list_all d [] [] w asset = refl
list_all d [] (p ∷ ps) w asset = absurd w
list_all d (o ∷ os) [] w asset = absurd w
list_all d (o ∷ os) (p ∷ ps) w asset =
    subst (λ (m : ℕ). list_of (cond (m == asset) (Some p.shape) (shape_in ps asset)) ≡ list_of (cond (o.asset == asset) (Some o.shape) (shape_in os asset))) (sym w.0)
    (go (o.asset == asset) (list_all d os ps w.2 asset))
  where
    go : (b : Bool) → list_in asset ps ≡ list_in asset os → list_of (cond b (Some p.shape) (shape_in ps asset)) ≡ list_of (cond b (Some o.shape) (shape_in os asset))
    go true rec = shape_list d o.shape p.shape w.1
    go false rec = rec

-- ---- the participant's own person

named-at : (keys : List (List ℕ)) (j : ℕ) (key : List ℕ) → slice_get keys j ≡ Some key → slice_index_or (map name_of_person keys) j [] ≡ name_of_person key
named-at [] j key e = cc
named-at (k ∷ ks) zero key e = ap name_of_person (let same : k ≡ key = cc in same)
named-at (k ∷ ks) (suc j) key e = named-at ks j key e

-- ---- what was possible by the rules is possible by the data alone

read-listed : (P : List AssetOutcome → Type 0) (x : Result (List AssetOutcome) ByteFault) → OneOf P (mays.read_or_none x) → OneOf P (listed (result_ok x))
read-listed P (Ok o) h = h
read-listed P (Err fault) h = absurd h

proposed-listed : (P : List AssetOutcome → Type 0) (n : ℕ) (data' : List ℕ) → n ≤ 4 → OneOf P (mays.proposed (ballot_of n data')) → OneOf P (listed (proposed data'))
proposed-listed P n [] four h = absurd h
proposed-listed P n (k ∷ bytes) four h = go ((nat_le 1 k && nat_lt k n) && is_ok (outcome_of bytes)) refl h
  where
    go : (b : Bool) → ((nat_le 1 k && nat_lt k n) && is_ok (outcome_of bytes)) ≡ b → OneOf P (mays.proposed (cond b (Some (record { votes = k; proposal = bytes })) None)) → OneOf P (listed (proposed (k ∷ bytes)))
    go false e h = absurd h
    go true e h =
        let range : (nat_le 1 k && nat_lt k n) ≡ true = and-left (nat_le 1 k && nat_lt k n) (is_ok (outcome_of bytes)) e in
        let one : nat_le 1 k ≡ true = and-left (nat_le 1 k) (nat_lt k n) range in
        let low : k < n = lt-true k n (and-right (nat_le 1 k) (nat_lt k n) range) in
        let three : nat_le k 3 ≡ true = true-le k 3 (omega arith) in
        let both : (nat_le 1 k && nat_le k 3) ≡ true = ap (λ (b : Bool). b && nat_le k 3) one ∙ three in
        subst (λ (b : Bool). OneOf P (listed (cond b (result_ok (outcome_of bytes)) None))) (sym both) (read-listed P (outcome_of bytes) (votes (k == 0) h))
      where
        votes : (b : Bool) → OneOf P (cond b [] (mays.read_or_none (outcome_of bytes))) → OneOf P (mays.read_or_none (outcome_of bytes))
        votes true h = absurd h
        votes false h = h

within : (P : List AssetOutcome → Type 0) (f : FixedParts) (s : StateParts) → people f ≤ 4 → OneOf P (may f s) → OneOf P (outcomes_of s)
within P f s four (inl h) = inl h
within P f s four (inr h) = inr (go (f.app == 0) h)
  where
    go : (b : Bool) → OneOf P (cond b (mays.proposed (ballot_of (people f) s.app_bytes)) []) → OneOf P (listed (proposed s.app_bytes))
    go true h = proposed-listed P (people f) s.app_bytes four h
    go false h = absurd h

map-one : (P Q : List AssetOutcome → Type 0) (os : List (List AssetOutcome)) → ((o : List AssetOutcome) → P o → Q o) → OneOf P os → OneOf Q os
map-one P Q [] f h = absurd h
map-one P Q (o ∷ os) f (inl h) = inl (f o h)
map-one P Q (o ∷ os) f (inr h) = inr (map-one P Q os f h)

pub steps_possible : NetworkStepsKeepPossible
steps_possible key f fits j mine s valid ts states steps few others =
    within (λ o. StandsFor f (name_of_person key) o (last_of s ts).outcome) f s fits.at_most_four
    (map-one (λ o. Ends f j o (last_of s ts).outcome) (λ o. StandsFor f (name_of_person key) o (last_of s ts).outcome) (may f s) stands
    (steps_keep f fits j (get-within f.keys j key mine) s valid ts states steps few others))
  where
    me : person_at (persons f) j ≡ Person (name_of_person key)
    me = ap (λ (n : List ℕ). Person n) (named-at f.keys j key mine)

    stands : (o : List AssetOutcome) → Ends f j o (last_of s ts).outcome → StandsFor f (name_of_person key) o (last_of s ts).outcome
    stands o e =
        let w : NoWorse (Person (name_of_person key)) o (last_of s ts).outcome = subst (λ (d : Dest). NoWorse d o (last_of s ts).outcome) me e.no_worse in
        record {
          affords = λ asset reach. affords_all (Person (name_of_person key)) o (last_of s ts).outcome w asset reach;
          list = λ asset. list_all (Person (name_of_person key)) o (last_of s ts).outcome w asset;
          same = e.same;
        }

pub hashes : Hashes real
hashes = record { named = λ f. refl; digest = λ channel s. refl; outcome_digest = λ o. refl }

pub shares_kept : (h : List Entry) (journal : List Line) → AreValid h journal → NetworkSharesAreKept h journal
shares_kept h journal valid key orders legal honest unforged none in_time plans =
    fair_kept real key (name_of_person key) orders h journal real_keeps_final (steps_possible key) legal honest unforged
    (tells real h journal hashes valid none) valid in_time plans
