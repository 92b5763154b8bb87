-- A plans fairly, leaves fairly, and what it can get at each of four places.
use Rattle.std.proofs.Common.{◌≡◌, ℕ, ◌-◌, ◌≤◌, Bool, true, false, cond, List, [], ◌∷◌, ◌++◌, inl, inr, length, drop, refl, sym, ◌∙◌, ap, subst, arith}
use Rattle.std.specs.Prelude.{◌==◌, Option, None}
use Rattle.std.specs.Str.{bytes_eq}
use Rattle.std.proofs.lemmas.List.{append_assoc, append_cancel_right}
use Rattle.channel_values.specs.Outcomes.{AreApart}
use Rattle.channel_values.specs.declared.value.AssetOutcome.{AssetOutcome}
use Rattle.channel_values.specs.Reading.{many_at, count_at, asset_at, shape_at, allocation_at, item_at, dest_at, outcome_at, turn_at, flag_at, sized_at, state_at, signed_at, all_of}
use Rattle.channel_values.specs.Spelling.{fixed, outcome, state, signed}
use Rattle.support_rules.specs.Rules.{app_fault}
use Rattle.channel_values.specs.Messages.{message_of_state}
use Rattle.channel_values.specs.Rows.{last_turn}
use Rattle.channel_values.specs.Support.{supports}
use Rattle.call_history.specs.Reading.{message_at}
use Rattle.call_history.specs.Spelling.{message}
use Rattle.channel_values.specs.declared.value.Dest.TheVariants.{Person}
use Rattle.channel_values.specs.declared.value.Shape.{Shape}
use Rattle.channel_values.specs.Amounts.{aff}
use Rattle.funding_plans.specs.Shapes.{items_of, list_of}
use Rattle.call_history.specs.Mode.{is_final}
use Rattle.call_history.specs.Dues.{shape_in}
use Rattle.call_history.specs.History.{mode}
use Rattle.call_history.specs.declared.entry.Entry.{Entry}
use Rattle.channel_safety.proofs.Tests.{clash, cond-false, eqb-false}
use Rattle.channel_safety.specs.Journals.{In, Line, is_watched}
use Rattle.share_laws.specs.Kept.{is_signing, last_order, is_paying, SignsFairly}
use Rattle.share_laws.specs.Places.{Order, paying, plan, channels, possible, IsPlace}
use Rattle.share_laws.specs.Signed.{PlansFairly}
use Rattle.share_laws.specs.Plans.{IsPlan}
use Rattle.funding_plans.specs.declared.plan.Part.TheVariants.{Root}
use Rattle.call_history.specs.declared.event.Deed.{Deed}
use Rattle.call_history.specs.declared.event.Deed.TheVariants as deeds
use Rattle.share_laws.specs.Fairly.{NoLess, Wants, first, repeats, Pays}
use Rattle.share_laws.proofs.Signers.{signers_are_fair}
use Rattle.channel_exits.specs.Fair.{LeavesFairly}
use Rattle.further_laws.proofs.Computing.{rules}
use Rattle.further_laws.proofs.Digests.{a, b, pair, name, pays, at_turn}
use Rattle.further_laws.proofs.Story.{signature, deposits, history, signs, journal, orders}
use Rattle.further_laws.proofs.Honesty.{end-is, after_0, after_2, after_5, after_7}

-- ---- what A signs

-- at a place where it was told to pay nothing
signs-well : (past : List Entry) (turn : ℕ) (front : List Line) → In pair (channels front) → AreApart (λ g h. bytes_eq (rules.named g) (rules.named h)) (channels front) → IsPlan (plan orders front)
    → is_final (mode rules name past) ≡ false → is_paying (last_order orders front) ≡ false
    → (possible rules past (signs (length past) turn ∷ front) pair ≡ [] → possible rules past front pair ≡ [])
    → Wants rules a orders past front pair (at_turn turn)
    → SignsFairly rules a orders past (signs (length past) turn) front
unfolding fixed
signs-well past turn front there apart whole going told counts wants =
    signers_are_fair rules a orders past front pair (at_turn turn) (signature turn) (signs (length past) turn) refl refl
    (record {
      own = record { there = there; apart = apart };
      plan_whole = whole;
      going = going;
      counts = counts;
      wants = λ no. wants;
      pays = λ asset amount e. absurd (clash (is_paying (last_order orders front)) (ap is_paying e) told);
    })

no_more : (o : List AssetOutcome) → (o ∷ []) ≡ [] → ⊥
no_more o e = cc

whole-plan : IsPlan (Root name ∷ [])
whole-plan = record { apart = (refl, tt); on_ledgers = (tt, tt) }

fair_0 : SignsFairly rules a orders [] (signs 0 0) after_0
unfolding supports last_turn message_of_state fixed outcome app_fault message signed state message_at signed_at state_at turn_at flag_at outcome_at asset_at shape_at allocation_at item_at dest_at count_at many_at sized_at all_of
fair_0 = signs-well [] 0 after_0 (inl refl) (refl, tt) whole-plan refl refl (λ e. refl) (first refl)

fair_2 : SignsFairly rules a orders deposits (signs 2 2) after_2
unfolding supports last_turn message_of_state fixed outcome app_fault message signed state message_at signed_at state_at turn_at flag_at outcome_at asset_at shape_at allocation_at item_at dest_at count_at many_at sized_at all_of
fair_2 = signs-well deposits 2 after_2 (inl refl) (refl, tt) whole-plan refl refl (λ e. absurd (no_more (pays 5 3) e)) (repeats (pays 5 3) refl (inl refl) (inl refl))

-- B's payment is no less
improved : NoLess a (pays 3 5) (pays 4 4)
improved = record { affords = λ asset n. more (0 == asset) n; lists = λ asset. none (0 == asset) }
  where
    ends : Bool → List AssetOutcome → Option Shape
    ends t o = cond t (shape_in o 0) None

    more : (t : Bool) (n : ℕ) → aff (items_of (ends t (pays 3 5))) n (Person a) ≤ aff (items_of (ends t (pays 4 4))) n (Person a)
    more true n = omega arith
    more false n = omega arith

    none : (t : Bool) → list_of (ends t (pays 4 4)) ≡ list_of (ends t (pays 3 5))
    none true = refl
    none false = refl

fair_6 : SignsFairly rules a orders deposits (signs 2 6) after_7
unfolding supports last_turn message_of_state fixed outcome app_fault message signed state message_at signed_at state_at turn_at flag_at outcome_at asset_at shape_at allocation_at item_at dest_at count_at many_at sized_at all_of
fair_6 = signs-well deposits 6 after_7 (inl refl) (refl, tt) whole-plan refl refl (λ e. absurd (no_more (pays 4 4) e)) (repeats (pays 3 5) refl (inl refl) (inr (refl, improved)))

-- the payment
abbrev PaysWell : Order → Type 0
PaysWell (paying n k) = Pays rules a orders deposits after_5 pair (at_turn 4) n k
PaysWell _ = Unit {0}

pays-well : (asset amount : ℕ) → paying 0 2 ≡ paying asset amount → Pays rules a orders deposits after_5 pair (at_turn 4) asset amount
unfolding supports last_turn message_of_state fixed outcome app_fault message signed state message_at signed_at state_at turn_at flag_at outcome_at asset_at shape_at allocation_at item_at dest_at count_at many_at sized_at all_of
pays-well asset amount e = subst PaysWell e two
  where
    two : Pays rules a orders deposits after_5 pair (at_turn 4) 0 2
    two = record {
      no_base = refl;
      alone = refl;
      from = pays 5 3;
      could = inl refl;
      latest = pays 5 3;
      improved = record { affords = λ n k. omega arith; lists = λ n. refl };
      payee = b;
      apart = refl;
      items = refl;
      list = refl;
      others = λ n ne. let no : (0 == n) ≡ false = eqb-false 0 n (λ z. absurd (ne (sym z))) in cond-false (0 == n) _ _ no ∙ sym (cond-false (0 == n) _ _ no);
    }

fair_4 : SignsFairly rules a orders deposits (signs 2 4) after_5
unfolding supports last_turn message_of_state fixed outcome app_fault message signed state message_at signed_at state_at turn_at flag_at outcome_at asset_at shape_at allocation_at item_at dest_at count_at many_at sized_at all_of
fair_4 =
    signers_are_fair rules a orders deposits after_5 pair (at_turn 4) (signature 4) (signs 2 4) refl refl
    (record {
      own = record { there = inl refl; apart = (refl, tt) };
      plan_whole = whole-plan;
      going = refl;
      counts = λ e. absurd (no_more (pays 3 5) e);
      wants = λ no. absurd cc;
      pays = pays-well;
    })

-- ---- at each front of the journal

abbrev AtEach : (List Line → Type 0) → List Line → Type 0
AtEach P [] = P []
AtEach P (x ∷ front) = P (x ∷ front) × AtEach P front

at-front : (P : List Line → Type 0) (xs newer front : List Line) → AtEach P xs → xs ≡ newer ++ front → P front
at-front P [] [] front ps e = subst P e ps
at-front P [] (y ∷ newer) front ps e = absurd cc
at-front P (x ∷ xs) [] front ps e = subst P e ps.0
at-front P (x ∷ xs) (y ∷ newer) front ps e = at-front P xs newer front ps.1 (tails e)
  where
    tails : (x ∷ xs) ≡ (y ∷ (newer ++ front)) → xs ≡ newer ++ front
    tails q = cc

in-last : (x : Line) (xs : List Line) → In x (xs ++ x ∷ [])
in-last x [] = inl refl
in-last x (y ∷ ys) = inr (in-last x ys)

-- a line that is signed at a place had seen the entries before it
seen-there : (past : List Entry) (front : List Line) (x : Line) → IsPlace history journal past front → IsPlace history journal past (x ∷ front) → is_watched x.deed ≡ false → x.seen ≡ length past
seen-there past front x p q unwatched =
    let e : p.newer ≡ q.newer ++ x ∷ [] = append_cancel_right p.newer (q.newer ++ x ∷ []) front (sym p.lines ∙ q.lines ∙ sym (append_assoc q.newer (x ∷ []) front)) in
    let le : x.seen ≤ length past = q.before x (inl refl) unwatched in
    let ge : length past ≤ x.seen = p.after x (subst (λ (ys : List Line). In x ys) (sym e) (in-last x q.newer)) unwatched in
    omega (arith, le, ge)

abbrev Fair : List Line → Type 0
Fair [] = Unit {0}
Fair (x ∷ front) = is_signing x.deed ≡ true → SignsFairly rules a orders (drop (8 - x.seen) history) x front

all-fair : AtEach Fair journal
all-fair = (λ s. absurd cc, (λ s. absurd cc, (λ s. absurd cc, (λ s. fair_6, (λ s. absurd cc, (λ s. fair_4, (λ s. absurd cc, (λ s. absurd cc, (λ s. fair_2, (λ s. absurd cc, (λ s. fair_0, (λ s. absurd cc, tt))))))))))))

signs-fairly : (past : List Entry) (x : Line) (front : List Line) → IsPlace history journal past front → IsPlace history journal past (x ∷ front) → is_signing x.deed ≡ true → SignsFairly rules a orders past x front
signs-fairly past x front p q s =
    let seen = seen-there past front x p q (unwatched x.deed s) in
    subst (λ (z : List Entry). SignsFairly rules a orders z x front) (sym (end-is history q.later past x.seen q.entries (sym seen)))
    (at-front Fair journal q.newer (x ∷ front) all-fair q.lines s)
  where
    unwatched : (d : Deed) → is_signing d ≡ true → is_watched d ≡ false
    unwatched (deeds.Signed channel state signature) h = refl
    unwatched _ h = cc

pub plans : PlansFairly rules a orders history journal
plans = record {
  whole = whole-plan;
  channels_differ = (refl, tt);
  rests = λ f i h. absurd cc;
  guarantors = (tt, tt);
  signs = signs-fairly;
}

pub leaves : LeavesFairly rules a orders history journal
leaves = record {
  plans = plans;
  assets = (tt, tt);
}
