-- What is kept at a place is what is held there, which sets up as it opened.
use Rattle.std.proofs.Common.{◌≡◌, ℕ, ◌+◌, ◌*◌, ◌<◌, ◌≤◌, true, false, List, [], ◌∷◌, ◌++◌, inr, length, refl, sym, ◌∙◌, ap, subst, arith}
use Rattle.std.specs.Prelude.{Option, Some, None}
use Rattle.channel_values.specs.Parts.{FixedParts, StateParts}
use Rattle.channel_values.specs.Rows.{last_of}
use Rattle.channel_values.specs.Rules.{people, newest}
use Rattle.call_history.specs.History.{Legal}
use Rattle.call_history.specs.Marked.{Marked, marked_of}
use Rattle.call_history.specs.declared.entry.Entry.{Entry}
use Rattle.channel_safety.specs.Held.{held}
use Rattle.channel_safety.specs.Good.{IsGood, IsGoodIfAny}
use Rattle.channel_safety.specs.Journals.{In}
use Rattle.channel_safety.specs.Premises.{Unforged}
use Rattle.channel_safety.specs.Occurring.{NoCollision, AreValid}
use Rattle.support_rules.specs.Real.{real}
use Rattle.channel_store.specs.Keeping.{next_of}
use Rattle.channel_store.specs.declared.kept.Kept.{Kept}
use Rattle.funding_plans.specs.declared.plan.Goal.{Goal}
use Rattle.channel_node.specs.Places.{Told, lines_of, mind_at}
use Rattle.channel_node.specs.Playing.{Signing, SignsWell, Plays}
use Rattle.fairness_laws.specs.Table.{stages}
use Rattle.channel_safety.proofs.Tests.{some-eq, none-eq}
use Rattle.channel_safety.proofs.Chains.{newest-in}
use Rattle.channel_safety.proofs.Lists.{get-within}
use Rattle.channel_safety.proofs.Opening.{held-good}
use Rattle.channel_safety.proofs.Rowing.{legal-suffix}
use Rattle.channel_node.proofs.Agreeing.{IsOwn, Agree}
use Rattle.channel_node.proofs.Bridging.{lines-append}
use Rattle.channel_node.proofs.Once.{played_journals_are_honest}
use Rattle.channel_node.proofs.Standing.{known}
use Rattle.fairness_laws.specs.Roots.{SetsUp}
use Rattle.fairness_laws.specs.Carried.{IsRepeatedIfAny}
use Rattle.fairness_laws.specs.Places.{RootPlace, RootsSignAtPlaces}
use Rattle.fairness_laws.proofs.Apart.{kept-apart}
use Rattle.fairness_laws.proofs.Carried.{set_ups_are_carried}
use Rattle.fairness_laws.proofs.Closing.{fixed-is, rest-plays, close_late}
use Rattle.fairness_laws.proofs.RootOpening.{root-opens}
use Rattle.fairness_laws.proofs.RootWishes.{roots_sign}

newest-there : (states : List StateParts) (t : StateParts) → newest states ≡ Some t → In t states
newest-there [] t e = absurd (none-eq t e)
newest-there (s ∷ rest) t e = subst (λ (x : StateParts). In x (s ∷ rest)) (some-eq (last_of s rest) t e) (newest-in s rest)

-- of a chain that is good, and whose latest state repeats the opening outcome while the set-up lasts
sets-up-by : (f : FixedParts) (g : Goal) (k : Kept) (w : Marked) → k.chain.fixed ≡ f → marked_of k.chain ≡ w → IsGood real f w → IsRepeatedIfAny f g.opening (Some w)
    → (g.closing ≡ true → g.over ≡ false → 2 * people k.chain.fixed ≤ next_of k) → SetsUp g k
sets-up-by f g k w fixed-is same good repeated closes = record {
  good = subst (λ (x : FixedParts). IsGood real x (marked_of k.chain)) (sym fixed-is) (subst (IsGood real f) (sym same) good);
  repeats = λ t is up. record {
    state = t;
    there = newest-there k.chain.states t is;
    repeated = repeated t (ap (λ (x : Marked). newest x.states) (sym same) ∙ is) (less t.turn (2 * people f) (subst (λ (x : FixedParts). t.turn + 1 < 2 * people x) fixed-is up));
  };
  closes = closes;
}
  where
    less : (a b : ℕ) → a + 1 < b → a < b
    less a b h = omega arith

sets-up : (s : Signing) (h : List Entry) (journal : List Told) → SignsWell real s → Legal real h → Plays stages real s h journal → Unforged real s.key h (lines_of s.key journal)
    → NoCollision real h (lines_of s.key journal) → AreValid h (lines_of s.key journal) → (f : FixedParts) (g : Goal) (k : Kept) → RootPlace s h journal f g k → SetsUp g k
sets-up s h journal signs legal plays unforged distinct valid f g k p =
    by (held real f p.past (lines_of s.key p.front)) refl
    (subst (λ (o : Option Kept). Agree real s.key f (lines_of s.key p.front) o (held real f p.past (lines_of s.key p.front))) p.keeps
    (known real s.key f p.past p.front (legal-suffix real p.later p.past (subst (Legal real) p.entries legal)) p.few).agree)
  where
    whole : lines_of s.key journal ≡ lines_of s.key p.newer ++ lines_of s.key p.front
    whole = ap (lines_of s.key) p.events ∙ lines-append s.key p.newer p.front

    one : 1 ≤ people f
    one = let small : p.opened.me < people f = get-within f.keys p.opened.me s.key p.opened.mine in omega arith

    same : IsOwn real s.key (real.named f) (lines_of s.key p.front) k → k.chain.fixed ≡ f
    same = fixed-is s h journal distinct f (inr (p.opened.line, p.opened.there, p.opened.opens)) p.newer p.front p.events k

    by : (o : Option Marked) → held real f p.past (lines_of s.key p.front) ≡ o → Agree real s.key f (lines_of s.key p.front) (Some k) o → SetsUp g k
    by None is a = absurd a
    by (Some w) is a =
        sets-up-by f g k w (same a.0) (a.1 (same a.0)) (subst (IsGoodIfAny real f) is (held-good real f one p.past (lines_of s.key p.front)))
        (subst (IsRepeatedIfAny f g.opening) is
        (set_ups_are_carried s.key h (lines_of s.key journal) legal (played_journals_are_honest stages real s h journal signs legal plays) unforged distinct valid f g.opening
        (length p.past) p.opened (root-opens s h journal legal plays f g k p) p.later p.past (lines_of s.key p.newer) (lines_of s.key p.front) p.entries whole)) (close_late s h journal legal plays distinct f g k p)

pub at_places : RootsSignAtPlaces
at_places s h journal signs legal plays unforged distinct valid f g k state p wanted =
    roots_sign (mind_at real s.key p.past p.front) (real.named f) g k state
    (kept-apart stages real s h p.front (rest-plays s h p.newer p.front (subst (Plays stages real s h) p.events plays)) p.later p.past p.entries p.before) p.asked p.goal p.keeps
    (sets-up s h journal signs legal plays unforged distinct valid f g k p) wanted
