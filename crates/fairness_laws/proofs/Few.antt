-- At most two channels of a node can end with two outcomes.
use Rattle.std.proofs.Common.{◌≡◌, ℕ, ◌≤◌, Bool, true, false, ◌⊎◌, inl, inr, List, [], ◌∷◌, length, refl, ◌∙◌, ap, subst, arith}
use Rattle.std.specs.Prelude.{Some, map, count_by}
use Rattle.channel_safety.proofs.Tests.{clash}
use Rattle.call_history.specs.declared.entry.Entry.{Entry}
use Rattle.call_history.specs.declared.held_chain.Known.{Known}
use Rattle.fairness_laws.proofs.Firsts.{known-apart, kept-apart}
use Rattle.fairness_laws.proofs.Lists.{count-within}
use Rattle.fairness_laws.proofs.Sites.{joints_of, keep, AtLedger, AtJoint, Site, pends, stands, site}
use Rattle.fairness_laws.proofs.Votes.{no-single}
use Rattle.fairness_laws.proofs.Plans.{whole-place}
use Rattle.fairness_laws.specs.LedgerPlaces.{lends_at}
use Rattle.fairness_laws.specs.PlanSettings.{IsFair}
use Rattle.funding_plans.specs.Parts.{ledgers_of}
use Rattle.funding_plans.specs.declared.plan.Part.{Part}
use Rattle.funding_plans.specs.declared.plan.Part.TheVariants.{Root, OnLedger, End, Middle}
use Rattle.run_record.specs.Plans.{has_two}
use Rattle.channel_safety.specs.Journals.{In}
use Rattle.channel_node.specs.Minds.{Mind, facts_of}
use Rattle.channel_node.specs.Places.{Told, mind_at}
use Rattle.channel_node.specs.Playing.{Signing}
use Rattle.node_guarantees.proofs.Apart.{Apart}
use Rattle.support_rules.specs.Real.{real}

two-ledgers : (p : Part) → length (ledgers_of p) ≤ 2
two-ledgers (Root channel) = omega arith
two-ledgers (OnLedger ledger channel) = omega arith
two-ledgers (End v) = omega arith
two-ledgers (Middle v) = omega arith

one-joint : (p : Part) → length (joints_of p) ≤ 2
one-joint (Root channel) = omega arith
one-joint (OnLedger ledger channel) = omega arith
one-joint (End v) = omega arith
one-joint (Middle v) = omega arith

-- the first that passes, if one does
record Passing (test : Known → Bool) (ks : List Known) : Type 0 where
  item : Known
  there : In item ks
  passes : test item ≡ true

search-for : (test : Known → Bool) (ks : List Known) → Passing test ks ⊎ ((k : Known) → In k ks → test k ≡ false)
search-for test [] = inr (λ k i. absurd i)
search-for test (k ∷ ks) = go (test k) refl (search-for test ks)
  where
    go : (b : Bool) → test k ≡ b → Passing test ks ⊎ ((j : Known) → In j ks → test j ≡ false) → Passing test (k ∷ ks) ⊎ ((j : Known) → In j (k ∷ ks) → test j ≡ false)
    go true t rest = inl (record { item = k; there = inl refl; passes = t })
    go false t (inl p) = inl (record { item = p.item; there = inr p.there; passes = p.passes })
    go false t (inr none) = inr all
      where
        all : (j : Known) → In j (k ∷ ks) → test j ≡ false
        all j (inl e) = ap test e ∙ t
        all j (inr i) = none j i

module _ (s : Signing) (h : List Entry) (journal : List Told) (fair : IsFair s h journal) where
  abbrev m : Mind
  m = mind_at real s.key h journal

  abbrev known : List Known
  known = (facts_of m).known

  abbrev test : Known → Bool
  test = has_two real h

  apart : Apart (map (λ (k : Known). k.channel) known)
  apart = known-apart m.kept (kept-apart s h journal fair h journal (whole-place s h journal fair))

  site-of : (k : Known) → In k known → test k ≡ true → Site s h journal fair k.channel
  site-of k i t = site s h journal fair k i (no-single real h k t)

  within : (names : List (List ℕ)) → length names ≤ 2 → ((k : Known) → In k known → test k ≡ true → In k.channel names) → count_by test known ≤ 2
  within names few those = let low : count_by test known ≤ length names = count-within test known names apart those in omega (arith, low, few)

  -- votes stand on the ledgers of one part
  by-ledgers : (c : List ℕ) → AtLedger s h journal fair c → count_by test known ≤ 2
  by-ledgers c a = within (ledgers_of a.part) (two-ledgers a.part) (λ k i t. those k (site-of k i t))
    where
      those : (k : Known) → Site s h journal fair k.channel → In k.channel (ledgers_of a.part)
      those k (inl b) =
          subst (λ (p : Part). In k.channel (ledgers_of p))
          ((keep s h journal fair).one b.part a.part b.there a.there (pends s h journal fair k.channel b) (pends s h journal fair c a)) (stands s h journal fair k.channel b)
      those k (inr b) =
          absurd (b.quiet c a.lent a.last
          (subst (λ (p : Part). lends_at s h journal c p ≡ Some a.lent) ((keep s h journal fair).one a.part b.part a.there b.there (pends s h journal fair c a) b.pending) a.is) a.voted)

  -- or in its joint channel
  by-joint : (c : List ℕ) → AtJoint s h journal fair c → count_by test known ≤ 2
  by-joint c a = within (joints_of a.part) (one-joint a.part) (λ k i t. those k (site-of k i t))
    where
      those : (k : Known) → Site s h journal fair k.channel → In k.channel (joints_of a.part)
      those k (inl b) =
          absurd (a.quiet k.channel b.lent b.last
          (subst (λ (p : Part). lends_at s h journal k.channel p ≡ Some b.lent) ((keep s h journal fair).one b.part a.part b.there a.there (pends s h journal fair k.channel b) a.pending) b.is) b.voted)
      those k (inr b) =
          subst (λ (p : Part). In k.channel (joints_of p)) ((keep s h journal fair).one b.part a.part b.there a.there b.pending a.pending) b.joint

  pub few-two : count_by test known ≤ 2
  few-two = go (search-for test known)
    where
      by-site : (c : List ℕ) → Site s h journal fair c → count_by test known ≤ 2
      by-site c (inl a) = by-ledgers c a
      by-site c (inr a) = by-joint c a

      go : Passing test known ⊎ ((k : Known) → In k known → test k ≡ false) → count_by test known ≤ 2
      go (inl p) = by-site p.item.channel (site-of p.item p.there p.passes)
      go (inr none) = within [] (omega arith) (λ k i t. absurd (clash (test k) t (none k i)))
