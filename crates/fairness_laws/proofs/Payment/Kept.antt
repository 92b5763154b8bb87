-- What is kept under a name at a place, and what a node signs of it.
use Rattle.std.proofs.Common.{◌≡◌, Bool, true, false, cond, List, [], ◌∷◌, inl, inr, refl, sym, ◌∙◌, ap, subst}
use Rattle.std.specs.Prelude.{ℕ, Option, Some, None}
use Rattle.std.specs.Str.{bytes_eq}
use Rattle.channel_values.specs.Parts.{FixedParts, StateParts}
use Rattle.call_history.proofs.Names.{same_bytes}
use Rattle.call_history.specs.declared.entry.Entry.{Entry}
use Rattle.channel_store.specs.Storing.{is_of, kept_of}
use Rattle.channel_store.specs.declared.kept.Kept.{Kept}
use Rattle.channel_safety.proofs.Lists.{In-get}
use Rattle.channel_safety.proofs.Tests.{some-eq, none-eq}
use Rattle.channel_safety.specs.Journals.{In, Line}
use Rattle.network.specs.declared.command.Command.{Command}
use Rattle.channel_node.specs.Minds.{Mind, facts_of}
use Rattle.channel_node.specs.Refusing.{wish, can_sign, if_signable, signs_of, signs_in}
use Rattle.stage_tables.specs.Stages.{stages}
use Rattle.share_laws.specs.Places.{channels}
use Rattle.channel_store.proofs.Places.{found_at_place, found_passes}
use Rattle.support_rules.specs.Real.{real}
use Rattle.node_guarantees.specs.ViewLaws.{IsKeptAt, AreKeptAt}

-- ---- what is kept under a name

pub record KeptAs (past : List Entry) (front : List Line) (c : List ℕ) (k : Kept) : Type 0 where
  pub fixed : FixedParts
  pub there : In fixed (channels front)
  pub at : IsKeptAt real past front fixed k
  pub named : real.named fixed ≡ c

kept-among : (past : List Entry) (front : List Line) (fs : List FixedParts) (ks : List Kept) (k : Kept) → AreKeptAt real past front fs ks → In k ks → (f : FixedParts) × In f fs × IsKeptAt real past front f k
kept-among past front fs [] k at i = absurd i
kept-among past front [] (x ∷ ks) k at i = absurd at
kept-among past front (f ∷ fs) (x ∷ ks) k at (inl e) = (f, inl refl, subst (IsKeptAt real past front f) (sym e) at.0)
kept-among past front (f ∷ fs) (x ∷ ks) k at (inr i) = let r = kept-among past front fs ks k at.1 i in (r.0, inr r.1, r.2)

pub kept-as : (past : List Entry) (front : List Line) (c : List ℕ) (ks : List Kept) (k : Kept) → AreKeptAt real past front (channels front) ks → kept_of c ks ≡ Some k → KeptAs past front c k
kept-as past front c ks k at found =
    let r = kept-among past front (channels front) ks k at (In-get ks _ k found) in
    let name : bytes_eq k.channel c ≡ true = found_passes (is_of c) ks k (sym (found_at_place (is_of c) ks) ∙ found) in
    record { fixed = r.0; there = r.1; at = r.2; named = sym r.2.name ∙ same_bytes k.channel c name }

-- ---- what is signed

-- the state that a node signs is wished, and its guard lets it through
pub record SignsOf (waiting : Option Command) (m : Mind) (c : List ℕ) (state : StateParts) : Type 0 where
  pub k : Kept
  pub found : kept_of c m.kept ≡ Some k
  pub wished : wish stages waiting m c k ≡ Some state
  pub can : can_sign real (facts_of m) c k state ≡ true

pub signs-of : (waiting : Option Command) (m : Mind) (c : List ℕ) (state : StateParts) → signs_in stages real waiting m c ≡ Some state → SignsOf waiting m c state
signs-of waiting m c state e = at (kept_of c m.kept) refl e
  where
    at : (o : Option Kept) → kept_of c m.kept ≡ o → signs_of stages real waiting m c o ≡ Some state → SignsOf waiting m c state
    at None is e = absurd (none-eq state e)
    at (Some k) is e = wished (wish stages waiting m c k) refl e
      where
        wished : (w : Option StateParts) → wish stages waiting m c k ≡ w → if_signable real (facts_of m) c k w ≡ Some state → SignsOf waiting m c state
        wished None w e = absurd (none-eq state e)
        wished (Some t) w e = test (can_sign real (facts_of m) c k t) refl e
          where
            test : (b : Bool) → can_sign real (facts_of m) c k t ≡ b → cond b (Some t) None ≡ Some state → SignsOf waiting m c state
            test false z e = absurd (none-eq state e)
            test true z e =
                let same : t ≡ state = some-eq t state e in
                record {
                  k = k;
                  found = is;
                  wished = w ∙ ap (λ (x : StateParts). Some x) same;
                  can = subst (λ (x : StateParts). can_sign real (facts_of m) c k x ≡ true) same z;
                }
