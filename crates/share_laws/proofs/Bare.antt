-- A channel on which no part stands sets nothing aside for one.
use Rattle.std.proofs.Common.{◌≡◌, ℕ, Bool, true, false, ◌||◌, List, [], ◌∷◌, refl, sym, ◌∙◌, ap, subst, inl, inr}
use Rattle.std.proofs.lemmas.Bool.{false≢true}
use Rattle.std.specs.Str.{bytes_eq}
use Rattle.channel_values.specs.declared.value.Item.{Item}
use Rattle.call_history.specs.Flows.{is_among}
use Rattle.call_history.proofs.Names.{bytes_eq_self}
use Rattle.channel_safety.specs.Journals.{In}
use Rattle.funding_plans.specs.declared.plan.Part.{Part}
use Rattle.funding_plans.specs.declared.plan.Part.TheVariants.{Root, OnLedger, End, Middle}
use Rattle.funding_plans.specs.Parts.{own_ledger}
use Rattle.share_laws.specs.Bases.{bases_of, all_bases}
use Rattle.share_laws.proofs.Apart.{among-append, or-none}
use Rattle.share_laws.specs.Plans.{Lends, IsBare}
use Rattle.share_laws.proofs.Counts.{or-left, or-right}

lent-base : (p : Part) (l c : List ℕ) → Lends p l c → is_among l (bases_of p) ≡ true
lent-base (Root n) l c w = absurd w
lent-base (OnLedger m n) l c w = subst (λ (z : List ℕ). is_among z (bases_of (OnLedger m n)) ≡ true) w.0 (or-left _ _ (bytes_eq_self m))
lent-base (End v) l c w = subst (λ (z : List ℕ). is_among z (bases_of (End v)) ≡ true) w.0 (or-left _ _ (bytes_eq_self (own_ledger v)))
lent-base (Middle v) l c (inl w) = subst (λ (z : List ℕ). is_among z (bases_of (Middle v)) ≡ true) w.0 (or-left _ _ (bytes_eq_self v.ledger_a))
lent-base (Middle v) l c (inr w) =
    subst (λ (z : List ℕ). is_among z (bases_of (Middle v)) ≡ true) w.0 (or-right (bytes_eq v.ledger_b v.ledger_a) _ (or-left _ _ (bytes_eq_self v.ledger_b)))

pub bare-alone : (ps : List Part) (l : List ℕ) (items : List Item) → is_among l (all_bases ps) ≡ false → IsBare ps l items
bare-alone [] l items out p c i w = absurd i
bare-alone (q ∷ qs) l items out p c (inl e) w =
    let none : is_among l (bases_of q) ≡ false = (or-none _ _ (sym (among-append l (bases_of q) (all_bases qs)) ∙ out)).0 in
    absurd (false≢true (sym none ∙ lent-base q l c (subst (λ (z : Part). Lends z l c) e w)))
bare-alone (q ∷ qs) l items out p c (inr i) w =
    bare-alone qs l items (or-none _ _ (sym (among-append l (bases_of q) (all_bases qs)) ∙ out)).1 p c i w
