-- In a plan whose ledgers were opened before, each ledger stands before the parts on it.
use Rattle.std.proofs.Common.{◌≡◌, ℕ, true, ◌&&◌, List, [], ◌∷◌, ◌++◌, inl, inr, refl}
use Rattle.std.specs.List.{list_all}
use Rattle.channel_safety.proofs.Tests.{and-both}
use Rattle.call_history.specs.Flows.{is_among}
use Rattle.fairness_laws.proofs.Plan.Names.{in-among, among-in}
use Rattle.funding_plans.specs.Parts.{own_ledger, ledgers_of}
use Rattle.funding_plans.specs.declared.plan.Part.{Part}
use Rattle.funding_plans.specs.declared.plan.Part.TheVariants.{Root, OnLedger, End, Middle}
use Rattle.run_record.specs.Plans.{bears, stand_on}
use Rattle.channel_safety.proofs.Members.{In-append_left, In-append_right}
use Rattle.channel_safety.specs.Journals.{In}
use Rattle.share_laws.specs.Plans.{StandsOn, ledgers_after, AllStandOn}

abbrev Within : (ledgers before : List (List ℕ)) → Type 0
Within ledgers before = (n : List ℕ) → In n ledgers → In n before

within-after : (ledgers before : List (List ℕ)) (p : Part) → Within ledgers before → Within (ledgers_after ledgers p) (before ++ bears p)
within-after ledgers before (Root c) w n (inl e) = In-append_right n before (c ∷ []) (inl e)
within-after ledgers before (Root c) w n (inr i) = In-append_left n before (c ∷ []) (w n i)
within-after ledgers before (OnLedger l c) w n i = In-append_left n before (c ∷ []) (w n i)
within-after ledgers before (End v) w n (inl e) = In-append_right n before (v.channel ∷ []) (inl e)
within-after ledgers before (End v) w n (inr i) = In-append_left n before (v.channel ∷ []) (w n i)
within-after ledgers before (Middle v) w n i = In-append_left n before [] (w n i)

on-before : (ledgers before : List (List ℕ)) (p : Part) → Within ledgers before → StandsOn ledgers p → list_all (λ ledger. is_among ledger before) (ledgers_of p) ≡ true
on-before ledgers before (Root c) w on = refl
on-before ledgers before (OnLedger l c) w on = and-both (is_among l before) true (in-among l before (w l (among-in l ledgers on))) refl
on-before ledgers before (End v) w on = and-both (is_among (own_ledger v) before) true (in-among (own_ledger v) before (w (own_ledger v) (among-in (own_ledger v) ledgers on))) refl
on-before ledgers before (Middle v) w on =
    and-both (is_among v.ledger_a before) (is_among v.ledger_b before && true) (in-among v.ledger_a before (w v.ledger_a (among-in v.ledger_a ledgers on.0)))
    (and-both (is_among v.ledger_b before) true (in-among v.ledger_b before (w v.ledger_b (among-in v.ledger_b ledgers on.1))) refl)

all-before : (ledgers before : List (List ℕ)) (ps : List Part) → Within ledgers before → AllStandOn ledgers ps → stand_on before ps ≡ true
all-before ledgers before [] w on = refl
all-before ledgers before (p ∷ ps) w on =
    and-both (list_all (λ ledger. is_among ledger before) (ledgers_of p)) (stand_on (before ++ bears p) ps) (on-before ledgers before p w on.0)
    (all-before (ledgers_after ledgers p) (before ++ bears p) ps (within-after ledgers before p w) on.1)

pub grounded : (ps : List Part) → AllStandOn [] ps → stand_on [] ps ≡ true
grounded ps on = all-before [] [] ps (λ n i. i) on
