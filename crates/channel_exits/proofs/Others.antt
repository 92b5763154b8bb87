-- A part that holds no funds of its own has no call of a root.
use Rattle.std.proofs.Common.{◌≡◌, ℕ, List, [], ◌∷◌, ◌++◌, refl, sym, subst}
use Rattle.std.proofs.lemmas.List.{append-nil}
use Rattle.std.specs.List.{flat_map}
use Rattle.call_history.specs.declared.call.Call.{Call}
use Rattle.funding_plans.specs.declared.plan.Part.{Part}
use Rattle.funding_plans.specs.declared.plan.Part.TheVariants.{OnLedger, End, Middle}
use Rattle.funding_plans.specs.declared.plan.Virtual.{Virtual}
use Rattle.channel_exits.specs.Calls.{Ended, root_calls, of_each, assets_of, exits}

module _ (ended : Ended) (me : List ℕ) (names : List (List ℕ)) where
  on_ledger : (l c : List ℕ) (assets : List ℕ) → flat_map (root_calls ended me names (OnLedger l c)) assets ≡ []
  on_ledger l c [] = refl
  on_ledger l c (asset ∷ assets) = on_ledger l c assets

  at_end : (v : Virtual) (assets : List ℕ) → flat_map (root_calls ended me names (End v)) assets ≡ []
  at_end v [] = refl
  at_end v (asset ∷ assets) = at_end v assets

  at_middle : (v : Virtual) (assets : List ℕ) → flat_map (root_calls ended me names (Middle v)) assets ≡ []
  at_middle v [] = refl
  at_middle v (asset ∷ assets) = at_middle v assets

  pub none_on_ledger : (l c : List ℕ) → of_each ended (root_calls ended me names) (OnLedger l c) ≡ []
  none_on_ledger l c = on_ledger l c (assets_of ended (exits (OnLedger l c)))

  pub none_at_end : (v : Virtual) → of_each ended (root_calls ended me names) (End v) ≡ []
  none_at_end v = at_end v (assets_of ended (exits (End v)))

  pub none_at_middle : (v : Virtual) → of_each ended (root_calls ended me names) (Middle v) ≡ []
  none_at_middle v = at_middle v (assets_of ended (exits (Middle v)))

  pub stays : (calls : List Call) (p q : Part) → p ≡ q → of_each ended (root_calls ended me names) q ≡ [] → calls ≡ calls ++ of_each ended (root_calls ended me names) p
  stays calls p q e none =
      subst (λ (part : Part). calls ≡ calls ++ of_each ended (root_calls ended me names) part) (sym e)
      (subst (λ (given : List Call). calls ≡ calls ++ given) (sym none) (sym (append-nil calls)))
