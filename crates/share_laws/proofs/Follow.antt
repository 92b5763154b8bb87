-- How the list of the channels that count goes on where nothing is paid, and when books are no worse for their person.
use Rattle.std.proofs.Common.{◌≡◌, ℕ, ◌≤◌, true, false, List, [], ◌∷◌, ◌⊎◌}
use Rattle.std.specs.Prelude.{Bool, None}
use Rattle.channel_values.specs.declared.value.AssetOutcome.{AssetOutcome}
use Rattle.channel_values.specs.declared.value.Dest.{Dest}
use Rattle.channel_values.specs.declared.value.Dest.TheVariants.{Person, Channel}
use Rattle.channel_values.specs.Amounts.{aff}
use Rattle.call_history.specs.Flows.{is_among}
use Rattle.funding_plans.specs.declared.plan.Part.{Part}
use Rattle.funding_plans.specs.declared.plan.Part.TheVariants.{Root, OnLedger, End, Middle}
use Rattle.share_laws.specs.Books.{Counting, Books, one_of, counts_in}
use Rattle.share_laws.specs.Bases.{NoWorse}

-- channels start to count, stay, or become final by an outcome no worse than one that was possible
pub data Follows (asset : ℕ) (me : List ℕ) (on : List (List ℕ)) : (ks ls : List Counting) → Type 0 where
  ends : Follows asset me on [] []
  starts : {ks ls : List Counting} (k : Counting) → counts_in ks k.channel ≡ false → Follows asset me on ks ls → Follows asset me on ks (k ∷ ls)
  stays : {ks ls : List Counting} (k : Counting) → Follows asset me on ks ls → Follows asset me on (k ∷ ks) (k ∷ ls)
  settles : {ks ls : List Counting} (k : Counting) (t : Bool) (p : List AssetOutcome) → NoWorse asset me on k.channel (one_of k.proposal t k.outcome) p →
      Follows asset me on ks ls → Follows asset me on (k ∷ ks) (record { channel = k.channel; outcome = p; proposal = None } ∷ ls)

-- c is no worse for the person me than b: nothing was paid, some channels started to count, some became final
pub record Better (me : List ℕ) (on : List (List ℕ)) (b c : Books) : Type 0 where
  pub held : (n : List ℕ) → b.held n ≤ c.held n
  pub opens : (n : List ℕ) (d : Dest) → c.owed n d ≡ b.owed n d
  pub own : (n : List ℕ) (r : ℕ) → aff (b.items n) r (Person me) ≤ aff (c.items n) r (Person me)
  pub bases : (n : List ℕ) → is_among n on ≡ true → (b.items n ≡ []) ⊎ (c.items n ≡ b.items n)
  pub counts : (n : List ℕ) → (b.counts n ≡ false) ⊎ (c.counts n ≡ true)
  pub lists : (n : List ℕ) → ((b.counts n ≡ false) × (b.list n ≡ [])) ⊎ (c.list n ≡ b.list n)

-- an exit closes an intermediary's claim for the channel before its own
abbrev pub InOrder : Books → List ℕ → List Part → Type 0
InOrder b me [] = Unit {0}
InOrder b me (Root c ∷ ps) = InOrder b me ps
InOrder b me (OnLedger l c ∷ ps) = InOrder b me ps
InOrder b me (End v ∷ ps) = InOrder b me ps
InOrder b me (Middle v ∷ ps) =
    (b.owed v.guarantor_a (Channel v.channel) ≡ true → (b.owed v.guarantor_a (Person me) ≡ true) × (b.owed v.guarantor_b (Person me) ≡ true))
    × InOrder b me ps
