-- What a report takes from nodes of the shares of their people, and of how these ended.
use Rattle.std.specs.Prelude.{◌≡◌, ℕ, Bool, false, List, [], map, Option, Some, None}
use Rattle.channel_values.specs.Digests.{name_of_person}
use Rattle.funding_plans.specs.Known.{FactsOf}
use Rattle.network.specs.Ways.{Ways}
use Rattle.play_report.specs.Reported.{shares_of}
use Rattle.run_record.specs.declared.run_record.Ending.{Ending}
use Rattle.report_text.specs.declared.report.Share.{Share}
use Rattle.node_guarantees.specs.Telling.{amount_then}

-- the amount of each of these assets, 0 where there is none
abbrev pub exits_for : (person : List ℕ) → (assets : List ℕ) → List (ℕ × ℕ) → List Share
exits_for person assets amounts = map (λ asset. record { person = person; asset = asset; amount = amount_then amounts asset }) assets

abbrev pub exits_if : (person : List ℕ) → (assets : List ℕ) → Option (List (ℕ × ℕ)) → List Share
exits_if person assets None = []
exits_if person assets (Some amounts) = exits_for person assets amounts

-- what the person of a node can get, by asset, of each of these
abbrev pub known_amounts : {P : Type 0} → (P → ℕ → ℕ) → (assets : List ℕ) → P → List (ℕ × ℕ)
known_amounts shares assets p = map (λ asset. (asset, shares p asset)) assets

module _ {P : Type 0} (ways : Ways P) where
  -- memory didn't fail the node, and it followed so many entries
  pub record HasFollowed (lost : P → Bool) (count : ℕ) (p : P) : Type 0 where
    pub able : lost p ≡ false
    pub seen : ways.seen p ≡ count

  -- what the person of a node can get of each of these assets
  abbrev pub known_shares : (P → ℕ → ℕ) → (assets : List ℕ) → P → List Share
  known_shares shares assets p = shares_of (ways.key p) (shares p) assets

  -- what it could get when it was commanded to exit, if it was
  abbrev pub known_exits : (P → Option (List (ℕ × ℕ))) → (assets : List ℕ) → P → List Share
  known_exits exits assets p = exits_if (name_of_person (ways.key p)) assets (exits p)

  -- how it ended: what the node knows of its plan, its states and its chains, and these shares
  abbrev pub known_ending : (facts : P → FactsOf) → (P → ℕ → ℕ) → (assets : List ℕ) → P → Ending
  known_ending facts shares assets p =
      record {
        person = name_of_person (ways.key p);
        plan = (facts p).plan;
        known = (facts p).known;
        chains = (facts p).chains;
        shares = known_amounts shares assets p;
      }
