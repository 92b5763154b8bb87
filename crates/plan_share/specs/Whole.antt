-- Whether a plan is funded, in every asset.
use Rattle.std.specs.Prelude.{◌≡◌, ℕ, Bool, true, ◌&&◌, List}
use Rattle.std.specs.List.{list_all}
use Rattle.channel_values.specs.declared.value.AssetOutcome.{AssetOutcome}
use Rattle.call_history.specs.declared.held_chain.Known.{Known}
use Rattle.call_history.specs.declared.view.WorldView.{WorldView}
use Rattle.funding_plans.specs.declared.plan.Plan.{Plan}
use Rattle.share_laws.specs.Books.{Counting}
use Rattle.share_laws.specs.Funded.{is_funded}
use Rattle.plan_share.specs.Pages.{or_empty}
use Rattle.plan_share.specs.Seen.{held_seen, is_funded_seen}

abbrev pub AreFunded : WorldView → Plan → List Known → Type 0
AreFunded w own known = (asset : ℕ) → is_funded_seen w own known asset ≡ true

-- in one asset, where these channels count
abbrev pub funded_in : WorldView → Plan → List Counting → (asset : ℕ) → Bool
funded_in w own counting asset = is_funded own.me own.parts (held_seen w asset) counting asset

-- in each asset of an outcome
abbrev pub passes_each : (test : ℕ → Bool) → List AssetOutcome → Bool
passes_each test outcome = list_all (λ o. test o.asset) outcome

-- in each of those with which a channel can end
abbrev pub passes_both : (test : ℕ → Bool) → Counting → Bool
passes_both test x = passes_each test x.outcome && passes_each test (or_empty x.proposal)
