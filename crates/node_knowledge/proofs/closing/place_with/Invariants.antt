use Rattle.std.proofs.Common.{◌≡◌, ℕ, ◌<◌, ◌≤◌, length, false, []}
use Rattle.std.specs.Prelude.{slice_index_or}
use Rattle.call_history.specs.Flows.{is_among}
use Rattle.funding_plans.specs.Parts.{channels_of}
use Rattle.funding_plans.specs.declared.plan.Part.TheVariants.{Root}
use Rattle.node_knowledge.proofs.closing.place_with.Given as goal

abbrev pub invariant-loop-place : goal.invariant-loop-place
invariant-loop-place l = (l.place ≤ length l.parts) × ((k : ℕ) → k < l.place → is_among l.channel (channels_of (slice_index_or l.parts k (Root []))) ≡ false)
