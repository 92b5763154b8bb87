-- The channels of a plan, part by part.
use Rattle.std.proofs.Common.{◌≡◌, ℕ, ◌+◌, List, ◌∷◌, length, length-append}
use Rattle.std.specs.Prelude.{◌||◌}
use Rattle.std.specs.Str.{bytes_eq}
use Rattle.std.proofs.lemmas.List.Folds.{list_any-append}
use Rattle.call_history.specs.Flows.{is_among}
use Rattle.funding_plans.specs.Parts.{channels_of, channels}
use Rattle.funding_plans.specs.declared.plan.Part.{Part}

pub count_more : (part : Part) (parts : List Part) → length (channels (part ∷ parts)) ≡ length (channels_of part) + length (channels parts)
count_more part parts = length-append (channels_of part) (channels parts)

pub among_more : (name : List ℕ) (part : Part) (parts : List Part) → is_among name (channels (part ∷ parts)) ≡ (is_among name (channels_of part) || is_among name (channels parts))
among_more name part parts = list_any-append (bytes_eq name) (channels_of part) (channels parts)
