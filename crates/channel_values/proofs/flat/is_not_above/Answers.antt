use Rattle.std.proofs.Common.{◌≡◌, ℕ, Bool, ◌||◌, leb, List, [], ◌∷◌, refl, ap, ◌∙◌}
use Rattle.std.specs.List.{list_any}
use Rattle.channel_values.specs.declared.flat.FlatAsset.{FlatAsset}
use Rattle.channel_values.specs.Flat.{assets_of}
use Rattle.channel_values.proofs.flat.is_not_above.Goals as goal

seen_alike : (asset : ℕ) (os : List FlatAsset) → list_any (λ o. leb asset o.asset) os ≡ list_any (λ o. leb asset o.asset) (assets_of os)
seen_alike asset [] = refl
seen_alike asset (o ∷ os) = ap (λ (b : Bool). leb asset o.asset || b) (seen_alike asset os)

pub returns : goal.returns
returns c = c.has_at_least.ensures ∙ seen_alike c.args.asset c.args.seen.now
