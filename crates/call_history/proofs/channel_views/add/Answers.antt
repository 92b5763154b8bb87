use Rattle.std.proofs.Common.{◌≡◌, ℕ, List, Some, cond, length, sym, ◌∙◌, ap, subst, arith}
use Rattle.std.specs.Map.{lookup}
use Rattle.std.specs.Str.{bytes_eq}
use Rattle.call_history.specs.Viewed.{ArePlaced}
use Rattle.call_history.specs.declared.view.ChannelView.{ChannelView}
use Rattle.call_history.proofs.Viewed.{placed_new}
use Rattle.call_history.proofs.channel_views.add.Goals as goal

pub returns-clause-placed : goal.returns-clause-placed
returns-clause-placed c =
    let end : c.len-place.result ≡ length c.args.views.now.items = omega (arith, c.len-place.ensures) in
    subst (λ (views : List ChannelView). ArePlaced c.set_place.new.places.entries views) (sym c.in_ok-push.ensures.items)
    (placed_new c.args.places.now.entries c.set_place.new.places.entries c.args.views.now.items c.args.view c.requires.placed c.requires.new
    (λ (n : List ℕ). c.set_place.ensures n
    ∙ ap (λ (i : ℕ). cond (bytes_eq c.args.view.channel n) (Some i) (lookup (bytes_eq n) c.reserve.new.self.entries)) end
    ∙ ap (λ es. cond (bytes_eq c.args.view.channel n) (Some (length c.args.views.now.items)) (lookup (bytes_eq n) es)) c.in_ok-reserve.ensures.entries))
