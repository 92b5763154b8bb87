use Rattle.std.proofs.Common.{rules, ◌≡◌, ◌++◌, ◌∷◌, [], ℕ, List, Some, None, cond, length, sym, ◌∙◌, ap, subst, arith}
use Rattle.std.specs.Map.{lookup}
use Rattle.std.specs.Str.{bytes_eq}
use Rattle.support_rules.specs.Real.{real}
use Rattle.channel_store.specs.Good.{IsLent, AreGood}
use Rattle.channel_store.specs.Storing.{kept_of, added, ArePlaced}
use Rattle.channel_store.proofs.Good.{added_well}
use Rattle.channel_store.proofs.Placing.{placed_new}
use Rattle.channel_store.proofs.store.Store.add_channel.Goals as goal

pub invariant_of-self-in-Ok : goal.invariant_of-self-in-Ok
invariant_of-self-in-Ok c =
    let lent : IsLent c.push_reserved.new.self.items c.in-Ok.lent.chains.items c.in-Ok.lent.known.items c.in-Ok.lent.places.items = search rules in
    let items : c.push_reserved.new.self.items ≡ c.self.inside.kept.items ++ added c.args.fixed c.args.me ∷ [] = search rules in
    let name : c.channel_name-channel.result ≡ (added c.args.fixed c.args.me).channel = search rules in
    let end : c.len-len.result ≡ length c.self.inside.kept.items = omega (arith, c.len-len.ensures) in
    let new : kept_of (added c.args.fixed c.args.me).channel c.self.inside.kept.items ≡ None = search rules in
    let table : (n : List ℕ) → lookup (bytes_eq n) c.set_place.new.by_name.entries
    ≡ cond (bytes_eq (added c.args.fixed c.args.me).channel n) (Some (length c.self.inside.kept.items)) (lookup (bytes_eq n) c.self.inside.by_name.entries) =
    λ n.
    c.set_place.ensures n
    ∙ ap (λ (m : List ℕ). cond (bytes_eq m n) (Some c.len-len.result) (lookup (bytes_eq n) c.reserve.new.self.entries)) name
    ∙ ap (λ (i : ℕ). cond (bytes_eq (added c.args.fixed c.args.me).channel n) (Some i) (lookup (bytes_eq n) c.reserve.new.self.entries)) end
    ∙ ap (λ es. cond (bytes_eq (added c.args.fixed c.args.me).channel n) (Some (length c.self.inside.kept.items)) (lookup (bytes_eq n) es)) c.in_ok-reserve.ensures.entries in
    let placed : ArePlaced c.set_place.new.by_name.entries (c.self.inside.kept.items ++ added c.args.fixed c.args.me ∷ []) =
    placed_new c.self.inside.by_name.entries c.set_place.new.by_name.entries c.self.inside.kept.items (added c.args.fixed c.args.me) c.self.invariant.placed new table in
    record { placed = subst (ArePlaced c.set_place.new.by_name.entries) (sym items) placed; lent = lent; good = subst (AreGood real) (sym items) (added_well real c.args.fixed c.args.me c.self.inside.kept.items c.requires.position c.self.invariant.good) }
