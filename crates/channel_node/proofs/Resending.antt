-- What a node sends once more.
use Rattle.std.proofs.Common.{◌≡◌, ℕ, List, [], ◌∷◌, ◌++◌, refl, sym, ◌∙◌, ap}
use Rattle.std.proofs.lemmas.List.Sums.{fold-append}
use Rattle.std.specs.Prelude.{Option, Some, None}
use Rattle.std.specs.Option.{option_or}
use Rattle.call_history.specs.declared.event.Deed.TheVariants as deeds
use Rattle.call_history.specs.declared.event.Event.{Event}
use Rattle.channel_values.specs.Rules.{Rules}
use Rattle.channel_values.specs.declared.chain.Signed.{Signed}
use Rattle.network.specs.declared.command.Command.TheVariants.{Resend}
use Rattle.channel_node.specs.Giving.{signed_here, last_signed, sends_again, resent}
use Rattle.channel_node.specs.Nodes.{NodeOf, asked}
use Rattle.channel_node.specs.Playing.{Signing}

pub last-append : (channel : List ℕ) (events : List Event) (e : Event)
    → last_signed channel (events ++ e ∷ []) ≡ option_or (signed_here channel e.deed) (last_signed channel events)
last-append channel events e = fold-append (λ (before : Option Signed) (x : Event). option_or (signed_here channel x.deed) before) None events (e ∷ [])

-- the command's own event signs nothing
pub resent-asked : (r : Rules) (s : Signing) (step : ℕ) (channel : List ℕ) (n : NodeOf)
    → resent channel (asked r s step (Resend channel) None n) ≡ resent channel n
resent-asked r s step channel n =
    ap (sends_again n.mind channel) (last-append channel n.journal (record { seen = n.mind.view.count; deed = deeds.Commanded step None }))
