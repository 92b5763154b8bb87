-- Commands that open on ledgers, by the parts of their payloads.
use Rattle.std.specs.Prelude.{ℕ, List}
use Rattle.channel_values.specs.Parts.{FixedParts}
use Rattle.network.specs.declared.command.Command.{Command}
use Rattle.network.specs.declared.command.Command.TheVariants as commands
use Rattle.network.specs.declared.command.Route.{Route}

abbrev pub open_on : List ℕ → FixedParts → ℕ → ℕ × ℕ → Command
open_on ledger fixed asset amounts = commands.OpenOn (record { ledger = ledger; fixed = fixed; asset = asset; amounts = amounts })

abbrev pub open_virtual : Route → List ℕ × List ℕ → FixedParts × FixedParts → (joint channel : FixedParts) → ℕ → ℕ × ℕ → Command
open_virtual route ledgers guarantors joint channel asset amounts =
    commands.OpenVirtual (record {
      route = route;
      ledgers = ledgers;
      guarantors = guarantors;
      joint = joint;
      channel = channel;
      asset = asset;
      amounts = amounts;
    })
