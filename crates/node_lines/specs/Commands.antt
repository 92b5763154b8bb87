-- Commands.
use Rattle.std.specs.Prelude.{ℕ, List, if◌then◌else◌, Result, Ok, Err, codes}
use Rattle.std.specs.Str.{bytes_eq}
use Rattle.serde_json.specs.Data.{Data}
use Rattle.network.specs.declared.command.Command.{Command}
use Rattle.network.specs.declared.command.Command.TheVariants as commands
use Rattle.network.specs.declared.command.Release.{Release}
use Rattle.network.specs.declared.command.Release.TheVariants as releases
use Rattle.network.specs.declared.command.Route.{Route}
use Rattle.network.specs.declared.command.Route.TheVariants as routes
use Rattle.node_lines.specs.Channels.{channel_at, channels_at}
use Rattle.node_lines.specs.Faults.{◌>>=◌}
use Rattle.node_lines.specs.Outcomes.{outcome_at}
use Rattle.node_lines.specs.Values.{keys, number_at, small_at, text_at, name_at, names_at, amounts_at}
use Rattle.node_lines.specs.declared.faults.Invalid.{Invalid}
use Rattle.node_lines.specs.declared.faults.Invalid.TheVariants as faults

-- {"do":"open","channel":CHANNEL,"outcome":OUTCOME}
abbrev pub open_of : Data → Result Command Invalid
open_of d = do
  no_more ← keys 3 d
  channel ← channel_at (codes "channel") d
  outcome ← outcome_at (codes "outcome") d
  Ok (commands.Open channel outcome)

-- {"do":"open_on","ledger":"NAME","channel":CHANNEL,"asset":0,"amounts":[5,3]}
abbrev pub open_on_of : Data → Result Command Invalid
open_on_of d = do
  no_more ← keys 5 d
  ledger ← name_at (codes "ledger") d
  asset ← small_at (codes "asset") d
  amounts ← amounts_at (codes "amounts") d
  channel ← channel_at (codes "channel") d
  Ok (commands.OpenOn (record { ledger = ledger; fixed = channel; asset = asset; amounts = amounts }))

abbrev pub route_in : List ℕ → Result Route Invalid
route_in text =
    if bytes_eq text (codes "plain") then Ok routes.Plain else (
    if bytes_eq text (codes "ledger") then Ok routes.Ledger else (
    if bytes_eq text (codes "onward") then Ok routes.Onward else Err faults.Shape))

abbrev pub route_at : List ℕ → Data → Result Route Invalid
route_at key d = text_at key d >>= route_in

-- {"do":"open_virtual","route":"plain","ledgers":["NAME","NAME"],"guarantors":[CHANNEL,CHANNEL],"joint":CHANNEL,
-- "channel":CHANNEL,"asset":0,"amounts":[5,3]}
abbrev pub open_virtual_of : Data → Result Command Invalid
open_virtual_of d = do
  no_more ← keys 8 d
  route ← route_at (codes "route") d
  ledgers ← names_at (codes "ledgers") d
  asset ← small_at (codes "asset") d
  amounts ← amounts_at (codes "amounts") d
  guarantors ← channels_at (codes "guarantors") d
  joint ← channel_at (codes "joint") d
  channel ← channel_at (codes "channel") d
  Ok (commands.OpenVirtual (record {
    route = route;
    ledgers = ledgers;
    guarantors = guarantors;
    joint = joint;
    channel = channel;
    asset = asset;
    amounts = amounts;
  }))

-- {"do":"pay","channel":"NAME","asset":0,"amount":1}
abbrev pub pay_of : Data → Result Command Invalid
pay_of d = do
  no_more ← keys 4 d
  channel ← name_at (codes "channel") d
  asset ← small_at (codes "asset") d
  amount ← number_at (codes "amount") d
  Ok (commands.Pay channel asset amount)

-- {"do":"close","channel":"NAME"}
abbrev pub close_of : Data → Result Command Invalid
close_of d = do
  no_more ← keys 2 d
  channel ← name_at (codes "channel") d
  Ok (commands.Close channel)

-- {"do":"settle","channel":"NAME"}, or the same with `abandon`
abbrev pub release_of : Release → Data → Result Command Invalid
release_of how d = do
  no_more ← keys 2 d
  channel ← name_at (codes "channel") d
  Ok (commands.Release how channel)

-- {"do":"exit"}
abbrev pub exit_of : Data → Result Command Invalid
exit_of d = do
  no_more ← keys 1 d
  Ok commands.Exit

-- by the word at `do`
abbrev pub command_in : List ℕ → Data → Result Command Invalid
command_in word d =
    if bytes_eq word (codes "open") then open_of d else (
    if bytes_eq word (codes "open_on") then open_on_of d else (
    if bytes_eq word (codes "open_virtual") then open_virtual_of d else (
    if bytes_eq word (codes "pay") then pay_of d else (
    if bytes_eq word (codes "close") then close_of d else (
    if bytes_eq word (codes "settle") then release_of releases.Settle d else (
    if bytes_eq word (codes "abandon") then release_of releases.Abandon d else (
    if bytes_eq word (codes "exit") then exit_of d else Err faults.Shape)))))))
