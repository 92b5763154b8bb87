-- The text of a route was written whole, in part, or not at all.
use Rattle.std.proofs.Common.{List, ℕ, sym, subst}
use Rattle.std.specs.Io.KnownBytes.{Appends}
use Rattle.byte_streams.proofs.Known.{keeps_all}
use Rattle.byte_streams.specs.OutsideSink.{AppendsPart}
use Rattle.node_guarantees.specs.Ways.{ways}
use Rattle.script_run.proofs.RoutePutting.{none_put, all_put, part_put}
use Rattle.script_run.proofs.route.run_route.Goals as goal
use Rattle.script_run.specs.Promises.{Sunk, IsRoute, sunk}
use Rattle.script_run.specs.declared.route.RouteEnded.{RouteEnded}

pub returns-in_default : goal.returns-in_default
returns-in_default g c =
    let k : Sunk = sunk g.K.Sink c.args.sink.now c.args.sink.now in
    subst (λ (e : RouteEnded). IsRoute ways c.args.words.now k e.status e.report) (sym c.without_report.ensures)
    (none_put ways c.args.words.now k (keeps_all (g.K.Sink.held c.args.sink.now)))

pub returns-in-Ok-put_all : goal.returns-in-Ok-put_all
returns-in-Ok-put_all g c =
    let k : Sunk = sunk g.K.Sink c.args.sink.now c.put_all.new.sink in
    all_put ways c.args.words.now k c.in-Ok.routed.ended.status c.in-Ok.routed.ended.report c.in-Ok.routed.text.items
    c.in-Ok.ensures.ends c.in-Ok.ensures.legal
    (subst (λ (b : List ℕ). Appends k.before k.after b) c.deref.ensures.value c.in-Ok-put_all.ensures.ok)

pub returns : goal.returns
returns g c =
    let k : Sunk = sunk g.K.Sink c.args.sink.now c.put_all.new.sink in
    part_put ways c.args.words.now k c.in-Ok.routed.ended.status c.in-Ok.routed.ended.report c.in-Ok.routed.text.items
    c.in-Ok.ensures.ends c.in-Ok.ensures.legal c.in-Err.ensures.failed
    (subst (λ (b : List ℕ). AppendsPart k.before k.after b) c.deref.ensures.value c.in-Err.ensures.part)
