-- What an end owes was written whole, in part, or not at all.
use Rattle.std.proofs.Common.{◌∙◌, List, ℕ, sym, subst}
use Rattle.std.specs.Prelude.{IfSome}
use Rattle.std.specs.Io.KnownBytes.{Appends}
use Rattle.byte_streams.proofs.Known.{keeps_all}
use Rattle.byte_streams.specs.OutsideSink.{AppendsPart}
use Rattle.script_run.proofs.Putting.{at_ok, none_put, all_put, part_put}
use Rattle.script_run.proofs.run.put_end.Goals as goal
use Rattle.script_run.specs.Laws.{IsLegalIn, PaysItsLoad}
use Rattle.script_run.specs.Promises.{Sunk, IsRun, sunk}
use Rattle.script_run.specs.Run.{EndsAs}
use Rattle.script_run.specs.declared.run.Ended.{Ended}

pub returns-in_default : goal.returns-in_default
returns-in_default g c cast given ends pays =
    let k : Sunk = sunk g.K.Sink c.args.sink.now c.args.sink.now in
    subst (λ (e : Ended). IsRun g.P.Party.ways cast given k e.status e.report) (sym c.without_report.ensures)
    (none_put g.P.Party.ways cast given k (keeps_all (g.K.Sink.held c.args.sink.now)))

pub returns-in_default-owed : goal.returns-in_default-owed
returns-in_default-owed g c cast given ends pays =
    let k : Sunk = sunk g.K.Sink c.args.sink.now c.args.sink.now in
    subst (λ (e : Ended). IsRun g.P.Party.ways cast given k e.status e.report) (sym c.without_report-in_default-owed.ensures)
    (none_put g.P.Party.ways cast given k (keeps_all (g.K.Sink.held c.args.sink.now)))

pub returns-in-Ok-put_all : goal.returns-in-Ok-put_all
returns-in-Ok-put_all g c cast given ends pays =
    let k : Sunk = sunk g.K.Sink c.args.sink.now c.put_all.new.sink in
    all_put g.P.Party.ways cast given k c.in-Ok.ended.status c.in-Ok.ended.report
    (at_ok c.args.end c.in-Ok.ended (λ (e : Ended). EndsAs g.P.Party.ways cast given e.status e.report) c.in-Ok.is ends)
    (at_ok c.args.end c.in-Ok.ended (λ (e : Ended). IfSome e.report IsLegalIn) c.in-Ok.is c.requires)
    (at_ok c.args.end c.in-Ok.ended (λ (e : Ended). IfSome e.report PaysItsLoad) c.in-Ok.is pays)
    (subst (λ (b : List ℕ). Appends k.before k.after b) (c.deref.ensures.value ∙ c.in-Ok-owed.ensures) c.in-Ok-put_all.ensures.ok)

pub returns : goal.returns
returns g c cast given ends pays =
    let k : Sunk = sunk g.K.Sink c.args.sink.now c.put_all.new.sink in
    part_put g.P.Party.ways cast given k c.in-Ok.ended.status c.in-Ok.ended.report
    (at_ok c.args.end c.in-Ok.ended (λ (e : Ended). EndsAs g.P.Party.ways cast given e.status e.report) c.in-Ok.is ends)
    (at_ok c.args.end c.in-Ok.ended (λ (e : Ended). IfSome e.report IsLegalIn) c.in-Ok.is c.requires)
    (at_ok c.args.end c.in-Ok.ended (λ (e : Ended). IfSome e.report PaysItsLoad) c.in-Ok.is pays)
    c.in-Err.ensures.failed
    (subst (λ (b : List ℕ). AppendsPart k.before k.after b) (c.deref.ensures.value ∙ c.in-Ok-owed.ensures) c.in-Err.ensures.part)
