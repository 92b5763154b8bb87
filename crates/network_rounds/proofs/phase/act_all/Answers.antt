use Rattle.std.proofs.Common.{arith}
use denote.Exit.{no}
use denote.Param.Send.{param_send, arg_send, sendable}
use denote.Param.{param}
use denote.Param.Object as object
use Rattle.network_rounds.specs.contracts.phase.act_all.dyn-1 as dyn
use Rattle.std.proofs.Crossing.{crosses}
use Rattle.network_rounds.proofs.Sends.{lookout_sends, cast_sends, job_sends}
use Rattle.network_rounds.proofs.phase.act_all.Goals as goal

pub returns-clause-each : goal.returns-clause-each
returns-clause-each g c = λ i d e lt. let k = (c.in_ok-results.ensures.each i e (omega (arith, lt, c.args.jobs.ok.0))).1 in rw (k.job_is d) k.call.met

pub map_jobs-requires-send-J : goal.map_jobs-requires-send-J
map_jobs-requires-send-J g c κs within =
    let actors = dyn.slots g.row.R g.row.G g.row.P in
    let table = object.Vt actors g.dyn-1.0 in
    let ghosts = object.ghosts_of actors g.dyn-1.0 g.dyn-1.1 in
    param_send _ _ (arg_send _ no _ (job_sends (param 2 g.row.P) table g.P.Party ghosts
    (search (lookout_sends, sendable, crosses) depth 60 fits 20000) (cast_sends table ghosts g.dyn-1.2 (search (sendable, crosses)))))
