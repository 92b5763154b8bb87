-- Each entry follows on those before it, and adds the lines of one look.
use Rattle.std.proofs.Common.{◌∙◌, take}
use Rattle.call_history.specs.History.{newest_first}
use Rattle.watchtower.proofs.NextLook.{follows_next, stands_next, lines_next}
use Rattle.watchtower.proofs.replaying.look_through.Goals as goal

pub look_at-requires-after_bounds : goal.look_at-requires-after_bounds
look_at-requires-after_bounds g c κs within = (
  newest_first (take c.loop-entry.entry-index c.args.history.now),
  follows_next c.args.history.now c.loop-entry.entry-index c.entry-item.result c.loop-entry.tower.watching c.loop-entry-test.true
      c.entry-item.is c.requires.legal c.loop-entry.invariant.0,
)

pub loop-entry-preserved : goal.loop-entry-preserved
loop-entry-preserved g c =
    let i = c.loop-entry.entry-index in
    let e = c.entry-item.result in
    let follows = follows_next c.args.history.now i e c.loop-entry.tower.watching c.loop-entry-test.true c.entry-item.is c.requires.legal c.loop-entry.invariant.0 in
    let past = newest_first (take i c.args.history.now) in (
      stands_next c.args.history.now i e c.look_at.new.tower.watching c.loop-entry-test.true c.entry-item.is (c.in_ok-look_at.ensures.stands past follows),
      c.in_ok-look_at.ensures.clients ∙ c.loop-entry.invariant.1,
      lines_next c.args.history.now i e c.args.tower.now.clients c.loop-entry.tower.clients c.args.lines.now.items c.loop-entry.lines.items c.look_at.new.lines.items
          c.loop-entry-test.true c.entry-item.is c.loop-entry.invariant.1 c.loop-entry.invariant.2 (c.in_ok-look_at.ensures.lines past follows),
    )
