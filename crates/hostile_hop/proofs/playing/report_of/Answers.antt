use Rattle.hostile_hop.proofs.Alike.{fits_alike, few_alike, rounds_alike, short_alike, signers_alike}
use Rattle.std.proofs.Common.{sym, ◌∙◌}
use Rattle.hostile_hop.proofs.playing.report_of.Goals as goal

pub report_play-requires-clause-fit : goal.report_play-requires-clause-fit
report_play-requires-clause-fit c = fits_alike c.take_routes.new.steps c.args.steps.now c.take_routes.ensures c.requires.fit

pub report_play-requires-clause-few : goal.report_play-requires-clause-few
report_play-requires-clause-few c = few_alike c.take_routes.new.steps c.args.steps.now c.take_routes.ensures c.requires.few

pub report_play-requires-clause-rounds : goal.report_play-requires-clause-rounds
report_play-requires-clause-rounds c = rounds_alike c.take_routes.new.steps c.args.steps.now c.take_routes.ensures c.requires.rounds

pub report_play-requires-clause-short : goal.report_play-requires-clause-short
report_play-requires-clause-short c = short_alike c.take_routes.new.steps c.args.steps.now c.take_routes.ensures c.requires.short

pub report_play-requires-clause-fresh : goal.report_play-requires-clause-fresh
report_play-requires-clause-fresh c = c.requires.fresh ∙ sym (signers_alike c.take_routes.new.steps c.args.steps.now c.take_routes.ensures)
