use Rattle.std.proofs.Common.{List, None, take, slice_index_or, [], sym, subst}
use Rattle.std.proofs.lemmas.List.{take_more}
use Rattle.channel_values.specs.declared.value.Dest.TheVariants.{Person}
use Rattle.call_history.specs.Flows.{takes, enters}
use Rattle.call_history.specs.declared.funds.Flow.{Flow}
use Rattle.asset_holder.specs.Sums.{AreSources}
use Rattle.asset_holder.proofs.Fronts.{takes_part, enters_part, fits_more}
use Rattle.asset_holder.proofs.Adding.{by_source, from_outside}
use Rattle.asset_holder.proofs.sources.Sources.spend.Goals as goal

abbrev none : Flow
none = record { from = None; to = Person []; asset = 0; amount = 0 }

pub add-requires : goal.add-requires
add-requires c =
    let flow : Flow = slice_index_or c.args.flows.now c.args.place none in
    fits_more (takes c.in-Some.source flow.asset) (takes_part c.in-Some.source flow.asset) c.args.flows.now c.args.place _ c.amount_of-amount.result
    c.requires.place c.ranges.place.fits c.requires.sources.small c.amount_of-amount.type_inv (c.requires.sources.of_channels (c.in-Some.source, flow.asset))

pub add-requires-in-None : goal.add-requires-in-None
add-requires-in-None c =
    let flow : Flow = slice_index_or c.args.flows.now c.args.place none in
    fits_more (enters flow.asset) (enters_part flow.asset) c.args.flows.now c.args.place _ c.amount_of-amount.result
    c.requires.place c.ranges.place.fits c.requires.sources.small c.amount_of-amount.type_inv (c.requires.sources.of_outside flow.asset)

pub returns-in_ok-add-in-Some : goal.returns-in_ok-add-in-Some
returns-in_ok-add-in-Some c =
    let flow : Flow = slice_index_or c.args.flows.now c.args.place none in
    subst (λ (fs : List Flow). AreSources fs c.add.new.sums.entries c.args.self.now.deposited.entries)
    (sym (take_more c.args.flows.now c.args.place none c.requires.place))
    (by_source (take c.args.place c.args.flows.now) flow c.amount_of-amount.result c.amount_of-amount.ensures c.amount_of-amount.type_inv
    c.args.self.now.spent.entries c.args.self.now.deposited.entries c.requires.sources c.in-Some.source c.in-Some.is c.add.new.sums.entries c.in_ok-add-in-Some.ensures)

pub returns-in_ok-add-in-None : goal.returns-in_ok-add-in-None
returns-in_ok-add-in-None c =
    let flow : Flow = slice_index_or c.args.flows.now c.args.place none in
    subst (λ (fs : List Flow). AreSources fs c.args.self.now.spent.entries c.add-in-None.new.sums.entries)
    (sym (take_more c.args.flows.now c.args.place none c.requires.place))
    (from_outside (take c.args.place c.args.flows.now) flow c.amount_of-amount.result c.amount_of-amount.ensures c.amount_of-amount.type_inv
    c.args.self.now.spent.entries c.args.self.now.deposited.entries c.requires.sources c.in-None.is c.add-in-None.new.sums.entries c.in_ok-add-in-None.ensures)
