use Rattle.std.proofs.Common.{List, None, take, slice_index_or, [], sym, subst}
use Rattle.std.proofs.lemmas.List.{take_more}
use Rattle.channel_values.specs.declared.value.Dest.TheVariants.{Person, Channel}
use Rattle.call_history.specs.Flows.{brings}
use Rattle.call_history.specs.declared.funds.Flow.{Flow}
use Rattle.asset_holder.specs.Sums.{AreReceipts, pays_person}
use Rattle.asset_holder.proofs.Fronts.{brings_part, pays_part, fits_more}
use Rattle.asset_holder.proofs.Adding.{by_channel, by_person}
use Rattle.asset_holder.proofs.receipts.Receipts.receive.Goals as goal

abbrev none : Flow
none = record { from = None; to = Person []; asset = 0; amount = 0 }

pub add-requires : goal.add-requires
add-requires c =
    let flow : Flow = slice_index_or c.args.flows.now c.args.place none in
    fits_more (brings (Channel c.in-Channel.channel) flow.asset) (brings_part (Channel c.in-Channel.channel) flow.asset) c.args.flows.now c.args.place _ c.amount_of-amount.result
    c.requires.place c.ranges.place.fits c.requires.receipts.small c.amount_of-amount.type_inv (c.requires.receipts.to_channels (c.in-Channel.channel, flow.asset))

pub add-requires-in-Person : goal.add-requires-in-Person
add-requires-in-Person c =
    let flow : Flow = slice_index_or c.args.flows.now c.args.place none in
    fits_more (brings (Person c.in-Person.person) flow.asset) (brings_part (Person c.in-Person.person) flow.asset) c.args.flows.now c.args.place _ c.amount_of-amount.result
    c.requires.place c.ranges.place.fits c.requires.receipts.small c.amount_of-amount.type_inv (c.requires.receipts.to_persons (c.in-Person.person, flow.asset))

pub add-requires-in-Person-2 : goal.add-requires-in-Person-2
add-requires-in-Person-2 c =
    let flow : Flow = slice_index_or c.args.flows.now c.args.place none in
    fits_more (pays_person flow.asset) (pays_part flow.asset) c.args.flows.now c.args.place _ c.amount_of-amount.result
    c.requires.place c.ranges.place.fits c.requires.receipts.small c.amount_of-amount.type_inv (c.requires.receipts.to_all flow.asset)

pub returns-in_ok-add-in-Channel : goal.returns-in_ok-add-in-Channel
returns-in_ok-add-in-Channel c =
    let flow : Flow = slice_index_or c.args.flows.now c.args.place none in
    subst (λ (fs : List Flow). AreReceipts fs c.note.new.pairs.items c.add.new.sums.entries c.args.self.now.persons.entries c.args.self.now.paid.entries)
    (sym (take_more c.args.flows.now c.args.place none c.requires.place))
    (by_channel (take c.args.place c.args.flows.now) flow c.amount_of-amount.result c.amount_of-amount.ensures c.amount_of-amount.type_inv
    c.args.self.now.pairs.items c.note.new.pairs.items c.args.self.now.channels.entries c.args.self.now.persons.entries c.args.self.now.paid.entries c.requires.receipts
    c.in-Channel.channel c.in-Channel.is c.add.new.sums.entries c.is_known-is_known.result c.is_known-is_known.ensures c.in_ok-note-in-Channel.ensures c.in_ok-add-in-Channel.ensures)

pub returns-in_ok-add-in-Person-2 : goal.returns-in_ok-add-in-Person-2
returns-in_ok-add-in-Person-2 c =
    let flow : Flow = slice_index_or c.args.flows.now c.args.place none in
    subst (λ (fs : List Flow). AreReceipts fs c.note-in-Person.new.pairs.items c.args.self.now.channels.entries c.add-in-Person.new.sums.entries c.add-in-Person-2.new.sums.entries)
    (sym (take_more c.args.flows.now c.args.place none c.requires.place))
    (by_person (take c.args.place c.args.flows.now) flow c.amount_of-amount.result c.amount_of-amount.ensures c.amount_of-amount.type_inv
    c.args.self.now.pairs.items c.note-in-Person.new.pairs.items c.args.self.now.channels.entries c.args.self.now.persons.entries c.args.self.now.paid.entries c.requires.receipts
    c.in-Person.person c.in-Person.is c.add-in-Person.new.sums.entries c.add-in-Person-2.new.sums.entries
    c.is_known-is_known-in-Person.result c.is_known-is_known-in-Person.ensures c.in_ok-note-in-Person.ensures c.in_ok-add-in-Person.ensures c.in_ok-add-in-Person-2.ensures)
