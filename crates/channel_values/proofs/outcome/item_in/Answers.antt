use Rattle.std.proofs.Common.{◌≡◌, ◌∙◌, ap}
use Rattle.channel_values.specs.Flat.{assets_of}
use Rattle.channel_values.specs.Items.{item_of}
use Rattle.channel_values.proofs.Format.{read_is, read_fails}
use Rattle.channel_values.proofs.Formats.{outcome_format}
use Rattle.channel_values.proofs.outcome.item_in.Goals as goal

pub returns-in-Ok-clause-found : goal.returns-in-Ok-clause-found
returns-in-Ok-clause-found c o valid e =
    let same : assets_of c.as_slice.result.now ≡ o = ap assets_of c.as_slice.ensures.value ∙ read_is outcome_format c.args.bytes.now (assets_of c.in-Ok.assets.items) o c.in-Ok.ensures valid e in
    c.item_among.ensures ∙ ap (item_of c.args.asset c.args.place) same

pub returns-in-Err-clause-found : goal.returns-in-Err-clause-found
returns-in-Err-clause-found c o valid e = absurd (read_fails outcome_format c.args.bytes.now c.in-Err.field-0 o c.in-Err.ensures valid e)
