use Rattle.std.proofs.Common.{rules, ◌≡◌, ◌≤◌, ◌∙◌, length, true}
use Rattle.std.specs.Str.{all_ascii_digits}
use Rattle.command_words.proofs.Numbers.{reads}
use Rattle.command_words.proofs.number.number.Goals as goal

pub returns : goal.returns
returns c =
    let short : length c.args.text.now ≤ 20 = search rules in
    let digits : all_ascii_digits c.args.text.now ≡ true = search rules in
    c.ok.ensures.value ∙ reads c.args.text.now c.parse.result short digits c.parse.ensures.value.0
