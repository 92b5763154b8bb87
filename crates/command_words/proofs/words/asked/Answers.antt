use Rattle.std.proofs.Common.{rules, ◌≡◌, ◌∙◌, ◌<◌, ap, codes, flat_map, length, map, sym, true}
use Rattle.std.specs.Str.{bytes_eq}
use Rattle.std.proofs.lemmas.Result.{IfOk-weaker}
use Rattle.command_words.specs.Words.{load_in, parts_of}
use Rattle.command_words.proofs.Loads.{asked-load}
use Rattle.command_words.proofs.words.asked.Goals as goal

pub returns-in_ok-texts-in-len1-up : goal.returns-in_ok-texts-in-len1-up
returns-in_ok-texts-in-len1-up c =
    let some : 0 < length c.args.words.now = search rules in
    let is : bytes_eq c.word-item-2.result (codes "load") ≡ true = search rules in
    let rest = ap (map (λ word. word.now)) c.deref.ensures.value ∙ c.in_ok-texts-in-len1-up.ensures in
    IfOk-weaker c.read_load.result _ _
    (λ a e. e ∙ ap (λ l. load_in (flat_map parts_of l)) rest ∙ sym (asked-load c.args.words.now c.word-item-2.result some c.word-item-2.is is)) c.read_load.ensures
