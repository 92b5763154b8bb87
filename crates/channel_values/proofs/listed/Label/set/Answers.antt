use Rattle.std.proofs.Common.{◌≡◌, ◌<◌, false, true, length, get_or, sym, ap, subst, ◌∙◌, rules}
use Rattle.std.specs.Prelude.{string_bytes}
use Rattle.std.specs.Str.{IsUtf8}
use Rattle.std.proofs.lemmas.Str.{IsUtf8-string_bytes}
use Rattle.channel_values.proofs.Texts.{IsUtf8-set}
use Rattle.channel_values.proofs.listed.Label.set.Goals as goal

pub returns-in_default : goal.returns-in_default
returns-in_default c =
    let bytes = c.into_bytes-bytes.result.items in
    let was : bytes ≡ string_bytes c.replace.result = ap (λ (v : _). v.items) c.into_bytes-bytes.ensures.value in
    let kept : string_bytes c.replace.result ≡ c.args.self.now = search rules in
    let text : IsUtf8 bytes = subst IsUtf8 (sym was) (IsUtf8-string_bytes c.replace.result) in
    let same : bytes ≡ c.args.self.now = was ∙ kept in
    let inside : c.args.index < length bytes = rw same c.requires.inside in
    let ascii : get_or bytes c.args.index 0 < 128 = rw same c.requires.was_ascii in
    let never : false ≡ true = c.in_default.ensures.succeeds (IsUtf8-set bytes c.args.index c.args.byte text inside ascii c.requires.is_ascii) in
    absurd cc
