use Rattle.std.proofs.Common.{rules, ◌≡◌, List, ◌++◌, ℕ, ap, ◌∙◌}
use Rattle.std.specs.Prelude.{codes}
use Rattle.hex.specs.Hex.{encode_lower}
use Rattle.call_bytes.specs.Spelling as spelling
use Rattle.lasting_ledger.proofs.Words.{head_text, entry_joined}
use Rattle.lasting_ledger.proofs.answers.entry_text.Goals as goal

pub returns : goal.returns
returns c =
    let entry = c.args.entry.now in
    let end = codes "\"}\n" in
    let op : c.in_ok-op.op.bytes.items ≡ encode_lower c.args.op.now = search rules in
    let reply : c.in_ok-reply-2.reply.bytes.items ≡ encode_lower (spelling.reply entry.reply) = search rules in
    let head : c.into_bytes-text.result.items ≡ head_text entry.number entry.by c.in_ok-op.op.bytes.items c.in_ok-reply-2.reply.bytes.items =
    search rules in
    let all : c.extend_from_slice-2.new.self.items ≡ (c.into_bytes-text.result.items ++ c.args.words.now) ++ end = search rules in
    all ∙ ap (λ (l : List ℕ). (l ++ c.args.words.now) ++ end) head
    ∙ (λ i. (head_text entry.number entry.by (op i) (reply i) ++ c.args.words.now) ++ end)
    ∙ entry_joined entry.number entry.by c.args.op.now (spelling.reply entry.reply) c.args.words.now
