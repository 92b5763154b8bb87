use Rattle.std.proofs.Common.{rules, ◌≡◌, [], ap, ◌∙◌, string_bytes}
use Rattle.call_history.specs.declared.call.Call.{Call}
use Rattle.call_history.specs.declared.call.Op.TheVariants as ops
use Rattle.call_history.specs.declared.entry.Entry.{Entry}
use Rattle.call_history.specs.declared.refusal.Reply.TheVariants.{Held}
use Rattle.report_lines.specs.Text.{call_text, entry_line}
use Rattle.node_lines.proofs.Words.{surrounded}
use Rattle.node_lines.proofs.calls.line_with.Goals as goal

abbrev entry_with : Call → Entry
entry_with call = record { number = 0; by = 0; op = ops.Call call; reply = Held 0 }

pub returns : goal.returns
returns c =
    let call : c.in_ok-copy.field-0 ≡ c.args.call.now = search rules in
    let line : string_bytes c.in_ok-line.line ≡ entry_line [] (entry_with c.in_ok-copy.field-0) = search rules in
    line ∙ ap (λ (call : Call). entry_line [] (entry_with call)) call ∙ surrounded (call_text [] c.args.call.now)
