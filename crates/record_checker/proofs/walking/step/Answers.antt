use Rattle.std.proofs.Common.{◌≡◌, true, ◌∙◌, rules, arith}
use Rattle.std.proofs.lemmas.Bool.{not-false}
use Rattle.call_history.specs.History.{newest_first}
use Rattle.record_checker.proofs.Walks.{is_next, next_legal, goes_on}
use Rattle.record_checker.proofs.walking.step.Goals as goal

pub note-requires : goal.note-requires
note-requires c =
    let t : c.in_ok-is_next.field-0 ≡ true = search (rules, not-false, c.if-not-branch.false) in
    omega (arith, (c.in_ok-is_next.ensures.0 t).0, c.requires)

pub returns : goal.returns
returns c g walked counted =
    let stood = c.reserve.ensures.stands (newest_first g) walked.past.stands in
    let t : c.in_ok-is_next.field-0 ≡ true = search (rules, not-false, c.if-not-branch.false) in
    let same = c.in_ok-is_next.ensures.0 t in
    let next = is_next g c.args.entry.now c.args.number c.apply-reply.result counted same.0 same.1 (c.apply-reply.ensures.reply (newest_first g) stood) in
    goes_on g c.args.entry.now c.apply-reply.result c.reserve.new.self c.apply-reply.new.self c.note.new.rests.entries c.args.flows.now.items c.add_flow.new.flows.items walked.legal walked.flow stood same.1 next c.apply-reply.ensures
    (c.in_ok-note.ensures (newest_first g) (c.now-now.ensures ∙ stood.now) (next_legal g c.args.entry.now walked.legal next) walked.past.left) c.in_ok-add_flow.ensures
