use Rattle.std.proofs.Common.{◌≡◌, ◌+◌, [], ◌∷◌, ◌++◌, suc, length, sym, ◌∙◌, ap, subst, arith}
use Rattle.std.proofs.lemmas.List.{length-reverse, reverse-append}
use Rattle.call_history.specs.History.{Legal, newest_first}
use Rattle.call_history.specs.declared.entry.Entry.{Entry}
use Rattle.support_rules.specs.Real.{real}
use Rattle.adjudicator.specs.Standing.{StandsFor}
use Rattle.sequential_ledger.proofs.ledger.LedgerDocket.enter.Goals as goal

pub invariant_of-self-2 : goal.invariant_of-self-2
invariant_of-self-2 c =
    let history = c.self.inside.history.items in
    let past = newest_first history in
    let stood = c.reserve.ensures.stands past c.self.invariant.stands in
    let number : c.len.result + 1 ≡ suc (length past) = omega (arith, length-reverse history, c.len.ensures, ap length c.reserve-2.ensures.items) in
    let entry : Entry = record { number = c.len.result + 1; by = c.args.by; op = c.args.op; reply = c.apply-reply.result } in
    let pushed = ap newest_first (c.push_reserved.ensures.items ∙ ap (λ items. items ++ entry ∷ []) c.reserve-2.ensures.items) ∙ reverse-append history (entry ∷ []) in
    record {
      stands = subst (λ es. StandsFor real es c.apply-reply.new.self) (sym pushed) (c.apply-reply.ensures.stands past (c.len.result + 1) c.args.by stood);
      legal = subst (Legal real) (sym pushed) (c.self.invariant.legal, number, c.apply-reply.ensures.reply past stood);
      few = omega (arith, ap length pushed, ap length c.self.view_is, c.requires);
    }
