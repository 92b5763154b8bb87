use Rattle.std.proofs.Common.{List, [], ◌∷◌, ◌++◌, sym, ◌∙◌, ap, arith, append_assoc}
use Rattle.call_history.specs.declared.call.Call.{Call}
use Rattle.network_rounds.proofs.Works.{first_of, entered_more}
use Rattle.network_rounds.proofs.callers.enter_all.Goals as goal

pub loop-alloc-preserved : goal.loop-alloc-preserved
loop-alloc-preserved g c =
    let i = c.loop-alloc.invariant in
    let call = c.remove-call.result in
    let rest = c.remove-call.new.self.items in
    let front = first_of c.loop-alloc.calls.items call (omega (arith, c.remove-call.ensures.len, c.loop-alloc.calls.ok.0)) c.remove-call.ensures.value ∙ ap (λ (l : List Call). call ∷ l) (sym c.remove-call.ensures.items) in record {
      book = c.in_ok-enter.ensures.book ∙ i.book;
      done = (
        i.done.0 ++ call ∷ [],
        i.done.1 ∙ (ap (λ (l : List Call). i.done.0 ++ l) front ∙ sym (append_assoc i.done.0 (call ∷ []) rest)),
        entered_more _ i.done.0 call _ _ _ i.done.2 c.in_ok-enter.ensures.works,
      );
    }
