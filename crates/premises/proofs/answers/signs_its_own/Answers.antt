use Rattle.std.proofs.Common.{◌≡◌, Bool, ◌&&◌, List, map, sym, ◌∙◌, ap}
use Rattle.support_rules.specs.Real.{real}
use Rattle.premises.specs.Strings.{own_of, entries_pass, messages_pass}
use Rattle.premises.specs.declared.forgery.Own.{Own}
use Rattle.premises.proofs.Orders.{unforged-answered}
use Rattle.premises.proofs.answers.signs_its_own.Goals as goal
use Rattle.premises.proofs.answers.signs_its_own.Goals.{then-entries, else-entries}

pub returns : goal.returns
returns c =
    let key = c.args.key.now in
    let h = c.args.history.now in
    let j = c.args.journal.now in
    let own = map (own_of real) j in
    let p = entries_pass real key own 0 h in
    let q = messages_pass real key own 0 j in
    let messages : c.in_ok-messages.messages ≡ q =
    c.in_ok-messages.ensures ∙ ap (λ (o : List Own). messages_pass real key o 0 j) (c.deref.ensures.value ∙ c.in_ok-own.ensures) in
    let entries : c.entries_are_own-entries.result ≡ p =
    c.entries_are_own-entries.ensures ∙ ap (λ (o : List Own). entries_pass real key o 0 h) (c.deref-2.ensures.value ∙ c.in_ok-own.ensures) in
    let whole : c.if-entries.result ≡ (p && q) =
    elim c.if-entries.branch [
      | then-entries w ↦ w.result-is ∙ (messages ∙ ap (λ (b : Bool). b && q) (sym (sym entries ∙ w.if-entries.true)))
      | else-entries w ↦ w.result-is ∙ (w.if-entries.false ∙ ap (λ (b : Bool). b && q) (sym (sym entries ∙ w.if-entries.false)))
    ] in
    unforged-answered real key h j c.if-entries.result whole
