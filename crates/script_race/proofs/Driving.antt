-- What the driver's calls make of its seat, which has the whole of the book.
use Rattle.std.proofs.Common.{◌≡◌, ℕ, suc, List, [], ◌∷◌, ◌++◌, length, drop, refl, ◌∙◌, ap, arith, append-nil, length-append}
use Rattle.call_history.specs.History.{newest_first, reply_to}
use Rattle.call_history.specs.declared.call.Op.{Op}
use Rattle.call_history.specs.declared.entry.Entry.{Entry}
use Rattle.call_history.specs.declared.refusal.Reply.{Reply}
use Rattle.shared_object.specs.Caller.{BookId, Caller, IsCaller, Enters, Looks, opening, whole}
use Rattle.adjudicator.specs.Shared.{entry_after}
use Rattle.network_rounds.specs.Races.{entered_on}
use Rattle.script_race.specs.Driving.{EntersOp, HasLookedOn}
use Rattle.support_rules.specs.Real.{real}

-- nobody has seen anything
pub opens : (book : BookId) → IsCaller {E = Entry} (opening book)
opens book = record { some_part = omega arith; at_most = omega arith; within = λ k lt. omega (arith, lt); few = omega arith; all = λ e k. refl }

pub enters_op : (op : Op) (number : ℕ) (reply : Reply) (c d : Caller Entry) → c.part ≡ whole → IsCaller d → Enters (entry_after real) (λ (e : Entry). e.reply) 0 op number reply c d → EntersOp op c d
enters_op op number reply c d all sound e = record { book = e.book; part = e.part; sound = sound; seen = seen; legal = e.legal }
  where
    seam : c.seen ++ e.between ≡ c.seen
    seam = ap (λ (l : List Entry). c.seen ++ l) (e.alone all) ∙ append-nil c.seen

    count : number ≡ suc (length c.seen)
    count = omega (arith, e.number_is, ap length e.seen, length-append (c.seen ++ e.between) (e.entry ∷ []), ap length seam)

    entry : e.entry ≡ record { number = suc (length c.seen); by = 0; op = op; reply = reply_to real (newest_first c.seen) op }
    entry = e.gave ∙ (λ i. record { number = count i; by = 0; op = op; reply = reply_to real (newest_first (seam i)) op })

    seen : d.seen ≡ entered_on c.seen op
    seen = e.seen ∙ (λ i. seam i ++ entry i ∷ [])

pub looks_on : (c d : Caller Entry) → c.part ≡ whole → IsCaller d → Looks (entry_after real) c d → HasLookedOn c d
looks_on c d all sound l = record { book = l.later.book; part = l.later.part; sound = sound; seen = l.alone all }

pub looks_from : (from : ℕ) (entries : List Entry) (c d : Caller Entry) → c.part ≡ whole → Looks (entry_after real) c d → entries ≡ drop from d.seen → entries ≡ drop from c.seen
looks_from from entries c d all l e = e ∙ ap (λ (l : List Entry). drop from l) (l.alone all)
