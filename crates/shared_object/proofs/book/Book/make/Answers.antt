use Rattle.std.proofs.Common.{List, [], ◌∷◌, Option, sym, subst}
use Rattle.atomic_table.specs.Table.{opening}
use Rattle.shared_object.specs.declared.desk.Desk.{Desk}
use Rattle.shared_object.specs.Turns.{IsKept, newcomer}
use Rattle.shared_object.proofs.Steps.{opens}
use Rattle.shared_object.proofs.book.Book.make.Goals as goal

pub new-requires-2 : goal.new-requires-2
new-requires-2 g c =
    let P : List (Option (Desk g.row.O.Denot g.row.O-Entry.Denot)) → Type 0 = λ xs. IsKept g.O.OneThread.stands g.O.OneThread.gives (opening (0 ∷ 0 ∷ 0 ∷ []) xs newcomer) in
    subst P (sym c.in_ok-slots.ensures) (opens g.O.OneThread.stands g.O.OneThread.gives _ c.new.ensures.items c.requires)
