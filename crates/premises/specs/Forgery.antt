-- That nothing is forged, as a test.
use Rattle.std.specs.Prelude.{ℕ, Bool, true, not, ◌&&◌, ◌||◌, List, [], ◌∷◌, length, ◌↔◌, IsTrue}
use Rattle.std.specs.List.{list_all}
use Rattle.channel_values.specs.Rules.{Rules}
use Rattle.call_history.specs.declared.entry.Entry.{Entry}
use Rattle.channel_safety.specs.Journals.{Line}
use Rattle.channel_safety.specs.Premises.{Unforged}
use Rattle.premises.specs.Own.{Inscription, in_op, in_deed, is_signed, is_signed_by}

-- the signature isn't one of the key, or this holds of the string
abbrev pub is_own : Rules → List ℕ → (List ℕ → Bool) → Inscription → Bool
is_own r key own x = not (r.verifies key x.message x.signature) || own x.message

-- what verifies in an entry was signed by a line that had seen fewer entries
abbrev pub entries_are_own : Rules → List ℕ → List Line → List Entry → Bool
entries_are_own r key journal [] = true
entries_are_own r key journal (e ∷ past) =
    list_all (is_own r key (is_signed_by r journal (length past))) (in_op r e.op) && entries_are_own r key journal past

-- what verifies in a message was signed by an earlier line
abbrev pub messages_are_own : Rules → List ℕ → List Line → Bool
messages_are_own r key [] = true
messages_are_own r key (x ∷ front) =
    list_all (is_own r key (is_signed r front)) (in_deed r x.deed) && messages_are_own r key front

abbrev pub is_unforged : Rules → List ℕ → List Entry → List Line → Bool
is_unforged r key h journal = entries_are_own r key journal h && messages_are_own r key journal

-- the test says
abbrev pub ForgeryIsTold : Type 0
ForgeryIsTold = (r : Rules) (key : List ℕ) (h : List Entry) (journal : List Line)
    → IsTrue (is_unforged r key h journal) ↔ Unforged r key h journal
