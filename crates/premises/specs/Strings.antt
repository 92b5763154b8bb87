-- What a participant signed, event by event, and the tests of forgery in the order of time.
use Rattle.std.specs.Prelude.{ℕ, suc, Bool, true, ◌&&◌, nat_le, List, [], ◌∷◌, take}
use Rattle.std.specs.List.{list_any, list_all}
use Rattle.channel_values.specs.Rules.{Rules}
use Rattle.call_history.specs.declared.entry.Entry.{Entry}
use Rattle.call_history.specs.declared.event.Event.{Event}
use Rattle.channel_safety.specs.Strings.{string_of}
use Rattle.premises.specs.Own.{Inscription, in_op, in_deed, is_string}
use Rattle.premises.specs.Forgery.{is_own}
use Rattle.premises.specs.declared.forgery.Own.{Own}

-- the string that an event signed, and what it had seen
abbrev pub own_of : Rules → Event → Own
own_of r x = record { seen = x.seen; message = string_of r x.deed }

-- one of these is the string
abbrev pub told : List Own → List ℕ → Bool
told own message = list_any (λ o. is_string o.message message) own

-- one of these is the string, and had seen at most so many entries
abbrev pub told_by : List Own → ℕ → List ℕ → Bool
told_by own seen message = list_any (λ o. nat_le o.seen seen && is_string o.message message) own

-- what verifies among the strings of an op after so many entries was signed by then
abbrev pub op_passes : Rules → List ℕ → List Own → ℕ → List Inscription → Bool
op_passes r key own seen strings = list_all (is_own r key (told_by own seen)) strings

-- what verifies among the strings of a message was signed
abbrev pub message_passes : Rules → List ℕ → List Own → List Inscription → Bool
message_passes r key own strings = list_all (is_own r key (told own)) strings

-- of each entry in the order of time, the first of which comes after so many
abbrev pub entries_pass : Rules → List ℕ → List Own → ℕ → List Entry → Bool
entries_pass r key own seen [] = true
entries_pass r key own seen (e ∷ rest) =
    op_passes r key own seen (in_op r e.op) && entries_pass r key own (suc seen) rest

-- of each event in the order of time, the first of which comes after so many
abbrev pub messages_pass : Rules → List ℕ → List Own → ℕ → List Event → Bool
messages_pass r key own place [] = true
messages_pass r key own place (x ∷ rest) =
    message_passes r key (take place own) (in_deed r x.deed) && messages_pass r key own (suc place) rest
