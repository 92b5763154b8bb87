-- Strings and the signatures on them, in an op and in a message; and which strings a journal's lines signed.
use Rattle.std.specs.Prelude.{ℕ, Bool, false, ◌&&◌, nat_le, List, [], ◌∷◌, ◌++◌, map, Option, Some, None, Result, Ok, Err}
use Rattle.std.specs.List.{list_any}
use Rattle.std.specs.Str.{bytes_eq}
use Rattle.channel_values.specs.Parts.{FixedParts}
use Rattle.channel_values.specs.declared.chain.Signed.{Signed}
use Rattle.channel_values.specs.declared.fault.ByteFault.{ByteFault}
use Rattle.channel_values.specs.Messages.{message_of_state, message_of_challenge}
use Rattle.channel_values.specs.Rules.{Rules, top_digest}
use Rattle.call_history.specs.Rows.{fixed_of}
use Rattle.call_history.specs.Spelling.{Message}
use Rattle.call_history.specs.Reading.{message_of}
use Rattle.call_history.specs.declared.call.Call.TheVariants.{Challenge}
use Rattle.call_history.specs.declared.call.Op.{Op}
use Rattle.call_history.specs.declared.call.Op.TheVariants as ops
use Rattle.call_history.specs.declared.event.Deed.{Deed}
use Rattle.call_history.specs.declared.event.Deed.TheVariants as deeds
use Rattle.channel_safety.specs.Journals.{Line}
use Rattle.channel_safety.specs.Strings.{signed_in, string_of}

-- a string that is signed, and the signature on it
pub record Inscription : Type 0 where
  pub message : List ℕ
  pub signature : List ℕ

-- of a signed state of the channel with this name
abbrev pub on_state : Rules → List ℕ → Signed → Inscription
on_state r channel s = record { message = message_of_state (r.digest channel s.state); signature = s.signature }

abbrev pub on_states : Rules → Option FixedParts → List Signed → List Inscription
on_states r None signed = []
on_states r (Some f) signed = map (on_state r (r.named f)) signed

-- the challenger's own
abbrev pub on_challenge : Rules → Op → List Inscription
on_challenge r (ops.Call (Challenge k)) =
    record {
      message = message_of_challenge (top_digest r k.chain.fixed k.chain.states) k.challenger;
      signature = k.signature;
    } ∷ []
on_challenge r _ = []

-- of an op
abbrev pub in_op : Rules → Op → List Inscription
in_op r op = on_challenge r op ++ on_states r (fixed_of op) (signed_in op)

abbrev pub in_message : Rules → Result Message ByteFault → List Inscription
in_message r (Ok message) = on_state r message.0 message.1 ∷ []
in_message r (Err fault) = []

-- of the message that a deed took
abbrev pub in_deed : Rules → Deed → List Inscription
in_deed r (deeds.Handled bytes refusal) = in_message r (message_of bytes)
in_deed r _ = []

-- the string is this one
abbrev pub is_string : Option (List ℕ) → List ℕ → Bool
is_string None message = false
is_string (Some own) message = bytes_eq own message

-- the line signed this string
abbrev pub signs : Rules → List ℕ → Line → Bool
signs r message x = is_string (string_of r x.deed) message

-- one of the lines did
abbrev pub is_signed : Rules → List Line → List ℕ → Bool
is_signed r journal message = list_any (signs r message) journal

-- one of the lines did that had seen at most so many entries
abbrev pub is_signed_by : Rules → List Line → ℕ → List ℕ → Bool
is_signed_by r journal seen message = list_any (λ x. nat_le x.seen seen && signs r message x) journal
