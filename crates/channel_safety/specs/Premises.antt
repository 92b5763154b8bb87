-- The premises on a history and a journal: nothing forged, no collision, all values valid, and watchers in time.
use Rattle.std.specs.Prelude.{◌≡◌, ℕ, ◌+◌, ◌<◌, ◌≤◌, true, false, List, ◌∷◌, ◌++◌, length, Option, Some, Ok}
use Rattle.channel_values.specs.Parts.{FixedParts}
use Rattle.channel_values.specs.declared.chain.Chain.{Chain}
use Rattle.channel_values.specs.declared.chain.Signed.{Signed}
use Rattle.channel_values.specs.Messages.{message_of_state, message_of_challenge}
use Rattle.channel_values.specs.Rules.{Rules, top_digest}
use Rattle.call_history.specs.Rows.{fixed_of}
use Rattle.call_history.specs.History.{time_set, now_of, is_named, turning}
use Rattle.call_history.specs.Reading.{message_of}
use Rattle.call_history.specs.Calls.{make_challenge}
use Rattle.call_history.specs.declared.call.Call.{Call}
use Rattle.call_history.specs.declared.call.Op.TheVariants as ops
use Rattle.call_history.specs.declared.entry.Entry.{Entry}
use Rattle.call_history.specs.declared.event.Deed.TheVariants as deeds
use Rattle.call_history.specs.declared.event.NodeRefusal.{NodeRefusal}
use Rattle.channel_safety.specs.Journals.{In, Line, noted_in}
use Rattle.channel_safety.specs.Strings.{signed_in, WasSigned, WasSignedBy}

-- ---- nothing forged

-- What verifies under the key in an entry was signed by a line of the journal that had seen less, and what does in a
-- message by an earlier line.
pub record Unforged (r : Rules) (key : List ℕ) (h : List Entry) (journal : List Line) : Type 0 where
  pub states :
      (later past : List Entry) (e : Entry) (f : FixedParts) (s : Signed)
      → h ≡ later ++ e ∷ past → fixed_of e.op ≡ Some f → In s (signed_in e.op)
      → r.verifies key (message_of_state (r.digest (r.named f) s.state)) s.signature ≡ true
      → WasSignedBy r journal (length past) (message_of_state (r.digest (r.named f) s.state))
  pub challenges :
      (later past : List Entry) (e : Entry) (chain : Chain) (who : ℕ) (signature : List ℕ)
      → h ≡ later ++ e ∷ past → e.op ≡ ops.Call (make_challenge chain who signature)
      → r.verifies key (message_of_challenge (top_digest r chain.fixed chain.states) who) signature ≡ true
      → WasSignedBy r journal (length past) (message_of_challenge (top_digest r chain.fixed chain.states) who)
  pub messages :
      (newer front : List Line) (x : Line) (bytes : List ℕ) (refusal : Option NodeRefusal) (channel : List ℕ)
      (s : Signed)
      → journal ≡ newer ++ x ∷ front → x.deed ≡ deeds.Handled bytes refusal → message_of bytes ≡ Ok (channel, s)
      → r.verifies key (message_of_state (r.digest channel s.state)) s.signature ≡ true
      → WasSigned r front (message_of_state (r.digest channel s.state))

-- ---- no collision

-- ---- valid values: what the types of entries and events say of what they hold

-- ---- in time

-- the challenge m, with the entries mid after it, runs out at e: no turning entry stands between, and e is the first
-- to reach its deadline
pub record RunsOut (r : Rules) (channel : List ℕ) (e : Entry) (mid : List Entry) (m : Entry) (past : List Entry)
    : Type 0 where
  pub chain : Chain
  pub who : ℕ
  pub signature : List ℕ
  pub time : ℕ
  pub challenge : m.op ≡ ops.Call (make_challenge chain who signature)
  pub turns : turning r channel m ≡ true
  pub quiet : (q : Entry) → In q mid → turning r channel q ≡ false
  pub first : (q : Entry) (t : ℕ) → In q mid → time_set q.op q.reply ≡ Some t → t < now_of past + chain.fixed.duration
  pub ends : time_set e.op e.reply ≡ Some time
  pub late : now_of past + chain.fixed.duration ≤ time

-- One look that had seen the challenge and not its end, after every state of the channel that was noted before the
-- end. Its calls for the channel were entered between what it had seen and the end.
pub record Looked (r : Rules) (channel : List ℕ) (journal : List Line) (mid : List Entry) (m : Entry)
    (past : List Entry) : Type 0 where
  pub newer : List Line
  pub front : List Line
  pub line : Line
  pub watcher : ℕ
  pub calls : List Call
  pub split : journal ≡ newer ++ line ∷ front
  pub deed : line.deed ≡ deeds.Watched watcher calls
  pub after : List Entry
  pub before : List Entry
  pub between : mid ≡ after ++ before
  pub saw : line.seen ≡ length (before ++ m ∷ past)
  pub noted_before :
      (x : Line) (s : Signed) → In x newer → noted_in channel x.deed ≡ Some s → length (mid ++ m ∷ past) < x.seen
  pub entered : (call : Call) → In call calls → is_named r channel (fixed_of (ops.Call call)) ≡ true
      → (q : Entry) × (In q after) × (q.op ≡ ops.Call call)

-- There is such a look at each challenge that runs out of a channel in which the participant had noted a state by then.
abbrev pub InTime : Rules → List Entry → List Line → Type 0
InTime r h journal =
    (later mid past : List Entry) (e m : Entry) (f : FixedParts) (x : Line) (s : Signed)
    → h ≡ later ++ e ∷ (mid ++ m ∷ past) → RunsOut r (r.named f) e mid m past
    → In x journal → noted_in (r.named f) x.deed ≡ Some s → x.seen ≤ length (mid ++ m ∷ past)
    → Looked r (r.named f) journal mid m past
