-- What an honest participant's journal keeps, on which safety rests: what it had seen, its own turns, held chains,
-- looks.
use Rattle.std.specs.Prelude.{◌≡◌, ℕ, ◌+◌, ◌<◌, ◌≤◌, true, false, List, [], ◌∷◌, ◌++◌, length, Option, Some, None}
use Rattle.std.specs.List.{slice_get}
use Rattle.channel_values.specs.Parts.{FixedParts, StateParts}
use Rattle.channel_values.specs.declared.chain.Signed.{Signed}
use Rattle.call_history.specs.declared.standing.Standing.TheVariants.{Open, Challenged}
use Rattle.channel_values.specs.Rows.{mover}
use Rattle.channel_values.specs.Rules.{Rules, people, newest, top_turn}
use Rattle.call_history.specs.History.{row, mode}
use Rattle.call_history.specs.Marked.{Marked, is_supported, chain_of}
use Rattle.call_history.specs.declared.call.Call.{Call}
use Rattle.call_history.specs.declared.call.Call.TheVariants.{Checkpoint}
use Rattle.call_history.specs.declared.entry.Entry.{Entry}
use Rattle.call_history.specs.declared.event.Deed.TheVariants as deeds
use Rattle.channel_safety.specs.Journals.{In, Line, opened, opens, made_in, noted_in, is_watched, is_challenge}
use Rattle.channel_safety.specs.Held.{held}

-- the key of the participant whose turn it is
abbrev pub key_at : FixedParts → ℕ → Option (List ℕ)
key_at f turn = slice_get f.keys (mover (people f) turn)

-- a supported chain is held, and ends with this state
pub record EndsWith (r : Rules) (f : FixedParts) (st : Option Marked) (s : StateParts) : Type 0 where
  pub chain : Marked
  pub is : st ≡ Some chain
  pub ends : newest chain.states ≡ Some s
  pub chain_supported : is_supported r f chain ≡ true

-- What the line x keeps in the channel f, where `past` is what it had seen and `front` the journal before it.
pub record HonestAt (r : Rules) (key : List ℕ) (f : FixedParts) (past : List Entry) (x : Line) (front : List Line)
    : Type 0 where
  -- a channel is opened once, by one of its participants
  pub opening : opens r (r.named f) x ≡ true → held r f past front ≡ None
  pub takes_part : In f (opened x) → (me : ℕ) × (slice_get f.keys me ≡ Some key)
  -- what it signs is of a channel of the plan that is open, at its turn, and above what it signed there before
  pub in_plan : (s : Signed) → made_in (r.named f) x.deed ≡ Some s → (w : Marked) × (held r f past front ≡ Some w)
  pub is_open : (s : Signed) → made_in (r.named f) x.deed ≡ Some s → mode r (r.named f) past ≡ Open
  pub own_turn : (s : Signed) → made_in (r.named f) x.deed ≡ Some s → key_at f s.state.turn ≡ Some key
  pub above :
      (s : Signed) → made_in (r.named f) x.deed ≡ Some s
      → (y : Line) (t : Signed) → In y front → made_in (r.named f) y.deed ≡ Some t → t.state.turn < s.state.turn
  -- from turn n-1 on it holds a chain that ends with what it signed, or took from a message
  pub holds :
      (s : Signed) → noted_in (r.named f) x.deed ≡ Some s → people f ≤ s.state.turn + 1
      → EndsWith r f (held r f past (x ∷ front)) s.state
  -- it challenges with the chain that it holds, and signs no state from then on
  pub challenges :
      (s : StateParts) (who : ℕ) (signature : List ℕ) → x.deed ≡ deeds.SignedChallenge (r.named f) s who signature
      → EndsWith r f (held r f past front) s
  pub leaves : (s : Signed) → made_in (r.named f) x.deed ≡ Some s → (y : Line) → In y front
      → is_challenge y.deed ≡ false
  -- a look gives a checkpoint with the chain that is held, where the channel is challenged below it
  pub looks :
      (watcher : ℕ) (calls : List Call) (w : Marked) → x.deed ≡ deeds.Watched watcher calls
      → held r f past front ≡ Some w
      → is_supported r f w ≡ true → mode r (r.named f) past ≡ Challenged
      → (row r (r.named f) past).turn < top_turn w.states
      → In (Checkpoint (chain_of f w)) calls

-- And it had seen no more than there is; nothing but a look had seen more than what comes after it.
pub record HonestLine (r : Rules) (key : List ℕ) (f : FixedParts) (h : List Entry) (x : Line) (front : List Line)
    : Type 0 where
  pub within : x.seen ≤ length h
  pub rising : (y : Line) → In y front → is_watched y.deed ≡ false → y.seen ≤ x.seen
  pub place : (later past : List Entry) → h ≡ later ++ past → length past ≡ x.seen → HonestAt r key f past x front

abbrev pub HonestIn : Rules → List ℕ → FixedParts → List Entry → List Line → Type 0
HonestIn r key f h [] = Unit {0}
HonestIn r key f h (x ∷ front) = HonestLine r key f h x front × HonestIn r key f h front

-- in each channel that the journal opens
abbrev pub Honest : Rules → List ℕ → List Entry → List Line → Type 0
Honest r key h journal = (f : FixedParts) (x : Line) → In x journal → In f (opened x) → HonestIn r key f h journal

-- the participant with this key is in each channel that a line opens
abbrev pub TakesPart : List ℕ → List Line → Type 0
TakesPart key journal =
    (x : Line) (f : FixedParts) → In x journal → In f (opened x) → (me : ℕ) × (slice_get f.keys me ≡ Some key)
