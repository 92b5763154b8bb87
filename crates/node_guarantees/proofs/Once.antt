-- In a journal by the rules no index signs twice.
use Rattle.std.proofs.Common.{◌≡◌, ℕ, suc, ◌<◌, cond, List, [], ◌∷◌, ◌++◌, length, refl, sym, ap, ◌∙◌, inl, inr, arith}
use Rattle.std.specs.Prelude.{Option}
use Rattle.lms_signatures.specs.Calls.{index_of}
use Rattle.lms_signatures.proofs.StartRuns.{index_fits, index_of-made}
use Rattle.channel_values.specs.Messages.{message_of_state, message_of_challenge}
use Rattle.channel_safety.proofs.Lists.{Suffix, suffix_of}
use Rattle.call_history.specs.declared.entry.Entry.{Entry}
use Rattle.call_history.specs.declared.event.Deed.{Deed}
use Rattle.call_history.specs.declared.event.Deed.TheVariants as deeds
use Rattle.channel_safety.specs.Honest.{Honest}
use Rattle.channel_safety.specs.Journals.{In}
use Rattle.network.specs.declared.command.Command.{Command}
use Rattle.channel_node.specs.Keys.{FitsSigner}
use Rattle.channel_node.specs.Minds.{Mind}
use Rattle.channel_node.specs.Places.{Told, lines_of, mind_at}
use Rattle.channel_node.specs.Playing.{SignerOf, signing_of, is_signed, signings, pending, Allowed, Plays}
use Rattle.stage_tables.specs.Stages.{stages}
use Rattle.support_rules.specs.Real.{real}
use Rattle.node_guarantees.specs.Once.{Signature, signed_in, signed_by, AreCounted, NoIndexTwice}
use Rattle.node_guarantees.specs.Laws.{NoIndexSignsTwice}
use Rattle.node_guarantees.specs.Promised.{IsByRules, IsHonest}

-- ---- one signature

made-at : (s : SignerOf) → FitsSigner s → (q : ℕ) (message signature : List ℕ) → q < (signing_of s).limit → signature ≡ (signing_of s).made q message → index_of signature ≡ q
unfolding signing_of
made-at s fits q message signature lt is =
    ap index_of is ∙ index_of-made s.seed s.id s.h q message (index_fits s.h q fits.height lt)

-- ---- a journal

-- these are counted, and so many
record Counted (made : List Signature) (count : ℕ) : Type 0 where
  counted : AreCounted made
  long : length made ≡ count

one-more : (message signature : List ℕ) (before : List Signature) (used : ℕ) → index_of signature ≡ used → Counted before used
    → Counted (record { message = message; bytes = signature } ∷ before) (suc used)
one-more message signature before used is c = record { counted = (is ∙ sym c.long, c.counted); long = ap suc c.long }

module _ (s : SignerOf) (fits : FitsSigner s) where
  at-event : (past : List Entry) (m : Mind) (used : ℕ) (waits : Option Command) (deed : Deed) (command : Option Command) (before : List Signature)
      → Allowed stages real (signing_of s) past m used waits deed command → Counted before used
      → Counted (signed_in real deed ++ before) (cond (is_signed deed) (suc used) used)
  at-event past m used waits (deeds.Signed channel state signature) command before allowed c =
      one-more (message_of_state (real.digest channel state)) signature before used
      (made-at s fits used (message_of_state (real.digest channel state)) signature allowed.1 allowed.2) c
  at-event past m used waits (deeds.SignedChallenge channel state who signature) command before allowed c =
      one-more (message_of_challenge (real.digest channel state) who) signature before used
      (made-at s fits used (message_of_challenge (real.digest channel state) who) signature allowed.2 allowed.3) c
  at-event past m used waits (deeds.Commanded step refusal) command before allowed c = c
  at-event past m used waits (deeds.Handled bytes refusal) command before allowed c = c
  at-event past m used waits (deeds.Called call) command before allowed c = c
  at-event past m used waits (deeds.Watched watcher calls) command before allowed c = c

  all-counted : (h : List Entry) (events : List Told) → Plays stages real (signing_of s) h events → Counted (signed_by real events) (signings events)
  all-counted h [] plays = record { counted = tt; long = refl }
  all-counted h (x ∷ front) plays = at (suffix_of h x.seen plays.0.within) (all-counted h front plays.1)
    where
      at : Suffix h x.seen → Counted (signed_by real front) (signings front) → Counted (signed_by real (x ∷ front)) (signings (x ∷ front))
      at cut c =
          at-event cut.past (mind_at real (signing_of s).key cut.past front) (signings front) (pending front) x.deed x.command (signed_by real front)
          (plays.0.place cut.later cut.past cut.is cut.len).1 c

-- ---- what is counted has no index twice

below : (made : List Signature) → AreCounted made → (x : Signature) → In x made → index_of x.bytes < length made
below [] counted x i = absurd i
below (z ∷ before) counted x (inl e) =
    let is : index_of x.bytes ≡ length before = ap (λ (s : Signature). index_of s.bytes) e ∙ counted.0 in
    omega arith
below (z ∷ before) counted x (inr i) = let less : index_of x.bytes < length before = below before counted.1 x i in omega arith

apart : (made : List Signature) → AreCounted made → NoIndexTwice made
apart [] counted x y i j same = absurd i
apart (z ∷ before) counted x y (inl e) (inl f) same = e ∙ sym f
apart (z ∷ before) counted x y (inl e) (inr j) same =
    let is : index_of x.bytes ≡ length before = ap (λ (s : Signature). index_of s.bytes) e ∙ counted.0 in
    let less : index_of y.bytes < length before = below before counted.1 y j in
    absurd (omega arith)
apart (z ∷ before) counted x y (inr i) (inl f) same =
    let is : index_of y.bytes ≡ length before = ap (λ (s : Signature). index_of s.bytes) f ∙ counted.0 in
    let less : index_of x.bytes < length before = below before counted.1 x i in
    absurd (omega arith)
apart (z ∷ before) counted x y (inr i) (inr j) same = apart before counted.1 x y i j same

pub signs_once : NoIndexSignsTwice
signs_once h key events rules =
    let c = all-counted rules.signer rules.fits h events rules.plays in
    record { counted = c.counted; once = apart (signed_by real events) c.counted }

-- a journal that is honest and by the rules signs with no index twice
pub is_honest : (h : List Entry) (key : List ℕ) (events : List Told) → Honest real key h (lines_of key events) → IsByRules h key events → IsHonest h key events
is_honest h key events honest rules = record { lines_are = honest; by_rules = rules; once = signs_once h key events rules }
