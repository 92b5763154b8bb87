-- What a node refuses: by the formats of messages, and by the lines of the table in their order.
use Rattle.std.proofs.Common.{◌≡◌, ℕ, Bool, true, false, List, ◌∷◌, ◌++◌, refl, sym, ◌∙◌, ap, eqb-true, eq-eqb}
use Rattle.std.specs.Prelude.{take, Option, Some, None, Ok, ◌==◌, not, is_some}
use Rattle.channel_values.specs.declared.chain.Signed.{Signed}
use Rattle.channel_values.proofs.Format.{trailing_fails}
use Rattle.channel_values.proofs.Fronts.{fronts_cut}
use Rattle.channel_values.specs.Rules.{Rules, is_signed_well}
use Rattle.channel_values.specs.Words.{fault_if, ◌⊳◌}
use Rattle.channel_values.proofs.Lines.{both_none, unbroken, not_not}
use Rattle.call_history.specs.Reading.{message_of}
use Rattle.call_history.specs.Spelling.{message}
use Rattle.call_history.specs.declared.event.NodeRefusal.{NodeRefusal}
use Rattle.call_history.specs.declared.event.NodeRefusal.TheVariants.{BadBytes, NotNext, BadSignature, NotAStep, NotWanted}
use Rattle.call_history.proofs.Formats.{message_format}
use Rattle.call_bytes.proofs.Fronts.{message_on}
use Rattle.channel_store.specs.Keeping.{is_ended, next_of, step_of}
use Rattle.channel_store.specs.Storing.{kept_of}
use Rattle.channel_store.specs.declared.kept.Kept.{Kept}
use Rattle.channel_node.specs.Tables.{Tables}
use Rattle.channel_node.specs.Minds.{Mind, facts_of}
use Rattle.channel_node.specs.Nodes.{NodeOf, handled}
use Rattle.channel_node.specs.Refusing.{not_open, has_left, stage_of, state_refusal, message_refusal}
use Rattle.channel_node.specs.MessageLaws.{with_refused, Refuses, FrontsAreRefused, TrailingIsRefused, with_signature, ComesNext, BadSignaturesAreTold, TakenOnesAreSigned}

-- ---- what a refusal leaves

one-line : (t : Tables) (r : Rules) (bytes : List ℕ) (n : NodeOf) (refusal : NodeRefusal) → message_refusal t r n.mind (message_of bytes) ≡ Some refusal
    → handled t r bytes n ≡ with_refused bytes refusal n
one-line t r bytes n refusal e = rw e refl

pub refuses : (t : Tables) (r : Rules) (bytes : List ℕ) (refusal : NodeRefusal) (n : NodeOf) → message_refusal t r n.mind (message_of bytes) ≡ Some refusal
    → Refuses t r bytes refusal n
refuses t r bytes refusal n e = record { told = e; left = one-line t r bytes n refusal e }

-- ---- bytes that aren't a message

pub fronts_are_refused : FrontsAreRefused
fronts_are_refused t r node v n valid lt =
    refuses t r (take n (message v)) BadBytes node (ap (message_refusal t r node.mind) (fronts_cut message_format message_on v n valid lt))

pub trailing_is_refused : TrailingIsRefused
trailing_is_refused t r node v b more valid =
    refuses t r (message v ++ b ∷ more) BadBytes node (ap (message_refusal t r node.mind) (trailing_fails message_format v b more valid))

-- ---- lines

-- a line that holds is passed, and one that doesn't is the answer
passed : {E : Type 0} (line rest : Option E) (fault : E) → line ≡ None → rest ≡ Some fault → (line ⊳ rest) ≡ Some fault
passed None rest fault none found = found
passed (Some x) rest fault none found = absurd cc

kept_line : {E : Type 0} (b : Bool) (fault : E) → b ≡ false → fault_if b fault ≡ None
kept_line true fault e = absurd cc
kept_line false fault e = refl

broken_line : {E : Type 0} (b : Bool) (fault : E) (rest : Option E) → b ≡ false → (fault_if (not b) fault ⊳ rest) ≡ Some fault
broken_line true fault rest e = absurd cc
broken_line false fault rest e = refl

-- the lines from that on the signature on
abbrev last_lines : Tables → Rules → Mind → List ℕ → Signed → Kept → Option NodeRefusal
last_lines t r m channel s k =
    fault_if (is_some (step_of r k s.state)) NotAStep
    ⊳ has_left m
    ⊳ fault_if (not (t.accepts (facts_of m) channel s.state)) (NotWanted (stage_of t (facts_of m) (t.asked (facts_of m) channel)))

abbrev signature_lines : Tables → Rules → Mind → List ℕ → Signed → Kept → Option NodeRefusal
signature_lines t r m channel s k = fault_if (not (is_signed_well r k.chain.fixed s)) BadSignature ⊳ last_lines t r m channel s k

abbrev turn_lines : Tables → Rules → Mind → List ℕ → Signed → Kept → Option NodeRefusal
turn_lines t r m channel s k = fault_if (not (s.state.turn == next_of k)) (NotNext (next_of k)) ⊳ signature_lines t r m channel s k

abbrev end_lines : Tables → Rules → Mind → List ℕ → Signed → Kept → Option NodeRefusal
end_lines t r m channel s k = fault_if (is_ended k) (NotNext 0) ⊳ turn_lines t r m channel s k

-- ---- signatures

-- the table of a message that bytes spell, of a channel that is kept
of_kept : (t : Tables) (r : Rules) (m : Mind) (channel : List ℕ) (k : Kept) (s : Signed) (bytes : List ℕ) → kept_of channel m.kept ≡ Some k → message_of bytes ≡ Ok (channel, s)
    → message_refusal t r m (message_of bytes) ≡ state_refusal t r m channel s (Some k)
of_kept t r m channel k s bytes keeps read = ap (message_refusal t r m) read ∙ ap (state_refusal t r m channel s) keeps

-- that of a state that comes next, whose signature doesn't verify
unsigned_next : (t : Tables) (r : Rules) (m : Mind) (channel : List ℕ) (k : Kept) (s : Signed) → ComesNext t m channel k s.state → is_signed_well r k.chain.fixed s ≡ false
    → state_refusal t r m channel s (Some k) ≡ Some BadSignature
unsigned_next t r m channel k s p unsigned =
    let is_next : not (s.state.turn == next_of k) ≡ false = ap not (eq-eqb s.state.turn (next_of k) p.next) in
    passed (not_open t (facts_of m)) (end_lines t r m channel s k) BadSignature p.live
    (passed (fault_if (is_ended k) (NotNext 0)) (turn_lines t r m channel s k) BadSignature (kept_line (is_ended k) (NotNext 0) p.lasts)
    (passed (fault_if (not (s.state.turn == next_of k)) (NotNext (next_of k))) (signature_lines t r m channel s k) BadSignature (kept_line (not (s.state.turn == next_of k)) (NotNext (next_of k)) is_next)
    (broken_line (is_signed_well r k.chain.fixed s) BadSignature (last_lines t r m channel s k) unsigned)))

pub bad_signatures_are_told : BadSignaturesAreTold
bad_signatures_are_told t r node channel k s other bytes p unsigned read =
    refuses t r bytes BadSignature node
    (of_kept t r node.mind channel k (with_signature other s) bytes p.keeps read ∙ unsigned_next t r node.mind channel k (with_signature other s) p unsigned)

-- what is taken comes next
taken_next : (t : Tables) (r : Rules) (m : Mind) (channel : List ℕ) (k : Kept) (s : Signed) → kept_of channel m.kept ≡ Some k → state_refusal t r m channel s (Some k) ≡ None
    → ComesNext t m channel k s.state
taken_next t r m channel k s keeps taken =
    let open_then = both_none (not_open t (facts_of m)) (end_lines t r m channel s k) taken in
    let lasts_then = both_none (fault_if (is_ended k) (NotNext 0)) (turn_lines t r m channel s k) open_then.1 in
    let next_then = both_none (fault_if (not (s.state.turn == next_of k)) (NotNext (next_of k))) (signature_lines t r m channel s k) lasts_then.1 in
    record {
      keeps = keeps;
      live = open_then.0;
      lasts = unbroken (is_ended k) (NotNext 0) lasts_then.0;
      next = eqb-true s.state.turn (next_of k) (not_not (s.state.turn == next_of k) (unbroken (not (s.state.turn == next_of k)) (NotNext (next_of k)) next_then.0));
    }

pub taken_ones_are_signed : TakenOnesAreSigned
taken_ones_are_signed t r node channel k s other taken bytes keeps read none unsigned forged =
    bad_signatures_are_told t r node channel k s other bytes
    (taken_next t r node.mind channel k s keeps (sym (of_kept t r node.mind channel k s taken keeps read) ∙ none)) unsigned forged
