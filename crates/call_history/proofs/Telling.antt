-- What an entry of a legal history says of a row is so.
use Rattle.std.proofs.Common.{◌≡◌, ℕ, ◌+◌, List, true, false, Some, None, refl, sym, ◌∙◌, ap}
use Rattle.std.specs.Prelude.{Option, Result, Ok, Err}
use Rattle.channel_values.specs.Parts.{FixedParts}
use Rattle.channel_values.specs.Rules.{Rules, is_signed_well, top_turn}
use Rattle.channel_values.specs.Support.{verified_marks}
use Rattle.call_history.specs.Refusing.{told}
use Rattle.call_history.specs.Rows.{fixed_of, turned, after_challenge, after_turn, after_refute, after_conclude}
use Rattle.call_history.specs.Replies.{challenge, respond, refute, checkpoint, conclude}
use Rattle.call_history.specs.History.{is_accepted, row, now_of, reply_to}
use Rattle.call_history.specs.Told.{told_row}
use Rattle.call_history.specs.declared.call.Call.TheVariants.{Challenge, Respond, Refute, Checkpoint, Conclude}
use Rattle.call_history.specs.declared.call.Op.{Op}
use Rattle.call_history.specs.declared.call.Op.TheVariants as ops
use Rattle.call_history.specs.declared.entry.Entry.{Entry}
use Rattle.call_history.specs.declared.refusal.Refusal.{Refusal}
use Rattle.call_history.specs.declared.refusal.Reply.{Reply}
use Rattle.call_history.specs.declared.refusal.Reply.TheVariants.{Until, Opened, Concluded, No}
use Rattle.call_history.specs.declared.row.Row.{Row}
use Rattle.call_history.proofs.Rowing.{Answers, respond_row, refute_row, checkpoint_row, conclude_row}

-- the turn and the deadline of a row
abbrev pub row_told : Row → Option (ℕ × Option ℕ)
row_told row = Some (row.turn, row.deadline)

until_told : (now deadline turn : ℕ) (op : Op) (new : Row) (x : Result Row Refusal) → told_row now op (Until deadline) ≡ row_told new
    → is_accepted (told (λ row. Until deadline) x) ≡ true → told_row now op (told (λ row. Until deadline) x) ≡ row_told new
until_told now deadline turn op new (Ok row) is accepted = is
until_told now deadline turn op new (Err refusal) is accepted = absurd cc

-- the turn without a deadline
abbrev opened_row : Row → Option (ℕ × Option ℕ)
opened_row row = Some (row.turn, None)

opened_told : (now : ℕ) (op : Op) (new : Row) (x : Result Row Refusal) → new.deadline ≡ None → Answers new x
    → is_accepted (told (λ row. Opened row.turn) x) ≡ true → told_row now op (told (λ row. Opened row.turn) x) ≡ row_told new
opened_told now op new (Ok row) none answers accepted = ap opened_row answers.is ∙ ap (λ (d : Option ℕ). Some (new.turn, d)) (sym none)
opened_told now op new (Err refusal) none answers accepted = absurd cc

concluded_told : (now : ℕ) (op : Op) (new : Row) (x : Result Row Refusal) → new.deadline ≡ Some now → Answers new x
    → is_accepted (told (λ row. Concluded row.turn) x) ≡ true → told_row now op (told (λ row. Concluded row.turn) x) ≡ row_told new
concluded_told now op new (Ok row) ends answers accepted = ap (λ (t : Row). Some (t.turn, Some now)) answers.is ∙ ap (λ (d : Option ℕ). Some (new.turn, d)) (sym ends)
concluded_told now op new (Err refusal) ends answers accepted = absurd cc

-- the reply to a turning call describes the row that it makes
pub reply_tells : (r : Rules) (h : List Entry) (op : Op) (f : FixedParts) → fixed_of op ≡ Some f → is_accepted (reply_to r h op) ≡ true
    → told_row (now_of h) op (reply_to r h op) ≡ row_told (turned r (now_of h) op (row r (r.named f) h))
unfolding reply_to
reply_tells r h (ops.Call (Challenge k)) f names accepted =
    until_told (now_of h) (now_of h + k.chain.fixed.duration) (top_turn k.chain.states) (ops.Call (Challenge k)) (after_challenge r (now_of h) k.chain k.challenger)
    (challenge r (row r (r.named k.chain.fixed) h) (now_of h) k.chain k.challenger k.signature) refl accepted
reply_tells r h (ops.Call (Respond k)) f names accepted =
    let old : Row = row r (r.named k.fixed) h in
    opened_told (now_of h) (ops.Call (Respond k)) (after_turn k.next.state.turn old) (respond r old (now_of h) k.fixed k.from k.next) refl
    (respond_row r old (now_of h) k.fixed k.from k.next (is_signed_well r k.fixed k.next)) accepted
    ∙ ap (λ n. row_told (after_turn k.next.state.turn (row r (r.named n) h))) (same names)
  where
    same : Some k.fixed ≡ Some f → k.fixed ≡ f
    same e = cc
reply_tells r h (ops.Call (Refute fixed next)) f names accepted =
    opened_told (now_of h) (ops.Call (Refute fixed next)) (after_refute (row r (r.named fixed) h)) (refute r (row r (r.named fixed) h) (now_of h) fixed next) refl
    (refute_row (row r (r.named fixed) h) (now_of h) fixed next (is_signed_well r fixed next)) accepted
    ∙ ap (λ n. row_told (after_refute (row r (r.named n) h))) (same names)
  where
    same : Some fixed ≡ Some f → fixed ≡ f
    same e = cc
reply_tells r h (ops.Call (Checkpoint chain)) f names accepted =
    opened_told (now_of h) (ops.Call (Checkpoint chain)) (after_turn (top_turn chain.states) (row r (r.named chain.fixed) h)) (checkpoint r (row r (r.named chain.fixed) h) (now_of h) chain) refl
    (checkpoint_row r (row r (r.named chain.fixed) h) (now_of h) chain (verified_marks r chain)) accepted
    ∙ ap (λ n. row_told (after_turn (top_turn chain.states) (row r (r.named n) h))) (same names)
  where
    same : Some chain.fixed ≡ Some f → chain.fixed ≡ f
    same e = cc
reply_tells r h (ops.Call (Conclude chain)) f names accepted =
    concluded_told (now_of h) (ops.Call (Conclude chain)) (after_conclude r (now_of h) chain (row r (r.named chain.fixed) h)) (conclude r (row r (r.named chain.fixed) h) (now_of h) chain) refl
    (conclude_row r (row r (r.named chain.fixed) h) (now_of h) chain (verified_marks r chain)) accepted
    ∙ ap (λ n. row_told (after_conclude r (now_of h) chain (row r (r.named n) h))) (same names)
  where
    same : Some chain.fixed ≡ Some f → chain.fixed ≡ f
    same e = cc
reply_tells r h _ f names accepted = absurd cc

-- a refusal says nothing of a row
pub refused_tells : (now : ℕ) (op : Op) (reply : Reply) → is_accepted reply ≡ false → told_row now op reply ≡ None
refused_tells now op (No refusal) refused = refl
refused_tells now op _ refused = absurd cc
