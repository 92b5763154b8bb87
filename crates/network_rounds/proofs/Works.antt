-- What callers do, one thing after another.
use Rattle.std.proofs.Common.{◌≡◌, ℕ, ◌<◌, ◌≤◌, List, [], ◌∷◌, ◌++◌, length, drop, get_or, refl, sym, ap, ◌∙◌, subst, arith, append_assoc, append-nil, length-append}
use Rattle.call_history.specs.declared.call.Call.{Call}
use Rattle.call_history.specs.declared.call.Op.TheVariants as ops
use Rattle.call_history.specs.declared.entry.Entry.{Entry}
use Rattle.call_history.specs.declared.refusal.Reply.{Reply}
use Rattle.shared_object.specs.Caller.{Caller, Enters, Looks}
use Rattle.shared_object.specs.History.{StartsWith}
use Rattle.shared_object.proofs.Sums.{starts_refl, starts_trans}
use Rattle.shared_object.proofs.Entries.{has_later, later_of}
use Rattle.support_rules.specs.Real.{real}
use Rattle.adjudicator.specs.Shared.{entry_after}
use Rattle.network_rounds.specs.Working.{HasOp, Given, given_at, AreEntered, Works}
use Rattle.network_rounds.proofs.Rising.{rise-none, rise-one, rise-append}

pub starts-length : (h g : List Entry) → StartsWith h g → length g ≤ length h
starts-length h g s = omega (arith, ap length s.1, length-append g s.0)

pub entered-later : (h h' : List Entry) (numbers : List ℕ) (gave : List Given) → StartsWith h' h → AreEntered h numbers gave → AreEntered h' numbers gave
entered-later h h' [] [] s e = tt
entered-later h h' (n ∷ ns) (g ∷ gs) s e =
    (record { after = e.0.after; there = has_later (λ (x : Entry). x.number) (λ (x : Entry). x.by) (λ (x : Entry). x.op) h h' n g.by (ops.Call g.call) s e.0.there }, entered-later h h' ns gs s e.1)
entered-later h h' [] (g ∷ gs) s e = absurd e
entered-later h h' (n ∷ ns) [] s e = absurd e

pub entered-append : (h : List Entry) (ns ms : List ℕ) (cs ds : List Given) → AreEntered h ns cs → AreEntered h ms ds → AreEntered h (ns ++ ms) (cs ++ ds)
entered-append h [] ms [] ds p q = q
entered-append h (n ∷ ns) ms (c ∷ cs) ds p q = (p.0, entered-append h ns ms cs ds p.1 q)
entered-append h [] ms (c ∷ cs) ds p q = absurd p
entered-append h (n ∷ ns) ms [] ds p q = absurd p

pub works-none : (c : Caller Entry) → Works [] c c
works-none c = record { book = refl; part = refl; later = starts_refl c.seen; legal = λ l. l; numbers = []; made = sym (append-nil c.made); entered = tt; rise = rise-none (length c.seen) (length c.seen) (omega arith) }

pub works-then : (cs ds : List Given) (c d e : Caller Entry) → Works cs c d → Works ds d e → Works (cs ++ ds) c e
works-then cs ds c d e p q = record {
  book = q.book ∙ p.book;
  part = q.part ∙ p.part;
  later = starts_trans e.seen d.seen c.seen q.later p.later;
  legal = λ l. q.legal (p.legal l);
  numbers = p.numbers ++ q.numbers;
  made = q.made ∙ (ap (λ (l : List ℕ). l ++ q.numbers) p.made ∙ append_assoc c.made p.numbers q.numbers);
  entered = entered-append e.seen p.numbers q.numbers cs ds (entered-later d.seen e.seen p.numbers cs q.later p.entered) q.entered;
  rise = rise-append (length c.seen) (length d.seen) (length d.seen) (length e.seen) p.numbers q.numbers (omega arith) p.rise q.rise;
}

pub works-look : (c d : Caller Entry) → Looks (entry_after real) c d → Works [] c d
works-look c d l = record {
  book = l.later.book;
  part = l.later.part;
  later = l.later.seen;
  legal = λ _. l.legal;
  numbers = [];
  made = l.later.made ∙ sym (append-nil c.made);
  entered = tt;
  rise = rise-none (length c.seen) (length d.seen) (starts-length d.seen c.seen l.later.seen);
}

pub works-enter : (by : ℕ) (call : Call) (number : ℕ) (reply : Reply) (c d : Caller Entry) → Enters (entry_after real) (λ (x : Entry). x.reply) by (ops.Call call) number reply c d
    → HasOp d.seen number by (ops.Call call) → (seen : ℕ) → seen ≤ length c.seen → Works (given_at by seen (call ∷ [])) c d
works-enter by call number reply c d e has seen le =
    let later = later_of (entry_after real) (λ (x : Entry). x.reply) by (ops.Call call) number reply c d e in record {
      book = e.book;
      part = e.part;
      later = later;
      legal = λ _. e.legal;
      numbers = number ∷ [];
      made = e.made;
      entered = (record { after = longer c.seen e.between e.entry seen number le (e.number_is ∙ ap length e.seen); there = has }, tt);
      rise = rise-one (length c.seen) number (length d.seen) (longer c.seen e.between e.entry (length c.seen) number (omega arith) (e.number_is ∙ ap length e.seen)) (omega (arith, e.number_is));
    }
  where
    longer : (xs ys : List Entry) (x : Entry) (seen number : ℕ) → seen ≤ length xs → number ≡ length ((xs ++ ys) ++ x ∷ []) → seen < number
    longer xs ys x seen number le is = omega (arith, length-append xs ys, length-append (xs ++ ys) (x ∷ []))

-- ---- calls, one after another

pub first_of : {A : Type 0} (xs : List A) (x : A) → 0 < length xs → x ≡ get_or xs 0 x → xs ≡ x ∷ drop 1 xs
first_of [] x lt e = absurd (omega arith)
first_of {A} (y ∷ ys) x lt e = ap (λ (z : A). z ∷ ys) (sym e)

given-append : (by seen : ℕ) (xs ys : List Call) → given_at by seen (xs ++ ys) ≡ given_at by seen xs ++ given_at by seen ys
given-append by seen [] ys = refl
given-append by seen (x ∷ xs) ys = ap (λ (l : List Given). record { by = by; seen = seen; call = x } ∷ l) (given-append by seen xs ys)

pub entered_more : (by : ℕ) (taken : List Call) (call : Call) (c d e : Caller Entry) → ((seen : ℕ) → seen ≤ length c.seen → Works (given_at by seen taken) c d)
    → ((seen : ℕ) → seen ≤ length d.seen → Works (given_at by seen (call ∷ [])) d e) → (seen : ℕ) → seen ≤ length c.seen → Works (given_at by seen (taken ++ call ∷ [])) c e
entered_more by taken call c d e all one seen le =
    let w = all seen le in
    let low : length c.seen ≤ length d.seen = starts-length d.seen c.seen w.later in
    subst (λ (l : List Given). Works l c e) (sym (given-append by seen taken (call ∷ []))) (works-then (given_at by seen taken) (given_at by seen (call ∷ [])) c d e w (one seen (omega arith)))
