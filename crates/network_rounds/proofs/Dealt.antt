-- Seats of one book in a list.
use Rattle.std.proofs.Common.{◌≡◌, ℕ, ◌+◌, ◌%◌, Bool, true, false, cond, List, [], ◌∷◌, ◌++◌, length, refl, sym, ap, ◌∙◌, subst, arith, append_assoc, ltb}
use Rattle.call_history.specs.declared.entry.Entry.{Entry}
use Rattle.shared_object.specs.Caller.{Caller, IsCaller, halved, fresh_half, joined, longer}
use Rattle.shared_object.specs.History.{StartsWith, times, same}
use Rattle.shared_object.proofs.Sums.{starts_refl, starts_trans, total-append}
use Rattle.network_rounds.specs.Seats.{Seats, parts, times_made, AreFresh, Begin, SawLegal, Gathers}
use Rattle.network_rounds.specs.Working.{IsHistory}
use Rattle.network_rounds.specs.Jobs.{Deals, seats_of, workers_of}
use Rattle.network_rounds.specs.declared.worker.Job.{Job}
use Rattle.network_rounds.specs.declared.worker.Worker.{Worker}

parts-append : (cs ds : Seats) → parts (cs ++ ds) ≡ parts cs + parts ds
parts-append [] ds = omega arith
parts-append (c ∷ cs) ds = omega (arith, parts-append cs ds)

fresh-append : (c : Caller Entry) (cs ds : Seats) → AreFresh c cs → AreFresh c ds → AreFresh c (cs ++ ds)
fresh-append c [] ds p q = q
fresh-append c (x ∷ cs) ds p q = (p.0, fresh-append c cs ds p.1 q)

-- what was dealt of one caller's seat was dealt of another's that has seen the same
fresh-same : (c d : Caller Entry) (cs : Seats) → d.book ≡ c.book → d.seen ≡ c.seen → AreFresh d cs → AreFresh c cs
fresh-same c d [] b s p = tt
fresh-same c d (x ∷ cs) b s p = ((p.0.0 ∙ b, p.0.1 ∙ s, p.0.2), fresh-same c d cs b s p.1)

module _ {P D : Type 0} {V : D → Type 0} where
  seats-append : (xs ys : List (Job P D V)) → seats_of (xs ++ ys) ≡ seats_of xs ++ seats_of ys
  seats-append [] ys = refl
  seats-append (x ∷ xs) ys = ap (λ (l : Seats). x.seat ∷ l) (seats-append xs ys)

  workers-append : (xs ys : List (Job P D V)) → workers_of (xs ++ ys) ≡ workers_of xs ++ workers_of ys
  workers-append [] ys = refl
  workers-append (x ∷ xs) ys = ap (λ (l : List (Worker P D V)). x.worker ∷ l) (workers-append xs ys)

  -- a seat is dealt to one worker
  pub deals_one : (c : Caller Entry) (w : Worker P D V) (workers : List (Worker P D V)) (before after : List (Job P D V)) → c.made ≡ [] → workers ≡ w ∷ []
      → after ≡ before ++ record { seat = c; worker = w } ∷ [] → Deals c workers before after
  deals_one c w workers before after made is e =
      record { dealt = record { seat = c; worker = w } ∷ []; added = e; workers_are = sym is; fresh = ((refl, refl, made), tt); shared = omega arith }

  -- both halves of a seat are dealt
  pub deals_both : (c one two : Caller Entry) (first rest all : List (Worker P D V)) (before between after : List (Job P D V)) → two ≡ fresh_half c → one ≡ halved c → c.part % 2 ≡ 0
      → all ≡ first ++ rest → Deals one first before between → Deals two rest between after → Deals c all before after
  deals_both c one two first rest all before between after t o even is d1 d2 = record {
    dealt = d1.dealt ++ d2.dealt;
    added = d2.added ∙ (ap (λ (l : List (Job P D V)). l ++ d2.dealt) d1.added ∙ append_assoc before d1.dealt d2.dealt);
    workers_are = workers-append d1.dealt d2.dealt ∙ (ap (λ (l : List (Worker P D V)). l ++ workers_of d2.dealt) d1.workers_are
        ∙ (ap (λ (l : List (Worker P D V)). first ++ l) d2.workers_are ∙ sym is));
    fresh = subst (AreFresh c) (sym (seats-append d1.dealt d2.dealt)) (fresh-append c (seats_of d1.dealt) (seats_of d2.dealt)
        (fresh-same c one (seats_of d1.dealt) (ap (λ (x : Caller Entry). x.book) o) (ap (λ (x : Caller Entry). x.seen) o) d1.fresh)
        (fresh-same c two (seats_of d2.dealt) (ap (λ (x : Caller Entry). x.book) t) (ap (λ (x : Caller Entry). x.seen) t) d2.fresh));
    shared = omega (
      arith,
      ap parts (seats-append d1.dealt d2.dealt),
      parts-append (seats_of d1.dealt) (seats_of d2.dealt),
      d1.shared,
      d2.shared,
      even,
      ap (λ (x : Caller Entry). x.part) o,
      ap (λ (x : Caller Entry). x.part) t,
    );
  }

-- ---- seats are taken in

pub gathers_none : (c : Caller Entry) → Gathers [] c c
gathers_none c = record { book = refl; part = omega arith; later = starts_refl c.seen; begins = tt; made = λ k. omega arith; legal = λ l _. l; sound = λ s. s }

begin-later : (h h' : List Entry) (cs : Seats) → StartsWith h' h → Begin h cs → Begin h' cs
begin-later h h' [] s b = tt
begin-later h h' (c ∷ cs) s b = (starts_trans h' h c.seen s b.0, begin-later h h' cs s b.1)

begin-append : (h : List Entry) (cs : Seats) (d : Caller Entry) → Begin h cs → StartsWith h d.seen → Begin h (cs ++ d ∷ [])
begin-append h [] d b s = (s, tt)
begin-append h (c ∷ cs) d b s = (b.0, begin-append h cs d b.1 s)

made-append : (k : ℕ) (cs : Seats) (d : Caller Entry) → times_made k (cs ++ d ∷ []) ≡ times_made k cs + times k d.made
made-append k [] d = omega arith
made-append k (c ∷ cs) d = omega (arith, made-append k cs d)

legal-front : (cs : Seats) (d : Caller Entry) → SawLegal (cs ++ d ∷ []) → SawLegal cs × IsHistory d.seen
legal-front [] d l = (tt, l.0)
legal-front (c ∷ cs) d l = let r = legal-front cs d l.1 in ((l.0, r.0), r.1)

longer-legal : (xs ys : List Entry) → IsHistory xs → IsHistory ys → IsHistory (longer xs ys)
longer-legal xs ys p q = go (ltb (length xs) (length ys))
  where
    go : (b : Bool) → IsHistory (cond b ys xs)
    go true = q
    go false = p

-- these seats were taken in, and then one more
pub gathers_more : (c d e other : Caller Entry) (done : Seats) → Gathers done c d → e ≡ joined d other → StartsWith e.seen d.seen → StartsWith e.seen other.seen → IsCaller e
    → Gathers (done ++ other ∷ []) c e
gathers_more c d e other done g j s s' sound = record {
  book = ap (λ (x : Caller Entry). x.book) j ∙ g.book;
  part = omega (arith, g.part, ap (λ (x : Caller Entry). x.part) j, parts-append done (other ∷ []));
  later = starts_trans e.seen d.seen c.seen s g.later;
  begins = begin-append e.seen done other (begin-later d.seen e.seen done s g.begins) s';
  made = λ k. omega (arith, g.made k, ap (λ (x : Caller Entry). times k x.made) j, total-append (same k) d.made other.made, made-append k done other);
  legal = λ l all. let p = legal-front done other all in subst IsHistory (sym (ap (λ (x : Caller Entry). x.seen) j)) (longer-legal d.seen other.seen (g.legal l p.0) p.1);
  sound = λ _. sound;
}
