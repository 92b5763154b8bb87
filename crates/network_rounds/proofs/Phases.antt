-- A phase: what the driver has seen after it, and whose each new entry is.
use Rattle.std.proofs.Common.{◌≡◌, ℕ, zero, suc, ◌+◌, ◌<◌, ◌≤◌, ◌==◌, ◌⊎◌, inl, inr, Bool, true, false, cond, List, [], ◌∷◌, ◌++◌, length, map, refl, sym, ap, ◌∙◌, subst, arith, length-append}
use Rattle.std.proofs.lemmas.Bool.{eqb-true}
use Rattle.call_history.specs.declared.call.Op.TheVariants as ops
use Rattle.call_history.specs.declared.entry.Entry.{Entry}
use Rattle.shared_object.specs.Caller.{Caller, IsCaller, whole}
use Rattle.shared_object.specs.History.{StartsWith, same, times, once}
use Rattle.shared_object.proofs.Entries.{has_later}
use Rattle.shared_object.proofs.Sums.{once_one, once_pos}
use Rattle.channel_safety.specs.Journals.{In}
use Rattle.network_rounds.specs.Seats.{times_made, Begin, SawLegal}
use Rattle.network_rounds.specs.Workers.{WorkerOf, Turn, AreTurns, Phase}
use Rattle.network_rounds.specs.Working.{IsHistory, Given, IsEntered, AreEntered}
use Rattle.network_rounds.specs.Told.{StandOnce}

abbrev pub seats_after : {P : Type 0} → List (Turn P) → List (Caller Entry)
seats_after ts = map (λ t. t.seat_after) ts

pub starts-length : (h g : List Entry) → StartsWith h g → length g ≤ length h
starts-length h g s = omega (arith, ap length s.1, length-append g s.0)

-- ---- calls that stand in a history

pub one-later : (h h' : List Entry) (n : ℕ) (g : Given) → StartsWith h' h → IsEntered h n g → IsEntered h' n g
one-later h h' n g s e = record { after = e.after; there = has_later (λ (x : Entry). x.number) (λ (x : Entry). x.by) (λ (x : Entry). x.op) h h' n g.by (ops.Call g.call) s e.there }

pub entered-later : (h h' : List Entry) (numbers : List ℕ) (gave : List Given) → StartsWith h' h → AreEntered h numbers gave → AreEntered h' numbers gave
entered-later h h' [] [] s e = tt
entered-later h h' (n ∷ ns) (g ∷ gs) s e = (one-later h h' n g s e.0, entered-later h h' ns gs s e.1)
entered-later h h' [] (g ∷ gs) s e = absurd e
entered-later h h' (n ∷ ns) [] s e = absurd e

pub entered-append : (h : List Entry) (ns ms : List ℕ) (cs ds : List Given) → AreEntered h ns cs → AreEntered h ms ds → AreEntered h (ns ++ ms) (cs ++ ds)
entered-append h [] ms [] ds p q = q
entered-append h (n ∷ ns) ms (c ∷ cs) ds p q = (p.0, entered-append h ns ms cs ds p.1 q)
entered-append h [] ms (c ∷ cs) ds p q = absurd p
entered-append h (n ∷ ns) ms [] ds p q = absurd p

-- a positive number among two
either_one : (a b : ℕ) → 0 < a + b → (0 < a) ⊎ (0 < b)
either_one zero b lt = inr (omega arith)
either_one (suc a) b lt = inl (omega arith)

same-one : (k x : ℕ) → 0 < same k x → x ≡ k
same-one k x lt = go (x == k) refl lt
  where
    go : (b : Bool) → (x == k) ≡ b → 0 < cond b 1 0 → x ≡ k
    go true e lt = eqb-true x k e
    go false e lt = absurd (omega arith)

-- a call, and that it stands in the history at this number
pub record Found (h : List Entry) (number : ℕ) (gave : List Given) : Type 0 where
  pub given : Given
  pub there : In given gave
  pub entered : IsEntered h number given

pub found_at : (h : List Entry) (k : ℕ) (numbers : List ℕ) (gave : List Given) → AreEntered h numbers gave → 0 < times k numbers → Found h k gave
found_at h k [] gave e lt = absurd (omega arith)
found_at h k (n ∷ numbers) [] e lt = absurd e
found_at h k (n ∷ numbers) (g ∷ gave) e lt = go (either_one (same k n) (times k numbers) lt) (λ low. found_at h k numbers gave e.1 low)
  where
    go : (0 < same k n) ⊎ (0 < times k numbers) → (0 < times k numbers → Found h k gave) → Found h k (g ∷ gave)
    go (inl first) rest = record { given = g; there = inl refl; entered = subst (λ (m : ℕ). IsEntered h m g) (same-one k n first) e.0 }
    go (inr more) rest = let f = rest more in record { given = f.given; there = inr f.there; entered = f.entered }

-- a number of the longer history is that of a call
pub found_once : (h later : List Entry) (gave : List Given) → StandOnce h later gave → (k : ℕ) → length h < k → k ≤ length later → Found later k gave
found_once h later gave s k low high = found_at later k s.numbers gave s.are (go (once k (length h)) refl)
  where
    here : 0 < once k (length later)
    here = once_one k (length later) (omega (arith, low)) high

    go : (n : ℕ) → once k (length h) ≡ n → 0 < times k s.numbers
    go zero e = omega (arith, e, here, s.each k)
    go (suc n) e = let p = once_pos k (length h) (omega (arith, e)) in absurd (omega (arith, p, low))

module _ {P : Type 0} (Does : WorkerOf P → WorkerOf P → List Given → Caller Entry → Caller Entry → Type 0) where
  saw_legal : (c : Caller Entry) (ts : List (Turn P)) → IsHistory c.seen → AreTurns Does c ts → SawLegal (seats_after ts)
  saw_legal c [] l each = tt
  saw_legal c (t ∷ ts) l each = (each.0.works.legal (subst IsHistory (sym each.0.fresh.0) l), saw_legal c ts l each.1)

  pub record After (ts : List (Turn P)) (c d : Caller Entry) : Type 0 where
    pub sound : IsCaller d
    pub part : d.part ≡ whole
    pub grows : StartsWith d.seen c.seen
    pub legal : IsHistory c.seen → IsHistory d.seen
    pub begins : Begin d.seen (seats_after ts)
    pub made : (k : ℕ) → once k (length d.seen) ≡ once k (length c.seen) + times_made k (seats_after ts)

  pub after_phase : (workers after : List (WorkerOf P)) (c d : Caller Entry) → IsCaller c → c.part ≡ whole → (p : Phase Does workers after c d) → After p.turns c d
  after_phase workers after c d sound all p =
      record { sound = p.sound sound; part = p.part ∙ all; grows = grows; legal = legal; begins = p.gathers.begins; made = made }
    where
      grows : StartsWith d.seen c.seen
      grows = subst (StartsWith d.seen) p.kept_is.1 p.gathers.later

      legal : IsHistory c.seen → IsHistory d.seen
      legal l = p.gathers.legal (subst IsHistory (sym p.kept_is.1) l) (saw_legal c p.turns l p.each)

      made : (k : ℕ) → once k (length d.seen) ≡ once k (length c.seen) + times_made k (seats_after p.turns)
      made k =
          let now : times k d.made ≡ once k (length d.seen) = (p.sound sound).all (p.part ∙ all) k in
          let before : times k c.made ≡ once k (length c.seen) = sound.all all k in
          let kept : times k p.kept.made ≡ times k c.made = ap (times k) p.kept_is.2 in
          omega (arith, now, before, kept, p.gathers.made k)
