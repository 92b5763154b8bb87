-- Seats of one book in a list.
use Rattle.std.proofs.Common.{◌≡◌, ℕ, zero, suc, ◌+◌, ◌%◌, ◌<◌, List, [], ◌∷◌, ◌++◌, length, get_or, refl, sym, ap, ◌∙◌, subst, arith, length-append, append_assoc}
use Rattle.shared_object.specs.Caller.{Caller, BookId, halved, fresh_half}
use Rattle.thread_tests.specs.declared.counter.Addition.{Addition}
use Rattle.thread_tests.specs.Seats.{parts, AreOf, Deals}

abbrev Seats : Type 0
Seats = List (Caller Addition)

pub parts-append : (cs ds : Seats) → parts (cs ++ ds) ≡ parts cs + parts ds
parts-append [] ds = omega arith
parts-append (c ∷ cs) ds = omega (arith, parts-append cs ds)

pub are_of-append : (b : BookId) (cs ds : Seats) → AreOf b cs → AreOf b ds → AreOf b (cs ++ ds)
are_of-append b [] ds p q = q
are_of-append b (c ∷ cs) ds p q = (p.0, are_of-append b cs ds p.1 q)

pub are_of-last : (b : BookId) (cs : Seats) (d : Caller Addition) → AreOf b (cs ++ d ∷ []) → AreOf b cs × (d.book ≡ b)
are_of-last b [] d p = (tt, p.0)
are_of-last b (c ∷ cs) d p = let r = are_of-last b cs d p.1 in ((p.0, r.0), r.1)

pub are_of-at : (b : BookId) (cs : Seats) (i : ℕ) (d : Caller Addition) → AreOf b cs → i < length cs → (get_or cs i d).book ≡ b
are_of-at b [] i d p lt = absurd (omega arith)
are_of-at b (c ∷ cs) zero d p lt = p.0
are_of-at b (c ∷ cs) (suc i) d p lt = are_of-at b cs i d p.1 (omega arith)

-- the halves of a seat
pub halves : (c fresh half : Caller Addition) → c.part % 2 ≡ 0 → fresh ≡ fresh_half c → half ≡ halved c → (half.book ≡ c.book) × (fresh.book ≡ c.book) × (half.part + fresh.part ≡ c.part)
halves c fresh half even e f = (ap (λ (x : Caller Addition). x.book) f, ap (λ (x : Caller Addition). x.book) e, omega (arith, ap (λ (x : Caller Addition). x.part) f, ap (λ (x : Caller Addition). x.part) e))

-- all that was dealt
pub all_dealt : (b : BookId) (c : Caller Addition) (n : ℕ) (before after : Seats) → before ≡ [] → c.book ≡ b → Deals c n before after → AreOf b after × (parts after ≡ c.part)
all_dealt b c n before after none of_b d =
    let is : d.dealt ≡ after = sym (d.added ∙ ap (λ (l : Seats). l ++ d.dealt) none) in
    (subst (λ (l : Seats). AreOf b l) is (subst (λ (x : BookId). AreOf x d.dealt) of_b d.of_book), ap parts (sym is) ∙ d.shared)

-- a seat is dealt to one caller
pub deals_one : (c : Caller Addition) (before after : Seats) → after ≡ before ++ c ∷ [] → Deals c 1 before after
deals_one c before after e = record { dealt = c ∷ []; added = e; many = refl; of_book = (refl, tt); shared = omega arith }

-- both halves of a seat are dealt
pub deals_both : (c one two : Caller Addition) (n m all : ℕ) (before between after : Seats) → one.book ≡ c.book → two.book ≡ c.book → one.part + two.part ≡ c.part → n + m ≡ all
    → Deals one n before between → Deals two m between after → Deals c all before after
deals_both c one two n m all before between after b1 b2 p e d1 d2 = record {
  dealt = d1.dealt ++ d2.dealt;
  added = d2.added ∙ ap (λ (l : Seats). l ++ d2.dealt) d1.added ∙ append_assoc before d1.dealt d2.dealt;
  many = omega (arith, length-append d1.dealt d2.dealt, d1.many, d2.many);
  of_book = are_of-append c.book d1.dealt d2.dealt (subst (λ (b : BookId). AreOf b d1.dealt) b1 d1.of_book) (subst (λ (b : BookId). AreOf b d2.dealt) b2 d2.of_book);
  shared = omega (arith, parts-append d1.dealt d2.dealt, d1.shared, d2.shared);
}

-- each seat kept its part
pub same_parts : (b : BookId) (cs ds : Seats) → length ds ≡ length cs → ((i : ℕ) (d : Caller Addition) → i < length cs → ((get_or ds i d).book ≡ b) × ((get_or ds i d).part ≡ (get_or cs i d).part)) → AreOf b ds × (parts ds ≡ parts cs)
same_parts b [] [] l h = (tt, refl)
same_parts b [] (d ∷ ds) l h = absurd (omega arith)
same_parts b (c ∷ cs) [] l h = absurd (omega arith)
same_parts b (c ∷ cs) (d ∷ ds) l h =
    let r = same_parts b cs ds (omega arith) (λ i x lt. h (suc i) x (omega arith)) in
    let first = h 0 d (omega arith) in
    ((first.0, r.0), omega (arith, r.1, first.1))
