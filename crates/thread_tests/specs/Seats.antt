-- Seats of one book in a list.
use Rattle.std.specs.Prelude.{◌≡◌, ℕ, ◌+◌, List, [], ◌∷◌, ◌++◌, length}
use Rattle.shared_object.specs.Caller.{Caller, BookId}
use Rattle.thread_tests.specs.declared.counter.Addition.{Addition}

-- their parts of one, added up
abbrev pub parts : List (Caller Addition) → ℕ
parts [] = 0
parts (c ∷ cs) = c.part + parts cs

-- each is of this book
abbrev pub AreOf : BookId → List (Caller Addition) → Type 0
AreOf b [] = Unit {0}
AreOf b (c ∷ cs) = (c.book ≡ b) × AreOf b cs

-- so many seats were added to a list: of the caller's book, and with its part of one between them
pub record Deals (c : Caller Addition) (n : ℕ) (before after : List (Caller Addition)) : Type 0 where
  pub dealt : List (Caller Addition)
  pub added : after ≡ before ++ dealt
  pub many : length dealt ≡ n
  pub of_book : AreOf c.book dealt
  pub shared : parts dealt ≡ c.part
