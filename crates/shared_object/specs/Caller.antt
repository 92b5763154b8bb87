-- A caller: what contracts see of a seat, and what each call makes of it.
use Rattle.std.specs.Prelude.{◌≡◌, ℕ, suc, ◌+◌, ◌/◌, ◌<◌, ◌≤◌, nat_lt, if◌then◌else◌, List, [], ◌∷◌, ◌++◌, length}
use mathlib.Core.Option.{some}
use lib.ListN.{get_elem?}
use Rattle.atomic_table.specs.Seated.{TableId}
use Rattle.shared_object.specs.History.{StartsWith, times, once, IsLegal}

-- all of one
abbrev pub whole : ℕ
whole = 9223372036854775808

-- how many entries a history can have
abbrev pub most_entries : ℕ
most_entries = 4294967295

-- which book it is
abbrev pub BookId : Type 0
BookId = TableId

-- the book that a seat is of, the entries that the caller has seen, the numbers of the calls that it made, and its part of one
pub record Caller (E : Type 0) : Type 0 where
  pub book : BookId
  pub seen : List E
  pub made : List ℕ
  pub part : ℕ

module _ {E : Type 0} where
  -- what is true of every caller between two calls: it has seen what it made, no more than a history can have, and with all of
  -- one it made all that it has seen
  pub record IsCaller (c : Caller E) : Type 0 where
    pub some_part : 0 < c.part
    pub at_most : c.part ≤ whole
    pub within : (k : ℕ) → 0 < times k c.made → k ≤ length c.seen
    pub few : length c.seen ≤ most_entries
    pub all : c.part ≡ whole → (k : ℕ) → times k c.made ≡ once k (length c.seen)

  -- the caller of a new book
  abbrev pub opening : BookId → Caller E
  opening b = record { book = b; seen = []; made = []; part = whole }

  -- the same caller with half of its part
  abbrev pub halved : Caller E → Caller E
  halved c = record { book = c.book; seen = c.seen; made = c.made; part = c.part / 2 }

  -- a caller with that half, which has seen the same and made nothing
  abbrev pub fresh_half : Caller E → Caller E
  fresh_half c = record { book = c.book; seen = c.seen; made = []; part = c.part / 2 }

  -- the longer of two lists, and the first where they are as long
  abbrev pub longer : List E → List E → List E
  longer xs ys = if nat_lt (length xs) (length ys) then ys else xs

  -- two callers as one: the longer that they have seen, what both made, and both parts
  abbrev pub joined : Caller E → Caller E → Caller E
  joined c d = record { book = c.book; seen = longer c.seen d.seen; made = c.made ++ d.made; part = c.part + d.part }

  -- the second caller is the first, later: it has seen all that the first had, and made no more
  pub record IsLater (c d : Caller E) : Type 0 where
    pub book : d.book ≡ c.book
    pub seen : StartsWith d.seen c.seen
    pub made : d.made ≡ c.made
    pub part : d.part ≡ c.part

module _ {E C R : Type 0} (gives : List E → ℕ → ℕ → C → E) (reply_of : E → R) where
  -- a call was entered: the caller has seen a legal history that begins with all that it had seen and ends with the call's entry, and this number alone is new in what it made
  pub record Enters (by : ℕ) (call : C) (number : ℕ) (reply : R) (c d : Caller E) : Type 0 where
    pub between : List E
    pub entry : E
    pub seen : d.seen ≡ (c.seen ++ between) ++ entry ∷ []
    pub legal : IsLegal gives d.seen
    pub gave : entry ≡ gives (c.seen ++ between) number by call
    pub number_is : number ≡ length d.seen
    pub reply_is : reply ≡ reply_of entry
    pub made : d.made ≡ c.made ++ number ∷ []
    pub others : (k : ℕ) → length c.seen < k → times k c.made ≡ 0
    pub alone : c.part ≡ whole → between ≡ []
    pub part : d.part ≡ c.part
    pub book : d.book ≡ c.book

module _ {E C : Type 0} (gives : List E → ℕ → ℕ → C → E) where
  -- the caller has seen a legal history that begins with all that it had seen
  pub record Looks (c d : Caller E) : Type 0 where
    pub later : IsLater c d
    pub legal : IsLegal gives d.seen
    pub alone : c.part ≡ whole → d.seen ≡ c.seen

  -- the last history begins with what the caller has seen, and each of its numbers is once in what the caller made or in what the others made
  pub record Ends (c : Caller E) (h : List E) : Type 0 where
    pub legal : IsLegal gives h
    pub sees : StartsWith h c.seen
    pub others : List ℕ
    pub numbers : (k : ℕ) → times k c.made + times k others ≡ once k (length h)
    pub all : c.part ≡ whole → (h ≡ c.seen) × (others ≡ [])

-- the history has this call, by this caller, at this number
pub record HasEntry {E K : Type 0} (number_of by_of : E → ℕ) (kept_of : E → K) (h : List E) (number by : ℕ) (kept : K) : Type 0 where
  pub place : ℕ
  pub entry : E
  pub number_is : number ≡ suc place
  pub at : get_elem? h place ≡ some entry
  pub numbered : number_of entry ≡ number
  pub made_by : by_of entry ≡ by
  pub keeps : kept_of entry ≡ kept
