-- What a caller does with its seat: it enters the calls that it gives, in their order, each once. Histories are in the
-- order of time here.
use Rattle.std.specs.Prelude.{◌≡◌, ℕ, ◌<◌, ◌≤◌, List, [], ◌∷◌, ◌++◌, length, map}
use Rattle.call_history.specs.declared.call.Call.{Call}
use Rattle.call_history.specs.declared.call.Op.{Op}
use Rattle.call_history.specs.declared.call.Op.TheVariants as ops
use Rattle.call_history.specs.declared.entry.Entry.{Entry}
use Rattle.shared_object.specs.Caller.{Caller, HasEntry}
use Rattle.shared_object.specs.History.{StartsWith, IsLegal}
use Rattle.adjudicator.specs.Shared.{entry_after}
use Rattle.support_rules.specs.Real.{real}

-- each entry is what the adjudicator gives after those before it
abbrev pub IsHistory : List Entry → Type 0
IsHistory h = IsLegal (entry_after real) h

-- the history has this op, by this caller, at this number
abbrev pub HasOp : List Entry → ℕ → ℕ → Op → Type 0
HasOp h number by op = HasEntry (λ (e : Entry). e.number) (λ (e : Entry). e.by) (λ (e : Entry). e.op) h number by op

-- a call that was given: by whom, and how many entries it had seen then
pub record Given : Type 0 where
  pub by : ℕ
  pub seen : ℕ
  pub call : Call

abbrev pub given_at : ℕ → ℕ → List Call → List Given
given_at by seen calls = map (λ call. record { by = by; seen = seen; call = call }) calls

-- it stands in the history at this number, after what had been seen
pub record IsEntered (h : List Entry) (number : ℕ) (given : Given) : Type 0 where
  pub after : given.seen < number
  pub there : HasOp h number given.by (ops.Call given.call)

-- each call, at its number
abbrev pub AreEntered : List Entry → List ℕ → List Given → Type 0
AreEntered h [] [] = Unit {0}
AreEntered h (number ∷ numbers) (given ∷ gave) = IsEntered h number given × AreEntered h numbers gave
AreEntered h _ _ = ⊥

-- these numbers rise, from above the first bound up to the second
abbrev pub RiseWithin : ℕ → ℕ → List ℕ → Type 0
RiseWithin low high [] = low ≤ high
RiseWithin low high (number ∷ numbers) = (low < number) × RiseWithin number high numbers

-- The second caller is the first once it has entered these calls, and no others: in their order, after all that it had
-- seen.
pub record Works (gave : List Given) (c d : Caller Entry) : Type 0 where
  pub book : d.book ≡ c.book
  pub part : d.part ≡ c.part
  pub later : StartsWith d.seen c.seen
  pub legal : IsHistory c.seen → IsHistory d.seen
  pub numbers : List ℕ
  pub made : d.made ≡ c.made ++ numbers
  pub entered : AreEntered d.seen numbers gave
  pub rise : RiseWithin (length c.seen) (length d.seen) numbers

-- What it does, with the calls that it gives.
abbrev pub Working : (List Given → Caller Entry → Caller Entry → Type 0) → Caller Entry → Caller Entry → Type 0
Working Does c d = (gave : List Given) × Does gave c d × Works gave c d
