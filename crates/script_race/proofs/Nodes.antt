-- The node of a number in the driver's list, and what it does there.
use Rattle.std.proofs.Common.{◌≡◌, ℕ, zero, suc, ◌+◌, ◌^◌, ◌<◌, ◌≤◌, List, [], ◌∷◌, length, drop, get_or, inl, inr, refl, ◌∙◌, ap, arith, length-drop}
use Rattle.std.specs.Prelude.{◌==◌, slice_set, Some}
use Rattle.std.specs.List.{position}
use Rattle.shared_object.specs.Caller.{most_entries}
use Rattle.call_history.specs.declared.entry.Entry.{Entry}
use Rattle.channel_safety.specs.Journals.{In}
use Rattle.network.specs.Ways.{Ways}
use Rattle.network.specs.declared.lookout.Lookout.{Lookout}
use Rattle.network.proofs.Places.{changes_there}
use Rattle.network.specs.Members.{MemberOf, sees}
use Rattle.network.specs.Worlds.{changed}
use Rattle.script_race.specs.Driving.{world_of}

pub in_at : {A : Type 0} (xs : List A) (k : ℕ) (x : A) → k < length xs → x ≡ get_or xs k x → In x xs
in_at [] k x lt e = absurd (omega (arith, lt))
in_at (y ∷ ys) zero x lt e = inl e
in_at (y ∷ ys) (suc k) x lt e = inr (in_at ys k x (omega (arith, lt)) e)

pub room_after : (seen from : ℕ) (entries slice h : List Entry) → slice ≡ entries → entries ≡ drop from h → from ≡ seen → seen ≤ length h → length h ≤ most_entries → seen + length slice < 2 ^ 32
room_after seen from entries slice h a b c low few = omega (arith, ap length a, ap length b, length-drop from h, c, low, few)

module _ {P : Type 0} (ways : Ways P) where
  pub shows : (node new : P) (watchers : List Lookout) (m : MemberOf P) (from : ℕ) (entries slice h : List Entry) → record { node = node; watchers = watchers } ≡ m
      → slice ≡ entries → entries ≡ drop from h → from ≡ ways.seen node → new ≡ ways.saw slice node → record { node = new; watchers = watchers } ≡ sees ways h m
  shows node new watchers m from entries slice h is a b c saw =
      let e : new ≡ ways.saw (drop (ways.seen node) h) node = saw ∙ ap (λ (l : List Entry). ways.saw l node) (a ∙ b ∙ ap (λ (n : ℕ). drop n h) c) in
      (λ i. record { node = e i; watchers = watchers }) ∙ ap (sees ways h) is

  pub changes_at : (number place : ℕ) (change : MemberOf P → MemberOf P) (seen : List Entry) (items : List (MemberOf P)) (m x : MemberOf P)
      → Some place ≡ position (λ m. ways.number m.node == number) items → m ≡ get_or items place m → x ≡ change m
      → world_of seen (slice_set items place x) ≡ changed ways number change (world_of seen items)
  changes_at number place change seen items m x e at is =
      changes_there ways number place change (world_of seen items) (world_of seen (slice_set items place x)) m x e at is refl
