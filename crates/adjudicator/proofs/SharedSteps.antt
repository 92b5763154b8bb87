-- Room as a test, and histories in the order of time.
use Rattle.std.proofs.Common.{◌≡◌, ℕ, suc, ◌≤◌, Bool, true, false, ◌&&◌, List, [], ◌∷◌, ◌++◌, length, take, reverse, refl, sym, ◌∙◌, ap, subst, arith, append_assoc}
use Rattle.std.specs.Prelude.{nat_le}
use Rattle.std.proofs.lemmas.Bool.Decides.{nat_tests}
use Rattle.std.proofs.lemmas.List.{reverse-append, reverse-reverse, length-reverse}
use Rattle.std.proofs.Math.Seq.{take-append_seam}
use mathlib.Core.Option.{some}
use lib.ListN.{get_elem?}
use Rattle.channel_values.specs.Rules.{Rules}
use Rattle.call_history.specs.History.{newest_first, reply_to, Legal}
use Rattle.call_history.specs.declared.entry.Entry.{Entry}
use Rattle.shared_object.specs.History.{IsLegal}
use Rattle.adjudicator.specs.Standing.{Standing, HasRoom, StandsFor}
use Rattle.adjudicator.specs.Shared.{has_room, entry_after}

three : (a b c : ℕ) → 1 ≤ a → 1 ≤ b → 1 ≤ c → (nat_le 1 a && (nat_le 1 b && nat_le 1 c)) ≡ true
three a b c p q r = grind (arith, nat_tests)

pub room_told : (s : Standing) → HasRoom s → has_room s ≡ true
room_told s room = three s.room s.funds.room s.items.room room.rows room.funds room.items

first : (a b : Bool) → (a && b) ≡ true → a ≡ true
first true b e = refl
first false b e = cc

rest : (a b : Bool) → (a && b) ≡ true → b ≡ true
rest true b e = e
rest false b e = cc

one : (a : ℕ) → nat_le 1 a ≡ true → 1 ≤ a
one a e = grind (arith, nat_tests)

pub room_is : (s : Standing) → has_room s ≡ true → HasRoom s
room_is s e =
    let more = rest (nat_le 1 s.room) (nat_le 1 s.funds.room && nat_le 1 s.items.room) e in
    record {
      rows = one s.room (first (nat_le 1 s.room) (nat_le 1 s.funds.room && nat_le 1 s.items.room) e);
      funds = one s.funds.room (first (nat_le 1 s.funds.room) (nat_le 1 s.items.room) more);
      items = one s.items.room (rest (nat_le 1 s.funds.room) (nat_le 1 s.items.room) more);
    }

-- ---- the order of time

pub newest_more : (h : List Entry) (e : Entry) → newest_first (h ++ e ∷ []) ≡ e ∷ newest_first h
newest_more h e = reverse-append h (e ∷ [])

-- an adjudicator that stands for a history and one entry more
pub stands_later : (r : Rules) (h : List Entry) (e : Entry) (s : Standing) → StandsFor r (e ∷ newest_first h) s → StandsFor r (newest_first (h ++ e ∷ [])) s
stands_later r h e s st = subst (λ (l : List Entry). StandsFor r l s) (sym (newest_more h e)) st

-- ---- legal histories

from_places : (r : Rules) (g : List Entry) → ((later past : List Entry) (e : Entry) → g ≡ later ++ e ∷ past → (e.number ≡ suc (length past)) × (e.reply ≡ reply_to r past e.op)) → Legal r g
from_places r [] each = tt
from_places r (e ∷ past) each =
    let here = each [] past e refl in (from_places r past (λ later older x s. each (e ∷ later) older x (ap (λ (l : List Entry). e ∷ l) s)), here.0, here.1)

at_seam : (front back : List Entry) (e : Entry) → get_elem? (front ++ e ∷ back) (length front) ≡ some e
at_seam [] back e = refl
at_seam (x ∷ front) back e = at_seam front back e

-- in the order of time
turned_back : (h later past : List Entry) (e : Entry) → reverse h ≡ later ++ e ∷ past → h ≡ reverse past ++ e ∷ reverse later
turned_back h later past e s =
    sym (reverse-reverse h) ∙ (ap reverse s ∙ (reverse-append later (e ∷ past) ∙ (ap (λ (l : List Entry). l ++ reverse later) (reverse-append (e ∷ []) past)
    ∙ append_assoc (reverse past) (e ∷ []) (reverse later))))

pub shared_legal : (r : Rules) (h : List Entry) → IsLegal (entry_after r) h → Legal r (newest_first h)
shared_legal r h legal = from_places r (reverse h) each
  where
    each : (later past : List Entry) (e : Entry) → reverse h ≡ later ++ e ∷ past → (e.number ≡ suc (length past)) × (e.reply ≡ reply_to r past e.op)
    each later past e s =
        let back = turned_back h later past e s in
        let front = reverse past in
        let place : get_elem? h (length front) ≡ some e = ap (λ (l : List Entry). get_elem? l (length front)) back ∙ at_seam front (reverse later) e in
        let gave = legal (length front) e place in
        let before : newest_first (take (length front) h) ≡ past =
        ap (λ (l : List Entry). reverse (take (length front) l)) back ∙ (ap reverse (take-append_seam front (e ∷ reverse later)) ∙ reverse-reverse past) in
        let long : length front ≡ length past = length-reverse past in (
          ap (λ (x : Entry). x.number) gave.2 ∙ omega (arith, long),
          ap (λ (x : Entry). x.reply) gave.2 ∙ (ap (λ (l : List Entry). reply_to r l gave.1) before ∙ ap (λ (x : Entry). reply_to r past x.op) (sym gave.2)),
        )
