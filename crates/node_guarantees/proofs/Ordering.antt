-- The parts that the orders of a journal open are those that its commands open.
use Rattle.std.proofs.Common.{◌≡◌, ℕ, suc, ◌<◌, ◌≤◌, ◌==◌, Bool, true, false, cond, List, [], ◌∷◌, ◌++◌, length, refl, ◌∙◌, ap, arith}
use Rattle.std.specs.Prelude.{Some}
use Rattle.std.proofs.lemmas.Bool.{eq-eqb}
use Rattle.channel_values.specs.Rules.{Rules}
use Rattle.channel_safety.proofs.Lists.{length-up}
use Rattle.channel_safety.proofs.Tests.{cond-true, cond-false, eqb-false}
use Rattle.channel_safety.specs.Journals.{is_followed}
use Rattle.funding_plans.specs.declared.plan.Part.{Part}
use Rattle.funding_plans.specs.declared.plan.Part.TheVariants.{End, Middle}
use Rattle.share_laws.specs.Places.{Order, part_of, opened_part, plan}
use Rattle.network.specs.declared.command.Command.{Command}
use Rattle.network.specs.declared.command.Command.TheVariants.{Open, OpenOn, OpenVirtual, Pay, Close, Release, Resend, Exit}
use Rattle.channel_node.specs.Openings.{takes_part, virtual, parts_of}
use Rattle.channel_node.specs.Places.{Told, line_of, lines_of}
use Rattle.node_guarantees.specs.Orders.{opening_of, order_of, orders_of}

-- the part that an event opens, and those that a journal opens
abbrev pub part_in : Rules → List ℕ → Told → List Part
part_in r key x = cond (is_followed x.deed) (part_of (order_of r key x.command)) []

abbrev pub parts_told : Rules → List ℕ → List Told → List Part
parts_told r key [] = []
parts_told r key (x ∷ front) = parts_told r key front ++ part_in r key x

-- the order of a command opens the parts that the command adds
pub order-opens : (r : Rules) (key : List ℕ) (command : Command) → part_of (order_of r key (Some command)) ≡ parts_of r key command
order-opens r key (Open f outcome) = refl
order-opens r key (OpenOn o) = refl
order-opens r key (OpenVirtual v) = go (takes_part key v.channel)
  where
    go : (b : Bool) → part_of (opening_of (cond b (End (virtual r key v.ledgers v.guarantors v.joint v.channel v.asset v.amounts) ∷ []) (Middle (virtual r key v.ledgers v.guarantors v.joint v.channel v.asset v.amounts) ∷ [])))
        ≡ cond b (End (virtual r key v.ledgers v.guarantors v.joint v.channel v.asset v.amounts) ∷ []) (Middle (virtual r key v.ledgers v.guarantors v.joint v.channel v.asset v.amounts) ∷ [])
    go true = refl
    go false = refl
order-opens r key (Pay channel asset amount) = refl
order-opens r key (Close channel) = refl
order-opens r key (Release how channel) = refl
order-opens r key (Resend channel) = refl
order-opens r key Exit = refl

pub lines-length : (key : List ℕ) (front : List Told) → length (lines_of key front) ≡ length front
lines-length key [] = refl
lines-length key (x ∷ front) = ap suc (lines-length key front)

module _ (r : Rules) (key : List ℕ) where
  -- the orders say at each place what the command there asks for
  abbrev pub Fits : (ℕ → Order) → List Told → Type 0
  Fits orders [] = Unit {0}
  Fits orders (x ∷ front) = (orders (length front) ≡ order_of r key x.command) × Fits orders front

  fits-same : (orders others : ℕ → Order) (front : List Told) → ((n : ℕ) → n < length front → others n ≡ orders n) → Fits orders front → Fits others front
  fits-same orders others [] same fits = tt
  fits-same orders others (x ∷ front) same fits = (
    same (length front) (omega arith) ∙ fits.0,
    fits-same orders others front (λ n l. same n (omega arith)) fits.1,
  )

  -- with one more event, at the places before it
  one-more : (x : Told) (journal : List Told) (n : ℕ) → n < length journal → orders_of r key (x ∷ journal) n ≡ orders_of r key journal n
  one-more x journal n l = cond-false (n == length journal) (order_of r key x.command) (orders_of r key journal n) (eqb-false n (length journal) (λ e. omega arith))

  fits-own : (front : List Told) → Fits (orders_of r key front) front
  fits-own [] = tt
  fits-own (x ∷ front) = (
    cond-true (length front == length front) (order_of r key x.command) (orders_of r key front (length front)) (eq-eqb (length front) (length front) refl),
    fits-same (orders_of r key front) (orders_of r key (x ∷ front)) front (one-more x front) (fits-own front),
  )

  pub fits-journal : (newer front : List Told) → Fits (orders_of r key (newer ++ front)) front
  fits-journal [] front = fits-own front
  fits-journal (x ∷ newer) front =
      let up : length front ≤ length (newer ++ front) = length-up newer front in
      fits-same (orders_of r key (newer ++ front)) (orders_of r key (x ∷ (newer ++ front))) front (λ n l. one-more x (newer ++ front) n (omega arith)) (fits-journal newer front)

  pub plan-told : (orders : ℕ → Order) (front : List Told) → Fits orders front → plan orders (lines_of key front) ≡ parts_told r key front
  plan-told orders [] fits = refl
  plan-told orders (x ∷ front) fits =
      ap (λ (parts : List Part). parts ++ opened_part orders (line_of key x) (lines_of key front)) (plan-told orders front fits.1)
      ∙ ap (λ (order : Order). parts_told r key front ++ cond (is_followed x.deed) (part_of order) []) (ap orders (lines-length key front) ∙ fits.0)
