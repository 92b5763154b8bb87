-- The premises of the laws on shares and on leaving can hold together, where money is deposited, paid and paid out, and
-- where another challenges with an old state.
use Rattle.std.specs.Prelude.{◌≡◌, ℕ, true, false, List, [], ◌∷◌, ◌++◌, length, reverse, Some}
use Rattle.std.specs.List.{slice_get}
use Rattle.std.specs.Str.{bytes_eq}
use Rattle.channel_values.specs.Parts.{FixedParts}
use Rattle.channel_values.specs.declared.value.AssetOutcome.{AssetOutcome}
use Rattle.channel_values.specs.declared.value.Dest.TheVariants.{Person}
use Rattle.call_history.specs.declared.standing.Standing.TheVariants.{Open, Challenged}
use Rattle.channel_values.specs.Collisions.{NoneCollide}
use Rattle.channel_values.specs.Digests.{name_of_person}
use Rattle.channel_values.specs.Amounts.{amt}
use Rattle.channel_values.specs.Rules.{Rules, KeepsFinal}
use Rattle.support_rules.specs.Real.{real}
use Rattle.call_history.specs.History.{Legal, mode, row, settled, held_of, paid_to}
use Rattle.call_history.specs.declared.entry.Entry.{Entry}
use Rattle.channel_safety.specs.Hashed.{hashed}
use Rattle.channel_safety.specs.Honest.{Honest}
use Rattle.channel_safety.specs.Journals.{Line}
use Rattle.channel_safety.specs.Premises.{Unforged, InTime}
use Rattle.channel_safety.specs.Occurring.{NoCollision, AreValid}
use Rattle.funding_plans.specs.Shapes.{items_in}
use Rattle.funding_plans.specs.declared.plan.Part.TheVariants.{Root}
use Rattle.share_laws.specs.Kept.{is_signing, last_order}
use Rattle.share_laws.specs.Places.{Order, paying, plan, channels, share, Funded, IsPlace}
use Rattle.share_laws.specs.Finality.{StepsKeepPossible}
use Rattle.share_laws.specs.Lines.{AreInOrder, SignNothing}
use Rattle.channel_exits.specs.Calls.{exit_calls}
use Rattle.channel_exits.specs.Endings.{ended, Stand, AreFinal}
use Rattle.channel_exits.specs.Fair.{LeavesFairly}

-- all that the laws ask of rules, a history, and the journal of the person me with this key
pub record AllHold (r : Rules) (key me : List ℕ) (orders : ℕ → Order) (h : List Entry)
    (journal : List Line) : Type 0 where
  pub keeps : KeepsFinal r
  pub possible : StepsKeepPossible r key me
  pub legal : Legal r h
  pub honest : Honest r key h journal
  pub unforged : Unforged r key h journal
  pub distinct : NoCollision r h journal
  pub valid : AreValid h journal
  pub in_time : InTime r h journal
  pub leaves : LeavesFairly r me orders h journal
  pub in_order : AreInOrder journal

-- The history of a payment channel, and the journal of one of its two people. Entries and lines stand newest
-- first, each list in parts.
pub record Story : Type 0 where
  pub key : List ℕ
  pub me : List ℕ
  pub other : List ℕ
  pub orders : ℕ → Order
  pub fixed : FixedParts
  -- the deposits; the other's challenge with an old state, what answers it, and until the channel is final; the
  -- transfers
  pub deposits : List Entry
  pub attack : Entry
  pub answer : Entry
  pub ending : List Entry
  pub transfers : List Entry
  -- the set-up, an order to pay, the payment, until the person signs no more; and what it does then
  pub set_up : List Line
  pub order : Line
  pub payment : Line
  pub back : List Line
  pub closing : List Line

-- after the deposits until the channel is final; by then; and in the end
abbrev pub since : Story → List Entry
since s = s.ending ++ (s.answer ∷ s.attack ∷ [])

abbrev pub until_final : Story → List Entry
until_final s = since s ++ s.deposits

abbrev pub history : Story → List Entry
history s = s.transfers ++ until_final s

-- with the payment; until the person signs no more; and the whole journal
abbrev pub paid : Story → List Line
paid s = s.payment ∷ s.order ∷ s.set_up

abbrev pub signed : Story → List Line
signed s = s.back ++ paid s

abbrev pub journal : Story → List Line
journal s = s.closing ++ signed s

abbrev pub share_at : Rules → Story → List Entry → List Line → ℕ
share_at r s past front = share r s.me s.orders past front 0

-- In a channel of two people that holds 8 the person's share is 5. It pays 2, and is paid 1 back. The other
-- challenges with the state in between, whose 3 the person would get, but it is paid its 4.
pub record PaysAndIsPaid (r : Rules) (s : Story) : Type 0 where
  pub all : AllHold r s.key s.me s.orders (history s) (journal s)
  pub person : s.me ≡ name_of_person s.key
  pub none_collide : NoneCollide (hashed (history s) (journal s))
  -- a payment channel of two people, of whom the person is the first, is all of the plan
  pub apart : bytes_eq s.me s.other ≡ false
  pub two : length s.fixed.keys ≡ 2
  pub seat : slice_get s.fixed.keys 0 ≡ Some s.key
  pub pays : s.fixed.app ≡ 1
  pub own : channels (journal s) ≡ s.fixed ∷ []
  pub part : plan s.orders (journal s) ≡ Root (r.named s.fixed) ∷ []
  -- after the set-up and the deposits the plan is funded
  pub funded_at : IsPlace (history s) (journal s) s.deposits s.set_up
  pub holds : held_of s.deposits (r.named s.fixed) 0 ≡ 8
  pub funded : Funded r s.me s.orders s.deposits s.set_up
  pub share_before : share_at r s s.deposits s.set_up ≡ 5
  -- the person is told to pay 2, and signs that
  pub told : last_order s.orders (s.order ∷ s.set_up) ≡ paying 0 2
  pub signs : is_signing s.payment.deed ≡ true
  pub paid_at : IsPlace (history s) (journal s) s.deposits (paid s)
  pub share_after : share_at r s s.deposits (paid s) ≡ 3
  -- when it has signed its last state
  pub signed_at : IsPlace (history s) (journal s) s.deposits (signed s)
  pub share_signed : share_at r s s.deposits (signed s) ≡ 4
  pub no_more : SignNothing s.closing
  -- the other's challenge stands for less; it is answered
  pub old : List AssetOutcome
  pub attacked : mode r (r.named s.fixed) (s.attack ∷ s.deposits) ≡ Challenged
  pub by_other : (row r (r.named s.fixed) (s.attack ∷ s.deposits)).challenger ≡ 1
  pub settles_old : settled r (r.named s.fixed) (s.attack ∷ s.deposits) ≡ Some old
  pub less : amt (items_in 0 old) (Person s.me) ≡ 3
  pub answered : mode r (r.named s.fixed) (s.answer ∷ s.attack ∷ s.deposits) ≡ Open
  -- the channel becomes final, and the calls of the person's exit stand
  pub final_at : IsPlace (history s) (journal s) (until_final s) (journal s)
  pub final : AreFinal r (until_final s) (journal s)
  pub stood :
      Stand (reverse (exit_calls (ended r (until_final s)) s.me (plan s.orders (journal s)))) s.transfers
  -- nobody was paid by then, and both are in the end
  pub unpaid : paid_to (until_final s) s.me 0 ≡ 0
  pub was_paid : paid_to (history s) s.me 0 ≡ 4
  pub other_paid : paid_to (history s) s.other 0 ≡ 4

-- there is such a story, by the network's own rules
pub record PremisesHold : Type 0 where
  pub story : Story
  pub is : PaysAndIsPaid real story
