-- What the two sign and take while the channel runs, and when it closes.
use Rattle.std.proofs.Common.{◌≡◌, ℕ, ◌+◌, ◌-◌, ◌%◌, Bool, true, false, ◌||◌, List, [], ◌∷◌, refl, arith}
use Rattle.std.specs.Prelude.{◌==◌, ◌^◌, nat_lt, nat_le, Option, Some, None, Ok}
use Rattle.std.proofs.lemmas.Bool.Decides.{nat_tests}
use Rattle.channel_values.specs.Parts.{StateParts}
use Rattle.channel_values.specs.declared.chain.Mark.{Mark}
use Rattle.channel_values.specs.Digests.{name_of_person}
use Rattle.channel_values.specs.Rules.{Rules}
use Rattle.call_history.specs.declared.call.Call.TheVariants.{Conclude}
use Rattle.call_history.specs.declared.view.WorldView.{WorldView}
use Rattle.call_history.proofs.Names.{bytes_eq_self}
use Rattle.network.specs.declared.command.Command.TheVariants.{Pay, Close}
use Rattle.channel_node.specs.Minds.{facts_of, commanded}
use Rattle.channel_node.specs.Refusing.{signs_in, message_refusal, command_refusal}
use Rattle.stage_tables.specs.Stages.{calls_in}
use Rattle.script_run.specs.Table.{stages}
use Rattle.script_run.proofs.PairNumbers.{same-number}
use Rattle.script_run.specs.Pair.{mind, marks_a, marks_b, state, funded, chain}
use Rattle.script_run.specs.TwoPeople.{Pair, fixed, name}
use Rattle.script_run.proofs.Notes.{Well, by, whole}
use Rattle.fairness_laws.proofs.Finding.{flips}
use Rattle.script_run.proofs.Opening.{Begins}

-- a running channel: the latest state has this turn and these amounts, the older one is any
pub record Runs (p : Pair) (turn x y : ℕ) : Type 0 where
  pub late : nat_le 3 turn ≡ true
  pub set_up : nat_le 1 turn ≡ true

pub rests : (r : Rules) (p : Pair) (me : ℕ) (key : List ℕ) (last : Option StateParts) (marks-one marks-two : Mark) (before turn u v x y : ℕ) → Runs p turn x y
    → signs_in stages r None (mind r p me key false (funded r p) (state p before false u v ∷ state p turn false x y ∷ []) (marks-one ∷ marks-two ∷ []) last) (name r p) ≡ None
rests r p me key last m1 m2 before turn u v x y w = simp (bytes_eq_self (name r p), w.late, w.set_up, whole p.a p.b, same-number p.asset)

pub calls_nothing : (r : Rules) (p : Pair) (me : ℕ) (key : List ℕ) (last : Option StateParts) (marks-one marks-two : Mark) (before turn u v x y : ℕ) → Runs p turn x y
    → calls_in (facts_of (mind r p me key false (funded r p) (state p before false u v ∷ state p turn false x y ∷ []) (marks-one ∷ marks-two ∷ []) last)) ≡ []
calls_nothing r p me key last m1 m2 before turn u v x y w = simp (bytes_eq_self (name r p), w.late, w.set_up, whole p.a p.b, same-number p.asset)

-- ---- payments

less : (t : ℕ) → nat_le 3 t ≡ true → nat_lt (t + 1) 2 ≡ false
less t h = grind (arith, nat_tests)

one-more : (t : ℕ) → (t + 1 == t + 1) ≡ true
one-more t = grind (arith, nat_tests)

or-true : (b : Bool) → (b || true) ≡ true
or-true true = refl
or-true false = refl

-- what is asked of a payment by the first of the two, from so much for each to so much
pub record PaysA (r : Rules) (p : Pair) (turn x y amount : ℕ) : Type 0 where
  pub runs : Runs p turn x y
  pub early : nat_lt (turn + 1) (2 ^ 48) ≡ true
  pub covered : nat_le amount x ≡ true
  pub turns : (turn + 1) % 2 ≡ 0
  pub step : r.step (fixed p) (state p turn false x y) (state p (turn + 1) false (x - amount) (y + amount)) ≡ None

pub pays_a : (r : Rules) (p : Pair) (limit used : ℕ) (last : Option StateParts) (ga gb : List ℕ) (before turn u v x y amount : ℕ) → Begins r p → PaysA r p turn x y amount → nat_le limit used ≡ false
    → command_refusal stages r limit used (mind r p 0 p.key_a false (funded r p) (state p before false u v ∷ state p turn false x y ∷ []) (marks_b ga gb) last) (Pay (name r p) p.asset amount) ≡ None
pays_a r p limit used last ga gb before turn u v x y amount b w unspent =
    simp (bytes_eq_self (name r p), bytes_eq_self (name_of_person p.key_a), bytes_eq_self (name_of_person p.key_b), b.apart, flips (name_of_person p.key_a) (name_of_person p.key_b) b.apart, w.runs.late, w.runs.set_up, w.early, w.covered, or-true (amount == 0), w.turns, w.step, unspent, whole p.a p.b, same-number p.asset)

pub signs_payment_a : (r : Rules) (p : Pair) (last : Option StateParts) (ga gb : List ℕ) (before turn u v x y amount : ℕ) → Begins r p → PaysA r p turn x y amount
    → signs_in stages r (Some (Pay (name r p) p.asset amount)) (mind r p 0 p.key_a false (funded r p) (state p before false u v ∷ state p turn false x y ∷ []) (marks_b ga gb) last) (name r p)
    ≡ Some (state p (turn + 1) false (x - amount) (y + amount))
signs_payment_a r p last ga gb before turn u v x y amount b w =
    simp (bytes_eq_self (name r p), bytes_eq_self (name_of_person p.key_a), bytes_eq_self (name_of_person p.key_b), b.apart, flips (name_of_person p.key_a) (name_of_person p.key_b) b.apart, w.turns, w.step, one-more turn, same-number p.asset)

-- whatever the state, the other takes it
pub takes_payment_b : (r : Rules) (p : Pair) (last : Option StateParts) (ga gb signature : List ℕ) (before turn u v x y z w : ℕ) (final : Bool) → Runs p turn x y → (turn + 1) % 2 ≡ 0
    → r.step (fixed p) (state p turn false x y) (state p (turn + 1) final z w) ≡ None → Well r p p.key_a (state p (turn + 1) final z w) signature
    → message_refusal stages r (mind r p 1 p.key_b false (funded r p) (state p before false u v ∷ state p turn false x y ∷ []) (marks_b ga gb) last) (Ok (name r p, by (state p (turn + 1) final z w) signature)) ≡ None
takes_payment_b r p last ga gb signature before turn u v x y z w final runs even step well =
    simp (bytes_eq_self (name r p), runs.late, runs.set_up, less turn runs.late, even, step, well, one-more turn, whole p.a p.b, same-number p.asset)

-- what is asked of a payment by the second of the two, from so much for each to so much
pub record PaysB (r : Rules) (p : Pair) (turn x y amount : ℕ) : Type 0 where
  pub runs : Runs p turn x y
  pub early : nat_lt (turn + 1) (2 ^ 48) ≡ true
  pub covered : nat_le amount y ≡ true
  pub turns : (turn + 1) % 2 ≡ 1
  pub step : r.step (fixed p) (state p turn false x y) (state p (turn + 1) false (x + amount) (y - amount)) ≡ None

pub pays_b : (r : Rules) (p : Pair) (limit used : ℕ) (last : Option StateParts) (ga gb : List ℕ) (before turn u v x y amount : ℕ) → Begins r p → PaysB r p turn x y amount → nat_le limit used ≡ false
    → command_refusal stages r limit used (mind r p 1 p.key_b false (funded r p) (state p before false u v ∷ state p turn false x y ∷ []) (marks_a ga gb) last) (Pay (name r p) p.asset amount) ≡ None
pays_b r p limit used last ga gb before turn u v x y amount b w unspent =
    simp (bytes_eq_self (name r p), bytes_eq_self (name_of_person p.key_a), bytes_eq_self (name_of_person p.key_b), b.apart, flips (name_of_person p.key_a) (name_of_person p.key_b) b.apart, w.runs.late, w.runs.set_up, w.early, w.covered, or-true (amount == 0), w.turns, w.step, unspent, whole p.a p.b, same-number p.asset)

pub signs_payment_b : (r : Rules) (p : Pair) (last : Option StateParts) (ga gb : List ℕ) (before turn u v x y amount : ℕ) → Begins r p → PaysB r p turn x y amount
    → signs_in stages r (Some (Pay (name r p) p.asset amount)) (mind r p 1 p.key_b false (funded r p) (state p before false u v ∷ state p turn false x y ∷ []) (marks_a ga gb) last) (name r p)
    ≡ Some (state p (turn + 1) false (x + amount) (y - amount))
signs_payment_b r p last ga gb before turn u v x y amount b w =
    simp (bytes_eq_self (name r p), bytes_eq_self (name_of_person p.key_a), bytes_eq_self (name_of_person p.key_b), b.apart, flips (name_of_person p.key_a) (name_of_person p.key_b) b.apart, w.turns, w.step, one-more turn, same-number p.asset)

-- whatever the state, the other takes it
pub takes_payment_a : (r : Rules) (p : Pair) (last : Option StateParts) (ga gb signature : List ℕ) (before turn u v x y z w : ℕ) (final : Bool) → Runs p turn x y → (turn + 1) % 2 ≡ 1
    → r.step (fixed p) (state p turn false x y) (state p (turn + 1) final z w) ≡ None → Well r p p.key_b (state p (turn + 1) final z w) signature
    → message_refusal stages r (mind r p 0 p.key_a false (funded r p) (state p before false u v ∷ state p turn false x y ∷ []) (marks_a ga gb) last) (Ok (name r p, by (state p (turn + 1) final z w) signature)) ≡ None
takes_payment_a r p last ga gb signature before turn u v x y z w final runs even step well =
    simp (bytes_eq_self (name r p), runs.late, runs.set_up, less turn runs.late, even, step, well, one-more turn, whole p.a p.b, same-number p.asset)

-- ---- closing

pub closes : (r : Rules) (p : Pair) (me limit used : ℕ) (key : List ℕ) (last : Option StateParts) (m1 m2 : Mark) (before turn u v x y : ℕ) → Runs p turn x y
    → command_refusal stages r limit used (mind r p me key false (funded r p) (state p before false u v ∷ state p turn false x y ∷ []) (m1 ∷ m2 ∷ []) last) (Close (name r p)) ≡ None
closes r p me limit used key last m1 m2 before turn u v x y w = simp (bytes_eq_self (name r p), w.late, w.set_up, whole p.a p.b, same-number p.asset)

pub closing : (r : Rules) (p : Pair) (me : ℕ) (key : List ℕ) (last : Option StateParts) (v : WorldView) (states : List StateParts) (marks : List Mark)
    → commanded r (Close (name r p)) (mind r p me key false v states marks last) ≡ mind r p me key true v states marks last
closing r p me key last v states marks = simp (bytes_eq_self (name r p))

pub signs_final_a : (r : Rules) (p : Pair) (last : Option StateParts) (ga gb : List ℕ) (before turn u v x y : ℕ) → nat_lt (turn + 1) (2 ^ 48) ≡ true → (turn + 1) % 2 ≡ 0
    → r.step (fixed p) (state p turn false x y) (state p (turn + 1) true x y) ≡ None
    → signs_in stages r None (mind r p 0 p.key_a true (funded r p) (state p before false u v ∷ state p turn false x y ∷ []) (marks_b ga gb) last) (name r p) ≡ Some (state p (turn + 1) true x y)
signs_final_a r p last ga gb before turn u v x y early even step = simp (bytes_eq_self (name r p), early, even, step, one-more turn)

-- it isn't the other's turn, and nothing is called before all is final
pub waits_final_b : (r : Rules) (p : Pair) (last : Option StateParts) (ga gb : List ℕ) (before turn u v x y : ℕ) (final : Bool) → nat_lt (turn + 1) (2 ^ 48) ≡ true → (turn + 1) % 2 ≡ 0
    → signs_in stages r None (mind r p 1 p.key_b true (funded r p) (state p before false u v ∷ state p turn final x y ∷ []) (marks_b ga gb) last) (name r p) ≡ None
waits_final_b r p last ga gb before turn u v x y final early even = simp (bytes_eq_self (name r p), early, even)

pub waits_final_a : (r : Rules) (p : Pair) (last : Option StateParts) (ga gb : List ℕ) (before turn u v x y : ℕ) (final : Bool) → nat_lt (turn + 1) (2 ^ 48) ≡ true → (turn + 1) % 2 ≡ 1
    → signs_in stages r None (mind r p 0 p.key_a true (funded r p) (state p before false u v ∷ state p turn final x y ∷ []) (marks_a ga gb) last) (name r p) ≡ None
waits_final_a r p last ga gb before turn u v x y final early odd = simp (bytes_eq_self (name r p), early, odd)

pub calls_closing : (r : Rules) (p : Pair) (me : ℕ) (key : List ℕ) (last : Option StateParts) (m1 m2 : Mark) (before turn u v x y : ℕ) (final : Bool)
    → calls_in (facts_of (mind r p me key true (funded r p) (state p before false u v ∷ state p turn final x y ∷ []) (m1 ∷ m2 ∷ []) last)) ≡ []
calls_closing r p me key last m1 m2 before turn u v x y final = simp (bytes_eq_self (name r p))

pub takes_final_b : (r : Rules) (p : Pair) (last : Option StateParts) (ga gb signature : List ℕ) (before turn u v x y : ℕ) → Runs p turn x y → (turn + 1) % 2 ≡ 0
    → r.step (fixed p) (state p turn false x y) (state p (turn + 1) true x y) ≡ None → Well r p p.key_a (state p (turn + 1) true x y) signature
    → message_refusal stages r (mind r p 1 p.key_b true (funded r p) (state p before false u v ∷ state p turn false x y ∷ []) (marks_b ga gb) last) (Ok (name r p, by (state p (turn + 1) true x y) signature)) ≡ None
takes_final_b r p last ga gb signature before turn u v x y runs even step well =
    simp (bytes_eq_self (name r p), less turn runs.late, even, step, well, one-more turn)

-- the second final state, which the other signs, and the conclude
pub signs_last_b : (r : Rules) (p : Pair) (last : Option StateParts) (ga gb : List ℕ) (before turn u v x y : ℕ) → nat_lt (turn + 1) (2 ^ 48) ≡ true → (turn + 1) % 2 ≡ 1
    → r.step (fixed p) (state p turn true x y) (state p (turn + 1) true x y) ≡ None
    → signs_in stages r None (mind r p 1 p.key_b true (funded r p) (state p before false u v ∷ state p turn true x y ∷ []) (marks_a ga gb) last) (name r p) ≡ Some (state p (turn + 1) true x y)
signs_last_b r p last ga gb before turn u v x y early odd step = simp (bytes_eq_self (name r p), early, odd, step, one-more turn)

pub concludes : (r : Rules) (p : Pair) (me : ℕ) (key : List ℕ) (last : Option StateParts) (m1 m2 : Mark) (before turn u v x y : ℕ)
    → calls_in (facts_of (mind r p me key true (funded r p) (state p before true u v ∷ state p turn true x y ∷ []) (m1 ∷ m2 ∷ []) last)) ≡ Conclude (chain p (state p before true u v ∷ state p turn true x y ∷ []) (m1 ∷ m2 ∷ [])) ∷ []
concludes r p me key last m1 m2 before turn u v x y = simp (bytes_eq_self (name r p))

-- ---- and where the second closes

pub signs_final_b : (r : Rules) (p : Pair) (last : Option StateParts) (ga gb : List ℕ) (before turn u v x y : ℕ) → nat_lt (turn + 1) (2 ^ 48) ≡ true → (turn + 1) % 2 ≡ 1
    → r.step (fixed p) (state p turn false x y) (state p (turn + 1) true x y) ≡ None
    → signs_in stages r None (mind r p 1 p.key_b true (funded r p) (state p before false u v ∷ state p turn false x y ∷ []) (marks_a ga gb) last) (name r p) ≡ Some (state p (turn + 1) true x y)
signs_final_b r p last ga gb before turn u v x y early even step = simp (bytes_eq_self (name r p), early, even, step, one-more turn)

pub waits_final_c : (r : Rules) (p : Pair) (last : Option StateParts) (ga gb : List ℕ) (before turn u v x y : ℕ) (final : Bool) → nat_lt (turn + 1) (2 ^ 48) ≡ true → (turn + 1) % 2 ≡ 1
    → signs_in stages r None (mind r p 0 p.key_a true (funded r p) (state p before false u v ∷ state p turn final x y ∷ []) (marks_a ga gb) last) (name r p) ≡ None
waits_final_c r p last ga gb before turn u v x y final early even = simp (bytes_eq_self (name r p), early, even)

pub waits_final_d : (r : Rules) (p : Pair) (last : Option StateParts) (ga gb : List ℕ) (before turn u v x y : ℕ) (final : Bool) → nat_lt (turn + 1) (2 ^ 48) ≡ true → (turn + 1) % 2 ≡ 0
    → signs_in stages r None (mind r p 1 p.key_b true (funded r p) (state p before false u v ∷ state p turn final x y ∷ []) (marks_b ga gb) last) (name r p) ≡ None
waits_final_d r p last ga gb before turn u v x y final early odd = simp (bytes_eq_self (name r p), early, odd)

pub takes_final_a : (r : Rules) (p : Pair) (last : Option StateParts) (ga gb signature : List ℕ) (before turn u v x y : ℕ) → Runs p turn x y → (turn + 1) % 2 ≡ 1
    → r.step (fixed p) (state p turn false x y) (state p (turn + 1) true x y) ≡ None → Well r p p.key_b (state p (turn + 1) true x y) signature
    → message_refusal stages r (mind r p 0 p.key_a true (funded r p) (state p before false u v ∷ state p turn false x y ∷ []) (marks_a ga gb) last) (Ok (name r p, by (state p (turn + 1) true x y) signature)) ≡ None
takes_final_a r p last ga gb signature before turn u v x y runs even step well =
    simp (bytes_eq_self (name r p), less turn runs.late, even, step, well, one-more turn)

pub signs_last_a : (r : Rules) (p : Pair) (last : Option StateParts) (ga gb : List ℕ) (before turn u v x y : ℕ) → nat_lt (turn + 1) (2 ^ 48) ≡ true → (turn + 1) % 2 ≡ 0
    → r.step (fixed p) (state p turn true x y) (state p (turn + 1) true x y) ≡ None
    → signs_in stages r None (mind r p 0 p.key_a true (funded r p) (state p before false u v ∷ state p turn true x y ∷ []) (marks_b ga gb) last) (name r p) ≡ Some (state p (turn + 1) true x y)
signs_last_a r p last ga gb before turn u v x y early odd step = simp (bytes_eq_self (name r p), early, odd, step, one-more turn)
