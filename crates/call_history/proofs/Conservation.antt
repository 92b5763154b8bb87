-- Nothing is lost or made.
use Rattle.std.proofs.Common.{◌≡◌, ℕ, ◌+◌, ◌≤◌, ◌<◌, ◌^◌, List, [], ◌∷◌, ◌++◌, true, cond, Option, Some, None, refl, sym, ◌∙◌, ap, arith, append_assoc, append-nil}
use Rattle.std.proofs.lemmas.List.{reverse-append}
use Rattle.std.proofs.lemmas.List.Sums.{sum_by-cons, sum_by-append}
use Rattle.std.specs.Prelude.{◌-◌, sum_by, reverse}
use Rattle.channel_values.specs.Outcomes.{is_same}
use Rattle.channel_values.specs.declared.value.Dest.{Dest}
use Rattle.channel_values.specs.declared.value.Dest.TheVariants.{Person, Channel}
use Rattle.call_history.specs.Flows.{is_person, carries, comes_from, is_outside, brings, takes, enters, into, out_of, held_in, paid_in, deposited_in, AreCovered, is_among, distinct, channel_of, person_of, source_of, channels_named, persons_named, AreConserved, held_by_all, paid_to_all, AreWithinAmounts}
use Rattle.channel_values.specs.Rules.{Rules}
use Rattle.call_history.specs.History.{Legal, newest_first, flow_of, flows_of, IsConserved, IsWithinDeposits}
use Rattle.call_history.specs.declared.funds.Flow.{Flow}
use Rattle.call_history.specs.declared.entry.Entry.{Entry}
use Rattle.call_history.proofs.Legality.{covered, deposits_fit}
use Rattle.call_history.proofs.Names.{sum_by_plus, sum_by_zero, sum_distinct, one_le, is_among-later, is_among-head}

-- the names of a flow are among those
abbrev Reaches : List (List ℕ) → List (List ℕ) → Dest → Type 0
Reaches cs ps (Channel c) = is_among c cs ≡ true
Reaches cs ps (Person p) = is_among p ps ≡ true

abbrev Leaves : List (List ℕ) → Option (List ℕ) → Type 0
Leaves cs None = Unit {0}
Leaves cs (Some c) = is_among c cs ≡ true

-- what a flow brings to channels and to persons is all of it, and so is what it takes from channels and from outside
brings_all : (cs ps : List (List ℕ)) (n : ℕ) (to : Dest) → Reaches cs ps to →
    sum_by (λ c. cond (is_same to (Channel c)) n 0) (distinct cs) + sum_by (λ p. cond (is_same to (Person p)) n 0) (distinct ps) ≡ n
brings_all cs ps n (Channel c) h = omega (arith, sum_distinct c n cs ∙ ap (λ b. cond b n 0) h, sum_by_zero (distinct ps))
brings_all cs ps n (Person p) h = omega (arith, sum_distinct p n ps ∙ ap (λ b. cond b n 0) h, sum_by_zero (distinct cs))

takes_all : (cs : List (List ℕ)) (n : ℕ) (from : Option (List ℕ)) → Leaves cs from →
    sum_by (λ c. cond (comes_from c from) n 0) (distinct cs) + cond (is_outside from) n 0 ≡ n
takes_all cs n None h = omega (arith, sum_by_zero (distinct cs))
takes_all cs n (Some c) h = omega (arith, sum_distinct c n cs ∙ ap (λ b. cond b n 0) h)

abbrev Named : List (List ℕ) → List (List ℕ) → List Flow → Type 0
Named cs ps [] = Unit {0}
Named cs ps (f ∷ fs) = Leaves cs f.from × Reaches cs ps f.to × Named cs ps fs

-- what came in, to channels and persons, is what went out, of channels and from outside
in_is_out : (cs ps : List (List ℕ)) (asset : ℕ) (fs : List Flow) → Named cs ps fs →
    sum_by (λ c. into fs (Channel c) asset) (distinct cs) + sum_by (λ p. into fs (Person p) asset) (distinct ps)
    ≡ sum_by (λ c. out_of fs c asset) (distinct cs) + deposited_in fs asset
in_is_out cs ps asset [] h = omega (arith, sum_by_zero (distinct cs), sum_by_zero (distinct ps))
in_is_out cs ps asset (f ∷ fs) h =
    omega (
      arith,
      in_is_out cs ps asset fs h.2,
      brings_all cs ps (carries asset f) f.to h.1,
      takes_all cs (carries asset f) f.from h.0,
      sum_by-cons (enters asset) f fs,
      sum_by_plus (λ c. brings (Channel c) asset f) (λ c. into fs (Channel c) asset) (λ c. into (f ∷ fs) (Channel c) asset) (λ c. sum_by-cons (brings (Channel c) asset) f fs) (distinct cs),
      sum_by_plus (λ p. brings (Person p) asset f) (λ p. into fs (Person p) asset) (λ p. into (f ∷ fs) (Person p) asset) (λ p. sum_by-cons (brings (Person p) asset) f fs) (distinct ps),
      sum_by_plus (λ c. takes c asset f) (λ c. out_of fs c asset) (λ c. out_of (f ∷ fs) c asset) (λ c. sum_by-cons (takes c asset) f fs) (distinct cs),
    )

-- each flow is named in the names of all
Leaves-later : (xs cs : List (List ℕ)) (from : Option (List ℕ)) → Leaves cs from → Leaves (xs ++ cs) from
Leaves-later xs cs None h = tt
Leaves-later xs cs (Some c) h = is_among-later c xs cs h

Reaches-later : (xs ys cs ps : List (List ℕ)) (to : Dest) → Reaches cs ps to → Reaches (xs ++ cs) (ys ++ ps) to
Reaches-later xs ys cs ps (Channel c) h = is_among-later c xs cs h
Reaches-later xs ys cs ps (Person p) h = is_among-later p ys ps h

Named-later : (xs ys cs ps : List (List ℕ)) (fs : List Flow) → Named cs ps fs → Named (xs ++ cs) (ys ++ ps) fs
Named-later xs ys cs ps [] h = tt
Named-later xs ys cs ps (f ∷ fs) h = (Leaves-later xs cs f.from h.0, Reaches-later xs ys cs ps f.to h.1, Named-later xs ys cs ps fs h.2)

Leaves-here : (xs cs : List (List ℕ)) (from : Option (List ℕ)) → Leaves ((source_of from ++ xs) ++ cs) from
Leaves-here xs cs None = tt
Leaves-here xs cs (Some c) = is_among-head c (xs ++ cs)

Reaches-here : (cs ps : List (List ℕ)) (to : Dest) → Reaches (channel_of to ++ cs) (person_of to ++ ps) to
Reaches-here cs ps (Channel c) = is_among-head c cs
Reaches-here cs ps (Person p) = is_among-head p ps

all_named : (fs : List Flow) → Named (channels_named fs) (persons_named fs) fs
all_named [] = tt
all_named (f ∷ fs) =
    let cs = channels_named fs in
    let ps = persons_named fs in
    let mid = channel_of f.to ++ cs in (
      Leaves-here (channel_of f.to) cs f.from,
      rw append_assoc (Reaches-later (source_of f.from) [] mid (person_of f.to ++ ps) f.to (Reaches-here cs ps f.to)),
      Named-later (source_of f.from ++ channel_of f.to) (person_of f.to) cs ps fs (all_named fs),
    )

kept : (i o : ℕ) → o ≤ i → i ≡ (i - o) + o
kept i o l = omega arith

-- over any names that have those of all flows
kept_over : (cs ps : List (List ℕ)) (fs : List Flow) → Named cs ps fs → AreCovered fs → (asset : ℕ) → deposited_in fs asset ≡
    sum_by (λ c. held_in fs c asset) (distinct cs) + sum_by (λ p. paid_in fs p asset) (distinct ps)
kept_over cs ps fs named h asset =
    omega (
      arith,
      in_is_out cs ps asset fs named,
      sum_by_plus (λ c. held_in fs c asset) (λ c. out_of fs c asset) (λ c. into fs (Channel c) asset) (λ c. kept (into fs (Channel c) asset) (out_of fs c asset) (h c asset)) (distinct cs),
    )

pub flows_conserved : (fs : List Flow) → AreCovered fs → AreConserved fs
flows_conserved fs h asset = kept_over (channels_named fs) (persons_named fs) fs (all_named fs) h asset

-- so nobody has more than was deposited
pub held_le : (fs : List Flow) → AreCovered fs → (channel : List ℕ) (asset : ℕ) → held_in fs channel asset ≤ deposited_in fs asset
held_le fs h channel asset =
    let cs = channel ∷ channels_named fs in
    let ps = persons_named fs in
    omega (
      arith,
      kept_over cs ps fs (Named-later (channel ∷ []) [] (channels_named fs) ps fs (all_named fs)) h asset,
      one_le (λ c. held_in fs c asset) channel cs (is_among-head channel (channels_named fs)),
    )

pub paid_le : (fs : List Flow) → AreCovered fs → (person : List ℕ) (asset : ℕ) → paid_in fs person asset ≤ deposited_in fs asset
paid_le fs h person asset =
    let cs = channels_named fs in
    let ps = person ∷ persons_named fs in
    omega (
      arith,
      kept_over cs ps fs (Named-later [] (person ∷ []) cs (persons_named fs) fs (all_named fs)) h asset,
      one_le (λ p. paid_in fs p asset) person ps (is_among-head person (persons_named fs)),
    )

pub held_within : (fs : List Flow) (channel : List ℕ) (asset : ℕ) → AreWithinAmounts fs → held_in fs channel asset ≤ deposited_in fs asset
held_within fs channel asset w = held_le fs w.covered channel asset

pub held_fits : (fs : List Flow) (channel : List ℕ) (asset : ℕ) → AreWithinAmounts fs → held_in fs channel asset < 2 ^ 64
held_fits fs channel asset w = omega (arith, held_le fs w.covered channel asset, w.deposits asset)

pub paid_fits : (fs : List Flow) (person : List ℕ) (asset : ℕ) → AreWithinAmounts fs → paid_in fs person asset < 2 ^ 64
paid_fits fs person asset w = omega (arith, paid_le fs w.covered person asset, w.deposits asset)

pub deposit_fits : (fs : List Flow) (asset : ℕ) → AreWithinAmounts fs → deposited_in fs asset < 2 ^ 64
deposit_fits fs asset w = w.deposits asset

-- over every legal history
pub conserved : (r : Rules) (h : List Entry) → Legal r h → IsConserved h
conserved r h legal = flows_conserved (flows_of h) (covered r h legal)

pub within_deposits : (r : Rules) (h : List Entry) → Legal r h → IsWithinDeposits h
within_deposits r h legal = record {
  held = λ channel asset. held_le (flows_of h) (covered r h legal) channel asset;
  paid = λ person asset. paid_le (flows_of h) (covered r h legal) person asset;
}

-- what a flow pays to a person
abbrev pub pays_person : ℕ → Flow → ℕ
pays_person asset f = cond (is_person f.to) (carries asset f) 0

brings_person : (cs ps : List (List ℕ)) (n : ℕ) (to : Dest) → Reaches cs ps to → sum_by (λ p. cond (is_same to (Person p)) n 0) (distinct ps) ≡ cond (is_person to) n 0
brings_person cs ps n (Channel c) h = sum_by_zero (distinct ps)
brings_person cs ps n (Person p) h = sum_distinct p n ps ∙ ap (λ b. cond b n 0) h

paid_over : (cs ps : List (List ℕ)) (asset : ℕ) (fs : List Flow) → Named cs ps fs → sum_by (λ p. paid_in fs p asset) (distinct ps) ≡ sum_by (pays_person asset) fs
paid_over cs ps asset [] h = sum_by_zero (distinct ps)
paid_over cs ps asset (f ∷ fs) h =
    omega (
      arith,
      paid_over cs ps asset fs h.2,
      brings_person cs ps (carries asset f) f.to h.1,
      sum_by-cons (pays_person asset) f fs,
      sum_by_plus (λ p. brings (Person p) asset f) (λ p. paid_in fs p asset) (λ p. paid_in (f ∷ fs) p asset) (λ p. sum_by-cons (brings (Person p) asset) f fs) (distinct ps),
    )

pub paid_to_persons : (fs : List Flow) (asset : ℕ) → paid_to_all fs asset ≡ sum_by (pays_person asset) fs
paid_to_persons fs asset = paid_over (channels_named fs) (persons_named fs) asset fs (all_named fs)

pub all_paid_fits : (fs : List Flow) (asset : ℕ) → AreWithinAmounts fs → paid_to_all fs asset < 2 ^ 64
all_paid_fits fs asset w = omega (arith, flows_conserved fs w.covered asset, w.deposits asset)

pub persons_fit : (fs : List Flow) (asset : ℕ) → AreWithinAmounts fs → sum_by (pays_person asset) fs < 2 ^ 64
persons_fit fs asset w = omega (arith, paid_to_persons fs asset, all_paid_fits fs asset w)

pub held_is_left : (fs : List Flow) (asset : ℕ) → AreWithinAmounts fs → held_by_all fs asset + paid_to_all fs asset ≡ deposited_in fs asset
held_is_left fs asset w = omega (arith, flows_conserved fs w.covered asset)

pub within_amounts : (r : Rules) (h : List Entry) → Legal r h → AreWithinAmounts (flows_of h)
within_amounts r h legal = record { covered = covered r h legal; deposits = deposits_fit r h legal }

-- sums over flows don't determine the order of the entries
flows_of-append : (g h : List Entry) → flows_of (g ++ h) ≡ flows_of g ++ flows_of h
flows_of-append [] h = refl
flows_of-append (e ∷ past) h = ap (λ fs. flow_of e.op e.reply ++ fs) (flows_of-append past h) ∙ sym (append_assoc (flow_of e.op e.reply) (flows_of past) (flows_of h))

pub flows_of-push : (g : List Entry) (e : Entry) → flows_of (g ++ e ∷ []) ≡ flows_of g ++ flow_of e.op e.reply
flows_of-push g e = flows_of-append g (e ∷ []) ∙ ap (λ fs. flows_of g ++ fs) (append-nil (flow_of e.op e.reply))

sum_in_time : (f : Flow → ℕ) (h : List Entry) → sum_by f (flows_of (reverse h)) ≡ sum_by f (flows_of h)
sum_in_time f [] = refl
sum_in_time f (e ∷ later) =
    omega (
      arith,
      sum_in_time f later,
      ap (λ es. sum_by f (flows_of es)) (reverse-append (e ∷ []) later),
      ap (sum_by f) (flows_of-push (reverse later) e),
      sum_by-append f (flows_of (reverse later)) (flow_of e.op e.reply),
      sum_by-append f (flow_of e.op e.reply) (flows_of later),
    )

pub within_in_time : (r : Rules) (h : List Entry) → Legal r (newest_first h) → AreWithinAmounts (flows_of h)
within_in_time r h legal = record {
  covered = λ channel asset. omega (arith, covered r (newest_first h) legal channel asset, sum_in_time (takes channel asset) h, sum_in_time (brings (Channel channel) asset) h);
  deposits = λ asset. omega (arith, deposits_fit r (newest_first h) legal asset, sum_in_time (enters asset) h);
}
