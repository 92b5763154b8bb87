-- What the two know after entries, and how the channel ends.
pub use Rattle.script_run.specs.Entries.{entry}
use Rattle.std.proofs.Common.{◌≡◌, ℕ, ◌+◌, ◌-◌, Bool, true, false, List, [], ◌∷◌, refl, ◌∙◌, ap}
use Rattle.std.specs.Prelude.{◌==◌, Option, Some, None, Ok, min, is_some}
use Rattle.std.specs.Str.{bytes_eq}
use Rattle.channel_values.specs.Parts.{StateParts}
use Rattle.channel_values.specs.declared.chain.Mark.{Mark}
use Rattle.channel_values.specs.declared.chain.Signed.{Signed}
use Rattle.channel_values.specs.Digests.{name_of_person}
use Rattle.channel_values.specs.Rules.{Rules}
use Rattle.call_history.specs.Calls.{make_deposit, make_transfer}
use Rattle.call_history.specs.declared.call.Call.TheVariants.{Conclude}
use Rattle.call_history.specs.declared.event.NodeRefusal.{NodeRefusal}
use Rattle.call_history.specs.declared.view.WorldView.{WorldView}
use Rattle.call_history.proofs.Names.{bytes_eq_self}
use Rattle.history_view.specs.Views.{unseen}
use Rattle.channel_node.specs.Minds.{facts_of, commanded, saw, fresh}
use Rattle.channel_node.specs.Refusing.{signs_in, not_open, message_refusal, command_refusal, state_refusal, signs_of, if_signable, wish}
use Rattle.stage_tables.specs.Stages.{calls_in}
use Rattle.script_run.specs.Table.{stages}
use Rattle.script_run.proofs.PairNumbers.{same-number, from-zero}
use Rattle.script_run.specs.Pair.{mind, state, split, seeing, funded, chain, kept}
use Rattle.script_run.specs.TwoPeople.{Pair, fixed, name}
use Rattle.script_run.proofs.Notes.{by}
use Rattle.channel_values.specs.declared.chain.Chain.{Chain}
use Rattle.call_history.specs.Marked.{marked_of, is_newer}
use Rattle.call_history.specs.declared.refusal.Reply.TheVariants.{Held, Concluded, Paid}
use Rattle.network.specs.declared.command.Command.TheVariants.{Open}
use Rattle.stage_tables.specs.Fitting.{fits}
use Rattle.std.specs.Option.{option_or}
use Rattle.channel_store.specs.Keeping.{is_ended}
use Rattle.channel_store.specs.Storing.{kept_of}
use Rattle.channel_store.specs.declared.kept.Kept.{Kept}
use Rattle.call_history.specs.declared.event.NodeRefusal.TheVariants.{NotNext}
use Rattle.funding_plans.specs.Known.{FactsOf}
use Rattle.fairness_laws.proofs.Finding.{flips}
use Rattle.script_run.proofs.Opening.{Begins}

-- ---- the command to open

pub opens_a : (r : Rules) (p : Pair) (limit used : ℕ) → Begins r p
    → command_refusal stages r limit used (fresh p.key_a) (Open (fixed p) (split p p.a p.b)) ≡ None
unfolding fits
opens_a r p limit used b = simp (bytes_eq_self (name_of_person p.key_a), bytes_eq_self (name_of_person p.key_b), b.apart, flips (name_of_person p.key_a) (name_of_person p.key_b) b.apart)

pub opens_b : (r : Rules) (p : Pair) (limit used : ℕ) → Begins r p
    → command_refusal stages r limit used (fresh p.key_b) (Open (fixed p) (split p p.a p.b)) ≡ None
unfolding fits
opens_b r p limit used b = simp (bytes_eq_self (name_of_person p.key_a), bytes_eq_self (name_of_person p.key_b), b.apart, flips (name_of_person p.key_a) (name_of_person p.key_b) b.apart)

pub opened_a : (r : Rules) (p : Pair) → commanded r (Open (fixed p) (split p p.a p.b)) (fresh p.key_a) ≡ mind r p 0 p.key_a false unseen [] [] None
opened_a r p = simp (bytes_eq_self p.key_a)

pub opened_b : (r : Rules) (p : Pair) → bytes_eq p.key_b p.key_a ≡ false
    → commanded r (Open (fixed p) (split p p.a p.b)) (fresh p.key_b) ≡ mind r p 1 p.key_b false unseen [] [] None
opened_b r p apart = simp (bytes_eq_self p.key_b, apart)

-- ---- deposits

pub sees_first : (r : Rules) (p : Pair) (me by n : ℕ) (key : List ℕ) (closing : Bool) (states : List StateParts) (marks : List Mark) (last : Option StateParts)
    → saw r (entry 1 by (make_deposit (name r p) p.asset 0 p.a) (Held n)) (mind r p me key closing unseen states marks last) ≡ mind r p me key closing (seeing r p 1 p.a) states marks last
sees_first r p me by n key closing states marks last = simp (from-zero p.a)

pub sees_second : (r : Rules) (p : Pair) (me by n : ℕ) (key : List ℕ) (closing : Bool) (states : List StateParts) (marks : List Mark) (last : Option StateParts)
    → saw r (entry 2 by (make_deposit (name r p) p.asset p.a p.b) (Held n)) (mind r p me key closing (seeing r p 1 p.a) states marks last) ≡ mind r p me key closing (funded r p) states marks last
sees_second r p me by n key closing states marks last = simp (bytes_eq_self (name r p), same-number p.asset)

abbrev pub Balance : Type 0
Balance = List ℕ × ℕ × ℕ

-- ---- the end: the channel was concluded with this chain, which has these amounts, of which this is left

abbrev pub ended : Rules → Pair → (count turn held x y left_x left_y : ℕ) → Chain → List Balance → WorldView
ended r p count turn held x y left_x left_y c paid =
    record {
      now = 0;
      count = count;
      channels = record { channel = name r p; turn = turn; deadline = Some 0; held = (p.asset, held) ∷ []; shown = Some c; settled = Some (split p x y); rest = Some (split p left_x left_y) } ∷ [];
      paid = paid;
    }

pub sees_conclude : (r : Rules) (p : Pair) (me by n first turn x y : ℕ) (key : List ℕ) (states : List StateParts) (marks mine : List Mark) (last : Option StateParts)
    → is_newer r (fixed p) (marked_of (chain p (state p first true x y ∷ state p turn true x y ∷ []) marks)) (marked_of (chain p states mine)) ≡ true
    → saw r (entry 3 by (Conclude (chain p (state p first true x y ∷ state p turn true x y ∷ []) marks)) (Concluded n)) (mind r p me key true (funded r p) states mine last)
    ≡ mind r p me key true (ended r p 3 n (p.a + p.b) x y x y (chain p (state p first true x y ∷ state p turn true x y ∷ []) marks) []) (state p first true x y ∷ state p turn true x y ∷ []) marks last
sees_conclude r p me by n first turn x y key states marks mine last newer = simp (bytes_eq_self (name r p), newer)

pub sees_own_conclude : (r : Rules) (p : Pair) (me by n first turn x y : ℕ) (key : List ℕ) (marks : List Mark) (last : Option StateParts)
    → is_newer r (fixed p) (marked_of (chain p (state p first true x y ∷ state p turn true x y ∷ []) marks)) (marked_of (chain p (state p first true x y ∷ state p turn true x y ∷ []) marks)) ≡ false
    → saw r (entry 3 by (Conclude (chain p (state p first true x y ∷ state p turn true x y ∷ []) marks)) (Concluded n)) (mind r p me key true (funded r p) (state p first true x y ∷ state p turn true x y ∷ []) marks last)
    ≡ mind r p me key true (ended r p 3 n (p.a + p.b) x y x y (chain p (state p first true x y ∷ state p turn true x y ∷ []) marks) []) (state p first true x y ∷ state p turn true x y ∷ []) marks last
sees_own_conclude r p me by n first turn x y key marks last older = simp (bytes_eq_self (name r p), older)

-- ---- nothing is taken or signed then

some-after : (o : Option NodeRefusal) (x : NodeRefusal) → is_some (option_or o (Some x)) ≡ true
some-after None x = refl
some-after (Some y) x = refl

pub refuses_late : (r : Rules) (p : Pair) (me : ℕ) (key : List ℕ) (view : WorldView) (before turn u v x y : ℕ) (m1 m2 : Mark) (last : Option StateParts) (s : Signed)
    → is_some (message_refusal stages r (mind r p me key true view (state p before true u v ∷ state p turn true x y ∷ []) (m1 ∷ m2 ∷ []) last) (Ok (name r p, s))) ≡ true
refuses_late r p me key view before turn u v x y m1 m2 last s =
    ap (λ (k : Option Kept). is_some (state_refusal stages r (mind r p me key true view (state p before true u v ∷ state p turn true x y ∷ []) (m1 ∷ m2 ∷ []) last) (name r p) s k)) found
    ∙ some-after (not_open stages (facts_of (mind r p me key true view (state p before true u v ∷ state p turn true x y ∷ []) (m1 ∷ m2 ∷ []) last))) (NotNext 0)
  where
    found : kept_of (name r p) (kept r p me (state p before true u v ∷ state p turn true x y ∷ []) (m1 ∷ m2 ∷ []) last ∷ []) ≡ Some (kept r p me (state p before true u v ∷ state p turn true x y ∷ []) (m1 ∷ m2 ∷ []) last)
    found = simp (bytes_eq_self (name r p))

never : (r : Rules) (f : FactsOf) (channel : List ℕ) (k : Kept) (w : Option StateParts) → is_ended k ≡ true → if_signable r f channel k w ≡ None
never r f channel k None e = refl
never r f channel k (Some s) e = simp e

pub waits_ended : (r : Rules) (p : Pair) (me : ℕ) (key : List ℕ) (view : WorldView) (before turn u v x y : ℕ) (m1 m2 : Mark) (last : Option StateParts)
    → signs_in stages r None (mind r p me key true view (state p before true u v ∷ state p turn true x y ∷ []) (m1 ∷ m2 ∷ []) last) (name r p) ≡ None
waits_ended r p me key view before turn u v x y m1 m2 last =
    ap (λ (k : Option Kept). signs_of stages r None (mind r p me key true view (state p before true u v ∷ state p turn true x y ∷ []) (m1 ∷ m2 ∷ []) last) (name r p) k) found
    ∙ never r (facts_of (mind r p me key true view (state p before true u v ∷ state p turn true x y ∷ []) (m1 ∷ m2 ∷ []) last)) (name r p) (kept r p me (state p before true u v ∷ state p turn true x y ∷ []) (m1 ∷ m2 ∷ []) last)
    (wish stages None (mind r p me key true view (state p before true u v ∷ state p turn true x y ∷ []) (m1 ∷ m2 ∷ []) last) (name r p) (kept r p me (state p before true u v ∷ state p turn true x y ∷ []) (m1 ∷ m2 ∷ []) last)) refl
  where
    found : kept_of (name r p) (kept r p me (state p before true u v ∷ state p turn true x y ∷ []) (m1 ∷ m2 ∷ []) last ∷ []) ≡ Some (kept r p me (state p before true u v ∷ state p turn true x y ∷ []) (m1 ∷ m2 ∷ []) last)
    found = simp (bytes_eq_self (name r p))

-- ---- transfers

pub transfers_a : (r : Rules) (p : Pair) (count n held before turn u v x y left_x left_y : ℕ) (c : Chain) (paid : List Balance) (m1 m2 : Mark) (last : Option StateParts) → Begins r p
    → (min left_x held == 0) ≡ false
    → calls_in (facts_of (mind r p 0 p.key_a true (ended r p count n held x y left_x left_y c paid) (state p before true u v ∷ state p turn true x y ∷ []) (m1 ∷ m2 ∷ []) last)) ≡ make_transfer (name r p) (split p x y) p.asset 0 ∷ []
transfers_a r p count n held before turn u v x y left_x left_y c paid m1 m2 last b due =
    simp (bytes_eq_self (name r p), bytes_eq_self (name_of_person p.key_a), due, same-number p.asset)

pub transfers_b : (r : Rules) (p : Pair) (count n held before turn u v x y left_x left_y : ℕ) (c : Chain) (paid : List Balance) (m1 m2 : Mark) (last : Option StateParts) → Begins r p
    → (min left_y (held - left_x) == 0) ≡ false
    → calls_in (facts_of (mind r p 1 p.key_b true (ended r p count n held x y left_x left_y c paid) (state p before true u v ∷ state p turn true x y ∷ []) (m1 ∷ m2 ∷ []) last)) ≡ make_transfer (name r p) (split p x y) p.asset 1 ∷ []
transfers_b r p count n held before turn u v x y left_x left_y c paid m1 m2 last b due =
    simp (bytes_eq_self (name r p), bytes_eq_self (name_of_person p.key_b), b.apart, due, same-number p.asset)

pub done_a : (r : Rules) (p : Pair) (count n held before turn u v x y left_x left_y : ℕ) (c : Chain) (paid : List Balance) (m1 m2 : Mark) (last : Option StateParts) → Begins r p
    → (min left_x held == 0) ≡ true
    → calls_in (facts_of (mind r p 0 p.key_a true (ended r p count n held x y left_x left_y c paid) (state p before true u v ∷ state p turn true x y ∷ []) (m1 ∷ m2 ∷ []) last)) ≡ []
done_a r p count n held before turn u v x y left_x left_y c paid m1 m2 last b none =
    simp (bytes_eq_self (name r p), bytes_eq_self (name_of_person p.key_a), none, same-number p.asset)

pub done_b : (r : Rules) (p : Pair) (count n held before turn u v x y left_x left_y : ℕ) (c : Chain) (paid : List Balance) (m1 m2 : Mark) (last : Option StateParts) → Begins r p
    → (min left_y (held - left_x) == 0) ≡ true
    → calls_in (facts_of (mind r p 1 p.key_b true (ended r p count n held x y left_x left_y c paid) (state p before true u v ∷ state p turn true x y ∷ []) (m1 ∷ m2 ∷ []) last)) ≡ []
done_b r p count n held before turn u v x y left_x left_y c paid m1 m2 last b none =
    simp (bytes_eq_self (name r p), bytes_eq_self (name_of_person p.key_b), b.apart, none, same-number p.asset)

pub sees_transfer_a : (r : Rules) (p : Pair) (me count number by n held turn amount x y left_x left_y : ℕ) (key : List ℕ) (c : Chain) (states : List StateParts) (marks : List Mark) (last : Option StateParts)
    → saw r (entry number by (make_transfer (name r p) (split p x y) p.asset 0) (Paid amount)) (mind r p me key true (ended r p count n held x y left_x left_y c []) states marks last)
    ≡ mind r p me key true (ended r p number n (held - amount) x y (left_x - amount) left_y c ((name_of_person p.key_a, p.asset, amount) ∷ [])) states marks last
sees_transfer_a r p me count number by n held turn amount x y left_x left_y key c states marks last = simp (bytes_eq_self (name r p), same-number p.asset, from-zero amount)

pub sees_transfer_b : (r : Rules) (p : Pair) (me count number by n held turn amount x y left_x left_y : ℕ) (key : List ℕ) (c : Chain) (states : List StateParts) (marks : List Mark) (last : Option StateParts)
    → saw r (entry number by (make_transfer (name r p) (split p x y) p.asset 1) (Paid amount)) (mind r p me key true (ended r p count n held x y left_x left_y c []) states marks last)
    ≡ mind r p me key true (ended r p number n (held - amount) x y left_x (left_y - amount) c ((name_of_person p.key_b, p.asset, amount) ∷ [])) states marks last
sees_transfer_b r p me count number by n held turn amount x y left_x left_y key c states marks last = simp (bytes_eq_self (name r p), same-number p.asset, from-zero amount)
