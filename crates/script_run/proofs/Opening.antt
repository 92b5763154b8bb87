-- What the two sign, call and take until the channel runs.
pub use Rattle.script_run.specs.Signed.{Begins}
use Rattle.std.proofs.Common.{◌≡◌, ℕ, ◌+◌, ◌-◌, ◌<◌, true, false, List, [], ◌∷◌, arith}
use Rattle.std.specs.Prelude.{nat_lt, nat_le, Option, Some, None, Ok}
use Rattle.std.specs.Str.{bytes_eq}
use Rattle.std.proofs.lemmas.Bool.Decides.{nat_tests}
use Rattle.channel_values.specs.Parts.{StateParts}
use Rattle.channel_values.specs.Digests.{name_of_person}
use Rattle.channel_values.specs.Rules.{Rules}
use Rattle.call_history.specs.Calls.{make_deposit}
use Rattle.call_history.proofs.Names.{bytes_eq_self}
use Rattle.history_view.specs.Views.{unseen}
use Rattle.channel_node.specs.Minds.{facts_of}
use Rattle.channel_node.specs.Refusing.{signs_in, message_refusal}
use Rattle.stage_tables.specs.Stages.{calls_in}
use Rattle.script_run.specs.Table.{stages}
use Rattle.script_run.proofs.PairNumbers.{same-number}
use Rattle.script_run.specs.Pair.{mind, mark, marks_a, marks_b, state, seeing, funded}
use Rattle.script_run.specs.TwoPeople.{Pair, name}
use Rattle.script_run.proofs.Notes.{Well, by, whole}

-- ---- signing

pub signs_0 : (r : Rules) (p : Pair) (last : Option StateParts) → Begins r p
    → signs_in stages r None (mind r p 0 p.key_a false unseen [] [] last) (name r p) ≡ Some (state p 0 false p.a p.b)
signs_0 r p last w = simp (bytes_eq_self (name r p), w.valid)

pub signs_1 : (r : Rules) (p : Pair) (last : Option StateParts) (ga : List ℕ) → Begins r p
    → signs_in stages r None (mind r p 1 p.key_b false unseen (state p 0 false p.a p.b ∷ []) (mark 0 ga ∷ []) last) (name r p) ≡ Some (state p 1 false p.a p.b)
signs_1 r p last ga w = simp (bytes_eq_self (name r p), w.valid, w.repeats 0 (omega arith))

pub signs_2 : (r : Rules) (p : Pair) (last : Option StateParts) (ga gb : List ℕ) → Begins r p
    → signs_in stages r None (mind r p 0 p.key_a false (funded r p) (state p 0 false p.a p.b ∷ state p 1 false p.a p.b ∷ []) (marks_b ga gb) last) (name r p) ≡ Some (state p 2 false p.a p.b)
signs_2 r p last ga gb w = simp (bytes_eq_self (name r p), w.valid, w.repeats 1 (omega arith), whole p.a p.b, same-number p.asset)

pub signs_3 : (r : Rules) (p : Pair) (last : Option StateParts) (ga gb : List ℕ) → Begins r p
    → signs_in stages r None (mind r p 1 p.key_b false (funded r p) (state p 1 false p.a p.b ∷ state p 2 false p.a p.b ∷ []) (marks_a ga gb) last) (name r p) ≡ Some (state p 3 false p.a p.b)
signs_3 r p last ga gb w = simp (bytes_eq_self (name r p), w.valid, w.repeats 2 (omega arith), whole p.a p.b, same-number p.asset)

-- ---- waiting

pub waits_0 : (r : Rules) (p : Pair) (last : Option StateParts) → Begins r p
    → signs_in stages r None (mind r p 1 p.key_b false unseen [] [] last) (name r p) ≡ None
waits_0 r p last w = simp (bytes_eq_self (name r p))

pub waits_1 : (r : Rules) (p : Pair) (last : Option StateParts) (ga : List ℕ) → Begins r p
    → signs_in stages r None (mind r p 0 p.key_a false unseen (state p 0 false p.a p.b ∷ []) (mark 0 ga ∷ []) last) (name r p) ≡ None
waits_1 r p last ga w = simp (bytes_eq_self (name r p))

unpaid : (a b : ℕ) → 0 < a → nat_le (0 + a + b) 0 ≡ false
unpaid a b h = grind (arith, nat_tests)

half : (a b : ℕ) → 0 < b → nat_le (0 + a + b) a ≡ false
half a b h = grind (arith, nat_tests)

-- with two states, before the deposits
pub waits_unfunded : (r : Rules) (p : Pair) (me : ℕ) (key : List ℕ) (last : Option StateParts) (ga gb : List ℕ) → Begins r p
    → signs_in stages r None (mind r p me key false unseen (state p 0 false p.a p.b ∷ state p 1 false p.a p.b ∷ []) (marks_b ga gb) last) (name r p) ≡ None
waits_unfunded r p me key last ga gb w = simp (bytes_eq_self (name r p), w.valid, unpaid p.a p.b w.some_a, same-number p.asset)

pub waits_half : (r : Rules) (p : Pair) (me : ℕ) (key : List ℕ) (last : Option StateParts) (ga gb : List ℕ) → Begins r p
    → signs_in stages r None (mind r p me key false (seeing r p 1 p.a) (state p 0 false p.a p.b ∷ state p 1 false p.a p.b ∷ []) (marks_b ga gb) last) (name r p) ≡ None
waits_half r p me key last ga gb w = simp (bytes_eq_self (name r p), w.valid, half p.a p.b w.some_b, same-number p.asset)

pub waits_2 : (r : Rules) (p : Pair) (last : Option StateParts) (ga gb : List ℕ) → Begins r p
    → signs_in stages r None (mind r p 1 p.key_b false (funded r p) (state p 0 false p.a p.b ∷ state p 1 false p.a p.b ∷ []) (marks_b ga gb) last) (name r p) ≡ None
waits_2 r p last ga gb w = simp (bytes_eq_self (name r p), whole p.a p.b, same-number p.asset)

pub waits_3 : (r : Rules) (p : Pair) (last : Option StateParts) (ga gb : List ℕ) → Begins r p
    → signs_in stages r None (mind r p 0 p.key_a false (funded r p) (state p 1 false p.a p.b ∷ state p 2 false p.a p.b ∷ []) (marks_a ga gb) last) (name r p) ≡ None
waits_3 r p last ga gb w = simp (bytes_eq_self (name r p), whole p.a p.b, same-number p.asset)

-- ---- calls

pub calls_none : (r : Rules) (p : Pair) (me : ℕ) (key : List ℕ) (last : Option StateParts) → Begins r p
    → calls_in (facts_of (mind r p me key false unseen [] [] last)) ≡ []
calls_none r p me key last w = simp (bytes_eq_self (name r p))

pub calls_one : (r : Rules) (p : Pair) (me : ℕ) (key : List ℕ) (last : Option StateParts) (ga : List ℕ) → Begins r p
    → calls_in (facts_of (mind r p me key false unseen (state p 0 false p.a p.b ∷ []) (mark 0 ga ∷ []) last)) ≡ []
calls_one r p me key last ga w = simp (bytes_eq_self (name r p))

some : (a : ℕ) → 0 < a → nat_lt 0 (0 + a) ≡ true
some a h = grind (arith, nat_tests)

just : (a : ℕ) → 0 + a - 0 ≡ a
just a = omega arith

none-yet : (a : ℕ) → 0 < a → nat_le (a + 0) 0 ≡ false
none-yet a h = grind (arith, nat_tests)

reached : (a : ℕ) → nat_le (a + 0) a ≡ true
reached a = grind (arith, nat_tests)

beyond : (a b : ℕ) → 0 < b → nat_lt a (a + 0 + b) ≡ true
beyond a b h = grind (arith, nat_tests)

rest : (a b : ℕ) → a + 0 + b - a ≡ b
rest a b = omega arith

pub deposits_a : (r : Rules) (p : Pair) (last : Option StateParts) (ga gb : List ℕ) → Begins r p
    → calls_in (facts_of (mind r p 0 p.key_a false unseen (state p 0 false p.a p.b ∷ state p 1 false p.a p.b ∷ []) (marks_b ga gb) last)) ≡ make_deposit (name r p) p.asset 0 p.a ∷ []
deposits_a r p last ga gb w =
    simp (bytes_eq_self (name r p), bytes_eq_self (name_of_person p.key_a), unpaid p.a p.b w.some_a, some p.a w.some_a, just p.a, same-number p.asset)

pub deposits_late : (r : Rules) (p : Pair) (last : Option StateParts) (ga gb : List ℕ) → Begins r p
    → calls_in (facts_of (mind r p 1 p.key_b false unseen (state p 0 false p.a p.b ∷ state p 1 false p.a p.b ∷ []) (marks_b ga gb) last)) ≡ []
deposits_late r p last ga gb w =
    simp (bytes_eq_self (name r p), bytes_eq_self (name_of_person p.key_b), w.apart, unpaid p.a p.b w.some_a, none-yet p.a w.some_a, same-number p.asset)

pub deposits_b : (r : Rules) (p : Pair) (last : Option StateParts) (ga gb : List ℕ) → Begins r p
    → calls_in (facts_of (mind r p 1 p.key_b false (seeing r p 1 p.a) (state p 0 false p.a p.b ∷ state p 1 false p.a p.b ∷ []) (marks_b ga gb) last)) ≡ make_deposit (name r p) p.asset p.a p.b ∷ []
deposits_b r p last ga gb w =
    simp (bytes_eq_self (name r p), bytes_eq_self (name_of_person p.key_b), w.apart, half p.a p.b w.some_b, reached p.a, beyond p.a p.b w.some_b, rest p.a p.b, same-number p.asset)

pub calls_funded : (r : Rules) (p : Pair) (me : ℕ) (key : List ℕ) (last : Option StateParts) (ga gb : List ℕ) → Begins r p
    → calls_in (facts_of (mind r p me key false (funded r p) (state p 0 false p.a p.b ∷ state p 1 false p.a p.b ∷ []) (marks_b ga gb) last)) ≡ []
calls_funded r p me key last ga gb w = simp (bytes_eq_self (name r p), whole p.a p.b, same-number p.asset)

pub calls_posting : (r : Rules) (p : Pair) (me : ℕ) (key : List ℕ) (last : Option StateParts) (ga gb : List ℕ) → Begins r p
    → calls_in (facts_of (mind r p me key false (funded r p) (state p 1 false p.a p.b ∷ state p 2 false p.a p.b ∷ []) (marks_a ga gb) last)) ≡ []
calls_posting r p me key last ga gb w = simp (bytes_eq_self (name r p), whole p.a p.b, same-number p.asset)

-- ---- taking

takes-opening : (s t : List ℕ) → bytes_eq s s ≡ true
takes-opening s t = bytes_eq_self s

pub takes_0 : (r : Rules) (p : Pair) (last : Option StateParts) (ga : List ℕ) → Begins r p → Well r p p.key_a (state p 0 false p.a p.b) ga
    → message_refusal stages r (mind r p 1 p.key_b false unseen [] [] last) (Ok (name r p, by (state p 0 false p.a p.b) ga)) ≡ None
takes_0 r p last ga w well = simp (bytes_eq_self, well)

pub takes_1 : (r : Rules) (p : Pair) (last : Option StateParts) (ga gb : List ℕ) → Begins r p → Well r p p.key_b (state p 1 false p.a p.b) gb
    → message_refusal stages r (mind r p 0 p.key_a false unseen (state p 0 false p.a p.b ∷ []) (mark 0 ga ∷ []) last) (Ok (name r p, by (state p 1 false p.a p.b) gb)) ≡ None
takes_1 r p last ga gb w well = simp (bytes_eq_self, well, w.repeats 0 (omega arith))

pub takes_2 : (r : Rules) (p : Pair) (last : Option StateParts) (ga gb g : List ℕ) → Begins r p → Well r p p.key_a (state p 2 false p.a p.b) g
    → message_refusal stages r (mind r p 1 p.key_b false (funded r p) (state p 0 false p.a p.b ∷ state p 1 false p.a p.b ∷ []) (marks_b ga gb) last) (Ok (name r p, by (state p 2 false p.a p.b) g)) ≡ None
takes_2 r p last ga gb g w well = simp (bytes_eq_self, well, w.repeats 1 (omega arith), whole p.a p.b, same-number p.asset)

pub takes_3 : (r : Rules) (p : Pair) (last : Option StateParts) (ga gb g : List ℕ) → Begins r p → Well r p p.key_b (state p 3 false p.a p.b) g
    → message_refusal stages r (mind r p 0 p.key_a false (funded r p) (state p 1 false p.a p.b ∷ state p 2 false p.a p.b ∷ []) (marks_a ga gb) last) (Ok (name r p, by (state p 3 false p.a p.b) g)) ≡ None
takes_3 r p last ga gb g w well = simp (bytes_eq_self, well, w.repeats 2 (omega arith), whole p.a p.b, same-number p.asset)
