-- The exit pays the share: the calls that stand after a place run over the books of the channels that counted there.
use Rattle.std.proofs.Common.{◌≡◌, ℕ, ◌+◌, ◌≤◌, Bool, true, false, cond, List, [], ◌∷◌, ◌++◌, refl, sym, ◌∙◌, ap, subst, inl, inr, ◌⊎◌}
use Rattle.std.specs.Prelude.{reverse, Option, Some, None}
use Rattle.std.specs.List.{AllByRecursion}
use Rattle.std.specs.Option.{option_map}
use Rattle.std.specs.Str.{bytes_eq}
use Rattle.std.proofs.lemmas.Bool.{false≢true}
use Rattle.channel_values.specs.Parts.{FixedParts}
use Rattle.channel_values.specs.declared.chain.Signed.{Signed}
use Rattle.channel_values.specs.declared.value.AssetOutcome.{AssetOutcome}
use Rattle.channel_values.specs.declared.value.Dest.{Dest}
use Rattle.channel_values.specs.declared.value.Dest.TheVariants.{Person, Channel}
use Rattle.channel_values.specs.declared.value.Item.{Item}
use Rattle.channel_values.specs.declared.value.Shape.{Shape}
use Rattle.channel_values.specs.declared.value.Shape.TheVariants.{Allocation, Guarantee}
use Rattle.call_history.specs.Mode.{is_final}
use Rattle.channel_values.specs.Rules.{Rules}
use Rattle.channel_values.specs.Amounts.{amt, has}
use Rattle.call_history.specs.Dues.{shape_in}
use Rattle.call_history.specs.Rest.{rest_shape, rest_outcome}
use Rattle.call_history.specs.History.{Legal, mode, settled, paid_to, paid_of, rest_of_channel}
use Rattle.call_history.specs.declared.call.Call.{Call}
use Rattle.call_history.specs.declared.call.Op.TheVariants as ops
use Rattle.call_history.specs.declared.entry.Entry.{Entry}
use Rattle.call_history.proofs.Payouts.{shape_rest}
use Rattle.channel_safety.specs.Journals.{In, Line}
use Rattle.channel_safety.specs.Held.{held}
use Rattle.funding_plans.specs.declared.plan.Part.{Part}
use Rattle.funding_plans.specs.declared.plan.Part.TheVariants.{Root, OnLedger, End, Middle}
use Rattle.funding_plans.specs.declared.plan.Virtual.{Virtual}
use Rattle.call_history.specs.Flows.{is_among}
use Rattle.share_laws.specs.Books.{one_of, Books, Counting, outcome_in, counts_in, varying}
use Rattle.funding_plans.specs.Shapes.{items_of, list_of, items_in, list_in, is_listed}
use Rattle.funding_plans.specs.Parts.{own_guarantor}
use Rattle.share_laws.specs.Worth.{worth, no_reach}
use Rattle.share_laws.specs.Share.{least_over, worth_under, share_of}
use Rattle.share_laws.specs.Places.{plan, channels, possible_after, is_held, last_made, counting_of, counting_among, counting, balances, share, IsPlace}
use Rattle.channel_safety.specs.Occurring.{NoCollision}
use Rattle.share_laws.specs.ShareLaws.{AreSeen}
use Rattle.channel_values.specs.Outcomes.{AreApart}
use Rattle.share_laws.specs.Sound.{IsPromise, Guarantees, IsGuaranteed, IsSound}
use Rattle.share_laws.proofs.Counted.{Outcome, silent, such}
use Rattle.share_laws.proofs.Final.{final-stays, final-settled}
use Rattle.share_laws.proofs.Moving.{books_at}
use Rattle.share_laws.proofs.Paying.{final_outcome}
use Rattle.channel_safety.proofs.Settled.{final-told}
use Rattle.share_laws.proofs.Fewer.{fewer}
use Rattle.share_laws.proofs.Finals.{final-is}
use Rattle.channel_exits.specs.Calls.{items_ended, exit_calls}
use Rattle.channel_exits.specs.Endings.{ended, Stand}
use Rattle.channel_exits.specs.ExitLaws.{AreOnLedgers, IsApartFromGuarantors, IsBackedBy, IsBacked, CanExit, ExitPaysShare}
use Rattle.channel_exits.proofs.Answered.{transfer-answered, claim-answered, has-less}
use Rattle.channel_exits.proofs.Edges.{Edge, moving, claiming, left, IsBare, AllListed, Run, ends}
use Rattle.channel_exits.proofs.Frozen.{counted, counting-counted, Counted, counted-in, Lasts, IsOk, ok-older, still-seen, lasting, steps-at, names-stay, lists-stay}
use Rattle.channel_exits.proofs.Leaves.{exit_pays}
use Rattle.channel_exits.proofs.Leaving.{by_list-unlisted, left-absent}
use Rattle.channel_exits.proofs.Listing.{IsLive, IsFor, IsFit, FitsPart, list-run}
use Rattle.channel_exits.proofs.Order.{all_exits, other_edges, list-is-exit}
use Rattle.channel_exits.proofs.Standing.{Follows, nothing, gone, onto, onto-twice, follows-append, follows-onto, stands-run}
use Rattle.channel_exits.proofs.Wanted.{missing_one, missing_on, missing, all_missing, all-from, more, roots, onward, supplies}
use mathlib.Core.List.{reverse_aux}

onto_reverse : {X : Type 0} (xs ys : List X) → onto xs ys ≡ reverse_aux xs ys
onto_reverse [] ys = refl
onto_reverse (x ∷ xs) ys = onto_reverse xs (x ∷ ys)

-- ---- what is left of an outcome has its names and lists

rest-has : (p : ℕ → ℕ) (s : Option Shape) (d : Dest) → has (items_of (option_map (rest_shape p) s)) d ≡ has (items_of s) d
rest-has p None d = refl
rest-has p (Some (Allocation xs)) d = has-less p 0 xs d
rest-has p (Some (Guarantee target list)) d = refl

rest-list : (p : ℕ → ℕ) (s : Option Shape) → list_of (option_map (rest_shape p) s) ≡ list_of s
rest-list p None = refl
rest-list p (Some (Allocation xs)) = refl
rest-list p (Some (Guarantee target list)) = refl

-- a list that isn't empty is a guarantee of what is promised
guarantee-of : (p : ℕ → ℕ) (s : Option Shape) (j : List ℕ) (list : List Dest) (d : Dest) → IsPromise j list (option_map (rest_shape p) s) → is_listed (list_of s) d ≡ true →
    (ds : List Dest) × (s ≡ Some (Guarantee j ds))
guarantee-of p None j list d h l = cc
guarantee-of p (Some (Allocation xs)) j list d h l = cc
guarantee-of p (Some (Guarantee target ds)) j list d h l = (list, ap (λ (x : Shape). Some x) h)

silent-none : (xs : List Counting) (taken : List (List ℕ)) (n : List ℕ) → counts_in xs n ≡ false → outcome_in xs taken n ≡ []
silent-none [] taken n h = refl
silent-none (x ∷ xs) taken n h = go (bytes_eq x.channel n) h (silent-none xs taken n)
  where
    go : (t : Bool) → cond t true (counts_in xs n) ≡ false → (counts_in xs n ≡ false → outcome_in xs taken n ≡ []) → cond t (one_of x.proposal (is_among x.channel taken) x.outcome) (outcome_in xs taken n) ≡ []
    go true k rec = cc
    go false k rec = rec k

-- ---- a final channel has one outcome

single : (n : List ℕ) (k : Bool) (rest : Option (List AssetOutcome)) (last : Option Signed) (xs : List Counting) → varying xs ≡ [] →
    varying (counting_of n (cond k (possible_after true rest last) []) ++ xs) ≡ []
single n false rest last xs h = h
single n true rest None xs h = h
single n true None (Some s) xs h = h
single n true (Some x) (Some s) xs h = h

varying-final : (r : Rules) (past : List Entry) (front : List Line) (fs : List FixedParts) → ((f : FixedParts) → In f fs → Lasts r past front f) → varying (counting_among r past front fs) ≡ []
varying-final r past front [] on = refl
varying-final r past front (f ∷ fs) on =
    ap (λ (t : Bool). varying (counting_of (r.named f) (cond (is_held r f (held r f past front)) (possible_after t (rest_of_channel r (r.named f) past) (last_made (r.named f) front)) []) ++ counting_among r past front fs)) (on f (inl refl)).final
    ∙ single (r.named f) (is_held r f (held r f past front)) (rest_of_channel r (r.named f) past) (last_made (r.named f) front) (counting_among r past front fs)
    (varying-final r past front fs (λ g i. on g (inr i)))

-- ---- what channels ended with

ended-split : (t : Bool) (s : Option (List AssetOutcome)) (o : List AssetOutcome) → cond t s None ≡ Some o → (t ≡ true) × (s ≡ Some o)
ended-split true s o h = (refl, h)
ended-split false s o h = cc

ended_stays : (r : Rules) (past : List Entry) (n : List ℕ) (o : List AssetOutcome) → is_final (mode r n past) ≡ true → settled r n past ≡ Some o → (l : List Entry) → Legal r (l ++ past) →
    (is_final (mode r n (l ++ past)) ≡ true) × (settled r n (l ++ past) ≡ Some o)
ended_stays r past n o final is [] legal = (final, is)
ended_stays r past n o final is (e ∷ l) legal =
    let x = ended_stays r past n o final is l legal.0 in
    (final-stays r n (l ++ past) e legal x.0, final-settled r n (l ++ past) e legal x.0 ∙ x.1)

pub ended-stays : (r : Rules) (past : List Entry) (n : List ℕ) (o : List AssetOutcome) → ended r past n ≡ Some o → (l : List Entry) → Legal r (l ++ past) →
    (is_final (mode r n (l ++ past)) ≡ true) × (settled r n (l ++ past) ≡ Some o)
ended-stays r past n o h l legal = let x = ended-split (is_final (mode r n past)) (settled r n past) o h in ended_stays r past n o x.0 x.1 l legal

held-if : (t : Bool) (xs : List (List AssetOutcome)) (o : List AssetOutcome) (os : List (List AssetOutcome)) → cond t xs [] ≡ o ∷ os → t ≡ true
held-if true xs o os h = refl
held-if false xs o os h = cc

module _ (r : Rules) (me : List ℕ) (ps : List Part) (past later : List Entry) (front : List Line) (fs : List FixedParts) (a : ℕ) (legal : Legal r (later ++ past)) (tell : NoCollision r (later ++ past) front)
    (legal_past : Legal r past) (seen : AreSeen past front) (start : (f : FixedParts) → In f fs → Lasts r past front f) (sound : IsSound me ps (counting_among r past front fs))
    (final : (n : List ℕ) → counts_in (counting_among r past front fs) n ≡ true → is_final (mode r n past) ≡ true)
    (exits_apart : AreApart bytes_eq (all_exits ps)) (apart : AllByRecursion IsApartFromGuarantors ps) (on_ledgers : AreOnLedgers ps [] ps)
    (backed : AllByRecursion (IsBacked (counting_among r past front fs)) ps) where
  abbrev C : List Counting
  C = counting_among r past front fs

  abbrev B : List Entry → Books
  B l = books_at r (l ++ past) front fs a []

  abbrev paid : List Entry → ℕ
  paid l = paid_to (l ++ past) me a

  abbrev Ok : List Entry → Type 0
  Ok l = IsOk r front (l ++ past)

  abbrev For : Edge → Call → Type 0
  For = IsFor (ended r past) a

  abbrev Gone : Edge → Type 0
  Gone x = (l : List Entry) → Ok l → left (B l) x ≡ 0

  answered : (e : Entry) (l : List Entry) (c : Call) (x : Edge) → Ok (e ∷ l) → e.op ≡ ops.Call c → For x c → left (B (e ∷ l)) x ≡ 0
  answered e l c (moving f d) ok op m =
      let x = ended-stays r past f m.0 m.1 l ok.legal.0 in
      transfer-answered r e (l ++ past) front fs me a ok.legal ok.tell (still-seen r me ps past front fs a seen start sound l) (lasting r me ps past front fs a seen start sound l ok.legal.0)
      f m.0 d x.0 x.1 m.2 m.3 (op ∙ ap (λ (y : Call). ops.Call y) m.4)
  answered e l c (claiming g j d) ok op m =
      let x = ended-stays r past g m.0 m.2 l ok.legal.0 in
      let y = ended-stays r past j m.1 m.3 l ok.legal.0 in
      claim-answered r e (l ++ past) front fs me a ok.legal ok.tell (still-seen r me ps past front fs a seen start sound l) (lasting r me ps past front fs a seen start sound l ok.legal.0)
      g j m.0 m.1 d m.6.0 x.0 x.1 y.0 y.1 m.6.1 m.4 m.5 m.7 (op ∙ ap (λ (y : Call). ops.Call y) m.8)

  -- ---- which edges are live

  known : (n : List ℕ) → (outcome_in C [] n ≡ []) ⊎ ((o : List AssetOutcome) × (ended r past n ≡ Some o) × (outcome_in C [] n ≡ rest_outcome (paid_of past n) o))
  known n = go (counts_in C n) refl
    where
      from : (o : List AssetOutcome) (t : Bool) (x : List AssetOutcome) → ended r past n ≡ Some o → Outcome (λ y. y ≡ rest_outcome (paid_of past n) o) t x →
          (x ≡ []) ⊎ ((q : List AssetOutcome) × (ended r past n ≡ Some q) × (x ≡ rest_outcome (paid_of past n) q))
      from o false x e silent = inl refl
      from o true x e (such w) = inr (o, e, w)

      go : (t : Bool) → counts_in C n ≡ t → (outcome_in C [] n ≡ []) ⊎ ((o : List AssetOutcome) × (ended r past n ≡ Some o) × (outcome_in C [] n ≡ rest_outcome (paid_of past n) o))
      go false h = inl (silent-none C [] n h)
      go true h =
          let f = final n h in
          let s = final-told.settles r n past legal_past (final-is (mode r n past) f) in
          from s.outcome (counts_in C n) (outcome_in C [] n) (ap (λ (t : Bool). cond t (settled r n past) None) f ∙ s.is) (final_outcome r past front fs n s.outcome f s.is [])

  has-ended : (n : List ℕ) (o : List AssetOutcome) (d : Dest) → outcome_in C [] n ≡ rest_outcome (paid_of past n) o → has ((B []).items n) d ≡ has (items_in a o) d
  has-ended n o d e =
      ap (λ (x : List AssetOutcome). has (items_of (shape_in x a)) d) e
      ∙ (ap (λ (s : Option Shape). has (items_of s) d) (shape_rest (paid_of past n) o a) ∙ rest-has (paid_of past n a) (shape_in o a) d)

  list-ended : (n : List ℕ) (o : List AssetOutcome) → outcome_in C [] n ≡ rest_outcome (paid_of past n) o → (B []).list n ≡ list_in a o
  list-ended n o e =
      ap (λ (x : List AssetOutcome). list_of (shape_in x a)) e
      ∙ (ap list_of (shape_rest (paid_of past n) o a) ∙ rest-list (paid_of past n a) (shape_in o a))

  abbrev Backs : List ℕ → List ℕ → Type 0
  Backs g j = (list : List Dest) × Guarantees C g j list

  names : (l : List Entry) → Ok l → (n : List ℕ) (d : Dest) → has ((B l).items n) d ≡ has ((B []).items n) d
  names l ok n d = names-stay r me ps past front fs a seen start sound l ok n d

  no_item : (n : List ℕ) (d : Dest) → outcome_in C [] n ≡ [] → has ((B []).items n) d ≡ true → ⊥
  no_item n d e h = let z : false ≡ true = sym (ap (λ (x : List AssetOutcome). has (items_of (shape_in x a)) d) e) ∙ h in cc

  no_list : (n : List ℕ) (d : Dest) → outcome_in C [] n ≡ [] → is_listed ((B []).list n) d ≡ true → ⊥
  no_list n d e h = let z : false ≡ true = sym (ap (λ (x : List AssetOutcome). is_listed (list_of (shape_in x a)) d) e) ∙ h in cc

  classify : (x : Edge) → IsFit (ended r past) a Backs x → Gone x ⊎ IsLive (ended r past) a x
  classify (moving f d) fit = go (has ((B []).items f) d) refl (known f)
    where
      go : (t : Bool) → has ((B []).items f) d ≡ t → (outcome_in C [] f ≡ []) ⊎ ((o : List AssetOutcome) × (ended r past f ≡ Some o) × (outcome_in C [] f ≡ rest_outcome (paid_of past f) o)) →
          Gone (moving f d) ⊎ IsLive (ended r past) a (moving f d)
      go false e k = inl (λ l ok. left-absent (B l) (moving f d) (names l ok f d ∙ e))
      go true e (inl none) = absurd (no_item f d none e)
      go true e (inr o) = inr (o.0, o.1, sym (has-ended f o.0 d o.2) ∙ e)
  classify (claiming g j d) fit = go (is_listed ((B []).list g) d) refl (has ((B []).items j) d) refl (known g) (known j)
    where
      go : (t : Bool) → is_listed ((B []).list g) d ≡ t → (u : Bool) → has ((B []).items j) d ≡ u →
          (outcome_in C [] g ≡ []) ⊎ ((o : List AssetOutcome) × (ended r past g ≡ Some o) × (outcome_in C [] g ≡ rest_outcome (paid_of past g) o)) →
          (outcome_in C [] j ≡ []) ⊎ ((o : List AssetOutcome) × (ended r past j ≡ Some o) × (outcome_in C [] j ≡ rest_outcome (paid_of past j) o)) →
          Gone (claiming g j d) ⊎ IsLive (ended r past) a (claiming g j d)
      go false e u w k m =
          inl (λ l ok. by_list-unlisted ((B l).items j) ((B l).list g) ((B l).held g) d
          (ap (λ (ds : List Dest). is_listed ds d) (lists-stay r me ps past front fs a seen start sound l ok g) ∙ e))
      go true e false w k m = inl (λ l ok. left-absent (B l) (claiming g j d) (names l ok j d ∙ w))
      go true e true w (inl none) m = absurd (no_list g d none e)
      go true e true w (inr p) (inl none) = absurd (no_item j d none w)
      go true e true w (inr p) (inr o) =
          let on_list : is_listed (list_in a p.0) d ≡ true = subst (λ (ds : List Dest). is_listed ds d ≡ true) (list-ended g p.0 p.2) e in
          let promised : IsPromise j fit.0 (option_map (rest_shape (paid_of past g a)) (shape_in p.0 a)) =
          subst (λ (s : Option Shape). IsPromise j fit.0 s) (ap (λ (x : List AssetOutcome). shape_in x a) p.2 ∙ shape_rest (paid_of past g) p.0 a) (fit.1 [] a) in
          inr (p.0, o.0, p.1, o.1, on_list, sym (has-ended j o.0 d o.2) ∙ w, guarantee-of (paid_of past g a) (shape_in p.0 a) j fit.0 d promised on_list)

  fits : (qs : List Part) → AllByRecursion (IsGuaranteed me C) qs → AllByRecursion IsApartFromGuarantors qs → AllByRecursion (FitsPart (ended r past) a Backs) qs
  fits [] h k = tt
  fits (Root x ∷ qs) h k = (tt, fits qs h.1 k.1)
  fits (OnLedger l x ∷ qs) h k = (tt, fits qs h.1 k.1)
  fits (End v ∷ qs) h k = (((_, h.0.1), k.0), fits qs h.1 k.1)
  fits (Middle v ∷ qs) h k = (((_, h.0.0.1), (_, h.0.1.1), k.0.0, k.0.1), fits qs h.1 k.1)

  -- ---- the edges of the roots that have no items

  abbrev E : List ℕ → List Item
  E n = items_ended (ended r past n) a

  abbrev Runs : List Edge → List Call → Type 0
  Runs xs cs = Follows Gone For xs cs

  one_missing : (l : List ℕ) (d : Dest) → Runs (missing_one E me ps exits_apart l d) []
  one_missing l d = go (has (E l) d) refl (classify (moving l d) tt)
    where
      go : (t : Bool) → has (E l) d ≡ t → Gone (moving l d) ⊎ IsLive (ended r past) a (moving l d) → Runs (cond t [] (moving l d ∷ [])) []
      go true e k = nothing
      go false e (inl g) = gone (moving l d) g nothing
      go false e (inr o) = absurd (false≢true (sym e ∙ subst (λ (x : Option (List AssetOutcome)). has (items_ended x a) d ≡ true) (sym o.1) o.2))

  missing_there : (m l : List ℕ) (d : Dest) → Runs (missing_on E me ps exits_apart m l d) []
  missing_there m l d = go (bytes_eq m l)
    where
      go : (t : Bool) → Runs (cond t (missing_one E me ps exits_apart l d) []) []
      go true = one_missing l d
      go false = nothing

  part_missing : (l : List ℕ) (p : Part) → Runs (missing E me ps exits_apart l p) []
  part_missing l (Root x) = nothing
  part_missing l (OnLedger m x) = missing_there m l (Channel x)
  part_missing l (End v) = missing_there _ l (Channel (own_guarantor v))
  part_missing l (Middle v) =
      follows-append Gone For _ _ [] [] (missing_there v.ledger_a l (Channel v.guarantor_a)) (missing_there v.ledger_b l (Channel v.guarantor_b))

  parts_missing : (qs : List Part) (l : List ℕ) → Runs (all_missing E me ps exits_apart qs l) []
  parts_missing [] l = nothing
  parts_missing (q ∷ qs) l =
      follows-append Gone For (missing E me ps exits_apart l q) (all_missing E me ps exits_apart qs l) [] [] (part_missing l q) (parts_missing qs l)

  -- ---- the lists of the guarantors

  listed-end : (g j : List ℕ) (list : List Dest) → Guarantees C g j list → IsBackedBy C g j → counts_in C g ≡ true → ((B []).list g ≡ list) ⊎ IsBare (B []) j
  listed-end g j list promised back counts = go (shape_in (outcome_in C [] g) a) refl (promised [] a)
    where
      go : (s : Option Shape) → shape_in (outcome_in C [] g) a ≡ s → IsPromise j list s → ((B []).list g ≡ list) ⊎ IsBare (B []) j
      go None e p = inr (λ d. ap (λ (xs : List Item). amt xs d) (back a counts e))
      go (Some shape) e p = inl (ap list_of (e ∙ ap (λ (x : Shape). Some x) p))

  all_listed : (qs : List Part) → AllByRecursion (IsGuaranteed me C) qs → AllByRecursion (IsBacked C) qs → AllListed (B []) me qs
  all_listed [] h k = tt
  all_listed (Root x ∷ qs) h k = (tt, all_listed qs h.1 k.1)
  all_listed (OnLedger l x ∷ qs) h k = (tt, all_listed qs h.1 k.1)
  all_listed (End v ∷ qs) h k = ((λ c. go (listed-end (own_guarantor v) v.joint _ h.0.1 k.0 c)), all_listed qs h.1 k.1)
    where
      go : ((B []).list (own_guarantor v) ≡ Channel v.channel ∷ Person me ∷ h.0.0 ∷ []) ⊎ IsBare (B []) v.joint →
          ((third : Dest) × ((B []).list (own_guarantor v) ≡ Channel v.channel ∷ Person me ∷ third ∷ [])) ⊎ IsBare (B []) v.joint
      go (inl e) = inl (h.0.0, e)
      go (inr e) = inr e
  all_listed (Middle v ∷ qs) h k =
      (((λ c. go v.guarantor_a h.0.0.0 (listed-end v.guarantor_a v.joint _ h.0.0.1 k.0.0 c)), (λ c. go v.guarantor_b h.0.1.0 (listed-end v.guarantor_b v.joint _ h.0.1.1 k.0.1 c))), all_listed qs h.1 k.1)
    where
      go : (g : List ℕ) (second : Dest) → ((B []).list g ≡ Channel v.channel ∷ second ∷ Person me ∷ []) ⊎ IsBare (B []) v.joint →
          ((d : Dest) × ((B []).list g ≡ Channel v.channel ∷ d ∷ Person me ∷ [])) ⊎ IsBare (B []) v.joint
      go g second (inl e) = inl (second, e)
      go g second (inr e) = inr e

  -- ---- the run

  abbrev edges : List Edge
  edges = roots E me ps exits_apart ++ other_edges (onward E me ps exits_apart) me ps

  follows : Runs edges (exit_calls (ended r past) me ps)
  follows = list-run (ended r past) a Backs Gone classify (more E me ps exits_apart) (all-from E me ps exits_apart ps) (parts_missing ps) me ps (fits ps sound.guarantors apart)

  end_apart : (qs : List Part) → AllByRecursion IsApartFromGuarantors qs → (v : Virtual) → In (End v) qs → IsApartFromGuarantors (End v)
  end_apart [] h v i = absurd i
  end_apart (q ∷ qs) h v (inl e) = subst (λ (p : Part). IsApartFromGuarantors p) (sym e) h.0
  end_apart (q ∷ qs) h v (inr i) = end_apart qs h.1 v i

  pub paid-share : Stand (reverse (exit_calls (ended r past) me ps)) later → paid [] + worth (B []) me ps no_reach ≤ paid later
  paid-share stood =
      exit_pays me ps edges
      (list-is-exit me ps exits_apart (onward E me ps exits_apart) (roots E me ps exits_apart) (supplies E me ps exits_apart (end_apart ps apart) on_ledgers)) (B []) (B later) (paid []) (paid later)
      (all_listed ps sound.guarantors backed)
      (subst (λ (xs : List Edge). Run me ps xs (B []) (paid []) (B later) (paid later)) (onto-twice edges)
      (stands-run me ps B paid For Ok (λ e l ok. ok-older r front e (l ++ past) ok) (λ e l ok. steps-at r me ps past front fs a seen start sound e l ok) answered (B later) (paid later)
      (onto edges []) (onto (exit_calls (ended r past) me ps) []) (follows-onto Gone For edges [] (exit_calls (ended r past) me ps) [] follows nothing) [] later
      (subst (λ (cs : List Call). Stand cs later) (sym (onto_reverse (exit_calls (ended r past) me ps) [])) stood) (record { legal = legal; tell = tell }) ends))

legal_older : (r : Rules) (later past : List Entry) → Legal r (later ++ past) → Legal r past
legal_older r [] past legal = legal
legal_older r (e ∷ later) past legal = legal_older r later past legal.0

pub exits_pay : ExitPaysShare
exits_pay r me orders h journal legal tell = record { pays = λ past later front place is can stood asset. go past later front place is can stood asset }
  where
    go : (past later : List Entry) (front : List Line) → IsPlace h journal past front → h ≡ later ++ past → CanExit r me orders past front →
        Stand (reverse (exit_calls (ended r past) me (plan orders front))) later → (asset : ℕ) → share r me orders past front asset ≤ paid_to h me asset
    go past later front place is can stood asset =
        subst (λ (g : List Entry). share r me orders past front asset ≤ paid_to g me asset) (sym is)
        (subst (λ (xs : List Counting). share_of me (paid_to past me asset) (plan orders front) (balances past asset) xs asset ≤ paid_to (later ++ past) me asset) same
        (subst (λ (vs : List (List ℕ)). paid_to past me asset + least_over vs (worth_under me (plan orders front) (balances past asset) (counting_among r past front fs) asset) [] ≤ paid_to (later ++ past) me asset)
        (sym (varying-final r past front fs start))
        (paid-share r me (plan orders front) past later front fs asset legal' tell' (legal_older r later past legal') place.before start
        (subst (λ (xs : List Counting). IsSound me (plan orders front) xs) (sym same) can.sound)
        (λ n c. can.final n (subst (λ (xs : List Counting). counts_in xs n ≡ true) same c))
        can.apart can.channels can.on_ledgers
        (subst (λ (xs : List Counting). AllByRecursion (IsBacked xs) (plan orders front)) (sym same) can.backed) stood)))
      where
        legal' : Legal r (later ++ past)
        legal' = subst (Legal r) is legal

        tell' : NoCollision r (later ++ past) front
        tell' = fewer r [] (later ++ past) place.newer front (subst (λ (es : List Entry). NoCollision r es (place.newer ++ front)) is (subst (NoCollision r h) place.lines tell))

        fs : List FixedParts
        fs = counted r past front (channels front)

        same : counting_among r past front fs ≡ counting r past front
        same = counting-counted r past front (channels front)

        start : (f : FixedParts) → In f fs → Lasts r past front f
        start f i =
            let k : Counted r past front (channels front) f = counted-in r past front (channels front) f i in
            record {
              final = can.final (r.named f) k.counts;
              held = held-if (is_held r f (held r f past front)) _ k.first k.others k.is;
            }
