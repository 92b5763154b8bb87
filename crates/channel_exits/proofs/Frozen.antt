-- The channels that count when an exit begins: they stay final, so each later entry is a payment to the plan, or none.
use Rattle.std.proofs.Common.{◌≡◌, ℕ, ◌≤◌, Bool, true, false, cond, ◌||◌, not, List, [], ◌∷◌, ◌++◌, refl, sym, ◌∙◌, ap, subst, arith, inl, inr}
use Rattle.std.specs.Prelude.{Option}
use Rattle.std.specs.List.{AllByRecursion}
use Rattle.std.specs.Option.{option_map}
use Rattle.std.specs.Str.{bytes_eq}
use Rattle.channel_values.specs.Parts.{FixedParts}
use Rattle.channel_values.specs.declared.value.AssetOutcome.{AssetOutcome}
use Rattle.channel_values.specs.declared.value.Dest.{Dest}
use Rattle.channel_values.specs.declared.value.Dest.TheVariants.{Person}
use Rattle.call_history.specs.Mode.{is_final}
use Rattle.channel_values.specs.Rules.{Rules}
use Rattle.channel_values.specs.Amounts.{has}
use Rattle.call_history.specs.Dues.{shape_in}
use Rattle.call_history.specs.Flows.{held_in, paid_in, paid_of_item}
use Rattle.call_history.specs.Rest.{rest_outcome}
use Rattle.call_history.specs.History.{Legal, is_accepted, mode, settled, flow_of, flows_of, held_of, paid_to, paid_of, payment_of, payments_of, rest_of_channel}
use Rattle.call_history.specs.declared.call.Call.TheVariants.{Deposit, Transfer, Claim}
use Rattle.call_history.specs.declared.call.Op.{Op}
use Rattle.call_history.specs.declared.call.Op.TheVariants as ops
use Rattle.call_history.specs.declared.entry.Entry.{Entry}
use Rattle.call_history.specs.declared.funds.Flow.{Flow}
use Rattle.call_history.specs.declared.funds.Payment.{Payment}
use Rattle.call_history.specs.declared.refusal.Reply.{Reply}
use Rattle.call_history.proofs.Names.{bytes_eq_self}
use Rattle.channel_safety.specs.Journals.{In, Line}
use Rattle.channel_safety.specs.Held.{held}
use Rattle.funding_plans.specs.declared.plan.Part.{Part}
use Rattle.funding_plans.specs.declared.plan.Part.TheVariants.{Root, OnLedger, End, Middle}
use Rattle.share_laws.specs.Books.{Counting, outcome_in, counts_in}
use Rattle.funding_plans.specs.Shapes.{items_of, list_of}
use Rattle.share_laws.specs.Places.{possible, possible_after, is_held, last_made, counting_of, counting_among}
use Rattle.channel_safety.specs.Occurring.{NoCollision}
use Rattle.share_laws.specs.ShareLaws.{moves_funds, AreSeen}
use Rattle.share_laws.specs.Sound.{Guarantees, IsGuaranteed, IsSound}
use Rattle.share_laws.proofs.Final.{final-stays, final-settled}
use Rattle.share_laws.proofs.Keeping.{held-over_entry}
use Rattle.share_laws.proofs.Law.{Moves, by_op}
use Rattle.share_laws.proofs.Moving.{books_at}
use Rattle.share_laws.proofs.PartShares.{still, Pays}
use Rattle.share_laws.proofs.Paying.{Moved-still}
use Rattle.share_laws.proofs.Quiet.{is_quiet}
use Rattle.share_laws.proofs.Fewer.{fewer}
use Rattle.channel_exits.proofs.Standing.{Steps}

-- ---- the channels that count

abbrev pub pick : List (List AssetOutcome) → FixedParts → List FixedParts → List FixedParts
pick [] f rest = rest
pick (o ∷ os) f rest = f ∷ rest

abbrev pub counted : Rules → List Entry → List Line → List FixedParts → List FixedParts
counted r past front [] = []
counted r past front (f ∷ fs) = pick (possible r past front f) f (counted r past front fs)

pub counting-counted : (r : Rules) (past : List Entry) (front : List Line) (fs : List FixedParts) →
    counting_among r past front (counted r past front fs) ≡ counting_among r past front fs
counting-counted r past front [] = refl
counting-counted r past front (f ∷ fs) = go (possible r past front f) refl (counting-counted r past front fs)
  where
    go : (os : List (List AssetOutcome)) → possible r past front f ≡ os → counting_among r past front (counted r past front fs) ≡ counting_among r past front fs →
        counting_among r past front (pick os f (counted r past front fs)) ≡ counting_of (r.named f) (possible r past front f) ++ counting_among r past front fs
    go [] e rec = rec ∙ sym (ap (λ (xs : List (List AssetOutcome)). counting_of (r.named f) xs ++ counting_among r past front fs) e)
    go (o ∷ os) e rec = ap (λ (xs : List Counting). counting_of (r.named f) (possible r past front f) ++ xs) rec

counts-first : (n : List ℕ) (o : List AssetOutcome) (os : List (List AssetOutcome)) (xs : List Counting) → counts_in (counting_of n (o ∷ os) ++ xs) n ≡ true
counts-first n o [] xs = ap (λ (t : Bool). cond t true (counts_in xs n)) (bytes_eq_self n)
counts-first n o (p ∷ ps) xs = ap (λ (t : Bool). cond t true (counts_in xs n)) (bytes_eq_self n)

counts-later : (n c : List ℕ) (os : List (List AssetOutcome)) (xs : List Counting) → counts_in xs n ≡ true → counts_in (counting_of c os ++ xs) n ≡ true
counts-later n c [] xs h = h
counts-later n c (o ∷ []) xs h = go (bytes_eq c n) h
  where
    go : (t : Bool) → counts_in xs n ≡ true → cond t true (counts_in xs n) ≡ true
    go true h = refl
    go false h = h
counts-later n c (o ∷ p ∷ ps) xs h = go (bytes_eq c n) h
  where
    go : (t : Bool) → counts_in xs n ≡ true → cond t true (counts_in xs n) ≡ true
    go true h = refl
    go false h = h

-- a channel that counts, and its possible outcomes
pub record Counted (r : Rules) (past : List Entry) (front : List Line) (fs : List FixedParts) (f : FixedParts) : Type 0 where
  pub counts : counts_in (counting_among r past front fs) (r.named f) ≡ true
  pub first : List AssetOutcome
  pub others : List (List AssetOutcome)
  pub is : possible r past front f ≡ first ∷ others

pub counted-in : (r : Rules) (past : List Entry) (front : List Line) (fs : List FixedParts) (f : FixedParts) → In f (counted r past front fs) → Counted r past front fs f
counted-in r past front [] f i = absurd i
counted-in r past front (g ∷ fs) f i = go (possible r past front g) refl i (counted-in r past front fs f)
  where
    later : Counted r past front fs f → Counted r past front (g ∷ fs) f
    later x = record {
      counts = counts-later (r.named f) (r.named g) (possible r past front g) (counting_among r past front fs) x.counts;
      first = x.first;
      others = x.others;
      is = x.is;
    }

    go : (os : List (List AssetOutcome)) → possible r past front g ≡ os → In f (pick os g (counted r past front fs)) → (In f (counted r past front fs) → Counted r past front fs f) →
        Counted r past front (g ∷ fs) f
    go [] e j rec = later (rec j)
    go (o ∷ os) e (inr j) rec = later (rec j)
    go (o ∷ os) e (inl is) rec =
        subst (λ (h : FixedParts). Counted r past front (g ∷ fs) h) (sym is)
        (record {
          counts =
              ap (λ (xs : List (List AssetOutcome)). counts_in (counting_of (r.named g) xs ++ counting_among r past front fs) (r.named g)) e
              ∙ counts-first (r.named g) o os (counting_among r past front fs);
          first = o;
          others = os;
          is = e;
        })

-- ---- one entry

no_funds : (op : Op) (reply : Reply) → moves_funds op ≡ false → (flow_of op reply ≡ []) × (payment_of op reply ≡ [])
no_funds (ops.Call (Deposit d)) reply h = cc
no_funds (ops.Call (Transfer t)) reply h = cc
no_funds (ops.Call (Claim k)) reply h = cc
no_funds op reply h = (refl, refl)

-- these channels are final, and chains of them are held
pub record Lasts (r : Rules) (past : List Entry) (front : List Line) (f : FixedParts) : Type 0 where
  pub final : is_final (mode r (r.named f) past) ≡ true
  pub held : is_held r f (held r f past front) ≡ true

pub lasts-next : (r : Rules) (e : Entry) (past : List Entry) (front : List Line) (f : FixedParts) → Legal r (e ∷ past) → Lasts r past front f → Lasts r (e ∷ past) front f
lasts-next r e past front f legal x = record {
  final = final-stays r (r.named f) past e legal x.final;
  held = held-over_entry r f past e front x.held;
}

-- what an entry is to them
pub record Next (r : Rules) (e : Entry) (past : List Entry) (front : List Line) (fs : List FixedParts) (me : List ℕ) (a : ℕ) : Type 0 where
  pub pays : Pays (books_at r past front fs a []) (books_at r (e ∷ past) front fs a []) (counting_among r past front fs) me (paid_to past me a) (paid_to (e ∷ past) me a)
  pub promises : (n joint : List ℕ) (list : List Dest) → Guarantees (counting_among r past front fs) n joint list → Guarantees (counting_among r (e ∷ past) front fs) n joint list

module _ (r : Rules) (e : Entry) (past : List Entry) (front : List Line) (me : List ℕ) (a : ℕ) (legal : Legal r (e ∷ past)) (tell : NoCollision r (e ∷ past) front)
    (seen : AreSeen past front) where
  possible-stays : (f : FixedParts) → Lasts r past front f → payment_of e.op e.reply ≡ [] → possible r (e ∷ past) front f ≡ possible r past front f
  possible-stays f x none =
      ap (λ (t : Bool). cond t (possible_after (is_final (mode r n (e ∷ past))) (rest_of_channel r n (e ∷ past)) (last_made n front)) []) (y.held ∙ sym x.held)
      ∙ (ap (λ (t : Bool). cond (is_held r f (held r f past front)) (possible_after t (rest_of_channel r n (e ∷ past)) (last_made n front)) []) (y.final ∙ sym x.final)
      ∙ ap (λ (o : Option (List AssetOutcome)). cond (is_held r f (held r f past front)) (possible_after (is_final (mode r n past)) o (last_made n front)) []) rest)
    where
      n : List ℕ
      n = r.named f

      y : Lasts r (e ∷ past) front f
      y = lasts-next r e past front f legal x

      rest : rest_of_channel r n (e ∷ past) ≡ rest_of_channel r n past
      rest =
          ap (option_map (rest_outcome (paid_of (e ∷ past) n))) (final-settled r n past e legal x.final)
          ∙ ap (λ (ps : List Payment). option_map (rest_outcome (λ b i. paid_of_item (ps ++ payments_of past) n b i)) (settled r n past)) none

  pub counting-stays : (fs : List FixedParts) → ((f : FixedParts) → In f fs → Lasts r past front f) → payment_of e.op e.reply ≡ [] →
      counting_among r (e ∷ past) front fs ≡ counting_among r past front fs
  counting-stays [] on none = refl
  counting-stays (f ∷ fs) on none =
      ap (λ (os : List (List AssetOutcome)). counting_of (r.named f) os ++ counting_among r (e ∷ past) front fs) (possible-stays f (on f (inl refl)) none)
      ∙ ap (λ (xs : List Counting). counting_of (r.named f) (possible r past front f) ++ xs) (counting-stays fs (λ g i. on g (inr i)) none)

  quiet_next : (fs : List FixedParts) → ((f : FixedParts) → In f fs → Lasts r past front f) → moves_funds e.op ≡ false → Next r e past front fs me a
  quiet_next fs on h = record {
    pays = record {
      payer = [];
      owner = [];
      to = Person [];
      amount = 0;
      moved = Moved-still (books_at r past front fs a []) (books_at r (e ∷ past) front fs a []) [] [] (Person [])
          (λ n. let p : held_of (e ∷ past) n a ≡ held_of past n a = ap (λ (xs : List Flow). held_in (xs ++ flows_of past) n a) none.0 in omega (arith, p))
          (λ n. ap (λ (xs : List Counting). items_of (shape_in (outcome_in xs [] n) a)) same)
          (λ n. ap (λ (xs : List Counting). counts_in xs n) same)
          (λ n. ap (λ (xs : List Counting). list_of (shape_in (outcome_in xs [] n) a)) same) (λ n d. refl);
      received =
          let p : paid_to (e ∷ past) me a ≡ paid_to past me a = ap (λ (xs : List Flow). paid_in (xs ++ flows_of past) me a) none.0 in
          let z = nothing (bytes_eq [] me) in omega (arith, p, z);
      guarantors = λ joint list promised. still refl;
    };
    promises = λ n joint list p. subst (λ (xs : List Counting). Guarantees xs n joint list) (sym same) p;
  }
    where
      none : (flow_of e.op e.reply ≡ []) × (payment_of e.op e.reply ≡ [])
      none = no_funds e.op e.reply h

      same : counting_among r (e ∷ past) front fs ≡ counting_among r past front fs
      same = counting-stays fs on none.1

      nothing : (t : Bool) → cond t 0 0 ≤ 0
      nothing true = omega arith
      nothing false = omega arith

  pub next : (fs : List FixedParts) → ((f : FixedParts) → In f fs → Lasts r past front f) → Next r e past front fs me a
  next fs on = go (moves_funds e.op) refl
    where
      go : (t : Bool) → moves_funds e.op ≡ t → Next r e past front fs me a
      go true h =
          let moves : (moves_funds e.op || not (is_accepted e.reply)) ≡ true = ap (λ (t : Bool). t || not (is_accepted e.reply)) h in
          let m : Moves r e past front fs me = by_op r e past front fs me legal tell seen (is_quiet r e moves) e.op refl legal.2 moves in
          record { pays = m.pays a []; promises = m.promises }
      go false h = quiet_next fs on h

-- ---- the plan stays sound

pub all-promised : (me : List ℕ) (xs ys : List Counting) → ((n joint : List ℕ) (list : List Dest) → Guarantees xs n joint list → Guarantees ys n joint list) →
    (ps : List Part) → AllByRecursion (IsGuaranteed me xs) ps → AllByRecursion (IsGuaranteed me ys) ps
all-promised me xs ys keep [] h = tt
all-promised me xs ys keep (Root c ∷ ps) h = (tt, all-promised me xs ys keep ps h.1)
all-promised me xs ys keep (OnLedger l c ∷ ps) h = (tt, all-promised me xs ys keep ps h.1)
all-promised me xs ys keep (End v ∷ ps) h = ((h.0.0, keep _ v.joint _ h.0.1), all-promised me xs ys keep ps h.1)
all-promised me xs ys keep (Middle v ∷ ps) h =
    (((h.0.0.0, keep v.guarantor_a v.joint _ h.0.0.1), (h.0.1.0, keep v.guarantor_b v.joint _ h.0.1.1)), all-promised me xs ys keep ps h.1)

pub sound-next : (me : List ℕ) (ps : List Part) (xs ys : List Counting) → ((n joint : List ℕ) (list : List Dest) → Guarantees xs n joint list → Guarantees ys n joint list) →
    IsSound me ps xs → IsSound me ps ys
sound-next me ps xs ys keep s = record { payers = s.payers; apart = s.apart; guarantors = all-promised me xs ys keep ps s.guarantors }

-- ---- each entry after the exit began

-- the history is legal, and has no collision beside these lines
pub record IsOk (r : Rules) (front : List Line) (h : List Entry) : Type 0 where
  pub legal : Legal r h
  pub tell : NoCollision r h front

pub ok-older : (r : Rules) (front : List Line) (e : Entry) (h : List Entry) → IsOk r front (e ∷ h) → IsOk r front h
ok-older r front e h ok = record { legal = ok.legal.0; tell = fewer r (e ∷ []) h [] front ok.tell }

module _ (r : Rules) (me : List ℕ) (ps : List Part) (past : List Entry) (front : List Line) (fs : List FixedParts) (a : ℕ) (seen : AreSeen past front)
    (start : (f : FixedParts) → In f fs → Lasts r past front f) (sound : IsSound me ps (counting_among r past front fs)) where
  pub still-seen : (l : List Entry) → AreSeen (l ++ past) front
  still-seen [] x i w = seen x i w
  still-seen (e ∷ l) x i w = let h = still-seen l x i w in omega (arith, h)

  pub lasting : (l : List Entry) → Legal r (l ++ past) → (f : FixedParts) → In f fs → Lasts r (l ++ past) front f
  lasting [] legal f i = start f i
  lasting (e ∷ l) legal f i = lasts-next r e (l ++ past) front f legal (lasting l legal.0 f i)

  pub next-at : (e : Entry) (l : List Entry) → IsOk r front (e ∷ l ++ past) → Next r e (l ++ past) front fs me a
  next-at e l ok = next r e (l ++ past) front me a ok.legal ok.tell (still-seen l) fs (lasting l ok.legal.0)

  pub sound-at : (l : List Entry) → IsOk r front (l ++ past) → IsSound me ps (counting_among r (l ++ past) front fs)
  sound-at [] ok = sound
  sound-at (e ∷ l) ok =
      sound-next me ps (counting_among r (l ++ past) front fs) (counting_among r (e ∷ l ++ past) front fs) (next-at e l ok).promises
      (sound-at l (ok-older r front e (l ++ past) ok))

  pub steps-at : (e : Entry) (l : List Entry) → IsOk r front (e ∷ l ++ past) →
      Steps me ps (books_at r (l ++ past) front fs a []) (books_at r (e ∷ l ++ past) front fs a []) (paid_to (l ++ past) me a) (paid_to (e ∷ l ++ past) me a)
  steps-at e l ok = record {
    counting = counting_among r (l ++ past) front fs;
    sound = sound-at l (ok-older r front e (l ++ past) ok);
    pays = (next-at e l ok).pays;
  }

  -- names, lists and who counts stay
  pub names-stay : (l : List Entry) → IsOk r front (l ++ past) → (n : List ℕ) (d : Dest) →
      has ((books_at r (l ++ past) front fs a []).items n) d ≡ has ((books_at r past front fs a []).items n) d
  names-stay [] ok n d = refl
  names-stay (e ∷ l) ok n d = (next-at e l ok).pays.moved.names n d ∙ names-stay l (ok-older r front e (l ++ past) ok) n d

  pub lists-stay : (l : List Entry) → IsOk r front (l ++ past) → (n : List ℕ) → (books_at r (l ++ past) front fs a []).list n ≡ (books_at r past front fs a []).list n
  lists-stay [] ok n = refl
  lists-stay (e ∷ l) ok n = (next-at e l ok).pays.moved.lists n ∙ lists-stay l (ok-older r front e (l ++ past) ok) n

  pub counts-stay : (l : List Entry) → IsOk r front (l ++ past) → (n : List ℕ) → (books_at r (l ++ past) front fs a []).counts n ≡ (books_at r past front fs a []).counts n
  counts-stay [] ok n = refl
  counts-stay (e ∷ l) ok n = (next-at e l ok).pays.moved.counts n ∙ counts-stay l (ok-older r front e (l ++ past) ok) n

  pub settled-stays : (l : List Entry) → Legal r (l ++ past) → (f : FixedParts) → In f fs → settled r (r.named f) (l ++ past) ≡ settled r (r.named f) past
  settled-stays [] legal f i = refl
  settled-stays (e ∷ l) legal f i = final-settled r (r.named f) (l ++ past) e legal (lasting l legal.0 f i).final ∙ settled-stays l legal.0 f i
