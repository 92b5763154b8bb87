-- What is kept of a channel at a place, and what the facts say of it there.
use Rattle.std.proofs.Common.{◌≡◌, ℕ, ◌≤◌, Bool, true, false, cond, ◌&&◌, List, [], ◌∷◌, ◌++◌, inl, inr, length, refl, sym, ◌∙◌, ap, subst}
use Rattle.std.proofs.lemmas.List.{length-map}
use Rattle.std.specs.Prelude.{nat_le, Option, Some, None}
use Rattle.std.specs.List.{slice_get, flat_map, list_all}
use Rattle.std.specs.Str.{bytes_eq}
use Rattle.channel_values.specs.Parts.{FixedParts, StateParts, IsFixed}
use Rattle.channel_values.specs.declared.value.AssetOutcome.{AssetOutcome}
use Rattle.channel_values.specs.Digests.{name_of_person}
use Rattle.channel_values.specs.Rules.{newest}
use Rattle.call_history.proofs.Names.{bytes_eq_self}
use Rattle.call_history.specs.History.{Legal}
use Rattle.call_history.specs.Marked.{Marked, marked_of}
use Rattle.call_history.specs.declared.entry.Entry.{Entry}
use Rattle.call_history.specs.declared.held_chain.HeldChain.{HeldChain}
use Rattle.channel_store.specs.Keeping.{is_held, next_of, known_last, known_state, named, place_in}
use Rattle.channel_store.specs.Storing.{kept_of}
use Rattle.channel_store.specs.declared.kept.Kept.{Kept}
use Rattle.channel_safety.proofs.Tests.{and-both, true-le}
use Rattle.channel_safety.specs.Held.{held}
use Rattle.channel_safety.specs.Journals.{In, Line}
use Rattle.channel_safety.proofs.Members.{In-map}
use Rattle.channel_node.proofs.Agreeing.{Agree}
use Rattle.channel_node.proofs.Standing.{known}
use Rattle.channel_node.specs.Minds.{Mind, facts_of}
use Rattle.channel_node.specs.Places.{Told, lines_of, mind_at, AreFew}
use Rattle.node_guarantees.proofs.Apart.{Apart, apart-back, names_of, found-again}
use Rattle.node_guarantees.proofs.Growing.{channels_told, Grows}
use Rattle.node_guarantees.proofs.Keeping.{KeepsChannel, AllKeep, all-names}
use Rattle.funding_plans.specs.Gathered as gathered
use Rattle.funding_plans.specs.Seats.{Seat}
use Rattle.support_rules.specs.Real.{real}
use Rattle.support_rules.specs.Steps.{persons}
use Rattle.node_guarantees.specs.ViewLaws.{IsKeptAt}
use Rattle.fairness_laws.proofs.Finding.{held_of, place-found, chain-found}
use Rattle.fairness_laws.specs.PlanSeats.{SeatIs, seat_of}
use Rattle.fairness_laws.proofs.Plan.Names.{told-apart, named-apart}

-- ---- the state that was signed last, as it is known

absent : (channel : List ℕ) (kept : List Kept) → ((y : List ℕ) → In y (names_of kept) → bytes_eq y channel ≡ false) → gathered.known_in channel (flat_map known_state kept) ≡ None
absent channel [] none = refl
absent channel (x ∷ xs) none = go (known_last x) (absent channel xs (λ y i. none y (inr i)))
  where
    go : (o : Option StateParts) → gathered.known_in channel (flat_map known_state xs) ≡ None → gathered.known_in channel (named x.channel o ++ flat_map known_state xs) ≡ None
    go None e = e
    go (Some last) e = ap (λ (b : Bool). cond b (Some (record { channel = x.channel; last = last })) (gathered.known_in channel (flat_map known_state xs))) (none x.channel (inl refl)) ∙ e

last-found : (kept : List Kept) (k : Kept) → Apart (names_of kept) → In k kept → gathered.last_of (gathered.known_in k.channel (flat_map known_state kept)) ≡ known_last k
last-found [] k apart i = absurd i
last-found (x ∷ xs) k apart (inl e) =
    subst (λ (z : Kept). gathered.last_of (gathered.known_in z.channel (flat_map known_state (x ∷ xs))) ≡ known_last z) (sym e) (go (known_last x))
  where
    from-back : (y : List ℕ) → In y (names_of xs) → bytes_eq y x.channel ≡ false
    from-back y i = apart-back x.channel y (apart.0 y i)

    go : (o : Option StateParts) → gathered.last_of (gathered.known_in x.channel (named x.channel o ++ flat_map known_state xs)) ≡ o
    go None = ap gathered.last_of (absent x.channel xs from-back)
    go (Some last) =
        ap (λ (b : Bool). gathered.last_of (cond b (Some (record { channel = x.channel; last = last })) (gathered.known_in x.channel (flat_map known_state xs)))) (bytes_eq_self x.channel)
last-found (x ∷ xs) k apart (inr i) = go (known_last x) (last-found xs k apart.1 i)
  where
    go : (o : Option StateParts) → gathered.last_of (gathered.known_in k.channel (flat_map known_state xs)) ≡ known_last k
        → gathered.last_of (gathered.known_in k.channel (named x.channel o ++ flat_map known_state xs)) ≡ known_last k
    go None e = e
    go (Some last) e =
        ap (λ (b : Bool). gathered.last_of (cond b (Some (record { channel = x.channel; last = last })) (gathered.known_in k.channel (flat_map known_state xs))))
        (apart.0 k.channel (In-map (λ (z : Kept). z.channel) k xs i))
        ∙ e

-- ---- what is kept

-- of the channel, at a place
pub record Holds (key : List ℕ) (past : List Entry) (front : List Line) (m : Mind) (f : FixedParts) : Type 0 where
  pub kept : Kept
  pub at : IsKeptAt real past front f kept
  pub there : In kept m.kept
  pub found : kept_of (real.named f) m.kept ≡ Some kept
  pub mine : slice_get f.keys kept.me ≡ Some key

record KeptOf (lines : List Line) (ks : List Kept) (f : FixedParts) : Type 0 where
  kept : Kept
  there : In kept ks
  keeps : KeepsChannel real lines f kept

kept-there : (lines : List Line) (fs : List FixedParts) (ks : List Kept) → AllKeep real lines fs ks → (f : FixedParts) → In f fs → KeptOf lines ks f
kept-there lines [] ks all f i = absurd i
kept-there lines (g ∷ fs) [] all f i = absurd all
kept-there lines (g ∷ fs) (k ∷ ks) all f (inl e) = record { kept = k; there = inl refl; keeps = subst (λ (x : FixedParts). KeepsChannel real lines x k) (sym e) all.0 }
kept-there lines (g ∷ fs) (k ∷ ks) all f (inr i) = let r = kept-there lines fs ks all.1 f i in record { kept = r.kept; there = inr r.there; keeps = r.keeps }

module _ (key : List ℕ) (past : List Entry) (front : List Told) (legal : Legal real past) (few : AreFew past) (grown : Grows real key front (mind_at real key past front)) where
  abbrev m : Mind
  m = mind_at real key past front

  abbrev lines : List Line
  lines = lines_of key front

  names-apart : Apart (names_of m.kept)
  names-apart = subst Apart (sym (all-names real lines (channels_told key front) m.kept grown.all)) grown.apart

  record Agreed (f : FixedParts) (k : Kept) : Type 0 where
    chain : held real f past lines ≡ Some (marked_of k.chain)
    mine : slice_get k.chain.fixed.keys k.me ≡ Some key

  agreed : (f : FixedParts) (k : Kept) → k.chain.fixed ≡ f → kept_of (real.named f) m.kept ≡ Some k → Agreed f k
  agreed f k fixed found =
      by (held real f past lines) refl (subst (λ (o : Option Kept). Agree real key f lines o (held real f past lines)) found (known real key f past front legal few).agree)
    where
      by : (w : Option Marked) → held real f past lines ≡ w → Agree real key f lines (Some k) w → Agreed f k
      by None is a = absurd a
      by (Some w) is a = record { chain = is ∙ ap (λ (y : Marked). Some y) (sym (a.1 fixed)); mine = a.0.mine }

  pub holds : (f : FixedParts) → In f (channels_told key front) → Holds key past lines m f
  holds f i = record {
    kept = at.kept;
    at = record { good = at.keeps.good; name = at.keeps.name; fixed = at.keeps.fixed; chain = both.chain; last = at.keeps.last };
    there = at.there;
    found = found;
    mine = subst (λ (x : FixedParts). slice_get x.keys at.kept.me ≡ Some key) at.keeps.fixed both.mine;
  }
    where
      at : KeptOf lines m.kept f
      at = kept-there lines (channels_told key front) m.kept grown.all f i

      found : kept_of (real.named f) m.kept ≡ Some at.kept
      found = subst (λ (n : List ℕ). kept_of n m.kept ≡ Some at.kept) at.keeps.name (found-again m.kept names-apart at.kept at.there)

      both : Agreed f at.kept
      both = agreed f at.kept at.keeps.fixed found

  -- ---- what the facts say of it

  pub place-holds : (f : FixedParts) (o : Holds key past lines m f) (name : List ℕ) → real.named f ≡ name → gathered.place_in name (facts_of m).places ≡ Some (place_in o.kept)
  place-holds f o name e = subst (λ (n : List ℕ). gathered.place_in n (facts_of m).places ≡ Some (place_in o.kept)) e (place-found (real.named f) m.kept o.kept o.found)

  pub chain-holds : (f : FixedParts) (o : Holds key past lines m f) (name : List ℕ) → real.named f ≡ name → gathered.chain_in name (facts_of m).chains ≡ held_of o.kept
  chain-holds f o name e =
      subst (λ (n : List ℕ). gathered.chain_in n (facts_of m).chains ≡ held_of o.kept) e
      (chain-found (real.named f) m.kept o.kept (told-apart (names_of m.kept) names-apart) o.found)

  last-holds : (f : FixedParts) (o : Holds key past lines m f) → gathered.last_of (gathered.known_in (real.named f) (facts_of m).known) ≡ known_last o.kept
  last-holds f o =
      subst (λ (n : List ℕ). gathered.last_of (gathered.known_in n (facts_of m).known) ≡ known_last o.kept) o.at.name
      (last-found m.kept o.kept names-apart o.there)

  pub seat-holds : (f : FixedParts) (o : Holds key past lines m f) → IsFixed f → (name : List ℕ) → real.named f ≡ name → (opening : List AssetOutcome)
      → gathered.seat_with (facts_of m) name opening ≡ Some (seat_of f opening o.kept)
  seat-holds f o fixed name e opening =
      subst (λ (n : List ℕ). gathered.seat_with (facts_of m) n opening ≡ Some (seat_of f opening k)) e
      (ap (gathered.seat_at (facts_of m) c opening) (place-holds f o c refl)
      ∙ (ap (λ (x : FixedParts). gathered.seat_if (gathered.are_few (persons x)) (built x (gathered.chain_in c (facts_of m).chains) (gathered.last_of (gathered.known_in c (facts_of m).known)))) o.at.fixed
      ∙ (ap (λ (b : Bool). gathered.seat_if b (built f (gathered.chain_in c (facts_of m).chains) (gathered.last_of (gathered.known_in c (facts_of m).known)))) few-people
      ∙ (ap (λ (h : Option HeldChain). Some (built f h (gathered.last_of (gathered.known_in c (facts_of m).known)))) (chain-holds f o c refl)
      ∙ (ap (λ (s : Option StateParts). Some (built f (held_of k) s)) (last-holds f o) ∙ tops (is_held k))))))
    where
      k : Kept
      k = o.kept

      c : List ℕ
      c = real.named f

      built : FixedParts → Option HeldChain → Option StateParts → Seat
      built x h s = record { name = c; people = persons x; me = k.me; next = next_of k; opening = opening; top = gathered.top_of h; all_final = gathered.are_final h; own = s }

      many : length (persons f) ≡ length f.keys
      many = length-map f.keys name_of_person

      few-people : gathered.are_few (persons f) ≡ true
      few-people =
          and-both (nat_le 2 (length (persons f))) (nat_le (length (persons f)) 4) (true-le 2 (length (persons f)) (subst (λ (n : ℕ). 2 ≤ n) (sym many) fixed.at_least_two))
          (true-le (length (persons f)) 4 (subst (λ (n : ℕ). n ≤ 4) (sym many) fixed.at_most_four))

      tops : (b : Bool) → Some (built f (cond b (Some (record { channel = k.channel; chain = k.chain })) None) (cond b k.last None))
          ≡ Some (record {
            name = c;
            people = persons f;
            me = k.me;
            next = next_of k;
            opening = opening;
            top = cond b (newest k.chain.states) None;
            all_final = b && list_all (λ s. s.is_final) k.chain.states;
            own = cond b k.last None;
          })
      tops true = refl
      tops false = refl

  -- it is a seat of the participant
  pub seat-is : (f : FixedParts) → In f (channels_told key front) → (o : Holds key past lines m f) (opening : List AssetOutcome) → SeatIs key past lines f opening (seat_of f opening o.kept)
  seat-is f i o opening = record { kept = o.kept; own = record { there = i; apart = named-apart (channels_told key front) grown.apart }; at = o.at; mine = o.mine; is = refl }
