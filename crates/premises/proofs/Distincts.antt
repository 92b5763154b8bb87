-- The strings that the laws of safety speak of are among those of the history, of all journals and of the commands.
use Rattle.std.proofs.Common.{◌≡◌, ℕ, true, List, [], ◌∷◌, ◌++◌, flat_map, reverse, ◌⊎◌, inl, inr, refl, sym, ◌∙◌, ap, subst}
use Rattle.std.specs.List.{list_all}
use Rattle.std.specs.Str.{bytes_eq}
use Rattle.sha2.specs.Sha256.{sha256}
use Rattle.call_history.proofs.Names.{same_bytes, bytes_eq_self}
use Rattle.channel_values.specs.Parts.{FixedParts}
use Rattle.channel_values.specs.Collisions.{NoneCollide}
use Rattle.channel_values.specs.Digests.{person_string}
use Rattle.call_history.specs.declared.entry.Entry.{Entry}
use Rattle.call_history.specs.declared.event.Deed.{Deed}
use Rattle.call_history.specs.declared.event.Event.{Event}
use Rattle.channel_safety.specs.Journals.{In, Line, opened, lines}
use Rattle.channel_safety.specs.Hashed.{of_fixed, of_entry, of_deed, of_line, hashed}
use Rattle.premises.specs.declared.journal.Journal.{Journal}
use Rattle.premises.specs.Collision.{of_event, of_journal, distinct_strings}
use Rattle.premises.specs.Telling.{strings_opened, are_apart, none_collide, CollisionIsTold, DistinctSuffices}
use Rattle.channel_safety.proofs.Members.{In-append_right, In-append_left, In-append_cases, In-reverse, In-flat_map, joined, contains, contained}
use Rattle.channel_safety.proofs.Tests.{and-left, and-right, and-both}
use Rattle.premises.proofs.ListTests.{all-pass, pass-all, own-if, if-own}

-- ---- lines

record LineOf (events : List Event) (x : Line) : Type 0 where
  pub event : Event
  pub there : In event events
  pub same : x.deed ≡ event.deed

line-of : (adds : ℕ → List FixedParts) (events : List Event) (x : Line) → In x (lines adds events) → LineOf events x
line-of adds [] x i = absurd i
line-of adds (y ∷ ys) x (inl e) = record { event = y; there = inl refl; same = ap (λ (z : Line). z.deed) e }
line-of adds (y ∷ ys) x (inr i) = let a = line-of adds ys x i in record { event = a.event; there = inr a.there; same = a.same }

among : (h : List Entry) (journals : List Journal) (j : Journal) (adds : ℕ → List FixedParts) → In j journals
    → (s : List ℕ) → In s (hashed (reverse h) (lines adds (reverse j.events))) → In s (distinct_strings h journals) ⊎ In s (strings_opened (lines adds (reverse j.events)))
among h journals j adds there s i = go (In-append_cases s (flat_map of_entry (reverse h)) (flat_map of_line journal) i)
  where
    journal : List Line
    journal = lines adds (reverse j.events)

    entries : List (List ℕ)
    entries = flat_map of_entry h

    others : List (List ℕ)
    others = flat_map of_journal journals

    in-line : (x : Line) → In x journal → In s (flat_map of_fixed (opened x)) ⊎ In s (of_deed x.deed) → In s (distinct_strings h journals) ⊎ In s (strings_opened journal)
    in-line x k (inl a) = inr (In-flat_map (λ (y : Line). flat_map of_fixed (opened y)) s x journal k a)
    in-line x k (inr a) =
        let l = line-of adds (reverse j.events) x k in
        let d : In s (of_event l.event) = subst (λ (z : Deed). In s (of_deed z)) l.same a in
        inl (In-append_right s entries others
        (In-flat_map of_journal s j journals there (inr (In-flat_map of_event s l.event j.events (In-reverse l.event j.events l.there) d))))

    go : In s (flat_map of_entry (reverse h)) ⊎ In s (flat_map of_line journal) → In s (distinct_strings h journals) ⊎ In s (strings_opened journal)
    go (inl k) =
        let a = joined of_entry s (reverse h) k in
        inl (In-append_left s entries others (In-flat_map of_entry s a.from h (In-reverse a.from h a.there) a.is))
    go (inr k) =
        let a = joined of_line s journal k in
        in-line a.from a.there (In-append_cases s (flat_map of_fixed (opened a.from)) (of_deed a.from.deed) a.is)

-- ---- what collides among fewer strings

fewer : (xs ys : List (List ℕ)) → ((s : List ℕ) → In s xs → In s ys) → NoneCollide ys → NoneCollide xs
fewer xs ys among none a b i j = none a b (contains a ys (among a (contained a xs i))) (contains b ys (among b (contained b xs j)))

pub suffices : DistinctSuffices
suffices =
    record {
      with_commands =
          λ h journals j adds there.
          fewer (hashed (reverse h) (lines adds (reverse j.events))) (distinct_strings h journals ++ strings_opened (lines adds (reverse j.events)))
          (λ s i. either h journals j adds s (among h journals j adds there s i));
      with_named =
          λ h journals j adds more there opened.
          fewer (hashed (reverse h) (lines adds (reverse j.events)) ++ (person_string j.key ∷ flat_map of_fixed more))
          (distinct_strings h journals ++ flat_map of_fixed more)
          (λ s i.
          named-either h journals j adds more there opened s
          (In-append_cases s (hashed (reverse h) (lines adds (reverse j.events))) (person_string j.key ∷ flat_map of_fixed more) i));
      with_known_commands =
          λ h journals j adds there known.
          fewer (hashed (reverse h) (lines adds (reverse j.events))) (distinct_strings h journals)
          (λ s i. known-either h journals j adds known s (among h journals j adds there s i));
    }
  where
    either : (h : List Entry) (journals : List Journal) (j : Journal) (adds : ℕ → List FixedParts) (s : List ℕ)
        → In s (distinct_strings h journals) ⊎ In s (strings_opened (lines adds (reverse j.events))) → In s (distinct_strings h journals ++ strings_opened (lines adds (reverse j.events)))
    either h journals j adds s (inl i) = In-append_left s (distinct_strings h journals) (strings_opened (lines adds (reverse j.events))) i
    either h journals j adds s (inr i) = In-append_right s (distinct_strings h journals) (strings_opened (lines adds (reverse j.events))) i

    with-more : (h : List Entry) (journals : List Journal) (opened more : List (List ℕ)) → ((s : List ℕ) → In s opened → In s more) → (s : List ℕ)
        → In s (distinct_strings h journals) ⊎ In s opened → In s (distinct_strings h journals ++ more)
    with-more h journals opened more among s (inl i) = In-append_left s (distinct_strings h journals) more i
    with-more h journals opened more among s (inr i) = In-append_right s (distinct_strings h journals) more (among s i)

    named-either : (h : List Entry) (journals : List Journal) (j : Journal) (adds : ℕ → List FixedParts) (more : List FixedParts) → In j journals
        → ((s : List ℕ) → In s (strings_opened (lines adds (reverse j.events))) → In s (flat_map of_fixed more)) → (s : List ℕ)
        → In s (hashed (reverse h) (lines adds (reverse j.events))) ⊎ In s (person_string j.key ∷ flat_map of_fixed more)
        → In s (distinct_strings h journals ++ flat_map of_fixed more)
    named-either h journals j adds more there opened s (inl i) =
        with-more h journals (strings_opened (lines adds (reverse j.events))) (flat_map of_fixed more) opened s (among h journals j adds there s i)
    named-either h journals j adds more there opened s (inr (inl e)) =
        In-append_left s (distinct_strings h journals) (flat_map of_fixed more)
        (In-append_right s (flat_map of_entry h) (flat_map of_journal journals) (In-flat_map of_journal s j journals there (inl e)))
    named-either h journals j adds more there opened s (inr (inr i)) = In-append_right s (distinct_strings h journals) (flat_map of_fixed more) i

    known-either : (h : List Entry) (journals : List Journal) (j : Journal) (adds : ℕ → List FixedParts)
        → ((s : List ℕ) → In s (strings_opened (lines adds (reverse j.events))) → In s (distinct_strings h journals)) → (s : List ℕ)
        → In s (distinct_strings h journals) ⊎ In s (strings_opened (lines adds (reverse j.events))) → In s (distinct_strings h journals)
    known-either h journals j adds known s (inl i) = i
    known-either h journals j adds known s (inr i) = known s i

-- ---- the test of strings

apart-told : (d : List ℕ → List ℕ) (s t : List ℕ) → are_apart d s t ≡ true → d s ≡ d t → s ≡ t
apart-told d s t h q = same_bytes s t (own-if (bytes_eq (d s) (d t)) (bytes_eq s t) h (ap (bytes_eq (d s)) (sym q) ∙ bytes_eq_self (d s)))

told : (d : List ℕ → List ℕ) (xs : List (List ℕ)) → none_collide d xs ≡ true → (a b : List ℕ) → In a xs → In b xs → d a ≡ d b → a ≡ b
told d [] h a b i j q = absurd i
told d (s ∷ rest) h a b (inl e) (inl f) q = e ∙ sym f
told d (s ∷ rest) h a b (inl e) (inr j) q =
    e ∙ apart-told d s b (all-pass (are_apart d s) rest b (and-left (list_all (are_apart d s) rest) (none_collide d rest) h) j) (ap d (sym e) ∙ q)
told d (s ∷ rest) h a b (inr i) (inl f) q =
    sym (f ∙ apart-told d s a (all-pass (are_apart d s) rest a (and-left (list_all (are_apart d s) rest) (none_collide d rest) h) i) (ap d (sym f) ∙ sym q))
told d (s ∷ rest) h a b (inr i) (inr j) q = told d rest (and-right (list_all (are_apart d s) rest) (none_collide d rest) h) a b i j q

pub passes : (d : List ℕ → List ℕ) (xs : List (List ℕ)) → ((a b : List ℕ) → In a xs → In b xs → d a ≡ d b → a ≡ b) → none_collide d xs ≡ true
passes d [] h = refl
passes d (s ∷ rest) h =
    and-both (list_all (are_apart d s) rest) (none_collide d rest)
    (pass-all (are_apart d s) rest
    (λ t i. if-own (bytes_eq (d s) (d t)) (bytes_eq s t)
    (λ q. let e : s ≡ t = h s t (inl refl) (inr i) (same_bytes (d s) (d t) q) in ap (bytes_eq s) (sym e) ∙ bytes_eq_self s)))
    (passes d rest (λ a b i j q. h a b (inr i) (inr j) q))

pub collision-told : CollisionIsTold
collision-told = λ strings. (
  λ t a b i j q. told sha256 strings t a b (contained a strings i) (contained b strings j) q,
  λ none. passes sha256 strings (λ a b i j q. none a b (contains a strings i) (contains b strings j) q),
)
