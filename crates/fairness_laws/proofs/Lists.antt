-- Names that are apart: they stand once, and those among others are no more than these.
use Rattle.std.proofs.Common.{◌≡◌, ℕ, suc, ◌≤◌, Bool, true, false, cond, ◌&&◌, not, List, [], ◌∷◌, length, inl, inr, refl, sym, ◌∙◌, ap, subst, arith}
use Rattle.std.specs.Prelude.{map, filter, count_by}
use Rattle.std.specs.Str.{bytes_eq}
use Rattle.std.proofs.lemmas.List.Sums.{length-filter, count_by-le-length}
use Rattle.call_history.proofs.Names.{bytes_eq_self}
use Rattle.call_history.specs.Flows.{is_among}
use Rattle.call_history.specs.declared.held_chain.Known.{Known}
use Rattle.fairness_laws.proofs.Plan.Names.{in-filter, told-apart}
use Rattle.run_record.specs.Plans.{without, are_distinct}
use Rattle.channel_safety.proofs.Members.{In-map}
use Rattle.channel_safety.specs.Journals.{In}
use Rattle.channel_node.specs.Openings.{are_apart}
use Rattle.node_guarantees.proofs.Apart.{Apart}

same-test : (names : List (List ℕ)) → are_distinct names ≡ are_apart names
same-test [] = refl
same-test (n ∷ names) = ap (λ (b : Bool). not (is_among n names) && b) (same-test names)

pub distinct-of : (names : List (List ℕ)) → Apart names → are_distinct names ≡ true
distinct-of names apart = same-test names ∙ told-apart names apart

-- ---- a name is taken out

fewer : (name : List ℕ) (names : List (List ℕ)) → length (without name names) ≤ length names
fewer name names =
    let same : length (without name names) ≡ count_by (λ other. not (bytes_eq name other)) names = length-filter (λ other. not (bytes_eq name other)) names in
    let low : count_by (λ other. not (bytes_eq name other)) names ≤ length names = count_by-le-length (λ other. not (bytes_eq name other)) names in
    omega (arith, same, low)

pub still-there : (name other : List ℕ) (names : List (List ℕ)) → In other names → bytes_eq name other ≡ false → In other (without name names)
still-there name other names i differ = in-filter (λ n. not (bytes_eq name n)) other names i (ap not differ)

shorter : (name : List ℕ) (names : List (List ℕ)) → In name names → suc (length (without name names)) ≤ length names
shorter name [] i = absurd i
shorter name (n ∷ names) (inl e) =
    let low : length (without name names) ≤ length names = fewer name names in
    subst (λ (b : Bool). suc (length (cond (not b) (n ∷ without name names) (without name names))) ≤ length (n ∷ names))
    (sym (ap (bytes_eq name) (sym e) ∙ bytes_eq_self name)) (omega (arith, low))
shorter name (n ∷ names) (inr i) = go (bytes_eq name n) (shorter name names i)
  where
    go : (b : Bool) → suc (length (without name names)) ≤ length names → suc (length (cond (not b) (n ∷ without name names) (without name names))) ≤ length (n ∷ names)
    go true low = omega (arith, low)
    go false low = omega (arith, low)

-- ---- as many as names

passing : (test : Known → Bool) (ks : List Known) (names : List (List ℕ)) → Apart (map (λ (k : Known). k.channel) ks)
    → ((k : Known) → In k ks → test k ≡ true → In k.channel names) → length (filter test ks) ≤ length names
passing test [] names apart those = omega arith
passing test (k ∷ ks) names apart those = go (test k) refl (λ ns all. passing test ks ns apart.1 all)
  where
    go : (b : Bool) → test k ≡ b → ((ns : List (List ℕ)) → ((j : Known) → In j ks → test j ≡ true → In j.channel ns) → length (filter test ks) ≤ length ns)
        → length (cond b (k ∷ filter test ks) (filter test ks)) ≤ length names
    go false t rest = rest names (λ j i. those j (inr i))
    go true t rest =
        let others : length (filter test ks) ≤ length (without k.channel names) =
        rest (without k.channel names)
        (λ j i u. still-there k.channel j.channel names (those j (inr i) u) (apart.0 j.channel (In-map (λ (x : Known). x.channel) j ks i))) in
        let low : suc (length (without k.channel names)) ≤ length names = shorter k.channel names (those k (inl refl) t) in
        omega (arith, others, low)

-- known states that pass a test, where each that does is of one of these channels
pub count-within : (test : Known → Bool) (ks : List Known) (names : List (List ℕ)) → Apart (map (λ (k : Known). k.channel) ks)
    → ((k : Known) → In k ks → test k ≡ true → In k.channel names) → count_by test ks ≤ length names
count-within test ks names apart those =
    let same : length (filter test ks) ≡ count_by test ks = length-filter test ks in
    let low : length (filter test ks) ≤ length names = passing test ks names apart those in
    omega (arith, same, low)
