-- What a command that opens promises where it isn't refused: its channels can be added, and there is room for its part.
use Rattle.std.proofs.Common.{◌≡◌, ℕ, ◌+◌, ◌<◌, ◌≤◌, Bool, true, false, cond, List, [], ◌∷◌, ◌++◌, length, map, refl, sym, ◌∙◌, ap, arith, length-append, append-nil}
use Rattle.std.specs.Prelude.{Option, Some, None, is_some, not, ◌&&◌, nat_lt}
use Rattle.std.specs.List.{find, list_all}
use Rattle.std.specs.Str.{bytes_eq}
use Rattle.std.proofs.lemmas.Bool.Decides.{nat_tests}
use Rattle.std.proofs.lemmas.List.Folds.{find_at}
use Rattle.channel_values.specs.Parts.{FixedParts}
use Rattle.call_history.specs.Flows.{is_among}
use Rattle.call_history.specs.Naming.{name_of}
use Rattle.channel_store.specs.Storing.{is_of, kept_of}
use Rattle.channel_store.specs.declared.kept.Kept.{Kept}
use Rattle.funding_plans.specs.Parts.{channels_of, channels}
use Rattle.funding_plans.specs.declared.plan.Part.{Part}
use Rattle.funding_plans.specs.declared.plan.Part.TheVariants.{Root, OnLedger, End, Middle}
use Rattle.channel_node.specs.Minds.{Mind}
use Rattle.channel_node.specs.Openings.{takes_part, opened, are_apart}
use Rattle.channel_node.specs.Refusing.{is_planned, are_new}
use Rattle.node_knowledge.specs.Taking.{joined, CanJoin, CanOpen}
use Rattle.support_rules.specs.Real.{real}
use Rattle.node_decisions.proofs.Tests.{left_true, right_true, left_false, right_false, not_true}

-- ---- channels

none_kept : (o : Option Kept) → is_some o ≡ false → o ≡ None
none_kept None e = refl
none_kept (Some k) e = absurd cc

find_push : (test : Kept → Bool) (kept : List Kept) (k : Kept) → find test kept ≡ None → test k ≡ false → find test (kept ++ k ∷ []) ≡ None
find_push test [] k e f = ap (λ (b : Bool). cond b (Some k) None) f
find_push test (x ∷ kept) k e f = go (test x) e (λ (h : find test kept ≡ None). find_push test kept k h f)
  where
    go : (b : Bool) → cond b (Some x) (find test kept) ≡ None → (find test kept ≡ None → find test (kept ++ k ∷ []) ≡ None) → cond b (Some x) (find test (kept ++ k ∷ [])) ≡ None
    go true e h = absurd cc
    go false e h = h e

-- a channel that isn't kept isn't kept either once one of another name is
kept_push : (channel : List ℕ) (kept : List Kept) (k : Kept) → kept_of channel kept ≡ None → is_of channel k ≡ false → kept_of channel (kept ++ k ∷ []) ≡ None
kept_push channel kept k e f =
    sym (find_at (is_of channel) (kept ++ k ∷ [])) ∙ find_push (is_of channel) kept k (find_at (is_of channel) kept ∙ e) f

kept_joined : (key channel : List ℕ) (f : FixedParts) (kept : List Kept) → kept_of channel kept ≡ None → bytes_eq (name_of f) channel ≡ false → kept_of channel (kept ++ joined key (f ∷ [])) ≡ None
kept_joined key channel f kept e apart = go (takes_part key f)
  where
    go : (b : Bool) → kept_of channel (kept ++ map (opened real key) (cond b (f ∷ []) [])) ≡ None
    go true = kept_push channel kept (opened real key f) e apart
    go false = ap (kept_of channel) (append-nil kept) ∙ e

abbrev is_new : List Kept → List ℕ → Bool
is_new kept channel = not (is_some (kept_of channel kept))

still_new : (key : List ℕ) (f : FixedParts) (kept : List Kept) (names : List (List ℕ)) → is_among (name_of f) names ≡ false → list_all (is_new kept) names ≡ true
    → list_all (is_new (kept ++ joined key (f ∷ []))) names ≡ true
still_new key f kept [] apart new = refl
still_new key f kept (name ∷ names) apart new =
    let one : kept_of name kept ≡ None = none_kept (kept_of name kept) (not_true (is_some (kept_of name kept)) (left_true (is_new kept name) (list_all (is_new kept) names) new)) in
    let after : kept_of name (kept ++ joined key (f ∷ [])) ≡ None = kept_joined key name f kept one (left_false (bytes_eq (name_of f) name) (is_among (name_of f) names) apart) in
    ap (λ (o : Option Kept). not (is_some o) && list_all (is_new (kept ++ joined key (f ∷ []))) names) after
    ∙ still_new key f kept names (right_false (bytes_eq (name_of f) name) (is_among (name_of f) names) apart) (right_true (is_new kept name) (list_all (is_new kept) names) new)

can_join : (key : List ℕ) (fs : List FixedParts) (kept : List Kept) → are_apart (map real.named fs) ≡ true → list_all (is_new kept) (map real.named fs) ≡ true → CanJoin key fs kept
can_join key [] kept apart new = tt
can_join key (f ∷ fs) kept apart new =
    let names : List (List ℕ) = map real.named fs in
    let others : is_among (name_of f) (map real.named fs) ≡ false = not_true (is_among (name_of f) (map real.named fs)) (left_true (not (is_among (name_of f) (map real.named fs))) (are_apart (map real.named fs)) apart) in
    let free : kept_of (name_of f) kept ≡ None = none_kept (kept_of (name_of f) kept) (not_true (is_some (kept_of (name_of f) kept)) (left_true (is_new kept (name_of f)) (list_all (is_new kept) (map real.named fs)) new)) in (
      λ (t : takes_part key f ≡ true). free,
      can_join key fs (kept ++ joined key (f ∷ [])) (right_true (not (is_among (name_of f) (map real.named fs))) (are_apart (map real.named fs)) apart)
          (still_new key f kept (map real.named fs) others (right_true (is_new kept (name_of f)) (list_all (is_new kept) (map real.named fs)) new)),
    )

-- what isn't planned isn't kept
unplanned : (m : Mind) (names : List (List ℕ)) → list_all (λ (name : List ℕ). not (is_planned m name)) names ≡ true → list_all (is_new m.kept) names ≡ true
unplanned m [] e = refl
unplanned m (name ∷ names) e =
    let first : not (is_planned m name) ≡ true = left_true (not (is_planned m name)) (list_all (λ (n : List ℕ). not (is_planned m n)) names) e in
    let free : is_some (kept_of name m.kept) ≡ false = left_false (is_some (kept_of name m.kept)) (is_among name (channels m.parts)) (not_true (is_planned m name) first) in
    ap (λ (b : Bool). not b && list_all (is_new m.kept) names) free
    ∙ unplanned m names (right_true (not (is_planned m name)) (list_all (λ (n : List ℕ). not (is_planned m n)) names) e)

-- ---- parts

one_each : (part : Part) → 1 ≤ length (channels_of part)
one_each (Root name) = omega arith
one_each (OnLedger ledger name) = omega arith
one_each (End v) = omega arith
one_each (Middle v) = omega arith

few_parts : (parts : List Part) → length parts ≤ length (channels parts)
few_parts [] = omega arith
few_parts (part ∷ parts) = omega (arith, one_each part, few_parts parts, length-append (channels_of part) (channels parts))

not_above : (n : ℕ) → nat_lt 64 n ≡ false → n ≤ 64
not_above n e = grind (arith, nat_tests)

room : (parts : List Part) (opens : ℕ) → nat_lt 64 (length (channels parts) + opens) ≡ false → 1 ≤ opens → length parts < 64
room parts opens e h = omega (arith, few_parts parts, not_above (length (channels parts) + opens) e)

-- ---- both

pub can_open_all : (m : Mind) (fs : List FixedParts) → are_new m (map real.named fs) ≡ true → nat_lt 64 (length (channels m.parts) + length fs) ≡ false → 1 ≤ length fs → CanOpen m fs
can_open_all m fs new few some_opened =
    record {
      channels = can_join m.key fs m.kept (left_true (are_apart (map real.named fs)) (list_all (λ (name : List ℕ). not (is_planned m name)) (map real.named fs)) new)
          (unplanned m (map real.named fs) (right_true (are_apart (map real.named fs)) (list_all (λ (name : List ℕ). not (is_planned m name)) (map real.named fs)) new));
      room = room m.parts (length fs) few some_opened;
    }
