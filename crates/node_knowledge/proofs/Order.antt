-- A tick has at most three channels of each part.
use Rattle.std.proofs.Common.{◌≡◌, ℕ, ◌+◌, ◌≤◌, List, [], ◌∷◌, length, length-append, ap, ◌∙◌, arith}
use Rattle.std.specs.List.{flat_map}
use Rattle.std.proofs.lemmas.List.Concat.{flat_map-cons}
use Rattle.funding_plans.specs.declared.plan.Part.{Part}
use Rattle.funding_plans.specs.declared.plan.Part.TheVariants.{Root, OnLedger, End, Middle}
use Rattle.channel_node.specs.Giving.{of_root, of_other, in_order}

few-of : (part : Part) → length (of_root part) + length (of_other part) ≤ 3
few-of (Root channel) = omega arith
few-of (OnLedger ledger channel) = omega arith
few-of (End v) = omega arith
few-of (Middle v) = omega arith

few-all : (parts : List Part) → length (flat_map of_root parts) + length (flat_map of_other parts) ≤ length parts + length parts + length parts
few-all [] = omega arith
few-all (part ∷ parts) =
    let one : length (of_root part) + length (of_other part) ≤ 3 = few-of part in
    let others : length (flat_map of_root parts) + length (flat_map of_other parts) ≤ length parts + length parts + length parts = few-all parts in
    let roots : length (flat_map of_root (part ∷ parts)) ≡ length (of_root part) + length (flat_map of_root parts) =
    ap length (flat_map-cons of_root part parts) ∙ length-append (of_root part) (flat_map of_root parts) in
    let further : length (flat_map of_other (part ∷ parts)) ≡ length (of_other part) + length (flat_map of_other parts) =
    ap length (flat_map-cons of_other part parts) ∙ length-append (of_other part) (flat_map of_other parts) in
    omega arith

pub few_in_order : (parts : List Part) (names : List (List ℕ)) → length parts ≤ 64 → names ≡ in_order parts → length names ≤ 192
few_in_order parts names few is =
    let all : length (flat_map of_root parts) + length (flat_map of_other parts) ≤ length parts + length parts + length parts = few-all parts in
    let long : length names ≡ length (flat_map of_root parts) + length (flat_map of_other parts) =
    ap length is ∙ length-append (flat_map of_root parts) (flat_map of_other parts) in
    omega arith
