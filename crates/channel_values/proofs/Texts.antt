-- A text in which one ASCII character stands in place of another is a text.
use Rattle.std.proofs.Common.{◌≡◌, ℕ, suc, ◌+◌, ◌<◌, List, [], ◌∷◌, ◌++◌, length, take, drop, set, get_or, sym, ap, subst, ◌∙◌, arith}
use Rattle.std.specs.Str.{IsUtf8}
use Rattle.std.proofs.lemmas.List.{set_split}
use Rattle.std.proofs.lemmas.Str.{IsUtf8-append, IsUtf8-take, IsUtf8-drop, IsUtf8-from_ascii, IsCharBoundary-before_ascii, IsCharBoundary-after_ascii}
use Rattle.std.proofs.lemmas.Str.Ascii.{IsAscii-nil, IsAscii-cons}

pub IsUtf8-set : (bs : List ℕ) (i b : ℕ) → IsUtf8 bs → i < length bs → get_or bs i 0 < 128 → b < 128 → IsUtf8 (set bs i b)
IsUtf8-set bs i b text inside was is =
    let before : IsUtf8 (take i bs) = IsUtf8-take bs i text (IsCharBoundary-before_ascii bs i inside was) in
    let after : IsUtf8 (drop (i + 1) bs) = IsUtf8-drop bs (i + 1) text (IsCharBoundary-after_ascii bs i text inside was) in
    let one : IsUtf8 (b ∷ []) = IsUtf8-from_ascii (b ∷ []) (IsAscii-cons b [] is IsAscii-nil) in
    let joined : IsUtf8 (take i bs ++ ((b ∷ []) ++ drop (i + 1) bs)) = IsUtf8-append (take i bs) ((b ∷ []) ++ drop (i + 1) bs) before (IsUtf8-append (b ∷ []) (drop (i + 1) bs) one after) in
    let place : i + 1 ≡ suc i = omega arith in
    let split : set bs i b ≡ take i bs ++ (b ∷ drop (i + 1) bs) = set_split bs i b inside ∙ ap (λ (n : ℕ). take i bs ++ (b ∷ drop n bs)) (sym place) in
    subst IsUtf8 (sym split) joined
