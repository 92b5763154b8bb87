-- The words of a call within the line of an entry.
use Rattle.std.proofs.Common.{◌≡◌, ℕ, ◌+◌, ◌-◌, List, ◌++◌, length, take, refl, ap, ◌∙◌, arith}
use Rattle.std.proofs.lemmas.List.{length-append, take_at, drop_at}
use Rattle.std.proofs.lemmas.Fmt.{decimal_digit}
use Rattle.std.specs.List.{slice_range}
use Rattle.std.specs.Prelude.{codes, decimal}
use Rattle.report_lines.specs.Text.{◌&◌, ended}

-- what stands between a prefix and an end
pub between : (front words end : List ℕ)
    → slice_range (front ++ (words ++ end)) (length front) (length (front ++ (words ++ end)) - length end) ≡ words
between front words end =
    let many : length (front ++ (words ++ end)) ≡ length front + (length words + length end) =
    length-append front (words ++ end) ∙ ap (λ (n : ℕ). length front + n) (length-append words end) in
    ap (take ((length (front ++ (words ++ end)) - length end) - length front)) (drop_at front (words ++ end) (length front) refl)
    ∙ take_at words end ((length (front ++ (words ++ end)) - length end) - length front) (omega (arith, many))

-- the words of an op, in the line of an entry of number 0 by caller 0 that holds nothing
pub surrounded : (words : List ℕ)
    → decimal 0 & decimal 0 & words & ended (codes "ok held" & decimal 0) ≡ codes "0 0 " ++ (words ++ codes " ok held 0\n")
surrounded words =
    let digit : decimal 0 ≡ codes "0" = decimal_digit 0 (omega arith) in
    ap (λ (d : List ℕ). d & d & words & ended (codes "ok held" & d)) digit
