-- What stands in a line between its first words and its line feed.
use Rattle.std.proofs.Common.{◌≡◌, ℕ, ◌+◌, ◌-◌, List, [], ◌∷◌, ◌++◌, length, take, refl, ap, sym, ◌∙◌, arith}
use Rattle.std.proofs.lemmas.List.{append_assoc, length-append, take_at, drop_at}
use Rattle.std.specs.List.{slice_range}
use Rattle.std.specs.Prelude.{codes, decimal}
use Rattle.hex.specs.Hex.{encode_lower}
use Rattle.lasting_ledger.specs.Spelling.{entry_text}

pub split_line : (number by op reply : List ℕ)
    → number ++ 32 ∷ (by ++ 32 ∷ (op ++ 32 ∷ (reply ++ 10 ∷ [])))
    ≡ (number ++ (32 ∷ (by ++ 32 ∷ []))) ++ ((op ++ 32 ∷ reply) ++ 10 ∷ [])
split_line number by op reply =
    let end = (op ++ 32 ∷ reply) ++ 10 ∷ [] in
    let words : op ++ 32 ∷ (reply ++ 10 ∷ []) ≡ end = sym (append_assoc op (32 ∷ reply) (10 ∷ [])) in
    let front : by ++ 32 ∷ end ≡ (by ++ 32 ∷ []) ++ end = sym (append_assoc by (32 ∷ []) end) in
    ap (λ (l : List ℕ). number ++ 32 ∷ (by ++ 32 ∷ l)) words ∙ ap (λ (l : List ℕ). number ++ 32 ∷ l) front
    ∙ sym (append_assoc number (32 ∷ (by ++ 32 ∷ [])) end)

pub inner : (front words : List ℕ) (last : ℕ)
    → slice_range (front ++ (words ++ last ∷ [])) (length front) (length (front ++ (words ++ last ∷ [])) - 1) ≡ words
inner front words last =
    let many : length (front ++ (words ++ last ∷ [])) ≡ length front + (length words + 1) =
    length-append front (words ++ last ∷ []) ∙ ap (λ (n : ℕ). length front + n) (length-append words (last ∷ [])) in
    ap (take ((length (front ++ (words ++ last ∷ [])) - 1) - length front)) (drop_at front (words ++ last ∷ []) (length front) refl)
    ∙ take_at words (last ∷ []) ((length (front ++ (words ++ last ∷ [])) - 1) - length front) (omega (arith, many))

-- a prefix moves out of an append
more : (a rest end all : List ℕ) → rest ++ end ≡ all → (a ++ rest) ++ end ≡ a ++ all
more a rest end all e = append_assoc a rest end ∙ ap (λ (l : List ℕ). a ++ l) e

-- nine parts, a text and an end, as one list of parts
pub joined : (a number b by c op d reply e words end : List ℕ)
    → ((a ++ (number ++ (b ++ (by ++ (c ++ (op ++ (d ++ (reply ++ e)))))))) ++ words) ++ end
    ≡ a ++ (number ++ (b ++ (by ++ (c ++ (op ++ (d ++ (reply ++ (e ++ (words ++ end)))))))))
joined a number b by c op d reply e words end =
    let t8 = reply ++ e in
    let t7 = d ++ t8 in
    let t6 = op ++ t7 in
    let t5 = c ++ t6 in
    let t4 = by ++ t5 in
    let t3 = b ++ t4 in
    let t2 = number ++ t3 in
    let more_end = words ++ end in
    let all8 = reply ++ (e ++ more_end) in
    let all7 = d ++ all8 in
    let all6 = op ++ all7 in
    let all5 = c ++ all6 in
    let all4 = by ++ all5 in
    let all3 = b ++ all4 in
    let all2 = number ++ all3 in
    append_assoc (a ++ t2) words end
    ∙ more a t2 more_end all2 (more number t3 more_end all3 (more b t4 more_end all4 (more by t5 more_end all5
    (more c t6 more_end all6 (more op t7 more_end all7 (more d t8 more_end all8 (append_assoc reply e more_end)))))))

-- the text of an entry up to its words, with the digits of its op and its reply
abbrev pub head_text : (number by : ℕ) → (op reply : List ℕ) → List ℕ
head_text number by op reply =
    codes "{\"effect\":\"entry\",\"number\":" ++ (decimal number
    ++ (codes ",\"by\":" ++ (decimal by
    ++ (codes ",\"op\":\"" ++ (op
    ++ (codes "\",\"reply\":\"" ++ (reply
    ++ codes "\",\"text\":\"")))))))

pub entry_joined : (number by : ℕ) (op reply words : List ℕ)
    → (head_text number by (encode_lower op) (encode_lower reply) ++ words) ++ codes "\"}\n" ≡ entry_text number by op reply words
unfolding entry_text
entry_joined number by op reply words =
    joined (codes "{\"effect\":\"entry\",\"number\":") (decimal number) (codes ",\"by\":") (decimal by) (codes ",\"op\":\"")
    (encode_lower op) (codes "\",\"reply\":\"") (encode_lower reply) (codes "\",\"text\":\"") words (codes "\"}\n")
