-- The lines of a batch.
use Rattle.std.proofs.Common.{◌≡◌, ◌==◌, ◌<◌, ◌+◌, ℕ, zero, suc, Bool, true, false, ◌&&◌, cond, List, [], ◌∷◌, ◌++◌, length, take, drop, get_or, refl, sym, ◌∙◌, ap, arith}
use Rattle.std.proofs.lemmas.List.{append-nil, append_assoc}
use Rattle.lasting_lines.specs.Machines.{Ways}
use Rattle.lasting_lines.specs.Lines.{IsLine}
use Rattle.lasting_lines.specs.Batches.{IsPart, parts_from, parts, takes_all, next_all, owes_all, Holds}
use Rattle.lasting_lines.specs.declared.played.Played.{Played}

-- no byte separates lines
abbrev pub IsWhole : List ℕ → Type 0
IsWhole [] = Unit {0}
IsWhole (b ∷ rest) = ((b == 30) ≡ false) × IsWhole rest

pub whole-push : (prefix : List ℕ) (b : ℕ) → IsWhole prefix → (b == 30) ≡ false → IsWhole (prefix ++ b ∷ [])
whole-push [] b is e = (e, tt)
whole-push (x ∷ prefix) b is e = (is.0, whole-push prefix b is.1 e)

pub part-push : (prefix : List ℕ) (b : ℕ) → IsPart prefix → (b == 10) ≡ false → (b == 30) ≡ false → IsPart (prefix ++ b ∷ [])
part-push [] b is e f = (e, f, tt)
part-push (x ∷ prefix) b is e f = (is.0, is.1, part-push prefix b is.2 e f)

pub part-line : (line : List ℕ) → IsPart line → IsLine line
part-line [] is = tt
part-line (b ∷ line) is = (is.0, part-line line is.2)

pub part-whole : (line : List ℕ) → IsPart line → IsWhole line
part-whole [] is = tt
part-whole (b ∷ line) is = (is.1, part-whole line is.2)

-- the bytes before a place, the byte there, and those after it
pub split-at : (bytes : List ℕ) (i b : ℕ) → i < length bytes → get_or bytes i 0 ≡ b → bytes ≡ take i bytes ++ b ∷ drop (i + 1) bytes
split-at [] i b inside is = absurd (omega arith)
split-at (x ∷ bytes) zero b inside is = ap (λ (y : ℕ). y ∷ bytes) is
split-at (x ∷ bytes) (suc i) b inside is =
    let same : suc (i + 1) ≡ suc i + 1 = omega arith in
    ap (λ (l : List ℕ). x ∷ l) (split-at bytes i b (omega arith) is)
    ∙ ap (λ (k : ℕ). x ∷ (take i bytes ++ b ∷ drop k (x ∷ bytes))) same

-- ---- one line, the first line, and one line more

pub parts-one : (prefix line : List ℕ) → IsWhole line → parts_from prefix line ≡ (prefix ++ line) ∷ []
parts-one prefix [] is = ap (λ (l : List ℕ). l ∷ []) (sym (append-nil prefix))
parts-one prefix (b ∷ line) is =
    ap (λ (t : Bool). cond t (prefix ∷ parts_from [] line) (parts_from (prefix ++ b ∷ []) line)) is.0
    ∙ parts-one (prefix ++ b ∷ []) line is.1
    ∙ ap (λ (l : List ℕ). l ∷ []) (append_assoc prefix (b ∷ []) line)

pub parts-first : (prefix line rest : List ℕ) → IsWhole line → parts_from prefix (line ++ 30 ∷ rest) ≡ (prefix ++ line) ∷ parts rest
parts-first prefix [] rest is = ap (λ (l : List ℕ). l ∷ parts rest) (sym (append-nil prefix))
parts-first prefix (b ∷ line) rest is =
    ap (λ (t : Bool). cond t (prefix ∷ parts_from [] (line ++ 30 ∷ rest)) (parts_from (prefix ++ b ∷ []) (line ++ 30 ∷ rest))) is.0
    ∙ parts-first (prefix ++ b ∷ []) line rest is.1
    ∙ ap (λ (l : List ℕ). l ∷ parts rest) (append_assoc prefix (b ∷ []) line)

pub parts-more : (prefix batch line : List ℕ) → IsWhole line → parts_from prefix (batch ++ 30 ∷ line) ≡ parts_from prefix batch ++ line ∷ []
parts-more prefix [] line is = ap (λ (l : List (List ℕ)). prefix ∷ l) (parts-one [] line is)
parts-more prefix (b ∷ batch) line is = go (b == 30) (parts-more [] batch line is) (parts-more (prefix ++ b ∷ []) batch line is)
  where
    go : (t : Bool) → parts_from [] (batch ++ 30 ∷ line) ≡ parts_from [] batch ++ line ∷ []
        → parts_from (prefix ++ b ∷ []) (batch ++ 30 ∷ line) ≡ parts_from (prefix ++ b ∷ []) batch ++ line ∷ []
        → cond t (prefix ∷ parts_from [] (batch ++ 30 ∷ line)) (parts_from (prefix ++ b ∷ []) (batch ++ 30 ∷ line))
        ≡ cond t (prefix ∷ parts_from [] batch) (parts_from (prefix ++ b ∷ []) batch) ++ line ∷ []
    go true ends goes = ap (λ (l : List (List ℕ)). prefix ∷ l) ends
    go false ends goes = goes

pub line-more : (batch line : List ℕ) → IsLine batch → IsPart line → IsLine (batch ++ 30 ∷ line)
line-more [] line is more = (refl, part-line line more)
line-more (b ∷ batch) line is more = (is.0, line-more batch line is.1 more)

-- ---- a machine

module _ {M : Type 0} (ways : Ways M) where
  takes-push : (m : M) (lines : List (List ℕ)) (line : List ℕ) → takes_all ways m lines ≡ true → ways.takes (next_all ways m lines) line ≡ true
      → takes_all ways m (lines ++ line ∷ []) ≡ true
  takes-push m [] line all one = ap (λ (t : Bool). t && true) one
  takes-push m (x ∷ lines) line all one = go (ways.takes m x) all (takes-push (ways.next m x) lines line)
    where
      go : (t : Bool) → (t && takes_all ways (ways.next m x) lines) ≡ true
          → (takes_all ways (ways.next m x) lines ≡ true → ways.takes (next_all ways (ways.next m x) lines) line ≡ true → takes_all ways (ways.next m x) (lines ++ line ∷ []) ≡ true)
          → (t && takes_all ways (ways.next m x) (lines ++ line ∷ [])) ≡ true
      go true are more = more are one
      go false are more = are

  next-push : (m : M) (lines : List (List ℕ)) (line : List ℕ) → next_all ways m (lines ++ line ∷ []) ≡ ways.next (next_all ways m lines) line
  next-push m [] line = refl
  next-push m (x ∷ lines) line = next-push (ways.next m x) lines line

  owes-push : (m : M) (lines : List (List ℕ)) (line : List ℕ) → owes_all ways m (lines ++ line ∷ []) ≡ owes_all ways m lines ++ ways.owes (next_all ways m lines) line
  owes-push m [] line = append-nil (ways.owes m line)
  owes-push m (x ∷ lines) line =
      ap (λ (l : List ℕ). ways.owes m x ++ l) (owes-push (ways.next m x) lines line)
      ∙ sym (append_assoc (ways.owes m x) (owes_all ways (ways.next m x) lines) (ways.owes (next_all ways (ways.next m x) lines) line))

  pub holds-one : (p now : Played M) (line batch answer : List ℕ) → IsPart line → ways.takes p.machine line ≡ true → batch ≡ line
      → now.count ≡ p.count → now.mark ≡ p.mark → now.machine ≡ ways.next p.machine line → answer ≡ ways.owes p.machine line → Holds ways p now batch answer
  holds-one p now line batch answer is takes same count mark next owes =
      let one : parts batch ≡ line ∷ [] = ap parts same ∙ parts-one [] line (part-whole line is) in
      record {
        count = count;
        mark = mark;
        takes = ap (takes_all ways p.machine) one ∙ ap (λ (t : Bool). t && true) takes;
        next = next ∙ ap (next_all ways p.machine) (sym one);
        owes = owes ∙ sym (append-nil (ways.owes p.machine line)) ∙ ap (owes_all ways p.machine) (sym one);
      }

  pub holds-more : (p now now' : Played M) (batch answer line batch' answer' : List ℕ) → IsPart line → ways.takes now.machine line ≡ true
      → batch' ≡ batch ++ 30 ∷ line → answer' ≡ answer ++ ways.owes now.machine line
      → now'.count ≡ now.count → now'.mark ≡ now.mark → now'.machine ≡ ways.next now.machine line
      → Holds ways p now batch answer → Holds ways p now' batch' answer'
  holds-more p now now' batch answer line batch' answer' is takes joined answered count mark next h =
      let more : parts batch' ≡ parts batch ++ line ∷ [] = ap parts joined ∙ parts-more [] batch line (part-whole line is) in
      record {
        count = count ∙ h.count;
        mark = mark ∙ h.mark;
        takes =
            ap (takes_all ways p.machine) more
            ∙ takes-push p.machine (parts batch) line h.takes (ap (λ (m : M). ways.takes m line) (sym h.next) ∙ takes);
        next =
            next ∙ ap (λ (m : M). ways.next m line) h.next ∙ sym (next-push p.machine (parts batch) line)
            ∙ ap (next_all ways p.machine) (sym more);
        owes =
            answered ∙ ap (λ (l : List ℕ). l ++ ways.owes now.machine line) h.owes
            ∙ ap (λ (m : M). owes_all ways p.machine (parts batch) ++ ways.owes m line) h.next
            ∙ sym (owes-push p.machine (parts batch) line) ∙ ap (owes_all ways p.machine) (sym more);
      }
