-- What a map of rows finds and inserts is what its list of rows does.
use Rattle.std.proofs.Common.{◌≡◌, ℕ, List, [], ◌∷◌, Bool, true, false, cond, Some, None, refl, sym, ◌∙◌, ap}
use Rattle.std.specs.Prelude.{unwrap_or}
use Rattle.std.specs.Map.{lookup}
use Rattle.std.specs.Str.{bytes_eq}
use Rattle.std.proofs.lemmas.Slice.Eq.{bytes_eq-Decides}
use Rattle.indexmap.specs.IndexMap.{insert_entry}
use Rattle.network.specs.Watching.{watched_row, recorded, row_with}
use Rattle.network.specs.Rows.{Told, told_in, rows_of}
use Rattle.network.specs.declared.rows.Watched.{Watched}

same_name : (a b : List ℕ) → bytes_eq a b ≡ true → a ≡ b
same_name a b e = (bytes_eq-Decides a b).0 e

is_self : (a : List ℕ) → bytes_eq a a ≡ true
is_self a = (bytes_eq-Decides a a).1 refl

flip_bytes : (a b : List ℕ) → bytes_eq a b ≡ bytes_eq b a
flip_bytes a b = go (bytes_eq a b) refl (bytes_eq b a) refl
  where
    go : (x : Bool) → bytes_eq a b ≡ x → (y : Bool) → bytes_eq b a ≡ y → x ≡ y
    go true p true q = refl
    go false p false q = refl
    go true p false q = let other : bytes_eq b a ≡ true = ap (λ z. bytes_eq b z) (same_name a b p) ∙ is_self b in absurd cc
    go false p true q = let other : bytes_eq a b ≡ true = ap (λ z. bytes_eq a z) (same_name b a q) ∙ is_self a in absurd cc

pub found_row : (channel : List ℕ) (entries : List (List ℕ × Told)) → row_with channel (told_in entries channel) ≡ watched_row (rows_of entries) channel
found_row channel [] = refl
found_row channel (e ∷ es) = go (bytes_eq channel e.0) refl (found_row channel es)
  where
    go : (b : Bool) → bytes_eq channel e.0 ≡ b → row_with channel (told_in es channel) ≡ watched_row (rows_of es) channel
        → row_with channel (unwrap_or (cond b (Some e.1) (lookup (bytes_eq channel) es)) (0, None)) ≡ cond (bytes_eq e.0 channel) (row_with e.0 e.1) (watched_row (rows_of es) channel)
    go true same later =
        ap (λ n. row_with n e.1) (same_name channel e.0 same)
        ∙ sym (ap (λ b. cond b (row_with e.0 e.1) (watched_row (rows_of es) channel)) (flip_bytes e.0 channel ∙ same))
    go false other later = later ∙ sym (ap (λ b. cond b (row_with e.0 e.1) (watched_row (rows_of es) channel)) (flip_bytes e.0 channel ∙ other))

pub inserted_row : (channel : List ℕ) (told : Told) (entries : List (List ℕ × Told)) → rows_of (insert_entry bytes_eq entries channel told) ≡ recorded (row_with channel told) (rows_of entries)
inserted_row channel told [] = refl
inserted_row channel told (e ∷ es) = go (bytes_eq channel e.0) refl (inserted_row channel told es)
  where
    go : (b : Bool) → bytes_eq channel e.0 ≡ b → rows_of (insert_entry bytes_eq es channel told) ≡ recorded (row_with channel told) (rows_of es)
        → rows_of (cond b ((e.0, told) ∷ es) (e ∷ insert_entry bytes_eq es channel told))
        ≡ cond (bytes_eq e.0 channel) (row_with channel told ∷ rows_of es) (row_with e.0 e.1 ∷ recorded (row_with channel told) (rows_of es))
    go true same later =
        ap (λ n. row_with n told ∷ rows_of es) (sym (same_name channel e.0 same))
        ∙ sym (ap (λ b. cond b (row_with channel told ∷ rows_of es) (row_with e.0 e.1 ∷ recorded (row_with channel told) (rows_of es))) (flip_bytes e.0 channel ∙ same))
    go false other later =
        ap (λ (rows : List Watched). row_with e.0 e.1 ∷ rows) later
        ∙ sym (ap (λ b. cond b (row_with channel told ∷ rows_of es) (row_with e.0 e.1 ∷ recorded (row_with channel told) (rows_of es))) (flip_bytes e.0 channel ∙ other))
