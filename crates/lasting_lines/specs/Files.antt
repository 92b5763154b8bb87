-- A file that only grows, an output, and what a crash may leave of the file.
use Rattle.std.specs.Prelude.{◌≡◌, ◌⊎◌, ℕ, ◌≤◌, List, [], ◌∷◌, ◌++◌, length}

-- A call. Where an append or a write fails, a part of the bytes may be there.
pub data Op : Type 0 where
  Appended : (bytes : List ℕ) → Op
  Synced : Op
  Written : (text : List ℕ) → Op
  -- a message that answers no line of the file
  Aside : (text : List ℕ) → Op

-- a call that failed was made or not
abbrev pub MayAdd : Op → List Op → List Op → Type 0
MayAdd op ops ops' = (ops' ≡ ops) ⊎ (ops' ≡ op ∷ ops)

-- what is on the disk, and what was appended to it since
pub record Disk : Type 0 where
  pub safe : List ℕ
  pub loose : List ℕ

-- a file that held `start`, after these, the newest first
abbrev pub disk : List ℕ → List Op → Disk
disk start [] = record { safe = start; loose = [] }
disk start (Appended bytes ∷ ops) = record { safe = (disk start ops).safe; loose = (disk start ops).loose ++ bytes }
disk start (Synced ∷ ops) = record { safe = (disk start ops).safe ++ (disk start ops).loose; loose = [] }
disk start (Written text ∷ ops) = disk start ops
disk start (Aside text ∷ ops) = disk start ops

-- a crash leaves all that is on the disk, and after it at most as many bytes as were appended since
abbrev pub MayLeave : Disk → List ℕ → Type 0
MayLeave d c = (junk : List ℕ) × (c ≡ d.safe ++ junk) × (length junk ≤ length d.loose)

-- the text that was written, after `before`
abbrev pub written : List ℕ → List Op → List ℕ
written before [] = before
written before (Appended bytes ∷ ops) = written before ops
written before (Synced ∷ ops) = written before ops
written before (Written text ∷ ops) = written before ops ++ text
written before (Aside text ∷ ops) = written before ops
