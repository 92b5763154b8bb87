-- The tree of LMS (RFC 8554, section 5).
use Rattle.std.specs.Prelude.{ℕ, zero, suc, ◌/◌, ◌%◌, ◌^◌, ◌==◌, if◌then◌else◌, List, ◌++◌}
use Rattle.sha2.specs.Sha256.{sha256}
use Rattle.lms_signatures.specs.Ots.{opening, string_at}

abbrev pub D_LEAF : ℕ
D_LEAF = 0x8282

abbrev pub D_INTR : ℕ
D_INTR = 0x8383

-- T[r] at a leaf, over its LM-OTS public key (5.3)
unfoldable pub leaf : List ℕ → ℕ → List ℕ → List ℕ
leaf id r k = sha256 (opening id r D_LEAF ++ k)

-- T[r] above its two children
unfoldable pub interior : List ℕ → ℕ → List ℕ → List ℕ → List ℕ
interior id r left right = sha256 (opening id r D_INTR ++ left ++ right)

-- T[r / 2] of T[r], which is tmp, and its sibling
abbrev pub parent : List ℕ → ℕ → List ℕ → List ℕ → List ℕ
parent id r tmp sibling =
    if r % 2 == 1 then interior id (r / 2) sibling tmp else interior id (r / 2) tmp sibling

-- what stands i levels above node r, which is tmp, with the siblings of the path (5.4.2, algorithm 6a)
unfoldable pub climb : List ℕ → ℕ → List ℕ → List ℕ → ℕ → List ℕ
climb id r path tmp zero = tmp
climb id r path tmp (suc i) = parent id (r / 2 ^ i) (climb id r path tmp i) (string_at path i)
