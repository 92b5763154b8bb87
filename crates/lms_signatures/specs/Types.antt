-- The types that are built and their numbers (RFC 8554, tables 1 and 2), and numbers as bytes (3.1).
use Rattle.std.specs.Prelude.{ℕ, ◌==◌, if◌then◌else◌, Option, Some, None, List, [], ◌∷◌}
use Rattle.byteorder.specs.Endian.{big_bytes}
use Rattle.lms_signatures.specs.declared.types.OtsType.{OtsType}
use Rattle.lms_signatures.specs.declared.types.OtsType.TheVariants.{W1, W2, W4, W8}
use Rattle.lms_signatures.specs.declared.types.LmsType.{LmsType}
use Rattle.lms_signatures.specs.declared.types.LmsType.TheVariants.{H5, H10, H15}

-- u8str, u16str and u32str (3.1): a number as bytes, the highest first
abbrev pub u8str : ℕ → List ℕ
u8str n = n ∷ []

unfoldable pub u16str : ℕ → List ℕ
u16str n = big_bytes 2 n

unfoldable pub u32str : ℕ → List ℕ
u32str n = big_bytes 4 n

-- the code of an LM-OTS type (table 1)
abbrev pub ots_code : OtsType → ℕ
ots_code W1 = 1
ots_code W2 = 2
ots_code W4 = 3
ots_code W8 = 4

-- w, the width of a coefficient in bits
abbrev pub width : OtsType → ℕ
width W1 = 1
width W2 = 2
width W4 = 4
width W8 = 8

-- p, the number of chains
abbrev pub chain_count : OtsType → ℕ
chain_count W1 = 265
chain_count W2 = 133
chain_count W4 = 67
chain_count W8 = 34

-- ls, the left shift of the checksum
abbrev pub checksum_shift : OtsType → ℕ
checksum_shift W1 = 7
checksum_shift W2 = 6
checksum_shift W4 = 4
checksum_shift W8 = 0

-- the code of an LMS type (table 2)
abbrev pub lms_code : LmsType → ℕ
lms_code H5 = 5
lms_code H10 = 6
lms_code H15 = 7

-- h, the height of the tree
abbrev pub height : LmsType → ℕ
height H5 = 5
height H10 = 10
height H15 = 15

-- the type of a code
abbrev pub ots_of : ℕ → Option OtsType
ots_of code =
    if code == 1 then Some W1 else if code == 2 then Some W2
    else if code == 3 then Some W4 else if code == 4 then Some W8 else None

abbrev pub lms_of : ℕ → Option LmsType
lms_of code =
    if code == 5 then Some H5 else if code == 6 then Some H10 else if code == 7 then Some H15 else None
