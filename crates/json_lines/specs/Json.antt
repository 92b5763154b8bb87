-- A text of lines as JSON (RFC 8259): each line as one object, whose members are its words by their names.
use Rattle.std.specs.Prelude.{◌==◌, ◌/◌, ◌%◌, ◌+◌, ◌&&◌, ℕ, List, [], ◌∷◌, ◌++◌, Bool, false, zip, drop, length, flat_map, codes, if◌then◌else◌, nat_le, nat_lt}
use Rattle.std.specs.List.{slice_split}
use Rattle.std.specs.Str.{bytes_eq}

-- ---- strings

-- a digit of base 16
abbrev pub hex_digit : ℕ → ℕ
hex_digit n = if nat_lt n 10 then 48 + n else 87 + n

-- a byte within a string (section 7): a quote, a backslash and a control character are escaped
abbrev pub escape : ℕ → List ℕ
escape byte =
    if byte == 34 then 92 ∷ 34 ∷ []
    else (if byte == 92 then 92 ∷ 92 ∷ []
    else (if nat_lt byte 32 then 92 ∷ 117 ∷ 48 ∷ 48 ∷ hex_digit (byte / 16) ∷ hex_digit (byte % 16) ∷ []
    else byte ∷ []))

abbrev pub quoted : List ℕ → List ℕ
quoted bytes = 34 ∷ flat_map escape bytes ++ 34 ∷ []

-- ---- words and their names

-- what stands between spaces
abbrev pub words_of : List ℕ → List (List ℕ)
words_of line = slice_split (λ b. b == 32) line

-- the names of the words of an entry, by its call
abbrev pub names_of_call : List ℕ → List ℕ
names_of_call call =
    if bytes_eq call (codes "deposit") then codes "number by call channel asset expected amount"
    else (if bytes_eq call (codes "transfer") then codes "number by call channel asset index"
    else (if bytes_eq call (codes "claim") then codes "number by call guarantor target asset position"
    else (if bytes_eq call (codes "time") then codes "number by call to"
    else codes "number by call channel turn")))

-- the names of the words of a verdict and of other single lines, by the first
abbrev pub names_of_verdict : List ℕ → List ℕ
names_of_verdict first =
    if bytes_eq first (codes "sound") then codes "line - entries"
    else (if bytes_eq first (codes "bytes") then codes "line fault place"
    else (if bytes_eq first (codes "reply") then codes "line entry"
    else (if bytes_eq first (codes "script") then codes "line step rule name"
    else (if bytes_eq first (codes "read") then codes "line why"
    else (if bytes_eq first (codes "too") then codes "line why"
    else codes "line place")))))

-- the names of the words of a line after the entries, by the first
abbrev pub names_of_end : List ℕ → List ℕ
names_of_end first =
    if bytes_eq first (codes "asset") then codes "line asset - deposited - held - paid"
    else (if bytes_eq first (codes "held") then codes "line channel asset amount"
    else (if bytes_eq first (codes "paid") then codes "line person asset amount"
    else (if bytes_eq first (codes "premises") then codes "line person - unforged - distinct - intime"
    else (if bytes_eq first (codes "person") then codes "line person asset - paid - share"
    else (if bytes_eq first (codes "exit") then codes "line person asset - share"
    else names_of_verdict first)))))

-- the names of the words of a line that isn't an entry, by the first and by how many words there are
abbrev pub names_of_line : List ℕ → ℕ → List ℕ
names_of_line first count =
    if bytes_eq first (codes "command") then codes "line step person"
    else (if bytes_eq first (codes "load") then codes "line - seed - count"
    else (if bytes_eq first (codes "hop") then codes "line ending count"
    else (if bytes_eq first (codes "end")
    then (if count == 5 then codes "line - entries - now" else codes "line - entries - clients - calls")
    else names_of_end first)))

abbrev pub begins_with_digit : List ℕ → Bool
begins_with_digit [] = false
begins_with_digit (byte ∷ bytes) = nat_le 48 byte && nat_le byte 57

-- the third word, or nothing
abbrev pub third : List (List ℕ) → List ℕ
third [] = []
third (first ∷ []) = []
third (first ∷ second ∷ []) = []
third (first ∷ second ∷ word ∷ words) = word

-- the names, with a space between two, and `-` for a word that has none
abbrev pub names_of : List (List ℕ) → List ℕ
names_of [] = []
names_of (first ∷ words) =
    if begins_with_digit first then names_of_call (third (first ∷ words)) else names_of_line first (length (first ∷ words))

-- ---- objects

-- a member after others
abbrev pub member : List ℕ → List ℕ → List ℕ
member name word = 44 ∷ quoted name ++ 58 ∷ quoted word

-- a word by its name
abbrev pub named : List ℕ × List ℕ → List ℕ
named pair = if bytes_eq pair.0 (codes "-") then [] else member pair.0 pair.1

-- the words after those that have a name: a reply
abbrev pub reply_member : List (List ℕ) → List ℕ
reply_member [] = []
reply_member (word ∷ words) =
    codes ",\"reply\":[" ++ quoted word ++ flat_map (λ w. 44 ∷ quoted w) words ++ codes "]"

-- of an entry, which begins with its number
abbrev pub kind_member : List (List ℕ) → List ℕ
kind_member [] = []
kind_member (first ∷ words) = if begins_with_digit first then member (codes "line") (codes "entry") else []

-- the members of words by their names
abbrev pub members : List (List ℕ) → List (List ℕ) → List ℕ
members names words =
    kind_member words ++ flat_map named (zip names words) ++ reply_member (drop (length names) words)

-- how each object begins
unfoldable pub opening : List ℕ
opening = codes "{\"version\":\"1\""

-- their object, in a line of its own
abbrev pub object_of : List (List ℕ) → List (List ℕ) → List ℕ
object_of names words = opening ++ members names words ++ codes "}\n"

-- the object of a line that has anything
abbrev pub object_of_line : List ℕ → List ℕ
object_of_line line = object_of (words_of (names_of (words_of line))) (words_of line)

-- an empty line has no object
abbrev pub object_line : List ℕ → List ℕ
object_line [] = []
object_line (byte ∷ bytes) = object_of_line (byte ∷ bytes)

-- the objects of the lines of a text
abbrev pub json_of : List ℕ → List ℕ
json_of text = flat_map object_line (slice_split (λ b. b == 10) text)
