-- The words after `load` ask for what the definition says.
use Rattle.std.proofs.Common.{◌≡◌, ◌∙◌, refl, sym, ap, ap₂, Bool, true, false, not, ◌&&◌, List, [], ◌∷◌, ◌++◌, Option, Some, None, codes, ◌<◌, ◌-◌, arith, length, get_or, take, drop}
use Rattle.std.specs.Prelude.{flat_map, option_and_then, if◌then◌else◌}
use Rattle.std.specs.Str.{bytes_eq}
use Rattle.std.proofs.lemmas.List.{take_all}
use Rattle.std.proofs.lemmas.Slice.Eq.{bytes_eq-Decides}
use Rattle.clap.specs.Kinds.{IsAmong, Kinds, or_else}
use Rattle.clap.specs.Matches.{first_value}
use Rattle.clap.specs.Walk.{Held, Row, Text, Walk, idle, option, has_row, nothing_held, rows_of, settled_rows, used, walked}
use Rattle.clap.specs.Simple.{matches_of}
use Rattle.clap.specs.Faults.{defaults_fault, fault_of, settle_fault, turn_fault, use_fault, values_fault}
use Rattle.clap.specs.declared.builder.value_parser.Reading.TheVariants.{AsWritten}
use Rattle.clap.specs.declared.error.kind.ErrorKind.{ErrorKind}
use Rattle.clap.specs.declared.error.kind.ErrorKind.TheVariants.{ArgumentConflict, InvalidValue}
use Rattle.clap.specs.declared.parser.matches.Found.{Found}
use Rattle.clap.specs.declared.parser.matches.ValueSource.TheVariants.{CommandLine}
use Rattle.clap.proofs.WalkLemmas.{first_value-rows}
use Rattle.command_words.specs.Command.{load_app}
use Rattle.command_words.specs.Words.{asked, is_end, load_in, load_of, number_of, parts_of}
use Rattle.command_words.specs.declared.asking.Asked.{Asked}
use Rattle.command_words.proofs.Turns.{answer, at, at_end, held, load_from, name, parsed-is, past_end, rule, rules, shape, unless, unless-or_else}
use Rattle.command_words.proofs.WordKinds.{IsKind, IsOther, Kind, ends, kind, named, named-turn, named-walk, plain, refused, values}
use Rattle.command_words.proofs.Parts.{flag, more_after_end, named_is_no_end, none_first, none_fourth, none_more, none_second, none_third, none_twice, number_of-hyphen}

-- what clap holds of an option with this value
abbrev row : Bool → Text → Row
row x v = record { id = name x; values = v ∷ []; count = None; source = Some CommandLine; reading = AsWritten }

abbrev Pending : Type 0
Pending = Option (Text × List Text)

-- once what is pending is settled, without a fault, clap holds these rows
abbrev Settles : List Row → Pending → List Row → Type 0
Settles rows pending now = (settle_fault rules false (held rows pending) ≡ []) × (settled_rows rules pending rows ≡ now)

-- an option waits for its value
abbrev waiting : List Row → Bool → Walk
waiting rows x = at (held rows (Some (name x, []))) (option (name x))

-- ---- one word

abbrev idle_answer : Kind → List Row → Held → List Text → Option Asked
idle_answer ends now h rest = answer (past_end h idle) rest
idle_answer (named x None) now h rest = answer (waiting now x) rest
idle_answer (named x (Some u)) now h rest = unless (use_fault false (rule x) (u ∷ []) now) (answer (at (held (used (rule x) (u ∷ []) now) None) idle) rest)
idle_answer refused now h rest = None
idle_answer plain now h rest = None

idles : (rows : List Row) (pending : Pending) (now : List Row) → Settles rows pending now → (word : Text) (rest : List Text) (k : Kind) → IsKind k word
    → answer (at (held rows pending) idle) (word ∷ rest) ≡ idle_answer k now (held rows pending) rest
unfolding walked
idles rows pending now s word rest ends is =
    let w = at (held rows pending) idle in ap (λ t. unless (turn_fault shape [] w t) (answer (walked rules [] w t) rest)) is
idles rows pending now s word rest (named x None) is =
    ap₂ (λ f w. unless f (answer w rest)) (named-turn x None word is idle (held rows pending)) (named-walk x None word is idle (held rows pending))
    ∙ ap₂ (λ f r. unless (or_else f []) (answer (waiting r x) rest)) s.0 s.1
idles rows pending now s word rest (named x (Some u)) is =
    ap₂ (λ f w. unless f (answer w rest)) (named-turn x (Some u) word is idle (held rows pending)) (named-walk x (Some u) word is idle (held rows pending))
    ∙ ap₂ (λ f r. unless (or_else (or_else f (use_fault false (rule x) (u ∷ []) r)) []) (answer (at (held (used (rule x) (u ∷ []) r) None) idle) rest)) s.0 s.1
    ∙ unless-or_else (use_fault false (rule x) (u ∷ []) now) [] _
idles rows pending now s word rest refused is = ap (λ f. unless f (answer (walked rules [] (at (held rows pending) idle) word) rest)) (is.turn idle rows pending)
idles rows pending now s word rest plain is = ap (λ f. unless f (answer (walked rules [] (at (held rows pending) idle) word) rest)) (is.turn idle rows pending)

abbrev wait_answer : Kind → List Row → Bool → Text → List Text → Option Asked
wait_answer plain rows x word rest = answer (at (held rows (Some (name x, word ∷ []))) idle) rest
wait_answer _ rows x word rest = None

-- with no value the option fails
unvalued : (rows : List Row) (x : Bool) → settle_fault rules false (held rows (Some (name x, []))) ≡ InvalidValue ∷ []
unvalued rows true = refl
unvalued rows false = refl

past_end-waiting : (rows : List Row) (x : Bool) (rest : List Text) → answer (past_end (held rows (Some (name x, []))) (option (name x))) rest ≡ None
past_end-waiting rows true [] = refl
past_end-waiting rows false [] = refl
past_end-waiting rows x (y ∷ ys) = refl

waits : (rows : List Row) (x : Bool) (word : Text) (rest : List Text) (k : Kind) → IsKind k word → answer (waiting rows x) (word ∷ rest) ≡ wait_answer k rows x word rest
unfolding walked
waits rows x word rest ends is =
    let w = waiting rows x in
    ap (λ t. unless (turn_fault shape [] w t) (answer (walked rules [] w t) rest)) is ∙ past_end-waiting rows x rest
waits rows x word rest (named y None) is =
    let w = waiting rows x in
    ap (λ f. unless f (answer (walked rules [] w word) rest)) (named-turn y None word is (option (name x)) w.held ∙ ap (λ f. or_else f []) (unvalued rows x))
waits rows x word rest (named y (Some u)) is =
    let w = waiting rows x in
    ap (λ f. unless f (answer (walked rules [] w word) rest)) (named-turn y (Some u) word is (option (name x)) w.held ∙ ap (λ f. or_else (or_else f (use_fault false (rule y) (u ∷ []) (settled_rows rules w.held.pending w.held.rows))) []) (unvalued rows x))
waits rows x word rest refused is = ap (λ f. unless f (answer (walked rules [] (waiting rows x) word) rest)) (is.turn (option (name x)) rows (Some (name x, [])))
waits rows true word rest plain is = ap₂ (λ f w. unless f (answer w rest)) (is.turn (option (name true)) rows (Some (name true, []))) (is.walk (option (name true)) rows (Some (name true, [])))
waits rows false word rest plain is = ap₂ (λ f w. unless f (answer w rest)) (is.turn (option (name false)) rows (Some (name false, []))) (is.walk (option (name false)) rows (Some (name false, [])))

-- ---- an option that was given already

repeated : (x : Bool) (u : Text) (rows : List Row) → has_row (name x) rows ≡ true → use_fault false (rule x) (u ∷ []) rows ≡ ArgumentConflict ∷ []
repeated true u rows has = ap (λ b. or_else (if b && true then ArgumentConflict ∷ [] else []) (values_fault (rule true) (u ∷ []))) has
repeated false u rows has = ap (λ b. or_else (if b && true then ArgumentConflict ∷ [] else []) (values_fault (rule false) (u ∷ []))) has

past_end-repeated : (x : Bool) (u : Text) (rows : List Row) → settle_fault rules false (held rows (Some (name x, u ∷ []))) ≡ ArgumentConflict ∷ [] → (rest : List Text)
    → answer (past_end (held rows (Some (name x, u ∷ []))) idle) rest ≡ None
past_end-repeated x u rows e [] = ap (λ f. unless f (at_end (settled_rows rules (Some (name x, u ∷ [])) rows))) e
past_end-repeated x u rows e (y ∷ ys) = refl

settles_not : (x : Bool) (u : Text) (rows : List Row) → has_row (name x) rows ≡ true → settle_fault rules false (held rows (Some (name x, u ∷ []))) ≡ ArgumentConflict ∷ []
settles_not true u rows has = repeated true u rows has
settles_not false u rows has = repeated false u rows has

valued_twice : (x : Bool) (u : Text) (rows : List Row) → has_row (name x) rows ≡ true → (words : List Text) → answer (at (held rows (Some (name x, u ∷ []))) idle) words ≡ None
unfolding walked
valued_twice x u rows has [] = ap (λ f. unless f (at_end (settled_rows rules (Some (name x, u ∷ [])) rows))) (settles_not x u rows has)
valued_twice x u rows has (word ∷ rest) = go (kind word).0 (kind word).1
  where
    h : Held
    h = held rows (Some (name x, u ∷ []))

    fails : settle_fault rules false h ≡ ArgumentConflict ∷ []
    fails = settles_not x u rows has

    go : (k : Kind) → IsKind k word → answer (at h idle) (word ∷ rest) ≡ None
    go ends is = ap (λ t. unless (turn_fault shape [] (at h idle) t) (answer (walked rules [] (at h idle) t) rest)) is ∙ past_end-repeated x u rows fails rest
    go (named y None) is =
        ap (λ f. unless f (answer (walked rules [] (at h idle) word) rest)) (named-turn y None word is idle h ∙ ap (λ f. or_else f []) fails)
    go (named y (Some v)) is =
        ap (λ f. unless f (answer (walked rules [] (at h idle) word) rest))
        (named-turn y (Some v) word is idle h ∙ ap (λ f. or_else (or_else f (use_fault false (rule y) (v ∷ []) (settled_rows rules h.pending h.rows))) []) fails)
    go refused is = ap (λ f. unless f (answer (walked rules [] (at h idle) word) rest)) (is.turn idle rows (Some (name x, u ∷ [])))
    go plain is = ap (λ f. unless f (answer (walked rules [] (at h idle) word) rest)) (is.turn idle rows (Some (name x, u ∷ [])))

named_twice : (x : Bool) (rows : List Row) → has_row (name x) rows ≡ true → (words : List Text) → answer (waiting rows x) words ≡ None
named_twice x rows has [] = ap (λ f. unless f (at_end (settled_rows rules (Some (name x, [])) rows))) (unvalued rows x)
named_twice x rows has (word ∷ rest) = waits rows x word rest (kind word).0 (kind word).1 ∙ go (kind word).0
  where
    go : (k : Kind) → wait_answer k rows x word rest ≡ None
    go ends = refl
    go (named y v) = refl
    go refused = refl
    go plain = valued_twice x word rows has rest

-- ---- both options

abbrev parts : List Text → List Text
parts = flat_map parts_of

given : (b x : Bool) (v w : Text) → has_row (name x) (row b v ∷ row (not b) w ∷ []) ≡ true
given true true v w = refl
given true false v w = refl
given false true v w = refl
given false false v w = refl

both_end : (b : Bool) (v w : Text) → at_end (row b v ∷ row (not b) w ∷ []) ≡ load_in (flag b ∷ v ∷ flag (not b) ∷ w ∷ [])
unfolding defaults_fault
both_end true v w = refl
both_end false v w = refl

both_past_end : (b : Bool) (v w : Text) → at_end (row b v ∷ row (not b) w ∷ []) ≡ load_in (flag b ∷ v ∷ flag (not b) ∷ w ∷ codes "--" ∷ [])
unfolding defaults_fault
both_past_end true v w = refl
both_past_end false v w = refl

module _ (b : Bool) (v w : Text) (rows : List Row) (pending : Pending) (s : Settles rows pending (row b v ∷ row (not b) w ∷ [])) where
  abbrev now : List Row
  now = row b v ∷ row (not b) w ∷ []

  after_both_end : (rest : List Text) → answer (past_end (held rows pending) idle) rest ≡ load_in (flag b ∷ v ∷ flag (not b) ∷ w ∷ codes "--" ∷ parts rest)
  after_both_end [] = ap₂ (λ f r. unless f (at_end r)) s.0 s.1 ∙ both_past_end b v w
  after_both_end (y ∷ ys) = sym (none_more b v w (codes "--" ∷ (parts_of y ++ parts ys)) (more_after_end y (parts ys)))

  both : (words : List Text) → answer (at (held rows pending) idle) words ≡ load_in (flag b ∷ v ∷ flag (not b) ∷ w ∷ parts words)
  both [] = ap₂ (λ f r. unless f (at_end r)) s.0 s.1 ∙ both_end b v w
  both (word ∷ rest) = idles rows pending now s word rest (kind word).0 (kind word).1 ∙ go (kind word).0 (kind word).1
    where
      more : (first : Text) (others : List Text) → parts_of word ≡ first ∷ others → is_end (first ∷ (others ++ parts rest)) ≡ false
          → None ≡ load_in (flag b ∷ v ∷ flag (not b) ∷ w ∷ (parts_of word ++ parts rest))
      more first others is e = sym (none_more b v w (parts_of word ++ parts rest) (ap (λ l. is_end (l ++ parts rest)) is ∙ e))

      go : (k : Kind) → IsKind k word → idle_answer k now (held rows pending) rest ≡ load_in (flag b ∷ v ∷ flag (not b) ∷ w ∷ (parts_of word ++ parts rest))
      go ends is = after_both_end rest ∙ ap (λ t. load_in (flag b ∷ v ∷ flag (not b) ∷ w ∷ (parts_of t ++ parts rest))) (sym is)
      go (named x None) is = named_twice x now (given b x v w) rest ∙ more (flag x) [] is.parts (named_is_no_end x None (parts rest))
      go (named x (Some u)) is =
          ap (λ f. unless f (answer (at (held (used (rule x) (u ∷ []) now) None) idle) rest)) (repeated x u now (given b x v w))
          ∙ more (flag x) (u ∷ []) is.parts (named_is_no_end x (Some u) (parts rest))
      go refused is = more (45 ∷ is.first) is.others is.other.parts (is.other.no_end (parts rest))
      go plain is = more word [] is.other.parts (is.other.no_end (parts rest))

-- ---- one option, and the other without its value

second_end : (b : Bool) (v : Text) → answer (waiting (row b v ∷ []) (not b)) [] ≡ None
second_end true v = refl
second_end false v = refl

second_settles : (b : Bool) (v w : Text) → Settles (row b v ∷ []) (Some (name (not b), w ∷ [])) (row b v ∷ row (not b) w ∷ [])
second_settles true v w = (refl, refl)
second_settles false v w = (refl, refl)

second : (b : Bool) (v : Text) (words : List Text) → answer (waiting (row b v ∷ []) (not b)) words ≡ load_in (flag b ∷ v ∷ flag (not b) ∷ parts words)
second b v [] = second_end b v
second b v (word ∷ rest) = waits (row b v ∷ []) (not b) word rest (kind word).0 (kind word).1 ∙ go (kind word).0 (kind word).1
  where
    from : List Text → Option Asked
    from l = load_in (flag b ∷ v ∷ flag (not b) ∷ l)

    no_value : (first : Text) (others : List Text) → parts_of word ≡ (45 ∷ first) ∷ others → None ≡ from (parts_of word ++ parts rest)
    no_value first others is =
        sym (ap (λ l. from (l ++ parts rest)) is ∙ none_fourth (flag b) v (flag (not b)) (45 ∷ first) (others ++ parts rest) (number_of-hyphen first))

    go : (k : Kind) → IsKind k word → wait_answer k (row b v ∷ []) (not b) word rest ≡ from (parts_of word ++ parts rest)
    go ends is = no_value (codes "-") [] (ap parts_of is)
    go (named x u) is = no_value (45 ∷ name x) (values u) is.parts
    go refused is = no_value is.first is.others is.other.parts
    go plain is = both b v word (row b v ∷ []) (Some (name (not b), word ∷ [])) (second_settles b v word) rest ∙ ap (λ l. from (l ++ parts rest)) (sym is.other.parts)

-- ---- one option

one_end : (b : Bool) (v : Text) → at_end (row b v ∷ []) ≡ None
unfolding defaults_fault
one_end true v = refl
one_end false v = refl

one_named : (b x : Bool) (v : Text) (rest : List Text) → answer (waiting (row b v ∷ []) x) rest ≡ load_in (flag b ∷ v ∷ flag x ∷ parts rest)
one_named true true v rest = named_twice true (row true v ∷ []) refl rest ∙ sym (none_twice true v (parts rest))
one_named true false v rest = second true v rest
one_named false true v rest = second false v rest
one_named false false v rest = named_twice false (row false v ∷ []) refl rest ∙ sym (none_twice false v (parts rest))

one_valued : (b x : Bool) (v u : Text) (rest : List Text)
    → unless (use_fault false (rule x) (u ∷ []) (row b v ∷ [])) (answer (at (held (used (rule x) (u ∷ []) (row b v ∷ [])) None) idle) rest)
    ≡ load_in (flag b ∷ v ∷ flag x ∷ u ∷ parts rest)
one_valued true true v u rest = sym (none_twice true v (u ∷ parts rest))
one_valued true false v u rest = both true v u (row true v ∷ row false u ∷ []) None (refl, refl) rest
one_valued false true v u rest = both false v u (row false v ∷ row true u ∷ []) None (refl, refl) rest
one_valued false false v u rest = sym (none_twice false v (u ∷ parts rest))

past_end-one : (b : Bool) (v : Text) (rows : List Row) (pending : Pending) → Settles rows pending (row b v ∷ []) → (rest : List Text) → answer (past_end (held rows pending) idle) rest ≡ None
past_end-one b v rows pending s [] = ap₂ (λ f r. unless f (at_end r)) s.0 s.1 ∙ one_end b v
past_end-one b v rows pending s (y ∷ ys) = refl

one : (b : Bool) (v : Text) (rows : List Row) (pending : Pending) → Settles rows pending (row b v ∷ [])
    → (words : List Text) → answer (at (held rows pending) idle) words ≡ load_in (flag b ∷ v ∷ parts words)
one b v rows pending s [] = ap₂ (λ f r. unless f (at_end r)) s.0 s.1 ∙ one_end b v
one b v rows pending s (word ∷ rest) = idles rows pending (row b v ∷ []) s word rest (kind word).0 (kind word).1 ∙ go (kind word).0 (kind word).1
  where
    from : List Text → Option Asked
    from l = load_in (flag b ∷ v ∷ l)

    no_third : (first : Text) (others : List Text) → IsOther word first others → None ≡ from (parts_of word ++ parts rest)
    no_third first others is = sym (ap (λ l. from (l ++ parts rest)) is.parts ∙ none_third b v first (others ++ parts rest) is.no_seed is.no_count)

    go : (k : Kind) → IsKind k word → idle_answer k (row b v ∷ []) (held rows pending) rest ≡ from (parts_of word ++ parts rest)
    go ends is = past_end-one b v rows pending s rest ∙ sym (ap (λ t. from (parts_of t ++ parts rest)) is ∙ none_third b v (codes "--") (parts rest) refl refl)
    go (named x None) is = one_named b x v rest ∙ ap (λ l. from (l ++ parts rest)) (sym is.parts)
    go (named x (Some u)) is = one_valued b x v u rest ∙ ap (λ l. from (l ++ parts rest)) (sym is.parts)
    go refused is = no_third (45 ∷ is.first) is.others is.other
    go plain is = no_third word [] is.other

-- ---- no option, and an option without its value

first_end : (b : Bool) → answer (waiting [] b) [] ≡ None
first_end true = refl
first_end false = refl

first_settles : (b : Bool) (w : Text) → Settles [] (Some (name b, w ∷ [])) (row b w ∷ [])
first_settles true w = (refl, refl)
first_settles false w = (refl, refl)

first_named : (b : Bool) (words : List Text) → answer (waiting [] b) words ≡ load_in (flag b ∷ parts words)
first_named b [] = first_end b
first_named b (word ∷ rest) = waits [] b word rest (kind word).0 (kind word).1 ∙ go (kind word).0 (kind word).1
  where
    from : List Text → Option Asked
    from l = load_in (flag b ∷ l)

    no_value : (first : Text) (others : List Text) → parts_of word ≡ (45 ∷ first) ∷ others → None ≡ from (parts_of word ++ parts rest)
    no_value first others is = sym (ap (λ l. from (l ++ parts rest)) is ∙ none_second (flag b) (45 ∷ first) (others ++ parts rest) (number_of-hyphen first))

    go : (k : Kind) → IsKind k word → wait_answer k [] b word rest ≡ from (parts_of word ++ parts rest)
    go ends is = no_value (codes "-") [] (ap parts_of is)
    go (named x u) is = no_value (45 ∷ name x) (values u) is.parts
    go refused is = no_value is.first is.others is.other.parts
    go plain is = one b word [] (Some (name b, word ∷ [])) (first_settles b word) rest ∙ ap (λ l. from (l ++ parts rest)) (sym is.other.parts)

first_valued : (x : Bool) (u : Text) (rest : List Text)
    → unless (use_fault false (rule x) (u ∷ []) []) (answer (at (held (used (rule x) (u ∷ []) []) None) idle) rest) ≡ load_in (flag x ∷ u ∷ parts rest)
first_valued true u rest = one true u (row true u ∷ []) None (refl, refl) rest
first_valued false u rest = one false u (row false u ∷ []) None (refl, refl) rest

none_end : at_end [] ≡ None
unfolding defaults_fault
none_end = refl

past_end-none : (rest : List Text) → answer (past_end nothing_held idle) rest ≡ None
past_end-none [] = none_end
past_end-none (y ∷ ys) = refl

from_start : (words : List Text) → answer (at nothing_held idle) words ≡ load_in (parts words)
from_start [] = none_end
from_start (word ∷ rest) = idles [] None [] (refl, refl) word rest (kind word).0 (kind word).1 ∙ go (kind word).0 (kind word).1
  where
    no_first : (first : Text) (others : List Text) → IsOther word first others → None ≡ load_in (parts_of word ++ parts rest)
    no_first first others is = sym (ap (λ l. load_in (l ++ parts rest)) is.parts ∙ none_first first (others ++ parts rest) is.no_seed is.no_count)

    go : (k : Kind) → IsKind k word → idle_answer k [] nothing_held rest ≡ load_in (parts_of word ++ parts rest)
    go ends is = past_end-none rest ∙ sym (ap (λ t. load_in (parts_of t ++ parts rest)) is ∙ none_first (codes "--") (parts rest) refl refl)
    go (named x None) is = first_named x rest ∙ ap (λ l. load_in (l ++ parts rest)) (sym is.parts)
    go (named x (Some u)) is = first_valued x u rest ∙ ap (λ l. load_in (l ++ parts rest)) (sym is.parts)
    go refused is = no_first (45 ∷ is.first) is.others is.other
    go plain is = no_first word [] is.other

-- what clap makes of the words is what the definition says
loads : (words : List Text) → unless (fault_of load_app words) (load_from (matches_of load_app words)) ≡ load_in (flat_map parts_of words)
loads words = parsed-is words ∙ from_start words

pub load_of-matches : (words : List Text) (found : Found) → fault_of load_app words ≡ [] → rows_of found ≡ matches_of load_app words
    → load_of (option_and_then number_of (first_value found (codes "seed"))) (option_and_then number_of (first_value found (codes "count"))) ≡ load_in (flat_map parts_of words)
load_of-matches words found faultless are =
    ap₂ (λ s c. load_of (option_and_then number_of s) (option_and_then number_of c)) (first_value-rows found (codes "seed")) (first_value-rows found (codes "count"))
    ∙ ap load_from are ∙ sym (ap (λ f. unless f (load_from (matches_of load_app words))) faultless) ∙ loads words

pub refused-is_none : (words : List Text) (k : ErrorKind) → IsAmong k (fault_of load_app words) → None ≡ load_in (flat_map parts_of words)
refused-is_none words k among = go (fault_of load_app words) refl among ∙ loads words
  where
    go : (f : Kinds) → fault_of load_app words ≡ f → IsAmong k f → None ≡ unless (fault_of load_app words) (load_from (matches_of load_app words))
    go [] e among = absurd among
    go (x ∷ xs) e among = sym (ap (λ f. unless f (load_from (matches_of load_app words))) e)

not_run : (rest : List Text) → asked (codes "load" ∷ rest) ≡ load_in (flat_map parts_of rest)
not_run [] = refl
not_run (x ∷ xs) = refl

pub asked-load : (words : List Text) (first : Text) → 0 < length words → first ≡ get_or words 0 first → bytes_eq first (codes "load") ≡ true
    → asked words ≡ load_in (flat_map parts_of (take (length words - 1) (drop 1 words)))
asked-load [] first lt at is = absurd (omega arith)
asked-load (word ∷ rest) first lt at is =
    let all : take (length (word ∷ rest) - 1) rest ≡ rest = take_all (length (word ∷ rest) - 1) rest (omega arith) in
    ap (λ w. asked (w ∷ rest)) (sym at ∙ (bytes_eq-Decides first (codes "load")).0 is) ∙ not_run rest ∙ ap (λ l. load_in (flat_map parts_of l)) (sym all)
