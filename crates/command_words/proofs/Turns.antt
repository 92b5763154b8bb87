-- What clap makes of the words after `load`, word by word.
use Rattle.std.proofs.Common.{◌≡◌, ◌∙◌, refl, sym, ap, Bool, true, false, List, [], ◌∷◌, Option, None, codes, fold, option_and_then}
use Rattle.clap.specs.Kinds.{Kinds, or_else}
use Rattle.clap.specs.Walk.{Held, Rule, Row, Text, Waiting, Walk, idle, first_of, nothing_held, settled, walked, with_default, finished}
use Rattle.clap.specs.Simple.{Shape, built, filled, with_index, matches_of}
use Rattle.clap.specs.Faults.{fault_of, settle_fault, turn_fault, walk_fault, defaults_fault, check_fault}
use Rattle.clap.proofs.FaultLemmas.{leaf_fault}
use Rattle.command_words.specs.Words.{load_of, number_of}
use Rattle.command_words.specs.Command.{load_app, option_rule}
use Rattle.command_words.specs.declared.asking.Asked.{Asked}

abbrev pub shape : Shape
shape = (built load_app).top

abbrev pub rules : List Rule
rules = shape.rules

-- the option `seed`, and else `count`
abbrev pub name : Bool → Text
name true = codes "seed"
name false = codes "count"

abbrev pub rule : Bool → Rule
rule x = with_index 1 (filled (option_rule (name x)))

abbrev pub held : List Row → Option (Text × List Text) → Held
held rows pending = record { rows = rows; pending = pending; skip = 0 }

-- between two words, before any `--` and after it
abbrev pub at : Held → Waiting → Walk
at h waiting = record { held = h; waiting = waiting; position = 1; is_trailing = false; stopped = None }

abbrev pub past_end : Held → Waiting → Walk
past_end h waiting = record { held = h; waiting = waiting; position = 1; is_trailing = true; stopped = None }

-- what the rows ask for
abbrev pub load_from : List Row → Option Asked
load_from rows = load_of (option_and_then number_of (first_of (codes "seed") rows)) (option_and_then number_of (first_of (codes "count") rows))

-- nothing where there is a fault
abbrev pub unless : Kinds → Option Asked → Option Asked
unless [] a = a
unless (k ∷ ks) a = None

pub unless-or_else : (a b : Kinds) (x : Option Asked) → unless (or_else a b) x ≡ unless a (unless b x)
unless-or_else [] b x = refl
unless-or_else (k ∷ ks) b x = refl

-- after the last word, once what was pending is settled
abbrev pub rows_fault : List Row → Kinds
rows_fault rows = or_else (defaults_fault rows rules) (check_fault shape (fold with_default rows rules) false)

abbrev pub at_end : List Row → Option Asked
at_end rows = unless (rows_fault rows) (load_from (fold with_default rows rules))

-- what the words from here on come to
abbrev pub answer : Walk → List Text → Option Asked
answer w [] = unless (settle_fault rules false w.held) (at_end (settled rules w.held).rows)
answer w (word ∷ rest) = unless (turn_fault shape [] w word) (answer (walked rules [] w word) rest)

abbrev last_fault : Held → Kinds
last_fault h = or_else (settle_fault rules false h) (rows_fault (settled rules h).rows)

answer-is : (w : Walk) (words : List Text)
    → answer w words ≡ unless (walk_fault shape [] w words)
    (unless (last_fault (fold (walked rules []) w words).held) (load_from (finished rules (fold (walked rules []) w words).held)))
unfolding walk_fault
answer-is w [] = sym (unless-or_else (settle_fault rules false w.held) (rows_fault (settled rules w.held).rows) _)
answer-is w (word ∷ rest) = ap (unless (turn_fault shape [] w word)) (answer-is (walked rules [] w word) rest)
    ∙ sym (unless-or_else (turn_fault shape [] w word) (walk_fault shape [] (walked rules [] w word) rest) _)

-- what clap's faults and matches come to
pub parsed-is : (words : List Text) → unless (fault_of load_app words) (load_from (matches_of load_app words)) ≡ answer (at nothing_held idle) words
parsed-is words =
    let end = (fold (walked rules []) (at nothing_held idle) words).held in
    ap (λ k. unless k (load_from (matches_of load_app words))) (leaf_fault (built load_app) nothing_held words refl)
    ∙ unless-or_else (walk_fault shape [] (at nothing_held idle) words) (last_fault end) _
    ∙ sym (answer-is (at nothing_held idle) words)
