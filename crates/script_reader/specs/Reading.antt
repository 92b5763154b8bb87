-- The step that a value is, or the first rule that it breaks.
use Rattle.std.specs.Prelude.{◌≡◌, ◌&&◌, ◌||◌, Bool, true, not, Result, Ok}
use Rattle.serde_json.specs.Data.{Data}
use Rattle.script_steps.specs.Rules.{◌>>=◌, holds}
use Rattle.script_reader.specs.Kinds.{word_at}
use Rattle.script_reader.specs.Forms.{is_word, written_by}
use Rattle.script_reader.specs.Resolved.{knows_outcome, resolved}
use Rattle.script_steps.specs.Conditions.{sign_uses, open_uses, open_on_uses, open_virtual_uses, are_known, is_named, fits, distinct, runs_in_race}
use Rattle.script_steps.specs.Context.{is_new}
use Rattle.script_steps.specs.declared.context.Context.{Context}
use Rattle.script_steps.specs.declared.step.Rule.{Rule}
use Rattle.script_steps.specs.declared.step.Rule.TheVariants as rules
use Rattle.script_steps.specs.declared.step.Step.{Step}
use Rattle.script_reader.specs.declared.written.Written.{Written}
use Rattle.script_reader.specs.declared.written.Written.TheVariants as written

-- first the shape alone
abbrev pub written_of : Data → Result Written Rule
written_of d = do
  word ← word_at d
  known ← holds rules.Shape (is_word word)
  written_by word d

-- all names, those of both outcomes among them
abbrev pub knows_names : Context → Written → Bool
knows_names c (written.Plain s) = is_named c s
knows_names c (written.Sign k) = is_new c k.name && are_known c (sign_uses k.channel k.by) && knows_outcome c k.outcome && knows_outcome c k.proposal
knows_names c (written.Open k) = are_known c (open_uses k.who k.channel) && knows_outcome c k.outcome
knows_names c (written.OpenOn k) = are_known c (open_on_uses k.who k.ledger k.channel)
knows_names c (written.OpenVirtual k) = are_known c (open_virtual_uses k.who k.ledgers k.guarantors k.joint k.channel)

-- a race has no step that it refuses
abbrev pub may_race : Context → Step → Bool
may_race c s = not c.race || runs_in_race s

-- the rules after the names, in their order
abbrev pub limited : Context → Step → Result Step Rule
limited c s = do
  fit ← holds rules.Limit (fits c s)
  apart ← distinct c s
  raced ← holds rules.NotInRace (may_race c s)
  Ok s

abbrev pub named_of : Context → Data → Result Written Rule
named_of c d = do
  w ← written_of d
  named ← holds rules.Name (knows_names c w)
  Ok w

abbrev pub led : Context → Data → Result Step Rule
led c d = named_of c d >>= resolved c

-- names come before limits
abbrev pub step_of : Context → Data → Result Step Rule
step_of c d = led c d >>= limited c

-- what a step keeps that was read, by what the steps before it declared
pub record Keeps (c : Context) (s : Step) : Type 0 where
  pub named : is_named c s ≡ true
  pub fit : fits c s ≡ true
  pub apart : distinct c s ≡ Ok 0
  pub raced : may_race c s ≡ true
