-- Which signed states, marks and chains keep the limits of the format.
use Rattle.std.specs.Prelude.{ℕ, ◌<◌, ◌≤◌, List, length}
use Rattle.std.specs.List.{AllByRecursion}
use Rattle.channel_values.specs.declared.chain.Signed.{Signed}
use Rattle.channel_values.specs.declared.chain.Mark.{Mark}
use Rattle.channel_values.specs.declared.chain.Chain.{Chain}
use Rattle.channel_values.specs.Outcomes.{AreBytes}
use Rattle.channel_values.specs.Parts.{IsFixed, IsState}

-- no longer than the longest signature of RFC 8554's types that are known here
abbrev pub IsSignature : List ℕ → Type 0
IsSignature signature = (length signature ≤ 9004) × AreBytes signature

abbrev pub IsSigned : Signed → Type 0
IsSigned s = IsState s.state × IsSignature s.signature

abbrev pub IsMark : Mark → Type 0
IsMark m = (m.place < 256) × IsSignature m.signature

pub record IsChain (c : Chain) : Type 0 where
  pub fixed : IsFixed c.fixed
  pub few_states : length c.states ≤ 4
  pub states : AllByRecursion IsState c.states
  pub few_marks : length c.marks ≤ 4
  pub marks : AllByRecursion IsMark c.marks

-- What the types say of any mark, and what they don't.
abbrev pub FitsMark : Mark → Type 0
FitsMark m = (m.place < 256) × AreBytes m.signature

abbrev pub KeepsMark : Mark → Type 0
KeepsMark m = length m.signature ≤ 9004

pub record KeepsLimits (c : Chain) : Type 0 where
  pub states : length c.states ≤ 4
  pub marks : length c.marks ≤ 4
  pub signatures : AllByRecursion KeepsMark c.marks
