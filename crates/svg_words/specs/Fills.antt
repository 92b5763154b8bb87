-- How marks are filled.
use Rattle.std.specs.Prelude.{ℕ, List, codes}
use Rattle.run_text.specs.declared.model.Reply.{Reply}
use Rattle.run_text.specs.declared.model.Reply.TheVariants.{Held, Now, Until, Open, Final, Paid, No}
use Rattle.svg_words.specs.declared.fill.Fill.{Fill}
use Rattle.svg_words.specs.declared.fill.Fill.TheVariants.{Full, Hollow}

-- the mark of a call is hollow where the call was refused
abbrev pub fill_of : Reply → Fill
fill_of (No said) = Hollow
fill_of (Held n) = Full
fill_of (Now n) = Full
fill_of (Until n) = Full
fill_of (Open n) = Full
fill_of (Final n) = Full
fill_of (Paid n) = Full

-- the class of marks
abbrev pub name_of : Fill → List ℕ
name_of Full = codes "full"
name_of Hollow = codes "hollow"
