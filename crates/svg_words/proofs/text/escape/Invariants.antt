use Rattle.std.proofs.Common.{◌≡◌, ◌++◌, take}
use Rattle.svg_words.specs.Escape.{escaped}
use Rattle.svg_words.proofs.text.escape.Given as goal

abbrev pub invariant-loop-byte : goal.invariant-loop-byte
invariant-loop-byte l = l.out.items ≡ l.initial.out.items ++ escaped (take l.byte-index l.text)
