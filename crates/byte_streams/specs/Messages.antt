-- The words in which the end of a reading is told.
use Rattle.std.specs.Prelude.{ℕ, List, ◌++◌, codes}
use Rattle.std.specs.Fmt.{decimal}
use Rattle.byte_streams.specs.declared.source.ReadEnd.{ReadEnd}
use Rattle.byte_streams.specs.declared.source.ReadEnd.TheVariants as ends

-- why a source was not read to its end
abbrev pub end_words : ReadEnd → List ℕ
end_words ends.NoMemory = codes "out of memory"
end_words ends.Failed = codes "the source failed"
end_words ends.TooLong = codes "more than " ++ decimal 4194304 ++ codes " bytes"
