-- The chains of a one-time key on their way, beside each other.
use Rattle.std.specs.Prelude.{◌≡◌, ℕ, ◌-◌, ◌^◌, List, []}
use Rattle.std.specs.List.{slice_index_or}
use Rattle.lms_signatures.specs.Types.{width}
use Rattle.lms_signatures.specs.Ots.{chain, digit, string_at}
use Rattle.lms_signatures.specs.declared.types.OtsType.{OtsType}
use Rattle.lms_signatures.specs.declared.runs.Run.{Run}

-- chain i, or an empty one
abbrev pub run_at : List Run → ℕ → Run
run_at runs i = slice_index_or runs i (record { string = []; at = 0; to = 0 })

-- the string at the end of chain i
abbrev pub end_of : List ℕ → ℕ → ℕ → Run → List ℕ
end_of id q i run = chain id q i run.at (run.to - run.at) run.string

-- each chain ends with the string that it ended with before
abbrev pub EndsAlike : List ℕ → ℕ → List Run → List Run → Type 0
EndsAlike id q before after = (i : ℕ) → end_of id q i (run_at after i) ≡ end_of id q i (run_at before i)

-- chain i of a signature
abbrev pub signed_run : OtsType → List ℕ → List ℕ → ℕ → Run
signed_run ots hash y i = record { string = string_at y i; at = digit ots hash i; to = 2 ^ width ots - 1 }
