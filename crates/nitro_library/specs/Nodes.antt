-- A node that began.
use Rattle.std.specs.Prelude.{ℕ, ◌==◌, Bool, ◌&&◌, ◌||◌, List, ◌++◌, codes, length}
use Rattle.hex.specs.Hex.{encode_lower}
use Rattle.lasting_lines.specs.declared.played.Played.{Played}
use Rattle.lms_signatures.specs.Made.{made_key}
use Rattle.lms_signatures.specs.Signing.{Signing}
use Rattle.node_lines.specs.Texts.{ready_text}
use Rattle.node_lines.specs.declared.events.Start.{Start}
use Rattle.lasting_node.specs.Machines.{line_ways, node_ways, unplayed, Foreign}
use Rattle.lasting_node.specs.Runs.{ready_of}
use Rattle.lasting_node.specs.declared.machine.NodeMachine.{NodeMachine}
use Rattle.nitro_library.specs.Beginnings.{IsWhy}
use Rattle.nitro_library.specs.Files.{Begins}
use Rattle.nitro_library.specs.declared.cores.Core.{Core}
use Rattle.nitro_library.specs.declared.opened.OpenedFile.{OpenedFile}
use Rattle.nitro_library.specs.declared.status.Failure.{Failure}

-- the key of a seed
abbrev pub start_of : List ℕ → ℕ → Start
start_of seed h = record { seed = seed; h = h }

-- the first words of a state file: the program, the version of its rules, and the public key
abbrev pub node_title : Signing → List ℕ
node_title signer = codes "nitro-node 1 " ++ encode_lower (made_key signer.seed signer.id signer.h)

-- a seed has 32 bytes, and a tree one of three heights
abbrev pub is_key : List ℕ → ℕ → Bool
is_key seed h = length seed == 32 && (h == 5 || h == 10 || h == 15)

abbrev pub ready_line : Played NodeMachine → List ℕ
ready_line p = ready_text (ready_of p)

-- over the records of its file
abbrev pub node_begins : Signing → ℕ → List ℕ → Core NodeMachine → Type 0
node_begins signer n file core = Begins node_ways ready_line (unplayed signer) n file core

-- why none begins over the bytes of a file
abbrev pub IsWhyNone : Signing → OpenedFile → List ℕ → ℕ → Bool → Failure → Type 0
IsWhyNone signer file bytes room is_key failure =
    IsWhy line_ways Foreign (unplayed signer) (node_title signer) file bytes room is_key failure
