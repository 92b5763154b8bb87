-- A run of the service, over the bytes that its file held when it began.
use Rattle.std.specs.Prelude.{◌≡◌, ℕ, ◌^◌, ◌-◌, List, [], ◌++◌, length, take, codes, Option, unwrap_or}
use Rattle.sha2.specs.Sha256.{sha256}
use Rattle.channel_values.specs.Digests.{name_of_person}
use Rattle.lms_signatures.specs.Signing.{Signing}
use Rattle.node_guarantees.specs.Ways.{ways}
use Rattle.lasting_lines.specs.Files.{Op}
use Rattle.lasting_lines.specs.Lines.{recovered}
use Rattle.lasting_lines.specs.Serving.{state, Always, Ready}
use Rattle.lasting_lines.specs.Opening.{owed_to, IsPlayed}
use Rattle.lasting_lines.specs.declared.played.Played.{Played}
use Rattle.node_lines.specs.declared.events.Start.{Start}
use Rattle.node_lines.specs.declared.ready.Ready.{Ready as ReadyLine}
use Rattle.lasting_node.specs.Machines.{node_ways, unplayed}
use Rattle.lasting_node.specs.declared.machine.NodeMachine.{NodeMachine}

-- ---- the key

-- a key's identifier: the first 16 bytes of the digest of `id` and its seed
unfoldable pub id_of : List ℕ → List ℕ
id_of seed = take 16 (sha256 (codes "id" ++ seed))

-- the signer that a first line makes, which has signed nothing
abbrev pub signer_of : Start → Signing
signer_of start = record { seed = start.seed; id = id_of start.seed; h = start.h; used = 0 }

-- ---- the line before the first response

abbrev pub ready_of : Played NodeMachine → ReadyLine
ready_of p =
    record {
      count = p.count;
      mark = p.mark;
      key = ways.key p.machine.node;
      name = name_of_person (ways.key p.machine.node);
      seen = ways.seen p.machine.node;
      used = p.machine.node.node.used;
      limit = 2 ^ p.machine.node.node.signer.h;
      waits = length p.machine.waiting;
    }

-- ---- files

-- the number up to which responses are left out
abbrev pub last_left_out : Option ℕ → ℕ
last_left_out after = unwrap_or after (2 ^ 64 - 1)

-- the machine that a file stands for
abbrev pub played_from : Signing → List ℕ → Played NodeMachine
played_from signer file = state node_ways (unplayed signer) (recovered node_ways (unplayed signer) file)

-- how many records a file has
abbrev pub count_in : Signing → List ℕ → ℕ
count_in signer file = (played_from signer file).count

-- the responses to the records of a file with numbers up to n
abbrev pub left_out : Signing → ℕ → List ℕ → List ℕ
left_out signer n file = owed_to node_ways n (unplayed signer) (recovered node_ways (unplayed signer) file)

-- At each moment, whatever a crash leaves of the file explains what was written after the responses up to n.
abbrev pub IsExplained : Signing → ℕ → List ℕ → List Op → Type 0
IsExplained signer n file ops = Always node_ways (unplayed signer) (left_out signer n file) file ops

-- All lines that were taken are on the disk, all responses are written, and the machine is where the file leaves it.
abbrev pub IsAnswered : Signing → ℕ → List ℕ → List Op → Played NodeMachine → Type 0
IsAnswered signer n file ops played = Ready node_ways (unplayed signer) (left_out signer n file) file ops played

-- Where a file was played, the run is ready at its end.
abbrev pub EndsReady : Played NodeMachine → List ℕ → List Op → List Op → Played NodeMachine → Type 0
EndsReady old again ops ops' new =
    (p : Played NodeMachine) (start : List ℕ) (n : ℕ) → ops ≡ [] → IsPlayed node_ways p start n old again
    → Ready node_ways p (owed_to node_ways n p (recovered node_ways p start)) start ops' new
