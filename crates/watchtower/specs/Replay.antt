-- What a replay of a history prints: after each entry the calls that a tower then answers, and a last line with counts.
use Rattle.std.specs.Prelude.{ℕ, List, [], ◌∷◌, ◌++◌, length, fold, flat_map, codes}
use Rattle.std.specs.Fmt.{decimal}
use Rattle.hex.specs.Hex.{encode_lower}
use Rattle.channel_values.specs.Spelling.{fixed}
use Rattle.channel_values.specs.declared.chain.Chain.{Chain}
use Rattle.channel_values.specs.Digests.{name_of_channel}
use Rattle.channel_values.specs.Rules.{Rules, top_turn}
use Rattle.call_history.specs.History.{Legal, newest_first}
use Rattle.call_history.specs.declared.call.Call.{Call}
use Rattle.call_history.specs.declared.call.Call.TheVariants.{Checkpoint}
use Rattle.call_history.specs.declared.entry.Entry.{Entry}
use Rattle.call_history.specs.declared.held_chain.HeldChain.{HeldChain}
use Rattle.network.specs.Watching.{Watching, StandsFor, looks}
use Rattle.report_lines.specs.Text.{◌&◌, ended}
use Rattle.watchtower.specs.declared.client.Client.{Client}
use Rattle.watchtower.specs.Towers.{admitted, named, hand_fault, answers}
use Rattle.watchtower.specs.Isolation.{taken}

-- ---- clients

-- a hand that is refused changes nothing
abbrev pub handing : Rules → List ℕ → List Client → HeldChain → List Client
handing r name clients held =
    taken name (named held.chain) clients (hand_fault r name (named held.chain) clients)

-- a client that was admitted isn't admitted again; its chains are handed in any case
abbrev pub enrolling : Rules → List Client → List ℕ → List HeldChain → List Client
enrolling r clients name chains = fold (handing r name) (admitted name clients) chains

-- ---- lines

-- the number of the last entry, the client, the channel and the chain's turn
abbrev pub words_line : ℕ → (client channel : List ℕ) → ℕ → List ℕ
words_line number client channel turn =
    decimal number & client & codes "checkpoint" & channel & ended (decimal turn)

abbrev pub checkpoint_line : ℕ → List ℕ → Chain → List ℕ
checkpoint_line number client chain =
    words_line number (encode_lower client) (encode_lower (name_of_channel (fixed chain.fixed))) (top_turn chain.states)

-- a look answers checkpoints alone
abbrev pub call_lines : ℕ → List ℕ → Call → List (List ℕ)
call_lines number client (Checkpoint chain) = checkpoint_line number client chain ∷ []
call_lines number client _ = []

abbrev pub answer_lines : ℕ → List ℕ × List Call → List (List ℕ)
answer_lines number answer = flat_map (call_lines number answer.0) answer.1

abbrev pub look_lines : ℕ → List (List ℕ × List Call) → List (List ℕ)
look_lines number told = flat_map (answer_lines number) told

-- of a history, the newest entry first: the lines of a look after each entry, in which each client is answered what a
-- watcher of its own would answer there
abbrev pub replay_lines : Rules → List Client → List Entry → List (List ℕ)
replay_lines r clients [] = []
replay_lines r clients (e ∷ past) =
    replay_lines r clients past ++ look_lines e.number (answers (looks r (e ∷ past)) clients)

abbrev pub last_line : (entries clients calls : ℕ) → List ℕ
last_line entries clients calls =
    codes "end entries" & decimal entries & codes "clients" & decimal clients & codes "calls" & ended (decimal calls)

-- the lines, one after the other, and a last one with counts
abbrev pub lines_text : List (List ℕ) → (entries clients : ℕ) → List ℕ
lines_text lines entries clients = flat_map (λ line. line) lines ++ last_line entries clients (length lines)

-- the whole text, of a history in the order of time
abbrev pub replay_text : Rules → List Client → List Entry → List ℕ
replay_text r clients history =
    lines_text (replay_lines r clients (newest_first history)) (length history) (length clients)

-- ---- looks

-- what was followed stands for a history, on which the entry follows
pub record Follows (r : Rules) (h : List Entry) (e : Entry) (w : Watching) : Type 0 where
  pub stands : StandsFor r h w
  pub legal : Legal r (e ∷ h)
