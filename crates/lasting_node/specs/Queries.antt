-- The answers to queries, and what is written of other lines that aren't taken.
use Rattle.std.specs.Prelude.{◌≡◌, ℕ, ◌+◌, ◌-◌, ◌↔◌, IsTrue, Bool, List, [], ◌∷◌, ◌++◌, codes, decimal, length, map, fold, flat_map, slice_index_or, Option, Some, None, Result, Ok, Err, if◌then◌else◌}
use Rattle.std.specs.List.{find}
use Rattle.std.specs.Str.{bytes_eq}
use Rattle.channel_values.specs.Outcomes.{total}
use Rattle.channel_values.specs.Parts.{FixedParts, StateParts}
use Rattle.channel_values.specs.Rows.{mover}
use Rattle.channel_values.specs.Rules.{people, top_turn, top_outcome}
use Rattle.channel_values.specs.Spelling.{chain}
use Rattle.channel_values.specs.Digests.{name_of_person}
use Rattle.channel_values.specs.declared.chain.Chain.{Chain}
use Rattle.channel_values.specs.declared.value.AssetOutcome.{AssetOutcome}
use Rattle.call_history.specs.Naming.{name_of}
use Rattle.call_history.specs.Spelling.{message}
use Rattle.call_history.specs.declared.event.Deed.{Deed}
use Rattle.call_history.specs.declared.event.Deed.TheVariants.{Signed}
use Rattle.call_history.specs.declared.event.Event.{Event}
use Rattle.call_history.specs.declared.held_chain.HeldChain.{HeldChain}
use Rattle.funding_plans.specs.Parts.{channels}
use Rattle.funding_plans.specs.Shapes.{items_in}
use Rattle.channel_node.specs.Openings.{opened_by, takes_part}
use Rattle.network.specs.Entered.{oldest_first}
use Rattle.node_guarantees.specs.Ways.{Numbered, ways}
use Rattle.network_node.specs.Shares.{shares}
use Rattle.premises.specs.Collision.{Distinct}
use Rattle.premises.specs.Persons.{IsUnforged, IsInTime}
use Rattle.premises.specs.declared.journal.Journal.{Journal}
use Rattle.node_lines.specs.Texts.{share_text, balance_text, report_text, plan_text, chains_text, error_text, effect_text}
use Rattle.node_lines.specs.declared.answers.AssetBalance.{AssetBalance}
use Rattle.node_lines.specs.declared.effects.Effect.TheVariants as effects
use Rattle.node_lines.specs.declared.errors.Why.TheVariants as whys
use Rattle.node_lines.specs.declared.events.NodeEvent.{NodeEvent}
use Rattle.node_lines.specs.declared.events.Query.{Query}
use Rattle.node_lines.specs.declared.events.Query.TheVariants.{Share, Balance, Report, Plan, Chains, Resend}
use Rattle.lasting_node.specs.Effects.{own, sends}
use Rattle.lasting_node.specs.Machines.{number, taken}
use Rattle.lasting_node.specs.declared.machine.NodeMachine.{NodeMachine}
use Rattle.lasting_node.specs.declared.taking.NotTaken.{NotTaken}
use Rattle.lasting_node.specs.declared.taking.NotTaken.TheVariants.{Wrong, Refuses, Asks}

-- ---- what a channel has

-- of an asset, what the person has and what others have
abbrev pub balance : List ℕ → List AssetOutcome → AssetOutcome → AssetBalance
balance me outcome a =
    record { asset = a.asset; mine = own me outcome a.asset; others = total (items_in a.asset outcome) - own me outcome a.asset }

-- the key at the place of the next mover is this one
abbrev pub moves_next : List ℕ → Chain → Bool
moves_next key c = bytes_eq (slice_index_or c.fixed.keys (mover (people c.fixed) (top_turn c.states + 1)) []) key

abbrev pub balance_over : List ℕ → Option HeldChain → List ℕ
balance_over key None = error_text whys.Unknown
balance_over key (Some k) =
    balance_text k.channel (top_turn k.chain.states)
    (map (balance (name_of_person key) (top_outcome k.chain.states)) (top_outcome k.chain.states)) (moves_next key k.chain)

abbrev pub is_of : List ℕ → HeldChain → Bool
is_of channel k = bytes_eq k.channel channel

-- by the newest chain that is held of it
abbrev pub balance_of : Numbered → List ℕ → List ℕ
balance_of p channel = balance_over (ways.key p) (find (is_of channel) (ways.chains p))

-- ---- premises

abbrev pub journal_of : Numbered → Journal
journal_of p = record { number = p.number; key = ways.key p; events = ways.journal p }

-- whether each premise holds, and what the person could get when it was commanded to exit
pub record IsReport (m : NodeMachine) (text : List ℕ) : Type 0 where
  pub unforged : Bool
  pub distinct : Bool
  pub in_time : Bool
  pub own : (adds : ℕ → List FixedParts) → IsTrue unforged ↔ IsUnforged (oldest_first m.ledger) adds (journal_of m.node)
  pub apart : IsTrue distinct ↔ Distinct (oldest_first m.ledger) (journal_of m.node ∷ [])
  pub watched : (adds : ℕ → List FixedParts) → IsTrue in_time ↔ IsInTime (oldest_first m.ledger) adds (journal_of m.node)
  pub is : text ≡ report_text unforged distinct in_time m.node.exits

-- ---- messages once more

-- the message of a state for the person with this key, if it is another
abbrev pub letter_to : List ℕ → FixedParts → StateParts → List ℕ → List ℕ → List (List ℕ × List ℕ)
letter_to me f state signature key =
    if bytes_eq (name_of_person key) me then []
    else (name_of_person key, message (name_of f, record { state = state; signature = signature })) ∷ []

-- for each of the channel's other people
abbrev pub letters : List ℕ → FixedParts → StateParts → List ℕ → List (List ℕ × List ℕ)
letters me f state signature = flat_map (letter_to me f state signature) f.keys

abbrev pub letters_in : List ℕ → FixedParts → Deed → List (List ℕ × List ℕ)
letters_in me f (Signed channel state signature) = if bytes_eq channel (name_of f) then letters me f state signature else []
letters_in me f deed = []

-- the later ones, if there are any
abbrev pub later : List (List ℕ × List ℕ) → List (List ℕ × List ℕ) → List (List ℕ × List ℕ)
later before [] = before
later before (letter ∷ more) = letter ∷ more

-- those of the last state that a journal, in the order of time, signed in a channel
abbrev pub last_letters : List ℕ → FixedParts → List Event → List (List ℕ × List ℕ)
last_letters me f events = fold (λ before e. later before (letters_in me f e.deed)) [] events

-- in each channel that its commands opened
abbrev pub resent : Numbered → List (List ℕ × List ℕ)
resent p =
    flat_map (λ f. last_letters (name_of_person (ways.key p)) f (ways.journal p)) (flat_map opened_by p.node.commands)

unfoldable pub resent_text : ℕ → List ℕ
resent_text count = codes "{\"effect\":\"resent\",\"count\":" ++ (decimal count ++ codes "}\n")

abbrev pub sends_text : ℕ → List (List ℕ × List ℕ) → List ℕ
sends_text event given = flat_map (effect_text event) (sends given) ++ resent_text (length given)

-- ---- all of them

abbrev pub IsReply : NodeMachine → Query → List ℕ → Type 0
IsReply m (Share asset) text = text ≡ share_text asset (shares m.node asset)
IsReply m (Balance channel) text = text ≡ balance_of m.node channel
IsReply m Report text = IsReport m text
IsReply m Plan text = text ≡ plan_text (channels m.node.node.mind.parts)
IsReply m Chains text = text ≡ chains_text (map (λ k. chain k.chain) (ways.chains m.node))
IsReply m Resend text = text ≡ sends_text m.count (resent m.node)

-- An error, why the node refuses a message, or the answer to a query. A message that is refused has the number of the
-- next event.
abbrev pub IsMessage : NodeMachine → NotTaken → List ℕ → Type 0
IsMessage m (Wrong why) text = text ≡ error_text why
IsMessage m (Refuses refusal) text = text ≡ flat_map (effect_text (number m)) (effects.Refused refusal ∷ [])
IsMessage m (Asks query) text = IsReply m query text

-- nothing is written of an event that is taken, before it is
abbrev pub IsSaid : NodeMachine → Result NodeEvent NotTaken → List ℕ → Type 0
IsSaid m (Ok event) text = ⊥
IsSaid m (Err why) text = IsMessage m why text

-- what is written for a line that isn't taken
abbrev pub Says : NodeMachine → List ℕ → List ℕ → Type 0
Says m line text = IsSaid m (taken m line) text
