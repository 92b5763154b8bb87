-- What a node does once it left: it challenges with the chains that it holds, and gives the calls of its exit.
use Rattle.std.specs.Prelude.{◌≡◌, ℕ, Bool, true, not, ◌&&◌, ◌||◌, List, [], Option, Some, None, ◌⊎◌, if◌then◌else◌}
use Rattle.std.specs.List.{list_all}
use Rattle.channel_values.specs.Parts.{StateParts}
use Rattle.channel_values.specs.declared.chain.Chain.{Chain}
use Rattle.channel_values.specs.Rules.{newest}
use Rattle.call_history.specs.declared.call.Call.{Call}
use Rattle.call_history.specs.declared.call.Call.TheVariants.{Challenge}
use Rattle.call_history.specs.declared.held_chain.HeldChain.{HeldChain}
use Rattle.call_history.specs.Mode.{is_final}
use Rattle.funding_plans.specs.Known.{FactsOf}
use Rattle.channel_safety.specs.Journals.{In}
use Rattle.channel_store.specs.Keeping.{is_held}
use Rattle.channel_store.specs.Storing.{kept_of}
use Rattle.channel_store.specs.declared.kept.Kept.{Kept}
use Rattle.channel_node.specs.Tables.{Tables}
use Rattle.channel_node.specs.Minds.{Mind, facts_of}
use Rattle.channel_node.specs.Refusing.{is_open, stands_in}

-- ---- challenges

-- A chain to challenge with, its newest state, and the challenger's position.
pub record OwnChallenge : Type 0 where
  pub chain : Chain
  pub state : StateParts
  pub who : ℕ

abbrev pub challenge_with : Kept → Option StateParts → Option OwnChallenge
challenge_with k None = None
challenge_with k (Some s) = Some (record { chain = k.chain; state = s; who = k.me })

abbrev pub challenge_of : Mind → List ℕ → Option Kept → Option OwnChallenge
challenge_of m channel None = None
challenge_of m channel (Some k) = if is_held k && is_open (stands_in (facts_of m) channel) then challenge_with k (newest k.chain.states) else None

-- what it challenges with in a channel: once it left, the chain that it holds of a channel that is open
abbrev pub challenge_in : Mind → List ℕ → Option OwnChallenge
challenge_in m channel = if m.left then challenge_of m channel (kept_of channel m.kept) else None

-- it challenges with this state, as this participant
abbrev pub ChallengesWith : Mind → List ℕ → StateParts → ℕ → Type 0
ChallengesWith m channel state who = (c : OwnChallenge) × (challenge_in m channel ≡ Some c) × (c.state ≡ state) × (c.who ≡ who)

-- ---- calls

-- all channels with a held chain are final
abbrev pub is_over : FactsOf → Bool
is_over f = list_all (λ held. is_final (stands_in f held.channel)) f.chains

-- the calls of its exit: when all channels with a held chain are final, and again while it can still get more than it
-- was paid
abbrev pub exits_given : Tables → (has_exited : Bool) → FactsOf → List Call
exits_given t has_exited f = if not has_exited || t.is_owed f then t.exits f else []

-- once it left, those; before, those that its stages give
abbrev pub calls_of : Tables → (has_exited : Bool) → Mind → List Call
calls_of t has_exited m = if m.left then exits_given t has_exited (facts_of m) else t.calls (facts_of m)

-- what it may call: a challenge with a chain that it holds, too
abbrev pub may_give : Tables → Mind → List Call
may_give t m = if m.left then t.exits (facts_of m) else t.calls (facts_of m)

abbrev pub IsOwnChallenge : Mind → Call → Type 0
IsOwnChallenge m (Challenge k) = (m.left ≡ true) × (held : HeldChain) × In held (facts_of m).chains × (held.chain ≡ k.chain)
IsOwnChallenge m _ = ⊥

abbrev pub MayCall : Tables → Mind → Call → Type 0
MayCall t m call = IsOwnChallenge m call ⊎ In call (may_give t m)
