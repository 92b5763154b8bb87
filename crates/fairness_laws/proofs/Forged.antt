-- B opens a channel with A, and a checkpoint shows a final state of turn 2 that neither signed: B's stage wants turn
-- 3 of the set-up, which follows no final state.
use Rattle.std.proofs.Common.{◌≡◌, ℕ, Bool, true, false, ◌||◌, List, [], ◌∷◌, replicate, refl, sym, ◌∙◌, ap, subst, arith}
use Rattle.std.specs.Prelude.{Some, None}
use Rattle.std.specs.Str.{bytes_eq}
use Rattle.channel_values.specs.Parts.{FixedParts, fixed_with, state_with}
use Rattle.channel_values.specs.Reading.{count_at, many_at, outcome_at, all_of}
use Rattle.channel_values.specs.Spelling.{outcome}
use Rattle.channel_values.specs.declared.chain.Chain.{Chain}
use Rattle.channel_values.specs.Digests.{name_of_person}
use Rattle.channel_values.specs.Rows.{last_turn}
use Rattle.channel_values.specs.Rules.{Rules}
use Rattle.channel_values.specs.Support.{supports}
use Rattle.call_history.specs.Flows.{is_among}
use Rattle.call_history.specs.History.{Legal, reply_to}
use Rattle.call_history.proofs.Names.{bytes_eq_self}
use Rattle.call_history.specs.declared.call.Call.TheVariants.{Checkpoint}
use Rattle.call_history.specs.declared.call.Op.TheVariants as ops
use Rattle.call_history.specs.declared.entry.Entry.{Entry}
use Rattle.call_history.specs.declared.event.Deed.TheVariants as deeds
use Rattle.call_history.specs.declared.refusal.Reply.TheVariants.{Opened}
use Rattle.support_rules.specs.Steps.{step_fault}
use Rattle.channel_store.specs.Storing.{kept_of}
use Rattle.channel_store.specs.declared.kept.Kept.{Kept}
use Rattle.network.specs.declared.command.Command.{Command}
use Rattle.network.specs.declared.command.Command.TheVariants.{Open}
use Rattle.channel_node.specs.Minds.{fresh}
use Rattle.channel_node.specs.Places.{Told, mind_at, AreFew}
use Rattle.channel_node.specs.Playing.{Signing, Plays, Allowed}
use Rattle.channel_node.specs.Refusing.{command_refusal, wish, signs_in}
use Rattle.stage_tables.specs.Fitting.{fits}
use Rattle.fairness_laws.specs.Table.{stages}
use Rattle.channel_node.proofs.Keepers.{same-tail}
use Rattle.fairness_laws.specs.Forged.{GuardBites}

-- every signature verifies
abbrev rules : Rules
rules =
    record {
      verifies = λ key message signature. true;
      named = λ f. replicate 32 f.nonce;
      digest = λ channel s. s.turn ∷ channel;
      outcome_digest = λ o. [];
      step = step_fault;
    }

abbrev key_a : List ℕ
key_a = replicate 56 1

abbrev key_b : List ℕ
key_b = replicate 56 2

abbrev signing : Signing
signing = record { key = key_b; limit = 2; made = λ index message. [] }

abbrev pair : FixedParts
pair = fixed_with (key_a ∷ key_b ∷ []) 7 0 10

abbrev name : List ℕ
name = replicate 32 7

abbrev forged : Chain
forged =
    record {
      fixed = pair;
      states = state_with 2 true [] [] ∷ [];
      marks = record { place = 0; signature = [] } ∷ record { place = 0; signature = [] } ∷ [];
    }

abbrev history : List Entry
history = record { number = 1; by = 2; op = ops.Call (Checkpoint forged); reply = Opened 2 } ∷ []

legal : Legal rules history
unfolding reply_to supports last_turn
legal = (tt, refl, refl)

abbrev command : Command
command = Open pair []

abbrev opening : Told
opening = record { seen = 0; deed = deeds.Commanded 0 None; command = Some command }

inside : is_among (name_of_person key_b) (name_of_person key_a ∷ name_of_person key_b ∷ []) ≡ true
inside = ap (λ (b : Bool). bytes_eq (name_of_person key_b) (name_of_person key_a) || (b || false)) (bytes_eq_self (name_of_person key_b)) ∙ either (bytes_eq (name_of_person key_b) (name_of_person key_a))
  where
    either : (b : Bool) → (b || true) ≡ true
    either true = refl
    either false = refl

unrefused : None ≡ command_refusal stages rules 2 0 (fresh key_b) command
unfolding fits
unrefused = rw inside refl

plays : Plays stages rules signing history (opening ∷ [])
plays = (
  record {
    within = omega arith;
    rising = λ y i w. absurd i;
    place = λ later past is len. subst (λ (z : List Entry). AreFew z × Allowed stages rules signing z (mind_at rules key_b z []) 0 None (deeds.Commanded 0 None) (Some command)) (sym (same-tail later history past [] (sym is) len)) (tt, (refl, unrefused));
  },
  tt,
)

abbrev kept : Kept
kept = record { channel = name; me = 1; chain = forged; last = None }

keeps : kept_of name (mind_at rules key_b history (opening ∷ [])).kept ≡ Some kept
unfolding supports last_turn
keeps = refl

wants : wish stages None (mind_at rules key_b history (opening ∷ [])) name kept ≡ Some (state_with 3 false [] [])
unfolding supports last_turn outcome count_at outcome_at many_at all_of
wants = refl

bites : signs_in stages rules None (mind_at rules key_b history (opening ∷ [])) name ≡ None
unfolding supports last_turn outcome count_at outcome_at many_at all_of
bites = refl

pub guard_bites : GuardBites
guard_bites = record {
  rules = rules;
  steps = refl;
  signing = signing;
  signs_well = λ index message within. refl;
  history = history;
  journal = opening ∷ [];
  legal = legal;
  plays = plays;
  unsigned = refl;
  channel = name;
  kept = kept;
  state = state_with 3 false [] [];
  keeps = keeps;
  wants = wants;
  bites = bites;
}
