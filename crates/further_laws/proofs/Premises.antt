-- All premises hold of the example.
use Rattle.std.proofs.Common.{◌≡◌, ℕ, Bool, true, false, cond, List, [], ◌∷◌, ◌++◌, inl, inr, length, refl, sym, subst}
use Rattle.std.specs.Prelude.{nat_le}
use Rattle.std.specs.List.{list_all}
use Rattle.std.specs.Str.{bytes_eq}
use Rattle.channel_values.specs.Reading.{many_at, count_at, asset_at, shape_at, allocation_at, item_at, dest_at, outcome_at, turn_at, flag_at, sized_at, state_at, signed_at, all_of}
use Rattle.channel_values.specs.Spelling.{fixed, outcome, state, signed}
use Rattle.support_rules.specs.Rules.{app_fault}
use Rattle.call_history.specs.Mode.{is_final}
use Rattle.channel_values.specs.Messages.{message_of_state, message_of_challenge}
use Rattle.channel_values.specs.Rows.{last_turn}
use Rattle.channel_values.specs.Rules.{Rules}
use Rattle.channel_values.specs.Support.{supports}
use Rattle.call_history.specs.History.{mode}
use Rattle.call_history.specs.Reading.{message_at}
use Rattle.call_history.specs.Spelling.{message}
use Rattle.call_history.specs.declared.entry.Entry.{Entry}
use Rattle.call_history.proofs.Names.{same_bytes}
use Rattle.channel_safety.proofs.Tests.{le-true}
use Rattle.channel_safety.specs.Journals.{Line}
use Rattle.premises.proofs.ListTests.{all-pass}
use Rattle.share_laws.specs.Places.{IsPlace}
use Rattle.share_laws.proofs.Lasting.{journals_in_order}
use Rattle.channel_exits.specs.Endings.{AreFinal}
use Rattle.share_laws.specs.Kept.{is_signing}
use Rattle.share_laws.specs.Lines.{SignNothing}
use Rattle.channel_safety.proofs.Members.{all-in}
use Rattle.further_laws.specs.Premises.{AllHold, Story, PaysAndIsPaid, PremisesHold}
use Rattle.further_laws.proofs.Computing.{rules, are-real, keeps_final, keeps_possible}
use Rattle.further_laws.proofs.Digests.{key_a, a, b, pair, name, pays, person-a}
use Rattle.further_laws.proofs.Story.{deposits, attack, answer, challenge, time, ending, transfers, history, legal, signs, opens, ordered, set_up, paid, back, closing, journal, orders}
use Rattle.further_laws.proofs.Honesty.{honest}
use Rattle.further_laws.proofs.NodePremised.{unforged, distinct, none_collide, valid, in_time}
use Rattle.further_laws.proofs.Fairly.{leaves}

all : AllHold rules key_a a orders history journal
all = record {
  keeps = keeps_final;
  possible = keeps_possible;
  legal = legal;
  honest = honest;
  unforged = unforged;
  distinct = distinct;
  valid = valid;
  in_time = in_time;
  leaves = leaves;
  in_order = journals_in_order rules key_a history journal honest opens pair (inr (inr (inr (inr (inr (inr (inr (inr (inr (inr (inr (inl refl)))))))))))) (inl refl);
}

quiet : SignNothing closing
quiet x i = all-in (λ (y : Line). is_signing y.deed ≡ false) x closing (refl, (refl, (refl, tt))) i

-- ---- the places

place : (past later : List Entry) (front newer : List Line) → history ≡ later ++ past → journal ≡ newer ++ front
    → list_all (λ x. nat_le x.seen (length past)) front ≡ true → list_all (λ x. nat_le (length past) x.seen) newer ≡ true → IsPlace history journal past front
place past later front newer entries lines before after = record {
  later = later;
  newer = newer;
  entries = entries;
  lines = lines;
  before = λ x i w. le-true x.seen (length past) (all-pass (λ (y : Line). nat_le y.seen (length past)) front x before i);
  after = λ x i w. le-true (length past) x.seen (all-pass (λ (y : Line). nat_le (length past) y.seen) newer x after i);
}

final : AreFinal rules (ending ++ deposits) journal
unfolding supports last_turn message_of_state message_of_challenge fixed outcome app_fault message signed state message_at signed_at state_at turn_at flag_at outcome_at asset_at shape_at allocation_at item_at dest_at count_at many_at sized_at all_of
final n h = go (bytes_eq name n) (same_bytes name n) h
  where
    go : (t : Bool) → (t ≡ true → name ≡ n) → cond t true false ≡ true → is_final (mode rules n (ending ++ deposits)) ≡ true
    go true p h = subst (λ (m : List ℕ). is_final (mode rules m (ending ++ deposits)) ≡ true) (p refl) refl
    go false p h = cc

-- ---- and what it can get at each

abbrev story : Story
story = record {
  key = key_a;
  me = a;
  other = b;
  orders = orders;
  fixed = pair;
  deposits = deposits;
  attack = attack;
  answer = answer;
  ending = time ∷ challenge ∷ [];
  transfers = transfers;
  set_up = set_up;
  order = ordered;
  payment = signs 2 4;
  back = back;
  closing = closing;
}

is-paid : PaysAndIsPaid rules story
unfolding supports last_turn message_of_state message_of_challenge fixed outcome app_fault message signed state message_at signed_at state_at turn_at flag_at outcome_at asset_at shape_at allocation_at item_at dest_at count_at many_at sized_at all_of
is-paid = record {
  all = all;
  person = sym person-a;
  none_collide = none_collide;
  apart = refl;
  two = refl;
  seat = refl;
  pays = refl;
  own = refl;
  part = refl;
  funded_at = place deposits (transfers ++ ending) set_up (closing ++ (back ++ (signs 2 4 ∷ ordered ∷ []))) refl refl refl refl;
  holds = refl;
  funded = λ asset. refl;
  share_before = refl;
  told = refl;
  signs = refl;
  paid_at = place deposits (transfers ++ ending) paid (closing ++ back) refl refl refl refl;
  share_after = refl;
  signed_at = place deposits (transfers ++ ending) (back ++ paid) closing refl refl refl refl;
  share_signed = refl;
  no_more = quiet;
  old = pays 3 5;
  attacked = refl;
  by_other = refl;
  settles_old = refl;
  less = refl;
  answered = refl;
  final_at = place (ending ++ deposits) transfers journal [] refl refl refl refl;
  final = final;
  stood = inr (inl (refl, tt));
  unpaid = refl;
  was_paid = refl;
  other_paid = refl;
}

pub premises_hold : PremisesHold
premises_hold = record { story = story; is = subst (λ (r : Rules). PaysAndIsPaid r story) are-real is-paid }
