-- What no collision is in among entries and lines, is none among fewer of them.
use Rattle.std.proofs.Common.{ℕ, List, ◌++◌, inl, inr}
use Rattle.channel_values.specs.Parts.{FixedParts, StateParts}
use Rattle.channel_values.specs.declared.value.AssetOutcome.{AssetOutcome}
use Rattle.channel_values.specs.Rules.{Rules}
use Rattle.call_history.specs.declared.entry.Entry.{Entry}
use Rattle.channel_safety.specs.Journals.{Line}
use Rattle.channel_safety.specs.Occurring.{OccursFixed, OccursState, OccursOutcome, NoCollision, in_call, in_line}
use Rattle.channel_safety.proofs.Lists.{In-append_right}

pub fewer : (r : Rules) (later past : List Entry) (newer front : List Line) → NoCollision r (later ++ past) (newer ++ front) → NoCollision r past front
fewer r later past newer front none = record {
  names = λ f g i j e. none.names f g (of_fixed f i) (of_fixed g j) e;
  states = λ c d s t i j e. none.states c d s t (of_state c s i) (of_state d t j) e;
  outcomes = λ o p i j e. none.outcomes o p (of_outcome o i) (of_outcome p j) e;
}
  where
    of_fixed : (f : FixedParts) → OccursFixed past front f → OccursFixed (later ++ past) (newer ++ front) f
    of_fixed f (inl o) = inl (o.0, In-append_right o.0 later past o.1, o.2)
    of_fixed f (inr o) = inr (o.0, In-append_right o.0 newer front o.1, o.2)

    of_state : (c : List ℕ) (s : StateParts) → OccursState r past front c s → OccursState r (later ++ past) (newer ++ front) c s
    of_state c s (in_call e f i has named j) = in_call e f (In-append_right e later past i) has named j
    of_state c s (in_line x i is) = in_line x (In-append_right x newer front i) is

    of_outcome : (o : List AssetOutcome) → OccursOutcome past o → OccursOutcome (later ++ past) o
    of_outcome o i = (i.0, In-append_right i.0 later past i.1, i.2)
