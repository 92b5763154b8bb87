use Rattle.std.proofs.Common.{◌≡◌, ◌++◌, take, map}
use Rattle.watchtower.specs.Replay.{look_lines}
use Rattle.watchtower.proofs.lines.add_answers.Given as goal

abbrev pub invariant-loop-answer : goal.invariant-loop-answer
invariant-loop-answer l =
    l.lines.items ≡ l.fn.lines.items ++ look_lines l.number (map (λ t. (t.0, t.1.items)) (take l.answer-index l.answers))
