use Rattle.std.proofs.Common.{◌≡◌, ◌++◌}
use Rattle.std.specs.Option.{option_map}
use Rattle.lasting_lines.specs.Batches.{parts, parts_left, size_left, takes_all, next_all, owes_all}
use Rattle.lasting_lines.specs.Endings.{HasForeign}
use Rattle.lasting_lines.proofs.batches.step_all.Given as goal

abbrev pub invariant-loop-left : goal.invariant-loop-left
invariant-loop-left g l = record {
  takes : takes_all g.M.Machine.ways l.fn.machine (parts l.batch) ≡ takes_all g.M.Machine.ways l.machine (parts_left (option_map (λ r. r.now) l.left));
  next : next_all g.M.Machine.ways l.fn.machine (parts l.batch) ≡ next_all g.M.Machine.ways l.machine (parts_left (option_map (λ r. r.now) l.left));
  foreign :
      HasForeign g.M.Machine.ways g.M.Machine.foreign l.machine (parts_left (option_map (λ r. r.now) l.left))
      → HasForeign g.M.Machine.ways g.M.Machine.foreign l.fn.machine (parts l.batch);
  owes : owes_all g.M.Machine.ways l.fn.machine (parts l.batch) ≡ l.answer.items ++ owes_all g.M.Machine.ways l.machine (parts_left (option_map (λ r. r.now) l.left));
}

abbrev pub decreases-loop-left : goal.decreases-loop-left
decreases-loop-left g l = size_left (option_map (λ r. r.now) l.left)
