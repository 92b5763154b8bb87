use Rattle.std.proofs.Common.{◌≡◌, ℕ, ◌≤◌, ◌++◌, List, take, drop, length, arith}
use Rattle.std.proofs.lemmas.Grind.{common_steps}
use Rattle.byte_streams.proofs.Known.{Appends-more}
use Rattle.byte_streams.proofs.sink.put_all.Goals as goal

split_again : (part rest text : List ℕ) (n : ℕ) → n ≤ length rest → part ++ rest ≡ text → (part ++ take n rest) ++ drop n rest ≡ text
split_again part rest text n h e = grind (arith, common_steps)

pub loop-rest-preserved : goal.loop-rest-preserved
loop-rest-preserved g c =
    let inv = c.loop-rest.invariant in
    let gives = c.in-Took.ensures.gives in (
      omega arith,
      (
        inv.1.0 ++ take c.in-Took.count c.loop-rest.rest.now,
        rw c.split_at.ensures.back (split_again inv.1.0 c.loop-rest.rest.now c.args.text.now c.in-Took.count gives.0 inv.1.1),
        Appends-more _ _ _ inv.1.0 (take c.in-Took.count c.loop-rest.rest.now) inv.1.2 gives.2,
      ),
    )
