use Rattle.std.proofs.Common.{◌≡◌, ◌≢◌, true, false, rules, [], length, Err, arith, sym, ◌∙◌, subst}
use Rattle.std.proofs.lemmas.Bool.Decides.{nat_tests}
use Rattle.std.specs.Result.{IfErr}
use Rattle.lasting_lines.specs.Batches.{batched}
use Rattle.lasting_lines.specs.Endings.{FailsBy, ForeignIn, FullIn}
use Rattle.lasting_lines.specs.Lines.{after, response, line_in, is_right, IsLine}
use Rattle.lasting_lines.proofs.Endings.{row_fails}
use Rattle.lasting_lines.proofs.Playing.{playing_more, found_whole, found_torn, found_tail}
use Rattle.lasting_lines.proofs.recovery.recover.Goals as goal

pub returns-in_default-2-clause-found : goal.returns-in_default-2-clause-found
returns-in_default-2-clause-found g c =
    let wrong : is_right (batched g.M.Machine.ways) c.loop-split.played c.in-Some.split.row.now ≡ false = search rules in
    found_tail (batched g.M.Machine.ways) c.args.played c.args.file.now c.args.from c.loop-split.played c.loop-split.rest.now c.loop-split.again.items
    c.loop-split.invariant c.in-Some.split.row.now c.in-Some.split.rest.now c.in-Some.ensures.some c.in-Some.ensures.row wrong
    c.tail_found.result c.tail_found.ensures.torn c.tail_found.ensures.damaged

pub returns-in_err-text-clause-fails : goal.returns-in_err-text-clause-fails
returns-in_err-text-clause-fails g c =
    let is : c.from_residual.result ≡ Err c.in_err-text.field-0.0 = search rules in
    subst (λ r. IfErr r (FailsBy (ForeignIn g.M.Machine.ways g.M.Machine.foreign c.args.played c.args.file.now) (FullIn g.M.Machine.ways c.args.played c.args.file.now))) (sym is)
    (row_fails g.M.Machine.ways g.M.Machine.foreign c.args.played c.args.file.now c.args.from c.loop-split.played c.loop-split.rest.now c.loop-split.again.items
    c.loop-split.invariant c.in-Some.split.row.now c.in-Some.split.rest.now _ c.in-Some.ensures.some c.in_err-text.ensures.fails)

pub loop-split-preserved : goal.loop-split-preserved
loop-split-preserved g c =
    let line = line_in (batched g.M.Machine.ways) c.loop-split.played c.in-Some.split.row.now in
    let right : is_right (batched g.M.Machine.ways) c.loop-split.played c.in-Some.split.row.now ≡ true = search rules in
    let place : c.replay.new.self ≡ after (batched g.M.Machine.ways) c.loop-split.played line = search rules in
    let answer : c.in-Some-2.text.items ≡ response (batched g.M.Machine.ways) c.loop-split.played line = search rules in
    playing_more (batched g.M.Machine.ways) c.args.played c.args.file.now c.args.from c.loop-split.played c.loop-split.rest.now c.loop-split.again.items
    c.loop-split.invariant c.in-Some.split.row.now c.in-Some.split.rest.now c.in-Some.ensures.some c.in-Some.ensures.row right
    c.replay.new.self place c.deref.result.now (c.deref.ensures.value ∙ answer) c.add_above.new.texts.items c.in_ok-add_above.ensures

pub returns-then-is_empty-clause-found : goal.returns-then-is_empty-clause-found
returns-then-is_empty-clause-found g c =
    let is : IsLine c.loop-split.rest.now = search rules in
    let none : length c.loop-split.rest.now ≡ 0 = grind (arith, nat_tests) in
    found_whole (batched g.M.Machine.ways) c.args.played c.args.file.now c.args.from c.loop-split.played c.loop-split.rest.now c.loop-split.again.items
    c.loop-split.invariant is none

pub returns-else-is_empty-clause-found : goal.returns-else-is_empty-clause-found
returns-else-is_empty-clause-found g c =
    let is : IsLine c.loop-split.rest.now = search rules in
    let some : c.loop-split.rest.now ≢ [] = search rules in
    found_torn (batched g.M.Machine.ways) c.args.played c.args.file.now c.args.from c.loop-split.played c.loop-split.rest.now c.loop-split.again.items
    c.loop-split.invariant is some
