-- What words ask for has 1 to 1,000 payments, and a load reads nothing.
use Rattle.std.proofs.Common.{◌≡◌, Some, refl, rules}
use Rattle.byte_streams.proofs.Known.{keeps_all}
use Rattle.script_run.proofs.Counts.{some_payments, few_payments}
use Rattle.script_run.specs.Run.{given}
use Rattle.command_words.specs.Words.{asked}
use Rattle.command_words.specs.declared.asking.Asked.TheVariants.{Load}
use Rattle.script_run.proofs.run.end_in_one_thread.Goals as goal

pub run_load-requires-clause-some : goal.run_load-requires-clause-some
run_load-requires-clause-some g c =
    let is : asked c.args.words.now ≡ Some (Load c.in-Some-Load.seed c.in-Some-Load.count) = search rules in
    some_payments c.args.words.now c.in-Some-Load.seed c.in-Some-Load.count is

pub run_load-requires-clause-few : goal.run_load-requires-clause-few
run_load-requires-clause-few g c =
    let is : asked c.args.words.now ≡ Some (Load c.in-Some-Load.seed c.in-Some-Load.count) = search rules in
    few_payments c.args.words.now c.in-Some-Load.seed c.in-Some-Load.count is

pub returns-in-Some-Load-clause-ends : goal.returns-in-Some-Load-clause-ends
returns-in-Some-Load-clause-ends g c cast =
    let is : asked c.args.words.now ≡ Some (Load c.in-Some-Load.seed c.in-Some-Load.count) = search rules in
    c.run_load.ensures.ends cast (given g.S.Source c.args.words.now c.args.source.now c.args.source.now) is
    (keeps_all (g.S.Source.remaining c.args.source.now), refl)
