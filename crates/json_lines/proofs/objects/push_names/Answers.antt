use Rattle.std.proofs.Common.{◌++◌, ap, ◌∙◌}
use Rattle.std.specs.Prelude.{flat_map}
use Rattle.std.proofs.lemmas.Iterator.{YieldsList-from_slice, YieldsList-from_zip}
use Rattle.std.proofs.lemmas.Iterator.Consumers.{YieldsList-end, YieldsList-at}
use Rattle.json_lines.specs.Json.{named}
use Rattle.json_lines.proofs.objects.push_names.Goals as goal

pub returns : goal.returns
returns c =
    let e = YieldsList-end (YieldsList-at c.into_iter-name-iterator.ensures.into_iter_gives (YieldsList-from_zip {s = c.zip-name-items.result} (YieldsList-at c.zip-name-items.ensures.first (YieldsList-from_slice c.args.names.now c.iter.ensures.rest)) (YieldsList-from_slice c.args.words.now cc))) c.loop-name.yielded c.loop-name.name-iterator c.loop-name.yielded_by c.next.result c.next.new.self c.in-None.is c.next.ensures.steps in
    c.loop-name.invariant ∙ ap (λ ps. c.args.out.now.items ++ flat_map named ps) e.0
