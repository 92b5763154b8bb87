-- The state is added to the chain that is kept, and is the last one signed where the participant signed it.
use Rattle.std.proofs.Common.{◌∙◌, ap}
use Rattle.std.specs.Prelude.{Option}
use Rattle.channel_values.specs.Parts.{StateParts}
use Rattle.channel_values.specs.declared.chain.Chain.{Chain}
use Rattle.call_history.specs.Marked.{marked_of, chain_of, answered}
use Rattle.support_rules.specs.Real.{real}
use Rattle.channel_store.specs.declared.kept.Kept.{Kept}
use Rattle.channel_store.proofs.Held.{noted_is}
use Rattle.channel_store.proofs.kept.Kept.noted.Goals as goal

abbrev kept_as : Kept → Chain → Option StateParts → Kept
kept_as k chain last = record k { chain = chain; last = last }

pub returns : goal.returns
returns c =
    ap (λ (x : Chain). kept_as c.args.self.now x c.in_ok-last.last)
    (c.in_ok-chain-2.ensures ∙ ap (λ (x : Chain). chain_of x.fixed (answered c.args.self.now.chain.fixed c.args.signed (marked_of x))) c.in_ok-chain.ensures.same)
    ∙ ap (λ (o : Option StateParts). kept_as c.args.self.now (chain_of c.args.self.now.chain.fixed (answered c.args.self.now.chain.fixed c.args.signed (marked_of c.args.self.now.chain))) o) c.in_ok-last.ensures
    ∙ noted_is real c.args.own c.args.self.now c.args.signed c.requires.passes
