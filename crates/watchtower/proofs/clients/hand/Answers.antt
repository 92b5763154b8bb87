-- A hand by the client's place is the hand by its name.
use Rattle.std.proofs.Common.{rules, ◌≡◌, Some, None, position, sym, ◌∙◌, ap, subst, Contains}
use Rattle.std.specs.Str.{bytes_eq}
use Rattle.call_history.specs.declared.held_chain.HeldChain.{HeldChain}
use Rattle.support_rules.specs.Real.{real}
use Rattle.watchtower.specs.Towers.{named, handed, chain_fault, fault_told}
use Rattle.watchtower.specs.Holders.{holders_of}
use Rattle.watchtower.proofs.Admitting.{fault_at, no_client, hand_at, hand_names, hand_indexed, kept_indexed, back_indexed}
use Rattle.watchtower.proofs.clients.hand.Goals as goal

pub returns-in_default-clause-fault : goal.returns-in_default-clause-fault
returns-in_default-clause-fault c =
    let none : position (bytes_eq c.args.client.now) c.args.names.now.keys ≡ None = search rules in
    sym (no_client real c.args.client.now c.args.names.now.keys c.args.clients.now.items (named c.args.chain) c.requires.names none)

pub returns-in_err-check-clause-fault : goal.returns-in_err-check-clause-fault
returns-in_err-check-clause-fault c =
    let at : position (bytes_eq c.args.client.now) c.args.names.now.keys ≡ Some c.in-Some.place = search rules in
    let checked : fault_told c.check.result ≡ chain_fault real (named c.args.chain) c.index.result.now.chains = search rules in
    let same : c.from_residual.result ≡ c.check.result = search rules in
    ap fault_told same ∙ checked
    ∙ sym (fault_at real c.args.client.now c.args.names.now.keys c.args.clients.now.items c.in-Some.place c.index.result.now (named c.args.chain) c.requires.names at c.index.ensures)

pub returns-in_err-add-clause-fault : goal.returns-in_err-add-clause-fault
returns-in_err-add-clause-fault c =
    let at : position (bytes_eq c.args.client.now) c.args.names.now.keys ≡ Some c.in-Some.place = search rules in
    let checked : None ≡ chain_fault real (named c.args.chain) c.index.result.now.chains = search rules in
    let same : fault_told c.from_residual-in_err-add.result ≡ None = search rules in
    same ∙ checked
    ∙ sym (fault_at real c.args.client.now c.args.names.now.keys c.args.clients.now.items c.in-Some.place c.index.result.now (named c.args.chain) c.requires.names at c.index.ensures)

pub returns-in_err-add-clause-indexed : goal.returns-in_err-add-clause-indexed
returns-in_err-add-clause-indexed c =
    kept_indexed c.args.clients.now.items c.args.holders.now.channels.keys c.args.holders.now.places.items c.add.new.self.channels.keys c.add.new.self.places.items c.requires.indexed c.add.ensures.kept

pub returns-in_err-put-clause-fault : goal.returns-in_err-put-clause-fault
returns-in_err-put-clause-fault c =
    let at : position (bytes_eq c.args.client.now) c.args.names.now.keys ≡ Some c.in-Some.place = search rules in
    let checked : None ≡ chain_fault real (named c.args.chain) c.index.result.now.chains = search rules in
    let same : fault_told c.from_residual-in_err-put.result ≡ None = search rules in
    same ∙ checked
    ∙ sym (fault_at real c.args.client.now c.args.names.now.keys c.args.clients.now.items c.in-Some.place c.index.result.now (named c.args.chain) c.requires.names at c.index.ensures)

pub returns-in_err-put-clause-indexed : goal.returns-in_err-put-clause-indexed
returns-in_err-put-clause-indexed c =
    let same : c.put.new.chains ≡ c.index_mut.result.now.chains = search rules in
    back_indexed c.args.clients.now.items c.in-Some.place c.index_mut.result.now c.put.new.chains c.args.holders.now.channels.keys c.args.holders.now.places.items c.add.new.self.channels.keys c.add.new.self.places.items
    c.index_mut.ensures.value same c.requires.indexed c.add.ensures.kept

pub returns-clause-fault : goal.returns-clause-fault
returns-clause-fault c =
    let at : position (bytes_eq c.args.client.now) c.args.names.now.keys ≡ Some c.in-Some.place = search rules in
    let checked : None ≡ chain_fault real (named c.args.chain) c.index.result.now.chains = search rules in
    checked
    ∙ sym (fault_at real c.args.client.now c.args.names.now.keys c.args.clients.now.items c.in-Some.place c.index.result.now (named c.args.chain) c.requires.names at c.index.ensures)

pub returns-clause-ok : goal.returns-clause-ok
returns-clause-ok c =
    let at : position (bytes_eq c.args.client.now) c.args.names.now.keys ≡ Some c.in-Some.place = search rules in
    let new : c.put.new.chains ≡ handed (named c.args.chain) c.index_mut.result.now.chains = search rules in
    hand_at c.args.client.now c.args.names.now.keys c.args.clients.now.items c.in-Some.place c.index_mut.result.now c.put.new.chains (named c.args.chain) c.requires.names at c.index_mut.ensures.value new

pub returns-clause-names : goal.returns-clause-names
returns-clause-names c =
    let at : position (bytes_eq c.args.client.now) c.args.names.now.keys ≡ Some c.in-Some.place = search rules in
    let new : c.put.new.chains ≡ handed (named c.args.chain) c.index_mut.result.now.chains = search rules in
    hand_names c.args.client.now c.args.names.now.keys c.args.clients.now.items c.in-Some.place c.index_mut.result.now c.put.new.chains (named c.args.chain) c.requires.names at c.index_mut.ensures.value new

pub returns-clause-indexed : goal.returns-clause-indexed
returns-clause-indexed c =
    let at : position (bytes_eq c.args.client.now) c.args.names.now.keys ≡ Some c.in-Some.place = search rules in
    let new : c.put.new.chains ≡ handed (named c.args.chain) c.index_mut.result.now.chains = search rules in
    let is : c.named-new.result ≡ named c.args.chain = search rules in
    let held : Contains (holders_of c.add.new.self.channels.keys c.add.new.self.places.items (named c.args.chain).channel) c.in-Some.place =
    subst (λ (h : HeldChain). Contains (holders_of c.add.new.self.channels.keys c.add.new.self.places.items h.channel) c.in-Some.place) is c.in_ok-add.ensures.added in
    hand_indexed c.args.client.now c.args.names.now.keys c.args.clients.now.items c.in-Some.place c.index_mut.result.now c.put.new.chains (named c.args.chain)
    c.args.holders.now.channels.keys c.args.holders.now.places.items c.add.new.self.channels.keys c.add.new.self.places.items
    c.requires.names at c.index_mut.ensures.value new c.requires.indexed c.add.ensures.kept held
