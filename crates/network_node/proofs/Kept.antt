-- What a call makes of a node stands, whatever it answered.
use Rattle.std.proofs.Common.{◌≡◌, Bool, true, false, cond, List, refl, sym, ◌∙◌, ap, subst}
use Rattle.std.specs.List.{flat_map}
use Rattle.std.specs.Prelude.{ℕ, Option, Some, None, Result, Ok, Err, OnOk, OnErr, IsErr}
use Rattle.channel_safety.proofs.Tests.{clash}
use Rattle.call_history.specs.History.{Legal}
use Rattle.call_history.specs.declared.entry.Entry.{Entry}
use Rattle.call_history.specs.declared.call.Call.{Call}
use Rattle.call_history.specs.declared.event.NodeRefusal.{NodeRefusal}
use Rattle.call_history.specs.declared.held_chain.HeldChain.{HeldChain}
use Rattle.channel_store.specs.Keeping.{held_chain}
use Rattle.network.specs.Ways.{followed, looked}
use Rattle.network.specs.Histories.{RefusesAs, ComeNext, HasLooked}
use Rattle.network.specs.declared.command.Command.{Command}
use Rattle.network.specs.declared.command.Command.TheVariants.{Open, OpenOn, OpenVirtual, Pay, Close, Release, Resend, Exit}
use Rattle.network.specs.declared.lookout.Lookout.{Lookout}
use Rattle.network.specs.declared.outs.NodeFault.{NodeFault}
use Rattle.network.specs.declared.outs.NodeFault.TheVariants.{Refused, NoMemory}
use Rattle.channel_node.proofs.Calling.{lost_nodes_stand}
use Rattle.channel_node.specs.Giving.{after_tick, command_answers}
use Rattle.channel_node.specs.Nodes.{NodeOf, handled, told_to, saw_all, watched}
use Rattle.channel_node.specs.Standing.{Stands}
use Rattle.channel_node.specs.Playing.{Signing, signing_of}
use Rattle.channel_node.specs.Answers.{SameJournal, HandleAnswers, CommandAnswers}
use Rattle.stage_tables.specs.Stages.{stages}
use Rattle.node_guarantees.proofs.Answering.{answers-so}
use Rattle.fairness_laws.proofs.Owning.{nodes_stand, lost-stands, told-stands}
use Rattle.fairness_laws.specs.Owning.{StandsOwning}
use Rattle.channel_node.specs.Exiting.{leaves}
use Rattle.node_guarantees.specs.Gains.{shares_known}
use Rattle.node_guarantees.specs.Ways.{Numbered, unless_lost, noting_if, ways, seen_of}
use Rattle.support_rules.specs.Real.{real}
use Rattle.network_node.specs.Notes.{note_if}

-- what is done by a node that isn't lost
pub awake : (p : Numbered) (change : NodeOf → NodeOf) (new : NodeOf) → p.node.is_lost ≡ false → new ≡ change p.node → unless_lost change p ≡ record p { node = new }
awake p change new kept is = ap (λ (b : Bool). cond b p (record p { node = change p.node })) kept ∙ ap (λ (n : NodeOf). record p { node = n }) (sym is)

-- the node stands for what it stood for
abbrev pub KeepsStanding : List Entry → Numbered → NodeOf → Type 0
KeepsStanding h p new = Stands stages real (signing_of p.node.signer) h p.node → Stands stages real (signing_of p.node.signer) h new

-- a tick that memory didn't cut off makes of it what its ways say
pub tick_makes : {A E : Type 0} (p q : Numbered) (new : NodeOf) (result : Result A E) → q ≡ p
    → OnOk result ((q.node.is_lost ≡ false) × (new ≡ after_tick stages real (signing_of q.node.signer) q.node)) → OnOk result (record q { node = new } ≡ ways.ticked p)
tick_makes p q new (Ok outs) same ok =
    subst (λ (z : Numbered). record q { node = new } ≡ ways.ticked z) same (sym (awake q (λ n. after_tick stages real (signing_of n.signer) n) new ok.0 ok.1))
tick_makes p q new (Err fault) same ok = tt

pub tick_keeps : {A E : Type 0} (p : Numbered) (new : NodeOf) (result : Result A E)
    → OnOk result ((p.node.is_lost ≡ false) × (new ≡ after_tick stages real (signing_of p.node.signer) p.node)) → OnErr result (new.is_lost ≡ true)
    → ((h : List Entry) → Legal real h → KeepsStanding h p new) → new.signer ≡ p.node.signer
    → (h : List Entry) → Legal real h → StandsOwning h p → StandsOwning h (record p { node = new })
tick_keeps p new (Ok outs) ok err keeps signer h legal is =
    subst (StandsOwning h) (awake p (λ n. after_tick stages real (signing_of n.signer) n) new ok.0 ok.1) (nodes_stand.ticked h p legal is)
tick_keeps p new (Err fault) ok err keeps signer h legal is = lost-stands h p new err signer (keeps h legal) is

pub see_keeps : {A E : Type 0} (p : Numbered) (entries : List Entry) (new : NodeOf) (result : Result A E) → p.node.is_lost ≡ false
    → OnOk result (new ≡ saw_all real entries p.node) → OnErr result (new.is_lost ≡ true) → OnErr result (SameJournal p.node new) → new.signer ≡ p.node.signer
    → (h : List Entry) → Legal real h → ComeNext h entries (seen_of p.node) → StandsOwning h p → StandsOwning h (record p { node = new })
see_keeps p entries new (Ok done) kept ok lost same signer h legal next is =
    subst (StandsOwning h) (awake p (saw_all real entries) new kept ok) (nodes_stand.saw h entries p legal next is)
see_keeps p entries new (Err fault) kept ok lost same signer h legal next is =
    lost-stands h p new lost signer (λ st. lost_nodes_stand stages real (signing_of p.node.signer) h p.node new lost same.journal same.commands st) is

pub watch_keeps : (p : Numbered) (entries : List Entry) (l after : Lookout) (place : ℕ) (chains : List HeldChain) (calls given : List Call) (new : NodeOf)
    → after ≡ followed entries l → chains ≡ flat_map held_chain p.node.mind.kept → calls ≡ looked chains after → given ≡ calls
    → p.node.is_lost ≡ false → new ≡ watched after.seen place given p.node
    → (h : List Entry) → Legal real h → HasLooked real h (seen_of p.node) l entries → StandsOwning h p → StandsOwning h (record p { node = new })
watch_keeps p entries l after place chains calls given new after-is chains-are calls-are given-are kept is h legal looks placed =
    let same : given ≡ looked (flat_map held_chain p.node.mind.kept) (followed entries l) =
    given-are ∙ calls-are ∙ ap (λ (z : Lookout). looked chains z) after-is ∙ ap (λ (z : List HeldChain). looked z (followed entries l)) chains-are in
    let new-is : new ≡ watched (followed entries l).seen place (looked (flat_map held_chain p.node.mind.kept) (followed entries l)) p.node =
    is ∙ ap (λ (z : Lookout). watched z.seen place given p.node) after-is ∙ ap (λ (z : List Call). watched (followed entries l).seen place z p.node) same in
    subst (StandsOwning h)
    (awake p (watched (followed entries l).seen place (looked (flat_map held_chain p.node.mind.kept) (followed entries l))) new kept new-is)
    (nodes_stand.watched h entries l place p legal looks placed)

-- ---- a command

-- what is known just after a command to exit is what was known before
exit-gains : (step : ℕ) (command : Command) (n : NodeOf) → leaves command ≡ true → shares_known (told_to stages real (signing_of n.signer) step command n).mind ≡ shares_known n.mind
exit-gains step (Open f outcome) n e = absurd cc
exit-gains step (OpenOn o) n e = absurd cc
exit-gains step (OpenVirtual v) n e = absurd cc
exit-gains step (Pay channel asset amount) n e = absurd cc
exit-gains step (Close channel) n e = absurd cc
exit-gains step (Release how channel) n e = absurd cc
exit-gains step (Resend channel) n e = absurd cc
exit-gains step Exit n e = refl

-- an exit is never refused
no-exit : (s : Signing) (command : Command) (n : NodeOf) (refusal : NodeRefusal) → Err (Refused refusal) ≡ command_answers stages real s 0 command n → leaves command ≡ false
no-exit s (Open f outcome) n refusal e = refl
no-exit s (OpenOn o) n refusal e = refl
no-exit s (OpenVirtual v) n refusal e = refl
no-exit s (Pay channel asset amount) n refusal e = refl
no-exit s (Close channel) n refusal e = refl
no-exit s (Release how channel) n refusal e = refl
no-exit s (Resend channel) n refusal e = refl
no-exit s Exit n refusal e = absurd cc

-- what is noted, where there is something to note
abbrev pub taken : Option (List (ℕ × ℕ)) → Option (List (ℕ × ℕ)) → Option (List (ℕ × ℕ))
taken None before = before
taken (Some now) before = Some now

-- the node after a command that memory didn't fail
pub commanded_is : (p : Numbered) (step : ℕ) (command : Command) (new : NodeOf) (noted : Option (List (ℕ × ℕ))) → p.node.is_lost ≡ false
    → new ≡ told_to stages real (signing_of p.node.signer) step command p.node → noted ≡ note_if (leaves command) p.exits (shares_known p.node.mind)
    → record p { node = new; exits = taken noted p.exits } ≡ ways.commanded step command p
commanded_is p step command new noted kept new-is noted-is =
    ap (λ (n : NodeOf). record p { node = n; exits = taken noted p.exits }) new-is
    ∙ (ap (λ (o : Option (List (ℕ × ℕ))). record p { node = after; exits = taken o p.exits }) noted-is
    ∙ (go (leaves command) refl p.exits refl
    ∙ ap (noting_if (leaves command)) (sym (awake p (λ n. told_to stages real (signing_of n.signer) step command n) after kept refl))))
  where
    after : NodeOf
    after = told_to stages real (signing_of p.node.signer) step command p.node

    go : (b : Bool) → leaves command ≡ b → (o : Option (List (ℕ × ℕ))) → p.exits ≡ o
        → record p { node = after; exits = taken (note_if b o (shares_known p.node.mind)) o } ≡ noting_if b (record p { node = after; exits = o })
    go true leaving None is = ap (λ (now : List (ℕ × ℕ)). record p { node = after; exits = Some now }) (sym (exit-gains step command p.node leaving))
    go true leaving (Some noted) is = refl
    go false leaving o is = refl

-- one that is refused, or that memory failed
pub failed_keeps : (p : Numbered) (step : ℕ) (command : Command) (new : NodeOf) (fault : NodeFault)
    → CommandAnswers stages real (signing_of p.node.signer) step command p.node new (Err fault)
    → ((h : List Entry) → Legal real h → KeepsStanding h p new) → new.signer ≡ p.node.signer
    → (h : List Entry) → Legal real h → StandsOwning h p → StandsOwning h (record p { node = new })
failed_keeps p step command new (Refused refusal) answer keeps signer h legal is =
    subst (λ (n : NodeOf). StandsOwning h (record p { node = n })) (sym answer.2)
    (told-stands h step command p (no-exit (signing_of p.node.signer) command p.node refusal (answer.1 ∙ answers-so stages real (signing_of p.node.signer) step command p.node)) legal answer.0 is)
failed_keeps p step command new NoMemory answer keeps signer h legal is = lost-stands h p new answer signer (keeps h legal) is

-- ---- a message

pub handle_keeps : {A : Type 0} (p : Numbered) (bytes : List ℕ) (new : NodeOf) (result : Result A NodeFault) → HandleAnswers stages real bytes p.node new result
    → ((h : List Entry) → Legal real h → KeepsStanding h p new) → new.signer ≡ p.node.signer
    → (h : List Entry) → Legal real h → StandsOwning h p → StandsOwning h (record p { node = new })
handle_keeps p bytes new (Ok done) answer keeps signer h legal is =
    subst (StandsOwning h) (awake p (handled stages real bytes) new answer.0 answer.2) (nodes_stand.handled h bytes p legal is)
handle_keeps p bytes new (Err (Refused refusal)) answer keeps signer h legal is =
    subst (StandsOwning h) (awake p (handled stages real bytes) new answer.0 answer.2) (nodes_stand.handled h bytes p legal is)
handle_keeps p bytes new (Err NoMemory) answer keeps signer h legal is = lost-stands h p new answer.0 signer (keeps h legal) is

refuses-as : {A : Type 0} (p : Numbered) (bytes : List ℕ) (new : NodeOf) (result : Result A NodeFault) → HandleAnswers stages real bytes p.node new result
    → RefusesAs (ways.refuses bytes p) result
refuses-as p bytes new (Ok done) answer = answer.1
refuses-as p bytes new (Err (Refused refusal)) answer = answer.1
refuses-as p bytes new (Err NoMemory) answer = tt

-- why a message is refused is answered of its copy, and so of it
pub handle_refuses : {A : Type 0} (p : Numbered) (bytes copy : List ℕ) (new : NodeOf) (result : Result A NodeFault) → copy ≡ bytes
    → HandleAnswers stages real copy p.node new result → RefusesAs (ways.refuses bytes p) result
handle_refuses p bytes copy new result same answer =
    subst (λ (b : List ℕ). RefusesAs (ways.refuses b p) result) same (refuses-as p copy new result answer)

-- ---- running out of memory outside

-- the node is lost, with its journal as it was
pub lose_keeps : (p : Numbered) (new : NodeOf) → new ≡ record p.node { is_lost = true } → (h : List Entry) → Legal real h → StandsOwning h p → StandsOwning h (record p { node = new })
lose_keeps p new is h legal placed =
    let lost : new.is_lost ≡ true = ap (λ (n : NodeOf). n.is_lost) is in
    lost-stands h p new lost (ap (λ (n : NodeOf). n.signer) is)
    (λ st. lost_nodes_stand stages real (signing_of p.node.signer) h p.node new lost (ap (λ (n : NodeOf). n.journal) is) (ap (λ (n : NodeOf). n.commands) is) st) placed

-- a lost node answers nothing else, and stays as it is
pub stays_lost : {A E : Type 0} (p : Numbered) (new : NodeOf) (change : NodeOf) (result : Result A E) → OnOk result ((p.node.is_lost ≡ false) × (new ≡ change))
    → (p.node.is_lost ≡ true → new ≡ p.node) → p.node.is_lost ≡ true → IsErr result × (record p { node = new } ≡ p)
stays_lost p new change (Ok done) ok still lost = absurd (clash p.node.is_lost lost ok.0)
stays_lost p new change (Err fault) ok still lost = (refl, ap (λ (n : NodeOf). record p { node = n }) (still lost))

-- where memory failed the node it is lost
pub handle_loses : {A : Type 0} (bytes : List ℕ) (old new : NodeOf) (result : Result A NodeFault) → HandleAnswers stages real bytes old new result
    → result ≡ Err NoMemory → new.is_lost ≡ true
handle_loses bytes old new (Ok done) answer is = absurd cc
handle_loses bytes old new (Err (Refused refusal)) answer is = absurd cc
handle_loses bytes old new (Err NoMemory) answer is = answer.0
