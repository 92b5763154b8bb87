-- Rounds and commands of a script in which the two alone have nodes.
pub use Rattle.script_run.specs.Finish.{AreTwo, At}
use Rattle.std.proofs.Common.{◌≡◌, ℕ, ◌+◌, Bool, false, List, [], ◌∷◌, ◌++◌, drop, sym, ◌∙◌, ap, subst}
use Rattle.std.specs.Prelude.{fold, None, Result, Ok}
use Rattle.call_history.specs.declared.call.Call.{Call}
use Rattle.call_history.specs.declared.entry.Entry.{Entry}
use Rattle.channel_values.specs.Digests.{name_of_person}
use Rattle.network.specs.declared.command.Command.{Command}
use Rattle.network.specs.declared.lookout.Lookout.{Lookout}
use Rattle.network.specs.declared.outs.NodeFault.{NodeFault}
use Rattle.network.specs.declared.outs.Outs.{Outs}
use Rattle.network.specs.Entered.{oldest_first}
use Rattle.network.specs.Members.{accepted}
use Rattle.network.specs.Worlds.{WorldOf, happened, given}
use Rattle.network.specs.declared.happening.Happening.TheVariants as happenings
use Rattle.channel_node.specs.Giving.{command_answers}
use Rattle.channel_node.specs.Minds.{Mind, saw}
use Rattle.channel_node.specs.Nodes.{NodeOf, told_to}
use Rattle.channel_node.specs.Playing.{SignerOf, signing_of}
use Rattle.stage_tables.specs.Stages.{stages}
use Rattle.channel_node.specs.Exiting.{leaves}
use Rattle.node_guarantees.specs.Ways.{Numbered, ways, noting_if}
use Rattle.script_play.specs.Play.{SceneOf, play_round, told}
use Rattle.script_play.specs.Rounds.{Letter, Mailed, round}
use Rattle.step_meanings.specs.declared.names.Names.{Names}
use Rattle.step_meanings.specs.declared.people.Person.{Person}
use Rattle.support_rules.specs.Real.{real}
use Rattle.script_run.specs.Pair.{node, Becomes, Past}
use Rattle.script_run.specs.TwoPeople.{Pair}
use Rattle.script_run.proofs.Acting.{the-mailed, sees_all}
use Rattle.script_run.proofs.Rounds.{rounds_are_made}
use Rattle.script_run.specs.Rounds.{world, member, Is, Pairing, enter_all, Does, StaysCalm}

pub scene_round : (p : Pair) (names : Names) {h : List Entry} (h1 h2 : List Entry) {q : Pairing} {post : List Letter} {s : SceneOf Numbered}
    {mind_a mind_b : Mind} {used_a used_b : ℕ} {sends_a sends_b : List Letter} {calls_a calls_b : List Call}
    → AreTwo p names.people → At names h q post s → enter_all 1 h calls_a ≡ h1 → enter_all 2 h1 calls_b ≡ h2
    → Does q.signer_a (name_of_person p.key_a) h post q.mind_a q.used_a mind_a used_a sends_a calls_a
    → Does q.signer_b (name_of_person p.key_b) h1 post q.mind_b q.used_b mind_b used_b sends_b calls_b
    → StaysCalm h h2
    → At names h2 (record q { mind_a = mind_a; mind_b = mind_b; used_a = used_a; used_b = used_b }) (sends_a ++ sends_b) (play_round ways s)
scene_round p names {h} h1 h2 {q} {post} {s} {mind_a} {mind_b} {used_a} {used_b} {sends_a} {sends_b} {calls_a} {calls_b} are at first_is second_is does_a does_b stays =
    let db : Does q.signer_b (name_of_person p.key_b) (enter_all 1 h calls_a) post q.mind_b q.used_b mind_b used_b sends_b calls_b =
    subst (λ (k : List Entry). Does q.signer_b (name_of_person p.key_b) k post q.mind_b q.used_b mind_b used_b sends_b calls_b) (sym first_is) does_b in
    let whole : enter_all 2 (enter_all 1 h calls_a) calls_b ≡ h2 = ap (λ (k : List Entry). enter_all 2 k calls_b) first_is ∙ second_is in
    let made = rounds_are_made are.first are.second are.others p.key_a p.key_b h post q s.world are.one are.two are.node_a are.node_b are.key_a are.key_b are.bare at.is mind_a mind_b used_a used_b sends_a sends_b calls_a calls_b does_a db
    (subst (StaysCalm h) (sym whole) stays) in
    let rounds : round ways s.names.people (the-mailed s.world s.post) ≡ the-mailed made.0 (sends_a ++ sends_b) =
    ap (λ (n : Names). round ways n.people (the-mailed s.world s.post)) at.named
    ∙ ap (λ (people : List Person). round ways people (the-mailed s.world s.post)) are.are
    ∙ ap (λ (letters : List Letter). round ways (are.first ∷ are.second ∷ are.others) (the-mailed s.world letters)) at.mail
    ∙ made.1 in
    record {
      named = at.named;
      is = subst (Is h2 (record q { mind_a = mind_a; mind_b = mind_b; used_a = used_a; used_b = used_b })) (sym (ap (λ (m : Mailed Numbered). m.world) rounds))
          (subst (λ (k : List Entry). Is k (record q { mind_a = mind_a; mind_b = mind_b; used_a = used_a; used_b = used_b }) made.0) whole made.2);
      mail = ap (λ (m : Mailed Numbered). m.post) rounds;
    }

-- ---- a command

-- what it does: the node follows the entries, takes the command up, and sends this
pub record Obeys (signer : SignerOf) (h : List Entry) (command : Command) (m : Mind) (used : ℕ) (after : Mind) (used_after : ℕ) (sends : List Letter) : Type 0 where
  pub stays : leaves command ≡ false
  pub seen : Mind
  pub sees : fold (λ x e. saw real e x) m (drop m.view.count (oldest_first h)) ≡ seen
  pub becomes : (step : ℕ) (journal : Past) (commands : List Command) → Becomes signer after used_after (told_to stages real (signing_of signer) step command (node signer seen used journal commands))
  pub answers : (journal : Past) (commands : List Command) → command_answers stages real (signing_of signer) 0 command (node signer seen used journal commands) ≡ Ok (record { sends = sends; calls = []; spent = None })

-- what is noted of an exit, after an exit alone
abbrev noted_a : List Entry → Bool → NodeOf → List Lookout → NodeOf → List Lookout → WorldOf Numbered
noted_a h t n eye_a b eye_b = record { history = h; members = record { node = noting_if t (record { number = 1; node = n; exits = None }); watchers = eye_a } ∷ member 2 b eye_b ∷ []; is_lost = false }

abbrev noted_b : List Entry → Bool → NodeOf → List Lookout → NodeOf → List Lookout → WorldOf Numbered
noted_b h t a eye_a n eye_b = record { history = h; members = member 1 a eye_a ∷ record { node = noting_if t (record { number = 2; node = n; exits = None }); watchers = eye_b } ∷ []; is_lost = false }

pub scene_told_a : (names : Names) (h : List Entry) (q : Pairing) (post sends : List Letter) (s : SceneOf Numbered) (step : ℕ) (command : Command) (after : Mind) (used_after : ℕ)
    → At names h q post s → Obeys q.signer_a h command q.mind_a q.used_a after used_after sends
    → At names h (record q { mind_a = after; used_a = used_after }) (post ++ sends) (told ways step command s 1)
scene_told_a names h q post sends s step command after used_after at o =
    let k = at.is in
    let n : NodeOf = node q.signer_a o.seen q.used_a k.knows_a.journal k.knows_a.commands in
    let shown : happened ways (happenings.See 1) s.world ≡ world h n k.eye_a k.b k.eye_b =
    ap (happened ways (happenings.See 1)) k.is
    ∙ ap (λ (x : NodeOf). happened ways (happenings.See 1) (world h x k.eye_a k.b k.eye_b)) k.knows_a.is
    ∙ ap (λ (x : NodeOf). world h x k.eye_a k.b k.eye_b) (sees_all q.signer_a (drop q.mind_a.view.count (oldest_first h)) q.mind_a q.used_a k.knows_a.journal k.knows_a.commands ∙ ap (λ (x : Mind). node q.signer_a x q.used_a k.knows_a.journal k.knows_a.commands) o.sees) in
    let done : happened ways (happenings.Command 1 step command) (happened ways (happenings.See 1) s.world) ≡ world h (told_to stages real (signing_of q.signer_a) step command n) k.eye_a k.b k.eye_b =
    ap (happened ways (happenings.Command 1 step command)) shown
    ∙ ap (λ (t : Bool). noted_a h t (told_to stages real (signing_of q.signer_a) step command n) k.eye_a k.b k.eye_b) o.stays in
    record {
      named = at.named;
      is = record {
        a = told_to stages real (signing_of q.signer_a) step command n;
        b = k.b;
        eye_a = k.eye_a;
        eye_b = k.eye_b;
        is = done;
        knows_a = o.becomes step k.knows_a.journal k.knows_a.commands;
        knows_b = k.knows_b;
        calm_a = k.calm_a;
        calm_b = k.calm_b;
      };
      mail = ap (λ (w : WorldOf Numbered). s.post ++ (given ways (happenings.Command 1 step command) w).sends) shown
          ∙ ap (λ (r : Result Outs NodeFault). s.post ++ (accepted r).sends) (o.answers k.knows_a.journal k.knows_a.commands)
          ∙ ap (λ (letters : List Letter). letters ++ sends) at.mail;
    }

pub scene_told_b : (names : Names) (h : List Entry) (q : Pairing) (post sends : List Letter) (s : SceneOf Numbered) (step : ℕ) (command : Command) (after : Mind) (used_after : ℕ)
    → At names h q post s → Obeys q.signer_b h command q.mind_b q.used_b after used_after sends
    → At names h (record q { mind_b = after; used_b = used_after }) (post ++ sends) (told ways step command s 2)
scene_told_b names h q post sends s step command after used_after at o =
    let k = at.is in
    let n : NodeOf = node q.signer_b o.seen q.used_b k.knows_b.journal k.knows_b.commands in
    let shown : happened ways (happenings.See 2) s.world ≡ world h k.a k.eye_a n k.eye_b =
    ap (happened ways (happenings.See 2)) k.is
    ∙ ap (λ (x : NodeOf). happened ways (happenings.See 2) (world h k.a k.eye_a x k.eye_b)) k.knows_b.is
    ∙ ap (λ (x : NodeOf). world h k.a k.eye_a x k.eye_b) (sees_all q.signer_b (drop q.mind_b.view.count (oldest_first h)) q.mind_b q.used_b k.knows_b.journal k.knows_b.commands ∙ ap (λ (x : Mind). node q.signer_b x q.used_b k.knows_b.journal k.knows_b.commands) o.sees) in
    let done : happened ways (happenings.Command 2 step command) (happened ways (happenings.See 2) s.world) ≡ world h k.a k.eye_a (told_to stages real (signing_of q.signer_b) step command n) k.eye_b =
    ap (happened ways (happenings.Command 2 step command)) shown
    ∙ ap (λ (t : Bool). noted_b h t k.a k.eye_a (told_to stages real (signing_of q.signer_b) step command n) k.eye_b) o.stays in
    record {
      named = at.named;
      is = record {
        a = k.a;
        b = told_to stages real (signing_of q.signer_b) step command n;
        eye_a = k.eye_a;
        eye_b = k.eye_b;
        is = done;
        knows_a = k.knows_a;
        knows_b = o.becomes step k.knows_b.journal k.knows_b.commands;
        calm_a = k.calm_a;
        calm_b = k.calm_b;
      };
      mail = ap (λ (w : WorldOf Numbered). s.post ++ (given ways (happenings.Command 2 step command) w).sends) shown
          ∙ ap (λ (r : Result Outs NodeFault). s.post ++ (accepted r).sends) (o.answers k.knows_b.journal k.knows_b.commands)
          ∙ ap (λ (letters : List Letter). letters ++ sends) at.mail;
    }
