-- Whatever a node with these ways is told, handed or shown, it stands for the history.
use Rattle.std.proofs.Common.{◌≡◌, ℕ, ◌≤◌, Bool, true, false, cond, List, [], ◌∷◌, length, refl, sym, ◌∙◌, ap, subst, arith}
use Rattle.std.specs.List.{AllByRecursion, flat_map}
use Rattle.std.specs.Prelude.{Option, Some, None}
use Rattle.std.specs.Option.{option_or}
use Rattle.call_history.specs.History.{Legal}
use Rattle.call_history.specs.Rows.{fixed_of}
use Rattle.call_history.specs.declared.call.Call.TheVariants.{Deposit, Challenge, Respond, Refute, Checkpoint, Conclude, Transfer, Claim}
use Rattle.call_history.specs.declared.call.Op.{Op}
use Rattle.call_history.specs.declared.call.Op.TheVariants as ops
use Rattle.call_history.specs.declared.entry.Entry.{Entry}
use Rattle.call_history.specs.declared.event.Deed.TheVariants as deeds
use Rattle.call_history.specs.declared.event.Event.{Event}
use Rattle.call_history.specs.declared.view.WorldView.{WorldView}
use Rattle.channel_safety.proofs.Tests.{clash}
use Rattle.channel_store.specs.Keeping.{held_chain}
use Rattle.history_view.specs.Few.{OfFew}
use Rattle.channel_safety.specs.Valid.{IsValidOp, IsValidEntry}
use Rattle.network.specs.Ways.{followed, looked}
use Rattle.network.specs.Histories.{ComeNext, HasLooked}
use Rattle.network.specs.declared.command.Command.{Command}
use Rattle.network.specs.declared.command.Command.TheVariants.{Open, OpenOn, OpenVirtual, Pay, Close, Release, Resend, Exit}
use Rattle.network.specs.declared.lookout.Lookout.{Lookout}
use Rattle.channel_node.proofs.Keys.{made_nodes_are_honest}
use Rattle.channel_node.specs.Keys.{FitsSigner}
use Rattle.channel_node.proofs.Calling.{calls_keep_standing, fresh_nodes_stand, standing_grows}
use Rattle.channel_node.proofs.Keepers.{count-is}
use Rattle.channel_node.proofs.Places.{told-command}
use Rattle.channel_node.specs.Giving.{after_tick}
use Rattle.channel_node.specs.Nodes.{NodeOf, told_of, handled, told_to, saw_one, saw_all, watched}
use Rattle.channel_node.specs.Standing.{Knows, Stands}
use Rattle.channel_node.specs.Places.{Told, tell, AreFew, mind_at}
use Rattle.channel_node.specs.Playing.{SignerOf, signing_of}
use Rattle.stage_tables.specs.Stages.{stages}
use Rattle.support_rules.specs.Real.{real}
use Rattle.node_guarantees.specs.WayLaws.{NodesAreKept}
use Rattle.channel_node.specs.Exiting.{leaves, until_exit}
use Rattle.node_guarantees.specs.Gains.{shares_known, or_now}
use Rattle.node_guarantees.specs.Ways.{Numbered, made_of, key_of, seen_of, unless_lost, noting_exit, ways}
use Rattle.node_guarantees.specs.Placed.{IsKnownAt, IsNoted, IsPlaced}
use Rattle.node_guarantees.proofs.Following.{sees-within, sees-all, looks-so}
use Rattle.node_guarantees.proofs.Staying.{Stays, wrote-event, handled-stays, tick-stays, told-stays, saw-signer}

-- ---- values are of few people

few-op : (op : Op) → IsValidOp op → OfFew (fixed_of op)
few-op (ops.Time t) valid = tt
few-op (ops.Call (Deposit d)) valid = tt
few-op (ops.Call (Challenge k)) valid = valid.0.at_most_four
few-op (ops.Call (Respond k)) valid = valid.0.at_most_four
few-op (ops.Call (Refute f next)) valid = valid.0.at_most_four
few-op (ops.Call (Checkpoint chain)) valid = valid.0.at_most_four
few-op (ops.Call (Conclude chain)) valid = valid.0.at_most_four
few-op (ops.Call (Transfer k)) valid = tt
few-op (ops.Call (Claim k)) valid = tt

pub few-values : (h : List Entry) → AllByRecursion IsValidEntry h → AreFew h
few-values [] valid = tt
few-values (e ∷ h) valid = (few-op e.op valid.0, few-values h valid.1)

-- ---- one call

-- what was noted, as long as the signer stays and no first command to exit comes
still-noted : (h : List Entry) (p : Numbered) (new : NodeOf) → new.signer ≡ p.node.signer → until_exit (told_of new) ≡ until_exit (told_of p.node)
    → IsNoted h (key_of p.node.signer) p.exits (until_exit (told_of p.node)) → IsNoted h (key_of new.signer) p.exits (until_exit (told_of new))
still-noted h p new signer exit was =
    subst (λ (s : SignerOf). IsNoted h (key_of s) p.exits (until_exit (told_of new))) (sym signer)
    (subst (IsNoted h (key_of p.node.signer) p.exits) (sym exit) was)

-- what a call makes of a node that isn't lost
placed : (h : List Entry) (p : Numbered) (new : NodeOf) → Stays p.node new
    → (Stands stages real (signing_of p.node.signer) h p.node → Stands stages real (signing_of p.node.signer) h new) → IsPlaced h p → IsPlaced h (record p { node = new })
placed h p new same keeps is =
    record {
      sound = subst FitsSigner (sym same.signer) is.sound;
      within =
          subst (λ (k : ℕ). k ≤ length h)
          (sym (ap (λ (b : Bool). cond b 0 new.mind.view.count) same.lost ∙ ap (λ (v : WorldView). cond p.node.is_lost 0 v.count) same.view)) is.within;
      stands = λ few. subst (λ (s : SignerOf). Stands stages real (signing_of s) h new) (sym same.signer) (keeps (is.stands few));
      noted = λ few kept. still-noted h p new same.signer same.exit (is.noted few (sym same.lost ∙ kept));
    }

unless : (h : List Entry) (p : Numbered) (change : NodeOf → NodeOf) → IsPlaced h p → (p.node.is_lost ≡ false → IsPlaced h (record p { node = change p.node }))
    → IsPlaced h (unless_lost change p)
unless h p change is keeps = go p.node.is_lost refl
  where
    go : (b : Bool) → p.node.is_lost ≡ b → IsPlaced h (cond b p (record p { node = change p.node }))
    go true lost = is
    go false kept = keeps kept

pub told-placed : (h : List Entry) (step : ℕ) (command : Command) (p : Numbered) → leaves command ≡ false → Legal real h → p.node.is_lost ≡ false → IsPlaced h p
    → IsPlaced h (record p { node = told_to stages real (signing_of p.node.signer) step command p.node })
told-placed h step command p stays legal kept is =
    placed h p (told_to stages real (signing_of p.node.signer) step command p.node) (told-stays stages real (signing_of p.node.signer) step command p.node stays)
    (λ st. (calls_keep_standing stages real (signing_of p.node.signer) h p.node legal kept st).tells step command) is

-- ---- a command to exit

-- the node just after it
exited : ℕ → Numbered → NodeOf
exited step p = told_to stages real (signing_of p.node.signer) step Exit p.node

-- what is noted is what is known then, unless it was noted before
exit-noted : (h : List Entry) (step : ℕ) (p : Numbered) → Legal real h → p.node.is_lost ≡ false → Stands stages real (signing_of p.node.signer) h (exited step p)
    → IsNoted h (key_of p.node.signer) p.exits (until_exit (told_of p.node))
    → IsNoted h (key_of p.node.signer) (or_now p.exits (shares_known (exited step p).mind)) (until_exit (told_of (exited step p)))
unfolding signing_of exited
exit-noted h step p legal kept stands was =
    subst (λ (events : List Told). IsNoted h (key_of p.node.signer) (or_now p.exits (shares_known (exited step p).mind)) (until_exit events)) (sym told-is)
    (go p.exits (until_exit (told_of p.node)) was)
  where
    event : Event
    event = record { seen = p.node.mind.view.count; deed = deeds.Commanded step None }

    x : Told
    x = tell event (Some Exit)

    told-is : told_of (exited step p) ≡ x ∷ told_of p.node
    told-is = told-command p.node.journal event p.node.commands Exit refl

    knows : Knows real (signing_of p.node.signer) h (exited step p)
    knows = stands.knows kept

    here : IsKnownAt h (key_of p.node.signer) (shares_known (exited step p).mind) (x ∷ told_of p.node)
    here = record {
      later = knows.later;
      past = knows.past;
      split = knows.split;
      seen = sym (count-is stages real (signing_of p.node.signer) h legal (exited step p) knows);
      shares = ap shares_known (knows.mind ∙ ap (mind_at real (key_of p.node.signer) knows.past) told-is);
    }

    go : (o : Option (List (ℕ × ℕ))) (events : Option (List Told)) → IsNoted h (key_of p.node.signer) o events
        → IsNoted h (key_of p.node.signer) (or_now o (shares_known (exited step p).mind)) (option_or events (Some (x ∷ told_of p.node)))
    go None None was = here
    go (Some amounts) (Some front) was = was
    go None (Some front) was = absurd was
    go (Some amounts) None was = absurd was

exit-placed : (h : List Entry) (step : ℕ) (p : Numbered) → Legal real h → IsPlaced h p → IsPlaced h (ways.commanded step Exit p)
unfolding exited
exit-placed h step p legal is = go p.node.is_lost refl
  where
    go : (b : Bool) → p.node.is_lost ≡ b → IsPlaced h (noting_exit (cond b p (record p { node = exited step p })))
    go true lost = record { sound = is.sound; within = is.within; stands = is.stands; noted = λ few kept. absurd (clash p.node.is_lost lost kept) }
    go false kept =
        let stands : AreFew h → Stands stages real (signing_of p.node.signer) h (exited step p) =
        λ few. (calls_keep_standing stages real (signing_of p.node.signer) h p.node legal kept (is.stands few)).tells step Exit
        in
        record {
          sound = is.sound;
          within = is.within;
          stands = stands;
          noted = λ few still. exit-noted h step p legal kept (stands few) (is.noted few kept);
        }

-- ---- commands

command-placed : (h : List Entry) (step : ℕ) (command : Command) (p : Numbered) → leaves command ≡ false → Legal real h → IsPlaced h p
    → IsPlaced h (unless_lost (λ n. told_to stages real (signing_of n.signer) step command n) p)
command-placed h step command p stays legal is =
    unless h p (λ n. told_to stages real (signing_of n.signer) step command n) is (λ kept. told-placed h step command p stays legal kept is)

commanded-placed : (h : List Entry) (step : ℕ) (command : Command) (p : Numbered) → Legal real h → IsPlaced h p → IsPlaced h (ways.commanded step command p)
commanded-placed h step (Open f outcome) p legal is = command-placed h step (Open f outcome) p refl legal is
commanded-placed h step (OpenOn o) p legal is = command-placed h step (OpenOn o) p refl legal is
commanded-placed h step (OpenVirtual v) p legal is =
    command-placed h step (OpenVirtual v) p refl legal is
commanded-placed h step (Pay channel asset amount) p legal is = command-placed h step (Pay channel asset amount) p refl legal is
commanded-placed h step (Close channel) p legal is = command-placed h step (Close channel) p refl legal is
commanded-placed h step (Release how channel) p legal is = command-placed h step (Release how channel) p refl legal is
commanded-placed h step (Resend channel) p legal is = command-placed h step (Resend channel) p refl legal is
commanded-placed h step Exit p legal is = exit-placed h step p legal is

-- ---- a tick, entries and looks

-- a tick: the states, the challenges, and then the calls
tick-placed : (h : List Entry) (p : Numbered) → Legal real h → p.node.is_lost ≡ false → IsPlaced h p
    → IsPlaced h (record p { node = after_tick stages real (signing_of p.node.signer) p.node })
tick-placed h p legal kept is =
    placed h p (after_tick stages real (signing_of p.node.signer) p.node) (tick-stays stages real (signing_of p.node.signer) p.node)
    (λ st. (calls_keep_standing stages real (signing_of p.node.signer) h p.node legal kept st).ticks_all) is

-- a count of a node that isn't lost
seen-kept : (n : NodeOf) → n.is_lost ≡ false → seen_of n ≡ n.mind.view.count
seen-kept n kept = ap (λ (b : Bool). cond b 0 n.mind.view.count) kept

saw-placed : (h entries : List Entry) (p : Numbered) → Legal real h → ComeNext h entries (seen_of p.node) → p.node.is_lost ≡ false → IsPlaced h p
    → IsPlaced h (record p { node = saw_all real entries p.node })
saw-placed h entries p legal next kept is =
    record {
      sound = subst FitsSigner (sym (saw-signer stages real entries p.node)) is.sound;
      within = subst (λ (k : ℕ). k ≤ length h) (sym (seen-kept (saw_all real entries p.node) (lost-stays entries p.node ∙ kept))) (sees-within stages real h legal entries p.node here);
      stands = λ few.
          subst (λ (s : SignerOf). Stands stages real (signing_of s) h (saw_all real entries p.node)) (sym (saw-signer stages real entries p.node))
          (sees-all stages real h legal (signing_of p.node.signer) entries p.node few kept here (is.stands few));
      noted = λ few still. still-noted h p (saw_all real entries p.node) (saw-signer stages real entries p.node) (ap until_exit (events-stay entries p.node)) (is.noted few kept);
    }
  where
    here : ComeNext h entries p.node.mind.view.count
    here = subst (ComeNext h entries) (seen-kept p.node kept) next

    events-stay : (entries : List Entry) (n : NodeOf) → told_of (saw_all real entries n) ≡ told_of n
    events-stay [] n = refl
    events-stay (e ∷ entries) n = events-stay entries (saw_one real n e)

    lost-stays : (entries : List Entry) (n : NodeOf) → (saw_all real entries n).is_lost ≡ n.is_lost
    lost-stays [] n = refl
    lost-stays (e ∷ entries) n = lost-stays entries (saw_one real n e)

watched-placed : (h entries : List Entry) (l : Lookout) (place : ℕ) (p : Numbered) → Legal real h → HasLooked real h (seen_of p.node) l entries → p.node.is_lost ≡ false → IsPlaced h p
    → IsPlaced h (record p { node = watched (followed entries l).seen place (looked (flat_map held_chain p.node.mind.kept) (followed entries l)) p.node })
watched-placed h entries l place p legal looks kept is =
    record {
      sound = is.sound;
      within = is.within;
      stands = λ few.
          (calls_keep_standing stages real (signing_of p.node.signer) h p.node legal kept (is.stands few)).watches (followed entries l).seen place
          (looked (flat_map held_chain p.node.mind.kept) (followed entries l))
          (looks-so stages real h legal entries l p.node (λ f. refl) few (subst (λ (k : ℕ). HasLooked real h k l entries) (seen-kept p.node kept) looks));
      noted = λ few still.
          still-noted h p (watched (followed entries l).seen place (looked (flat_map held_chain p.node.mind.kept) (followed entries l)) p.node) refl
          (wrote-event p.node (record { seen = (followed entries l).seen; deed = deeds.Watched place (looked (flat_map held_chain p.node.mind.kept) (followed entries l)) }) refl refl)
          (is.noted few kept);
    }

-- what was noted stands in a longer history
noted-grows : (h : List Entry) (e : Entry) (key : List ℕ) (o : Option (List (ℕ × ℕ))) (events : Option (List Told)) → IsNoted h key o events → IsNoted (e ∷ h) key o events
noted-grows h e key None None was = tt
noted-grows h e key (Some amounts) (Some front) was =
    record { later = e ∷ was.later; past = was.past; split = ap (λ (es : List Entry). e ∷ es) was.split; seen = was.seen; shares = was.shares }
noted-grows h e key None (Some front) was = absurd was
noted-grows h e key (Some amounts) None was = absurd was

pub nodes_are_kept : NodesAreKept
nodes_are_kept =
    record {
      fresh = λ h number signer fresh. record {
        sound = record { sixteen = fresh.id; height = fresh.height };
        within = omega arith;
        stands = λ few. fresh_nodes_stand stages real (made_of signer) h;
        noted = λ few kept. tt;
      };
      saw = λ h entries p legal next is. unless h p (saw_all real entries) is (λ kept. saw-placed h entries p legal next kept is);
      commanded = commanded-placed;
      handled = λ h bytes p legal is.
          unless h p (handled stages real bytes) is
          (λ kept. placed h p (handled stages real bytes p.node) (handled-stays stages real bytes p.node) (λ st. (calls_keep_standing stages real (signing_of p.node.signer) h p.node legal kept st).handles bytes) is);
      ticked = λ h p legal is. unless h p (λ n. after_tick stages real (signing_of n.signer) n) is (λ kept. tick-placed h p legal kept is);
      watched = λ h entries l place p legal looks is.
          unless h p (watched (followed entries l).seen place (looked (flat_map held_chain p.node.mind.kept) (followed entries l))) is (λ kept. watched-placed h entries l place p legal looks kept is);
      grows = λ h e p legal is. record {
        sound = is.sound;
        within = (let a : seen_of p.node ≤ length h = is.within in omega arith);
        stands = λ few. standing_grows stages real (signing_of p.node.signer) h e p.node (is.stands few.1);
        noted = λ few kept. noted-grows h e (key_of p.node.signer) p.exits (until_exit (told_of p.node)) (is.noted few.1 kept);
      };
      within = λ h p is. is.within;
      honest = λ h p legal valid is. made_nodes_are_honest stages h p.node is.sound legal (is.stands (few-values h valid));
    }

-- ---- where memory failed it

-- as long as its journal, its commands and its signer stay
pub lost-placed : (h : List Entry) (p : Numbered) (new : NodeOf) → new.is_lost ≡ true → new.signer ≡ p.node.signer
    → (Stands stages real (signing_of p.node.signer) h p.node → Stands stages real (signing_of p.node.signer) h new) → IsPlaced h p → IsPlaced h (record p { node = new })
lost-placed h p new lost signer keeps is =
    record {
      sound = subst FitsSigner (sym signer) is.sound;
      within = subst (λ (k : ℕ). k ≤ length h) (sym (ap (λ (b : Bool). cond b 0 new.mind.view.count) lost)) (omega arith);
      stands = λ few. subst (λ (s : SignerOf). Stands stages real (signing_of s) h new) (sym signer) (keeps (is.stands few));
      noted = λ few kept. absurd (clash new.is_lost lost kept);
    }
