-- A payment, and the round in which it is taken.
use Rattle.std.proofs.Common.{◌≡◌, ℕ, suc, ◌+◌, ◌-◌, true, false, List, [], ◌∷◌, refl, arith}
use Rattle.std.specs.Prelude.{◌^◌, nat_lt, nat_le, Option, Some}
use Rattle.channel_values.specs.Parts.{StateParts}
use Rattle.channel_values.specs.declared.chain.Mark.{Mark}
use Rattle.channel_values.specs.Digests.{name_of_person}
use Rattle.channel_node.specs.Minds.{Mind}
use Rattle.channel_node.specs.Playing.{SignerOf, signing_of}
use Rattle.node_guarantees.specs.Ways.{Numbered, ways}
use Rattle.script_play.specs.Play.{SceneOf, play_round, told}
use Rattle.step_meanings.specs.declared.names.Names.{Names}
use Rattle.support_rules.specs.Real.{real}
use Rattle.script_run.proofs.PairNumbers.{same-number, sum-a, sum-b}
use Rattle.script_run.specs.Pair.{mark, marks_a, marks_b, state, funded}
use Rattle.script_run.specs.TwoPeople.{Pair, name}
use Rattle.script_run.proofs.Replies.{deposits}
use Rattle.script_run.proofs.Running.{Runs, PaysA, PaysB, rests, calls_nothing, pays_a, pays_b, signs_payment_a, signs_payment_b, takes_payment_a, takes_payment_b}
use Rattle.script_run.proofs.Nodes.{tick_waits, told_pay, answers_pay, handles, sends_a, sends_b}
use Rattle.script_run.proofs.Notes.{by, notes_a, notes_b}
use Rattle.script_run.proofs.Phases.{Fits, signature, bytes, does, came, passes, at}
use Rattle.script_run.proofs.Scenes.{AreTwo, At, Obeys, scene_round, scene_told_a, scene_told_b}
use Rattle.script_run.proofs.Opens.{both, a_runs, b_runs, same}
use Rattle.script_run.specs.Rounds.{Does}
use Rattle.std.proofs.lemmas.Bool.Decides.{nat_tests}
use Rattle.channel_safety.proofs.Tests.{lt-true, le-true}
use Rattle.network.specs.declared.command.Command.TheVariants.{Pay}
use Rattle.fairness_laws.proofs.Finding.{flips}

unspent : (used limit : ℕ) → nat_lt used limit ≡ true → nat_le limit used ≡ false
unspent used limit h = grind (arith, nat_tests)

more : (k n : ℕ) → nat_le k n ≡ true → nat_le k (n + 1) ≡ true
more k n h = grind (arith, nat_tests)

-- ---- the first pays the second

-- the state that a payment by the first makes
abbrev pub by_a : Pair → (turn x y amount : ℕ) → StateParts
by_a p turn x y amount = state p (turn + 1) false (x - amount) (y + amount)

pub obeys_a : (p : Pair) (sa sb : SignerOf) (ua before turn u v x y amount : ℕ) (ga gb : List ℕ) (last : Option StateParts) → Fits p sa sb → PaysA real p turn x y amount → nat_lt ua (signing_of sa).limit ≡ true
    → Obeys sa (deposits real p) (Pay (name real p) p.asset amount) (a_runs p false (state p before false u v) (state p turn false x y) (marks_b ga gb) last) ua
    (a_runs p false (state p turn false x y) (by_a p turn x y amount) (marks_a (signature p sa ua (by_a p turn x y amount)) gb) (Some (by_a p turn x y amount))) (suc ua)
    ((name_of_person p.key_b, bytes p sa ua (by_a p turn x y amount)) ∷ [])
obeys_a p sa sb ua before turn u v x y amount ga gb last w pays room =
    let s : StateParts = by_a p turn x y amount in
    let sig : List ℕ = signature p sa ua s in
    let states : List StateParts = state p before false u v ∷ state p turn false x y ∷ [] in
    let next : List StateParts = state p turn false x y ∷ s ∷ [] in
    record {
      stays = refl;
      seen = a_runs p false (state p before false u v) (state p turn false x y) (marks_b ga gb) last;
      sees = refl;
      becomes = λ step j c. told_pay real p (signing_of sa) sa 0 p.key_a false (funded real p) states (marks_b ga gb) last ua j c step amount s next (marks_a sig gb) (Some s) room
          (pays_a real p (signing_of sa).limit ua last ga gb before turn u v x y amount w.begins pays (unspent ua (signing_of sa).limit room))
          (signs_payment_a real p last ga gb before turn u v x y amount w.begins pays)
          (notes_a real p true false 0 p.key_a (funded real p) (state p before false u v) (state p turn false x y) s last ga gb sig (same-number (turn + 1)) pays.turns (w.well_a ua s room) pays.step);
      answers = λ j c. answers_pay real p (signing_of sa) sa 0 p.key_a false (funded real p) states (marks_b ga gb) last ua j c amount s (name_of_person p.key_b) next (marks_a sig gb) (Some s) room
          (pays_a real p (signing_of sa).limit ua last ga gb before turn u v x y amount w.begins pays (unspent ua (signing_of sa).limit room))
          (signs_payment_a real p last ga gb before turn u v x y amount w.begins pays)
          (notes_a real p true false 0 p.key_a (funded real p) (state p before false u v) (state p turn false x y) s last ga gb sig (same-number (turn + 1)) pays.turns (w.well_a ua s room) pays.step)
          (sends_b real p p.key_a false (funded real p) next (marks_a sig gb) (Some s) s sig);
    }

-- the message isn't for the first
passing_a : (p : Pair) (sa sb : SignerOf) (used before turn u v x y : ℕ) (m1 m2 : Mark) (last : Option StateParts) (text : List ℕ) → Fits p sa sb → Runs p turn x y
    → Does sa (name_of_person p.key_a) (deposits real p) ((name_of_person p.key_b, text) ∷ []) (a_runs p false (state p before false u v) (state p turn false x y) (m1 ∷ m2 ∷ []) last) used
    (a_runs p false (state p before false u v) (state p turn false x y) (m1 ∷ m2 ∷ []) last) used [] []
passing_a p sa sb used before turn u v x y m1 m2 last text w runs =
    let m : Mind = a_runs p false (state p before false u v) (state p turn false x y) (m1 ∷ m2 ∷ []) last in
    does sa (name_of_person p.key_a) (deposits real p) ((name_of_person p.key_b, text) ∷ []) m m m m used used [] [] refl
    (passes sa (name_of_person p.key_a) (name_of_person p.key_b) text m used (flips (name_of_person p.key_a) (name_of_person p.key_b) w.begins.apart))
    (λ j c. tick_waits real p (signing_of sa) sa 0 p.key_a false (funded real p) (state p before false u v ∷ state p turn false x y ∷ []) (m1 ∷ m2 ∷ []) last used j c []
    (rests real p 0 p.key_a last m1 m2 before turn u v x y runs) (calls_nothing real p 0 p.key_a last m1 m2 before turn u v x y runs))

-- the second takes it
takes_b : (p : Pair) (sa sb : SignerOf) (ua ub before turn u v x y amount : ℕ) (ga gb : List ℕ) (last : Option StateParts) → Fits p sa sb → PaysA real p turn x y amount → x + y ≡ p.a + p.b → nat_lt ua (signing_of sa).limit ≡ true
    → Does sb (name_of_person p.key_b) (deposits real p) ((name_of_person p.key_b, bytes p sa ua (by_a p turn x y amount)) ∷ []) (b_runs p false (state p before false u v) (state p turn false x y) (marks_b ga gb) last) ub
    (b_runs p false (state p turn false x y) (by_a p turn x y amount) (marks_a (signature p sa ua (by_a p turn x y amount)) gb) last) ub [] []
takes_b p sa sb ua ub before turn u v x y amount ga gb last w pays sum room =
    let s : StateParts = by_a p turn x y amount in
    let sig : List ℕ = signature p sa ua s in
    let m : Mind = b_runs p false (state p before false u v) (state p turn false x y) (marks_b ga gb) last in
    let taken : Mind = b_runs p false (state p turn false x y) s (marks_a sig gb) last in
    let later : Runs p (turn + 1) (x - amount) (y + amount) = record { late = more 3 turn pays.runs.late; set_up = more 1 turn pays.runs.set_up } in
    does sb (name_of_person p.key_b) (deposits real p) ((name_of_person p.key_b, bytes p sa ua s) ∷ []) m m taken taken ub ub [] [] refl
    (λ j c. came sb (name_of_person p.key_b) (bytes p sa ua s) m taken ub j c
    (handles real p (signing_of sb) sb 1 p.key_b false (funded real p) (state p before false u v ∷ state p turn false x y ∷ []) (marks_b ga gb) last ub j c (bytes p sa ua s) (by s sig) (state p turn false x y ∷ s ∷ []) (marks_a sig gb) last
    (w.reads_a ua (turn + 1) (x - amount) (y + amount) false (lt-true (turn + 1) (2 ^ 48) pays.early) (sum-a x y amount (p.a + p.b) (le-true amount x pays.covered) sum))
    (takes_payment_b real p last ga gb sig before turn u v x y (x - amount) (y + amount) false pays.runs pays.turns pays.step (w.well_a ua s room))
    (notes_a real p false false 1 p.key_b (funded real p) (state p before false u v) (state p turn false x y) s last ga gb sig (same-number (turn + 1)) pays.turns (w.well_a ua s room) pays.step)))
    (λ j c. tick_waits real p (signing_of sb) sb 1 p.key_b false (funded real p) (state p turn false x y ∷ s ∷ []) (marks_a sig gb) last ub j c []
    (rests real p 1 p.key_b last (mark 1 sig) (mark 0 gb) turn (turn + 1) x y (x - amount) (y + amount) later) (calls_nothing real p 1 p.key_b last (mark 1 sig) (mark 0 gb) turn (turn + 1) x y (x - amount) (y + amount) later))

-- both hold the payment after a round
pub paid_by_a : (p : Pair) (sa sb : SignerOf) (ua ub before turn u v x y amount step : ℕ) (ga gb : List ℕ) (last_a last_b : Option StateParts) (names : Names) (s : SceneOf Numbered) → Fits p sa sb → AreTwo p names.people
    → PaysA real p turn x y amount → x + y ≡ p.a + p.b → nat_lt ua (signing_of sa).limit ≡ true
    → At names (deposits real p) (both p sa sb ua ub (a_runs p false (state p before false u v) (state p turn false x y) (marks_b ga gb) last_a) (b_runs p false (state p before false u v) (state p turn false x y) (marks_b ga gb) last_b)) [] s
    → At names (deposits real p) (both p sa sb (suc ua) ub (a_runs p false (state p turn false x y) (by_a p turn x y amount) (marks_a (signature p sa ua (by_a p turn x y amount)) gb) (Some (by_a p turn x y amount)))
    (b_runs p false (state p turn false x y) (by_a p turn x y amount) (marks_a (signature p sa ua (by_a p turn x y amount)) gb) last_b)) [] (play_round ways (told ways step (Pay (name real p) p.asset amount) s 1))
paid_by_a p sa sb ua ub before turn u v x y amount step ga gb last_a last_b names s w two pays sum room at =
    let n : StateParts = by_a p turn x y amount in
    let sig : List ℕ = signature p sa ua n in
    let later : Runs p (turn + 1) (x - amount) (y + amount) = record { late = more 3 turn pays.runs.late; set_up = more 1 turn pays.runs.set_up } in
    let asked = scene_told_a names (deposits real p) (both p sa sb ua ub (a_runs p false (state p before false u v) (state p turn false x y) (marks_b ga gb) last_a) (b_runs p false (state p before false u v) (state p turn false x y) (marks_b ga gb) last_b)) [] ((name_of_person p.key_b, bytes p sa ua n) ∷ []) s step
    (Pay (name real p) p.asset amount) (a_runs p false (state p turn false x y) n (marks_a sig gb) (Some n)) (suc ua) at (obeys_a p sa sb ua before turn u v x y amount ga gb last_a w pays room) in
    scene_round p names (deposits real p) (deposits real p) two asked refl refl
    (passing_a p sa sb (suc ua) turn (turn + 1) x y (x - amount) (y + amount) (mark 1 sig) (mark 0 gb) (Some n) (bytes p sa ua n) w later)
    (takes_b p sa sb ua ub before turn u v x y amount ga gb last_b w pays sum room) (same (deposits real p))

-- ---- the second pays the first

-- the state that a payment by the second makes
abbrev pub by_b : Pair → (turn x y amount : ℕ) → StateParts
by_b p turn x y amount = state p (turn + 1) false (x + amount) (y - amount)

pub obeys_b : (p : Pair) (sa sb : SignerOf) (ub before turn u v x y amount : ℕ) (ga gb : List ℕ) (last : Option StateParts) → Fits p sa sb → PaysB real p turn x y amount → nat_lt ub (signing_of sb).limit ≡ true
    → Obeys sb (deposits real p) (Pay (name real p) p.asset amount) (b_runs p false (state p before false u v) (state p turn false x y) (marks_a ga gb) last) ub
    (b_runs p false (state p turn false x y) (by_b p turn x y amount) (marks_b ga (signature p sb ub (by_b p turn x y amount))) (Some (by_b p turn x y amount))) (suc ub)
    ((name_of_person p.key_a, bytes p sb ub (by_b p turn x y amount)) ∷ [])
obeys_b p sa sb ub before turn u v x y amount ga gb last w pays room =
    let s : StateParts = by_b p turn x y amount in
    let sig : List ℕ = signature p sb ub s in
    let states : List StateParts = state p before false u v ∷ state p turn false x y ∷ [] in
    let next : List StateParts = state p turn false x y ∷ s ∷ [] in
    record {
      stays = refl;
      seen = b_runs p false (state p before false u v) (state p turn false x y) (marks_a ga gb) last;
      sees = refl;
      becomes = λ step j c. told_pay real p (signing_of sb) sb 1 p.key_b false (funded real p) states (marks_a ga gb) last ub j c step amount s next (marks_b ga sig) (Some s) room
          (pays_b real p (signing_of sb).limit ub last ga gb before turn u v x y amount w.begins pays (unspent ub (signing_of sb).limit room))
          (signs_payment_b real p last ga gb before turn u v x y amount w.begins pays)
          (notes_b real p true false 1 p.key_b (funded real p) (state p before false u v) (state p turn false x y) s last ga gb sig (same-number (turn + 1)) pays.turns (w.well_b ub s room) pays.step);
      answers = λ j c. answers_pay real p (signing_of sb) sb 1 p.key_b false (funded real p) states (marks_a ga gb) last ub j c amount s (name_of_person p.key_a) next (marks_b ga sig) (Some s) room
          (pays_b real p (signing_of sb).limit ub last ga gb before turn u v x y amount w.begins pays (unspent ub (signing_of sb).limit room))
          (signs_payment_b real p last ga gb before turn u v x y amount w.begins pays)
          (notes_b real p true false 1 p.key_b (funded real p) (state p before false u v) (state p turn false x y) s last ga gb sig (same-number (turn + 1)) pays.turns (w.well_b ub s room) pays.step)
          (sends_a real p p.key_b false (funded real p) next (marks_b ga sig) (Some s) s sig);
    }

-- the message isn't for the second
passing_b : (p : Pair) (sa sb : SignerOf) (used before turn u v x y : ℕ) (m1 m2 : Mark) (last : Option StateParts) (text : List ℕ) → Fits p sa sb → Runs p turn x y
    → Does sb (name_of_person p.key_b) (deposits real p) ((name_of_person p.key_a, text) ∷ []) (b_runs p false (state p before false u v) (state p turn false x y) (m1 ∷ m2 ∷ []) last) used
    (b_runs p false (state p before false u v) (state p turn false x y) (m1 ∷ m2 ∷ []) last) used [] []
passing_b p sa sb used before turn u v x y m1 m2 last text w runs =
    let m : Mind = b_runs p false (state p before false u v) (state p turn false x y) (m1 ∷ m2 ∷ []) last in
    does sb (name_of_person p.key_b) (deposits real p) ((name_of_person p.key_a, text) ∷ []) m m m m used used [] [] refl
    (passes sb (name_of_person p.key_b) (name_of_person p.key_a) text m used w.begins.apart)
    (λ j c. tick_waits real p (signing_of sb) sb 1 p.key_b false (funded real p) (state p before false u v ∷ state p turn false x y ∷ []) (m1 ∷ m2 ∷ []) last used j c []
    (rests real p 1 p.key_b last m1 m2 before turn u v x y runs) (calls_nothing real p 1 p.key_b last m1 m2 before turn u v x y runs))

-- the first takes it
takes_a : (p : Pair) (sa sb : SignerOf) (ua ub before turn u v x y amount : ℕ) (ga gb : List ℕ) (last : Option StateParts) → Fits p sa sb → PaysB real p turn x y amount → x + y ≡ p.a + p.b → nat_lt ub (signing_of sb).limit ≡ true
    → Does sa (name_of_person p.key_a) (deposits real p) ((name_of_person p.key_a, bytes p sb ub (by_b p turn x y amount)) ∷ []) (a_runs p false (state p before false u v) (state p turn false x y) (marks_a ga gb) last) ua
    (a_runs p false (state p turn false x y) (by_b p turn x y amount) (marks_b ga (signature p sb ub (by_b p turn x y amount))) last) ua [] []
takes_a p sa sb ua ub before turn u v x y amount ga gb last w pays sum room =
    let s : StateParts = by_b p turn x y amount in
    let sig : List ℕ = signature p sb ub s in
    let m : Mind = a_runs p false (state p before false u v) (state p turn false x y) (marks_a ga gb) last in
    let taken : Mind = a_runs p false (state p turn false x y) s (marks_b ga sig) last in
    let later : Runs p (turn + 1) (x + amount) (y - amount) = record { late = more 3 turn pays.runs.late; set_up = more 1 turn pays.runs.set_up } in
    does sa (name_of_person p.key_a) (deposits real p) ((name_of_person p.key_a, bytes p sb ub s) ∷ []) m m taken taken ua ua [] [] refl
    (λ j c. came sa (name_of_person p.key_a) (bytes p sb ub s) m taken ua j c
    (handles real p (signing_of sa) sa 0 p.key_a false (funded real p) (state p before false u v ∷ state p turn false x y ∷ []) (marks_a ga gb) last ua j c (bytes p sb ub s) (by s sig) (state p turn false x y ∷ s ∷ []) (marks_b ga sig) last
    (w.reads_b ub (turn + 1) (x + amount) (y - amount) false (lt-true (turn + 1) (2 ^ 48) pays.early) (sum-b x y amount (p.a + p.b) (le-true amount y pays.covered) sum))
    (takes_payment_a real p last ga gb sig before turn u v x y (x + amount) (y - amount) false pays.runs pays.turns pays.step (w.well_b ub s room))
    (notes_b real p false false 0 p.key_a (funded real p) (state p before false u v) (state p turn false x y) s last ga gb sig (same-number (turn + 1)) pays.turns (w.well_b ub s room) pays.step)))
    (λ j c. tick_waits real p (signing_of sa) sa 0 p.key_a false (funded real p) (state p turn false x y ∷ s ∷ []) (marks_b ga sig) last ua j c []
    (rests real p 0 p.key_a last (mark 0 ga) (mark 1 sig) turn (turn + 1) x y (x + amount) (y - amount) later) (calls_nothing real p 0 p.key_a last (mark 0 ga) (mark 1 sig) turn (turn + 1) x y (x + amount) (y - amount) later))

-- both hold the payment after a round
pub paid_by_b : (p : Pair) (sa sb : SignerOf) (ua ub before turn u v x y amount step : ℕ) (ga gb : List ℕ) (last_a last_b : Option StateParts) (names : Names) (s : SceneOf Numbered) → Fits p sa sb → AreTwo p names.people
    → PaysB real p turn x y amount → x + y ≡ p.a + p.b → nat_lt ub (signing_of sb).limit ≡ true
    → At names (deposits real p) (both p sa sb ua ub (a_runs p false (state p before false u v) (state p turn false x y) (marks_a ga gb) last_a) (b_runs p false (state p before false u v) (state p turn false x y) (marks_a ga gb) last_b)) [] s
    → At names (deposits real p) (both p sa sb ua (suc ub) (a_runs p false (state p turn false x y) (by_b p turn x y amount) (marks_b ga (signature p sb ub (by_b p turn x y amount))) last_a)
    (b_runs p false (state p turn false x y) (by_b p turn x y amount) (marks_b ga (signature p sb ub (by_b p turn x y amount))) (Some (by_b p turn x y amount)))) [] (play_round ways (told ways step (Pay (name real p) p.asset amount) s 2))
paid_by_b p sa sb ua ub before turn u v x y amount step ga gb last_a last_b names s w two pays sum room at =
    let n : StateParts = by_b p turn x y amount in
    let sig : List ℕ = signature p sb ub n in
    let later : Runs p (turn + 1) (x + amount) (y - amount) = record { late = more 3 turn pays.runs.late; set_up = more 1 turn pays.runs.set_up } in
    let asked = scene_told_b names (deposits real p) (both p sa sb ua ub (a_runs p false (state p before false u v) (state p turn false x y) (marks_a ga gb) last_a) (b_runs p false (state p before false u v) (state p turn false x y) (marks_a ga gb) last_b)) [] ((name_of_person p.key_a, bytes p sb ub n) ∷ []) s step
    (Pay (name real p) p.asset amount) (b_runs p false (state p turn false x y) n (marks_b ga sig) (Some n)) (suc ub) at (obeys_b p sa sb ub before turn u v x y amount ga gb last_b w pays room) in
    scene_round p names (deposits real p) (deposits real p) two asked refl refl
    (takes_a p sa sb ua ub before turn u v x y amount ga gb last_a w pays sum room)
    (passing_b p sa sb (suc ub) turn (turn + 1) x y (x + amount) (y - amount) (mark 0 ga) (mark 1 sig) (Some n) (bytes p sb ub n) w later) (same (deposits real p))
