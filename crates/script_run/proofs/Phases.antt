-- What the two do in each round of the opening.
pub use Rattle.script_run.specs.Finish.{signature}
use Rattle.std.proofs.Common.{◌≡◌, ℕ, suc, ◌+◌, ◌<◌, Bool, true, false, cond, List, [], ◌∷◌, drop, refl, sym, ◌∙◌, ap, subst, arith}
use Rattle.std.specs.Prelude.{◌^◌, nat_lt, fold, Option, Some, None, Ok}
use Rattle.std.specs.Str.{bytes_eq}
use Rattle.channel_values.specs.Parts.{StateParts}
use Rattle.channel_values.specs.declared.chain.Mark.{Mark}
use Rattle.call_history.specs.Calls.{make_deposit}
use Rattle.call_history.proofs.Names.{bytes_eq_self}
use Rattle.call_history.specs.Reading.{message_of}
use Rattle.call_history.specs.Spelling.{message}
use Rattle.call_history.specs.declared.call.Call.{Call}
use Rattle.call_history.specs.declared.entry.Entry.{Entry}
use Rattle.call_history.specs.declared.view.WorldView.{WorldView}
use Rattle.channel_values.specs.Digests.{name_of_person}
use Rattle.history_view.specs.Views.{unseen}
use Rattle.network.specs.declared.command.Command.{Command}
use Rattle.network.specs.Entered.{oldest_first}
use Rattle.channel_node.specs.Minds.{Mind, saw}
use Rattle.channel_node.specs.Nodes.{handled}
use Rattle.channel_node.specs.Playing.{SignerOf, signing_of}
use Rattle.stage_tables.specs.Stages.{stages}
use Rattle.script_play.specs.Rounds.{Letter}
use Rattle.support_rules.specs.Real.{real}
use Rattle.fairness_laws.proofs.Finding.{flips}
use Rattle.script_run.specs.Pair.{mind, mark, marks_a, marks_b, state, seeing, funded, node, Becomes, Past}
use Rattle.script_run.specs.TwoPeople.{Pair, name}
use Rattle.script_run.proofs.Notes.{Well, by, notes_first, notes_second, notes_a, notes_b}
use Rattle.script_run.proofs.Nodes.{Ticks, tick_waits, tick_signs, handles, sends_a, sends_b}
use Rattle.script_run.proofs.Opening.{Begins, signs_0, signs_1, signs_2, signs_3, waits_0, waits_1, waits_unfunded, waits_half, waits_2, waits_3, calls_none, calls_one, deposits_a, deposits_late, deposits_b, calls_funded, calls_posting, takes_0, takes_1, takes_2, takes_3}
use Rattle.script_run.proofs.Running.{rests, calls_nothing}
use Rattle.script_run.proofs.Replies.{Small, first_entry, second_entry, deposits}
use Rattle.script_run.proofs.Seeing.{sees_first, sees_second}
use Rattle.script_run.specs.Rounds.{hand, Does}

abbrev pub bytes : Pair → SignerOf → ℕ → StateParts → List ℕ
bytes p signer used s = message (name real p, by s (signature p signer used s))

-- What the two are: the keys are those of their signers, whose signatures verify, and what they send is read.
pub record Fits (p : Pair) (sa sb : SignerOf) : Type 0 where
  pub begins : Begins real p
  pub small : Small p
  pub keys : bytes_eq p.key_b p.key_a ≡ false
  pub well_a : (used : ℕ) (s : StateParts) → nat_lt used (signing_of sa).limit ≡ true → Well real p p.key_a s (signature p sa used s)
  pub well_b : (used : ℕ) (s : StateParts) → nat_lt used (signing_of sb).limit ≡ true → Well real p p.key_b s (signature p sb used s)
  pub reads_a : (used turn x y : ℕ) (final : Bool) → turn < 2 ^ 48 → x + y ≡ p.a + p.b
      → message_of (bytes p sa used (state p turn final x y)) ≡ Ok (name real p, by (state p turn final x y) (signature p sa used (state p turn final x y)))
  pub reads_b : (used turn x y : ℕ) (final : Bool) → turn < 2 ^ 48 → x + y ≡ p.a + p.b
      → message_of (bytes p sb used (state p turn final x y)) ≡ Ok (name real p, by (state p turn final x y) (signature p sb used (state p turn final x y)))

-- ---- parts of a round

pub does : (signer : SignerOf) (who : List ℕ) (h : List Entry) (post : List Letter) (m seen taken after : Mind) (used used_after : ℕ) (sends : List Letter) (calls : List Call)
    → fold (λ x e. saw real e x) m (drop m.view.count (oldest_first h)) ≡ seen
    → ((journal : Past) (commands : List Command) → Becomes signer taken used (hand who post (node signer seen used journal commands)))
    → ((journal : Past) (commands : List Command) → Ticks real (signing_of signer) (node signer taken used journal commands) signer after used_after sends calls)
    → Does signer who h post m used after used_after sends calls
does signer who h post m seen taken after used used_after sends calls sees takes ticks =
    record { seen = seen; sees = sees; taken = taken; takes = takes; becomes = λ journal commands. (ticks journal commands).becomes; gives = λ journal commands. (ticks journal commands).gives }

pub none_came : (signer : SignerOf) (who : List ℕ) (m : Mind) (used : ℕ) (journal : Past) (commands : List Command) → Becomes signer m used (hand who [] (node signer m used journal commands))
none_came signer who m used journal commands = record { journal = journal; commands = commands; is = refl }

pub passes : (signer : SignerOf) (who to text : List ℕ) (m : Mind) (used : ℕ) → bytes_eq to who ≡ false → (journal : Past) (commands : List Command)
    → Becomes signer m used (hand who ((to, text) ∷ []) (node signer m used journal commands))
passes signer who to text m used other journal commands =
    record { journal = journal; commands = commands; is = ap (λ (t : Bool). cond t (handled stages real text (node signer m used journal commands)) (node signer m used journal commands)) other }

pub came : (signer : SignerOf) (who text : List ℕ) (m after : Mind) (used : ℕ) (journal : Past) (commands : List Command) → Becomes signer after used (handled stages real text (node signer m used journal commands))
    → Becomes signer after used (hand who ((who, text) ∷ []) (node signer m used journal commands))
came signer who text m after used journal commands b =
    subst (λ (t : Bool). Becomes signer after used (cond t (handled stages real text (node signer m used journal commands)) (node signer m used journal commands))) (sym (bytes_eq_self who)) b

-- ---- the rounds

module _ (p : Pair) (sa sb : SignerOf) (ua ub : ℕ) (w : Fits p sa sb) where
  abbrev a_name : List ℕ
  a_name = name_of_person p.key_a

  abbrev b_name : List ℕ
  b_name = name_of_person p.key_b

  -- the state of the opening at a turn
  abbrev pub at : ℕ → StateParts
  at turn = state p turn false p.a p.b

  abbrev pub sig_0 : List ℕ
  sig_0 = signature p sa ua (at 0)

  abbrev pub sig_1 : List ℕ
  sig_1 = signature p sb ub (at 1)

  abbrev pub sig_2 : List ℕ
  sig_2 = signature p sa (suc ua) (at 2)

  abbrev pub sig_3 : List ℕ
  sig_3 = signature p sb (suc ub) (at 3)

  -- what each knows after its own state and after the other's
  abbrev pub a_knows : WorldView → List StateParts → List Mark → Option StateParts → Mind
  a_knows view states marks last = mind real p 0 p.key_a false view states marks last

  abbrev pub b_knows : WorldView → List StateParts → List Mark → Option StateParts → Mind
  b_knows view states marks last = mind real p 1 p.key_b false view states marks last

  pub round_1_a : nat_lt ua (signing_of sa).limit ≡ true → Does sa a_name [] [] (a_knows unseen [] [] None) ua (a_knows unseen (at 0 ∷ []) (mark 0 sig_0 ∷ []) (Some (at 0))) (suc ua) ((b_name, bytes p sa ua (at 0)) ∷ []) []
  round_1_a room_a_0 =
      does sa a_name [] [] (a_knows unseen [] [] None) (a_knows unseen [] [] None) (a_knows unseen [] [] None) (a_knows unseen (at 0 ∷ []) (mark 0 sig_0 ∷ []) (Some (at 0))) ua (suc ua) ((b_name, bytes p sa ua (at 0)) ∷ []) [] refl
      (none_came sa a_name (a_knows unseen [] [] None) ua)
      (λ j c. tick_signs real p (signing_of sa) sa 0 p.key_a false unseen [] [] None ua j c (at 0) b_name (at 0 ∷ []) (mark 0 sig_0 ∷ []) (Some (at 0)) [] room_a_0
      (signs_0 real p None w.begins) (notes_first real p true 0 p.key_a unseen None sig_0 (w.well_a ua (at 0) room_a_0)) (sends_b real p p.key_a false unseen (at 0 ∷ []) (mark 0 sig_0 ∷ []) (Some (at 0)) (at 0) sig_0) (calls_one real p 0 p.key_a (Some (at 0)) sig_0 w.begins))

  pub round_1_b : Does sb b_name [] [] (b_knows unseen [] [] None) ub (b_knows unseen [] [] None) ub [] []
  round_1_b =
      does sb b_name [] [] (b_knows unseen [] [] None) (b_knows unseen [] [] None) (b_knows unseen [] [] None) (b_knows unseen [] [] None) ub ub [] [] refl
      (none_came sb b_name (b_knows unseen [] [] None) ub)
      (λ j c. tick_waits real p (signing_of sb) sb 1 p.key_b false unseen [] [] None ub j c [] (waits_0 real p None w.begins) (calls_none real p 1 p.key_b None w.begins))

  pub round_2_a : Does sa a_name [] ((b_name, bytes p sa ua (at 0)) ∷ []) (a_knows unseen (at 0 ∷ []) (mark 0 sig_0 ∷ []) (Some (at 0))) (suc ua) (a_knows unseen (at 0 ∷ []) (mark 0 sig_0 ∷ []) (Some (at 0))) (suc ua) [] []
  round_2_a =
      does sa a_name [] ((b_name, bytes p sa ua (at 0)) ∷ []) (a_knows unseen (at 0 ∷ []) (mark 0 sig_0 ∷ []) (Some (at 0))) (a_knows unseen (at 0 ∷ []) (mark 0 sig_0 ∷ []) (Some (at 0))) (a_knows unseen (at 0 ∷ []) (mark 0 sig_0 ∷ []) (Some (at 0))) (a_knows unseen (at 0 ∷ []) (mark 0 sig_0 ∷ []) (Some (at 0))) (suc ua) (suc ua) [] [] refl
      (passes sa a_name b_name (bytes p sa ua (at 0)) (a_knows unseen (at 0 ∷ []) (mark 0 sig_0 ∷ []) (Some (at 0))) (suc ua) (flips a_name b_name w.begins.apart))
      (λ j c. tick_waits real p (signing_of sa) sa 0 p.key_a false unseen (at 0 ∷ []) (mark 0 sig_0 ∷ []) (Some (at 0)) (suc ua) j c [] (waits_1 real p (Some (at 0)) sig_0 w.begins) (calls_one real p 0 p.key_a (Some (at 0)) sig_0 w.begins))

  pub round_2_b : nat_lt ua (signing_of sa).limit ≡ true → nat_lt ub (signing_of sb).limit ≡ true → Does sb b_name [] ((b_name, bytes p sa ua (at 0)) ∷ []) (b_knows unseen [] [] None) ub (b_knows unseen (at 0 ∷ at 1 ∷ []) (marks_b sig_0 sig_1) (Some (at 1))) (suc ub) ((a_name, bytes p sb ub (at 1)) ∷ []) []
  round_2_b room_a_0 room_b_0 =
      does sb b_name [] ((b_name, bytes p sa ua (at 0)) ∷ []) (b_knows unseen [] [] None) (b_knows unseen [] [] None) (b_knows unseen (at 0 ∷ []) (mark 0 sig_0 ∷ []) None) (b_knows unseen (at 0 ∷ at 1 ∷ []) (marks_b sig_0 sig_1) (Some (at 1))) ub (suc ub) ((a_name, bytes p sb ub (at 1)) ∷ []) [] refl
      (λ j c. came sb b_name (bytes p sa ua (at 0)) (b_knows unseen [] [] None) (b_knows unseen (at 0 ∷ []) (mark 0 sig_0 ∷ []) None) ub j c (handles real p (signing_of sb) sb 1 p.key_b false unseen [] [] None ub j c (bytes p sa ua (at 0)) (by (at 0) sig_0) (at 0 ∷ []) (mark 0 sig_0 ∷ []) None
      (w.reads_a ua 0 p.a p.b false (omega arith) refl) (takes_0 real p None sig_0 w.begins (w.well_a ua (at 0) room_a_0)) (notes_first real p false 1 p.key_b unseen None sig_0 (w.well_a ua (at 0) room_a_0))))
      (λ j c. tick_signs real p (signing_of sb) sb 1 p.key_b false unseen (at 0 ∷ []) (mark 0 sig_0 ∷ []) None ub j c (at 1) a_name (at 0 ∷ at 1 ∷ []) (marks_b sig_0 sig_1) (Some (at 1)) [] room_b_0
      (signs_1 real p None sig_0 w.begins) (notes_second real p true 1 p.key_b unseen None sig_0 sig_1 (w.well_b ub (at 1) room_b_0) (w.begins.repeats 0 (omega arith))) (sends_a real p p.key_b false unseen (at 0 ∷ at 1 ∷ []) (marks_b sig_0 sig_1) (Some (at 1)) (at 1) sig_1) (deposits_late real p (Some (at 1)) sig_0 sig_1 w.begins))

  pub round_3_a : nat_lt ub (signing_of sb).limit ≡ true → Does sa a_name [] ((a_name, bytes p sb ub (at 1)) ∷ []) (a_knows unseen (at 0 ∷ []) (mark 0 sig_0 ∷ []) (Some (at 0))) (suc ua) (a_knows unseen (at 0 ∷ at 1 ∷ []) (marks_b sig_0 sig_1) (Some (at 0))) (suc ua) [] (make_deposit (name real p) p.asset 0 p.a ∷ [])
  round_3_a room_b_0 =
      does sa a_name [] ((a_name, bytes p sb ub (at 1)) ∷ []) (a_knows unseen (at 0 ∷ []) (mark 0 sig_0 ∷ []) (Some (at 0))) (a_knows unseen (at 0 ∷ []) (mark 0 sig_0 ∷ []) (Some (at 0))) (a_knows unseen (at 0 ∷ at 1 ∷ []) (marks_b sig_0 sig_1) (Some (at 0))) (a_knows unseen (at 0 ∷ at 1 ∷ []) (marks_b sig_0 sig_1) (Some (at 0))) (suc ua) (suc ua) [] (make_deposit (name real p) p.asset 0 p.a ∷ []) refl
      (λ j c. came sa a_name (bytes p sb ub (at 1)) (a_knows unseen (at 0 ∷ []) (mark 0 sig_0 ∷ []) (Some (at 0))) (a_knows unseen (at 0 ∷ at 1 ∷ []) (marks_b sig_0 sig_1) (Some (at 0))) (suc ua) j c (handles real p (signing_of sa) sa 0 p.key_a false unseen (at 0 ∷ []) (mark 0 sig_0 ∷ []) (Some (at 0)) (suc ua) j c (bytes p sb ub (at 1)) (by (at 1) sig_1) (at 0 ∷ at 1 ∷ []) (marks_b sig_0 sig_1) (Some (at 0))
      (w.reads_b ub 1 p.a p.b false (omega arith) refl) (takes_1 real p (Some (at 0)) sig_0 sig_1 w.begins (w.well_b ub (at 1) room_b_0)) (notes_second real p false 0 p.key_a unseen (Some (at 0)) sig_0 sig_1 (w.well_b ub (at 1) room_b_0) (w.begins.repeats 0 (omega arith)))))
      (λ j c. tick_waits real p (signing_of sa) sa 0 p.key_a false unseen (at 0 ∷ at 1 ∷ []) (marks_b sig_0 sig_1) (Some (at 0)) (suc ua) j c (make_deposit (name real p) p.asset 0 p.a ∷ []) (waits_unfunded real p 0 p.key_a (Some (at 0)) sig_0 sig_1 w.begins) (deposits_a real p (Some (at 0)) sig_0 sig_1 w.begins))

  abbrev pub by_first : List Entry
  by_first = first_entry real p 1 ∷ []

  pub round_3_b : Does sb b_name by_first ((a_name, bytes p sb ub (at 1)) ∷ []) (b_knows unseen (at 0 ∷ at 1 ∷ []) (marks_b sig_0 sig_1) (Some (at 1))) (suc ub) (b_knows (seeing real p 1 p.a) (at 0 ∷ at 1 ∷ []) (marks_b sig_0 sig_1) (Some (at 1))) (suc ub) [] (make_deposit (name real p) p.asset p.a p.b ∷ [])
  round_3_b =
      does sb b_name by_first ((a_name, bytes p sb ub (at 1)) ∷ []) (b_knows unseen (at 0 ∷ at 1 ∷ []) (marks_b sig_0 sig_1) (Some (at 1))) (b_knows (seeing real p 1 p.a) (at 0 ∷ at 1 ∷ []) (marks_b sig_0 sig_1) (Some (at 1))) (b_knows (seeing real p 1 p.a) (at 0 ∷ at 1 ∷ []) (marks_b sig_0 sig_1) (Some (at 1))) (b_knows (seeing real p 1 p.a) (at 0 ∷ at 1 ∷ []) (marks_b sig_0 sig_1) (Some (at 1))) (suc ub) (suc ub) [] (make_deposit (name real p) p.asset p.a p.b ∷ []) (sees_first real p 1 1 (0 + p.a) p.key_b false (at 0 ∷ at 1 ∷ []) (marks_b sig_0 sig_1) (Some (at 1)))
      (passes sb b_name a_name (bytes p sb ub (at 1)) (b_knows (seeing real p 1 p.a) (at 0 ∷ at 1 ∷ []) (marks_b sig_0 sig_1) (Some (at 1))) (suc ub) w.begins.apart)
      (λ j c. tick_waits real p (signing_of sb) sb 1 p.key_b false (seeing real p 1 p.a) (at 0 ∷ at 1 ∷ []) (marks_b sig_0 sig_1) (Some (at 1)) (suc ub) j c (make_deposit (name real p) p.asset p.a p.b ∷ []) (waits_half real p 1 p.key_b (Some (at 1)) sig_0 sig_1 w.begins) (deposits_b real p (Some (at 1)) sig_0 sig_1 w.begins))

  pub round_4_a : nat_lt (suc ua) (signing_of sa).limit ≡ true → Does sa a_name (deposits real p) [] (a_knows unseen (at 0 ∷ at 1 ∷ []) (marks_b sig_0 sig_1) (Some (at 0))) (suc ua) (a_knows (funded real p) (at 1 ∷ at 2 ∷ []) (marks_a sig_2 sig_1) (Some (at 2))) (suc (suc ua)) ((b_name, bytes p sa (suc ua) (at 2)) ∷ []) []
  round_4_a room_a_1 =
      does sa a_name (deposits real p) [] (a_knows unseen (at 0 ∷ at 1 ∷ []) (marks_b sig_0 sig_1) (Some (at 0))) (a_knows (funded real p) (at 0 ∷ at 1 ∷ []) (marks_b sig_0 sig_1) (Some (at 0))) (a_knows (funded real p) (at 0 ∷ at 1 ∷ []) (marks_b sig_0 sig_1) (Some (at 0))) (a_knows (funded real p) (at 1 ∷ at 2 ∷ []) (marks_a sig_2 sig_1) (Some (at 2))) (suc ua) (suc (suc ua)) ((b_name, bytes p sa (suc ua) (at 2)) ∷ []) [] (ap (saw real (second_entry real p 2)) (sees_first real p 0 1 (0 + p.a) p.key_a false (at 0 ∷ at 1 ∷ []) (marks_b sig_0 sig_1) (Some (at 0))) ∙ sees_second real p 0 2 (p.a + p.b) p.key_a false (at 0 ∷ at 1 ∷ []) (marks_b sig_0 sig_1) (Some (at 0)))
      (none_came sa a_name (a_knows (funded real p) (at 0 ∷ at 1 ∷ []) (marks_b sig_0 sig_1) (Some (at 0))) (suc ua))
      (λ j c. tick_signs real p (signing_of sa) sa 0 p.key_a false (funded real p) (at 0 ∷ at 1 ∷ []) (marks_b sig_0 sig_1) (Some (at 0)) (suc ua) j c (at 2) b_name (at 1 ∷ at 2 ∷ []) (marks_a sig_2 sig_1) (Some (at 2)) [] room_a_1
      (signs_2 real p (Some (at 0)) sig_0 sig_1 w.begins) (notes_a real p true false 0 p.key_a (funded real p) (at 0) (at 1) (at 2) (Some (at 0)) sig_0 sig_1 sig_2 refl refl (w.well_a (suc ua) (at 2) room_a_1) (w.begins.repeats 1 (omega arith))) (sends_b real p p.key_a false (funded real p) (at 1 ∷ at 2 ∷ []) (marks_a sig_2 sig_1) (Some (at 2)) (at 2) sig_2) (calls_posting real p 0 p.key_a (Some (at 2)) sig_2 sig_1 w.begins))

  pub round_4_b : Does sb b_name (deposits real p) [] (b_knows (seeing real p 1 p.a) (at 0 ∷ at 1 ∷ []) (marks_b sig_0 sig_1) (Some (at 1))) (suc ub) (b_knows (funded real p) (at 0 ∷ at 1 ∷ []) (marks_b sig_0 sig_1) (Some (at 1))) (suc ub) [] []
  round_4_b =
      does sb b_name (deposits real p) [] (b_knows (seeing real p 1 p.a) (at 0 ∷ at 1 ∷ []) (marks_b sig_0 sig_1) (Some (at 1))) (b_knows (funded real p) (at 0 ∷ at 1 ∷ []) (marks_b sig_0 sig_1) (Some (at 1))) (b_knows (funded real p) (at 0 ∷ at 1 ∷ []) (marks_b sig_0 sig_1) (Some (at 1))) (b_knows (funded real p) (at 0 ∷ at 1 ∷ []) (marks_b sig_0 sig_1) (Some (at 1))) (suc ub) (suc ub) [] [] (sees_second real p 1 2 (p.a + p.b) p.key_b false (at 0 ∷ at 1 ∷ []) (marks_b sig_0 sig_1) (Some (at 1)))
      (none_came sb b_name (b_knows (funded real p) (at 0 ∷ at 1 ∷ []) (marks_b sig_0 sig_1) (Some (at 1))) (suc ub))
      (λ j c. tick_waits real p (signing_of sb) sb 1 p.key_b false (funded real p) (at 0 ∷ at 1 ∷ []) (marks_b sig_0 sig_1) (Some (at 1)) (suc ub) j c [] (waits_2 real p (Some (at 1)) sig_0 sig_1 w.begins) (calls_funded real p 1 p.key_b (Some (at 1)) sig_0 sig_1 w.begins))

  pub round_5_a : Does sa a_name (deposits real p) ((b_name, bytes p sa (suc ua) (at 2)) ∷ []) (a_knows (funded real p) (at 1 ∷ at 2 ∷ []) (marks_a sig_2 sig_1) (Some (at 2))) (suc (suc ua)) (a_knows (funded real p) (at 1 ∷ at 2 ∷ []) (marks_a sig_2 sig_1) (Some (at 2))) (suc (suc ua)) [] []
  round_5_a =
      does sa a_name (deposits real p) ((b_name, bytes p sa (suc ua) (at 2)) ∷ []) (a_knows (funded real p) (at 1 ∷ at 2 ∷ []) (marks_a sig_2 sig_1) (Some (at 2))) (a_knows (funded real p) (at 1 ∷ at 2 ∷ []) (marks_a sig_2 sig_1) (Some (at 2))) (a_knows (funded real p) (at 1 ∷ at 2 ∷ []) (marks_a sig_2 sig_1) (Some (at 2))) (a_knows (funded real p) (at 1 ∷ at 2 ∷ []) (marks_a sig_2 sig_1) (Some (at 2))) (suc (suc ua)) (suc (suc ua)) [] [] refl
      (passes sa a_name b_name (bytes p sa (suc ua) (at 2)) (a_knows (funded real p) (at 1 ∷ at 2 ∷ []) (marks_a sig_2 sig_1) (Some (at 2))) (suc (suc ua)) (flips a_name b_name w.begins.apart))
      (λ j c. tick_waits real p (signing_of sa) sa 0 p.key_a false (funded real p) (at 1 ∷ at 2 ∷ []) (marks_a sig_2 sig_1) (Some (at 2)) (suc (suc ua)) j c [] (waits_3 real p (Some (at 2)) sig_2 sig_1 w.begins) (calls_posting real p 0 p.key_a (Some (at 2)) sig_2 sig_1 w.begins))

  pub round_5_b : nat_lt (suc ua) (signing_of sa).limit ≡ true → nat_lt (suc ub) (signing_of sb).limit ≡ true → Does sb b_name (deposits real p) ((b_name, bytes p sa (suc ua) (at 2)) ∷ []) (b_knows (funded real p) (at 0 ∷ at 1 ∷ []) (marks_b sig_0 sig_1) (Some (at 1))) (suc ub) (b_knows (funded real p) (at 2 ∷ at 3 ∷ []) (marks_b sig_2 sig_3) (Some (at 3))) (suc (suc ub)) ((a_name, bytes p sb (suc ub) (at 3)) ∷ []) []
  round_5_b room_a_1 room_b_1 =
      does sb b_name (deposits real p) ((b_name, bytes p sa (suc ua) (at 2)) ∷ []) (b_knows (funded real p) (at 0 ∷ at 1 ∷ []) (marks_b sig_0 sig_1) (Some (at 1))) (b_knows (funded real p) (at 0 ∷ at 1 ∷ []) (marks_b sig_0 sig_1) (Some (at 1))) (b_knows (funded real p) (at 1 ∷ at 2 ∷ []) (marks_a sig_2 sig_1) (Some (at 1))) (b_knows (funded real p) (at 2 ∷ at 3 ∷ []) (marks_b sig_2 sig_3) (Some (at 3))) (suc ub) (suc (suc ub)) ((a_name, bytes p sb (suc ub) (at 3)) ∷ []) [] refl
      (λ j c. came sb b_name (bytes p sa (suc ua) (at 2)) (b_knows (funded real p) (at 0 ∷ at 1 ∷ []) (marks_b sig_0 sig_1) (Some (at 1))) (b_knows (funded real p) (at 1 ∷ at 2 ∷ []) (marks_a sig_2 sig_1) (Some (at 1))) (suc ub) j c (handles real p (signing_of sb) sb 1 p.key_b false (funded real p) (at 0 ∷ at 1 ∷ []) (marks_b sig_0 sig_1) (Some (at 1)) (suc ub) j c (bytes p sa (suc ua) (at 2)) (by (at 2) sig_2) (at 1 ∷ at 2 ∷ []) (marks_a sig_2 sig_1) (Some (at 1))
      (w.reads_a (suc ua) 2 p.a p.b false (omega arith) refl) (takes_2 real p (Some (at 1)) sig_0 sig_1 sig_2 w.begins (w.well_a (suc ua) (at 2) room_a_1)) (notes_a real p false false 1 p.key_b (funded real p) (at 0) (at 1) (at 2) (Some (at 1)) sig_0 sig_1 sig_2 refl refl (w.well_a (suc ua) (at 2) room_a_1) (w.begins.repeats 1 (omega arith)))))
      (λ j c. tick_signs real p (signing_of sb) sb 1 p.key_b false (funded real p) (at 1 ∷ at 2 ∷ []) (marks_a sig_2 sig_1) (Some (at 1)) (suc ub) j c (at 3) a_name (at 2 ∷ at 3 ∷ []) (marks_b sig_2 sig_3) (Some (at 3)) [] room_b_1
      (signs_3 real p (Some (at 1)) sig_2 sig_1 w.begins) (notes_b real p true false 1 p.key_b (funded real p) (at 1) (at 2) (at 3) (Some (at 1)) sig_2 sig_1 sig_3 refl refl (w.well_b (suc ub) (at 3) room_b_1) (w.begins.repeats 2 (omega arith))) (sends_a real p p.key_b false (funded real p) (at 2 ∷ at 3 ∷ []) (marks_b sig_2 sig_3) (Some (at 3)) (at 3) sig_3) (calls_nothing real p 1 p.key_b (Some (at 3)) (mark 0 sig_2) (mark 1 sig_3) 2 3 p.a p.b p.a p.b (record { late = refl; set_up = refl })))

  pub round_6_a : nat_lt (suc ub) (signing_of sb).limit ≡ true → Does sa a_name (deposits real p) ((a_name, bytes p sb (suc ub) (at 3)) ∷ []) (a_knows (funded real p) (at 1 ∷ at 2 ∷ []) (marks_a sig_2 sig_1) (Some (at 2))) (suc (suc ua)) (a_knows (funded real p) (at 2 ∷ at 3 ∷ []) (marks_b sig_2 sig_3) (Some (at 2))) (suc (suc ua)) [] []
  round_6_a room_b_1 =
      does sa a_name (deposits real p) ((a_name, bytes p sb (suc ub) (at 3)) ∷ []) (a_knows (funded real p) (at 1 ∷ at 2 ∷ []) (marks_a sig_2 sig_1) (Some (at 2))) (a_knows (funded real p) (at 1 ∷ at 2 ∷ []) (marks_a sig_2 sig_1) (Some (at 2))) (a_knows (funded real p) (at 2 ∷ at 3 ∷ []) (marks_b sig_2 sig_3) (Some (at 2))) (a_knows (funded real p) (at 2 ∷ at 3 ∷ []) (marks_b sig_2 sig_3) (Some (at 2))) (suc (suc ua)) (suc (suc ua)) [] [] refl
      (λ j c. came sa a_name (bytes p sb (suc ub) (at 3)) (a_knows (funded real p) (at 1 ∷ at 2 ∷ []) (marks_a sig_2 sig_1) (Some (at 2))) (a_knows (funded real p) (at 2 ∷ at 3 ∷ []) (marks_b sig_2 sig_3) (Some (at 2))) (suc (suc ua)) j c (handles real p (signing_of sa) sa 0 p.key_a false (funded real p) (at 1 ∷ at 2 ∷ []) (marks_a sig_2 sig_1) (Some (at 2)) (suc (suc ua)) j c (bytes p sb (suc ub) (at 3)) (by (at 3) sig_3) (at 2 ∷ at 3 ∷ []) (marks_b sig_2 sig_3) (Some (at 2))
      (w.reads_b (suc ub) 3 p.a p.b false (omega arith) refl) (takes_3 real p (Some (at 2)) sig_2 sig_1 sig_3 w.begins (w.well_b (suc ub) (at 3) room_b_1)) (notes_b real p false false 0 p.key_a (funded real p) (at 1) (at 2) (at 3) (Some (at 2)) sig_2 sig_1 sig_3 refl refl (w.well_b (suc ub) (at 3) room_b_1) (w.begins.repeats 2 (omega arith)))))
      (λ j c. tick_waits real p (signing_of sa) sa 0 p.key_a false (funded real p) (at 2 ∷ at 3 ∷ []) (marks_b sig_2 sig_3) (Some (at 2)) (suc (suc ua)) j c [] (rests real p 0 p.key_a (Some (at 2)) (mark 0 sig_2) (mark 1 sig_3) 2 3 p.a p.b p.a p.b (record { late = refl; set_up = refl })) (calls_nothing real p 0 p.key_a (Some (at 2)) (mark 0 sig_2) (mark 1 sig_3) 2 3 p.a p.b p.a p.b (record { late = refl; set_up = refl })))

  pub round_6_b : Does sb b_name (deposits real p) ((a_name, bytes p sb (suc ub) (at 3)) ∷ []) (b_knows (funded real p) (at 2 ∷ at 3 ∷ []) (marks_b sig_2 sig_3) (Some (at 3))) (suc (suc ub)) (b_knows (funded real p) (at 2 ∷ at 3 ∷ []) (marks_b sig_2 sig_3) (Some (at 3))) (suc (suc ub)) [] []
  round_6_b =
      does sb b_name (deposits real p) ((a_name, bytes p sb (suc ub) (at 3)) ∷ []) (b_knows (funded real p) (at 2 ∷ at 3 ∷ []) (marks_b sig_2 sig_3) (Some (at 3))) (b_knows (funded real p) (at 2 ∷ at 3 ∷ []) (marks_b sig_2 sig_3) (Some (at 3))) (b_knows (funded real p) (at 2 ∷ at 3 ∷ []) (marks_b sig_2 sig_3) (Some (at 3))) (b_knows (funded real p) (at 2 ∷ at 3 ∷ []) (marks_b sig_2 sig_3) (Some (at 3))) (suc (suc ub)) (suc (suc ub)) [] [] refl
      (passes sb b_name a_name (bytes p sb (suc ub) (at 3)) (b_knows (funded real p) (at 2 ∷ at 3 ∷ []) (marks_b sig_2 sig_3) (Some (at 3))) (suc (suc ub)) w.begins.apart)
      (λ j c. tick_waits real p (signing_of sb) sb 1 p.key_b false (funded real p) (at 2 ∷ at 3 ∷ []) (marks_b sig_2 sig_3) (Some (at 3)) (suc (suc ub)) j c [] (rests real p 1 p.key_b (Some (at 3)) (mark 0 sig_2) (mark 1 sig_3) 2 3 p.a p.b p.a p.b (record { late = refl; set_up = refl })) (calls_nothing real p 1 p.key_b (Some (at 3)) (mark 0 sig_2) (mark 1 sig_3) 2 3 p.a p.b p.a p.b (record { late = refl; set_up = refl })))
