-- The rounds in which the channel closes, where the second signs the first final state.
use Rattle.std.proofs.Common.{◌≡◌, ℕ, suc, ◌+◌, ◌-◌, ◌%◌, ◌<◌, Bool, true, false, List, [], ◌∷◌, refl, sym, ◌∙◌, ap, subst, arith}
use Rattle.std.specs.Prelude.{◌==◌, ◌^◌, nat_lt, Option, Some, None, min, Ok, reverse}
use Rattle.channel_values.specs.Parts.{StateParts}
use Rattle.channel_values.specs.declared.chain.Mark.{Mark}
use Rattle.channel_values.specs.declared.chain.Chain.{Chain}
use Rattle.call_history.specs.Calls.{make_transfer}
use Rattle.call_history.specs.declared.view.WorldView.{WorldView}
use Rattle.call_history.specs.declared.call.Call.TheVariants.{Conclude}
use Rattle.channel_values.specs.Support.{support_of, verified_marks}
use Rattle.call_history.specs.Marked.{marked_of, is_newer}
use Rattle.call_history.specs.declared.refusal.Reply.TheVariants.{Concluded, Paid}
use Rattle.call_history.specs.History.{paid_to, held_of, flows_of}
use Rattle.asset_holder.specs.Receipts.{assets_of}
use Rattle.node_guarantees.specs.Gains.{share_known}
use Rattle.std.specs.Str.{bytes_eq}
use Rattle.channel_node.specs.Places.{AreFew}
use Rattle.script_run.specs.Whole.{IsWhole}
use Rattle.script_run.proofs.Worths.{paid_first, paid_behind, share_first, share_second, none-left}
use Rattle.call_history.proofs.Names.{bytes_eq_self}
use Rattle.script_run.proofs.PairNumbers.{same-number, not-less, early-one, early-two, below-one, below-two, even-then, from-zero, zeros, zeros-more}
use Rattle.script_run.proofs.Later.{replies_then_a}
use Rattle.channel_node.specs.Minds.{saw, Mind}
use Rattle.call_history.specs.declared.entry.Entry.{Entry}
use Rattle.call_history.specs.declared.refusal.Reply.{Reply}
use Rattle.channel_values.specs.Digests.{name_of_person}
use Rattle.channel_node.specs.Playing.{SignerOf, signing_of}
use Rattle.node_guarantees.specs.Ways.{Numbered, ways}
use Rattle.script_play.specs.Play.{SceneOf, play_rounds, told}
use Rattle.script_play.specs.Rounds.{Letter}
use Rattle.step_meanings.specs.declared.names.Names.{Names}
use Rattle.support_rules.specs.Real.{real}
use Rattle.script_run.specs.Pair.{mind, mark, marks_a, marks_b, state, split, funded, chain}
use Rattle.script_run.specs.TwoPeople.{Pair, fixed, name}
use Rattle.script_run.proofs.Replies.{deposits, last_chain, concluded, paid_b, replies_conclude, replies_transfer_b}
use Rattle.script_run.proofs.Running.{Runs, signs_final_b, waits_final_c, calls_closing, takes_final_a, signs_last_a, concludes}
use Rattle.script_run.proofs.Nodes.{tick_waits, tick_signs, handles, handles_late, sends_a, sends_b}
use Rattle.script_run.proofs.Notes.{by, notes_a, notes_b}
use Rattle.script_run.proofs.Calming.{soothed, conclusions_soothe, transfers_soothe}
use Rattle.script_run.proofs.Phases.{Fits, signature, bytes, does, none_came, came, passes}
use Rattle.script_run.proofs.Scenes.{AreTwo, At, scene_round, scene_told_a, scene_told_b}
use Rattle.script_run.proofs.Opens.{both, a_runs, b_runs, same}
use Rattle.script_run.proofs.Closing.{obeys_close_a, obeys_close_b}
use Rattle.script_run.proofs.Seeing.{entry, ended, refuses_late, waits_ended, transfers_a, transfers_b, sees_conclude, sees_own_conclude, sees_transfer_b, done_a, done_b}
use Rattle.script_run.specs.Rounds.{Does, StaysCalm}
use Rattle.std.proofs.lemmas.Bool.Decides.{nat_tests}
use Rattle.network.specs.declared.command.Command.TheVariants.{Close}
use Rattle.fairness_laws.proofs.Finding.{flips}

due-first : (x y total : ℕ) → 0 < x → x + y ≡ total → (min x (total - y) == 0) ≡ false
due-first x y total some sum = let e : min x (total - y) ≡ x = omega arith in subst (λ (k : ℕ). (k == 0) ≡ false) (sym e) (some-is x some)
  where
    some-is : (n : ℕ) → 0 < n → (n == 0) ≡ false
    some-is n h = grind (arith, nat_tests)

due-second : (x y total : ℕ) → 0 < y → x + y ≡ total → (min y (total - x) == 0) ≡ false
due-second x y total some sum = let e : min y (total - x) ≡ y = omega arith in subst (λ (k : ℕ). (k == 0) ≡ false) (sym e) (some-is y some)
  where
    some-is : (n : ℕ) → 0 < n → (n == 0) ≡ false
    some-is n h = grind (arith, nat_tests)

all-out : (x y a b : ℕ) → x + y ≡ a + b → 0 + b + a - (0 + x + y + 0 + 0) ≡ 0
all-out x y a b sum = omega arith

nothing-left : (y n : ℕ) → (min (y - y) n == 0) ≡ true
nothing-left y n = let e : min (y - y) n ≡ 0 = omega arith in subst (λ (k : ℕ). (k == 0) ≡ true) (sym e) refl

module _ (p : Pair) (sa sb : SignerOf) (ua ub before turn u v x y : ℕ) (ga gb : List ℕ) (la lb : Option StateParts) (w : Fits p sa sb) where
  abbrev pub older : StateParts
  older = state p before false u v

  abbrev pub latest : StateParts
  latest = state p turn false x y

  abbrev pub final_1 : StateParts
  final_1 = state p (turn + 1) true x y

  abbrev pub final_2 : StateParts
  final_2 = state p (turn + 1 + 1) true x y

  abbrev pub s1 : List ℕ
  s1 = signature p sb ub final_1

  abbrev pub s2 : List ℕ
  s2 = signature p sa ua final_2

  -- the chain with which it is concluded
  abbrev pub ending : Chain
  ending = last_chain p (turn + 1) x y (marks_a s2 s1)

  -- what is asked of the end, where the second signs the first final state
  pub record Ends : Type 0 where
    pub runs : Runs p turn x y
    pub room : turn + 3 < 2 ^ 48
    pub whose : (turn + 1) % 2 ≡ 1
    pub sum : x + y ≡ p.a + p.b
    pub some_x : 0 < x
    pub some_y : 0 < y
    pub key_a : nat_lt ua (signing_of sa).limit ≡ true
    pub key_b : nat_lt ub (signing_of sb).limit ≡ true
    pub step_1 : real.step (fixed p) latest final_1 ≡ None
    pub step_2 : real.step (fixed p) final_1 final_2 ≡ None
    pub supported : support_of real ending (verified_marks real ending) ≡ Ok (turn + 1 + 1)
    pub newer : is_newer real (fixed p) (marked_of ending) (marked_of (chain p (latest ∷ final_1 ∷ []) (marks_b ga s1))) ≡ true
    pub alike : is_newer real (fixed p) (marked_of ending) (marked_of ending) ≡ false

  abbrev a_name : List ℕ
  a_name = name_of_person p.key_a

  abbrev b_name : List ℕ
  b_name = name_of_person p.key_b

  abbrev letter_1 : List Letter
  letter_1 = (a_name, bytes p sb ub final_1) ∷ []

  abbrev letter_2 : List Letter
  letter_2 = (b_name, bytes p sa ua final_2) ∷ []

  abbrev a_closes : List StateParts → List Mark → Option StateParts → Mind
  a_closes states marks last = mind real p 0 p.key_a true (funded real p) states marks last

  abbrev b_closes : List StateParts → List Mark → Option StateParts → Mind
  b_closes states marks last = mind real p 1 p.key_b true (funded real p) states marks last

  abbrev a_0 : Mind
  a_0 = a_closes (older ∷ latest ∷ []) (marks_a ga gb) la

  abbrev b_0 : Mind
  b_0 = b_closes (older ∷ latest ∷ []) (marks_a ga gb) lb

  abbrev a_1 : Mind
  a_1 = a_closes (latest ∷ final_1 ∷ []) (marks_b ga s1) la

  abbrev b_1 : Mind
  b_1 = b_closes (latest ∷ final_1 ∷ []) (marks_b ga s1) (Some final_1)

  abbrev a_2 : Mind
  a_2 = a_closes (final_1 ∷ final_2 ∷ []) (marks_a s2 s1) (Some final_2)

  close_1_a : Ends → Does sa a_name (deposits real p) [] a_0 ua a_0 ua [] []
  close_1_a e =
      does sa a_name (deposits real p) [] a_0 a_0 a_0 a_0 ua ua [] [] refl (none_came sa a_name a_0 ua)
      (λ j c. tick_waits real p (signing_of sa) sa 0 p.key_a true (funded real p) (older ∷ latest ∷ []) (marks_a ga gb) la ua j c []
      (waits_final_c real p la ga gb before turn u v x y false (early-one turn e.room) e.whose)
      (calls_closing real p 0 p.key_a la (mark 1 ga) (mark 0 gb) before turn u v x y false))

  close_1_b : Ends → Does sb b_name (deposits real p) [] b_0 ub b_1 (suc ub) letter_1 []
  close_1_b e =
      does sb b_name (deposits real p) [] b_0 b_0 b_0 b_1 ub (suc ub) letter_1 [] refl (none_came sb b_name b_0 ub)
      (λ j c. tick_signs real p (signing_of sb) sb 1 p.key_b true (funded real p) (older ∷ latest ∷ []) (marks_a ga gb) lb ub j c final_1 a_name (latest ∷ final_1 ∷ []) (marks_b ga s1) (Some final_1) [] e.key_b
      (signs_final_b real p lb ga gb before turn u v x y (early-one turn e.room) e.whose e.step_1)
      (notes_b real p true true 1 p.key_b (funded real p) older latest final_1 lb ga gb s1 (same-number (turn + 1)) e.whose (w.well_b ub final_1 e.key_b) e.step_1)
      (sends_a real p p.key_b true (funded real p) (latest ∷ final_1 ∷ []) (marks_b ga s1) (Some final_1) final_1 s1)
      (calls_closing real p 1 p.key_b (Some final_1) (mark 0 ga) (mark 1 s1) turn (turn + 1) x y x y true))

  -- the first takes the final state, signs another and concludes
  close_2_a : Ends → Does sa a_name (deposits real p) letter_1 a_0 ua a_2 (suc ua) letter_2 (Conclude ending ∷ [])
  close_2_a e =
      does sa a_name (deposits real p) letter_1 a_0 a_0 a_1 a_2 ua (suc ua) letter_2 (Conclude ending ∷ []) refl
      (λ j c. came sa a_name (bytes p sb ub final_1) a_0 a_1 ua j c
      (handles real p (signing_of sa) sa 0 p.key_a true (funded real p) (older ∷ latest ∷ []) (marks_a ga gb) la ua j c (bytes p sb ub final_1) (by final_1 s1) (latest ∷ final_1 ∷ []) (marks_b ga s1) la
      (w.reads_b ub (turn + 1) x y true (below-one turn e.room) e.sum)
      (takes_final_a real p la ga gb s1 before turn u v x y e.runs e.whose e.step_1 (w.well_b ub final_1 e.key_b))
      (notes_b real p false true 0 p.key_a (funded real p) older latest final_1 la ga gb s1 (same-number (turn + 1)) e.whose (w.well_b ub final_1 e.key_b) e.step_1)))
      (λ j c. tick_signs real p (signing_of sa) sa 0 p.key_a true (funded real p) (latest ∷ final_1 ∷ []) (marks_b ga s1) la ua j c final_2 b_name (final_1 ∷ final_2 ∷ []) (marks_a s2 s1) (Some final_2) (Conclude ending ∷ []) e.key_a
      (signs_last_a real p la ga s1 turn (turn + 1) x y x y (early-two turn e.room) (even-then turn e.whose) e.step_2)
      (notes_a real p true true 0 p.key_a (funded real p) latest final_1 final_2 la ga s1 s2 (same-number (turn + 1 + 1)) (even-then turn e.whose) (w.well_a ua final_2 e.key_a) e.step_2)
      (sends_b real p p.key_a true (funded real p) (final_1 ∷ final_2 ∷ []) (marks_a s2 s1) (Some final_2) final_2 s2)
      (concludes real p 0 p.key_a (Some final_2) (mark 1 s2) (mark 0 s1) (turn + 1) (turn + 1 + 1) x y x y))

  abbrev pub h3 : List Entry
  h3 = concluded real p (turn + 1) x y 1 (marks_a s2 s1)

  abbrev pub h4 : List Entry
  h4 = paid_b real p (turn + 1) x y 1 (marks_a s2 s1)

  abbrev pub h5 : List Entry
  h5 = entry 5 1 (make_transfer (name real p) (split p x y) p.asset 0) (Paid x) ∷ h4

  abbrev pub view_3 : WorldView
  view_3 = ended real p 3 (turn + 1 + 1) (p.a + p.b) x y x y ending []

  abbrev pub view_4 : WorldView
  view_4 = ended real p 4 (turn + 1 + 1) (p.a + p.b - y) x y x (y - y) ending ((name_of_person p.key_b, p.asset, y) ∷ [])

  abbrev pub view_5 : WorldView
  view_5 = ended real p 5 (turn + 1 + 1) (p.a + p.b - y - x) x y (x - x) (y - y) ending ((name_of_person p.key_b, p.asset, y) ∷ (name_of_person p.key_a, p.asset, x) ∷ [])

  abbrev a_ends : WorldView → Option StateParts → Mind
  a_ends view last = mind real p 0 p.key_a true view (final_1 ∷ final_2 ∷ []) (marks_a s2 s1) last

  abbrev b_ends : WorldView → Option StateParts → Mind
  b_ends view last = mind real p 1 p.key_b true view (final_1 ∷ final_2 ∷ []) (marks_a s2 s1) last

  -- the second sees the conclusion in the same round, and is paid
  close_2_b : Ends → Does sb b_name h3 letter_1 b_1 (suc ub) (b_ends view_3 (Some final_1)) (suc ub) [] (make_transfer (name real p) (split p x y) p.asset 1 ∷ [])
  close_2_b e =
      does sb b_name h3 letter_1 b_1 (b_ends view_3 (Some final_1)) (b_ends view_3 (Some final_1)) (b_ends view_3 (Some final_1)) (suc ub) (suc ub) [] (make_transfer (name real p) (split p x y) p.asset 1 ∷ [])
      (sees_conclude real p 1 1 (turn + 1 + 1) (turn + 1) (turn + 1 + 1) x y p.key_b (latest ∷ final_1 ∷ []) (marks_a s2 s1) (marks_b ga s1) (Some final_1) e.newer)
      (passes sb b_name a_name (bytes p sb ub final_1) (b_ends view_3 (Some final_1)) (suc ub) w.begins.apart)
      (λ j c. tick_waits real p (signing_of sb) sb 1 p.key_b true view_3 (final_1 ∷ final_2 ∷ []) (marks_a s2 s1) (Some final_1) (suc ub) j c (make_transfer (name real p) (split p x y) p.asset 1 ∷ [])
      (waits_ended real p 1 p.key_b view_3 (turn + 1) (turn + 1 + 1) x y x y (mark 1 s2) (mark 0 s1) (Some final_1))
      (transfers_b real p 3 (turn + 1 + 1) (p.a + p.b) (turn + 1) (turn + 1 + 1) x y x y x y ending [] (mark 1 s2) (mark 0 s1) (Some final_1) w.begins (due-second x y (p.a + p.b) e.some_y e.sum)))

  close_3_a : Ends → Does sa a_name h4 letter_2 a_2 (suc ua) (a_ends view_4 (Some final_2)) (suc ua) [] (make_transfer (name real p) (split p x y) p.asset 0 ∷ [])
  close_3_a e =
      does sa a_name h4 letter_2 a_2 (a_ends view_4 (Some final_2)) (a_ends view_4 (Some final_2)) (a_ends view_4 (Some final_2)) (suc ua) (suc ua) [] (make_transfer (name real p) (split p x y) p.asset 0 ∷ [])
      (ap (saw real (entry 4 2 (make_transfer (name real p) (split p x y) p.asset 1) (Paid y))) (sees_own_conclude real p 0 1 (turn + 1 + 1) (turn + 1) (turn + 1 + 1) x y p.key_a (marks_a s2 s1) (Some final_2) e.alike)
      ∙ sees_transfer_b real p 0 3 4 2 (turn + 1 + 1) (p.a + p.b) turn y x y x y p.key_a ending (final_1 ∷ final_2 ∷ []) (marks_a s2 s1) (Some final_2))
      (passes sa a_name b_name (bytes p sa ua final_2) (a_ends view_4 (Some final_2)) (suc ua) (flips a_name b_name w.begins.apart))
      (λ j c. tick_waits real p (signing_of sa) sa 0 p.key_a true view_4 (final_1 ∷ final_2 ∷ []) (marks_a s2 s1) (Some final_2) (suc ua) j c (make_transfer (name real p) (split p x y) p.asset 0 ∷ [])
      (waits_ended real p 0 p.key_a view_4 (turn + 1) (turn + 1 + 1) x y x y (mark 1 s2) (mark 0 s1) (Some final_2))
      (transfers_a real p 4 (turn + 1 + 1) (p.a + p.b - y) (turn + 1) (turn + 1 + 1) x y x y x (y - y) ending ((name_of_person p.key_b, p.asset, y) ∷ []) (mark 1 s2) (mark 0 s1) (Some final_2) w.begins (due-first x y (p.a + p.b) e.some_x e.sum)))

  sees-last : saw real (entry 5 1 (make_transfer (name real p) (split p x y) p.asset 0) (Paid x)) (b_ends view_4 (Some final_1)) ≡ b_ends view_5 (Some final_1)
  sees-last = simp (bytes_eq_self (name real p), same-number p.asset, flips (name_of_person p.key_a) (name_of_person p.key_b) w.begins.apart, from-zero x)

  close_3_b : Ends → Does sb b_name h5 letter_2 (b_ends view_3 (Some final_1)) (suc ub) (b_ends view_5 (Some final_1)) (suc ub) [] []
  close_3_b e =
      does sb b_name h5 letter_2 (b_ends view_3 (Some final_1)) (b_ends view_5 (Some final_1)) (b_ends view_5 (Some final_1)) (b_ends view_5 (Some final_1)) (suc ub) (suc ub) [] []
      (ap (saw real (entry 5 1 (make_transfer (name real p) (split p x y) p.asset 0) (Paid x))) (sees_transfer_b real p 1 3 4 2 (turn + 1 + 1) (p.a + p.b) turn y x y x y p.key_b ending (final_1 ∷ final_2 ∷ []) (marks_a s2 s1) (Some final_1)) ∙ sees-last)
      (λ j c. came sb b_name (bytes p sa ua final_2) (b_ends view_5 (Some final_1)) (b_ends view_5 (Some final_1)) (suc ub) j c
      (handles_late real p (signing_of sb) sb 1 p.key_b true view_5 (final_1 ∷ final_2 ∷ []) (marks_a s2 s1) (Some final_1) (suc ub) j c (bytes p sa ua final_2) (by final_2 s2)
      (w.reads_a ua (turn + 1 + 1) x y true (below-two turn e.room) e.sum)
      (refuses_late real p 1 p.key_b view_5 (turn + 1) (turn + 1 + 1) x y x y (mark 1 s2) (mark 0 s1) (Some final_1) (by final_2 s2))))
      (λ j c. tick_waits real p (signing_of sb) sb 1 p.key_b true view_5 (final_1 ∷ final_2 ∷ []) (marks_a s2 s1) (Some final_1) (suc ub) j c []
      (waits_ended real p 1 p.key_b view_5 (turn + 1) (turn + 1 + 1) x y x y (mark 1 s2) (mark 0 s1) (Some final_1))
      (done_b real p 5 (turn + 1 + 1) (p.a + p.b - y - x) (turn + 1) (turn + 1 + 1) x y x y (x - x) (y - y) ending ((name_of_person p.key_b, p.asset, y) ∷ (name_of_person p.key_a, p.asset, x) ∷ []) (mark 1 s2) (mark 0 s1) (Some final_1) w.begins (nothing-left y (p.a + p.b - y - x - (x - x)))))

  abbrev asked_both : ℕ → SceneOf Numbered → SceneOf Numbered
  asked_both step s = told ways step (Close (name real p)) (told ways step (Close (name real p)) s 1) 2

  pub ends_paid : (names : Names) (step : ℕ) (s : SceneOf Numbered) → Ends → AreTwo p names.people
      → At names (deposits real p) (both p sa sb ua ub (a_runs p false older latest (marks_a ga gb) la) (b_runs p false older latest (marks_a ga gb) lb)) [] s
      → At names h5 (both p sa sb (suc ua) (suc ub) (a_ends view_4 (Some final_2)) (b_ends view_5 (Some final_1))) [] (play_rounds ways 3 (asked_both step s))
  ends_paid names step s e two at =
      let t1 = scene_told_a names (deposits real p) (both p sa sb ua ub (a_runs p false older latest (marks_a ga gb) la) (b_runs p false older latest (marks_a ga gb) lb)) [] [] s step (Close (name real p)) (a_runs p true older latest (marks_a ga gb) la) ua at
      (obeys_close_a p sa ua before turn u v x y (mark 1 ga) (mark 0 gb) la e.runs) in
      let t2 = scene_told_b names (deposits real p) (both p sa sb ua ub (a_runs p true older latest (marks_a ga gb) la) (b_runs p false older latest (marks_a ga gb) lb)) [] [] (told ways step (Close (name real p)) s 1) step (Close (name real p)) (b_runs p true older latest (marks_a ga gb) lb) ub t1
      (obeys_close_b p sb ub before turn u v x y (mark 1 ga) (mark 0 gb) lb e.runs) in
      let entered_3 = ap (λ (reply : Reply). entry 3 1 (Conclude ending) reply ∷ deposits real p) (replies_conclude real p (turn + 1) x y (marks_a s2 s1) e.supported) in
      let entered_4 = ap (λ (reply : Reply). entry 4 2 (make_transfer (name real p) (split p x y) p.asset 1) reply ∷ h3) (replies_transfer_b real p (turn + 1) x y 1 (marks_a s2 s1) e.sum e.some_y) in
      let entered_5 = ap (λ (reply : Reply). entry 5 1 (make_transfer (name real p) (split p x y) p.asset 0) reply ∷ h4) (replies_then_a real p (turn + 1) x y 1 (marks_a s2 s1) e.sum e.some_x) in
      let calm_4 : StaysCalm (deposits real p) h4 = λ eye c. soothed (entry 4 2 (make_transfer (name real p) (split p x y) p.asset 1) (Paid y)) h3 (transfers_soothe 4 2 p.asset 1 y (name real p) (split p x y)) eye
      (soothed (entry 3 1 (Conclude ending) (Concluded (turn + 1 + 1))) (deposits real p) (conclusions_soothe 3 1 (turn + 1 + 1) ending) eye c) in
      let calm_5 : StaysCalm h4 h5 = soothed (entry 5 1 (make_transfer (name real p) (split p x y) p.asset 0) (Paid x)) h4 (transfers_soothe 5 1 p.asset 0 x (name real p) (split p x y)) in
      let r1 = scene_round p names (deposits real p) (deposits real p) two t2 refl refl (close_1_a e) (close_1_b e) (same (deposits real p)) in
      let r2 = scene_round p names h3 h4 two r1 entered_3 entered_4 (close_2_a e) (close_2_b e) calm_4 in
      scene_round p names h5 h5 two r2 entered_5 refl (close_3_a e) (close_3_b e) calm_5

  -- ---- and then nothing happens

  sees-last-a : saw real (entry 5 1 (make_transfer (name real p) (split p x y) p.asset 0) (Paid x)) (a_ends view_4 (Some final_2)) ≡ a_ends view_5 (Some final_2)
  sees-last-a = simp (bytes_eq_self (name real p), same-number p.asset, (flips (name_of_person p.key_a) (name_of_person p.key_b) w.begins.apart), from-zero x)

  close_4_a : Does sa a_name h5 [] (a_ends view_4 (Some final_2)) (suc ua) (a_ends view_5 (Some final_2)) (suc ua) [] []
  close_4_a =
      does sa a_name h5 [] (a_ends view_4 (Some final_2)) (a_ends view_5 (Some final_2)) (a_ends view_5 (Some final_2)) (a_ends view_5 (Some final_2)) (suc ua) (suc ua) [] [] sees-last-a (none_came sa a_name (a_ends view_5 (Some final_2)) (suc ua))
      (λ j c. tick_waits real p (signing_of sa) sa 0 p.key_a true view_5 (final_1 ∷ final_2 ∷ []) (marks_a s2 s1) (Some final_2) (suc ua) j c []
      (waits_ended real p 0 p.key_a view_5 (turn + 1) (turn + 1 + 1) x y x y (mark 1 s2) (mark 0 s1) (Some final_2))
      (done_a real p 5 (turn + 1 + 1) (p.a + p.b - y - x) (turn + 1) (turn + 1 + 1) x y x y (x - x) (y - y) ending ((name_of_person p.key_b, p.asset, y) ∷ (name_of_person p.key_a, p.asset, x) ∷ []) (mark 1 s2) (mark 0 s1) (Some final_2) w.begins (nothing-left x (p.a + p.b - y - x))))

  idle_a : Does sa a_name h5 [] (a_ends view_5 (Some final_2)) (suc ua) (a_ends view_5 (Some final_2)) (suc ua) [] []
  idle_a =
      does sa a_name h5 [] (a_ends view_5 (Some final_2)) (a_ends view_5 (Some final_2)) (a_ends view_5 (Some final_2)) (a_ends view_5 (Some final_2)) (suc ua) (suc ua) [] [] refl (none_came sa a_name (a_ends view_5 (Some final_2)) (suc ua))
      (λ j c. tick_waits real p (signing_of sa) sa 0 p.key_a true view_5 (final_1 ∷ final_2 ∷ []) (marks_a s2 s1) (Some final_2) (suc ua) j c []
      (waits_ended real p 0 p.key_a view_5 (turn + 1) (turn + 1 + 1) x y x y (mark 1 s2) (mark 0 s1) (Some final_2))
      (done_a real p 5 (turn + 1 + 1) (p.a + p.b - y - x) (turn + 1) (turn + 1 + 1) x y x y (x - x) (y - y) ending ((name_of_person p.key_b, p.asset, y) ∷ (name_of_person p.key_a, p.asset, x) ∷ []) (mark 1 s2) (mark 0 s1) (Some final_2) w.begins (nothing-left x (p.a + p.b - y - x))))

  idle_b : Does sb b_name h5 [] (b_ends view_5 (Some final_1)) (suc ub) (b_ends view_5 (Some final_1)) (suc ub) [] []
  idle_b =
      does sb b_name h5 [] (b_ends view_5 (Some final_1)) (b_ends view_5 (Some final_1)) (b_ends view_5 (Some final_1)) (b_ends view_5 (Some final_1)) (suc ub) (suc ub) [] [] refl (none_came sb b_name (b_ends view_5 (Some final_1)) (suc ub))
      (λ j c. tick_waits real p (signing_of sb) sb 1 p.key_b true view_5 (final_1 ∷ final_2 ∷ []) (marks_a s2 s1) (Some final_1) (suc ub) j c []
      (waits_ended real p 1 p.key_b view_5 (turn + 1) (turn + 1 + 1) x y x y (mark 1 s2) (mark 0 s1) (Some final_1))
      (done_b real p 5 (turn + 1 + 1) (p.a + p.b - y - x) (turn + 1) (turn + 1 + 1) x y x y (x - x) (y - y) ending ((name_of_person p.key_b, p.asset, y) ∷ (name_of_person p.key_a, p.asset, x) ∷ []) (mark 1 s2) (mark 0 s1) (Some final_1) w.begins (nothing-left y (p.a + p.b - y - x - (x - x)))))

  pub stays_paid : (names : Names) (step : ℕ) (s : SceneOf Numbered) → Ends → AreTwo p names.people
      → At names (deposits real p) (both p sa sb ua ub (a_runs p false older latest (marks_a ga gb) la) (b_runs p false older latest (marks_a ga gb) lb)) [] s
      → At names h5 (both p sa sb (suc ua) (suc ub) (a_ends view_5 (Some final_2)) (b_ends view_5 (Some final_1))) [] (play_rounds ways 6 (asked_both step s))
  stays_paid names step s e two at =
      let r3 = ends_paid names step s e two at in
      let r4 = scene_round p names h5 h5 two r3 refl refl close_4_a idle_b (same h5) in
      let r5 = scene_round p names h5 h5 two r4 refl refl idle_a idle_b (same h5) in
      scene_round p names h5 h5 two r5 refl refl idle_a idle_b (same h5)

  -- ---- what each was paid

  pub first_is_paid : paid_to h5 (name_of_person p.key_a) p.asset ≡ x
  first_is_paid = simp (bytes_eq_self, flips (name_of_person p.key_a) (name_of_person p.key_b) w.begins.apart, same-number p.asset, zeros-more x)

  pub second_is_paid : paid_to h5 (name_of_person p.key_b) p.asset ≡ y
  second_is_paid = simp (bytes_eq_self, w.begins.apart, same-number p.asset, zeros y)

  -- no channel holds anything of any asset
  pub nothing_is_held : x + y ≡ p.a + p.b → (channel : List ℕ) (asset : ℕ) → held_of h5 channel asset ≡ 0
  nothing_is_held sum channel asset = go (bytes_eq (name real p) channel) (p.asset == asset) refl refl
    where
      go : (t u : Bool) → bytes_eq (name real p) channel ≡ t → (p.asset == asset) ≡ u → held_of h5 channel asset ≡ 0
      go true true e f = simp (same-number p.asset, e, f, all-out x y p.a p.b sum)
      go true false e f = simp (same-number p.asset, e, f)
      go false u e f = simp (same-number p.asset, e)

  pub whole : IsWhole p (reverse h5)
  whole = (
    record { caller = refl; op = refl; reply = refl },
    record { caller = refl; op = refl; reply = refl },
    record { chain = ending; turn = turn + 1 + 1; named = refl; op = refl; reply = refl },
    record { outcome = split p x y; index = 1; amount = y; op = refl; reply = refl },
    record { outcome = split p x y; index = 0; amount = x; op = refl; reply = refl },
  )

  pub few : AreFew h5
  few = (tt, (tt, (omega arith, (tt, (tt, tt)))))

  pub one_asset : assets_of (flows_of (reverse h5)) ≡ p.asset ∷ []
  one_asset = simp (same-number p.asset, not-less p.asset)

  pub first_knows : share_known (a_ends view_5 (Some final_2)) p.asset ≡ x
  first_knows = share_first p 5 (turn + 1 + 1) (p.a + p.b - y - x) x y (x - x) (y - y) ending ((name_of_person p.key_b, p.asset, y) ∷ (name_of_person p.key_a, p.asset, x) ∷ []) final_1 final_2 (mark 1 s2) (mark 0 s1) final_2 (paid_behind (name_of_person p.key_a) (name_of_person p.key_b) p.asset x y [] (flips (name_of_person p.key_a) (name_of_person p.key_b) w.begins.apart)) (none-left x)

  pub second_knows : share_known (b_ends view_5 (Some final_1)) p.asset ≡ y
  second_knows = share_second p 5 (turn + 1 + 1) (p.a + p.b - y - x) x y (x - x) (y - y) ending ((name_of_person p.key_b, p.asset, y) ∷ (name_of_person p.key_a, p.asset, x) ∷ []) final_1 final_2 (mark 1 s2) (mark 0 s1) final_1 w.begins.apart (paid_first (name_of_person p.key_b) p.asset y ((name_of_person p.key_a, p.asset, x) ∷ [])) (none-left y)
