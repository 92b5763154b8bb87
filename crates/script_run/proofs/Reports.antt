-- The report of a load says that both finished.
use Rattle.std.proofs.Common.{◌≡◌, ℕ, ◌≤◌, Bool, true, false, ◌&&◌, List, [], ◌∷◌, ◌++◌, length, inl, inr, refl, sym, ◌∙◌, ap, subst}
use Rattle.std.specs.Prelude.{All, Some, None, map, flat_map, reverse}
use Rattle.std.proofs.lemmas.List.{reverse-reverse}
use Rattle.channel_safety.proofs.Tests.{and-right}
use Rattle.call_history.specs.History.{Legal, flows_of, newest_first, paid_to, held_of}
use Rattle.call_history.specs.declared.entry.Entry.{Entry}
use Rattle.call_history.specs.declared.event.Deed.{Deed}
use Rattle.call_history.specs.declared.event.Deed.TheVariants.{Commanded, Handled, Signed, SignedChallenge, Called, Watched}
use Rattle.call_history.specs.declared.event.Event.{Event}
use Rattle.channel_values.specs.Digests.{name_of_person}
use Rattle.asset_holder.specs.Receipts.{assets_of}
use Rattle.script_run.specs.Load.{key_seed, digest_of, are_two, load_steps}
use Rattle.script_run.proofs.Kept.{load_is_kept}
use Rattle.network.specs.Worlds.{WorldOf}
use Rattle.channel_node.specs.Places.{Told, AreFew, told_by}
use Rattle.channel_node.specs.Playing.{signing_of}
use Rattle.node_guarantees.proofs.Telling.{nodes_tell_shares}
use Rattle.stage_tables.specs.Stages.{stages}
use Rattle.node_guarantees.proofs.Commanding.{nodes_follow_commands}
use Rattle.node_guarantees.proofs.Kept.{nodes_are_kept}
use Rattle.node_guarantees.specs.Commanded.{IsToldBy, told}
use Rattle.node_guarantees.specs.Gains.{share_known}
use Rattle.node_guarantees.specs.Placed.{IsPlaced}
use Rattle.node_guarantees.specs.Ways.{Numbered, ways}
use Rattle.script_run.specs.Pair.{is_taken, are_taken}
use Rattle.script_run.specs.Finish.{Finishes}
use Rattle.script_run.specs.Whole.{IsWhole}
use Rattle.script_run.specs.Rounds.{member, world}
use Rattle.script_play.proofs.Played.{plays_are_kept, plays_follow_commands}
use Rattle.play_report.specs.Reported.{IsPlayed, journal_of, shares_of, events}
use Rattle.premises.specs.declared.journal.Journal.{Journal}
use Rattle.report_text.specs.People.{refused_in, refused_of, all_refused}
use Rattle.report_text.specs.declared.commands.Refused.{Refused}
use Rattle.report_text.specs.declared.report.Load.{Load}
use Rattle.report_text.specs.declared.report.Report.{Report}
use Rattle.report_text.specs.declared.report.Share.{Share}
use Rattle.step_meanings.specs.Commands.{command_of}
use Rattle.script_play.specs.Play.{play, play_steps}
use Rattle.script_steps.specs.Bounds.{Fits}
use Rattle.script_steps.specs.declared.step.Step.{Step}
use Rattle.support_rules.specs.Real.{real}
use Rattle.node_guarantees.specs.Promised.{share_at_end}
use Rattle.network.specs.Commanded.{AllFollow}
use Rattle.network.specs.Standing.{IsWorld}
use Rattle.channel_safety.specs.Journals.{In}
use Rattle.script_steps.specs.Digests.{key_of}
use Rattle.script_run.specs.LoadLaws.{LoadsPay}
use Rattle.script_run.specs.Paying.{Pays, pair_of, first_has, second_has}
use Rattle.script_run.specs.Paying as paying
use Rattle.script_run.proofs.Bytes.{key_is_key}
use Rattle.script_run.proofs.Ending.{node_a, node_b, seen_world, finishes}
use Rattle.script_run.proofs.Making.{signer_of, own_key}
use Rattle.script_run.proofs.Numbers.{has-a, has-b, a_has, b_has}
use Rattle.script_run.proofs.Scene.{names_of}

-- ---- no command was refused

none-refused : (who : List ℕ) (d : Deed) (rest : Bool) → (is_taken d && rest) ≡ true → refused_in who d ≡ []
none-refused who (Commanded step None) rest e = refl
none-refused who (Commanded step (Some refusal)) rest e = absurd cc
none-refused who (Handled bytes refusal) rest e = refl
none-refused who (Signed channel state signature) rest e = refl
none-refused who (SignedChallenge channel state place signature) rest e = refl
none-refused who (Called call) rest e = refl
none-refused who (Watched watcher calls) rest e = refl

none-in : (who : List ℕ) (events : List Event) → are_taken events ≡ true → flat_map (λ (x : Event). refused_in who x.deed) events ≡ []
none-in who [] e = refl
none-in who (x ∷ events) e =
    ap (λ (first : List Refused). first ++ flat_map (λ (y : Event). refused_in who y.deed) events) (none-refused who x.deed (are_taken events) e)
    ∙ none-in who events (and-right (is_taken x.deed) (are_taken events) e)

-- ---- shares

-- what a node knows is the share of the definition
knows : (h : List Entry) (p : Numbered) → Legal real h → AreFew h → IsPlaced h p → p.node.is_lost ≡ false → p.node.mind.view.count ≡ length h → (asset : ℕ)
    → share_known p.node.mind asset ≡ share_at_end h (ways.key p) (told p) asset
unfolding signing_of
knows h p legal few placed able all asset = (nodes_tell_shares stages real (signing_of p.node.signer) h p.node legal able (placed.stands few) all).shares asset

-- by the commands of a script
shares-so : (steps : List Step) (h : List Entry) (p : Numbered) (x : ℕ) → Legal real h → AreFew h → IsPlaced h p → IsToldBy (command_of steps) p → p.node.is_lost ≡ false
    → p.node.mind.view.count ≡ length h → (asset : ℕ) → share_known p.node.mind asset ≡ x
    → share_at_end h (ways.key p) (told_by (command_of steps) p.node.journal) asset ≡ x
shares-so steps h p x legal few placed follows able all asset is =
    sym (ap (λ (xs : List Told). share_at_end h (ways.key p) xs asset) follows) ∙ sym (knows h p legal few placed able all asset) ∙ is

one-share : (key : List ℕ) (share : ℕ → ℕ) (assets : List ℕ) (x : ℕ) → assets ≡ 0 ∷ [] → share 0 ≡ x → shares_of key share assets ≡ record { person = name_of_person key; asset = 0; amount = x } ∷ []
one-share key share assets x one is =
    ap (shares_of key share) one ∙ ap (λ (n : ℕ). record { person = name_of_person key; asset = 0; amount = n } ∷ []) is

-- ---- the whole

module _ (load : Load) (r : Report) (apart : are_two load.seed ≡ true) (few : load.count ≤ 1000) (is : IsPlayed ways (Some load) r (load_steps load.seed load.count)) where
  abbrev steps : List Step
  steps = load_steps load.seed load.count

  abbrev Done : Type 0
  Done = Finishes (pair_of load.seed) (signer_of 65 load.seed) (signer_of 66 load.seed) (names_of load.seed) (has-a load.seed load.count) (has-b load.seed load.count) (play_steps ways steps)

  f : Done
  f = finishes load.seed load.count apart few

  fit : All Fits steps
  fit = (load_is_kept load.seed load.count steps refl few (key_is_key (key_seed 65 load.seed) 10) (key_is_key (key_seed 66 load.seed) 10) apart).fit

  abbrev the-world : WorldOf Numbered
  the-world = world f.history (node_a load.seed load.count f) f.at.is.eye_a (node_b load.seed load.count f) f.at.is.eye_b

  world-is : (play ways steps).world ≡ the-world
  world-is = seen_world load.seed load.count f

  past-is : newest_first r.history ≡ f.history
  past-is = is.tells.history ∙ ap (λ (w : WorldOf Numbered). w.history) world-is

  history-is : r.history ≡ reverse f.history
  history-is = sym (reverse-reverse r.history) ∙ ap (λ (h : List Entry). reverse h) past-is

  abbrev first : Numbered
  first = record { number = 1; node = node_a load.seed load.count f; exits = None }

  abbrev second : Numbered
  second = record { number = 2; node = node_b load.seed load.count f; exits = None }

  abbrev journal_a : Journal
  journal_a = journal_of ways (member 1 (node_a load.seed load.count f) f.at.is.eye_a)

  abbrev journal_b : Journal
  journal_b = journal_of ways (member 2 (node_b load.seed load.count f) f.at.is.eye_b)

  journals-are : r.journals ≡ journal_a ∷ journal_b ∷ []
  journals-are = is.tells.journals ∙ ap (λ (w : WorldOf Numbered). map (journal_of ways) w.members) world-is

  none-of-a : refused_of journal_a ≡ []
  none-of-a = none-in (name_of_person journal_a.key) journal_a.events f.at.is.knows_a.journal.taken

  none-of-b : refused_of journal_b ≡ []
  none-of-b = none-in (name_of_person journal_b.key) journal_b.events f.at.is.knows_b.journal.taken

  none-of-all : all_refused r.journals ≡ []
  none-of-all =
      ap all_refused journals-are
      ∙ ap (λ (x : List Refused). x ++ (refused_of journal_b ++ [])) none-of-a
      ∙ ap (λ (x : List Refused). x ++ []) none-of-b

  stands : IsWorld IsPlaced the-world
  stands = subst (IsWorld IsPlaced) world-is ((plays_are_kept ways IsPlaced nodes_are_kept).worlds steps fit)

  abbrev follows : (p : Numbered) → Type 0
  follows p = IsToldBy (command_of steps) p

  assets-are : assets_of (flows_of r.history) ≡ 0 ∷ []
  assets-are = ap (λ (h : List Entry). assets_of (flows_of h)) history-is ∙ f.assets

  follow : AllFollow follows the-world
  follow = subst (AllFollow follows) world-is (plays_follow_commands ways (λ commands p. IsToldBy commands p) nodes_follow_commands steps fit)

  abbrev here-a : In (member 1 (node_a load.seed load.count f) f.at.is.eye_a) the-world.members
  here-a = inl refl

  abbrev here-b : In (member 2 (node_b load.seed load.count f) f.at.is.eye_b) the-world.members
  here-b = inr (inl refl)

  share-a : share_at_end f.history journal_a.key (events (command_of steps) journal_a) 0 ≡ first_has load.seed load.count
  share-a =
      shares-so steps f.history first (first_has load.seed load.count) stands.legal f.few (stands.nodes (member 1 (node_a load.seed load.count f) f.at.is.eye_a) here-a)
      (follow (member 1 (node_a load.seed load.count f) f.at.is.eye_a) here-a) refl f.seen_a 0 (f.known_a ∙ a_has load.seed load.count few)

  share-b : share_at_end f.history journal_b.key (events (command_of steps) journal_b) 0 ≡ second_has load.seed load.count
  share-b =
      shares-so steps f.history second (second_has load.seed load.count) stands.legal f.few (stands.nodes (member 2 (node_b load.seed load.count f) f.at.is.eye_b) here-b)
      (follow (member 2 (node_b load.seed load.count f) f.at.is.eye_b) here-b) refl f.seen_b 0 (f.known_b ∙ b_has load.seed load.count few)

  -- the shares of one journal, over a history
  abbrev each : List Entry → Journal → List Share
  each h j = shares_of j.key (share_at_end h j.key (events (command_of steps) j)) (assets_of (flows_of r.history))

  abbrev share-of : List ℕ → ℕ → Share
  share-of key amount = record { person = name_of_person key; asset = 0; amount = amount }

  shares-are : r.shares ≡ share-of journal_a.key (first_has load.seed load.count) ∷ share-of journal_b.key (second_has load.seed load.count) ∷ []
  shares-are =
      is.tells.shares
      ∙ ap (λ (h : List Entry). flat_map (each h) r.journals) past-is
      ∙ ap (flat_map (each f.history)) journals-are
      ∙ ap (λ (x : List Share). x ++ (each f.history journal_b ++ [])) (one-share journal_a.key (share_at_end f.history journal_a.key (events (command_of steps) journal_a)) (assets_of (flows_of r.history)) (first_has load.seed load.count) assets-are share-a)
      ∙ ap (λ (x : List Share). share-of journal_a.key (first_has load.seed load.count) ∷ (x ++ [])) (one-share journal_b.key (share_at_end f.history journal_b.key (events (command_of steps) journal_b)) (assets_of (flows_of r.history)) (second_has load.seed load.count) assets-are share-b)

  shares-named : r.shares ≡ paying.share 65 load.seed (first_has load.seed load.count) ∷ paying.share 66 load.seed (second_has load.seed load.count) ∷ []
  shares-named =
      shares-are
      ∙ ap (λ (key : List ℕ). share-of key (first_has load.seed load.count) ∷ share-of journal_b.key (second_has load.seed load.count) ∷ []) (own_key 65 load.seed)
      ∙ ap (λ (key : List ℕ). share-of (key_of (key_seed 65 load.seed) 10) (first_has load.seed load.count) ∷ share-of key (second_has load.seed load.count) ∷ []) (own_key 66 load.seed)

  pub pays : Pays load r
  pays = record {
    whole = subst (IsWhole (pair_of load.seed)) (sym history-is) f.whole;
    first = ap (λ (h : List Entry). paid_to h (digest_of 65 load.seed) 0) past-is ∙ f.first_paid ∙ a_has load.seed load.count few;
    second = ap (λ (h : List Entry). paid_to h (digest_of 66 load.seed) 0) past-is ∙ f.second_paid ∙ b_has load.seed load.count few;
    none_held = λ channel asset. ap (λ (h : List Entry). held_of h channel asset) past-is ∙ f.none_held channel asset;
    none_refused = none-of-all;
    shares = shares-named;
  }

pub loads_pay : LoadsPay
loads_pay load r apart few is = pays load r apart few is
