-- What the play of a load comes to: both finished, and saw all of it.
use Rattle.std.proofs.Common.{◌≡◌, ℕ, ◌≤◌, true, List, [], ◌∷◌, length, drop, refl, sym, ◌∙◌, ap, subst, arith}
use Rattle.std.specs.Prelude.{fold}
use Rattle.std.proofs.lemmas.List.{length-drop, length-reverse, nil_from_length}
use Rattle.call_history.specs.declared.entry.Entry.{Entry}
use Rattle.script_run.specs.Load.{are_two, load_steps}
use Rattle.network.specs.Ways.{unlooking}
use Rattle.network.specs.declared.command.Command.{Command}
use Rattle.network.specs.declared.lookout.Lookout.{Lookout}
use Rattle.network.specs.Entered.{oldest_first}
use Rattle.network.specs.Worlds.{WorldOf, happened}
use Rattle.network.specs.declared.happening.Happening.TheVariants as happenings
use Rattle.channel_node.specs.Minds.{Mind, fresh}
use Rattle.channel_node.specs.Nodes.{NodeOf, new_node, saw_all}
use Rattle.channel_node.specs.Playing.{SignerOf}
use Rattle.node_guarantees.specs.Ways.{Numbered, ways}
use Rattle.script_run.specs.Pair.{Past, Becomes, node}
use Rattle.script_run.specs.Finish.{AreTwo, At, Finishes, both}
use Rattle.script_run.specs.Rounds.{world}
use Rattle.script_run.proofs.Whole.{two_finish_whole}
use Rattle.step_meanings.specs.declared.names.Names.{Names}
use Rattle.script_play.specs.Play.{play, play_steps}
use Rattle.support_rules.specs.Real.{real}
use Rattle.script_play.specs.Rounds.{seen_by}
use Rattle.script_run.specs.Paying.{pair_of}
use Rattle.script_run.proofs.Making.{signer_of, key_is, are_made}
use Rattle.script_run.proofs.Numbers.{has-a, has-b, payments_are_covered, a_has_some, b_has_some, enough}
use Rattle.script_run.proofs.Scene.{person_of, names_of, joined_both, amounts, last_step, is_chain}

-- ---- at first

abbrev none-past : Past
none-past = record { events = []; taken = refl }

begins-so : (letter seed : ℕ) (key : List ℕ) → Becomes (signer_of letter seed) (fresh key) 0 (node (signer_of letter seed) (fresh key) 0 none-past [])
begins-so letter seed key = record { journal = none-past; commands = []; is = refl }

two : (seed : ℕ) → AreTwo (pair_of seed) (names_of seed).people
two seed =
    record {
      first = person_of 65 1 seed;
      second = person_of 66 2 seed;
      others = [];
      are = refl;
      one = refl;
      two = refl;
      node_a = refl;
      node_b = refl;
      key_a = refl;
      key_b = refl;
      bare = tt;
    }

start : (seed : ℕ) → At (names_of seed) [] (both (pair_of seed) (signer_of 65 seed) (signer_of 66 seed) 0 0 (fresh (pair_of seed).key_a) (fresh (pair_of seed).key_b)) [] (joined_both seed)
start seed =
    record {
      named = refl;
      is = record {
        a = node (signer_of 65 seed) (fresh (pair_of seed).key_a) 0 none-past [];
        b = node (signer_of 66 seed) (fresh (pair_of seed).key_b) 0 none-past [];
        eye_a = unlooking ∷ [];
        eye_b = unlooking ∷ [];
        is = ap (λ (key : List ℕ). world [] (node (signer_of 65 seed) (fresh key) 0 none-past []) (unlooking ∷ []) (new_node (signer_of 66 seed)) (unlooking ∷ [])) (key_is 65 seed)
            ∙ ap (λ (key : List ℕ). world [] (node (signer_of 65 seed) (fresh (pair_of seed).key_a) 0 none-past []) (unlooking ∷ []) (node (signer_of 66 seed) (fresh key) 0 none-past []) (unlooking ∷ [])) (key_is 66 seed);
        knows_a = begins-so 65 seed (pair_of seed).key_a;
        knows_b = begins-so 66 seed (pair_of seed).key_b;
        calm_a = (record { within = omega arith; calm = λ held. refl }, tt);
        calm_b = (record { within = omega arith; calm = λ held. refl }, tt);
      };
      mail = refl;
    }

pub finishes : (seed count : ℕ) → are_two seed ≡ true → count ≤ 1000
    → Finishes (pair_of seed) (signer_of 65 seed) (signer_of 66 seed) (names_of seed) (has-a seed count) (has-b seed count) (play_steps ways (load_steps seed count))
finishes seed count apart few =
    subst (Finishes (pair_of seed) (signer_of 65 seed) (signer_of 66 seed) (names_of seed) (has-a seed count) (has-b seed count)) (sym (is_chain seed count apart))
    (two_finish_whole (pair_of seed) (signer_of 65 seed) (signer_of 66 seed) (names_of seed) 4 6 (last_step seed count) (amounts seed count) (joined_both seed)
    (are_made seed apart) (two seed) (enough seed count few) (payments_are_covered seed count few).covered (a_has_some seed count few) (b_has_some seed count few) (start seed))

-- ---- at the end both see, and there is nothing new

nothing-new : (h : List Entry) (n : ℕ) → n ≡ length h → drop n (oldest_first h) ≡ []
nothing-new h n all = nil_from_length (drop n (oldest_first h)) (omega (arith, length-drop n (oldest_first h), length-reverse h, all))

sees-a : (h : List Entry) (signer : SignerOf) (m : Mind) (used : ℕ) (journal : Past) (commands : List Command) (ea : List Lookout) (b : NodeOf) (eb : List Lookout) → m.view.count ≡ length h
    → happened ways (happenings.See 1) (world h (node signer m used journal commands) ea b eb) ≡ world h (node signer m used journal commands) ea b eb
sees-a h signer m used journal commands ea b eb all =
    ap (λ (es : List Entry). world h (saw_all real es (node signer m used journal commands)) ea b eb) (nothing-new h m.view.count all)

sees-b : (h : List Entry) (signer : SignerOf) (m : Mind) (used : ℕ) (journal : Past) (commands : List Command) (a : NodeOf) (ea : List Lookout) (eb : List Lookout) → m.view.count ≡ length h
    → happened ways (happenings.See 2) (world h a ea (node signer m used journal commands) eb) ≡ world h a ea (node signer m used journal commands) eb
sees-b h signer m used journal commands a ea eb all =
    ap (λ (es : List Entry). world h a ea (saw_all real es (node signer m used journal commands)) eb) (nothing-new h m.view.count all)

module _ (seed count : ℕ) (f : Finishes (pair_of seed) (signer_of 65 seed) (signer_of 66 seed) (names_of seed) (has-a seed count) (has-b seed count) (play_steps ways (load_steps seed count))) where
  abbrev sa : SignerOf
  sa = signer_of 65 seed

  abbrev sb : SignerOf
  sb = signer_of 66 seed

  abbrev pub node_a : NodeOf
  node_a = node sa f.knowing.mind_a f.knowing.used_a f.at.is.knows_a.journal f.at.is.knows_a.commands

  abbrev pub node_b : NodeOf
  node_b = node sb f.knowing.mind_b f.knowing.used_b f.at.is.knows_b.journal f.at.is.knows_b.commands

  a-is : f.at.is.a ≡ node_a
  a-is = f.at.is.knows_a.is ∙ ap (λ (s : SignerOf). node s f.knowing.mind_a f.knowing.used_a f.at.is.knows_a.journal f.at.is.knows_a.commands) f.signer_a

  b-is : f.at.is.b ≡ node_b
  b-is = f.at.is.knows_b.is ∙ ap (λ (s : SignerOf). node s f.knowing.mind_b f.knowing.used_b f.at.is.knows_b.journal f.at.is.knows_b.commands) f.signer_b

  -- the world that both saw
  pub seen_world : (play ways (load_steps seed count)).world ≡ world f.history node_a f.at.is.eye_a node_b f.at.is.eye_b
  seen_world =
      ap (λ (n : Names). fold (seen_by ways) (play_steps ways (load_steps seed count)).world n.people) f.at.named
      ∙ ap (λ (w : WorldOf Numbered). fold (seen_by ways) w (person_of 65 1 seed ∷ person_of 66 2 seed ∷ [])) f.at.is.is
      ∙ ap (λ (n : NodeOf). fold (seen_by ways) (world f.history n f.at.is.eye_a f.at.is.b f.at.is.eye_b) (person_of 65 1 seed ∷ person_of 66 2 seed ∷ [])) a-is
      ∙ ap (λ (n : NodeOf). fold (seen_by ways) (world f.history node_a f.at.is.eye_a n f.at.is.eye_b) (person_of 65 1 seed ∷ person_of 66 2 seed ∷ [])) b-is
      ∙ ap (happened ways (happenings.See 2)) (sees-a f.history sa f.knowing.mind_a f.knowing.used_a f.at.is.knows_a.journal f.at.is.knows_a.commands f.at.is.eye_a node_b f.at.is.eye_b f.seen_a)
      ∙ sees-b f.history sb f.knowing.mind_b f.knowing.used_b f.at.is.knows_b.journal f.at.is.knows_b.commands node_a f.at.is.eye_a f.at.is.eye_b f.seen_b
