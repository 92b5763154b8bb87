-- What a node notes is of channels that last, so in a race its watchers are in time.
use Rattle.std.proofs.Common.{◌≡◌, ℕ, List, ◌∷◌, ◌++◌, inr, refl, sym, ◌∙◌, ap, subst}
use Rattle.std.specs.Prelude.{Some}
use Rattle.channel_values.specs.declared.chain.Signed.{Signed}
use Rattle.channel_values.specs.Rules.{Rules}
use Rattle.call_history.specs.declared.entry.Entry.{Entry}
use Rattle.channel_safety.proofs.Lists.{In-append_right, Split, split_of}
use Rattle.channel_safety.specs.Hashing.{Hashes}
use Rattle.channel_safety.proofs.Headline.{safe}
use Rattle.channel_safety.proofs.Telling.{tells}
use Rattle.network.proofs.Real.{network-safe}
use Rattle.support_rules.specs.Real.{real}
use Rattle.channel_safety.specs.Journals.{In, Line, noted_in}
use Rattle.channel_node.specs.Places.{Told, line_of, lines_of}
use Rattle.channel_node.specs.Playing.{Signing, Plays}
use Rattle.channel_node.specs.Tables.{Tables}
use Rattle.channel_node.proofs.Bridging.{In-lines, lines-append}
use Rattle.channel_node.proofs.Once.{played_journals_are_honest}
use Rattle.channel_safety.specs.Races.{WasOpened}
use Rattle.channel_safety.proofs.Looks.{in_time, stand_for_two}
use Rattle.channel_node.specs.RaceNodeLaws.{LastingPlansAreNoted, RacedNodesAreInTime, RacedNodesAreSafe}
use Rattle.channel_node.specs.Network.{NetworkRacersAreInTime, NetworkRacersAreSafe}
use Rattle.channel_node.proofs.Opened.{states-opened}

-- what lines before opened was opened
opened-later : (r : Rules) (older front : List Line) (channel : List ℕ) → ((y : Line) → In y older → In y front)
    → WasOpened r older channel → WasOpened r front channel
opened-later r older front channel inside was =
    record { line = was.line; there = inside was.line was.there; fixed = was.fixed; opens = was.opens; name = was.name }

planned : (t : Tables) (r : Rules) (s : Signing) (h : List Entry) (journal : List Told) → Plays t r s h journal
    → (x : Line) (channel : List ℕ) (state : Signed) → In x (lines_of s.key journal)
    → noted_in channel x.deed ≡ Some state → WasOpened r (lines_of s.key journal) channel
planned t r s h journal plays x channel state i e = at (In-lines s.key x journal i)
  where
    at : (z : Told) × (In z journal) × (x ≡ line_of s.key z) → WasOpened r (lines_of s.key journal) channel
    at z = here (split_of z.0 journal z.1)
      where
        noted : noted_in channel z.0.deed ≡ Some state
        noted = ap (λ (y : Line). noted_in channel y.deed) (sym z.2) ∙ e

        here : Split z.0 journal → WasOpened r (lines_of s.key journal) channel
        here sp =
            opened-later r (lines_of s.key sp.front) (lines_of s.key journal) channel
            (λ y j. subst (In y) (sym whole)
            (In-append_right y (lines_of s.key sp.newer) (lines_of s.key (z.0 ∷ sp.front)) (inr j)))
            (states-opened t r s h sp.newer z.0 sp.front channel state (subst (Plays t r s h) sp.is plays) noted)
          where
            whole : lines_of s.key journal ≡ lines_of s.key sp.newer ++ lines_of s.key (z.0 ∷ sp.front)
            whole = ap (lines_of s.key) sp.is ∙ lines-append s.key sp.newer (z.0 ∷ sp.front)

pub lasting-noted : LastingPlansAreNoted
lasting-noted t r s h journal plays lasting = record { planned = planned t r s h journal plays; lasting = lasting }

pub nodes-in_time : RacedNodesAreInTime
nodes-in_time t r s h journal ends race distinct =
    in_time r h (lines_of s.key journal) ends race.raced
    (stand_for_two r h (lines_of s.key journal) (lasting-noted t r s h journal race.plays race.lasting) distinct)

pub nodes-safe : RacedNodesAreSafe
nodes-safe t r s h journal ends keeps signs race unforged distinct valid =
    safe r s.key h (lines_of s.key journal) keeps race.legal
    (played_journals_are_honest t r s h journal signs race.legal race.plays) unforged distinct valid
    (nodes-in_time t r s h journal ends race distinct)

-- ---- the network's own rules

hashes : Hashes real
hashes = record { named = λ f. refl; digest = λ channel s. refl; outcome_digest = λ o. refl }

pub racers-in_time : NetworkRacersAreInTime
racers-in_time t s h journal ends race valid none =
    nodes-in_time t real s h journal ends race (tells real h (lines_of s.key journal) hashes valid none)

pub racers-safe : NetworkRacersAreSafe
racers-safe t s h journal ends signs race valid unforged none =
    network-safe h (lines_of s.key journal) valid s.key race.legal
    (played_journals_are_honest t real s h journal signs race.legal race.plays) unforged none
    (racers-in_time t s h journal ends race valid none)
