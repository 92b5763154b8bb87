-- What the calls of a node make of it stands.
use Rattle.channel_node.specs.Giving.{after_tick}
use Rattle.channel_node.specs.Leaving.{MayCall}
use Rattle.channel_node.specs.Nodes.{told_of, handled, ticked, challenged_all, gave_one, gave, told_to, saw_one, watched}
use Rattle.channel_node.specs.NodeLaws.{CallsKeepStanding, FollowsWithin, FreshNodesStand, LostNodesStand, StandingGrows, StandingNodesAreHonest}
use Rattle.channel_node.proofs.Keepers.{waiting, standing, handles, ticks, challenges, gives, gives-all, sees, loses, stands-fresh, grows, within}
use Rattle.channel_node.proofs.Once.{played_journals_are_honest}
use Rattle.channel_node.proofs.Paying.{tells}
use Rattle.channel_node.proofs.Ticking.{each-in, ticks-all}
use Rattle.channel_node.proofs.Watching.{watches}

pub calls_keep_standing : CallsKeepStanding
calls_keep_standing t r s h n legal kept st =
    let w = waiting t r s h legal n kept st in
    record {
      handles = λ bytes. standing t r s h legal (handled t r bytes n) (handles t r s h legal n bytes w);
      tells = λ step command. standing t r s h legal (told_to t r s step command n) (tells t r s h legal n step command w);
      ticks = λ channels. standing t r s h legal (ticked t r s channels n) (ticks t r s h legal channels n w);
      challenges = λ channels. standing t r s h legal (challenged_all r s channels n) (challenges t r s h legal channels n w);
      gives = λ call may. standing t r s h legal (gave_one n call) (gives t r s h legal n call may w);
      gives_all = λ calls all. standing t r s h legal (gave calls n) (gives-all t r s h legal calls n (each-in (MayCall t n.mind) calls all) w);
      ticks_all = standing t r s h legal (after_tick t r s n) (ticks-all t r s h legal n w);
      watches = λ seen watcher given looks. standing t r s h legal (watched seen watcher given n) (watches t r s h legal n seen watcher given looks w);
      sees = λ e next. standing t r s h legal (saw_one r n e) (sees t r s h legal n e next w);
    }

pub fresh_nodes_stand : FreshNodesStand
fresh_nodes_stand t r signer h = stands-fresh t r signer h

pub lost_nodes_stand : LostNodesStand
lost_nodes_stand t r s h n new lost journal commands st = loses t r s h n new lost journal commands st

pub standing_nodes_are_honest : StandingNodesAreHonest
standing_nodes_are_honest t r s h n signs legal st = played_journals_are_honest t r s h (told_of n) signs legal st.plays

pub standing_grows : StandingGrows
standing_grows t r s h e n st = grows t r s h e n st

pub follows_within : FollowsWithin
follows_within t r s h n legal kept st = within t r s h n legal kept st
