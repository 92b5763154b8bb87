use Rattle.network_rounds.proofs.Dealt.{deals_both}
use Rattle.network_rounds.proofs.Phasing.{split_is}
use Rattle.network_rounds.proofs.seats.+deal.Goals as goal

pub returns : goal.returns
returns g t c =
    deals_both _ _ _ _ _ _ _ _ _ c.in_ok-other.ensures.0 c.in_ok-other.ensures.1 c.in_ok-other.ensures.2
    (split_is _ _ _ _ c.in_ok-rest.ensures.items c.in_ok-rest.ensures.tail) c.in_ok-deal.ensures c.in_ok-deal-2.ensures
