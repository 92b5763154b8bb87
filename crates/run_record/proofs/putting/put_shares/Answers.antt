use Rattle.run_record.specs.Limits.{IsShare}
use Rattle.run_record.specs.Spelling.{share}
use Rattle.run_record.proofs.Lists.{spelled_more, each_more}
use Rattle.run_record.proofs.putting.put_shares.Goals as goal

pub loop-share-preserved : goal.loop-share-preserved
loop-share-preserved c = (
  spelled_more share c.args.shares.now c.loop-share.share-index (0, 0) c.args.out.now.items c.loop-share.out.items c.put_share.new.out.items c.loop-share-test.true c.loop-share.invariant.0 c.in_ok-put_share.ensures.put,
  each_more IsShare c.args.shares.now c.loop-share.share-index (0, 0) c.loop-share-test.true c.loop-share.invariant.1 c.in_ok-put_share.ensures.fits,
)
