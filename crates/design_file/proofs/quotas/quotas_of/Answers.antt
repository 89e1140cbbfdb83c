use Rattle.std.proofs.Common.{subst, sym}
use Rattle.std.specs.List.{AllZip}
use Rattle.design_file.specs.Rounded.{IsQuotaOf}
use Rattle.design_file.proofs.ListSteps.{zipped-more, zipped-all}
use Rattle.design_file.proofs.quotas.quotas_of.Goals as goal

pub loop-share-preserved : goal.loop-share-preserved
loop-share-preserved c =
    subst (AllZip (IsQuotaOf c.args.scale.now.tick c.args.scale.now.unit c.args.bounds.now) _) (sym c.in_ok-add_quota.ensures.added)
    (zipped-more (IsQuotaOf c.args.scale.now.tick c.args.scale.now.unit c.args.bounds.now) c.args.shares.now c.loop-share.quotas.items c.loop-share.share-index c.share-item.result c.in_ok-add_quota.ensures.quota
    c.loop-share-test.true c.share-item.is c.loop-share.invariant c.in_ok-add_quota.ensures.rounded)

pub returns : goal.returns
returns c =
    zipped-all (IsQuotaOf c.args.scale.now.tick c.args.scale.now.unit c.args.bounds.now) c.args.shares.now c.loop-share.quotas.items c.loop-share.share-index c.loop-share-test.false c.loop-share.invariant
