use Rattle.std.proofs.Common.{take}
use Rattle.std.specs.List.{AllZip}
use Rattle.design_file.specs.Rounded.{IsQuotaOf}
use Rattle.design_file.proofs.quotas.quotas_of.Given as goal

-- the quotas so far are those of the shares so far
abbrev pub invariant-loop-share : goal.invariant-loop-share
invariant-loop-share l = AllZip (IsQuotaOf l.scale.tick l.scale.unit l.bounds) (take l.share-index l.shares) l.quotas.items
