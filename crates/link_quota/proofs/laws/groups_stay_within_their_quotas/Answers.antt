use Rattle.link_quota.proofs.StaysWithin.{stay-within}
use Rattle.link_quota.proofs.laws.groups_stay_within_their_quotas.Goals as goal

pub returns : goal.returns
returns c = stay-within
