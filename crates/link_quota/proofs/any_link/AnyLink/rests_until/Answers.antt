-- What the link inside tells.
use Rattle.std.proofs.Common.{sym, subst}
use Rattle.link_steps.specs.Quiet.{RestsUntil}
use Rattle.link_quota.specs.Any.{any_account, any_rules}
use Rattle.link_quota.proofs.any_link.AnyLink.rests_until.Goals as goal

pub returns-in-Plain : goal.returns-in-Plain
returns-in-Plain c = subst (λ any. RestsUntil (any_rules any).shape c.rests_until.result (any_account any)) (sym c.in-Plain.is) c.rests_until.ensures

pub returns-in-Quota : goal.returns-in-Quota
returns-in-Quota c = subst (λ any. RestsUntil (any_rules any).shape c.rests_until-in-Quota.result (any_account any)) (sym c.in-Quota.is) c.rests_until-in-Quota.ensures
