-- What the link of either kind tells.
use Rattle.std.proofs.Common.{ℕ, ◌+◌, ◌≤◌, sym, subst}
use Rattle.link_steps.specs.Quiet.{RestsUntil}
use Rattle.link_quota.specs.Any.{any_clock, any_account, any_rules}
use Rattle.link_quota.specs.declared.any_link.AnyLink.{AnyLink}
use Rattle.link_quota.proofs.any_link.AnyLink.rests.Goals as goal

-- nothing falls due in its next tick
abbrev Rests : AnyLink → Type 0
Rests link = (until : ℕ) × (RestsUntil (any_rules link).shape until (any_account link) × (any_clock link + 1 ≤ until))

pub returns-in-Plain : goal.returns-in-Plain
returns-in-Plain c = λ rests. subst Rests (sym c.in-Plain.is) (c.rests.ensures rests)

pub returns-in-Quota : goal.returns-in-Quota
returns-in-Quota c = λ rests. subst Rests (sym c.in-Quota.is) (c.rests-in-Quota.ensures rests)
