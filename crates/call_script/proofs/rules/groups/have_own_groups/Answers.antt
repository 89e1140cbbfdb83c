-- The group at hand: it is new, and joins the set; or the set has it already.
use Rattle.std.proofs.Common.{[], ap, sym, ◌∙◌, get_or, not, nat_eq}
use Rattle.link_steps.specs.declared.quota.Quota.{Quota}
use Rattle.call_script.specs.Groups.{is_of_new_group}
use Rattle.call_script.proofs.GroupRulesStay.{get-here}
use Rattle.call_script.proofs.Walks.{after-skip, after-stop, any-more, over}
use Rattle.call_script.proofs.rules.groups.have_own_groups.Goals as goal

abbrev none : Quota
none = record { group = 0; buffer = 0; levels = [] }

pub returns-then-not-branch : goal.returns-then-not-branch
returns-then-not-branch c =
    let quotas = c.args.quotas.now in
    let place = c.loop-quota.quota-index in
    let quota = get_or quotas place none in
    sym (c.loop-quota.invariant.left ∙ after-stop is_of_new_group quotas place quota c.loop-quota-test.true (get-here quotas place none quota c.loop-quota-test.true)
    (sym (ap not (c.loop-quota.invariant.seen quota.group)) ∙ sym c.in_ok-insert.ensures.added ∙ c.if-not-branch.true))

pub loop-quota-preserved : goal.loop-quota-preserved
loop-quota-preserved c =
    let quotas = c.args.quotas.now in
    let place = c.loop-quota.quota-index in
    let quota = get_or quotas place none in
    let same = get-here quotas place none quota c.loop-quota-test.true in
    record {
      seen = λ q. any-more (λ (other : Quota). nat_eq other.group q) quotas place quota _ _ c.loop-quota-test.true same (c.loop-quota.invariant.seen q) (c.in_ok-insert.ensures.updates.0 q);
      left = c.loop-quota.invariant.left ∙ after-skip is_of_new_group quotas place quota c.loop-quota-test.true same
          (sym (ap not (c.loop-quota.invariant.seen quota.group)) ∙ sym c.in_ok-insert.ensures.added ∙ c.if-not-branch.false);
    }

pub returns : goal.returns
returns c = sym (c.loop-quota.invariant.left ∙ over is_of_new_group c.args.quotas.now c.loop-quota.quota-index c.loop-quota-test.false)
