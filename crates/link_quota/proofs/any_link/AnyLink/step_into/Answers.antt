-- What the link inside promises.
use Rattle.std.proofs.Common.{◌≡◌, List, ◌∷◌, sym, subst}
use Rattle.link_steps.specs.declared.replies.Entry.{Entry}
use Rattle.link_steps.specs.Replies.{reply_to}
use Rattle.link_server.specs.State.{LinkStands}
use Rattle.link_quota.specs.Any.{any_rules, AnyStands}
use Rattle.link_quota.specs.State.{QuotaStands}
use Rattle.link_quota.proofs.any_link.AnyLink.step_into.Goals as goal

pub returns-in-Plain-clause-legal : goal.returns-in-Plain-clause-legal
returns-in-Plain-clause-legal c = subst (λ any. (h : List Entry) → AnyStands any h → c.step_into.new.reply ≡ reply_to (any_rules any) h c.args.ask.now) (sym c.in-Plain.is) c.step_into.ensures.legal

pub returns-in-Plain-clause-entered : goal.returns-in-Plain-clause-entered
returns-in-Plain-clause-entered c = subst (λ any. (h : List Entry) → AnyStands any h → LinkStands c.step_into.new.self (record { ask = c.args.ask.now; reply = c.step_into.new.reply } ∷ h)) (sym c.in-Plain.is) c.step_into.ensures.entered

pub returns-in-Quota-clause-legal : goal.returns-in-Quota-clause-legal
returns-in-Quota-clause-legal c = subst (λ any. (h : List Entry) → AnyStands any h → c.step_into-in-Quota.new.reply ≡ reply_to (any_rules any) h c.args.ask.now) (sym c.in-Quota.is) c.step_into-in-Quota.ensures.legal

pub returns-in-Quota-clause-entered : goal.returns-in-Quota-clause-entered
returns-in-Quota-clause-entered c = subst (λ any. (h : List Entry) → AnyStands any h → QuotaStands c.step_into-in-Quota.new.self (record { ask = c.args.ask.now; reply = c.step_into-in-Quota.new.reply } ∷ h)) (sym c.in-Quota.is) c.step_into-in-Quota.ensures.entered
