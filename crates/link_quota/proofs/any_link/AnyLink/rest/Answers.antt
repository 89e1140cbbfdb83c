-- What the link inside promises.
use Rattle.std.proofs.Common.{◌≡◌, ℕ, ◌+◌, ◌<◌, ◌≤◌, List, sym, subst}
use Rattle.link_steps.specs.declared.asks.Ask.TheVariants.{Tick}
use Rattle.link_steps.specs.declared.replies.Entry.{Entry}
use Rattle.link_steps.specs.Quiet.{RestsUntil, quiet_reply, quiet_ticks}
use Rattle.link_steps.specs.Replies.{reply_to}
use Rattle.link_server.specs.State.{LinkStands}
use Rattle.link_quota.specs.Any.{any_clock, any_account, any_rules, AnyStands}
use Rattle.link_quota.specs.State.{QuotaStands}
use Rattle.link_quota.specs.declared.any_link.AnyLink.{AnyLink}
use Rattle.link_quota.proofs.any_link.AnyLink.rest.Goals as goal

-- so many ticks before one until which it rests
abbrev RestsFor : AnyLink → ℕ → Type 0
RestsFor any ticks = (until : ℕ) × (RestsUntil (any_rules any).shape until (any_account any) × (any_clock any + ticks ≤ until))

pub rest-requires-clause-rests : goal.rest-requires-clause-rests
rest-requires-clause-rests c = subst (λ any. RestsFor any c.args.ticks) c.in-Plain.is c.requires.rests

pub rest-requires-in-Quota-clause-rests : goal.rest-requires-in-Quota-clause-rests
rest-requires-in-Quota-clause-rests c = subst (λ any. RestsFor any c.args.ticks) c.in-Quota.is c.requires.rests

pub returns-in-Plain-clause-made : goal.returns-in-Plain-clause-made
returns-in-Plain-clause-made c = subst (λ any. (h : List Entry) → AnyStands any h → LinkStands c.rest.new.self (quiet_ticks c.args.ticks (any_clock any) h)) (sym c.in-Plain.is) c.rest.ensures.made

pub returns-in-Quota-clause-made : goal.returns-in-Quota-clause-made
returns-in-Quota-clause-made c = subst (λ any. (h : List Entry) → AnyStands any h → QuotaStands c.rest-in-Quota.new.self (quiet_ticks c.args.ticks (any_clock any) h)) (sym c.in-Quota.is) c.rest-in-Quota.ensures.made

pub returns-in-Plain-clause-legal : goal.returns-in-Plain-clause-legal
returns-in-Plain-clause-legal c =
    subst (λ any. (m : ℕ) (h : List Entry) → m < c.args.ticks → AnyStands any h → quiet_reply (any_clock any + m) ≡ reply_to (any_rules any) (quiet_ticks m (any_clock any) h) Tick) (sym c.in-Plain.is) c.rest.ensures.legal

pub returns-in-Quota-clause-legal : goal.returns-in-Quota-clause-legal
returns-in-Quota-clause-legal c =
    subst (λ any. (m : ℕ) (h : List Entry) → m < c.args.ticks → AnyStands any h → quiet_reply (any_clock any + m) ≡ reply_to (any_rules any) (quiet_ticks m (any_clock any) h) Tick) (sym c.in-Quota.is) c.rest-in-Quota.ensures.legal
