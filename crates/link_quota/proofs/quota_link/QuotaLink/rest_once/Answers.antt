-- One tick is a step of the link by its split.
use Rattle.std.proofs.Common.{sym, ap, subst, arith}
use Rattle.link_steps.specs.declared.asks.Ask.TheVariants.{Tick}
use Rattle.link_steps.specs.Quiet.{later_by, quiet_reply}
use Rattle.link_steps.specs.Split.{Link}
use Rattle.link_server.specs.State.{account_in}
use Rattle.link_server.proofs.EveryHistoryAgrees.{rows-have}
use Rattle.link_quota.specs.State.{rules_of}
use Rattle.link_quota.specs.Steps.{GoesOn}
use Rattle.link_quota.proofs.RestKeepsShares.{one-goes}
use Rattle.link_quota.proofs.quota_link.QuotaLink.rest_once.Goals as goal

pub rest-requires-clause-rests : goal.rest-requires-clause-rests
rest-requires-clause-rests c = let quota = c.args.self.now in (quota.due, (quota.rests c.requires.rests, (let before = c.requires.rests in omega (arith, before))))

pub returns-clause-shape : goal.returns-clause-shape
returns-clause-shape c = ap (λ (l : Link). l.shape) c.rest.ensures.same

pub returns-clause-split : goal.returns-clause-split
returns-clause-split c = ap (λ (l : Link). l.split) c.rest.ensures.same

pub returns-clause-goes : goal.returns-clause-goes
returns-clause-goes c =
    let quota = c.args.self.now in
    subst (λ k. GoesOn (rules_of quota) (account_in quota.link) k Tick (quiet_reply c.clock-clock.result)) (sym c.rest.ensures.kept)
    (subst (λ t. GoesOn (rules_of quota) (account_in quota.link) (later_by 1 (account_in quota.link)) Tick (quiet_reply t)) (sym c.clock-clock.ensures) (one-goes (rules_of quota) quota.due (account_in quota.link) (rows-have quota.link) (quota.rests c.requires.rests) c.requires.rests))
