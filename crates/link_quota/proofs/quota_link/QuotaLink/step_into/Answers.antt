-- A step that wants no memory has a reply.
use Rattle.std.proofs.Common.{sym, true≢false}
use Rattle.link_server.proofs.SureAsks.{takes-none}
use Rattle.link_quota.proofs.quota_link.QuotaLink.step_into.Goals as goal

pub unreachable-requires : goal.unreachable-requires
unreachable-requires c = true≢false (sym (c.in-Err.ensures.sure (takes-none c.args.ask.now c.requires.sure)))

pub returns-clause-legal : goal.returns-clause-legal
returns-clause-legal c = c.in-Ok.ensures.legal

pub returns-clause-entered : goal.returns-clause-entered
returns-clause-entered c = c.in-Ok.ensures.entered
