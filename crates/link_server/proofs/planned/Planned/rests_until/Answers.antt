-- The packets that are planned and left begin with the next one.
use Rattle.std.proofs.Common.{sym, subst, arith}
use Rattle.link_server.proofs.Words.{Each}
use Rattle.link_steps.specs.Rows.{planned_from}
use Rattle.link_server.specs.Planned.{IsPlannedFrom}
use Rattle.link_server.proofs.Calendars.Quiet.{planned-quiet}
use Rattle.link_server.proofs.planned.Planned.rests_until.Goals as goal

pub returns-then-self-eq0 : goal.returns-then-self-eq0
unfolding planned_from
returns-then-self-eq0 c =
    subst (λ count. Each (IsPlannedFrom 18446744073709551615) (planned_from c.args.self.now.tick c.args.self.now.gap c.args.self.now.size count)) (sym c.if-self-eq0.true) tt

pub returns : goal.returns
returns c = planned-quiet c.args.self.now.tick c.args.self.now.tick c.args.self.now.gap c.args.self.now.size c.args.self.now.count (omega arith)
