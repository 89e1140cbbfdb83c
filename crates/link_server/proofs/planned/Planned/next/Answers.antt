-- The first of the packets that are left is the next one.
use Rattle.link_server.proofs.Calendars.Planning.{no-first, first-is}
use Rattle.link_server.proofs.planned.Planned.next.Goals as goal

pub returns-then-self-eq0 : goal.returns-then-self-eq0
returns-then-self-eq0 c = no-first c.args.self.now.tick c.args.self.now.gap c.args.self.now.size c.args.self.now.count c.if-self-eq0.true

pub returns : goal.returns
returns c = first-is c.args.self.now.tick c.args.self.now.gap c.args.self.now.size c.args.self.now.count c.if-self-eq0.false
