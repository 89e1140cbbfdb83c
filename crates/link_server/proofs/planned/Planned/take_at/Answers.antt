-- The first of the packets that are left is for this tick, or none is.
use Rattle.link_server.proofs.Calendars.Planning.{none-due-size, none-due-left, empty-due-size, empty-due-left, due-size, due-left}
use Rattle.link_server.proofs.planned.Planned.take_at.Goals as goal
use Rattle.link_server.proofs.planned.Planned.take_at.Goals.{then-self-eq0-via-then-self-eq0, then-self-eq0-via-else-self-eq0+then-self-clock}

pub returns-then-self-eq0-clause-size : goal.returns-then-self-eq0-clause-size
returns-then-self-eq0-clause-size c = elim c.then-self-eq0.branch [
  | then-self-eq0-via-then-self-eq0 w ↦ empty-due-size c.args.clock c.args.self.now.tick c.args.self.now.gap c.args.self.now.size c.args.self.now.count w.if-self-eq0.true
  | then-self-eq0-via-else-self-eq0+then-self-clock w ↦ none-due-size c.args.clock c.args.self.now.tick c.args.self.now.gap c.args.self.now.size c.args.self.now.count c.requires.ahead w.if-self-clock.true
]

pub returns-then-self-eq0-clause-left : goal.returns-then-self-eq0-clause-left
returns-then-self-eq0-clause-left c = elim c.then-self-eq0.branch [
  | then-self-eq0-via-then-self-eq0 w ↦ empty-due-left c.args.clock c.args.self.now.tick c.args.self.now.gap c.args.self.now.size c.args.self.now.count w.if-self-eq0.true
  | then-self-eq0-via-else-self-eq0+then-self-clock w ↦ none-due-left c.args.clock c.args.self.now.tick c.args.self.now.gap c.args.self.now.size c.args.self.now.count c.requires.ahead w.if-self-clock.true
]

pub returns-clause-size : goal.returns-clause-size
returns-clause-size c = due-size c.args.clock c.args.self.now.tick c.args.self.now.gap c.args.self.now.size c.args.self.now.count c.if-self-eq0.false c.if-self-clock.false

pub returns-clause-left : goal.returns-clause-left
returns-clause-left c = due-left c.args.clock c.args.self.now.tick c.args.self.now.gap c.args.self.now.size c.args.self.now.count c.args.self.now.apart c.if-self-eq0.false c.if-self-clock.false
