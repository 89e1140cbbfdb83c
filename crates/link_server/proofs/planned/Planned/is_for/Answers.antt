-- Where the first isn't for this tick, none is, nor is any where none are planned.
use Rattle.std.proofs.Common.{arith}
use Rattle.std.proofs.lemmas.Bool.{eqb-false}
use Rattle.link_server.proofs.Calendars.Planning.{none-due, empty-due}
use Rattle.link_server.proofs.planned.Planned.is_for.Goals as goal

pub returns-then-self-gt0 : goal.returns-then-self-gt0
returns-then-self-gt0 c = λ other. none-due c.args.clock c.args.self.now.tick c.args.self.now.gap c.args.self.now.size c.args.self.now.count c.requires.ahead (eqb-false c.args.self.now.tick c.args.clock other)

pub returns-else-self-gt0 : goal.returns-else-self-gt0
returns-else-self-gt0 c = λ _. empty-due c.args.clock c.args.self.now.tick c.args.self.now.gap c.args.self.now.size c.args.self.now.count (omega (arith, c.if-self-gt0.false))
