use Rattle.std.proofs.Common.{arith}
use Rattle.net_units.specs.Numbers.{actor_number}
use Rattle.step_stamp.proofs.ListMembers.{has-first}
use Rattle.step_stamp.proofs.Learning.{sees}
use Rattle.step_stamp.proofs.seats.PassSeat.seen.Goals as goal

pub load-requires : goal.load-requires
load-requires c = (c.requires.pass, omega (arith, c.args.stamps.now.words), sees _ _ _ (actor_number c.args.self.now.actor) _ (has-first (actor_number c.args.self.now.actor) _ c.args.self.now.actors))
