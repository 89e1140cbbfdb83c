-- No flight is due in the round, nor is the one that departs.
use Rattle.std.proofs.Common.{ap, ◌∙◌}
use Rattle.tick_plane.specs.Planes.{flight_of, next_due}
use Rattle.tick_plane.specs.PlaneAccount.{PlaneAccount}
use Rattle.tick_plane.proofs.FirstDueFlight.{none-with}
use Rattle.tick_plane.proofs.plane.Plane.tick.Goals as goal

pub pass-requires-clause-none : goal.pass-requires-clause-none
pass-requires-clause-none c =
    ap (λ (p : PlaneAccount). next_due p.at) c.depart.ensures ∙ none-with c.args.self.now.at.round c.args.self.now.at.flights (flight_of c.args.sent.now) c.requires.none c.requires.later
