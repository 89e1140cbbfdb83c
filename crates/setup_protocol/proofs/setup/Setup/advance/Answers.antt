-- A hop less is left of those that were places of the route, and the denial stays.
use Rattle.std.proofs.Common.{subst, arith}
use Rattle.setup_protocol.specs.State.{IsDenyOf, IsPlace, IsStateOf}
use Rattle.setup_protocol.proofs.setup.Setup.advance.Goals as goal

pub invariant_of-self : goal.invariant_of-self
invariant_of-self c =
    let is : IsPlace c.args.self.now.request.route c.in-Undoing.left × IsDenyOf c.args.self.now.request.route c.in-Undoing.deny = subst (IsStateOf c.args.self.now.request.route c.args.self.now.itinerary.levels) c.in-Undoing.is c.args.self.now.in_range in
    record {
      same_route = c.args.self.now.same_route;
      in_range = c.undo-self.ensures.range c.args.self.now.request.route c.args.self.now.itinerary.levels (omega (arith, is.0.most)) is.1;
    }

pub invariant_of-self-in-Relaxing : goal.invariant_of-self-in-Relaxing
invariant_of-self-in-Relaxing c = record {
  same_route = c.args.self.now.same_route;
  in_range = c.relax_on-self.ensures.range c.args.self.now.itinerary.levels;
}
