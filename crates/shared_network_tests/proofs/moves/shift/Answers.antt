use Rattle.std.proofs.Common.{sym, subst, arith}
use Rattle.shared_network.specs.Shifts.{MayShift}
use Rattle.shared_network_tests.proofs.moves.shift.Goals as goal

pub shift-requires-clause-may : goal.shift-requires-clause-may
shift-requires-clause-may g c κs within =
    let may = c.requires.may in
    subst (MayShift g.H.Home.owners g.H.Home.links c.args.pass.now) (sym c.new-mover.ensures.terms) (record {
      packets = record { count_least = omega arith; count_most = omega arith; gap_least = omega arith; gap_most = omega arith; size_least = omega arith; size_most = omega arith };
      apart = may.apart;
      owned_leaving = may.owned_left;
      owned_joining = may.owned_joined;
      hops_leaving = may.hops_left;
      hops_joining = may.hops_joined;
      leaving = record { contract = c.args.requests.now.0.contract; holds = may.left_open };
      joining = record { contract = c.args.requests.now.1.contract; holds = may.joined_open; small = may.small };
      unsent = may.unsent;
      last = may.planned;
    })
