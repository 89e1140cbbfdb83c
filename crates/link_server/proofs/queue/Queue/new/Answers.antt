-- None are here, and none are planned.
use Rattle.std.proofs.Common.{length, refl, sym, ap, subst, arith}
use Rattle.std.proofs.lemmas.Option.{none-some}
use Rattle.link_steps.specs.Rows.{planned_from}
use Rattle.link_server.specs.Arrived.{arrived, HaveOwnNumbers, AreNumberedUpTo}
use Rattle.link_server.specs.Packets.{here_in}
use Rattle.link_server.proofs.Words.{filter, is_best}
use Rattle.link_server.proofs.queue.Queue.new.Goals as goal

pub invariant_of-result-2 : goal.invariant_of-result-2
invariant_of-result-2 c =
    let none = c.in_ok-new.ensures.waiting in
    record {
      own = subst (λ packets. HaveOwnNumbers (here_in packets)) (sym none) (λ n. omega arith);
      numbered = subst (λ packets. AreNumberedUpTo 0 (here_in packets)) (sym none) tt;
      fits = (let long = ap (λ packets. length (here_in packets)) none in omega (arith, long));
      lines_up = omega arith;
      best_counted = ap (λ packets. length (filter (is_best c.args.shape.now.bounds) (here_in packets))) (sym none);
      leaving = λ running on. absurd (none-some running on);
    }

pub returns : goal.returns
unfolding planned_from arrived
returns c = rw c.in_ok-new.ensures.until refl
