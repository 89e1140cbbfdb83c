use Rattle.std.proofs.Common.{List, [], length, sym, ap, subst, arith}
use Rattle.net_units.specs.Numbers.{actor_number}
use Rattle.net_units.specs.declared.numbers.ActorNo.{ActorNo}
use Rattle.step_stamp.specs.Seats.{knows_of, pass_view}
use Rattle.link_ledger.specs.Own.{Owns}
use Rattle.link_ledger.specs.declared.entries.OwnEntry.{OwnEntry}
use Rattle.link_ledger.proofs.OwnStaysExact.{entries-none}
use Rattle.link_ledger.proofs.pass.Pass.new.Goals as goal

pub returns-clause-owns : goal.returns-clause-owns
returns-clause-owns c = λ links l link is.
    subst (λ (x : ActorNo × List OwnEntry). Owns link l x.0 (pass_view c.args.seat) x.1) (λ i. (sym c.actor.ensures i, sym c.new.ensures.items i))
    (entries-none link (actor_number c.args.seat.actor) [] (knows_of c.args.seat l) (c.args.seat.fresh (omega (arith, c.args.seat.count, ap length c.requires.drawn)) l))
