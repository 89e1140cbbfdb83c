use Rattle.std.proofs.Common.{length, map, sym, subst, arith}
use Rattle.shared_network.proofs.Words.{link_number, Has, pass_view}
use Rattle.shared_network.specs.Closing.{IsClosed}
use Rattle.shared_network.proofs.ToldAtClosing.{closed-told}
use Rattle.shared_network.specs.Gathering.{token_actor}
use Rattle.shared_network.proofs.Numbering.ActorOrder.{actors-there}
use Rattle.shared_network.proofs.Numbering.LinkNumbers.{numbered-length}
use Rattle.shared_network.proofs.network.Network.close.Goals as goal

pub settle-journals-requires-clause-acts : goal.settle-journals-requires-clause-acts
settle-journals-requires-clause-acts g c κs within = λ a below.
    (let so = c.gather-seat.ensures.gathered in
    subst (Has a) (sym so.actors_are) (actors-there (length c.args.passes.items) a (map token_actor c.args.passes.items) c.requires.all.actors (let among = so.among in omega (arith, below, among))))

pub settle-journals-requires-clause-all : goal.settle-journals-requires-clause-all
settle-journals-requires-clause-all g c κs within = numbered-length (λ l. link_number l.link) c.self.inside.links.items (length g.H.Home.links) c.self.invariant.numbers_are

pub settle-journals-requires-clause-room : goal.settle-journals-requires-clause-room
settle-journals-requires-clause-room g c κs within = (let room = c.in-Ok.ensures.journals in omega (arith, room.1, c.len.ensures, c.self.inside.links.ok))

pub returns-clause-closed : goal.returns-clause-closed
returns-clause-closed g c =
    subst (IsClosed g.H.Home.links c.args.passes.items) (sym c.new-2.ensures)
    (closed-told g.H.Home.table g.H.Home.owners g.H.Home.links c.args.passes.items (pass_view c.gather-seat.result.0) c.settle-journals.result.items c.requires.all c.gather-seat.ensures.gathered c.settle-journals.ensures)
