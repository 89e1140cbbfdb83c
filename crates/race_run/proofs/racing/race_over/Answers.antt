use Rattle.std.proofs.Common.{suc, List, length, subst}
use Rattle.link_steps.specs.Split.{Link}
use Rattle.call_script.specs.Tasks.{network_of}
use Rattle.shared_network.specs.Closing.{IsClosed}
use Rattle.race_run.proofs.PieceSteps.GivenUp.{kept-whole}
use Rattle.race_run.proofs.PieceSteps.RaceSizes.{all-new, links-few, passes-as, seats-as}
use Rattle.race_run.proofs.PieceSteps.TailComesLast.{tail-kept}
use Rattle.race_run.proofs.racing.race_over.Goals as goal

pub open-requires-clause-seats : goal.open-requires-clause-seats
open-requires-clause-seats g c κs within = seats-as g.H.Home.table g.H.Home.owners g.H.Home.links c.args.plan.now c.requires.plan c.requires.network (suc (length c.args.plan.now.callers)) c.args.opened.2.items c.requires.passes c.args.opened.1.items c.requires.seats

pub open-requires-clause-passes : goal.open-requires-clause-passes
open-requires-clause-passes g c κs within = passes-as g.H.Home.table g.H.Home.owners g.H.Home.links c.args.plan.now c.requires.plan c.requires.network (suc (length c.args.plan.now.callers)) c.args.opened.2.items c.requires.passes

pub open-requires-clause-most : goal.open-requires-clause-most
open-requires-clause-most g c κs within = links-few g.H.Home.table g.H.Home.owners g.H.Home.links c.args.plan.now c.requires.plan c.requires.network

pub make_all-requires-clause-new : goal.make_all-requires-clause-new
make_all-requires-clause-new g c κs within = all-new g.H.Home.table g.H.Home.owners g.H.Home.links c.args.plan.now c.requires.plan c.requires.network c.args.opened.2.items c.in_ok-network.passes.items c.requires.passes c.in_ok-network.ensures.actors c.in_ok-network.ensures.passes

pub returns-in-Ok-clause-whole : goal.returns-in-Ok-clause-whole
returns-in-Ok-clause-whole g c =
    kept-whole (network_of c.args.plan.now) c.in_ok-passes.passes.items c.in-Ok.closed.passes c.in-Ok.closed.journals c.in-Ok.ensures.passes
    (subst (λ (ls : List Link). IsClosed ls c.in_ok-passes.passes.items c.in-Ok.closed.journals) c.requires.network.links_are c.in-Ok.ensures.closed) c.in_ok-passes.ensures.actors c.in_ok-passes.ensures.made

pub returns-in-Ok-clause-tail : goal.returns-in-Ok-clause-tail
returns-in-Ok-clause-tail g c = tail-kept c.args.plan.now c.in_ok-passes.passes.items c.in-Ok.closed.passes c.in-Ok.ensures.passes c.in_ok-passes.ensures.tail
