use Rattle.std.proofs.Common.{[], ◌∷◌, sym, subst}
use Rattle.shared_network.proofs.Words.{channel_number, IsOff}
use Rattle.shared_network.proofs.CallSteps.SetupUnderWay.{ok-no-err, on-ok}
use Rattle.shared_network.proofs.Held.OtherChannels.{established-stays}
use Rattle.shared_network.proofs.CallSteps.CallsInTurn.{above-step}
use Rattle.shared_network.proofs.PlaneSteps.RoundSteps.{may-ask, expected, later, planes-next, makes-round}
use Rattle.shared_network.proofs.network.Network.plane_step.Goals as goal

pub step_at-requires-clause-link : goal.step_at-requires-clause-link
step_at-requires-clause-link g c κs within =
    (may-ask g.H.Home.table g.H.Home.owners g.H.Home.links c.args.pass.now c.args.plane.now c.self.invariant.splits c.requires.pass c.requires.links c.in-Some.ensures.in_links c.in-Some.ensures.few c.requires.planes c.in-Some.link c.in-Some.ask (sym c.in-Some.ensures.asked)).to_below

pub step_at-requires-clause-fits : goal.step_at-requires-clause-fits
step_at-requires-clause-fits g c κs within =
    λ link is. (may-ask g.H.Home.table g.H.Home.owners g.H.Home.links c.args.pass.now c.args.plane.now c.self.invariant.splits c.requires.pass c.requires.links c.in-Some.ensures.in_links c.in-Some.ensures.few c.requires.planes c.in-Some.link c.in-Some.ask (sym c.in-Some.ensures.asked)).fits link.shape

pub take-requires-clause-later : goal.take-requires-clause-later
take-requires-clause-later g c =
    later g.H.Home.table g.H.Home.owners g.H.Home.links c.args.pass.now c.args.plane.now c.in_ok-reply.ensures.splits c.requires.pass c.requires.links c.in-Some.ensures.in_links c.in-Some.ensures.few c.requires.planes c.in-Some.link c.in-Some.ask (sym c.in-Some.ensures.asked) c.step_at.new.pass c.in_ok-reply.reply c.in_ok-reply.ensures.made

pub unreachable-requires-then-is_err : goal.unreachable-requires-then-is_err
unreachable-requires-then-is_err g c =
    let told = expected g.H.Home.table g.H.Home.owners g.H.Home.links c.args.pass.now c.args.plane.now c.in_ok-reply.ensures.splits c.requires.pass c.requires.links c.in-Some.ensures.in_links c.in-Some.ensures.few c.requires.planes c.in-Some.link c.in-Some.ask (sym c.in-Some.ensures.asked) c.step_at.new.pass c.in_ok-reply.reply c.in_ok-reply.ensures.made in
    ok-no-err c.take.result (c.take.ensures.expected.1 told) c.if-is_err.ensures.value

pub returns-clause-made : goal.returns-clause-made
returns-clause-made g c =
    let told = expected g.H.Home.table g.H.Home.owners g.H.Home.links c.args.pass.now c.args.plane.now c.in_ok-reply.ensures.splits c.requires.pass c.requires.links c.in-Some.ensures.in_links c.in-Some.ensures.few c.requires.planes c.in-Some.link c.in-Some.ask (sym c.in-Some.ensures.asked) c.step_at.new.pass c.in_ok-reply.reply c.in_ok-reply.ensures.made in
    let taken = on-ok c.take.result (c.take.ensures.expected.1 told) c.take.ensures.taken in
    makes-round g.H.Home.table g.H.Home.owners g.H.Home.links c.args.pass.now c.args.plane.now c.in_ok-reply.ensures.splits c.requires.pass c.requires.links c.in-Some.ensures.in_links c.in-Some.ensures.few c.requires.planes c.in-Some.link c.in-Some.ask (sym c.in-Some.ensures.asked) c.step_at.new.pass c.in_ok-reply.reply c.in_ok-reply.ensures.made c.take.new.self taken c.take.ensures.rounds c.take.ensures.links

pub returns-clause-planes : goal.returns-clause-planes
returns-clause-planes g c =
    let told = expected g.H.Home.table g.H.Home.owners g.H.Home.links c.args.pass.now c.args.plane.now c.in_ok-reply.ensures.splits c.requires.pass c.requires.links c.in-Some.ensures.in_links c.in-Some.ensures.few c.requires.planes c.in-Some.link c.in-Some.ask (sym c.in-Some.ensures.asked) c.step_at.new.pass c.in_ok-reply.reply c.in_ok-reply.ensures.made in
    let taken = on-ok c.take.result (c.take.ensures.expected.1 told) c.take.ensures.taken in
    planes-next g.H.Home.table g.H.Home.owners g.H.Home.links c.args.pass.now c.args.plane.now c.in_ok-reply.ensures.splits c.requires.pass c.requires.links c.in-Some.ensures.in_links c.in-Some.ensures.few c.requires.planes c.in-Some.link c.in-Some.ask (sym c.in-Some.ensures.asked) c.step_at.new.pass c.in_ok-reply.reply c.in_ok-reply.ensures.made c.take.new.self taken c.take.ensures.rounds

pub returns-clause-established : goal.returns-clause-established
returns-clause-established g c =
    let may = may-ask g.H.Home.table g.H.Home.owners g.H.Home.links c.args.pass.now c.args.plane.now c.in_ok-reply.ensures.splits c.requires.pass c.requires.links c.in-Some.ensures.in_links c.in-Some.ensures.few c.requires.planes c.in-Some.link c.in-Some.ask (sym c.in-Some.ensures.asked) in
    let steps = c.in_ok-reply.ensures.made in
    λ request was. established-stays request c.args.pass.now.own c.step_at.new.pass.own (steps.entry ∷ []) steps.own (subst (IsOff (channel_number request.chan)) (sym steps.acted.ask_is) (may.off (channel_number request.chan)), tt) was

pub returns-clause-later : goal.returns-clause-later
returns-clause-later g c = above-step g.H.Home.links _ _ _ _ _ c.in_ok-reply.ensures.made
