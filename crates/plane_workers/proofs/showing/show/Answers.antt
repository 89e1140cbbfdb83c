-- What the link told is sent and seen, and the run has come to the next link.
use Rattle.std.proofs.Common.{arith}
use Rattle.call_script.proofs.PlansFit.{plan-fits}
use Rattle.plane_workers.proofs.WindowShown.{place-there, see-next, send-later, shown-inside, shows-next, tells-at}
use Rattle.plane_workers.proofs.showing.show.Goals as goal

pub next_told-reply-requires-clause-left : goal.next_told-reply-requires-clause-left
next_told-reply-requires-clause-left g c =
    shown-inside g.W.Watch.saw g.W.Watch.lags c.requires.laws c.args.plan.now c.args.until c.args.round c.args.place c.args.tracks.now c.args.plane.now c.args.watch.now c.requires.shows.0 c.requires.shows.1 c.requires.inside c.requires.early c.requires.told

pub link_of-requires : goal.link_of-requires
link_of-requires g c =
    let is = c.requires.shows.1 in
    let there = place-there g.W.Watch.lags c.args.plan.now c.args.until c.args.round c.args.place c.args.tracks.now c.args.plane.now c.args.watch.now c.requires.shows.0 is c.requires.inside in
    let few = (plan-fits c.args.plan.now is.within.plan).few in
    omega (arith, there, few)

pub send-requires : goal.send-requires
send-requires g c = record {
  later = send-later g.W.Watch.saw g.W.Watch.lags c.requires.laws c.args.plan.now c.args.until c.args.round c.args.place c.args.tracks.now c.args.plane.now c.args.watch.now c.requires.shows.0 c.requires.shows.1 c.requires.inside c.requires.early c.requires.told c.next_told-reply.result.now c.next_told-reply.ensures;
}

pub see_told-requires : goal.see_told-requires
see_told-requires g c = (
  c.requires.shows.0,
  (
    (tells-at g.W.Watch.saw g.W.Watch.lags c.requires.laws c.args.plan.now c.args.until c.args.round c.args.place c.args.tracks.now c.args.plane.now c.args.watch.now c.requires.shows.0 c.requires.shows.1 c.requires.inside c.requires.early c.requires.told).run,
    see-next g.W.Watch.saw g.W.Watch.lags c.requires.laws c.args.plan.now c.args.until c.args.round c.args.place c.args.tracks.now c.args.plane.now c.args.watch.now c.requires.shows.0 c.requires.shows.1 c.requires.inside c.requires.early c.requires.told c.next_told-reply.result.now c.next_told-reply.ensures c.link_of.result c.link_of.ensures,
  ),
)

pub pass_told-requires-clause-left : goal.pass_told-requires-clause-left
pass_told-requires-clause-left g c =
    shown-inside g.W.Watch.saw g.W.Watch.lags c.requires.laws c.args.plan.now c.args.until c.args.round c.args.place c.args.tracks.now c.args.plane.now c.args.watch.now c.requires.shows.0 c.requires.shows.1 c.requires.inside c.requires.early c.requires.told

pub returns-clause-shows : goal.returns-clause-shows
returns-clause-shows g c = λ past is.
    let tells = tells-at g.W.Watch.saw g.W.Watch.lags c.requires.laws c.args.plan.now c.args.until c.args.round c.args.place c.args.tracks.now c.args.plane.now c.args.watch.now past is c.requires.inside c.requires.early c.requires.told in
    let next = see-next g.W.Watch.saw g.W.Watch.lags c.requires.laws c.args.plan.now c.args.until c.args.round c.args.place c.args.tracks.now c.args.plane.now c.args.watch.now past is c.requires.inside c.requires.early c.requires.told c.next_told-reply.result.now c.next_told-reply.ensures c.link_of.result c.link_of.ensures in
    shows-next g.W.Watch.saw g.W.Watch.lags c.requires.laws c.args.plan.now c.args.until c.args.round c.args.place c.args.tracks.now c.args.plane.now c.args.watch.now past is c.requires.inside c.requires.early c.requires.told c.next_told-reply.result.now c.next_told-reply.ensures c.link_of.result c.link_of.ensures
    c.pass_told.new.tracks c.send.new.plane c.see_told.new.self c.pass_told.ensures.long c.pass_told.ensures.others c.pass_told.ensures.own c.in_ok-send.ensures.sent c.in_ok-send.ensures.links c.in_ok-send.ensures.rounds
    (c.in_ok-see_told.ensures.seen past tells.run next)
