-- The rounds are turns of the plane, and the watcher has seen them.
use Rattle.run_engine.proofs.Watched.WatchedStrides.{plays-rest, rest-seen}
use Rattle.run_engine.proofs.watching.stride_watched.Goals as goal

pub returns-clause-plays : goal.returns-clause-plays
returns-clause-plays g c = λ past stand.
    let saw = g.W.Watch.saw in
    let parts = c.args.plan.now in
    let stride = c.stride.ensures parts past stand.stands in
    plays-rest saw parts c.stride.new.self c.rested.new.self past c.args.rounds stride
    (c.in_ok-rested.ensures.seen past (rest-seen saw parts c.args.engine.now c.stride.new.self c.args.watch.now past c.round-first.result c.args.rounds stand stride c.round-first.ensures))
