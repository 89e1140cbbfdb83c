-- The engine makes the step for each run that both stand for, and it is seen after that run.
use Rattle.run_engine.proofs.Watched.WatchedSteps.{about, next-seen, goes-on}
use Rattle.run_engine.proofs.watching.make_watched.Goals as goal

pub make-requires : goal.make-requires
make-requires g c = (c.requires.0, about g.W.Watch.saw c.args.plan.now c.args.engine.now c.args.watch.now c.requires.0 c.args.actor c.args.link c.args.ask c.requires.1)

pub see-requires : goal.see-requires
see-requires g c =
    let run = c.requires.0 in
    let made = c.in_ok-done.ensures.made run (about g.W.Watch.saw c.args.plan.now c.args.engine.now c.args.watch.now run c.args.actor c.args.link c.args.ask c.requires.1) in
    (run, next-seen g.W.Watch.saw c.args.plan.now c.args.engine.now c.make.new.self c.args.watch.now run c.args.actor c.args.link c.args.ask c.in_ok-done.done c.requires.1 made)

pub returns-clause-goes_on : goal.returns-clause-goes_on
returns-clause-goes_on g c = λ past asked.
    let made = c.in_ok-done.ensures.made past (about g.W.Watch.saw c.args.plan.now c.args.engine.now c.args.watch.now past c.args.actor c.args.link c.args.ask asked) in
    let next = next-seen g.W.Watch.saw c.args.plan.now c.args.engine.now c.make.new.self c.args.watch.now past c.args.actor c.args.link c.args.ask c.in_ok-done.done asked made in
    goes-on g.W.Watch.saw c.args.plan.now c.make.new.self c.see.new.self past c.args.actor c.in_ok-done.done made (c.in_ok-see.ensures.seen past next)
