-- None is made yet, and then some more.
use Rattle.std.proofs.Common.{◌≡◌, subst, arith}
use Rattle.tick_plane.specs.AskedRuns.{ticks}
use Rattle.plane_workers.specs.Tracks.{TellsMore}
use Rattle.plane_workers.proofs.LinkTells.{clock-ticked, no-ticks-behind, ticks-behind}
use Rattle.plane_workers.proofs.told.make_ticks.Goals as goal

pub loop-made-init : goal.loop-made-init
loop-made-init g c = record { within = omega arith; so_far = no-ticks-behind c.args.link.now c.args.told.now.items }

pub make_some-requires-clause-early : goal.make_some-requires-clause-early
make_some-requires-clause-early g c =
    let clock = clock-ticked c.args.link.now c.loop-made.link c.loop-made.made c.args.told.now.items c.loop-made.told.items c.loop-made.invariant.so_far c.requires.stands in
    let early = c.requires.early in
    let within = c.loop-made.invariant.within in
    omega (arith, clock, early, within)

pub loop-made-preserved : goal.loop-made-preserved
loop-made-preserved g c = record {
  within = (let most = c.in_ok-more.ensures.most in let within = c.loop-made.invariant.within in omega (arith, most, within));
  so_far = ticks-behind c.args.link.now c.loop-made.link c.make_some.new.link c.loop-made.made c.in_ok-more.more c.args.told.now.items c.loop-made.told.items c.make_some.new.told.items c.loop-made.invariant.so_far c.in_ok-more.ensures.tells;
}

pub returns : goal.returns
returns g c =
    let all : c.loop-made.made ≡ c.args.count = (let within = c.loop-made.invariant.within in let over = c.loop-made-test.false in omega (arith, within, over)) in
    subst (λ n. TellsMore c.args.link.now c.loop-made.link (ticks n) c.args.told.now.items c.loop-made.told.items) all c.loop-made.invariant.so_far
