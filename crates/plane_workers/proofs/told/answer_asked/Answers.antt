-- Nothing is asked yet, and then a packet arrives, or some ticks are made.
use Rattle.std.proofs.Common.{◌+◌, List, take, sym, ap, subst, arith}
use Rattle.link_quota.specs.Any.{any_rules}
use Rattle.link_quota.specs.declared.any_link.AnyLink.{AnyLink}
use Rattle.link_steps.specs.declared.replies.Reply.{Reply}
use Rattle.tick_plane.specs.AskedRuns.{asks_in}
use Rattle.plane_workers.specs.Tracks.{TellsMore}
use Rattle.plane_workers.proofs.LinkTells.{all-so_far, arrival-early, arrival-fits, arrival-so_far, none-so_far, ticks-early, ticks-so_far}
use Rattle.plane_workers.proofs.told.answer_asked.Goals as goal
use Rattle.plane_workers.proofs.told.answer_asked.Goals.{in-Arrives, in-Ticks+in_ok-make_ticks-in-Ticks}

pub loop-next-init : goal.loop-next-init
loop-next-init g c = none-so_far c.args.link.now c.args.asked.now c.args.told.now.items

pub arrive-requires-clause-fits : goal.arrive-requires-clause-fits
arrive-requires-clause-fits g c = arrival-fits (any_rules c.args.link.now).shape c.args.asked.now c.loop-next.next-index c.next-item.result c.in-Arrives.packet c.loop-next-test.true c.next-item.is c.in-Arrives.is c.requires.fits

pub arrive-requires-clause-early : goal.arrive-requires-clause-early
arrive-requires-clause-early g c =
    let clock = arrival-early c.args.link.now c.loop-next.link c.args.asked.now c.loop-next.next-index c.next-item.result c.args.told.now.items c.loop-next.told.items c.loop-next-test.true c.next-item.is c.loop-next.invariant c.requires.stands in
    let early = c.requires.early in
    omega (arith, clock, early)

pub make_ticks-requires-clause-early : goal.make_ticks-requires-clause-early
make_ticks-requires-clause-early g c =
    let clock = ticks-early c.args.link.now c.loop-next.link c.args.asked.now c.loop-next.next-index c.next-item.result c.in-Ticks.count c.args.told.now.items c.loop-next.told.items c.loop-next-test.true c.next-item.is c.in-Ticks.is c.loop-next.invariant c.requires.stands in
    let early = c.requires.early in
    omega (arith, clock, early)

pub loop-next-preserved : goal.loop-next-preserved
loop-next-preserved g c =
    elim c.match-next.branch [
      | in-Arrives w ↦
          (let more = arrival-so_far c.args.link.now c.loop-next.link w.arrive.new.link c.args.asked.now c.loop-next.next-index c.next-item.result w.in-Arrives.packet c.args.told.now.items c.loop-next.told.items c.loop-next-test.true c.next-item.is w.in-Arrives.is c.loop-next.invariant w.arrive.ensures in
          subst (λ (l : AnyLink). TellsMore c.args.link.now l (asks_in (take (c.loop-next.next-index + 1) c.args.asked.now)) c.args.told.now.items c.match-next.told.items) (sym w.link-is)
          (subst (λ (rs : List Reply). TellsMore c.args.link.now w.arrive.new.link (asks_in (take (c.loop-next.next-index + 1) c.args.asked.now)) c.args.told.now.items rs) (sym (ap (λ v. v.items) w.told-is)) more))
      | in-Ticks+in_ok-make_ticks-in-Ticks w ↦
          (let more = ticks-so_far c.args.link.now c.loop-next.link w.make_ticks.new.link c.args.asked.now c.loop-next.next-index c.next-item.result w.in-Ticks.count c.args.told.now.items c.loop-next.told.items w.make_ticks.new.told.items c.loop-next-test.true c.next-item.is w.in-Ticks.is c.loop-next.invariant w.in_ok-make_ticks-in-Ticks.ensures in
          subst (λ (l : AnyLink). TellsMore c.args.link.now l (asks_in (take (c.loop-next.next-index + 1) c.args.asked.now)) c.args.told.now.items c.match-next.told.items) (sym w.link-is)
          (subst (λ (rs : List Reply). TellsMore c.args.link.now w.make_ticks.new.link (asks_in (take (c.loop-next.next-index + 1) c.args.asked.now)) c.args.told.now.items rs) (sym (ap (λ v. v.items) w.told-is)) more))
    ]

pub returns : goal.returns
returns g c = all-so_far c.args.link.now c.loop-next.link c.args.asked.now c.loop-next.next-index c.args.told.now.items c.loop-next.told.items (let over = c.loop-next-test.false in omega (arith, over)) c.requires.none c.loop-next.invariant
