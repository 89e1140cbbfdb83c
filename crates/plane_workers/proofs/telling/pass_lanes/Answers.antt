-- One more lane has handed them on, and then all.
use Rattle.std.proofs.Common.{◌<◌, length, refl, sym, subst, arith}
use Rattle.link_steps.proofs.ListParts.{Each-at}
use Rattle.plane_workers.specs.Lanes.{HasHanded, IsQuietNext}
use Rattle.plane_workers.specs.Said.{quiets}
use Rattle.plane_workers.proofs.LanesHandOn.{all-handed, handed-more, lane-stays}
use Rattle.plane_workers.proofs.telling.pass_lanes.Goals as goal

pub loop-lane-init : goal.loop-lane-init
loop-lane-init c = record { same = refl; made = λ k x y less found after. absurd (omega (arith, less)); left = λ k from. refl }

pub loop-lane-preserved : goal.loop-lane-preserved
loop-lane-preserved c =
    let within : c.loop-lane.lane-index < length c.loop-lane.lanes = (let same = c.loop-lane.auto.lanes in let below = c.loop-lane-test.true in let end = c.loop-lane.auto.lane-index-end in omega (arith, same, below, end)) in
    handed-more c.args.clock c.args.ticks c.args.lanes.now c.loop-lane.lanes c.loop-lane.lane-index c.lane-item.result c.pass_quiet.new.self within c.lane-item.is
    (subst (λ lane. HasHanded (quiets c.args.clock c.args.ticks) lane c.pass_quiet.new.self) (sym c.lane-item.is) c.pass_quiet.ensures) c.loop-lane.invariant

pub returns : goal.returns
returns c =
    all-handed c.args.clock c.args.ticks c.args.lanes.now c.loop-lane.lanes c.loop-lane.lane-index
    (let same = c.loop-lane.auto.lanes in let past = c.loop-lane-test.false in let end = c.loop-lane.auto.lane-index-end in omega (arith, same, past, end)) c.loop-lane.invariant

pub pass_quiet-requires-clause-quiet : goal.pass_quiet-requires-clause-quiet
pass_quiet-requires-clause-quiet c =
    let within : c.loop-lane.lane-index < length c.loop-lane.lanes = (let same = c.loop-lane.auto.lanes in let below = c.loop-lane-test.true in let end = c.loop-lane.auto.lane-index-end in omega (arith, same, below, end)) in
    subst (IsQuietNext c.args.clock c.args.ticks) c.lane-item.is
    (Each-at (IsQuietNext c.args.clock c.args.ticks) c.args.lanes.now c.loop-lane.lane-index c.lane-item.result c.requires.quiet
    (lane-stays c.args.clock c.args.ticks c.args.lanes.now c.loop-lane.lanes c.loop-lane.lane-index c.lane-item.result within c.lane-item.is c.loop-lane.invariant))
