-- The lane has one reply more handed on.
use Rattle.std.proofs.Common.{◌≡◌, ◌+◌, get_or, set, sym, subst}
use Rattle.std.proofs.lemmas.Option.{get_or_from_slice_get}
use Rattle.run_engine.proofs.Keeping.Lookups.{held}
use Rattle.plane_workers.specs.Lanes.{HandsOn}
use Rattle.plane_workers.specs.declared.lane.Lane.{Lane}
use Rattle.plane_workers.proofs.StepHandedOn.{would-hand}
use Rattle.plane_workers.proofs.telling.hand_on.Goals as goal

pub returns : goal.returns
returns c = λ reply next.
    let x = held c.args.lanes.now c.args.number c.requires.inside in
    let one : get_or c.args.lanes.now c.args.number c.index-lanes-number.result ≡ x.item = get_or_from_slice_get c.args.lanes.now c.args.number x.item c.index-lanes-number.result x.found in
    let two : get_or c.args.lanes.now c.args.number c.index-lanes-number-2.result ≡ x.item = get_or_from_slice_get c.args.lanes.now c.args.number x.item c.index-lanes-number-2.result x.found in
    subst (λ (w : Lane × Lane). HandsOn c.args.number reply c.args.lanes.now (set c.args.lanes.now c.args.number (record { link = w.0.link; asks = w.0.asks; said = w.0.said; told = w.1.told + 1; wanted = w.0.wanted }))) (λ i. (sym two i, sym one i))
    (would-hand c.args.lanes.now c.args.number reply x.item x.found (next x.item x.found))
