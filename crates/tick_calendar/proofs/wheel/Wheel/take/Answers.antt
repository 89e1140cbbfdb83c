-- The place that the slot names is the first of its tick.
use Rattle.std.proofs.Common.{refl, arith}
use Rattle.tick_calendar.proofs.WheelStaysRight.{first-within, take-first}
use Rattle.tick_calendar.proofs.wheel.Wheel.take.Goals as goal

pub index-requires : goal.index-requires
index-requires g c =
    let within = first-within _ _ _ _ _ _ c.requires.wheel c.requires.slot c.requires.first in
    omega (arith, within, c.args.self.now.places.ok)

pub index_mut-requires : goal.index_mut-requires
index_mut-requires g c =
    let within = first-within _ _ _ _ _ _ c.requires.wheel c.requires.slot c.requires.first in
    omega (arith, within, c.args.self.now.places.ok)

pub returns-clause-wheel : goal.returns-clause-wheel
returns-clause-wheel g c = (take-first c.args.self.now.places.items c.args.self.now.firsts.items c.args.self.now.lasts.items c.args.self.now.base c.args.self.now.slot c.args.first c.index.result.now _ c.requires.wheel c.requires.slot c.requires.first c.index.ensures refl).0

pub returns-clause-entries : goal.returns-clause-entries
returns-clause-entries g c = (take-first c.args.self.now.places.items c.args.self.now.firsts.items c.args.self.now.lasts.items c.args.self.now.base c.args.self.now.slot c.args.first c.index.result.now _ c.requires.wheel c.requires.slot c.requires.first c.index.ensures refl).1
