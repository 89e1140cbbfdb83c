-- The place that the slot names stands first of its tick.
use Rattle.std.proofs.Common.{arith}
use Rattle.tick_calendar.proofs.WheelStaysRight.{first-within, stands-first}
use Rattle.tick_calendar.proofs.wheel.Wheel.first_key.Goals as goal

pub index-requires : goal.index-requires
index-requires g c =
    let within = first-within _ _ _ _ _ _ c.requires.wheel c.requires.slot c.requires.first in
    omega (arith, within, c.args.self.now.places.ok)

pub returns : goal.returns
returns g c = stands-first c.args.self.now.places.items c.args.self.now.firsts.items c.args.self.now.lasts.items c.args.self.now.base c.args.self.now.slot c.args.first c.index.result.now c.requires.wheel c.requires.slot c.requires.first c.index.ensures
