-- The place that the slot names.
use Rattle.std.proofs.Common.{None, arith}
use Rattle.std.proofs.lemmas.List.{get_or_read}
use Rattle.tick_calendar.proofs.wheel.Wheel.standing.Goals as goal

pub index-requires : goal.index-requires
index-requires g c = omega (arith, c.requires.slots, c.requires.slot, c.args.self.now.firsts.ok)

pub returns : goal.returns
returns g c = get_or_read c.args.self.now.firsts.items c.args.self.now.slot c.index.result.now (omega (arith, c.requires.slots, c.requires.slot)) c.index.ensures None
