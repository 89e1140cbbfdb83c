-- Each of the four slots is passed in turn.
use Rattle.std.proofs.Common.{◌+◌, ap, ◌∙◌, arith, not, ◌&&◌}
use Rattle.std.proofs.lemmas.Bool.{and_parts}
use Rattle.tick_calendar.proofs.Slots.{slot-passed}
use Rattle.tick_calendar.proofs.wheel.Wheel.four_are_empty.Goals as goal

pub returns : goal.returns
returns g c = λ all.
    let slot = c.args.slot in
    let up_to_third = and_parts (c.is_none.result && c.is_none-2.result && c.is_none-3.result) c.is_none-4.result all in
    let up_to_second = and_parts (c.is_none.result && c.is_none-2.result) c.is_none-3.result up_to_third.0 in
    let first = and_parts c.is_none.result c.is_none-2.result up_to_second.0 in
    let pass = slot-passed c.args.self.now.places.items c.args.self.now.firsts.items c.args.self.now.lasts.items c.args.self.now.base in
    let one = pass slot (slot + 1) c.index.result.now c.requires.wheel (omega (arith, c.requires.slot)) (omega arith) c.index.ensures (c.is_none.ensures ∙ ap not first.0) c.requires.ahead in
    let two = pass (slot + 1) (slot + 2) c.index-2.result.now c.requires.wheel (omega (arith, c.requires.slot)) (omega arith) c.index-2.ensures (c.is_none-2.ensures ∙ ap not first.1) one in
    let three = pass (slot + 2) (slot + 3) c.index-3.result.now c.requires.wheel (omega (arith, c.requires.slot)) (omega arith) c.index-3.ensures (c.is_none-3.ensures ∙ ap not up_to_second.1) two in
    pass (slot + 3) (slot + 4) c.index-4.result.now c.requires.wheel (omega (arith, c.requires.slot)) (omega arith) c.index-4.ensures (c.is_none-4.ensures ∙ ap not up_to_third.1) three
