use Rattle.std.proofs.Common.{IfOk, List, subst}
use Rattle.call_script.specs.declared.schedule.Do.{Do}
use Rattle.setup_points.specs.Rooms.{IsRoomAfter}
use Rattle.setup_points.proofs.room.room_after.Goals as goal

pub returns : goal.returns
returns c =
    subst (λ (items : List Do). IfOk c.room_tried.result (IsRoomAfter c.args.plan.now items c.args.numbers.now)) c.in_ok-copied.ensures c.room_tried.ensures
