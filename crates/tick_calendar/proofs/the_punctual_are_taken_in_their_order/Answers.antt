use Rattle.std.proofs.Common.{refl}
use Rattle.tick_calendar.proofs.DueByTicks.{due_place-punctual}
use Rattle.tick_calendar.proofs.the_punctual_are_taken_in_their_order.Goals as goal

pub returns : goal.returns
returns g c = λ entries now from. due_place-punctual entries now from _ refl
