use Rattle.std.proofs.Common.{[]}
use Rattle.net_units.specs.Numbers.{link_number}
use Rattle.step_stamp.proofs.seats.LinkSeat.enter.Given as goal

abbrev pub ghosts-entered_at : goal.ghosts-entered_at
ghosts-entered_at a = record { number = link_number a.self.now.link; draws = λ n. [] }
