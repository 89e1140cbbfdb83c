use Rattle.std.proofs.Common.{[]}
use Rattle.net_units.specs.Numbers.{link_number}
use Rattle.step_stamp.proofs.seats.PassSeat.meet.Given as goal

abbrev pub ghosts-met : goal.ghosts-met
ghosts-met a = record { number = link_number a.link.now.link; draws = λ n. [] }
