use Rattle.std.proofs.Common.{[]}
use Rattle.net_units.specs.Numbers.{link_number}
use Rattle.step_stamp.proofs.seats.PassSeat.settle.Given as goal

abbrev pub ghosts-settle_at : goal.ghosts-settle_at
ghosts-settle_at a = record { number = link_number a.link.link; draws = λ n. [] }
