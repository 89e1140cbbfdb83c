use Rattle.std.proofs.Common.{[], ◌∷◌}
use Rattle.net_units.specs.Numbers.{link_number}
use Rattle.step_stamp.specs.Marks.{drawn_for}
use Rattle.step_stamp.proofs.seats.PassSeat.draw.Given as goal

abbrev pub ghosts-drawn_at : goal.ghosts-drawn_at
ghosts-drawn_at a = record { number = link_number a.link; draws = λ n. drawn_for (link_number a.link) (record { stamp = n; actor = a.self.now.actor; ask = a.ask.now }) ∷ [] }
