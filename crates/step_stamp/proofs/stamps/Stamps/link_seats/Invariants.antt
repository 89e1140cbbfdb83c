use Rattle.std.proofs.Common.{◌≡◌, []}
use Rattle.net_units.specs.Numbers.{link_number}
use Rattle.step_stamp.specs.Opening.{AreLinks, IsFirst}
use Rattle.step_stamp.specs.Seats.{stamps_table}
use Rattle.step_stamp.proofs.stamps.Stamps.link_seats.Given as goal

abbrev pub ghosts-link_seat : goal.ghosts-link_seat
ghosts-link_seat a = record { number = link_number a.link; draws = λ n. [] }

abbrev pub invariant-loop-n : goal.invariant-loop-n
invariant-loop-n l = AreLinks (stamps_table l.self) l.fn.actors l.n l.seats.items × IsFirst l.fn.links l.fn.actors l.n 0 l.first.me.0 × (l.first.me.1 ≡ []) × (l.first.table_id ≡ stamps_table l.self)
