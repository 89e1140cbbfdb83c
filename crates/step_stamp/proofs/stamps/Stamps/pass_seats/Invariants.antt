use Rattle.std.proofs.Common.{◌≡◌, []}
use Rattle.net_units.specs.Numbers.{actor_number}
use Rattle.step_stamp.specs.Opening.{ArePasses, IsFirst}
use Rattle.step_stamp.specs.Seats.{stamps_table}
use Rattle.step_stamp.proofs.stamps.Stamps.pass_seats.Given as goal

abbrev pub ghosts-pass_seat : goal.ghosts-pass_seat
ghosts-pass_seat a = record { number = actor_number a.actor; draws = λ n. [] }

abbrev pub invariant-loop-n : goal.invariant-loop-n
invariant-loop-n l = ArePasses (stamps_table l.self) l.fn.actors l.n l.seats.items × IsFirst l.fn.links l.fn.actors l.fn.links l.n l.first.me.0 × (l.first.me.1 ≡ []) × (l.first.table_id ≡ stamps_table l.self)
