-- The delays of the packets of one channel, as its report counts them: how many packets arrived, and the greatest of their delays.
use Rattle.std.specs.Prelude.{◌≡◌, ℕ, ◌+◌, Some, List, length}
use Rattle.net_units.specs.Numbers.{channel_number}
use Rattle.setup_protocol.specs.declared.request.Request.{Request}
use Rattle.channel_report.specs.Delays.{last_prop, worst_of, worst_with}
use Rattle.packet_answers.specs.declared.delays.Delays.{Delays}
use Rattle.packet_answers.specs.declared.delays.End.{End}

-- the end of a request's route
pub record IsEndOf (request : Request) (end : End) : Type 0 where
  pub own : channel_number end.chan ≡ channel_number request.chan
  pub last : end.hops ≡ length request.route
  pub props : end.prop ≡ last_prop request.route

-- of these delays
abbrev pub delays_as : List ℕ → Delays
delays_as delays = record { arrived = length delays; worst = worst_of delays }

-- with one more
abbrev pub with_delay : ℕ → Delays → Delays
with_delay delay delays = record { arrived = delays.arrived + 1; worst = Some (worst_with delay delays.worst) }
