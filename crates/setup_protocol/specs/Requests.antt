-- A request names its channel, its route, its traffic contract, the bound on its end-to-end delay, and how its jitter is
-- controlled: under delay-jitter control it has a bound on the jitter too.
use Rattle.std.specs.Prelude.{ℕ, Option, Some, None}
use Rattle.net_units.specs.declared.Kind.{Kind}
use Rattle.net_units.specs.declared.Kind.TheVariants as kind
use Rattle.setup_protocol.specs.declared.request.Control.{Control}
use Rattle.setup_protocol.specs.declared.request.Control.TheVariants as control

-- the control of each hop
abbrev pub kind_of : Control → Kind
kind_of control.Rate = kind.Rate
kind_of (control.Jitter bound) = kind.Jitter

-- the bound on the jitter in ticks, where there is one
abbrev pub jitter_of : Control → Option ℕ
jitter_of control.Rate = None
jitter_of (control.Jitter bound) = Some bound
