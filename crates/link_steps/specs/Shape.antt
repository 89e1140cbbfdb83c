-- A link sends `rate` units in a tick, so a packet occupies it for the ticks that its size takes at that rate,
-- rounded up. `cap` is the largest packet that it carries. The ticks of such a packet are the link's blocking:
-- for so long a packet of a lower level may hold the link when a more urgent one comes. To admission a link is
-- the bounds of its levels, its rate, its blocking and its test.
use Rattle.std.specs.Prelude.{◌≡◌, ℕ, nat_le, Option, Some, None, List, if◌then◌else◌}
use Rattle.net_units.specs.Quotient.{ceil_quotient}
use Rattle.net_units.specs.LevelBounds.{bound_at}
use Rattle.net_units.specs.declared.numbers.LinkNo.{LinkNo}
use Rattle.net_units.specs.Limits.{most_best, most_buffer, most_propagation, most_rate, most_size, is_within}
use Rattle.traffic_contract.specs.Admission.{Server}
use Rattle.traffic_contract.specs.declared.admission.Test.{Test}
use Rattle.link_steps.specs.declared.shape.LinkShape.{LinkShape}
use Rattle.link_steps.specs.declared.shape.ShapeField.{ShapeField}
use Rattle.link_steps.specs.declared.shape.ShapeField.TheVariants.{Rate, Cap, Prop, Buffer, Best, Bounds}

-- the ticks that the largest packet occupies the link
abbrev pub blocking_of : LinkShape → ℕ
blocking_of shape = ceil_quotient shape.cap shape.rate

-- the link, as far as admission goes
abbrev pub server_of : LinkShape → Server
server_of shape = record { bounds = shape.bounds; rate = shape.rate; blocking = blocking_of shape; test = shape.test }

-- the field for which the numbers of a link are refused, if there is one: the first that is out of its limit, or
-- the bounds where a packet of the largest size doesn't fit the first of them
abbrev pub first_bad_field : ℕ → ℕ → ℕ → ℕ → ℕ → List ℕ → Option ShapeField
first_bad_field rate cap prop buffer best bounds =
    if is_within 1 most_rate rate then (
    if is_within 1 most_size cap then (
    if nat_le prop most_propagation then (
    if nat_le buffer most_buffer then (
    if nat_le best most_best then (
    if nat_le (ceil_quotient cap rate) (bound_at bounds 1) then None else Some Bounds
    ) else Some Best
    ) else Some Buffer
    ) else Some Prop
    ) else Some Cap
    ) else Some Rate

-- the link has these numbers
pub record IsShapeOf (link : LinkNo) (rate cap prop buffer : ℕ) (bounds : List ℕ) (test : Test) (best : ℕ) (shape : LinkShape) : Type 0 where
  pub link_is : shape.link ≡ link
  pub rate_is : shape.rate ≡ rate
  pub cap_is : shape.cap ≡ cap
  pub prop_is : shape.prop ≡ prop
  pub buffer_is : shape.buffer ≡ buffer
  pub bounds_are : shape.bounds ≡ bounds
  pub test_is : shape.test ≡ test
  pub best_is : shape.best ≡ best
