-- What the numbers of a line make: the number of a link, an actor or a channel, the shape of a link, and a hop of a route. Only
-- numbers within the limits of a link whose largest packet fits the first bound have a shape.
use Rattle.std.specs.Prelude.{◌≡◌, ℕ, refl, Bool, true, nat_le, ◌&&◌, Option, Some, None, List}
use Rattle.std.proofs.lemmas.Bool.{and_parts, leb-true}
use Rattle.net_units.specs.Limits.{most_best, most_buffer, most_rate, most_size, most_propagation, is_within}
use Rattle.net_units.specs.Quotient.{ceil_quotient}
use Rattle.net_units.specs.LevelBounds.{are_bounds, bound_at}
use Rattle.net_units.specs.declared.numbers.LinkNo.{LinkNo}
use Rattle.traffic_contract.specs.declared.admission.Test.{Test}
use Rattle.hop_reservation.specs.declared.route.Hop.{Hop}
use Rattle.link_steps.specs.declared.shape.LinkShape.{LinkShape}
use Rattle.call_script.specs.declared.entries.LinkEntry.{LinkEntry}

-- the numbers of a link; `best` is 0 where it takes no best-effort packets
pub record LinkNumbers : Type 0 where
  pub rate : ℕ
  pub cap : ℕ
  pub prop : ℕ
  pub buffer : ℕ
  pub best : ℕ
  pub bounds : List ℕ

-- whether the rate and the cap are within their limits
abbrev pub has_rate : LinkNumbers → Bool
has_rate numbers = is_within 1 most_rate numbers.rate && is_within 1 most_size numbers.cap

-- and so are the propagation, the buffer and the best-effort packets that may wait
abbrev pub has_room : LinkNumbers → Bool
has_room numbers = nat_le numbers.prop most_propagation && nat_le numbers.buffer most_buffer && nat_le numbers.best most_best

-- the bounds rise, and a packet of the largest size fits into the first of them
abbrev pub has_bounds : LinkNumbers → Bool
has_bounds numbers = are_bounds numbers.bounds && nat_le (ceil_quotient numbers.cap numbers.rate) (bound_at numbers.bounds 1)

-- the shape of a link whose numbers are so
abbrev pub shape_with : LinkNo → Test → (numbers : LinkNumbers) → has_rate numbers ≡ true → has_room numbers ≡ true → has_bounds numbers ≡ true → LinkShape
shape_with link test numbers rates rooms bounds =
    let both = and_parts (is_within 1 most_rate numbers.rate) (is_within 1 most_size numbers.cap) rates in
    let rate = and_parts (nat_le 1 numbers.rate) (nat_le numbers.rate most_rate) both.0 in
    let cap = and_parts (nat_le 1 numbers.cap) (nat_le numbers.cap most_size) both.1 in
    let most = and_parts (nat_le numbers.prop most_propagation && nat_le numbers.buffer most_buffer) (nat_le numbers.best most_best) rooms in
    let room = and_parts (nat_le numbers.prop most_propagation) (nat_le numbers.buffer most_buffer) most.0 in
    let rising = and_parts (are_bounds numbers.bounds) (nat_le (ceil_quotient numbers.cap numbers.rate) (bound_at numbers.bounds 1)) bounds in
    record {
      link = link;
      rate = numbers.rate;
      cap = numbers.cap;
      prop = numbers.prop;
      buffer = numbers.buffer;
      bounds = numbers.bounds;
      test = test;
      best = numbers.best;
      rate_least = leb-true 1 numbers.rate rate.0;
      rate_most = leb-true numbers.rate most_rate rate.1;
      cap_least = leb-true 1 numbers.cap cap.0;
      cap_most = leb-true numbers.cap most_size cap.1;
      prop_most = leb-true numbers.prop most_propagation room.0;
      buffer_most = leb-true numbers.buffer most_buffer room.1;
      best_most = leb-true numbers.best most_best most.1;
      bounds_rise = rising.0;
      blocking_fits = leb-true (ceil_quotient numbers.cap numbers.rate) (bound_at numbers.bounds 1) rising.1;
    }

-- the shape, where the numbers pass these three tests
abbrev pub shape_where : LinkNo → Test → (numbers : LinkNumbers) (rates rooms bounds : Bool) → has_rate numbers ≡ rates → has_room numbers ≡ rooms → has_bounds numbers ≡ bounds → Option LinkShape
shape_where link test numbers true true true rates rooms bounds = Some (shape_with link test numbers rates rooms bounds)
shape_where link test numbers _ _ _ rates rooms bounds = None

-- the shape of a link, where its numbers are within their limits
unfoldable pub shape_of : LinkNo → Test → LinkNumbers → Option LinkShape
shape_of link test numbers = shape_where link test numbers (has_rate numbers) (has_room numbers) (has_bounds numbers) refl refl refl

-- the hop over a link
abbrev pub hop_of : LinkEntry → Hop
hop_of entry = record { link = entry.shape.link; bounds = entry.shape.bounds; prop = entry.shape.prop }
