-- Numbers within the limits of a link have a shape, which they determine.
use Rattle.std.proofs.Common.{◌≡◌, ◌<◌, ◌≤◌, Bool, true, false, Some, None, refl, sym, ◌∙◌, ap, arith}
use Rattle.std.specs.Prelude.{nat_le, ◌&&◌, ℕ, List, if◌then◌else◌}
use Rattle.std.proofs.Math.Bridge.{le_prop}
use Rattle.std.proofs.lemmas.Bool.{and_from}
use mathlib.Core.Bool.{Bool-set}
use mathlib.Core.HLevel.{is_prop→PathP}
use Rattle.net_units.specs.Numbers.{link_number, actor_number, channel_number, link_at, actor_at, channel_at}
use Rattle.net_units.specs.Quotient.{ceil_quotient}
use Rattle.net_units.specs.LevelBounds.{are_bounds, bound_at}
use Rattle.net_units.specs.declared.numbers.ActorNo.{ActorNo}
use Rattle.net_units.specs.declared.numbers.ChanNo.{ChanNo}
use Rattle.net_units.specs.declared.numbers.LinkNo.{LinkNo}
use Rattle.traffic_contract.specs.declared.admission.Test.{Test}
use Rattle.link_steps.specs.Shape.{first_bad_field, IsShapeOf}
use Rattle.link_steps.specs.declared.shape.LinkShape.{LinkShape}
use Rattle.link_steps.specs.declared.shape.ShapeField.TheVariants.{Bounds}
use Rattle.std.proofs.lemmas.Option.{cond_some}
use Rattle.net_units.specs.Limits.{is_within}
use Rattle.scenario_reader.specs.Causes.{unless}
use Rattle.scenario_reader.specs.line.Link.{bounds_of}
use Rattle.scenario_reader.specs.declared.cause.LineCause.TheVariants.{Levels}
use Rattle.scenario_reader.specs.Entries.{LinkNumbers, has_rate, has_room, has_bounds, shape_with, shape_where, shape_of}
use Rattle.net_units.proofs.KnownByNumber.{same-link, same-actor, same-channel}

-- ---- numbers

pub link-is : (link : LinkNo) (n : ℕ) → n < 32 → link_number link ≡ n → link ≡ link_at n
link-is link n h same = same-link link (link_at n) (omega (arith, same))

pub actor-is : (actor : ActorNo) (n : ℕ) → n < 65 → actor_number actor ≡ n → actor ≡ actor_at n
actor-is actor n h same = same-actor actor (actor_at n) (omega (arith, same))

pub channel-is : (chan : ChanNo) (n : ℕ) → n < 1048576 → channel_number chan ≡ n → chan ≡ channel_at n
channel-is chan n h same = same-channel chan (channel_at n) (omega (arith, same))

-- ---- shapes

-- shapes of the same numbers are the same
same-shape : (a b : LinkShape) → a.link ≡ b.link → a.rate ≡ b.rate → a.cap ≡ b.cap → a.prop ≡ b.prop → a.buffer ≡ b.buffer → a.bounds ≡ b.bounds → a.test ≡ b.test → a.best ≡ b.best → a ≡ b
same-shape a b link rate cap prop buffer bounds test best = λ i. record {
  link = link i;
  rate = rate i;
  cap = cap i;
  prop = prop i;
  buffer = buffer i;
  bounds = bounds i;
  test = test i;
  best = best i;
  rate_least = is_prop→PathP (λ j. 1 ≤ rate j) (λ j. le_prop) a.rate_least b.rate_least i;
  rate_most = is_prop→PathP (λ j. rate j ≤ 65536) (λ j. le_prop) a.rate_most b.rate_most i;
  cap_least = is_prop→PathP (λ j. 1 ≤ cap j) (λ j. le_prop) a.cap_least b.cap_least i;
  cap_most = is_prop→PathP (λ j. cap j ≤ 65536) (λ j. le_prop) a.cap_most b.cap_most i;
  prop_most = is_prop→PathP (λ j. prop j ≤ 1048576) (λ j. le_prop) a.prop_most b.prop_most i;
  buffer_most = is_prop→PathP (λ j. buffer j ≤ 262144) (λ j. le_prop) a.buffer_most b.buffer_most i;
  best_most = is_prop→PathP (λ j. best j ≤ 1024) (λ j. le_prop) a.best_most b.best_most i;
  bounds_rise = is_prop→PathP (λ j. are_bounds (bounds j) ≡ true) (λ j. Bool-set (are_bounds (bounds j)) true) a.bounds_rise b.bounds_rise i;
  blocking_fits = is_prop→PathP (λ j. ceil_quotient (cap j) (rate j) ≤ bound_at (bounds j) 1) (λ j. le_prop) a.blocking_fits b.blocking_fits i;
}

-- the shape with a link's numbers
abbrev pub IsShape : LinkNo → Test → LinkNumbers → LinkShape → Type 0
IsShape link test numbers shape = IsShapeOf link numbers.rate numbers.cap numbers.prop numbers.buffer numbers.bounds test numbers.best shape

where-some : (link : LinkNo) (test : Test) (numbers : LinkNumbers) (rates rooms bounds : Bool) (a : has_rate numbers ≡ rates) (b : has_room numbers ≡ rooms) (c : has_bounds numbers ≡ bounds)
    → rates ≡ true → rooms ≡ true → bounds ≡ true → (shape : LinkShape) × (shape_where link test numbers rates rooms bounds a b c ≡ Some shape) × IsShape link test numbers shape
where-some link test numbers true true true a b c x y z =
    (shape_with link test numbers a b c, refl, record { link_is = refl; rate_is = refl; cap_is = refl; prop_is = refl; buffer_is = refl; bounds_are = refl; test_is = refl; best_is = refl })
where-some link test numbers false rooms bounds a b c x y z = cc
where-some link test numbers true false bounds a b c x y z = cc
where-some link test numbers true true false a b c x y z = cc

-- numbers that pass the three tests have a shape
pub shape-some : (link : LinkNo) (test : Test) (numbers : LinkNumbers) → has_rate numbers ≡ true → has_room numbers ≡ true → has_bounds numbers ≡ true
    → (shape : LinkShape) × (shape_of link test numbers ≡ Some shape) × IsShape link test numbers shape
unfolding shape_of
shape-some link test numbers rate room bounds =
    where-some link test numbers (has_rate numbers) (has_room numbers) (has_bounds numbers) refl refl refl rate room bounds

-- which is the one with these numbers
pub shape-is : (link : LinkNo) (test : Test) (numbers : LinkNumbers) (shape : LinkShape) → has_rate numbers ≡ true → has_room numbers ≡ true → has_bounds numbers ≡ true
    → IsShape link test numbers shape → shape_of link test numbers ≡ Some shape
shape-is link test numbers shape rate room bounds is =
    let found = shape-some link test numbers rate room bounds in
    let its = found.2 in
    found.1 ∙ ap Some (same-shape found.0 shape (its.link_is ∙ sym is.link_is) (its.rate_is ∙ sym is.rate_is) (its.cap_is ∙ sym is.cap_is)
    (its.prop_is ∙ sym is.prop_is) (its.buffer_is ∙ sym is.buffer_is) (its.bounds_are ∙ sym is.bounds_are) (its.test_is ∙ sym is.test_is) (its.best_is ∙ sym is.best_is))

-- ---- refused numbers

-- each of these is within its limit
pub record AreWithin (rate cap prop buffer best : ℕ) : Type 0 where
  pub rates : is_within 1 65536 rate ≡ true
  pub caps : is_within 1 65536 cap ≡ true
  pub props : nat_le prop 1048576 ≡ true
  pub buffers : nat_le buffer 262144 ≡ true
  pub bests : nat_le best 1024 ≡ true

-- then the bounds decide
pub bounds-decide : (rate cap prop buffer best : ℕ) (bounds : List ℕ) → AreWithin rate cap prop buffer best
    → first_bad_field rate cap prop buffer best bounds ≡ (if nat_le (ceil_quotient cap rate) (bound_at bounds 1) then None else Some Bounds)
bounds-decide rate cap prop buffer best bounds w = rw (w.rates, w.caps, w.props, w.buffers, w.bests) refl

-- whether the bounds fit is then all that is left
bounds-fit : (fits : Bool) → (if fits then None else Some Bounds) ≡ None → fits ≡ true
bounds-fit true e = refl
bounds-fit false e = cc

-- a shape that was made of a line's numbers is the one that they have
pub made-shape : (numbers : LinkNumbers) (bounds : List ℕ) (number : LinkNo) (test : Test) (shape : LinkShape) → AreWithin numbers.rate numbers.cap numbers.prop numbers.buffer numbers.best
    → bounds_of numbers.bounds ≡ Some bounds → first_bad_field numbers.rate numbers.cap numbers.prop numbers.buffer numbers.best bounds ≡ None
    → IsShapeOf number numbers.rate numbers.cap numbers.prop numbers.buffer bounds test numbers.best shape
    → (unless (has_bounds numbers) Levels ≡ None) × (shape_of number test numbers ≡ Some shape)
made-shape numbers bounds number test shape w some none is =
    let rising = cond_some (are_bounds numbers.bounds) numbers.bounds bounds some in
    let fits = bounds-fit (nat_le (ceil_quotient numbers.cap numbers.rate) (bound_at bounds 1))
    (sym (bounds-decide numbers.rate numbers.cap numbers.prop numbers.buffer numbers.best bounds w) ∙ none) in
    let whole : has_bounds numbers ≡ true =
    and_from (are_bounds numbers.bounds) (nat_le (ceil_quotient numbers.cap numbers.rate) (bound_at numbers.bounds 1)) rising.0
    (ap (λ (bs : List ℕ). nat_le (ceil_quotient numbers.cap numbers.rate) (bound_at bs 1)) rising.1 ∙ fits) in (
      rw whole refl,
      shape-is number test numbers shape
          (and_from (is_within 1 65536 numbers.rate) (is_within 1 65536 numbers.cap) w.rates w.caps)
          (and_from (nat_le numbers.prop 1048576 && nat_le numbers.buffer 262144) (nat_le numbers.best 1024)
          (and_from (nat_le numbers.prop 1048576) (nat_le numbers.buffer 262144) w.props w.buffers) w.bests)
          whole
          (record {
            link_is = is.link_is;
            rate_is = is.rate_is;
            cap_is = is.cap_is;
            prop_is = is.prop_is;
            buffer_is = is.buffer_is;
            bounds_are = is.bounds_are ∙ sym rising.1;
            test_is = is.test_is;
            best_is = is.best_is;
          }),
    )
