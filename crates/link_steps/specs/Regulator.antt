-- The regulator of a row makes its packets eligible one after another: each at the least tick, from its arrival on,
-- with which the eligible ticks of the row keep its contract. Under delay-jitter control at a hop past the first a
-- packet also waits until it is due, by the bound of the hop before (rate-jitter and delay-jitter regulators: Zhang &
-- Ferrari 1993).
use Rattle.std.specs.Prelude.{ℕ, Bool, true, false, List}
use Rattle.net_units.specs.declared.Kind.{Kind}
use Rattle.traffic_contract.specs.Eligible.{eligible, earliest_tick}
use Rattle.link_steps.specs.Reservation.{Reservation}

-- the tick from which a packet that arrives at t may go: at a first hop nothing holds it back
abbrev pub waits_until : Kind → Bool → ℕ → ℕ → ℕ
waits_until kind true t due = t
waits_until kind false t due = earliest_tick kind t due

-- the eligible tick of the row's next packet, which arrives at t and is due at the tick `due`
unfoldable pub eligible_next : Reservation → List ℕ → ℕ → ℕ → ℕ
eligible_next terms ticks t due = eligible terms.contract ticks (waits_until terms.kind terms.first t due)
