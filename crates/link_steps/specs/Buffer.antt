-- A reservation keeps buffer for all packets of its channel that can be at the link at once. These fall into a window
-- as long as the bound of the hop before and the bound of its own level together. So it has as many slots as its
-- contract allows packets in such a window, each of the size of its largest packet. A tentative reservation doesn't
-- know its level yet, nor the hop before: it reckons with the reach of both. A packet holds its slot from its arrival
-- until it departs. What the held reservations don't keep is free.
use Rattle.std.specs.Prelude.{ℕ, ◌+◌, ◌-◌, ◌*◌, Bool, nat_eq, nat_lt, List, filter, length}
use Rattle.net_units.specs.Numbers.{level_number}
use Rattle.net_units.specs.LevelBounds.{bound_at}
use Rattle.traffic_contract.specs.Admission.{total}
use Rattle.traffic_contract.specs.Contract.{Traffic, most_in}
use Rattle.link_steps.specs.declared.replies.Phase.{Phase}
use Rattle.link_steps.specs.declared.replies.Phase.TheVariants.{Tentative, Committed, Closing}
use Rattle.link_steps.specs.declared.shape.LinkShape.{LinkShape}
use Rattle.link_steps.specs.Reservation.{Reservation}
use Rattle.link_steps.specs.Service.{Arrival}

-- the units of the slots for a window of w ticks
abbrev pub units_for : Traffic → ℕ → ℕ
units_for contract w = most_in contract w * contract.smax

-- the longest time that a packet of the channel is at the hop before and at this link together, in ticks
abbrev pub stay_in : Phase → List ℕ → Reservation → ℕ
stay_in Tentative bounds terms = terms.up_reach + bound_at bounds (level_number terms.reach)
stay_in Committed bounds terms = terms.up_bound + bound_at bounds (level_number terms.level)
stay_in Closing bounds terms = terms.up_bound + bound_at bounds (level_number terms.level)

-- the same in its own phase
abbrev pub stay_of : List ℕ → Reservation → ℕ
stay_of bounds terms = stay_in terms.phase bounds terms

-- the slots of a reservation
unfoldable pub slots_of : List ℕ → Reservation → ℕ
slots_of bounds terms = most_in terms.contract (stay_of bounds terms)

-- the units that it keeps
unfoldable pub held_units : List ℕ → Reservation → ℕ
held_units bounds terms = units_for terms.contract (stay_of bounds terms)

-- the need of a new reservation: the units that it would keep as a tentative one
unfoldable pub need_of : List ℕ → Traffic → ℕ → ℕ → ℕ
need_of bounds contract up_reach reach = units_for contract (up_reach + bound_at bounds reach)

-- the free units of a link that holds these reservations
unfoldable pub free_units : LinkShape → List Reservation → ℕ
free_units shape held = shape.buffer - total (held_units shape.bounds) held

-- whether a packet is of the reservation whose first packet had this place
abbrev pub has_lead : ℕ → Arrival → Bool
has_lead lead p = nat_eq p.lead lead

-- how many packets of that reservation are among those here
unfoldable pub held_packets : ℕ → List Arrival → ℕ
held_packets lead here = length (filter (has_lead lead) here)

-- whether a slot is free
abbrev pub has_slot : List ℕ → Reservation → ℕ → List Arrival → Bool
has_slot bounds terms lead here = nat_lt (held_packets lead here) (slots_of bounds terms)
