-- A packet that arrives from the link before has no place here where this is its channel's first hop, where the
-- reservation isn't committed yet, where it isn't the next packet, where the channel is closing and has taken its count,
-- or where it is larger than its contract allows. The first of these that applies is the answer. One that has a place is refused
-- where each of its slots holds a packet.
use Rattle.std.specs.Prelude.{ℕ, Some, None, List, [], ◌∷◌, ◌++◌}
use Rattle.link_steps.specs.declared.asks.Packet.{Packet}
use Rattle.link_steps.specs.Buffer.{slots_of}
use Rattle.link_steps.specs.Refusals.{RefusalRule, full, stray_rules}
use Rattle.link_steps.specs.Reservation.{Reservation}

-- the first of these rules that applies
abbrev pub first_rule : List RefusalRule → RefusalRule
first_rule [] = None
first_rule (None ∷ rules) = first_rule rules
first_rule (Some refusal ∷ rules) = Some refusal

-- the refusal of a packet that has no place there
abbrev pub stray : Packet → Reservation → ℕ → RefusalRule
stray packet terms taken = first_rule (stray_rules packet terms taken)

-- the refusal of a packet at a reservation that has taken `taken`, of which `held` are here
abbrev pub arrive_refusal : List ℕ → Packet → Reservation → ℕ → ℕ → RefusalRule
arrive_refusal bounds packet terms taken held = first_rule (stray_rules packet terms taken ++ full held (slots_of bounds terms) ∷ [])
