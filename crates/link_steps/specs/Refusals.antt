-- An ask is refused by the first rule, in a fixed order, that applies to it, and the refusal carries the numbers by
-- which it applies. A rule is named after its refusal: it gives that refusal where it applies, and nothing elsewhere.
use Rattle.std.specs.Prelude.{ℕ, Bool, not, nat_eq, nat_lt, nat_le, ◌&&◌, if◌then◌else◌, Option, Some, None, List, [], ◌∷◌, suc}
use Rattle.net_units.specs.Numbers.{level_number}
use Rattle.net_units.specs.declared.numbers.Level.{Level}
use Rattle.link_steps.specs.declared.asks.Packet.{Packet}
use Rattle.traffic_contract.specs.Contract.{Traffic}
use Rattle.link_steps.specs.declared.replies.Phase.{Phase}
use Rattle.link_steps.specs.declared.replies.Phase.TheVariants.{Tentative, Closing}
use Rattle.link_steps.specs.declared.replies.Refusal.{Refusal}
use Rattle.link_steps.specs.declared.replies.Refusal.TheVariants.{NoLevel, NoBuffer, Twice, TooWide, NotInPhase, Unfit, Busy, TooBig, Full, Stray}
use Rattle.link_steps.specs.declared.replies.Reply.{Reply}
use Rattle.link_steps.specs.declared.replies.Reply.TheVariants.{Refused}
use Rattle.link_steps.specs.declared.replies.Why.TheVariants.{FirstHop, Uncommitted, WrongNumber, PastCount, Big}
use Rattle.link_steps.specs.Reservation.{Reservation, is_phase}

-- a refusal where it applies, or none
abbrev pub RefusalRule : Type 0
RefusalRule = Option Refusal

-- the refusal, unless the fact holds
abbrev pub refused_unless : Bool → Refusal → RefusalRule
refused_unless holds refusal = if holds then None else Some refusal

-- the refusal of the first rule that applies, or the reply where none does
abbrev pub refused_or : RefusalRule → Reply → Reply
refused_or None reply = reply
refused_or (Some refusal) reply = Refused refusal

-- the same of a list of rules
abbrev pub first_refusal : List RefusalRule → Reply → Reply
first_refusal [] reply = reply
first_refusal (rule ∷ rules) reply = refused_or rule (first_refusal rules reply)

-- of a reserve: the contract's largest packet is over that of the link
abbrev pub too_wide : Traffic → ℕ → RefusalRule
too_wide contract cap = refused_unless (nat_le contract.smax cap) (TooWide contract.smax cap)

-- a reservation of the channel is held
abbrev pub twice : Option Reservation → RefusalRule
twice None = None
twice (Some terms) = Some (Twice terms.phase)

-- no level admits the contract: what the last level comes to with it there, and that level's bound
abbrev pub no_level : Option ℕ → ℕ → ℕ → RefusalRule
no_level None sum bound = Some (NoLevel sum bound)
no_level (Some level) sum bound = None

-- the units that the new reservation would keep are more than are free
abbrev pub no_buffer : ℕ → ℕ → RefusalRule
no_buffer need free = refused_unless (nat_le need free) (NoBuffer need free)

-- the reservation isn't in the phase that is wanted
abbrev pub not_in_phase : Phase → Reservation → RefusalRule
not_in_phase phase terms = refused_unless (is_phase terms.phase phase) (NotInPhase terms.phase)

-- of a relax: the level isn't from the offer to the reach, or the bound before is over the reach before
abbrev pub unfit : Reservation → Level → ℕ → RefusalRule
unfit terms level up_bound =
    refused_unless (nat_le (level_number terms.level) (level_number level) && nat_le (level_number level) (level_number terms.reach) && nat_le up_bound terms.up_reach)
    (Unfit terms.level terms.reach terms.up_reach)

-- of a submit: planned packets are left
abbrev pub busy : ℕ → RefusalRule
busy left = refused_unless (nat_eq left 0) (Busy left)

-- its packets are larger than the contract allows
abbrev pub too_big : Reservation → ℕ → RefusalRule
too_big terms size = refused_unless (nat_le size terms.contract.smax) (TooBig size terms.contract.smax)

-- of a pour: its packets are larger than the link carries
abbrev pub too_big_for : ℕ → ℕ → RefusalRule
too_big_for cap size = refused_unless (nat_le size cap) (TooBig size cap)

-- of an arrive: this is the channel's first hop
abbrev pub first_hop : Reservation → RefusalRule
first_hop terms = refused_unless (not terms.first) (Stray FirstHop)

-- the reservation isn't committed yet
abbrev pub uncommitted : Reservation → RefusalRule
uncommitted terms = refused_unless (not (is_phase terms.phase Tentative)) (Stray Uncommitted)

-- the packet isn't the next one after those taken
abbrev pub wrong_number : ℕ → ℕ → RefusalRule
wrong_number number next = refused_unless (nat_eq number next) (Stray (WrongNumber next))

-- the reservation is closing and has taken its count
abbrev pub past_count : Reservation → ℕ → RefusalRule
past_count terms taken = refused_unless (not (is_phase terms.phase Closing && nat_le terms.count taken)) (Stray (PastCount terms.count))

-- the packet is larger than the contract allows
abbrev pub big : Reservation → ℕ → RefusalRule
big terms size = refused_unless (nat_le size terms.contract.smax) (Stray (Big terms.contract.smax))

-- each slot holds a packet
abbrev pub full : ℕ → ℕ → RefusalRule
full held slots = refused_unless (nat_lt held slots) (Full held slots)

-- of a packet that has no place where it arrives, at a reservation that has taken `taken`
abbrev pub stray_rules : Packet → Reservation → ℕ → List RefusalRule
stray_rules packet terms taken =
    first_hop terms ∷ uncommitted terms ∷ wrong_number packet.number (suc taken) ∷ past_count terms taken ∷ big terms packet.size ∷ []
