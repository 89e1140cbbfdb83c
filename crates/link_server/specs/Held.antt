-- A link lists the rows that it holds, in the order of their reserves: of each the channel, the contract, the level, the
-- phase, and the units that it keeps. They are the rows held after every history that the link stands for. So a caller
-- with rules of its own, such as a link that is split between groups, may reserve at a level that it chooses. The offer
-- has to be one that a link that holds these rows may make.
use Rattle.std.specs.Prelude.{◌≡◌, ℕ, Option, Some, List, map, find, option_map, slice_get}
use Rattle.net_units.specs.Numbers.{level_number}
use Rattle.net_units.specs.declared.numbers.ChanNo.{ChanNo}
use Rattle.net_units.specs.declared.numbers.Level.{Level}
use Rattle.net_units.specs.LevelBounds.{reach_of}
use Rattle.traffic_contract.specs.Admission.{best_level}
use Rattle.link_steps.specs.declared.asks.Ask.{Ask}
use Rattle.link_steps.specs.declared.asks.Ask.TheVariants.{Reserve}
use Rattle.link_steps.specs.declared.shape.LinkShape.{LinkShape}
use Rattle.link_steps.specs.Admissible.{MayOffer}
use Rattle.link_steps.specs.Buffer.{held_units}
use Rattle.link_steps.specs.Account.{account_terms}
use Rattle.link_steps.specs.Levels.{level_of}
use Rattle.link_steps.specs.Reservation.{Reservation, admitted, is_of}
use Rattle.link_steps.specs.Shape.{server_of}
use Rattle.link_server.specs.State.{account_in}
use Rattle.link_server.specs.declared.held_row.HeldRow.{HeldRow}
use Rattle.link_server.specs.declared.link_state.LinkState.{LinkState}

-- the reservations that a link holds
abbrev pub reservations_held : LinkState → List Reservation
reservations_held link = map account_terms (account_in link).rows

-- a reservation as a caller sees it, at a link with these bounds
abbrev pub seen : List ℕ → Reservation → HeldRow
seen bounds terms = record { chan = terms.chan; contract = terms.contract; level = terms.level; phase = terms.phase; kept = held_units bounds terms }

-- the one at a place, from 0, if there is one
abbrev pub seen_at : List ℕ → List Reservation → ℕ → Option HeldRow
seen_at bounds held place = slice_get (map (seen bounds) held) place

-- that of a channel, if there is one
abbrev pub seen_of : List ℕ → List Reservation → ChanNo → Option HeldRow
seen_of bounds held chan = option_map (seen bounds) (find (is_of chan) held)

-- the reach that a reserve gets at a level; to another ask it is the level
abbrev pub reach_at : LinkShape → Ask → Level → Level
reach_at shape (Reserve chan contract kind delay up_reach first next) level = level_of (reach_of shape.bounds delay (level_number level))
reach_at shape ask level = level

-- the ask is a reserve, and a link that holds these reservations may offer it the level, with its reach
abbrev pub MayReserve : LinkShape → List Reservation → Ask → Level → Type 0
MayReserve shape held (Reserve chan contract kind delay up_reach first next) level =
    MayOffer shape held chan contract delay up_reach level (level_of (reach_of shape.bounds delay (level_number level)))
MayReserve shape held ask level = ⊥

-- the level is the best for it, by the test of the whole link
abbrev pub IsBestFor : LinkShape → List Reservation → Ask → Level → Type 0
IsBestFor shape held (Reserve chan contract kind delay up_reach first next) level = best_level (server_of shape) (map admitted held) contract ≡ Some (level_number level)
IsBestFor shape held ask level = ⊥
