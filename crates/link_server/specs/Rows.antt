-- A link keeps a row for each reservation that is held, in the order of the reserves: the reservation, its regulator,
-- and the source packets that are planned. A row is found by its channel, or by its channel at its first hop.
-- To the admission sums it is known under the number of its channel, with its contract and its level. Its level and
-- its reach are levels of the link.
use Rattle.std.specs.Prelude.{◌≡◌, ℕ, ◌<◌, ◌≤◌, Bool, true, false, List, length, slice_index_or}
use Rattle.std.specs.List.{All}
use Rattle.net_units.specs.Numbers.{channel_number, level_number}
use Rattle.net_units.specs.declared.numbers.ChanNo.{ChanNo}
use Rattle.rcsp_admission.specs.Sums.{Held, row_held}
use Rattle.link_steps.specs.Account.{AccountRow}
use Rattle.link_steps.specs.Reservation.{Reservation, is_of, is_at_hop}
use Rattle.link_server.specs.declared.table.served_row.ServedRow.{ServedRow}
use Rattle.link_server.specs.KeyedList.{Listed, position}
use Rattle.link_server.specs.Planned.{left_in}

-- the reservation of a row
abbrev pub reservation_in : ServedRow → Reservation
reservation_in row = record {
  chan = row.chan;
  contract = row.contract;
  kind = row.kind;
  first = row.first;
  next = row.next;
  phase = row.phase;
  level = row.level;
  reach = row.reach;
  up_reach = row.up_reach;
  up_bound = row.up_bound;
  count = row.count;
}

-- what the account of the link has of it
abbrev pub row_in : ServedRow → AccountRow
row_in row = record { terms = reservation_in row; lead = row.lead; taken = row.taken; recent = row.regulator.recent; left = left_in row.planned }

-- whether it is this channel's; and whether it is so at its first hop, or at a later one
abbrev pub is_served_row_of : ChanNo → ServedRow → Bool
is_served_row_of chan row = is_of chan (reservation_in row)

abbrev pub is_served_at_hop : ChanNo → Bool → ServedRow → Bool
is_served_at_hop chan first row = is_at_hop chan first (reservation_in row)

-- the row as the admission sums have it
abbrev pub summed : ServedRow → Held
summed row = row_held (channel_number row.chan) row.contract (level_number row.level)

-- none of these passes the test
abbrev pub NoRowPasses : {X : Type 0} → (X → Bool) → List X → Type 0
NoRowPasses test rows = All (λ row. test row ≡ false) rows

-- the first that passes it stands at place i
pub record IsFirstPlace {X : Type 0} (test : X → Bool) (rows : List X) (i : ℕ) : Type 0 where
  pub inside : i < length rows
  pub here : (d : X) → test (slice_index_or rows i d) ≡ true
  pub before : (k : ℕ) (d : X) → k < i → test (slice_index_or rows k d) ≡ false

-- no row is the channel's
abbrev pub IsAbsent : ChanNo → List ServedRow → Type 0
IsAbsent chan rows = NoRowPasses (is_served_row_of chan) rows

-- the channel's row stands at place i
abbrev pub IsPlaceOf : ChanNo → List ServedRow → ℕ → Type 0
IsPlaceOf chan rows i = IsFirstPlace (is_served_row_of chan) rows i

-- it stands under this key
abbrev pub IsKeyOf : ChanNo → Listed ServedRow → ℕ → Type 0
IsKeyOf chan list key = IsPlaceOf chan list.items (position list.keys key)

-- the level and the reach of a row are among the first `levels` levels
pub record IsWithinLevels (levels : ℕ) (row : ServedRow) : Type 0 where
  pub level : level_number row.level ≤ levels
  pub reach : level_number row.reach ≤ levels

-- and so for each row
abbrev pub AreWithin : ℕ → List ServedRow → Type 0
AreWithin levels rows = All (IsWithinLevels levels) rows
