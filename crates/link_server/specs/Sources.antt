-- In a tick each row with a packet planned for it takes that packet, where one of its slots is free, or else drops it.
-- The rows do so in the order of their reserves, and a slot is free by the packets that are here as the tick begins. The
-- account says what each row and the packets become; here it is said of the rows and packets that the link keeps.
use Rattle.std.specs.Prelude.{ℕ, ◌+◌, ◌-◌, ◌<◌, ◌≤◌, ◌^◌, ◌++◌, nat_lt, find, List, length, map}
use Rattle.traffic_contract.specs.Eligible.{newest}
use Rattle.link_steps.specs.Account.{AccountRow, account_step, account_packets, account_rows_after, account_dropped}
use Rattle.link_steps.specs.Lists.{Each}
use Rattle.link_steps.specs.Service.{Arrival}
use Rattle.link_steps.specs.Buffer.{slots_of}
use Rattle.link_steps.specs.Rows.{is_for}
use Rattle.link_steps.specs.Sources.{SourceStep, source_step}
use Rattle.link_server.specs.QueueAccount.{QueueAccount}
use Rattle.link_server.specs.Planned.{IsPlannedFrom, left_in}
use Rattle.link_server.specs.Rows.{reservation_in, row_in}
use Rattle.link_server.specs.declared.table.served_row.ServedRow.{ServedRow}

-- what the row's source does in tick t, with these packets here
abbrev pub step_in : List ℕ → List Arrival → ℕ → ServedRow → SourceStep
step_in bounds here t row = account_step bounds here t (row_in row)

-- the same by the packets of it that it counts as here
abbrev pub own_step : List ℕ → ℕ → ServedRow → SourceStep
own_step bounds t row = source_step (nat_lt (row.taken - row.departed) (slots_of bounds (reservation_in row))) (find (is_for t) (left_in row.planned))

-- the packets that the rows take in tick t, after `taken` packets in all
abbrev pub brought_by : List ℕ → List Arrival → ℕ → ℕ → List ServedRow → List Arrival
brought_by bounds here t taken rows = account_packets bounds here t taken (map row_in rows)

-- the rows afterwards
abbrev pub served_rows_after : List ℕ → List Arrival → ℕ → ℕ → List ServedRow → List AccountRow
served_rows_after bounds here t taken rows = account_rows_after bounds here t taken (map row_in rows)

-- how many packets they drop
abbrev pub lost_by_rows : List ℕ → List Arrival → ℕ → List ServedRow → ℕ
lost_by_rows bounds here t rows = account_dropped bounds here t (map row_in rows)

-- a row that can make the step of the tick of the clock: nothing is planned for an earlier tick, and its numbers have
-- room to grow
pub record IsReady (clock : ℕ) (row : AccountRow) : Type 0 where
  pub ahead : Each (IsPlannedFrom clock) row.left
  pub last : newest row.recent < 2 ^ 63
  pub few : row.taken + 1 < 2 ^ 64

-- and so for each row
abbrev pub AreReady : ℕ → List ServedRow → Type 0
AreReady clock rows = Each (IsReady clock) (map row_in rows)

-- these rows can make the step of the tick of the clock, and what they bring has room in the queue
pub record MayBring (bounds : List ℕ) (clock : ℕ) (queue : QueueAccount) (rows : List AccountRow) : Type 0 where
  pub early : clock < 2 ^ 61
  pub few : length rows < 2 ^ 32
  pub ready : Each (IsReady clock) rows
  pub looked : queue.looked ≤ clock
  pub room : length queue.here + length (account_packets bounds queue.here clock queue.taken rows) ≤ queue.room
  pub numbers : queue.taken + length (account_packets bounds queue.here clock queue.taken rows) < 2 ^ 64

-- the queue with the packets that they bring, where the link last looked which packets are eligible in this tick
abbrev pub queue_after : List ℕ → ℕ → List AccountRow → ℕ → QueueAccount → QueueAccount
queue_after bounds clock rows looked queue = record queue {
  taken = queue.taken + length (account_packets bounds queue.here clock queue.taken rows);
  here = queue.here ++ account_packets bounds queue.here clock queue.taken rows;
  looked = looked;
}
