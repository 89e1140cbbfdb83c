-- What a channel was promised holds as long as its source keeps the contract: each packet arrives within the delay, counted from the
-- tick at which it was sent, and where a jitter was promised, its delay differs from the delays of the channel's packets before it by
-- less than that. With the packet that breaks the contract the promise ends. A row of a channel without a promise is found, and so
-- is one that arrived before it was sent, of which nothing else is made.
use Rattle.std.specs.Prelude.{ℕ, suc, ◌-◌, Bool, not, ◌&&◌, nat_eq, nat_le, nat_lt, if◌then◌else◌, Option, Some, None, List, [], ◌∷◌, ◌++◌, map, max, min}
use Rattle.std.specs.List.{slice_get}
use Rattle.traffic_contract.specs.Contract.{Traffic}
use Rattle.traffic_contract.specs.Keeping.{keeps_newest_first, may_follow}
use Rattle.packet_audit.specs.declared.rows.Fault.{Fault}
use Rattle.packet_audit.specs.declared.rows.Fault.TheVariants.{Unknown, BeforeSent, BreaksContract, Late, Uneven}
use Rattle.packet_audit.specs.declared.rows.Found.{Found}
use Rattle.packet_audit.specs.declared.rows.Promise.{Promise}
use Rattle.packet_audit.specs.declared.rows.Row.{Row}
use Rattle.packet_audit.specs.declared.rows.Spread.{Spread}

abbrev pub sent_of : Row → ℕ
sent_of row = row.sent

abbrev pub delay_of : Row → ℕ
delay_of row = row.arrived - row.sent

-- ---- the rows of a channel, newest first

abbrev pub is_of : ℕ → Row → Bool
is_of channel row = nat_eq row.channel channel && nat_le row.sent row.arrived

unfoldable pub rows_of : ℕ → List Row → List Row
rows_of channel [] = []
rows_of channel (row ∷ above) = if is_of channel row then row ∷ rows_of channel above else rows_of channel above

-- the least and the largest of their delays, where there are some
abbrev pub widened : ℕ → Option Spread → Spread
widened delay None = record { least = delay; most = delay }
widened delay (Some spread) = record { least = min delay spread.least; most = max delay spread.most }

unfoldable pub spread_of : List Row → Option Spread
spread_of [] = None
spread_of (row ∷ rows) = Some (widened (delay_of row) (spread_of rows))

-- the most by which a delay differs from these
abbrev pub apart : ℕ → Option Spread → ℕ
apart delay None = 0
apart delay (Some spread) = max (delay - spread.least) (spread.most - delay)

-- whether the source has kept the contract with these rows
abbrev pub is_kept : Traffic → List Row → Bool
is_kept contract own = keeps_newest_first contract (map sent_of own)

-- ---- what is found of a row, after the rows of its channel above it

abbrev pub late_by : ℕ → ℕ → Option Fault
late_by promised delay = if nat_le delay promised then None else Some (Late (delay - promised))

abbrev pub uneven_by : Option ℕ → ℕ → Option Fault
uneven_by None far = None
uneven_by (Some jitter) far = if nat_lt far jitter then None else Some (Uneven far)

-- of its delay: nothing more is promised once the contract is broken
abbrev pub delay_fault_after : Promise → List Row → Row → Option Fault
delay_fault_after promise own row =
    if not (is_kept promise.contract own) then None
    else if not (may_follow promise.contract (map sent_of own) row.sent) then Some BreaksContract
    else late_by promise.delay (delay_of row)

-- of its jitter
abbrev pub jitter_fault_after : Promise → List Row → Row → Option Fault
jitter_fault_after promise own row =
    if is_kept promise.contract (row ∷ own) then uneven_by promise.jitter (apart (delay_of row) (spread_of own)) else None

-- ---- what is found of a table

abbrev pub delay_fault_of : Option Promise → List Row → Row → Option Fault
delay_fault_of None above row = Some Unknown
delay_fault_of (Some promise) above row = if nat_lt row.arrived row.sent then Some BeforeSent else delay_fault_after promise (rows_of row.channel above) row

abbrev pub jitter_fault_of : Option Promise → List Row → Row → Option Fault
jitter_fault_of None above row = None
jitter_fault_of (Some promise) above row = if nat_lt row.arrived row.sent then None else jitter_fault_after promise (rows_of row.channel above) row

-- the fault of the row of this number, if it has one
abbrev pub listed : ℕ → Option Fault → List Found
listed number None = []
listed number (Some fault) = record { row = number; fault = fault } ∷ []

-- what is found of a row, after those above it, newest first
abbrev pub found_at : List Promise → ℕ → List Row → Row → List Found
found_at promises number above row =
    listed number (delay_fault_of (slice_get promises row.channel) above row) ++ listed number (jitter_fault_of (slice_get promises row.channel) above row)

-- and of all rows from the one of this number on
unfoldable pub found_from : List Promise → ℕ → List Row → List Row → List Found
found_from promises number above [] = []
found_from promises number above (row ∷ rows) = found_at promises number above row ++ found_from promises (suc number) (row ∷ above) rows

-- of a table, whose rows are numbered from 1
abbrev pub found_in : List Promise → List Row → List Found
found_in promises rows = found_from promises 1 [] rows
