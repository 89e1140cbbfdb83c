-- What is kept of each request that was opened, by its number: what its caller has done with it, and what it has to carry.
use Rattle.std.specs.Prelude.{ℕ, ◌≤◌, true, false, List, max, set, get_or}
use Rattle.net_units.specs.Limits.{most_packets}
use Rattle.net_units.specs.Numbers.{channel_number}
use Rattle.net_units.specs.declared.numbers.ChanNo.{ChanNo}
use Rattle.call_script.specs.declared.operations.Op.{Op}
use Rattle.call_script.specs.declared.operations.Op.TheVariants.{Open, Send, Close, Pour, Move}
use Rattle.scenario_reader.specs.declared.uses.Uses.{Uses}

-- what it has to carry is within the limit
abbrev pub IsLight : Uses → Type 0
IsLight uses = uses.load ≤ most_packets

abbrev pub blank : Uses
blank = record { closed = false; left = false; used = false; joined = false; load = 0 }

abbrev pub use_at : List Uses → ChanNo → Uses
use_at uses chan = get_or uses (channel_number chan) blank

abbrev pub with_use : ChanNo → Uses → List Uses → List Uses
with_use chan now uses = set uses (channel_number chan) now

abbrev pub sent : ℕ → Uses → Uses
sent count was = record was { used = true; load = max count was.load }

abbrev pub shut : Uses → Uses
shut was = record was { closed = true; used = true }

abbrev pub left : Uses → Uses
left was = record was { left = true; used = true }

abbrev pub joined : ℕ → Uses → Uses
joined load was = record was { joined = true; load = max load was.load }

-- with one more operation
abbrev pub used_by : Op → List Uses → List Uses
used_by (Open chan) uses = uses
used_by (Send chan count gap size) uses = with_use chan (sent count (use_at uses chan)) uses
used_by (Close chan) uses = with_use chan (shut (use_at uses chan)) uses
used_by (Pour link count gap size) uses = uses
used_by (Move old new) uses = with_use new (joined (use_at uses old).load (use_at (with_use old (left (use_at uses old)) uses) new)) (with_use old (left (use_at uses old)) uses)
