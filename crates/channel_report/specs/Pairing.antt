-- The delays of a channel's packets, paired as they leave. Of the packets that have left the first link of its route it is kept when they
-- arrived there, in the order in which they left, which is that of their numbers, from 1. So a packet that leaves the last link finds its
-- own arrival at the place of its number. That these are the channel's delays (Delays) is so of every run. Departures are listed here
-- from the last one to the first.
use Rattle.std.specs.Prelude.{ℕ, ◌-◌, Bool, if◌then◌else◌, List, [], ◌∷◌, ◌++◌}
use Rattle.std.specs.List.{slice_get}
use Rattle.run_engine.specs.channels.Departures.{is_over}
use Rattle.run_record.specs.declared.rows.HopRow.{HopRow}
use Rattle.setup_protocol.specs.declared.request.Request.{Request}
use Rattle.channel_report.specs.Delays.{delay_if, last_link, last_prop}
use Rattle.channel_report.specs.Sources.{first_link}

-- the tick at which a packet that leaves the first link arrived there
abbrev pub arrival_if : Bool → ℕ → List ℕ
arrival_if leaves at = if leaves then at ∷ [] else []

-- those of the packets that have left it
unfoldable pub arrivals_of : ℕ → Request → List HopRow → List ℕ
arrivals_of c request [] = []
arrivals_of c request (row ∷ before) = arrivals_of c request before ++ arrival_if (is_over c (first_link request.route) row) row.at

-- the delays of the channel's packets
unfoldable pub paired_of : ℕ → Request → List HopRow → List ℕ
paired_of c request [] = []
paired_of c request (row ∷ before) =
    delay_if (is_over c (last_link request.route) row) (last_prop request.route) row.departed (slice_get (arrivals_of c request (row ∷ before)) (row.number - 1))
    ++ paired_of c request before
