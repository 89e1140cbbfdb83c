-- A request whose route was found between two nodes has a line of its own, whatever the request has come to: the links of the route,
-- and the sum of their propagations in ticks. These lines stand in the order of the requests.
use Rattle.std.specs.Prelude.{ℕ, ◌+◌, Option, Some, None, List, [], ◌∷◌, ◌++◌, codes}
use Rattle.std.specs.Fmt.{decimal}
use Rattle.std.specs.List.{flat_map, slice_get}
use Rattle.net_units.specs.Numbers.{link_number}
use Rattle.hop_reservation.specs.declared.route.Hop.{Hop}
use Rattle.call_script.specs.declared.entries.LinkEntry.{LinkEntry}
use Rattle.call_script.specs.declared.entries.RequestEntry.{RequestEntry}
use Rattle.channel_report.specs.Table.{name_of_link}

-- the name of a hop's link, after a space
abbrev pub hop_word : List LinkEntry → Hop → List ℕ
hop_word links hop = 32 ∷ name_of_link (slice_get links (link_number hop.link))

-- the sum of the propagations, in ticks
abbrev pub prop_over : List Hop → ℕ
prop_over [] = 0
prop_over (hop ∷ hops) = hop.prop + prop_over hops

-- route NAME LINK1 .. LINKh prop P
abbrev pub route_line : List LinkEntry → RequestEntry → List ℕ
route_line links entry = codes "route " ++ entry.name ++ flat_map (hop_word links) entry.request.route ++ codes " prop " ++ decimal (prop_over entry.request.route) ++ 10 ∷ []

-- the line, where the route was found
abbrev pub line_if : Option (List ℕ × List ℕ) → List ℕ → List ℕ
line_if None line = []
line_if (Some nodes) line = line

abbrev pub found_line : List LinkEntry → RequestEntry → List ℕ
found_line links entry = line_if entry.found (route_line links entry)

-- the lines of all requests
abbrev pub route_lines : List LinkEntry → List RequestEntry → List ℕ
route_lines links requests = flat_map (found_line links) requests
