use Rattle.std.proofs.Common.{◌≡◌, ◌++◌, take, string_bytes}
use Rattle.std.specs.List.{flat_map}
use Rattle.channel_report.specs.Routes.{hop_word}
use Rattle.channel_report.proofs.route_lines.push_links.Given as goal

-- the links before the index are there
abbrev pub invariant-loop-index : goal.invariant-loop-index
invariant-loop-index l = string_bytes l.text ≡ string_bytes l.fn.text ++ flat_map (hop_word l.links) (take l.index l.route)
