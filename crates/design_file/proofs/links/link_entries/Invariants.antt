use Rattle.std.proofs.Common.{take}
use Rattle.design_file.specs.Planned.{AreLinksOf}
use Rattle.design_file.proofs.links.link_entries.Given as goal

-- the links so far are made
abbrev pub invariant-loop-link : goal.invariant-loop-link
invariant-loop-link l = AreLinksOf l.scale.tick l.scale.unit (take l.link-index l.links) l.entries.items
