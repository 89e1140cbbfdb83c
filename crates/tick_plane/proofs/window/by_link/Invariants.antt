use Rattle.std.proofs.Common.{take}
use Rattle.tick_plane.specs.Coming.{AreByLink}
use Rattle.tick_plane.proofs.window.by_link.Given as goal

-- the flights so far by their links
abbrev pub invariant-loop-flight : goal.invariant-loop-flight
invariant-loop-flight l = AreByLink (λ own. own.items) (take l.flight-index l.flights) l.lists.items
