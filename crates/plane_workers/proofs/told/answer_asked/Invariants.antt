use Rattle.std.proofs.Common.{take}
use Rattle.tick_plane.specs.AskedRuns.{asks_in}
use Rattle.plane_workers.specs.Tracks.{TellsMore}
use Rattle.plane_workers.proofs.told.answer_asked.Given as goal

-- what was asked so far is answered, and what that tells is kept
abbrev pub invariant-loop-next : goal.invariant-loop-next
invariant-loop-next g l = TellsMore l.initial.link l.link (asks_in (take l.next-index l.asked)) l.initial.told.items l.told.items
