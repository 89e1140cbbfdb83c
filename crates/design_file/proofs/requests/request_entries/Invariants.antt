use Rattle.std.proofs.Common.{take}
use Rattle.design_file.specs.Planned.{AreRequestsOf}
use Rattle.design_file.proofs.requests.request_entries.Given as goal

-- the requests so far are made
abbrev pub invariant-loop-stream : goal.invariant-loop-stream
invariant-loop-stream l = AreRequestsOf l.scale.tick l.scale.unit l.links (take l.stream-index l.streams) l.entries.items
