use Rattle.std.proofs.Common.{◌≡◌, map, take}
use Rattle.packet_answers.specs.PromisesOfRuns.{widened_by}
use Rattle.packet_answers.proofs.promises.Promises.widened.Given as goal

-- those of the promises so far
abbrev pub invariant-loop-promise : goal.invariant-loop-promise
invariant-loop-promise l = l.list.items ≡ map (widened_by l.by) (take l.promise-index l.self.list.items)
