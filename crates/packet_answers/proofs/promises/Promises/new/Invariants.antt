use Rattle.std.proofs.Common.{◌≡◌, take}
use Rattle.std.specs.List.{flat_map}
use Rattle.packet_answers.specs.Plays.{run_in}
use Rattle.packet_answers.specs.PromisesOfRuns.{promise_in}
use Rattle.packet_answers.proofs.promises.Promises.new.Given as goal

-- those of the requests so far
abbrev pub invariant-loop-number : goal.invariant-loop-number
invariant-loop-number l = l.promises.list.items ≡ flat_map (promise_in (run_in l.played)) (take l.number l.plan.requests)
