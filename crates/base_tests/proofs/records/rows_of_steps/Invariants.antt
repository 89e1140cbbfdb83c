use Rattle.std.proofs.Common.{◌≡◌, ◌≤◌, ◌-◌, length, take}
use Rattle.base_tests.proofs.records.rows_of_steps.Given as goal

-- the record has the steps so far, and room for the others
abbrev pub invariant-loop-done : goal.invariant-loop-done
invariant-loop-done l = record {
  entries : l.«record».entries ≡ take l.done-index l.steps;
  room : length l.steps - l.done-index ≤ l.«record».spare;
}
