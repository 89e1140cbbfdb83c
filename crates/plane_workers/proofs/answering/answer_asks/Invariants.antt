use Rattle.std.proofs.Common.{◌≡◌, ◌+◌, ◌-◌, ◌≤◌, length, take, drop}
use Rattle.link_quota.specs.Any.{any_clock, any_rules, AnyStands}
use Rattle.plane_workers.specs.Answered.{IsAnswered, ticks_in}
use Rattle.plane_workers.specs.Said.{said_in}
use Rattle.plane_workers.proofs.answering.answer_asks.Given as goal

-- the asks so far are answered, and the clock has made their ticks
abbrev pub invariant-loop-made : goal.invariant-loop-made
invariant-loop-made g l = record {
  within : l.made ≤ length l.asks;
  so_far : IsAnswered any_rules AnyStands l.initial.link l.link (take l.made l.asks) (said_in l.said.items);
  clock : any_clock l.link + ticks_in (drop l.made l.asks) ≡ any_clock l.initial.link + ticks_in l.asks;
}

-- the asks that are left
abbrev pub decreases-loop-made : goal.decreases-loop-made
decreases-loop-made g l = length l.asks - l.made
