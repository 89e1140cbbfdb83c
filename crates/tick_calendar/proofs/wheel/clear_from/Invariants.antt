-- The slots so far are cleared, and those before the first stay.
use Rattle.std.proofs.Common.{◌≡◌, ◌≤◌, ◌<◌, ℕ, None, length, get_or}
use Rattle.tick_calendar.proofs.wheel.clear_from.Given as goal

abbrev pub invariant-loop-slot : goal.invariant-loop-slot
invariant-loop-slot l = record {
  begun : l.from ≤ l.slot;
  slots : length l.firsts.items ≡ length l.fn.firsts.items;
  cleared : (s : ℕ) → l.from ≤ s → s < l.slot → get_or l.firsts.items s None ≡ None;
  before : (s : ℕ) → s < l.from → get_or l.firsts.items s None ≡ get_or l.fn.firsts.items s None;
}
