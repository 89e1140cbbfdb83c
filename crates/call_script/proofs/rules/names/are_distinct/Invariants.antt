use Rattle.std.proofs.Common.{◌≡◌, ℕ, List, [], nat_eq, take, drop}
use Rattle.std.specs.List.{list_any}
use Rattle.std.specs.Cmp.Lexicographic.{pointwise}
use Rattle.std.specs.HashSet.{contains}
use Rattle.call_script.specs.Rules.{each_after, is_named, is_new}
use Rattle.call_script.proofs.rules.names.are_distinct.Given as goal

-- the set has the names so far; they differ, so those left decide
abbrev pub invariant-loop-name : goal.invariant-loop-name
invariant-loop-name l = record {
  seen : (q : List ℕ) → contains (pointwise nat_eq) l.seen q ≡ list_any (is_named q) (take l.name-index l.names);
  left : each_after is_new [] l.names ≡ each_after is_new (take l.name-index l.names) (drop l.name-index l.names);
}
