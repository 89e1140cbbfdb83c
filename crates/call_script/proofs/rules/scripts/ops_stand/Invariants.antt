use Rattle.std.proofs.Common.{◌≡◌, ℕ, [], nat_eq, take, drop}
use Rattle.std.specs.List.{list_any}
use Rattle.std.specs.HashSet.{contains}
use Rattle.call_script.specs.Rules.{each_after, stands, is_in}
use Rattle.call_script.proofs.rules.scripts.ops_stand.Given as goal

-- the set has the channels to which the operations so far are what adds them; the operations so far pass, so those left decide
abbrev pub invariant-loop-op : goal.invariant-loop-op
invariant-loop-op l = record {
  above : (q : ℕ) → contains nat_eq l.above q ≡ list_any (is_in l.adds q) (take l.op-index l.ops);
  left : each_after (stands l.place l.asks l.adds) [] l.ops ≡ each_after (stands l.place l.asks l.adds) (take l.op-index l.ops) (drop l.op-index l.ops);
}
