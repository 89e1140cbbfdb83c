use Rattle.std.proofs.Common.{◌≡◌, ◌+◌, ◌≤◌, drop}
use Rattle.std.specs.List.{list_all}
use Rattle.std.specs.Prelude.{IsTrue}
use Rattle.link_steps.specs.Lists.{Each}
use Rattle.call_script.specs.Loads.{IsFew}
use Rattle.call_script.specs.Rules.{op_in_range, ops_load, loads_after}
use Rattle.call_script.proofs.rules.load.load_with.Given as goal

-- the load so far and that of the operations left are the whole
abbrev pub invariant-loop-op : goal.invariant-loop-op
invariant-loop-op l = record {
  within : l.load ≤ 262144;
  few : Each IsFew l.loads.items;
  whole : l.before + ops_load l.requests l.initial.loads.items l.ops ≡ l.load + ops_load l.requests l.loads.items (drop l.op-index l.ops);
  loads : loads_after l.initial.loads.items l.ops ≡ loads_after l.loads.items (drop l.op-index l.ops);
  range : IsTrue (list_all op_in_range (drop l.op-index l.ops));
}
