use Rattle.std.proofs.Common.{◌≡◌, ◌+◌, ◌≤◌, drop}
use Rattle.std.specs.Prelude.{IsTrue}
use Rattle.link_steps.specs.Lists.{Each}
use Rattle.call_script.specs.Loads.{IsFew}
use Rattle.call_script.specs.Rules.{all_ops, op_in_range, ops_load, ops_over, load_in}
use Rattle.call_script.proofs.rules.load.is_small.Given as goal

-- the load so far and that of the callers left are the whole
abbrev pub invariant-loop-caller : goal.invariant-loop-caller
invariant-loop-caller l = record {
  within : l.load ≤ 262144;
  few : Each IsFew l.loads.items;
  whole : load_in l.requests l.callers ≡ l.load + ops_load l.requests l.loads.items (ops_over (drop l.caller-index l.callers));
  range : IsTrue (all_ops op_in_range (drop l.caller-index l.callers));
}
