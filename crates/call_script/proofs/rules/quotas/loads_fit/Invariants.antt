use Rattle.std.proofs.Common.{◌≡◌, ◌+◌, ◌<◌, ◌^◌, drop}
use Rattle.traffic_contract.specs.Admission.{total}
use Rattle.net_units.specs.Numbers.{level_number}
use Rattle.link_steps.specs.Split.{level_part}
use Rattle.call_script.proofs.rules.quotas.loads_fit.Given as goal

-- the sum so far and that of the quotas left are the whole
abbrev pub invariant-loop-quota : goal.invariant-loop-quota
invariant-loop-quota l = record {
  small : l.sum < 2 ^ 33;
  whole : l.first + total (level_part (level_number l.level)) l.quotas ≡ l.sum + total (level_part (level_number l.level)) (drop l.quota-index l.quotas);
}
