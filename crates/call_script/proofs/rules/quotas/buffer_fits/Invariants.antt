use Rattle.std.proofs.Common.{◌≡◌, ◌+◌, ◌<◌, ◌^◌, drop}
use Rattle.traffic_contract.specs.Admission.{total}
use Rattle.link_steps.specs.Split.{buffer_part}
use Rattle.call_script.proofs.rules.quotas.buffer_fits.Given as goal

-- the sum so far and that of the quotas left are the whole
abbrev pub invariant-loop-quota : goal.invariant-loop-quota
invariant-loop-quota l = record {
  small : l.sum < 2 ^ 33;
  whole : l.first + total buffer_part l.quotas ≡ l.sum + total buffer_part (drop l.quota-index l.quotas);
}
