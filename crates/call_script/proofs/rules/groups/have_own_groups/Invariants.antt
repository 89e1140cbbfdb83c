use Rattle.std.proofs.Common.{◌≡◌, ℕ, [], nat_eq, take, drop}
use Rattle.std.specs.HashSet.{contains}
use Rattle.call_script.specs.Groups.{has_group, is_of_new_group}
use Rattle.call_script.specs.Rules.{each_after}
use Rattle.call_script.proofs.rules.groups.have_own_groups.Given as goal

-- the set has the groups so far; they differ, so those left decide
abbrev pub invariant-loop-quota : goal.invariant-loop-quota
invariant-loop-quota l = record {
  seen : (q : ℕ) → contains nat_eq l.seen q ≡ has_group q (take l.quota-index l.quotas);
  left : each_after is_of_new_group [] l.quotas ≡ each_after is_of_new_group (take l.quota-index l.quotas) (drop l.quota-index l.quotas);
}
