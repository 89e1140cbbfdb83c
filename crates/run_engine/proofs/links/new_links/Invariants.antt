use Rattle.std.proofs.Common.{◌≡◌, [], map, take}
use Rattle.link_quota.specs.Any.{any_rules, AnyStands}
use Rattle.link_quota.specs.declared.any_link.AnyLink.{AnyLink}
use Rattle.link_steps.specs.Lists.{Each}
use Rattle.call_script.specs.Splits.{entry_link, groups_in}
use Rattle.run_engine.proofs.links.new_links.Given as goal

-- one link an entry so far
abbrev pub invariant-loop-entry : goal.invariant-loop-entry
invariant-loop-entry l = (map any_rules l.links.items ≡ map (entry_link (groups_in l.plan)) (take l.entry-index l.entries)) × Each (λ (link : AnyLink). AnyStands link []) l.links.items
