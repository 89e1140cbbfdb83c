use Rattle.std.proofs.Common.{◌≡◌, drop}
use Rattle.std.specs.List.{list_all}
use Rattle.call_script.specs.Groups.{have_own_groups}
use Rattle.call_script.specs.declared.entries.LinkEntry.{LinkEntry}
use Rattle.call_script.proofs.rules.groups.links_have_own_groups.Given as goal

-- the links so far pass, so those left decide
abbrev pub invariant-loop-entry : goal.invariant-loop-entry
invariant-loop-entry l =
    list_all (λ (entry : LinkEntry). have_own_groups entry.quotas) l.links ≡ list_all (λ (entry : LinkEntry). have_own_groups entry.quotas) (drop l.entry-index l.links)
