use Rattle.std.proofs.Common.{◌≡◌, [], drop}
use Rattle.std.specs.List.{list_all}
use Rattle.call_script.specs.Rules.{each_after, stands}
use Rattle.call_script.specs.declared.entries.CallerEntry.{CallerEntry}
use Rattle.call_script.proofs.rules.scripts.all_stand.Given as goal

-- the callers so far pass, so those left decide
abbrev pub invariant-loop-caller : goal.invariant-loop-caller
invariant-loop-caller l =
    list_all (λ (caller : CallerEntry). each_after (stands l.place l.asks l.adds) [] caller.ops) l.callers ≡ list_all (λ (caller : CallerEntry). each_after (stands l.place l.asks l.adds) [] caller.ops) (drop l.caller-index l.callers)
