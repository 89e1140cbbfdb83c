-- The one text of a plan: the header with its version, its links, its groups, the quotas link by link, its callers each with its
-- operations in their order, `rounds` and `tail`, and, where its schedule is written, `schedule` and the `do` lines, each on a
-- line of its own, whose fields stand with its kind (`line`). Links, groups, callers and requests go by their names, and so does the
-- plane. (An operation on what isn't there would have no line; a plan has none.)
use Rattle.std.specs.Prelude.{ℕ, List, ◌∷◌, ◌++◌, map}
use Rattle.std.specs.List.{flat_map}
use Rattle.call_script.specs.Parts.{PlanParts}
use Rattle.call_script.specs.declared.entries.LinkEntry.{LinkEntry}
use Rattle.call_script.specs.declared.entries.RequestEntry.{RequestEntry}
use Rattle.call_script.specs.declared.entries.CallerEntry.{CallerEntry}
use Rattle.call_script.specs.declared.schedule.Schedule.{Schedule}
use Rattle.text_writer.specs.Lines.{whole_line}
use Rattle.scenario_reader.specs.line.Header.{header_fields}
use Rattle.scenario_reader.specs.line.Link.{link_fields, link_text}
use Rattle.scenario_reader.specs.line.Group.{group_fields, group_text}
use Rattle.scenario_reader.specs.line.Quota.{quota_lines, quotas_text}
use Rattle.scenario_reader.specs.line.Caller.{caller_fields}
use Rattle.scenario_reader.specs.line.Operation.{op_lines}
use Rattle.scenario_reader.specs.line.Rounds.{rounds_fields, tail_fields, rounds_text}
use Rattle.scenario_reader.specs.line.Schedule.{schedule_lines, schedule_text}

-- a caller with its operations
abbrev pub caller_lines : List LinkEntry → List (List ℕ) → List RequestEntry → CallerEntry → List (List (List ℕ))
caller_lines links groups requests caller = caller_fields groups caller.name caller.group ∷ flat_map (op_lines links requests) caller.ops

-- ---- all lines

-- the lines of a plan with its schedule, each as its fields
abbrev pub plan_lines : PlanParts → Schedule → List (List (List ℕ))
plan_lines parts schedule = header_fields parts.version ∷ (map link_fields parts.links ++ (map group_fields parts.groups ++ (flat_map (quota_lines parts.groups) parts.links
    ++ (flat_map (caller_lines parts.links parts.groups parts.requests) parts.callers ++ (rounds_fields parts.rounds ∷ tail_fields parts.tail ∷ schedule_lines parts.callers schedule)))))

unfoldable pub plan_text : PlanParts → Schedule → List ℕ
plan_text parts schedule = flat_map whole_line (plan_lines parts schedule)

-- the groups, and the quotas of the links
unfoldable pub split_text : List (List ℕ) → List LinkEntry → List ℕ
split_text groups links = flat_map group_text groups ++ flat_map (quotas_text groups) links

unfoldable pub caller_text : List LinkEntry → List (List ℕ) → List RequestEntry → CallerEntry → List ℕ
caller_text links groups requests caller = flat_map whole_line (caller_lines links groups requests caller)

-- the header and the links
unfoldable pub head_text : PlanParts → List ℕ
head_text parts = whole_line (header_fields parts.version) ++ flat_map link_text parts.links

-- what stands after the callers
unfoldable pub end_text : PlanParts → Schedule → List ℕ
end_text parts schedule = rounds_text parts.rounds parts.tail ++ schedule_text parts.callers schedule

-- the callers, and what stands after them
unfoldable pub rest_text : PlanParts → Schedule → List ℕ
rest_text parts schedule = flat_map (caller_text parts.links parts.groups parts.requests) parts.callers ++ end_text parts schedule
