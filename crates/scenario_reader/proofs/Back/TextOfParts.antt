-- The text of a plan is that of its parts, one after another.
use Rattle.std.proofs.Common.{◌≡◌, ℕ, List, [], ◌∷◌, ◌++◌, map, refl, sym, ap, ap₂, ◌∙◌, append_assoc}
use Rattle.std.proofs.lemmas.Grind.{flat_map-append}
use Rattle.std.proofs.lemmas.List.{append-nil}
use Rattle.std.proofs.lemmas.List.Folds.{flat_map-map}
use Rattle.std.specs.List.{flat_map}
use Rattle.std.specs.Prelude.{Bool, true, false, Option, Some, None}
use Rattle.call_script.specs.Parts.{PlanParts}
use Rattle.call_script.specs.declared.entries.CallerEntry.{CallerEntry}
use Rattle.call_script.specs.declared.entries.LinkEntry.{LinkEntry}
use Rattle.call_script.specs.declared.entries.RequestEntry.{RequestEntry}
use Rattle.call_script.specs.declared.operations.Op.{Op}
use Rattle.call_script.specs.declared.schedule.Do.{Do}
use Rattle.call_script.specs.declared.schedule.Schedule.{Schedule}
use Rattle.text_writer.specs.Lines.{whole_line}
use Rattle.scenario_reader.specs.line.Header.{header_fields}
use Rattle.scenario_reader.specs.line.Link.{link_fields, link_text}
use Rattle.scenario_reader.specs.line.Group.{group_fields, group_text}
use Rattle.scenario_reader.specs.line.Quota.{quota_fields, quota_lines, quota_text, quotas_text}
use Rattle.scenario_reader.specs.line.Caller.{caller_fields}
use Rattle.scenario_reader.specs.line.Operation.{op_fields, op_lines, op_text}
use Rattle.scenario_reader.specs.PlanText.{caller_lines, plan_text, split_text, rest_text, caller_text, head_text, end_text}
use Rattle.scenario_reader.specs.Fields.{lines_if, text_if}
use Rattle.scenario_reader.specs.line.Rounds.{rounds_fields, tail_fields, rounds_text}
use Rattle.scenario_reader.specs.line.Schedule.{do_fields, schedule_fields, schedule_lines, do_text, schedule_text}

-- texts of texts
text-of-lists : {X Y : Type 0} (text : Y → List ℕ) (items : X → List Y) (xs : List X) → flat_map text (flat_map items xs) ≡ flat_map (λ x. flat_map text (items x)) xs
text-of-lists text items [] = refl
text-of-lists text items (x ∷ xs) = flat_map-append text (items x) (flat_map items xs) ∙ ap (λ (rest : List ℕ). flat_map text (items x) ++ rest) (text-of-lists text items xs)

-- a caller's line, and those of its operations
pub caller-text : (links : List LinkEntry) (groups : List (List ℕ)) (requests : List RequestEntry) (caller : CallerEntry) → whole_line (caller_fields groups caller.name caller.group) ++ flat_map (op_text links requests) caller.ops ≡ caller_text links groups requests caller
unfolding caller_text op_text
caller-text links groups requests caller = ap (λ (rest : List ℕ). whole_line (caller_fields groups caller.name caller.group) ++ rest) (ops caller.ops) where
  one : (line : Option (List (List ℕ))) → text_if line ≡ flat_map whole_line (lines_if line)
  one None = refl
  one (Some fields) = sym (append-nil (whole_line fields))

  ops : (all : List Op) → flat_map (λ op. text_if (op_fields links requests op)) all ≡ flat_map whole_line (flat_map (op_lines links requests) all)
  ops [] = refl
  ops (op ∷ all) =
      ap (λ (first : List ℕ). first ++ flat_map (λ o. text_if (op_fields links requests o)) all) (one (op_fields links requests op)) ∙ ap (λ (rest : List ℕ). flat_map whole_line (op_lines links requests op) ++ rest) (ops all)
      ∙ sym (flat_map-append whole_line (op_lines links requests op) (flat_map (op_lines links requests) all))

-- the schedule's lines, where it is written
pub schedule-text : (callers : List CallerEntry) (schedule : Schedule) → schedule.written ≡ true → whole_line schedule_fields ++ flat_map (do_text callers) schedule.items ≡ schedule_text callers schedule
unfolding schedule_text do_text
schedule-text callers schedule written = by schedule.written schedule.items written where
  by : (w : Bool) (items : List Do) → w ≡ true → whole_line schedule_fields ++ flat_map (do_text callers) items ≡ flat_map whole_line (schedule_lines callers (record { written = w; items = items }))
  by true items is = ap (λ (rest : List ℕ). whole_line schedule_fields ++ rest) (sym (flat_map-map whole_line (do_fields callers) items))
  by false items is = cc

-- and else no line
pub no-schedule-text : (callers : List CallerEntry) (schedule : Schedule) → schedule.written ≡ false → [] ≡ schedule_text callers schedule
unfolding schedule_text
no-schedule-text callers schedule unwritten = by schedule.written schedule.items unwritten where
  by : (w : Bool) (items : List Do) → w ≡ false → [] ≡ flat_map whole_line (schedule_lines callers (record { written = w; items = items }))
  by true items is = cc
  by false items is = refl

-- the quotas of a link
pub quotas-text : (groups : List (List ℕ)) (entry : LinkEntry) → quotas_text groups entry ≡ flat_map whole_line (quota_lines groups entry)
unfolding quotas_text quota_text
quotas-text groups entry = sym (flat_map-map whole_line (quota_fields groups entry) entry.quotas)

-- the groups, and the quotas of all links
pub split-text : (groups : List (List ℕ)) (links : List LinkEntry) → split_text groups links ≡ flat_map whole_line (map group_fields groups) ++ flat_map whole_line (flat_map (quota_lines groups) links)
unfolding split_text group_text
split-text groups links =
    ap (λ (first : List ℕ). first ++ flat_map (quotas_text groups) links) (sym (flat_map-map whole_line group_fields groups))
    ∙ ap (λ (rest : List ℕ). flat_map whole_line (map group_fields groups) ++ rest) (shares links ∙ sym (text-of-lists whole_line (quota_lines groups) links))
  where
    shares : (entries : List LinkEntry) → flat_map (quotas_text groups) entries ≡ flat_map (λ (entry : LinkEntry). flat_map whole_line (quota_lines groups entry)) entries
    shares [] = refl
    shares (entry ∷ entries) = ap₂ (λ (first rest : List ℕ). first ++ rest) (quotas-text groups entry) (shares entries)

-- the callers, and what stands after them
pub rest-text : (parts : PlanParts) (schedule : Schedule) → rest_text parts schedule
    ≡ flat_map whole_line (flat_map (caller_lines parts.links parts.groups parts.requests) parts.callers ++ (rounds_fields parts.rounds ∷ tail_fields parts.tail ∷ schedule_lines parts.callers schedule))
unfolding rest_text end_text rounds_text caller_text schedule_text
rest-text parts schedule =
    let lines = caller_lines parts.links parts.groups parts.requests in
    let callers = flat_map (caller_lines parts.links parts.groups parts.requests) parts.callers in
    let end = rounds_fields parts.rounds ∷ tail_fields parts.tail ∷ schedule_lines parts.callers schedule in
    sym (
    flat_map-append whole_line callers end
    ∙ ap (λ (first : List ℕ). first ++ flat_map whole_line end) (text-of-lists whole_line lines parts.callers)
    ∙ ap (λ (rest : List ℕ). flat_map (λ caller. flat_map whole_line (caller_lines parts.links parts.groups parts.requests caller)) parts.callers ++ rest)
    (sym (append_assoc (whole_line (rounds_fields parts.rounds)) (whole_line (tail_fields parts.tail)) (flat_map whole_line (schedule_lines parts.callers schedule))))
    )

-- the header and the links
head-text : (parts : PlanParts) → head_text parts ≡ whole_line (header_fields parts.version) ++ flat_map whole_line (map link_fields parts.links)
unfolding head_text link_text
head-text parts = ap (λ (rest : List ℕ). whole_line (header_fields parts.version) ++ rest) (sym (flat_map-map whole_line link_fields parts.links))

-- all lines
pub parts-text : (parts : PlanParts) (schedule : Schedule) → head_text parts ++ (split_text parts.groups parts.links ++ rest_text parts schedule) ≡ plan_text parts schedule
unfolding plan_text
parts-text parts schedule =
    let header = whole_line (header_fields parts.version) in
    let links = map link_fields parts.links in
    let groups = map group_fields parts.groups in
    let shares = flat_map (quota_lines parts.groups) parts.links in
    let rest = flat_map (caller_lines parts.links parts.groups parts.requests) parts.callers ++ (rounds_fields parts.rounds ∷ tail_fields parts.tail ∷ schedule_lines parts.callers schedule) in
    ap₂ (λ (first after : List ℕ). first ++ after) (head-text parts) (ap₂ (λ (first after : List ℕ). first ++ after) (split-text parts.groups parts.links) (rest-text parts schedule))
    ∙ append_assoc header (flat_map whole_line links) ((flat_map whole_line groups ++ flat_map whole_line shares) ++ flat_map whole_line rest)
    ∙ ap (λ (after : List ℕ). header ++ after) (
    ap (λ (after : List ℕ). flat_map whole_line links ++ after) (
    append_assoc (flat_map whole_line groups) (flat_map whole_line shares) (flat_map whole_line rest)
    ∙ ap (λ (after : List ℕ). flat_map whole_line groups ++ after) (sym (flat_map-append whole_line shares rest))
    ∙ sym (flat_map-append whole_line groups (shares ++ rest))
    )
    ∙ sym (flat_map-append whole_line links (groups ++ (shares ++ rest)))
    )
