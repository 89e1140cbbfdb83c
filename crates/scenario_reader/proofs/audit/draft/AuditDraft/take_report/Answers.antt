use Rattle.std.proofs.Common.{◌∙◌, Some, ap, option_map, set, subst, sym}
use Rattle.std.proofs.lemmas.List.{map-set}
use Rattle.net_units.specs.Allotted.{levels_of}
use Rattle.scenario_reader.specs.AuditKept.{IsAuditDraft, KeepsTold, levels_given, told_of}
use Rattle.scenario_reader.specs.AuditReading.{AuditSaid, audit_said}
use Rattle.scenario_reader.proofs.Auditing.AuditKeeps.{report-told, told-kept}
use Rattle.scenario_reader.proofs.audit.draft.AuditDraft.take_report.Goals as goal

pub invariant_of-self-in-Some : goal.invariant_of-self-in-Some
invariant_of-self-in-Some c =
    let told = c.in-Some.told in
    let items = c.self.inside.levels.items in
    subst (λ levels. IsAuditDraft (audit_said c.self.inside.draft c.self.inside.place levels c.self.inside.rows.items))
    (sym (map-set (option_map levels_of) items told.request (Some told.levels)))
    (told-kept c.self.inside.draft c.self.inside.place (levels_given items) c.self.inside.rows.items (told_of told) (ap (λ (r : AuditSaid). r.place) c.self.view_is ∙ c.requires) c.self.invariant
    (subst (λ (r : AuditSaid). KeepsTold r.said.requests (told_of c.in-Some.told)) (sym c.self.view_is) c.in-Some.ensures.keeps))

pub returns-in-Some : goal.returns-in-Some
returns-in-Some c =
    let told = c.in-Some.told in
    report-told c.args.self.now _ c.args.line.now (told_of told) (sym c.eq.ensures ∙ c.if-eq.false) (sym c.starts_with.ensures.value ∙ c.if-starts_with.true) (rw c.of.ensures at c.in-Some.ensures.told)
    (ap (λ levels. audit_said c.self.inside.draft c.self.inside.place levels c.self.inside.rows.items) (map-set (option_map levels_of) c.self.inside.levels.items told.request (Some told.levels))
    ∙ ap (λ (r : AuditSaid). record r { levels = set r.levels c.in-Some.told.request (Some (levels_of c.in-Some.told.levels)) }) c.self.view_is)
