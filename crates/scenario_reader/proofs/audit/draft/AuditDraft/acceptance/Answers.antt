use Rattle.std.proofs.Common.{◌≡◌, ◌∙◌, ap, arith, length, subst, sym}
use Rattle.std.proofs.lemmas.Option.{same_Some, slice_get_within}
use Rattle.std.specs.List.{slice_get}
use Rattle.net_units.specs.Allotted.{levels_of}
use Rattle.hop_reservation.specs.Offers.{delay_over}
use Rattle.setup_protocol.specs.Laws.{KeepsRequest}
use Rattle.call_script.specs.declared.entries.RequestEntry.{RequestEntry}
use Rattle.scenario_reader.specs.AuditReading.{AuditSaid}
use Rattle.scenario_reader.proofs.Auditing.AuditKeeps.{report-count, within-keeps}
use Rattle.scenario_reader.proofs.audit.draft.AuditDraft.acceptance.Goals as goal

pub returns-then-are_within-clause-within : goal.returns-then-are_within-clause-within
returns-then-are_within-clause-within c =
    let there = slice_get_within c.self.inside.draft.requests _ c.in_ok-entry.entry c.in_ok-entry.ensures.there in
    let count = report-count _ c.self.invariant (ap (λ (r : AuditSaid). r.place) c.self.view_is ∙ c.requires) in
    omega (arith, there, count, c.get-request.ensures.value, ap (λ (r : AuditSaid). length r.levels) c.self.view_is)

pub returns-then-are_within-clause-keeps : goal.returns-then-are_within-clause-keeps
returns-then-are_within-clause-keeps c = λ entry at.
    let mine = c.in_ok-entry.entry in
    let same : c.in_ok-entry.entry ≡ entry = same_Some c.in_ok-entry.entry entry
    (sym c.in_ok-entry.ensures.there ∙ ap (slice_get c.self.inside.draft.requests) (sym c.get-request.ensures.value)
    ∙ ap (λ (r : AuditSaid). slice_get r.said.requests c.get-request.result) c.self.view_is ∙ at) in
    subst (λ (e : RequestEntry). KeepsRequest e.request (levels_of c.in_ok-levels.levels) (delay_over e.request.route (levels_of c.in_ok-levels.levels))) same
    (within-keeps mine.request (levels_of c.in_ok-levels.levels) c.in_ok-sum.sum c.in_ok-levels.ensures.have (sym c.are_within.ensures ∙ c.if-are_within.true))
