use Rattle.std.proofs.Common.{◌≡◌, ◌+◌, suc, None, Some, length, take, drop, refl, sym, ap, ◌∙◌, subst, arith}
use Rattle.std.specs.Prelude.{reverse}
use Rattle.run_record.specs.SmallRows.{AreSmall}
use Rattle.trace_audit.specs.Checks.{finding_below, fault_of}
use Rattle.trace_audit.specs.Standing.{Stands}
use Rattle.trace_audit.specs.declared.finding.Finding.TheVariants.{Fault}
use Rattle.trace_audit.proofs.SoundFound.{sound-found}
use Rattle.trace_audit.proofs.KeptMatchesRows.{stands-none, table-sound, at-row, finding-step, finding-fault, finding-end}
use Rattle.trace_audit.proofs.SoundTables.{table-kept}
use Rattle.trace_audit.proofs.auditing.audit.Goals as goal

pub loop-index-init : goal.loop-index-init
loop-index-init c = record {
  stands = stands-none c.args.plan.now c.args.levels.now c.new-trail.result c.new-trail.ensures.last;
  small = c.requires.small;
  rest = refl;
}

pub returns-in-Some-clause-value : goal.returns-in-Some-clause-value
returns-in-Some-clause-value c =
    let at = at-row c.args.table.now c.loop-index.index c.index-table-index.result c.loop-index-test.true c.index-table-index.is in
    let fault : fault_of c.args.plan.now c.args.levels.now (reverse (take c.loop-index.index c.args.table.now)) c.index-table-index.result ≡ Some c.in-Some.word = sym (c.in_ok-word.ensures.fault (reverse (take c.loop-index.index c.args.table.now)) c.loop-index.invariant.stands) ∙ c.in-Some.is in
    let told = finding-fault c.args.plan.now c.args.levels.now (reverse (take c.loop-index.index c.args.table.now)) (drop (c.loop-index.index + 1) c.args.table.now) c.index-table-index.result c.in-Some.word fault in
    let count : suc (length (reverse (take c.loop-index.index c.args.table.now))) ≡ c.loop-index.index + 1 = (let n = at.count in omega (arith, n)) in
    ap (λ n. Fault n c.in-Some.word) (sym count) ∙ sym told ∙ ap (finding_below c.args.plan.now c.args.levels.now (reverse (take c.loop-index.index c.args.table.now))) (sym at.back) ∙ c.loop-index.invariant.rest

pub loop-index-preserved : goal.loop-index-preserved
loop-index-preserved c =
    let at = at-row c.args.table.now c.loop-index.index c.index-table-index.result c.loop-index-test.true c.index-table-index.is in
    let none : c.in_ok-word.field-0 ≡ None = c.in_default.is in
    let fault : fault_of c.args.plan.now c.args.levels.now (reverse (take c.loop-index.index c.args.table.now)) c.index-table-index.result ≡ None = sym (c.in_ok-word.ensures.fault (reverse (take c.loop-index.index c.args.table.now)) c.loop-index.invariant.stands) ∙ none in
    record {
      stands = subst (Stands c.args.plan.now c.args.levels.now c.take.new.self) (sym at.front) (c.in_ok-word.ensures.stands (reverse (take c.loop-index.index c.args.table.now)) c.loop-index.invariant.stands none);
      small = (subst AreSmall at.back c.loop-index.invariant.small).1;
      rest = ap (λ above. finding_below c.args.plan.now c.args.levels.now above (drop (c.loop-index.index + 1) c.args.table.now)) at.front
          ∙ sym (finding-step c.args.plan.now c.args.levels.now (reverse (take c.loop-index.index c.args.table.now)) (drop (c.loop-index.index + 1) c.args.table.now) c.index-table-index.result fault)
          ∙ ap (finding_below c.args.plan.now c.args.levels.now (reverse (take c.loop-index.index c.args.table.now))) (sym at.back) ∙ c.loop-index.invariant.rest;
    }

pub returns-clause-value : goal.returns-clause-value
returns-clause-value c = sym (finding-end c.args.plan.now c.args.levels.now c.args.table.now c.loop-index.index c.loop-index-test.false) ∙ c.loop-index.invariant.rest

pub returns-clause-kept : goal.returns-clause-kept
returns-clause-kept c = λ rows is. table-kept c.args.plan.now c.args.levels.now c.args.table.now c.requests-valid.ensures.valid c.requires.accepted
    (table-sound c.args.plan.now c.args.levels.now c.args.table.now rows (sym (sym (finding-end c.args.plan.now c.args.levels.now c.args.table.now c.loop-index.index c.loop-index-test.false) ∙ c.loop-index.invariant.rest) ∙ is))

pub returns-in-Some-clause-complete : goal.returns-in-Some-clause-complete
returns-in-Some-clause-complete c = λ sound. returns-in-Some-clause-value c ∙ sound-found c.args.plan.now c.args.levels.now c.args.table.now sound
