use Rattle.std.proofs.Common.{length, refl, sym, ap, ◌∙◌, subst, arith}
use Rattle.std.proofs.lemmas.Option.{slice_get_read}
use Rattle.std.specs.List.{slice_get}
use Rattle.run_engine.proofs.Keeping.NextStep.{has-few}
use Rattle.link_ledger.specs.declared.entries.Entry.{Entry}
use Rattle.link_steps.specs.Legal.{AskFits}
use Rattle.link_steps.specs.Lists.{Each}
use Rattle.race_run_tests.proofs.WorkedRaces.{journal-fits, journals-many}
use Rattle.race_run_tests.proofs.tests.replays_at.Goals as goal

pub offset_bounds-links-number : goal.offset_bounds-links-number
offset_bounds-links-number c =
    let few = (has-few c.args.plan.now c.links.ensures.valid).few in
    omega (arith, few, journals-many c.args.plan.now c.args.closed.now.passes c.args.closed.now.journals c.requires.whole, c.requires.inside)

pub bounds-links-number : goal.bounds-links-number
bounds-links-number c = omega (arith, journals-many c.args.plan.now c.args.closed.now.passes c.args.closed.now.journals c.requires.whole, c.requires.inside, ap length c.links.ensures.value)

pub replays-requires : goal.replays-requires
replays-requires c =
    let same = c.as_slice-journals.ensures in
    let found = ap (λ js. slice_get js c.args.number) (sym same) ∙ slice_get_read c.as_slice-journals.result.now (length c.as_slice-journals.result.now) c.args.number c.index-journals-number.result refl (omega (arith, c.requires.inside, ap length same)) c.index-journals-number.is in
    let many = journals-many c.args.plan.now c.args.closed.now.passes c.args.closed.now.journals c.requires.whole in
    let linked = ap (λ es. slice_get es c.args.number) (sym c.links.ensures.value) ∙ slice_get_read c.links.result.now (length c.links.result.now) c.args.number c.index-links-number.result refl (omega (arith, many, c.requires.inside, ap length c.links.ensures.value)) c.index-links-number.is in
    subst (Each (λ (e : Entry). AskFits c.index-links-number.result.shape e.ask)) (sym c.as_slice.ensures)
    (journal-fits c.args.plan.now c.args.closed.now.passes c.args.closed.now.journals c.args.number c.index-journals-number.result c.index-links-number.result c.requires.whole found linked)
