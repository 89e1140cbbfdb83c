-- The load at hand stands in its cell.
use Rattle.std.proofs.Common.{◌≡◌, ◌<◌, List, ◌∷◌, [], length, get_or, ◌∙◌, ap, arith}
use Rattle.line_forms.specs.Values.{number_in}
use Rattle.line_forms.specs.declared.value.FieldValue.{FieldValue}
use Rattle.scenario_reader.proofs.Finding.NumbersInCells.{cells-filled, all-filled}
use Rattle.scenario_reader.proofs.line.quota.loads_said.Goals as goal

pub loop-place-preserved : goal.loop-place-preserved
loop-place-preserved c =
    let within : c.loop-place.place < length c.args.run.now = omega (arith, c.loop-place-test.true, ap length c.as_slice-values.ensures) in
    cells-filled c.loop-place.cells c.args.run.now (0 ∷ 0 ∷ 0 ∷ 0 ∷ 0 ∷ 0 ∷ 0 ∷ 0 ∷ []) c.loop-place.place c.number.result c.index-values-place.result within (omega (arith, within, c.requires.few)) c.loop-place.invariant
    (c.number.ensures ∙ ap number_in (c.index-values-place.is ∙ ap (λ (values : List FieldValue). get_or values c.loop-place.place c.index-values-place.result) c.as_slice-values.ensures))

pub returns : goal.returns
returns c =
    let same : c.loop-place.place ≡ length c.args.run.now = omega (arith, c.loop-place-test.false, c.loop-place.auto.place-end, ap length c.as_slice-values.ensures) in
    c.loop-place.invariant ∙ all-filled c.args.run.now (0 ∷ 0 ∷ 0 ∷ 0 ∷ 0 ∷ 0 ∷ 0 ∷ 0 ∷ []) c.loop-place.place same
