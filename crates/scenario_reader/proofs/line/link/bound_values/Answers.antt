-- One value more for the next bound.
use Rattle.std.proofs.Common.{◌<◌, ◌++◌, ◌∷◌, [], List, length, length-append, ap, sym, ◌∙◌, arith}
use Rattle.line_forms.specs.declared.value.FieldValue.{FieldValue}
use Rattle.line_forms.specs.declared.value.FieldValue.TheVariants as value
use Rattle.scenario_reader.proofs.Finding.NumbersInCells.{bounds-more}
use Rattle.scenario_reader.proofs.line.link.bound_values.Goals as goal

pub loop-index-preserved : goal.loop-index-preserved
loop-index-preserved c =
    let bound = c.from.result in
    let within : c.loop-index.index < length c.args.bounds.now = omega (arith, c.loop-index-test.true, c.len-index-end.ensures.value) in
    record {
      same = c.push.ensures ∙ ap (λ (values : List FieldValue). values ++ value.Number bound ∷ []) c.loop-index.invariant.same
          ∙ sym (bounds-more c.args.bounds.now c.loop-index.index bound within (c.from.ensures ∙ c.bound_at-bound.ensures));
      count = ap length c.push.ensures ∙ length-append c.loop-index.values (value.Number bound ∷ []) ∙ omega (arith, c.loop-index.invariant.count);
    }
