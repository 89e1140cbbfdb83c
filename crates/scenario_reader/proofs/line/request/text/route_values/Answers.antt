-- One value more for the next link.
use Rattle.std.proofs.Common.{◌≡◌, ◌≤◌, ◌+◌, ◌-◌, ◌++◌, List, [], length, refl, sym, ◌∙◌, ap, subst, arith}
use Rattle.std.specs.List.{slice_get}
use Rattle.net_units.specs.Numbers.{link_number}
use Rattle.line_forms.specs.declared.value.FieldValue.{FieldValue}
use Rattle.scenario_reader.specs.line.Request.{link_before}
use Rattle.scenario_reader.proofs.Finding.HopsInCells.{values-more, before-few}
use Rattle.scenario_reader.proofs.line.request.text.route_values.Goals as goal

pub loop-index-preserved : goal.loop-index-preserved
loop-index-preserved c =
    let links = c.args.links.now in
    let hop = c.hop.result in
    let number = link_number hop.link in
    let at : c.loop-index.index ≡ (c.loop-index.index + 1) - 1 = omega arith in
    record {
      same = c.push_link.ensures ∙ ap (λ (values : List FieldValue). values ++ link_before number (slice_get links number) []) c.loop-index.invariant.same
          ∙ sym (values-more links c.args.route.now c.loop-index.index hop (slice_get links number) (ap (slice_get c.args.route.now) at ∙ c.hop.ensures.value) refl);
      few = subst (λ (values : List FieldValue). length values ≤ c.loop-index.index + 1) (sym c.push_link.ensures) (before-few number (slice_get links number) c.loop-index.values c.loop-index.index c.loop-index.invariant.few);
    }
