use Rattle.std.proofs.Common.{◌≡◌, None, Some, length, map, refl, sym, subst, ◌∙◌, ap}
use Rattle.net_units.specs.Numbers.{link_at}
use Rattle.call_script.specs.Versions.{test_of}
use Rattle.line_forms.specs.Values.{number_in}
use Rattle.scenario_reader.specs.Causes.{unless}
use Rattle.scenario_reader.specs.Drafts.{Said}
use Rattle.scenario_reader.specs.Entries.{LinkNumbers, has_bounds, shape_of}
use Rattle.scenario_reader.specs.declared.cause.LineCause.TheVariants.{Levels}
use Rattle.scenario_reader.specs.line.Link.{link_numbers}
use Rattle.scenario_reader.proofs.Finding.ShapeOfNumbers.{AreWithin, link-is, made-shape}
use Rattle.scenario_reader.proofs.kind.Link.{figures-within}
use Rattle.scenario_reader.proofs.draft.Draft.shape_said.Goals as goal

pub returns-in-Ok : goal.returns-in-Ok
returns-in-Ok c =
    let numbers : LinkNumbers = record {
      rate = c.number.result;
      cap = c.number-2.result;
      prop = c.number-3.result;
      buffer = c.number-4.result;
      best = c.number-5.result;
      bounds = map number_in c.args.values.now.run;
    } in
    let same : numbers ≡ link_numbers c.args.values.now = rw (c.number.ensures, c.number-2.ensures, c.number-3.ensures, c.number-4.ensures, c.number-5.ensures) refl in
    let within : AreWithin numbers.rate numbers.cap numbers.prop numbers.buffer numbers.best =
    subst (λ (n : LinkNumbers). AreWithin n.rate n.cap n.prop n.buffer n.best) (sym same) (figures-within c.args.values.now c.requires.figures) in
    let made = made-shape numbers c.in_ok-bounds.bounds c.unwrap.result c.test.result c.in-Ok.shape within (sym c.bounds_said.ensures ∙ c.in_ok-bounds.ensures.ok_part) c.in-Ok.ensures.refusal c.in-Ok.ensures.value in
    let number = link-is c.unwrap.result (length c.args.self.now.links) c.requires.few
    ((rw c.unwrap.ensures at c.new.ensures.value) ∙ c.len.ensures ∙ c.self.inside.links.ok.0 ∙ ap (λ (s : Said). length s.links) c.self.view_is) in
    subst (λ (n : LinkNumbers). (unless (has_bounds n) Levels ≡ None) × (shape_of (link_at (length c.args.self.now.links)) (test_of c.args.version) n ≡ Some c.in-Ok.shape)) same
    (made.0, rw (sym number, sym c.test.ensures) made.1)
