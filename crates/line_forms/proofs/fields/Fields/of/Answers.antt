use Rattle.std.proofs.Common.{◌&&◌, ◌∙◌, ◌∷◌, [], ap, ap₂, arith, length-append, map, refl, rules, subst, sym, tests}
use Rattle.std.proofs.lemmas.Iterator.Splits.{YieldsList-from_slice_split}
use Rattle.line_forms.specs.FieldCells.{AreAtHand}
use Rattle.line_forms.specs.Fields.{are_fields, is_space}
use Rattle.line_forms.proofs.CutFields.{bytes, cut-on, none-cut, whole-road, written-on}
use Rattle.line_forms.proofs.fields.Fields.of.Goals as goal

pub loop-part-init : goal.loop-part-init
loop-part-init c = record { at_hand = none-cut _ refl refl; counted = refl; written = refl }

pub loop-part-preserved : goal.loop-part-preserved
loop-part-preserved c =
    let so_far = c.loop-part.invariant in
    record {
      at_hand = cut-on (map bytes c.keep.new.cells) (map bytes c.loop-part.cells) c.loop-part.count c.loop-part.yielded c.in-Some.part so_far.at_hand so_far.counted c.keep.ensures;
      counted = omega (arith, so_far.counted, length-append c.loop-part.yielded (c.in-Some.part ∷ []));
      written = ap₂ (λ a b. a && b) so_far.written c.is_graphic_text-written.ensures ∙ sym (written-on c.loop-part.yielded c.in-Some.part);
    }

pub invariant_of-result : goal.invariant_of-result
invariant_of-result c =
    let so_far = c.loop-part.invariant in
    let whole = whole-road {v = bytes} c.loop-part.yielded _ c.loop-part.yielded_by _ _ c.in-None.is c.next.ensures.steps
    (YieldsList-from_slice_split {s = c.into_iter-part-iterator.result} _ is_space {f = record {}} c.args.line.now (rw c.into_iter-part-iterator.ensures.into_iter_gives c.split-part-items.ensures.rest)
    (rw c.into_iter-part-iterator.ensures.into_iter_gives c.split-part-items.ensures.done) (rw c.into_iter-part-iterator.ensures.into_iter_gives c.split-part-items.ensures.closure) (λ x b q k. search (rules, tests))) in (
      subst (AreAtHand (map bytes c.loop-part.cells)) whole.0 so_far.at_hand,
      so_far.counted ∙ whole.1,
      so_far.written ∙ ap are_fields whole.0,
    )
