use Rattle.std.proofs.Common.{◌≡◌, ◌≤◌, ◌<◌, ◌∙◌, ℕ, ◌+◌, List, [], ◌∷◌, length, get_or, take, drop, ap, refl, sym, arith, length-append, length-drop, length-take-le, get_or-drop, get_or-take}
use Rattle.line_forms.specs.Reading.{read_run}
use Rattle.line_forms.specs.declared.value.FieldValue.{FieldValue}
use Rattle.line_forms.proofs.ReadOn.{values_before, run-next, run-stops, run-over, nothing-run, run-told}
use Rattle.line_forms.proofs.reading.read_run.Goals as goal

-- as many fields as are to be read
counted : (fields : List (List ℕ)) (from count : ℕ) → from + count ≤ length fields → length (take count (drop from fields)) ≡ count
counted fields from count within = length-take-le count (drop from fields) (omega (arith, length-drop from fields))

-- the field at hand
field-here : (fields : List (List ℕ)) (from count place : ℕ) → place < count → get_or fields (from + place) [] ≡ get_or (take count (drop from fields)) place []
field-here fields from count place h = sym (rw (get_or-take, get_or-drop) refl)

pub loop-place-init : goal.loop-place-init
loop-place-init g c =
    let read = read_run (g.K.Known.names c.args.known.now) c.args.before c.args.slot (take c.args.count (drop c.args.from c.args.fields.now)) in
    record { rest = ap (λ (values : List FieldValue). values_before values read) c.clear.ensures ∙ nothing-run read; counted = ap length c.clear.ensures }

pub returns-in_err-value : goal.returns-in_err-value
returns-in_err-value g c =
    let names = g.K.Known.names c.args.known.now in
    let fields = take c.args.count (drop c.args.from c.args.fields.now) in
    let all = counted c.args.fields.now c.args.from c.args.count c.requires.within in
    let here = field-here c.args.fields.now c.args.from c.args.count c.loop-place.place c.loop-place-test.true in
    run-told c.from_residual.result c.loop-place.values (read_run names c.args.before c.args.slot fields) c.in_err-value.field-0.0 c.from_residual.ensures.1
    (sym c.loop-place.invariant.rest ∙ run-stops names c.args.before c.args.slot fields c.loop-place.place c.at.result.now c.loop-place.values c.in_err-value.field-0.0 (omega (arith, all, c.loop-place-test.true)) (c.at.ensures ∙ here)
    (sym c.read.ensures ∙ c.in_err-value.was))

pub loop-place-preserved : goal.loop-place-preserved
loop-place-preserved g c =
    let names = g.K.Known.names c.args.known.now in
    let fields = take c.args.count (drop c.args.from c.args.fields.now) in
    let place = c.loop-place.place in
    let all = counted c.args.fields.now c.args.from c.args.count c.requires.within in
    let here = field-here c.args.fields.now c.args.from c.args.count c.loop-place.place c.loop-place-test.true in
    let read = sym c.read.ensures ∙ c.in_ok-value.was in
    record {
      rest = ap (λ (values : List FieldValue). values_before values (read_run names c.args.before c.args.slot (drop (place + 1) fields))) c.push.ensures
          ∙ sym (run-next names c.args.before c.args.slot fields place (place + 1) c.at.result.now c.loop-place.values c.in_ok-value.value (omega (arith, all, c.loop-place-test.true)) refl (c.at.ensures ∙ here) read)
          ∙ c.loop-place.invariant.rest;
      counted = ap length c.push.ensures ∙ length-append c.loop-place.values (c.in_ok-value.value ∷ []) ∙ omega (arith, c.loop-place.invariant.counted);
    }

pub returns : goal.returns
returns g c =
    let fields = take c.args.count (drop c.args.from c.args.fields.now) in
    let all = counted c.args.fields.now c.args.from c.args.count c.requires.within in
    sym c.loop-place.invariant.rest ∙ run-over (g.K.Known.names c.args.known.now) c.args.before c.args.slot fields c.loop-place.place c.loop-place.values (omega (arith, all, c.loop-place-test.false))
