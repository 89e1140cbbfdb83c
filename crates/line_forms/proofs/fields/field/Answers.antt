use Rattle.std.proofs.Common.{◌≡◌, ℕ, zero, suc, List, [], ◌∷◌, None, get_or, option_map, refl, ap, sym, ◌∙◌, rules, tests}
use Rattle.std.proofs.lemmas.Iterator.Consumers.{nth_from_yields_List}
use Rattle.std.proofs.lemmas.Iterator.Splits.{YieldsList-from_slice_split}
use Rattle.std.proofs.lemmas.Option.{get_or_from_slice_get}
use Rattle.std.specs.List.{slice_get}
use Rattle.line_forms.specs.Fields.{is_space, fields_of}
use Rattle.line_forms.proofs.fields.field.Goals as goal

-- where the look-up finds no field, there are no bytes
field-missing : (fields : List (List ℕ)) (place : ℕ) → slice_get fields place ≡ None → ◌≡◌ {A = List ℕ} [] (get_or fields place [])
field-missing [] place e = refl
field-missing (f ∷ fields) zero e = cc
field-missing (f ∷ fields) (suc place) e = field-missing fields place e

pub returns-in-Some : goal.returns-in-Some
returns-in-Some c =
    let found = nth_from_yields_List c.nth.result c.nth.new.self c.args.place c.nth.ensures.ran
    (YieldsList-from_slice_split _ is_space c.args.line.now c.split.ensures.rest c.split.ensures.done c.split.ensures.closure (λ x b q k. search (rules, tests))) in
    sym (get_or_from_slice_get (fields_of c.args.line.now) c.args.place c.in-Some.part.now [] (sym found ∙ ap (option_map (λ x. x.now)) c.in-Some.is))

pub returns-in-None : goal.returns-in-None
returns-in-None c =
    let found = nth_from_yields_List c.nth.result c.nth.new.self c.args.place c.nth.ensures.ran
    (YieldsList-from_slice_split _ is_space c.args.line.now c.split.ensures.rest c.split.ensures.done c.split.ensures.closure (λ x b q k. search (rules, tests))) in
    field-missing (fields_of c.args.line.now) c.args.place (sym found ∙ ap (option_map (λ x. x.now)) c.in-None.is)
