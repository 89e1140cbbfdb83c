use Rattle.std.proofs.Common.{◌≡◌, ◌∙◌, List, [], ◌∷◌, ◌++◌, ◌-◌, take, length, length-drop, drop, sym, ap, arith}
use Rattle.std.proofs.lemmas.List.{take_all}
use Rattle.text_writer.specs.Lines.{whole_line}
use Rattle.line_forms.specs.Fields.{spaced}
use Rattle.line_forms.specs.Words.{text_of}
use Rattle.line_forms.specs.Writing.{fields_with}
use Rattle.line_forms.specs.declared.form.Part.{Part}
use Rattle.line_forms.specs.declared.form.Part.TheVariants as part
use Rattle.line_forms.specs.declared.value.Values.{Values}
use Rattle.line_forms.specs.declared.word.Keyword.{Keyword}
use Rattle.line_forms.proofs.LineByField.{whole-line}
use Rattle.line_forms.proofs.writing.write_form.Goals as goal

line-said : (form : List Part) (first : Keyword) (values : Values) → form ≡ part.Word first ∷ drop 1 form
    → (text_of first ++ spaced (fields_with (take (length form - 1) (drop 1 form)) values)) ++ 10 ∷ [] ≡ whole_line (fields_with form values)
line-said form first values is =
    ap (λ (rest : List Part). (text_of first ++ spaced (fields_with rest values)) ++ 10 ∷ []) (take_all (length form - 1) (drop 1 form) (omega (arith, length-drop 1 form)))
    ∙ whole-line (text_of first) (fields_with (drop 1 form) values) ∙ ap (λ (parts : List Part). whole_line (fields_with parts values)) (sym is)

pub returns : goal.returns
returns c =
    rw (c.in_ok-writeln.ensures.bytes, c.in_ok-push_parts.ensures, c.in_ok-push_str.ensures.bytes, c.new-line.ensures.bytes, c.as_str.ensures)
    (line-said c.args.form.now c.first_word.result c.args.values.now c.first_word.ensures)
