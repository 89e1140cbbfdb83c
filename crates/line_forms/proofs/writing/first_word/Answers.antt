use Rattle.line_forms.specs.declared.form.Part.TheVariants as part
use Rattle.line_forms.specs.declared.word.Keyword.TheVariants as word
use Rattle.line_forms.proofs.FormText.{begins-somehow, begins-with-word, begun-by}
use Rattle.line_forms.proofs.writing.first_word.Goals as goal

pub bounds-form-0 : goal.bounds-form-0
bounds-form-0 c = begins-somehow c.args.form.now c.requires

pub unreachable-requires : goal.unreachable-requires
unreachable-requires c =
    let p = begins-with-word c.args.form.now (part.Word word.Link) c.requires in
    c.in_default.not-Word p.word p.is

pub returns : goal.returns
returns c = begun-by c.args.form.now c.in-Word.word _ c.requires c.in-Word.is
