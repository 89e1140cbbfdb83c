-- A line that begins with a word and was read says what its values say.
use Rattle.std.proofs.Common.{◌∙◌, List, ap, sym}
use Rattle.line_forms.specs.Reading.{read_line}
use Rattle.line_forms.specs.declared.form.Part.{Part}
use Rattle.scenario_reader.specs.Known.{names_said}
use Rattle.scenario_reader.specs.declared.cause.LineCause.TheVariants.{Word}
use Rattle.scenario_reader.specs.line.Table.{line_word}
use Rattle.scenario_reader.proofs.LineKinds.{values-read}
use Rattle.scenario_reader.proofs.Passing.PassingLines.{unless-passes}
use Rattle.scenario_reader.proofs.draft.Draft.read_values.Goals as goal

pub returns : goal.returns
returns c =
    let begins = ap line_word (sym c.at.ensures) ∙ sym c.line_word.ensures ∙ c.in_ok-word.ensures.ok_part in
    let stands = sym c.may_stand.ensures ∙ unless-passes c.may_stand.result Word c.in_ok-require.ensures.0 in
    let read = ap (λ (forms : List (List Part)). read_line (names_said c.args.self.now) forms c.args.fields.now) (sym c.forms_of.ensures) ∙ c.in_ok-read_line.ensures in
    values-read c.args.version c.args.self.now c.args.fields.now c.in_ok-word.word c.read_line.new.self.values begins stands read
