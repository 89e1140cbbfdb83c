-- What a line that passes says may be added.
use Rattle.std.proofs.Common.{◌∙◌, ap, refl, subst, sym}
use Rattle.scenario_reader.specs.Causes.{AnswersWithRoom}
use Rattle.scenario_reader.specs.Kept.{IsDraft}
use Rattle.scenario_reader.specs.declared.item.Item.TheVariants as item
use Rattle.scenario_reader.specs.declared.judge.LineKind.TheVariants as kind
use Rattle.scenario_reader.specs.line.Table.{says}
use Rattle.scenario_reader.proofs.LineKinds.{answer-may, kind-may, kind-says}
use Rattle.scenario_reader.proofs.draft.Draft.judge.Goals as goal

pub returns-in-Header-clause-room : goal.returns-in-Header-clause-room
returns-in-Header-clause-room c =
    kind-may c.in_ok-read.field-0 (kind.Header c.in-Header.version) c.args.self.now c.args.number c.args.line.now c.read.new.reader.values (item.Header c.in-Header.version)
    (subst IsDraft c.self.view_is c.self.invariant.0) c.in-Header.is c.in_ok-read.ensures refl

pub returns-in-Values-clause-room : goal.returns-in-Values-clause-room
returns-in-Values-clause-room c =
    let said = c.args.self.now in
    let same = kind-says c.in_ok-read.field-0 (kind.Values c.in-Values.word c.in-Values.version) said c.args.number c.args.line.now c.read.new.reader.values c.in-Values.is c.in_ok-read.ensures
    ∙ ap (says c.in-Values.word c.in-Values.version c.args.self.now c.args.number) (sym c.values.ensures) in
    answer-may said c.args.number c.args.line.now c.say.result (subst IsDraft c.self.view_is c.self.invariant.0) (subst (AnswersWithRoom c.say.result) (sym same) c.say.ensures)
