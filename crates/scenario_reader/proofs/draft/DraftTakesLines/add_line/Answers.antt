-- What a line says that passes may be added.
use Rattle.std.proofs.Common.{◌∙◌, ap, refl, subst, sym}
use Rattle.scenario_reader.specs.Kept.{IsDraft}
use Rattle.scenario_reader.specs.declared.item.Item.TheVariants as item
use Rattle.scenario_reader.specs.declared.judge.LineKind.TheVariants as kind
use Rattle.scenario_reader.specs.line.Table.{says}
use Rattle.scenario_reader.proofs.LineKinds.{kind-may}
use Rattle.scenario_reader.proofs.draft.DraftTakesLines.add_line.Goals as goal

pub put_header-requires : goal.put_header-requires
put_header-requires c =
    kind-may c.in_ok-read.field-0 (kind.Header c.in-Header.version) c.args.self.now c.args.number c.args.line.now c.read.new.reader.values (item.Header c.in-Header.version)
    (subst IsDraft c.self.view_is c.self.invariant.0) c.in-Header.is c.in_ok-read.ensures refl

pub put-requires : goal.put-requires
put-requires c =
    let told = ap (says c.in-Values.word c.in-Values.version c.args.self.now c.args.number) (sym c.values.ensures) ∙ c.in_ok-item-in-Values.ensures in
    kind-may c.in_ok-read.field-0 (kind.Values c.in-Values.word c.in-Values.version) c.args.self.now c.args.number c.args.line.now c.read.new.reader.values c.in_ok-item-in-Values.item
    (subst IsDraft c.self.view_is c.self.invariant.0) c.in-Values.is c.in_ok-read.ensures told
