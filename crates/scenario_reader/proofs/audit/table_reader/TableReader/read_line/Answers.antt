use Rattle.std.proofs.Common.{◌∙◌, rules, subst}
use Rattle.scenario_reader.specs.TableReading.{StandsAt}
use Rattle.scenario_reader.proofs.Auditing.TableReading.{after-line}
use Rattle.scenario_reader.proofs.audit.table_reader.TableReader.read_line.Goals as goal

pub invariant_of-self : goal.invariant_of-self
invariant_of-self c =
    let at = c.requires.at in
    let left = c.self.view_is ∙ at.is in
    let after = after-line c.self.inside.bytes.items c.args.line.now at.rest c.self.inside.read _ (search rules) left in
    let stands = subst (StandsAt c.self.inside.reader) left (c.self.invariant.1 after.0) in
    let read = c.read_record.ensures c.if-read_record.true at.rest stands in
    (after.1, λ more. subst (StandsAt c.read_record.new.reader) after.2 read.1)

pub returns-then-read_record : goal.returns-then-read_record
returns-then-read_record c =
    let at = c.requires.at in
    let left = c.self.view_is ∙ at.is in
    let after = after-line c.self.inside.bytes.items c.args.line.now at.rest c.self.inside.read _ (search rules) left in
    (c.read_record.ensures c.if-read_record.true at.rest (subst (StandsAt c.self.inside.reader) left (c.self.invariant.1 after.0))).0
