use Rattle.std.proofs.Common.{◌∙◌, ap, option_map, sym}
use Rattle.csv.specs.Records.{fields_of}
use Rattle.scenario_reader.proofs.Auditing.TableReading.{field-is, field-missing}
use Rattle.scenario_reader.proofs.audit.row.column.Goals as goal

pub returns-in-Some : goal.returns-in-Some
returns-in-Some c = field-is (fields_of c.args.fields.now) c.args.place c.in-Some.field.now (sym c.get.ensures.value ∙ ap (option_map (λ field. field.now)) c.in-Some.is)

pub returns-in-None : goal.returns-in-None
returns-in-None c = field-missing (fields_of c.args.fields.now) c.args.place (sym c.get.ensures.value ∙ ap (option_map (λ field. field.now)) c.in-None.is)
