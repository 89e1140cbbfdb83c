use Rattle.scenario_reader.proofs.Auditing.TableReading.{line-read}
use Rattle.scenario_reader.proofs.audit.table_reader.read_record.Goals as goal

pub returns : goal.returns
returns c = λ ok.
    line-read c.args.reader.now c.read_byte_record.new.self c.read_byte_record.result c.args.line.now _ c.requires
    c.read_byte_record.ensures.reads c.read_byte_record.ensures.ready (rw c.is_ok.ensures.value at ok)
