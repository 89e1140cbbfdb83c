use Rattle.scenario_reader.proofs.Auditing.TableReading.{AgreeUpTo}
use Rattle.scenario_reader.proofs.audit.table_reader.begins_with_line.Given as goal

-- the bytes so far agree
abbrev pub invariant-loop-mine : goal.invariant-loop-mine
invariant-loop-mine l = AgreeUpTo l.bytes l.line l.mine-iterator.a.rest.now l.mine-iterator.b.rest.now
