use Rattle.std.proofs.Common.{◌≡◌, length, take, drop}
use Rattle.line_forms.specs.Reading.{read_run}
use Rattle.line_forms.proofs.ReadOn.{values_before}
use Rattle.line_forms.proofs.reading.read_run.Given as goal

-- the values so far, before those of the fields that are left, are what all the fields say
abbrev pub invariant-loop-place : goal.invariant-loop-place
invariant-loop-place g l = record {
  rest : values_before l.values (read_run (g.K.Known.names l.known) l.before l.slot (drop l.place (take l.count (drop l.from l.fields)))) ≡ read_run (g.K.Known.names l.known) l.before l.slot (take l.count (drop l.from l.fields));
  counted : length l.values ≡ l.place;
}
