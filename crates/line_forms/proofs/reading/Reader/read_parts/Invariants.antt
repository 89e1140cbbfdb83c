use Rattle.std.proofs.Common.{◌≡◌, drop}
use Rattle.line_forms.specs.Reading.{read_parts}
use Rattle.line_forms.proofs.ReadOn.{goes_on, Stands}
use Rattle.line_forms.proofs.reading.Reader.read_parts.Given as goal

-- what was read, before what the parts that are left say, is what all parts say
abbrev pub invariant-loop-part : goal.invariant-loop-part
invariant-loop-part g l = record {
  rest : goes_on (g.K.Known.names l.known) (drop l.part-index l.form) l.fields l.self ≡ read_parts (g.K.Known.names l.known) 0 l.form l.fields;
  stands : Stands (drop l.part-index l.form) l.fields l.self;
}
