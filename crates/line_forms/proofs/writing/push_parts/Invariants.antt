use Rattle.std.proofs.Common.{◌≡◌, ◌++◌, string_bytes, drop}
use Rattle.line_forms.specs.Fields.{spaced}
use Rattle.line_forms.specs.Writing.{fields_said, fields_with}
use Rattle.line_forms.proofs.writing.push_parts.Given as goal

-- with the fields of the parts that are left, it is the line with all of them
abbrev pub invariant-loop-part : goal.invariant-loop-part
invariant-loop-part l = string_bytes l.line ++ spaced (fields_said (drop l.part-index l.parts) l.ones l.run) ≡ string_bytes l.initial.line ++ spaced (fields_with l.parts l.values)
