use Rattle.std.proofs.Common.{◌≡◌, ◌++◌, string_bytes, map, drop}
use Rattle.line_forms.specs.Fields.{spaced}
use Rattle.line_forms.specs.Values.{field_of}
use Rattle.line_forms.proofs.writing.push_run.Given as goal

-- with the values that are left, it is the line with all of them
abbrev pub invariant-loop-value : goal.invariant-loop-value
invariant-loop-value l = string_bytes l.line ++ spaced (map field_of (drop l.value-index l.values)) ≡ string_bytes l.initial.line ++ spaced (map field_of l.values)
