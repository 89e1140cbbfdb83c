use Rattle.std.proofs.Common.{◌≡◌, take}
use Rattle.line_forms.specs.Decimal.{value_of}
use Rattle.line_forms.proofs.number.value_of.Given as goal

-- the value so far is that of the digits so far
abbrev pub invariant-loop-digit : goal.invariant-loop-digit
invariant-loop-digit l = l.value ≡ value_of (take l.digit-index l.digits)
