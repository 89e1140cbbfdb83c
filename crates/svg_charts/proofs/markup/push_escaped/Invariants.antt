use Rattle.std.proofs.Common.{◌≡◌, ◌++◌, take}
use Rattle.svg_charts.specs.Escapes.{escaped}
use Rattle.svg_charts.proofs.markup.push_escaped.Given as goal

abbrev pub invariant-loop-byte : goal.invariant-loop-byte
invariant-loop-byte l = l.bytes.items ≡ l.fn.bytes.items ++ escaped (take l.byte-index l.text)
