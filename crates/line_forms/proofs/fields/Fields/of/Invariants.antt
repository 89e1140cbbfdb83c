use Rattle.std.proofs.Common.{◌≡◌, length, map}
use Rattle.line_forms.specs.FieldCells.{AreAtHand}
use Rattle.line_forms.specs.Fields.{are_fields}
use Rattle.line_forms.proofs.CutFields.{bytes}
use Rattle.line_forms.proofs.fields.Fields.of.Given as goal

-- the parts so far are at hand and counted, and it is known whether each of them is a field
abbrev pub invariant-loop-part : goal.invariant-loop-part
invariant-loop-part l = record {
  at_hand : AreAtHand (map bytes l.cells) (map bytes l.yielded);
  counted : l.count ≡ length l.yielded;
  written : l.written ≡ are_fields (map bytes l.yielded);
}
