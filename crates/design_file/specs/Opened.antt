-- What callers open: those that are made already, and one more that does these operations so far.
use Rattle.std.specs.Prelude.{List, ◌++◌, length}
use Rattle.call_script.specs.Parts.{Opening, openings_in, openings_of}
use Rattle.call_script.specs.declared.entries.CallerEntry.{CallerEntry}
use Rattle.call_script.specs.declared.operations.Op.{Op}

unfoldable pub opened_so_far : List CallerEntry → List Op → List Opening
opened_so_far callers ops = openings_of 0 callers ++ openings_in (length callers) ops
