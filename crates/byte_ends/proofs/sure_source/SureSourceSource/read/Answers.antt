use Rattle.std.proofs.Common.{drop, ◌+◌, arith, length-append, length-drop, ◌∙◌}
use Rattle.std.proofs.lemmas.List.{take_at, drop-drop}
use Rattle.std.proofs.lemmas.Grind.{common_steps}
use Rattle.byte_ends.proofs.Supplying.{Takes-supplied}
use Rattle.byte_ends.proofs.sure_source.SureSourceSource.read.Goals as goal

pub returns-clause-reads : goal.returns-clause-reads
returns-clause-reads c =
    Takes-supplied c.min-count.result 0 c.args.self.now (record { left = drop (c.self.inside.at + c.min-count.result) c.self.inside.bytes.items; most = c.self.inside.most }) _
    (rw (← c.self.view_is) (record {
      some = omega arith;
      count = grind (arith, common_steps, length-append, length-drop);
      moved = take_at c.copy_from_slice.new.self _ _ (grind (arith, common_steps)) ∙ grind (arith, common_steps);
      rest = simp drop-drop;
    }))
