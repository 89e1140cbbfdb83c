use Rattle.std.proofs.Common.{ap, sym}
use Rattle.byte_ends.specs.Cutting.{Cutting}
use Rattle.byte_ends.specs.Held.{front_of}
use Rattle.byte_ends.proofs.lines.Lines.rest_of_block.Goals as goal

pub returns : goal.returns
returns c = record {
  front = front_of c.self.inside.whole c.self.inside.line.items;
  joined = rw c.rest.ensures.rest (sym (ap (λ (t : Cutting). t.pending) c.self.view_is));
  no_feed = c.self.invariant.no_feed;
}
