use Rattle.std.proofs.Common.{refl}
use Rattle.byte_ends.proofs.mem_source.MemSourceSource.read.Goals as goal

pub returns-then-count_call-clause-reads : goal.returns-then-count_call-clause-reads
returns-then-count_call-clause-reads c =
    rw (← c.self.view_is) (record { keeps = refl; rises = rw c.count_call.ensures.after at c.count_fault.ensures.rises })
