use Rattle.std.proofs.Common.{refl}
use Rattle.byte_ends.proofs.mem_sink.MemSinkSink.write.Goals as goal

pub returns-then-count_call-clause-writes : goal.returns-then-count_call-clause-writes
returns-then-count_call-clause-writes c =
    rw (← c.self.view_is) (record { keeps = refl; rises = rw c.count_call.ensures.after at c.count_fault.ensures.rises })
