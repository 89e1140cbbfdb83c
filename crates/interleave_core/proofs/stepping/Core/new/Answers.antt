-- Nothing is recorded yet.
use Rattle.std.proofs.Common.{ap, [], reverse}
use Rattle.run_record.specs.Entries.{Entries}
use Rattle.interleave_core.proofs.Cores.{stands-by}
use Rattle.interleave_core.proofs.stepping.Core.new.Goals as goal

pub returns-clause-stands : goal.returns-clause-stands
returns-clause-stands c =
    stands-by c.args.plan.now (record { engine = c.in_ok-new.field-0; steps = c.new-2.result }) [] (ap (λ (e : Entries). reverse e.entries) c.new-2.ensures) c.in_ok-new.ensures
