-- A new record has seen nothing.
use Rattle.std.proofs.Common.{reverse, ap}
use Rattle.run_record.specs.Entries.{Entries}
use Rattle.plane_workers_tests.proofs.tests.one_link.actors_seen.Goals as goal

pub played_watched-played-requires-clause-fresh : goal.played_watched-played-requires-clause-fresh
played_watched-played-requires-clause-fresh g c κs within = ap (λ (e : Entries). reverse e.entries) c.new-seen.ensures
