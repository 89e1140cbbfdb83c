use Rattle.run_engine.proofs.Flights.Punctual.{flights-of-runs}
use Rattle.interleave_core.proofs.laws.no_flight_is_late.Goals as goal

pub returns : goal.returns
returns c = flights-of-runs
