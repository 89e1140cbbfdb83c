-- The tick at a place is the newest of those from that place on.
use Rattle.regulator_core.proofs.LatestOfThree.{first_after-found, first_after-none}
use Rattle.regulator_core.proofs.regulator.first_after_place.Goals as goal

pub returns-in-Some : goal.returns-in-Some
returns-in-Some c =
    rw c.from.ensures (first_after-found c.args.least c.args.place c.in-Some.tick.now c.args.recent.now.items (let found = rw c.in-Some.is at c.get.ensures in cc))

pub returns-in-None : goal.returns-in-None
returns-in-None c =
    first_after-none c.args.least c.args.place c.args.recent.now.items (let none = rw c.in-None.is at c.get.ensures in cc)
