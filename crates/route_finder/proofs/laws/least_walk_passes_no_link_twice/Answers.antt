use Rattle.route_finder.proofs.NoLinkTwice.{passes-no-link-twice}
use Rattle.route_finder.proofs.laws.least_walk_passes_no_link_twice.Goals as goal

pub returns : goal.returns
returns c = passes-no-link-twice
