use Rattle.link_fill.proofs.RowsOfRequests.{held-few}
use Rattle.link_fill.proofs.crossing.see_few.Goals as goal

pub returns : goal.returns
returns c = held-few c.args.crossings.now
