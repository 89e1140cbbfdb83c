use Rattle.route_finder.proofs.TableRows.{HasTable}
use Rattle.route_finder.proofs.least.Least.new.Given as goal

-- the rows for up to so many links are there
abbrev pub invariant-loop-links : goal.invariant-loop-links
invariant-loop-links l = HasTable l.edges l.to l.links l.rows.items
