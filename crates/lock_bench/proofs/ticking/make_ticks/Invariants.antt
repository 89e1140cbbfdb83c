use Rattle.std.proofs.Common.{◌≡◌, length}
use Rattle.net_units.specs.Numbers.{link_number}
use Rattle.lock_bench.specs.Ready.{MayTick}
use Rattle.lock_bench.proofs.ticking.make_ticks.Given as goal

abbrev pub invariant-loop : goal.invariant-loop
invariant-loop g l = MayTick g.H.Home.table g.H.Home.links (link_number l.link.link) l.pass × (length l.pass.view.drawn ≡ l.counter)
