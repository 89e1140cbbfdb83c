use Rattle.std.proofs.Common.{◌≡◌, ◌++◌, ◌≤◌, ℕ, suc, drop, filter}
use Rattle.link_steps.specs.Lists.{Each}
use Rattle.tick_plane.specs.Coming.{IsDueFrom, Rise, arrivals_in}
use Rattle.tick_plane.specs.Planes.{is_due}
use Rattle.tick_plane.proofs.window.add_arrivals.Given as goal

-- the flights before the place have arrived
abbrev pub invariant-loop-place : goal.invariant-loop-place
invariant-loop-place l = record {
  arrived : l.asks.items ++ arrivals_in l.round (drop l.place l.coming) ≡ l.initial.asks.items ++ arrivals_in l.round (drop l.first l.coming);
  rise : Rise (drop l.place l.coming);
  ahead : Each (IsDueFrom l.round) (drop l.place l.coming);
  later : (later : ℕ) → suc l.round ≤ later → filter (is_due later) (drop l.place l.coming) ≡ filter (is_due later) (drop l.first l.coming);
}
