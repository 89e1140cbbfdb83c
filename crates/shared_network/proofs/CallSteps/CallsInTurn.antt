-- A pass that goes on after each of two calls goes on after both, and what both add is above all that it had seen before them. So
-- it is where nothing was called.
use Rattle.std.proofs.Common.{ℕ, ◌<◌, List, ◌++◌, [], ◌∷◌, refl, sym, ap, ◌∙◌, arith}
use Rattle.shared_network.proofs.Words.{append_assoc, append-nil, TableId, ActorNo, Link, Ask, Reply, known_of, Token, Steps, last_seen, OwnEntry}
use Rattle.link_steps.proofs.SearchAndFilter.{Each-if, Each-append}
use Rattle.step_stamp.proofs.ListMembers.{begins-itself, begins-then}
use Rattle.shared_network.specs.Added.{AddsAbove}
use Rattle.shared_network.specs.Ready.{MayStep, PassGoesOn}

-- ---- going on

module _ (table : TableId) (owners : List ActorNo) (links : List Link) where
  pub goes-none : (pass : Token) → MayStep table owners links pass → PassGoesOn table owners links pass pass
  goes-none pass may = record { may_step = may; among = refl; knew = λ l. begins-itself (known_of l pass.view) }

  pub goes-both : (pass between pass' : Token) → PassGoesOn table owners links pass between → PassGoesOn table owners links between pass' → PassGoesOn table owners links pass pass'
  goes-both pass between pass' one other = record {
    may_step = other.may_step;
    among = other.among ∙ one.among;
    knew = λ l. begins-then (known_of l pass.view) (known_of l between.view) (known_of l pass'.view) (one.knew l) (other.knew l);
  }

-- ---- stamps above what was seen

pub above-none : (pass : Token) → AddsAbove (last_seen pass) pass pass
above-none pass = record { entries = []; own = sym (append-nil pass.own); above = tt; seen = omega arith }

pub above-both : (least : ℕ) (pass between pass' : Token) → AddsAbove least pass between → AddsAbove (last_seen between) between pass' → AddsAbove least pass pass'
above-both least pass between pass' one other =
    let seen = one.seen in
    let more = other.seen in
    record {
      entries = one.entries ++ other.entries;
      own = other.own ∙ ap (λ own. own ++ other.entries) one.own ∙ append_assoc pass.own one.entries other.entries;
      above = Each-append (λ (e : OwnEntry). least < e.stamp) one.entries other.entries one.above
          (Each-if (λ (e : OwnEntry). last_seen between < e.stamp) (λ (e : OwnEntry). least < e.stamp) other.entries (λ e lt. omega (arith, lt, seen)) other.above);
      seen = omega (arith, seen, more);
    }

-- a step's entry has a stamp above all that the pass had seen
pub above-step : (links : List Link) (l : ℕ) (ask : Ask) (pass pass' : Token) (reply : Reply) → Steps links l ask pass pass' reply → AddsAbove (last_seen pass) pass pass'
above-step links l ask pass pass' reply steps =
    let above = steps.acted.above in
    let saw = steps.acted.saw in
    record { entries = steps.entry ∷ []; own = steps.own; above = (above, tt); seen = omega (arith, above, saw) }
