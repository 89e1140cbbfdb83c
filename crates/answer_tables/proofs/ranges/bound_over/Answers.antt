use Rattle.std.proofs.Common.{◌≡◌, ℕ, ◌+◌, ◌-◌, Some, subst, arith}
use Rattle.std.specs.List.{slice_get}
use Rattle.answer_tables.proofs.BoundsOver.{hop-more}
use Rattle.answer_tables.proofs.ranges.bound_over.Goals as goal

pub loop-index-preserved : goal.loop-index-preserved
loop-index-preserved c =
    let back : c.loop-index.index + 1 - 1 ≡ c.loop-index.index = omega arith in
    let found : slice_get c.args.route.now c.loop-index.index ≡ Some c.hop.result = subst (λ (n : ℕ). slice_get c.args.route.now n ≡ Some c.hop.result) back c.hop.ensures.value in
    record {
      over = c.bound_at_hop-least.ensures.over;
      most = omega (arith, c.bound_at_hop-least.ensures.most, c.loop-index.invariant.most);
      least = hop-more c.args.route.now c.loop-index.index c.args.ticks c.loop-index.least c.bound_at_hop-least.result c.hop.result found c.bound_at_hop-least.ensures.most c.loop-index.invariant.least c.bound_at_hop-least.ensures.least;
    }
