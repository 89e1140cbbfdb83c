-- The bound of the offer is within the most, so a level is.
use Rattle.std.proofs.Common.{Option, Some, None, refl, arith}
use Rattle.std.specs.Prelude.{IsSome, IsNone}
use Rattle.link_server.proofs.Words.{level_number}
use Rattle.net_units.proofs.BoundsInOrder.{bound_at-rising}
use Rattle.link_server.proofs.table.rows.reach_of.Goals as goal

-- what isn't none is some
some-of : {X : Type 0} (o : Option X) → (IsNone o → ⊥) → IsSome o
some-of None never = absurd (never refl)
some-of (Some x) never = refl

pub unwrap-requires : goal.unwrap-requires
unwrap-requires c =
    let least = bound_at-rising c.args.bounds.now 1 (level_number c.args.offer) c.len-levels.ensures.valid (omega arith) c.args.offer.least c.requires in
    some-of c.within.result (λ none.
    let below = c.within.ensures.none.0 none in
    omega (arith, least, below, c.max-most.ensures, c.from.ensures, c.at.ensures.value))
