-- The hop gets a level, since its first bound is no more than the one that it has offered.
use Rattle.std.proofs.Common.{◌+◌, refl, ◌∙◌, ap, arith}
use Rattle.net_units.specs.Numbers.{level_number}
use Rattle.net_units.specs.LevelBounds.{bound_at, levels_within}
use Rattle.net_units.proofs.BoundsInOrder.{bound_at-rising}
use Rattle.relaxation.specs.Allotment.{capped}
use Rattle.relaxation.proofs.HopAllotment.{up_to-least, relaxed-level}
use Rattle.relaxation.proofs.within_share.Goals as goal

pub returns-clause-least : goal.returns-clause-least
returns-clause-least c =
    let fits = relaxed-level c.args.limit c.args.offer.now.hop (level_number c.args.offer.now.level) c.args.share c.bound_of.ensures.valid c.requires.level c.requires.limit in
    let far = c.cut-within.ensures ∙ ap (λ b. capped c.args.limit (b + c.args.share)) c.bound_of.ensures.value in
    rw (c.in-Some.ensures.value ∙ ap (levels_within c.args.offer.now.hop.bounds) far) fits.no_sooner

pub unreachable-requires : goal.unreachable-requires
unreachable-requires c =
    let bounds = c.args.offer.now.hop.bounds in
    let offer = level_number c.args.offer.now.level in
    let far = c.cut-within.ensures ∙ ap (λ b. capped c.args.limit (b + c.args.share)) c.bound_of.ensures.value in
    let fits = up_to-least c.args.limit (bound_at bounds offer) (bound_at bounds offer + c.args.share) c.requires.limit (omega arith) in
    let first = bound_at-rising bounds 1 offer c.bound_of.ensures.valid (omega arith) c.requires.level.least c.requires.level.most in
    absurd (omega (arith, c.within.ensures.none.0 (rw c.in-None.is refl), far, fits, first))
