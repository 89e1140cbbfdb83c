-- Each turn gives a hop its share, before the hops after it.
use Rattle.std.proofs.Common.{◌≡◌, ◌-◌, ◌/◌, ◌≤◌, ◌∷◌, length, map, take, drop, get_or, subst, sym, refl, ◌∙◌, ap, arith}
use Rattle.std.proofs.Math.Nat.{div-le_self}
use Rattle.std.proofs.lemmas.List.{length-set}
use Rattle.net_units.specs.Numbers.{level_number}
use Rattle.net_units.specs.LevelBounds.{bound_at}
use Rattle.relaxation.specs.Allotment.{allotment, limit_before, relaxed}
use Rattle.relaxation.specs.Laws.{HaveBounds}
use Rattle.relaxation.proofs.SlackShares.{bound-in_delay, limit-last, limit-none, limit-kept, share-step, allotment-none, put-none, put-one, bounds-none, bounds-one}
use Rattle.relaxation.proofs.share_out.Goals as goal

pub loop-place-init : goal.loop-place-init
loop-place-init c =
    let n : length c.args.it.now.levels ≤ c.offers-place.result = omega (arith, c.offers-place.ensures.value) in
    let none = allotment-none c.args.jitter c.args.slack c.args.it.now.route c.args.it.now.levels c.offers-place.result n in
    record {
      in_route = omega (arith, c.offers-place.ensures.value);
      left = sym (ap (λ a. a.slack) none);
      levels = put-none _ (length c.args.it.now.levels) c.offers-place.result n ∙ sym (ap (λ a. a.levels) none);
      limit = sym (limit-last c.args.jitter c.args.it.now.levels c.offers-place.result n);
      less = omega arith;
      size = refl;
      bounds = bounds-none c.args.it.now.route c.offers-place.result (omega (arith, c.offers-place.ensures.value, c.requires.whole));
    }

pub offer-offer-requires-clause-last : goal.offer-offer-requires-clause-last
offer-offer-requires-clause-last c = c.loop-place.invariant.in_route

pub within_share-level-requires-clause-fits : goal.within_share-level-requires-clause-fits
within_share-level-requires-clause-fits c =
    let within = bound-in_delay c.args.it.now.route c.args.it.now.levels (c.loop-place.place - 1) c.offer-offer.result.hop c.offer-offer.ensures.hop (omega (arith, c.loop-place-test.true, c.loop-place.invariant.in_route)) in
    let level = ap (bound_at c.offer-offer.result.hop.bounds) c.offer-offer.ensures.level in
    omega (arith, within, level, c.requires.fits, c.loop-place.invariant.less, div-le_self c.loop-place.left c.from.result)

pub within_share-level-requires-clause-limit : goal.within_share-level-requires-clause-limit
within_share-level-requires-clause-limit c most is =
    let kept = limit-kept c.args.jitter c.args.it.now.route c.args.it.now.levels c.loop-place.place c.offer-offer.result.hop c.loop-place-test.true c.loop-place.invariant.in_route c.offer-offer.ensures.hop c.requires.jitter in
    let level = ap (bound_at c.offer-offer.result.hop.bounds) c.offer-offer.ensures.level in
    omega (arith, level, kept most (sym c.loop-place.invariant.limit ∙ is))

pub loop-place-preserved : goal.loop-place-preserved
loop-place-preserved c =
    let hops = c.args.it.now.route in
    let offers = c.args.it.now.levels in
    let place = c.loop-place.place in
    let hop = c.offer-offer.result.hop in
    let after = allotment c.args.jitter c.args.slack place (drop place hops) (drop place offers) in
    let level : level_number c.within_share-level.result ≡ relaxed (limit_before c.args.jitter (drop place offers)) hop (get_or offers (place - 1) 0) (after.slack / place) =
    c.within_share-level.ensures.value
    ∙ ap (λ l. relaxed l hop (level_number c.offer-offer.result.level) (c.loop-place.left / c.from.result)) c.loop-place.invariant.limit
    ∙ ap (λ o. relaxed (limit_before c.args.jitter (drop place offers)) hop o (c.loop-place.left / c.from.result)) c.offer-offer.ensures.level
    ∙ ap (λ s. relaxed (limit_before c.args.jitter (drop place offers)) hop (get_or offers (place - 1) 0) (s / c.from.result)) c.loop-place.invariant.left
    ∙ ap (λ p. relaxed (limit_before c.args.jitter (drop place offers)) hop (get_or offers (place - 1) 0) (after.slack / p)) c.from.ensures in
    let step = share-step c.args.jitter c.args.slack hops offers place hop (level_number c.offer-offer.result.level) (level_number c.within_share-level.result) c.loop-place.left
    c.loop-place-test.true c.loop-place.invariant.in_route c.offer-offer.ensures.hop c.offer-offer.ensures.level c.loop-place.invariant.left level in
    let bounds : c.from-in-loop-place.result - c.bound_of.result ≡ bound_at hop.bounds (level_number c.within_share-level.result) - bound_at hop.bounds (level_number c.offer-offer.result.level) =
    omega (arith, c.from-in-loop-place.ensures, c.at.ensures.value, c.bound_of.ensures.value) in
    record {
      in_route = omega (arith, c.loop-place.invariant.in_route);
      left = ap (λ b. c.loop-place.left - b) bounds ∙ step.0;
      levels = put-one c.loop-place.levels (length offers) place c.within_share-level.result c.loop-place-test.true c.loop-place.invariant.in_route (omega (arith, c.loop-place.invariant.size, c.offers-place.ensures.value, c.offers-place.ensures.in_route, c.offers-place.ensures.valid.most))
          ∙ ap (λ ls. level_number c.within_share-level.result ∷ ls) c.loop-place.invariant.levels ∙ step.1;
      limit = sym (limit-none c.args.jitter offers (place - 1) (omega (arith, c.loop-place-test.true, c.loop-place.invariant.in_route)));
      less = omega (arith, c.loop-place.invariant.less);
      size = length-set c.loop-place.levels (place - 1) c.within_share-level.result ∙ c.loop-place.invariant.size;
      bounds = bounds-one hops place hop c.loop-place-test.true c.offer-offer.ensures.hop c.bound_of.ensures.valid c.loop-place.invariant.bounds;
    }

pub returns-clause-levels : goal.returns-clause-levels
returns-clause-levels c =
    let hops = c.args.it.now.route in
    let offers = c.args.it.now.levels in
    let first : c.loop-place.place ≡ 0 = omega (arith, c.loop-place-test.false) in
    let all : map level_number (take (length offers - 0) (drop 0 c.loop-place.levels)) ≡ (allotment c.args.jitter c.args.slack 0 (drop 0 hops) (drop 0 offers)).levels =
    subst (λ p. map level_number (take (length offers - p) (drop p c.loop-place.levels)) ≡ (allotment c.args.jitter c.args.slack p (drop p hops) (drop p offers)).levels) first c.loop-place.invariant.levels in
    let count : c.offers.result ≡ length offers - 0 = omega (arith, c.offers.ensures.value) in
    c.put.ensures ∙ ap (λ n. map level_number (take n c.loop-place.levels)) count ∙ all

pub returns-clause-offers : goal.returns-clause-offers
returns-clause-offers c = c.offers.ensures.levels

pub returns-clause-bounds : goal.returns-clause-bounds
returns-clause-bounds c =
    let first : c.loop-place.place ≡ 0 = omega (arith, c.loop-place-test.false) in
    subst (λ p. HaveBounds (drop p c.args.it.now.route)) first c.loop-place.invariant.bounds
