use Rattle.std.proofs.Common.{◌+◌, sym, ap, ◌∙◌, subst, arith}
use Rattle.net_units.specs.Numbers.{actor_number}
use Rattle.step_stamp.specs.declared.views.View.{View}
use Rattle.step_stamp.specs.Opening.{IsFirst}
use Rattle.step_stamp.specs.Views.{new_pass, less_actor}
use Rattle.step_stamp.proofs.OpeningSteps.{first-less_actor, no-passes, passes-more}
use Rattle.step_stamp.proofs.stamps.Stamps.pass_seats.Goals as goal

pub loop-n-init : goal.loop-n-init
loop-n-init c = (no-passes _ _ _ c.new-seats.ensures.items, c.requires.first.0, c.requires.first.1, c.requires.table)

pub pass_seat-seat-requires-clause-mine : goal.pass_seat-seat-requires-clause-mine
pass_seat-seat-requires-clause-mine c =
    let i = c.loop-n.invariant in
    let is = c.in-Some.ensures.value in
    let lt = c.loop-n-test.true in
    i.1.actors_left _ (omega (arith, is)) (omega (arith, is, lt))

pub loop-n-preserved : goal.loop-n-preserved
loop-n-preserved c =
    let i = c.loop-n.invariant in
    let k = c.loop-n.n in
    let is = c.in-Some.ensures.value in
    let made = c.pass_seat-seat.ensures in
    let v : View = c.loop-n.first.me.0 in
    let first : IsFirst c.args.links c.args.actors c.args.links (k + 1) c.pass_seat-seat.new.first.me.0 =
    subst (IsFirst c.args.links c.args.actors c.args.links (k + 1)) (sym (ap (λ m. m.0) made.first.1 ∙ ap (λ n. less_actor n v) is)) (first-less_actor c.args.links c.args.actors c.args.links k v i.1) in (
      passes-more _ k c.args.links c.args.actors c.args.links _ _ _ v i.0 c.in_ok-push.ensures.items (ap actor_number made.seat.1 ∙ is) made.seat.0 (made.seat.2 ∙ ap (λ n. new_pass n v) is) i.1,
      first,
      ap (λ m. m.1) made.first.1 ∙ i.2,
      made.first.0 ∙ i.3,
    )
