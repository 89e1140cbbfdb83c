use Rattle.std.proofs.Common.{◌+◌, sym, ap, ◌∙◌, subst, arith}
use Rattle.net_units.specs.Numbers.{link_number}
use Rattle.step_stamp.specs.declared.views.View.{View}
use Rattle.step_stamp.specs.Opening.{IsFirst}
use Rattle.step_stamp.specs.Views.{new_link, less_link}
use Rattle.step_stamp.proofs.OpeningSteps.{first-less_link, no-links, links-more}
use Rattle.step_stamp.proofs.stamps.Stamps.link_seats.Goals as goal

pub loop-n-init : goal.loop-n-init
loop-n-init c = (no-links _ _ _ c.new-seats.ensures.items, c.requires.first.0, c.requires.first.1, c.requires.table)

pub link_seat-seat-requires-clause-mine : goal.link_seat-seat-requires-clause-mine
link_seat-seat-requires-clause-mine c =
    let i = c.loop-n.invariant in
    let is = c.in-Some.ensures.value in
    let lt = c.loop-n-test.true in
    i.1.links_left _ (omega (arith, is)) (omega (arith, is, lt))

pub loop-n-preserved : goal.loop-n-preserved
loop-n-preserved c =
    let i = c.loop-n.invariant in
    let k = c.loop-n.n in
    let is = c.in-Some.ensures.value in
    let made = c.link_seat-seat.ensures in
    let v : View = c.loop-n.first.me.0 in
    let first : IsFirst c.args.links c.args.actors (k + 1) 0 c.link_seat-seat.new.first.me.0 =
    subst (IsFirst c.args.links c.args.actors (k + 1) 0) (sym (ap (λ m. m.0) made.first.1 ∙ ap (λ n. less_link n v) is)) (first-less_link c.args.links c.args.actors k 0 v i.1) in (
      links-more _ k c.args.links c.args.actors 0 _ _ _ v i.0 c.in_ok-push.ensures.items (ap link_number made.seat.1 ∙ is) made.seat.0 (made.seat.2 ∙ ap (λ n. new_link n v) is) i.1,
      first,
      ap (λ m. m.1) made.first.1 ∙ i.2,
      made.first.0 ∙ i.3,
    )
