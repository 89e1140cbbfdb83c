-- Each row that is gone gives its part back, as the shares have it.
use Rattle.std.proofs.Common.{◌≡◌, suc, ◌+◌, take, false, Some, sym, ap, ◌∙◌, subst, arith}
use Rattle.std.proofs.lemmas.Option.{slice_get-get_or}
use Rattle.std.specs.Prelude.{not, is_some, slice_get}
use Rattle.std.proofs.lemmas.List.{take_all}
use Rattle.link_server.specs.Held.{reservations_held, seen_of}
use Rattle.link_quota.specs.Closing.{AreLowered}
use Rattle.link_quota.specs.Places.{HavePart, AreRaisedBy}
use Rattle.link_quota.proofs.ClosingShares.{lowered-none, lowered-more, lowered-same, part-gone}
use Rattle.link_quota.proofs.closing.give_back_expired.Goals as goal
use Rattle.link_quota.proofs.closing.give_back_expired.Goals.{then-is_none, else-is_none}

pub loop-place-init : goal.loop-place-init
loop-place-init c = lowered-none (record { shape = c.args.link.now.shape; split = c.args.split.now }) (reservations_held c.args.link.now) c.args.shares.now

pub give_back_row-requires-clause-part : goal.give_back_row-requires-clause-part
give_back_row-requires-clause-part c =
    let at : slice_get c.args.rows.now c.loop-place.place ≡ Some c.index-rows-place.result = slice_get-get_or c.args.rows.now c.loop-place.place c.index-rows-place.result c.loop-place-test.true ∙ ap Some (sym c.index-rows-place.is) in
    let gone : is_some (seen_of c.args.link.now.shape.bounds (reservations_held c.args.link.now) c.index-rows-place.result.chan) ≡ false = sym (ap is_some c.held_of.ensures.row) ∙ c.is_none.ensures ∙ ap not c.if-is_none.true in
    subst (λ s. HavePart (record { shape = s; split = c.args.split.now }) c.index-rows-place.result c.loop-place.shares) (sym c.shape-shape.ensures)
    (part-gone (record { shape = c.args.link.now.shape; split = c.args.split.now }) (reservations_held c.args.link.now) c.args.rows.now c.loop-place.place c.index-rows-place.result c.args.shares.now c.loop-place.shares at gone c.requires.parts c.loop-place.invariant)

pub loop-place-preserved : goal.loop-place-preserved
loop-place-preserved c =
    let next : suc c.loop-place.place ≡ c.loop-place.place + 1 = omega arith in
    let at : slice_get c.args.rows.now c.loop-place.place ≡ Some c.index-rows-place.result = slice_get-get_or c.args.rows.now c.loop-place.place c.index-rows-place.result c.loop-place-test.true ∙ ap Some (sym c.index-rows-place.is) in
    let held : is_some (seen_of c.args.link.now.shape.bounds (reservations_held c.args.link.now) c.index-rows-place.result.chan) ≡ not c.is_none.result = sym (ap is_some c.held_of.ensures.row) ∙ c.is_none.ensures in
    subst (λ n. AreLowered (record { shape = c.args.link.now.shape; split = c.args.split.now }) (reservations_held c.args.link.now) (take n c.args.rows.now) c.args.shares.now c.if-is_none.shares) next
    (elim c.if-is_none.branch [
      | then-is_none w ↦
          subst (AreLowered (record { shape = c.args.link.now.shape; split = c.args.split.now }) (reservations_held c.args.link.now) (take (suc c.loop-place.place) c.args.rows.now) c.args.shares.now) (sym w.shares-is)
          (lowered-more (record { shape = c.args.link.now.shape; split = c.args.split.now }) (reservations_held c.args.link.now) c.args.rows.now c.loop-place.place c.index-rows-place.result c.args.shares.now c.loop-place.shares _ at (held ∙ ap not w.if-is_none.true) c.loop-place.invariant
          (subst (λ s. AreRaisedBy (record { shape = s; split = c.args.split.now }) c.index-rows-place.result w.give_back_row.new.shares c.loop-place.shares) c.shape-shape.ensures w.give_back_row.ensures))
      | else-is_none w ↦
          subst (AreLowered (record { shape = c.args.link.now.shape; split = c.args.split.now }) (reservations_held c.args.link.now) (take (suc c.loop-place.place) c.args.rows.now) c.args.shares.now) (sym w.shares-is)
          (lowered-same (record { shape = c.args.link.now.shape; split = c.args.split.now }) (reservations_held c.args.link.now) c.args.rows.now c.loop-place.place c.index-rows-place.result c.args.shares.now c.loop-place.shares at (held ∙ ap not w.if-is_none.false) c.loop-place.invariant)
    ])

pub returns : goal.returns
returns c =
    subst (λ rows. AreLowered (record { shape = c.args.link.now.shape; split = c.args.split.now }) (reservations_held c.args.link.now) rows c.args.shares.now c.loop-place.shares)
    (take_all c.loop-place.place c.args.rows.now c.loop-place-test.false)
    c.loop-place.invariant
