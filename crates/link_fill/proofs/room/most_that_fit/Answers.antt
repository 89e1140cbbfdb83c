-- The number in the middle fits, or it doesn't: the rows that are tried are the front of all that there may be.
use Rattle.std.proofs.Common.{◌+◌, ◌-◌, ◌/◌, ◌≤◌, length, take, ap, ◌∙◌, subst, arith}
use Rattle.net_units.specs.Numbers.{level_number}
use Rattle.link_fill.specs.Fills.{AllHold, OneExceeds}
use Rattle.link_fill.proofs.RowsOfRequests.{front-of-more}
use Rattle.link_fill.proofs.room.most_that_fit.Goals as goal

pub loop-fit-preserved-then-do_fit : goal.loop-fit-preserved-then-do_fit
loop-fit-preserved-then-do_fit c =
    let inside = c.loop-fit-test.true in
    let within = c.loop-fit.invariant.within in
    let middle = c.loop-fit.fit + (c.loop-fit.over - c.loop-fit.fit) / 2 in
    let room : middle ≤ 1024 - length c.args.rows.now = omega (arith, inside, within) in
    let front = ap (take (length c.args.rows.now + middle)) c.requires.all ∙ front-of-more c.args.rows.now c.args.row.now middle (1024 - length c.args.rows.now) room in
    record {
      apart = omega (arith, inside);
      within = within;
      fits = λ some. subst (λ rows. AllHold c.args.share.now rows (level_number c.args.row.now.level)) front (c.do_fit.ensures.fit c.if-do_fit.true);
      full = c.loop-fit.invariant.full;
    }

pub loop-fit-preserved : goal.loop-fit-preserved
loop-fit-preserved c =
    let inside = c.loop-fit-test.true in
    let within = c.loop-fit.invariant.within in
    let middle = c.loop-fit.fit + (c.loop-fit.over - c.loop-fit.fit) / 2 in
    let room : middle ≤ 1024 - length c.args.rows.now = omega (arith, inside, within) in
    let front = ap (take (length c.args.rows.now + middle)) c.requires.all ∙ front-of-more c.args.rows.now c.args.row.now middle (1024 - length c.args.rows.now) room in
    record {
      apart = omega (arith, inside);
      within = omega (arith, room);
      fits = c.loop-fit.invariant.fits;
      full = λ some. subst (λ rows. OneExceeds c.args.share.now rows (level_number c.args.row.now.level)) front (c.do_fit.ensures.not c.if-do_fit.false);
    }
