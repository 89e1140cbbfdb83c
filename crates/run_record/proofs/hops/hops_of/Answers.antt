use Rattle.std.proofs.Common.{◌≡◌, ◌+◌, ◌∷◌, [], ◌++◌, take, subst, take_all, refl}
use Rattle.std.proofs.lemmas.List.{take_more}
use Rattle.run_record.specs.Hops.{AreHops}
use Rattle.run_record.proofs.OfferPlaces.{no-table}
use Rattle.run_record.proofs.hops.hops_of.Goals as goal

pub loop-done-init : goal.loop-done-init
loop-done-init c = rw c.new-table.ensures.items no-table

pub loop-done-preserved : goal.loop-done-preserved
loop-done-preserved c =
    let more : take (c.loop-done.done-index + 1) c.args.entries.now ≡ take c.loop-done.done-index c.args.entries.now ++ c.done-item.result ∷ [] =
    rw (take_more c.args.entries.now c.loop-done.done-index c.done-item.result c.loop-done-test.true, ← c.done-item.is) refl in
    rw more (c.in_ok-note.ensures _ c.loop-done.invariant)

pub returns : goal.returns
returns c = subst (λ entries. AreHops entries c.loop-done.table.items) (take_all c.loop-done.done-index c.args.entries.now c.loop-done-test.false) c.loop-done.invariant
