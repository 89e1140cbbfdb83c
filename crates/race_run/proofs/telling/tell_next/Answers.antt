use Rattle.std.proofs.Common.{refl, arith}
use Rattle.call_script.specs.Tasks.{network_of}
use Rattle.race_run.specs.Telling.{weave_below}
use Rattle.race_run.proofs.Weave.ToldInOrder.{goes-told, next-seen, next-told, reads-inside, reads-next, stays-told, whole-few}
use Rattle.race_run.proofs.telling.tell_next.Goals as goal

pub returns-then-place-journals-clause-told : goal.returns-then-place-journals-clause-told
returns-then-place-journals-clause-told g c = λ stamp tells.
    stays-told g.W.Watch.saw c.args.plan.now c.args.journals.now c.args.told.now.items c.args.items.now.items c.args.watch.now c.args.place stamp tells (omega (arith, c.if-place-journals.true))

pub entry_at-entry-requires : goal.entry_at-entry-requires
entry_at-entry-requires g c =
    let stamp = c.requires.next.0 in
    let tells = c.requires.next.1 in
    let few = whole-few c.args.plan.now c.requires.whole.0 c.args.journals.now c.links-valid.ensures.valid c.requires.whole.1 in
    let next = next-told (network_of c.args.plan.now) c.requires.whole.0 c.args.journals.now c.args.place stamp c.requires.whole.1 few tells.number (omega (arith, c.if-place-journals.false)) in
    reads-inside (network_of c.args.plan.now) c.args.journals.now c.args.place stamp c.args.told.now.items c.index-journals-place.result c.index-at.result.now next tells.so_far.counts c.index-journals-place.is c.index-at.ensures

pub see-requires : goal.see-requires
see-requires g c =
    let stamp = c.requires.next.0 in
    let tells = c.requires.next.1 in
    let few = whole-few c.args.plan.now c.requires.whole.0 c.args.journals.now c.links-valid.ensures.valid c.requires.whole.1 in
    let next = next-told (network_of c.args.plan.now) c.requires.whole.0 c.args.journals.now c.args.place stamp c.requires.whole.1 few tells.number (omega (arith, c.if-place-journals.false)) in (
      weave_below stamp c.args.journals.now,
      next-seen g.W.Watch.saw c.args.plan.now c.args.journals.now c.args.told.now.items c.args.items.now.items c.args.watch.now c.args.place stamp _ c.links-valid.ensures.valid tells next
          (reads-next (network_of c.args.plan.now) c.args.journals.now c.args.place stamp c.args.told.now.items c.index-journals-place.result c.index-at.result.now c.entry_at-entry.result.now next tells.so_far.counts c.index-journals-place.is c.index-at.ensures c.entry_at-entry.ensures.here),
    )

pub returns-clause-told : goal.returns-clause-told
returns-clause-told g c = λ stamp tells.
    let few = whole-few c.args.plan.now c.requires.whole.0 c.args.journals.now c.links-valid.ensures.valid c.requires.whole.1 in
    let next = next-told (network_of c.args.plan.now) c.requires.whole.0 c.args.journals.now c.args.place stamp c.requires.whole.1 few tells.number (omega (arith, c.if-place-journals.false)) in
    let is = reads-next (network_of c.args.plan.now) c.args.journals.now c.args.place stamp c.args.told.now.items c.index-journals-place.result c.index-at.result.now c.entry_at-entry.result.now next tells.so_far.counts c.index-journals-place.is c.index-at.ensures c.entry_at-entry.ensures.here in
    goes-told g.W.Watch.saw c.args.plan.now c.args.journals.now c.args.told.now.items _ c.args.items.now.items c.add_turn.new.items.items c.args.watch.now c.see.new.watch c.args.place stamp c.index-at.result.now _ tells next c.index-at.ensures is refl c.in_ok-add_turn.ensures
    (c.in_ok-see.ensures.seen (weave_below stamp c.args.journals.now) (next-seen g.W.Watch.saw c.args.plan.now c.args.journals.now c.args.told.now.items c.args.items.now.items c.args.watch.now c.args.place stamp _ c.links-valid.ensures.valid tells next is))
