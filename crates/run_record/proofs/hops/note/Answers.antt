use Rattle.std.proofs.Common.{◌≡◌, ◌<◌, length, sym}
use Rattle.std.proofs.lemmas.List.{get_or_read}
use Rattle.net_units.specs.Numbers.{channel_number}
use Rattle.run_record.specs.Hops.{no_hops}
use Rattle.run_record.proofs.OfferPlaces.{hops-more, hops-kept}
use Rattle.run_record.proofs.hops.note.Goals as goal

pub returns-in_ok-grow-in-Some : goal.returns-in_ok-grow-in-Some
returns-in_ok-grow-in-Some c = λ before are.
    let at : c.get.result ≡ channel_number c.in-Some.chan = c.get.ensures.value in
    let inside : c.get.result < length c.grow.new.table.items = rw at c.in_ok-grow-in-Some.ensures.place in
    let read = get_or_read c.grow.new.table.items c.get.result c.index_mut.result.now inside c.index_mut.ensures.value no_hops in
    rw at
    (hops-more before c.args.done.now c.in-Some.chan c.args.table.now.items c.grow.new.table.items c.index_mut.result.now c.add.new.self (sym c.in-Some.ensures) are c.in_ok-grow-in-Some.ensures.same
    c.in_ok-grow-in-Some.ensures.place (rw (← at) read) c.add.ensures)

pub returns-in-None : goal.returns-in-None
returns-in-None c = λ before are. hops-kept before c.args.done.now c.args.table.now.items (sym c.in-None.ensures) are
