use Rattle.std.proofs.Common.{◌≤◌, length, sym}
use Rattle.std.proofs.lemmas.Bool.{ltb-false}
use Rattle.net_units.specs.Numbers.{channel_number}
use Rattle.run_record.proofs.OfferPlaces.{none-at}
use Rattle.run_record.proofs.hops.hop_at.Goals as goal

pub returns-in-None : goal.returns-in-None
returns-in-None c = λ entries are.
    let past : length c.args.table.now ≤ channel_number c.args.chan = rw (← c.get.ensures.value) (ltb-false _ _ (sym c.in-None.ensures.lookup.0)) in
    sym (none-at entries c.args.table.now _ _ are past c.args.link.small)
