-- No link has made an offer yet.
use Rattle.run_record.proofs.OfferPlaces.{no-table}
use Rattle.run_record.proofs.hop_table.HopTable.new.Goals as goal

pub returns : goal.returns
returns c = rw c.new-channels.ensures.items no-table
