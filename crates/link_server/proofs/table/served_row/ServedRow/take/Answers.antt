-- The regulator answers the eligible tick; the packet and the row are those of the account.
use Rattle.link_server.specs.Planned.{left_in}
use Rattle.link_server.proofs.Words.{reservation_in}
use Rattle.link_server.proofs.Sourcing.Take.{tick-answered, packet-taken, row-taken}
use Rattle.link_server.proofs.table.served_row.ServedRow.take.Goals as goal

pub returns-clause-packet : goal.returns-clause-packet
returns-clause-packet c =
    packet-taken (reservation_in c.args.self.now) c.get.result c.args.self.now.lead c.lead_with-self.result c.args.place c.args.self.now.taken c.args.size c.args.clock _ c.admit-eligible.result
    c.get.ensures.value c.lead_with-self.ensures
    (tick-answered c.args.self.now.regulator (reservation_in c.args.self.now) c.args.clock c.args.due c.admit-eligible.result c.requires.hop c.args.self.now.regulates c.args.self.now.controls c.admit-eligible.ensures.value)

pub returns-clause-row : goal.returns-clause-row
returns-clause-row c =
    row-taken (reservation_in c.args.self.now) c.args.self.now.lead c.lead_with-self.result c.args.place c.args.self.now.taken (left_in c.args.self.now.planned) c.args.self.now.regulator c.admit-eligible.new.self _ c.admit-eligible.result
    c.lead_with-self.ensures c.args.self.now.regulates c.admit-eligible.ensures.kept
    (tick-answered c.args.self.now.regulator (reservation_in c.args.self.now) c.args.clock c.args.due c.admit-eligible.result c.requires.hop c.args.self.now.regulates c.args.self.now.controls c.admit-eligible.ensures.value)
