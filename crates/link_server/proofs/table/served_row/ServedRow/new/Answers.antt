-- The regulator has answered no tick, and no packet is planned.
use Rattle.std.proofs.Common.{ℕ, List, [], ap}
use Rattle.link_server.proofs.Words.{AccountRow, Reservation, tentative}
use Rattle.link_steps.specs.Rows.{planned_from}
use Rattle.link_server.proofs.table.served_row.ServedRow.new.Goals as goal

-- a row without packets, whose newest ticks are these
abbrev with_recent : Reservation → List ℕ → AccountRow
with_recent terms recent = record { terms = terms; lead = 0; taken = 0; recent = recent; left = [] }

pub returns-clause-row : goal.returns-clause-row
unfolding planned_from
returns-clause-row c =
    ap (with_recent (tentative c.args.wanted.now.chan c.args.wanted.now.contract c.args.wanted.now.kind c.args.wanted.now.first c.args.wanted.now.next c.args.wanted.now.up_reach c.args.offer.now.level c.args.offer.now.reach))
    (ap (λ kept. kept.recent) c.in_ok-regulator.ensures.value)
