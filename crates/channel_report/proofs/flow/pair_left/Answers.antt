-- The reply tells one row, of the packet that is sent.
use Rattle.std.proofs.Common.{◌++◌, sym, subst}
use Rattle.net_units.specs.Numbers.{channel_number}
use Rattle.run_record.specs.Rows.{links_of, row_by}
use Rattle.channel_report.specs.Flows.{AreFlows}
use Rattle.channel_report.proofs.LinesByItem.{on-ok}
use Rattle.channel_report.proofs.flow.pair_left.Goals as goal

pub returns-in-Some : goal.returns-in-Some
returns-in-Some c =
    let told = c.in-Some in
    on-ok c.pair_sent.result c.pair_sent.ensures (λ goes requests rows whole are.
    subst (λ sent. AreFlows requests (row_by whole c.args.link c.args.clock sent ++ rows) c.pair_sent.new.flows.items) (sym told.is) (goes requests rows (links_of (channel_number told.sent.packet.chan) whole) are))
