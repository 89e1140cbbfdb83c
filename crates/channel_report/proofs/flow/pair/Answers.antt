-- A tick's reply tells the row of the packet that is sent.
use Rattle.std.proofs.Common.{◌++◌, sym, subst}
use Rattle.run_record.specs.Rows.{rows_by}
use Rattle.channel_report.specs.Flows.{AreFlows}
use Rattle.channel_report.proofs.LinesByItem.{on-ok}
use Rattle.channel_report.proofs.flow.pair.Goals as goal

pub returns-in-Ticked : goal.returns-in-Ticked
returns-in-Ticked c =
    on-ok c.pair_left.result c.pair_left.ensures (λ goes requests rows whole are.
    subst (λ reply. AreFlows requests (rows_by whole c.args.link reply ++ rows) c.pair_left.new.flows.items) (sym c.in-Ticked.is) (goes requests rows whole are))
