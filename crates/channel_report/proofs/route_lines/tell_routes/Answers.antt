use Rattle.std.proofs.Common.{refl}
use Rattle.channel_report.specs.Routes.{found_line}
use Rattle.text_writer.proofs.TextsTold.{item-failed, item-told}
use Rattle.channel_report.proofs.route_lines.tell_routes.Goals as goal

pub returns-in_err-tell_route : goal.returns-in_err-tell_route
returns-in_err-tell_route g c =
    item-failed (found_line c.args.links.now) c.args.requests.now c.loop-entry.entry-index c.entry-item.result (found_line c.args.links.now c.entry-item.result) _ (g.K.Sink.written c.loop-entry.sink) _ c.args.gather.now c.loop-entry.gather c.tell_route.new.gather _ (g.K.Sink.faults c.loop-entry.sink) _
    c.from_residual.result c.in_err-tell_route.field-0.0 c.from_residual.ensures.1 c.loop-entry-test.true c.entry-item.is refl c.loop-entry.invariant c.in_err-tell_route.ensures

pub loop-entry-preserved : goal.loop-entry-preserved
loop-entry-preserved g c = item-told (found_line c.args.links.now) c.args.requests.now c.loop-entry.entry-index c.entry-item.result (found_line c.args.links.now c.entry-item.result) _ (g.K.Sink.written c.loop-entry.sink) _ c.args.gather.now c.loop-entry.gather c.tell_route.new.gather _ _ _ c.loop-entry-test.true c.entry-item.is refl
    c.loop-entry.invariant c.in_ok-tell_route.ensures
