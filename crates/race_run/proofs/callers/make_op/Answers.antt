use Rattle.link_ledger.specs.Tokens.{stamps_drawn}
use Rattle.race_run.proofs.Weave.StampsLeft.{stamps-left}
use Rattle.race_run.proofs.callers.make_op.Goals as goal

pub open_channel-requires-clause-few : goal.open_channel-requires-clause-few
open_channel-requires-clause-few g c κs within = stamps-left c.args.plan.now c.args.at.0 c.args.at.1 (stamps_drawn c.args.pass.now) c.callers.ensures.valid c.requires.left c.requires.few

pub send_on-requires-clause-few : goal.send_on-requires-clause-few
send_on-requires-clause-few g c κs within = stamps-left c.args.plan.now c.args.at.0 c.args.at.1 (stamps_drawn c.args.pass.now) c.callers.ensures.valid c.requires.left c.requires.few

pub close_channel-requires-clause-few : goal.close_channel-requires-clause-few
close_channel-requires-clause-few g c κs within = stamps-left c.args.plan.now c.args.at.0 c.args.at.1 (stamps_drawn c.args.pass.now) c.callers.ensures.valid c.requires.left c.requires.few

pub send_best_effort-requires-clause-few : goal.send_best_effort-requires-clause-few
send_best_effort-requires-clause-few g c κs within = stamps-left c.args.plan.now c.args.at.0 c.args.at.1 (stamps_drawn c.args.pass.now) c.callers.ensures.valid c.requires.left c.requires.few

pub move_packets-requires-clause-few : goal.move_packets-requires-clause-few
move_packets-requires-clause-few g c κs within = stamps-left c.args.plan.now c.args.at.0 c.args.at.1 (stamps_drawn c.args.pass.now) c.callers.ensures.valid c.requires.left c.requires.few
