-- One of them is handed on.
use Rattle.std.proofs.Common.{subst}
use Rattle.plane_workers.specs.Lanes.{HasHanded}
use Rattle.plane_workers.proofs.QuietReplies.{one-quiet}
use Rattle.plane_workers.proofs.lane.Lane.next_quiet.Goals as goal

pub returns-in-Some-Quiet-clause-told : goal.returns-in-Some-Quiet-clause-told
returns-in-Some-Quiet-clause-told c = subst (λ replies. HasHanded replies c.args.self.now c.pass.new.self) (one-quiet c.in-Some-Quiet.run'.clock) c.pass.ensures
