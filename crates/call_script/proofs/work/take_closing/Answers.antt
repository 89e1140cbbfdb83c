-- The teardown goes on.
use Rattle.std.proofs.Common.{◌≡◌, true, false, length}
use Rattle.call_script.proofs.WorkByReplies.{closing-goes-on, below-unless}
use Rattle.call_script.proofs.work.take_closing.Goals as goal

pub returns-in-Some-clause-taken : goal.returns-in-Some-clause-taken
returns-in-Some-clause-taken c = λ request tasks replies was.
    closing-goes-on c.args.teardown.now c.take.new.self request tasks replies c.args.reply c.in-Some.field-0.0 c.in-Some.field-0.1 c.in-Ok.ensures.chan c.in-Ok.ensures.route c.in-Ok.ensures.taken c.in-Some.ensures.next
    (below-unless c.take.new.self.made (length c.take.new.self.route) c.take.new.self.in_route (λ same. (let clash : true ≡ false = c.in-Some.ensures.done.1 same in cc))) was
