-- Where none is planned it doesn't matter how many wait, and else it fits where fewer do than may.
use Rattle.std.proofs.Common.{◌≡◌, length, nat_lt, sym, ap, ◌∙◌, arith}
use Rattle.link_server.proofs.Words.{filter, waits_here, QueueAccount}
use Rattle.std.proofs.lemmas.Bool.{ltb-true}
use Rattle.link_server.specs.Packets.{here_in, on_in}
use Rattle.link_server.specs.Line.{waiting_in}
use Rattle.link_server.specs.Planned.{left_in}
use Rattle.link_server.specs.QueueParts.{queue_seen}
use Rattle.link_server.proofs.Waiting.Best.{best-waiting}
use Rattle.link_server.proofs.Replies.Pour.{best-none, best-some}
use Rattle.link_server.proofs.queue.Queue.best_fits.Goals as goal
use Rattle.link_server.proofs.queue.Queue.best_fits.Goals.{After-self}

-- as many wait as are counted
waiting-counted : (c : After-self) → c.self.inside.best_waiting ≡ length (filter (waits_here c.args.shape.now.bounds c.args.self.now.on) c.args.self.now.here)
waiting-counted c =
    c.self.invariant.best_counted
    ∙ sym (best-waiting c.self.inside.bounds (on_in c.self.inside.on) (here_in (waiting_in c.self.inside.line)) c.self.inside.taken c.self.invariant.own c.self.invariant.numbered)
    ∙ ap (λ (queue : QueueAccount). length (filter (waits_here queue.bounds queue.on) queue.here)) c.self.view_is
    ∙ ap (λ bounds. length (filter (waits_here bounds c.args.self.now.on) c.args.self.now.here)) c.requires.bounds

pub returns-then-not-is_for-clause-step : goal.returns-then-not-is_for-clause-step
returns-then-not-is_for-clause-step c =
    rw (← c.self.view_is) (best-none (length (filter (waits_here c.args.shape.now.bounds (on_in c.self.inside.on)) (queue_seen c.self.inside).here)) c.args.shape.now.best c.args.clock (left_in c.self.inside.best) (c.is_for.ensures c.if-not-is_for.true))

pub returns-clause-step : goal.returns-clause-step
returns-clause-step c =
    let queue = c.args.self.now in
    let waiting = length (filter (waits_here c.args.shape.now.bounds queue.on) queue.here) in
    best-some _ waiting c.args.shape.now.best c.args.clock queue.best (ap (λ n. nat_lt n c.from.result) (waiting-counted (goal.at.returns-clause-step c).After-self) ∙ ap (nat_lt waiting) c.from.ensures)

pub returns-clause-fewer : goal.returns-clause-fewer
returns-clause-fewer c = λ fits. (let counted = waiting-counted (goal.at.returns-clause-fewer c).After-self in let less = ltb-true c.self.inside.best_waiting c.from.result fits in omega (arith, counted, less, c.from.ensures))
