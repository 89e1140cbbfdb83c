-- The step of the plan is found, and what it makes of the queue is said.
use Rattle.std.proofs.Common.{refl, ◌∙◌}
use Rattle.link_server.proofs.Words.{find, is_for, source_step}
use Rattle.link_server.specs.Packets.{arrival_in}
use Rattle.link_server.specs.Planned.{left_in}
use Rattle.link_server.specs.QueueParts.{queue_seen}
use Rattle.link_server.proofs.Replies.Pour.{best-loses, best-brings, rests-queue, drops-queue, brings-queue}
use Rattle.link_server.proofs.queue.Queue.take_best.Goals as goal
use Rattle.link_server.proofs.Sourcing.Steps.{rests-where-none}

pub returns-in_default-clause-lost : goal.returns-in_default-clause-lost
returns-in_default-clause-lost c =
    let found = find (is_for c.args.clock) (left_in c.self.inside.best) in
    rw (← c.self.view_is) (rw (rests-where-none c.args.fits found c.in_default.ensures.size) refl)

pub returns-in_default-clause-kept : goal.returns-in_default-clause-kept
returns-in_default-clause-kept c =
    let found = find (is_for c.args.clock) (left_in c.self.inside.best) in
    rw (← c.self.view_is) (rests-queue c.args.shape.now.bounds c.args.clock (queue_seen c.self.inside) (left_in c.take_at.new.self) (source_step c.args.fits found) (rests-where-none c.args.fits found c.in_default.ensures.size) c.take_at.ensures.left)

pub returns-then-not-fits-clause-lost : goal.returns-then-not-fits-clause-lost
returns-then-not-fits-clause-lost c =
    let found = find (is_for c.args.clock) (left_in c.self.inside.best) in
    rw (← c.self.view_is) (rw (best-loses c.args.fits found c.in-Some.size c.in-Some.ensures.size c.if-not-fits.true) refl)

pub returns-then-not-fits-clause-kept : goal.returns-then-not-fits-clause-kept
returns-then-not-fits-clause-kept c =
    let found = find (is_for c.args.clock) (left_in c.self.inside.best) in
    rw (← c.self.view_is) (drops-queue c.args.shape.now.bounds c.args.clock (queue_seen c.self.inside) (left_in c.take_at.new.self) (source_step c.args.fits found) (best-loses c.args.fits found c.in-Some.size c.in-Some.ensures.size c.if-not-fits.true) c.take_at.ensures.left)

pub returns-clause-lost : goal.returns-clause-lost
returns-clause-lost c =
    let found = find (is_for c.args.clock) (left_in c.self.inside.best) in
    rw (← c.self.view_is) (rw (best-brings c.args.fits found c.in-Some.size c.in-Some.ensures.size c.if-not-fits.false) refl)

pub returns-clause-kept : goal.returns-clause-kept
returns-clause-kept c =
    let found = find (is_for c.args.clock) (left_in c.self.inside.best) in
    rw (← c.self.view_is)
    (c.push.ensures.kept
    ∙ brings-queue c.args.shape.now.bounds c.args.clock c.in-Some.size c.push.new.self.looked (queue_seen c.self.inside) (left_in c.take_at.new.self) (source_step c.args.fits found) (arrival_in c.best_packet-packet.result)
    (best-brings c.args.fits found c.in-Some.size c.in-Some.ensures.size c.if-not-fits.false) c.take_at.ensures.left c.best_packet-packet.ensures)
