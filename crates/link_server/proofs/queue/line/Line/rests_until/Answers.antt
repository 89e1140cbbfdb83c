-- Each packet is ready, or under its tick in the calendar.
use Rattle.std.proofs.Common.{◌≡◌, List, [], ◌∷◌, ◌++◌, map, sym, ap, ◌∙◌, subst, append-nil, arith}
use Rattle.link_server.proofs.Words.{HeldPacket}
use Rattle.link_server.specs.Keys.{packet_at, queues_at}
use Rattle.link_server.specs.Line.{waiting_in, later_in, AreFrom}
use Rattle.link_server.specs.Queues.{joined}
use Rattle.link_server.specs.Ready.{queues_of}
use Rattle.link_server.proofs.Waiting.Due.{all-from-tick}
use Rattle.link_server.proofs.Waiting.Queues.{joined-map}
use Rattle.link_server.proofs.queue.line.Line.rests_until.Goals as goal

all-from-zero : (packets : List HeldPacket) → AreFrom 0 packets
all-from-zero [] = tt
all-from-zero (r ∷ packets) = (omega arith, all-from-zero packets)

pub returns-then-not-is_empty : goal.returns-then-not-is_empty
returns-then-not-is_empty c = all-from-zero (waiting_in c.args.self.now)

pub returns : goal.returns
returns c =
    let l = c.args.self.now in
    let none : joined (queues_at l.packets.slots (queues_of l.ready)) ≡ [] = joined-map (packet_at l.packets.slots) (queues_of l.ready) ∙ ap (map (packet_at l.packets.slots)) (c.is_empty.ensures c.if-not-is_empty.false) in
    subst (λ packets. AreFrom c.rests_until.result (later_in l ++ packets)) (sym none)
    (subst (AreFrom c.rests_until.result) (sym (append-nil (later_in l))) (all-from-tick l.packets.slots l.later.entries c.rests_until.result l.keyed.under c.rests_until.ensures))
