-- The packets in line, and the one on the link.
use Rattle.std.proofs.Common.{length, ap, arith}
use Rattle.std.proofs.lemmas.List.{length-map}
use Rattle.link_server.proofs.Words.{QueueAccount}
use Rattle.link_server.specs.Arrived.{all_here}
use Rattle.link_server.specs.Line.{waiting_in}
use Rattle.link_server.specs.Packets.{arrival_in, here_in, on_in}
use Rattle.link_server.specs.QueueParts.{packets_of}
use Rattle.link_server.proofs.Waiting.Arrived.{long-arrived}
use Rattle.link_server.proofs.queue.Queue.len.Goals as goal

pub returns-in-Some : goal.returns-in-Some
returns-in-Some c =
    let q = c.self.inside in
    let seen = ap (λ (queue : QueueAccount). length queue.here) c.self.view_is in
    let all = long-arrived (packets_of q) q.taken c.self.invariant.numbered in
    let on = ap (λ on. length (all_here (on_in on) (here_in (waiting_in q.line)))) c.in-Some.is in
    let long = length-map (waiting_in q.line) arrival_in in
    omega (arith, seen, all, on, long, c.len.ensures)

pub returns-in-None : goal.returns-in-None
returns-in-None c =
    let q = c.self.inside in
    let seen = ap (λ (queue : QueueAccount). length queue.here) c.self.view_is in
    let all = long-arrived (packets_of q) q.taken c.self.invariant.numbered in
    let on = ap (λ on. length (all_here (on_in on) (here_in (waiting_in q.line)))) c.in-None.is in
    let long = length-map (waiting_in q.line) arrival_in in
    omega (arith, seen, all, on, long, c.len-in-None.ensures)
