-- The packet on the link leaves at its tick, or else those here are the packets in line.
use Rattle.std.proofs.Common.{◌≡◌, ◌-◌, ℕ, List, [], ◌∷◌, length, sym, subst, arith}
use Rattle.link_steps.specs.Quiet.{ServiceRests}
use Rattle.link_server.proofs.Words.{HeldPacket}
use Rattle.link_server.specs.Arrived.{all_here, arrived}
use Rattle.link_server.specs.Line.{waiting_in, AreFrom}
use Rattle.link_server.specs.Packets.{here_in, on_in}
use Rattle.link_server.proofs.Waiting.Next.{none-before}
use Rattle.link_server.proofs.queue.Queue.service_rests_until.Goals as goal
use Rattle.link_server.proofs.queue.Queue.service_rests_until.Goals.{In-None}

line-rests : (c : In-None) (until : ℕ) → AreFrom until (waiting_in c.self.inside.line) → ServiceRests c.args.self.now.rate until c.args.self.now.here c.args.self.now.on
line-rests c until from =
    let q = c.self.inside in
    rw (← c.self.view_is) (subst (λ on. ServiceRests q.rate until (arrived (all_here (on_in on) (here_in (waiting_in q.line))) q.taken) (on_in on)) (sym c.in-None.is)
    (none-before until (waiting_in q.line) q.taken from))

-- one that is on it leaves later than in the tick before
pub returns-in-Some : goal.returns-in-Some
returns-in-Some c =
    let q = c.self.inside in
    let running = c.in-Some.running in
    let leaving = c.self.invariant.leaving running c.in-Some.is in
    let later = running.later in
    rw (← c.self.view_is) (subst (λ on. ServiceRests q.rate (running.leaves - 1) (arrived (all_here (on_in on) (here_in (waiting_in q.line))) q.taken) (on_in on)) (sym c.in-Some.is) (omega (arith, leaving, later)))

nobody-from : (until : ℕ) (packets : List HeldPacket) → length packets ≡ 0 → AreFrom until packets
nobody-from until [] none = tt
nobody-from until (packet ∷ packets) none = absurd (omega (arith, none))

pub returns-then-len-eq0 : goal.returns-then-len-eq0
returns-then-len-eq0 c = line-rests (goal.at.returns-then-len-eq0 c).In-None _ (nobody-from _ (waiting_in c.self.inside.line) (omega (arith, c.len.ensures, c.if-len-eq0.true)))

pub returns-else-len-eq0 : goal.returns-else-len-eq0
returns-else-len-eq0 c = line-rests (goal.at.returns-else-len-eq0 c).In-None _ c.rests_until.ensures
