-- The packet that occupies the link can go on, so where it doesn't it departs.
use Rattle.std.proofs.Common.{◌≡◌, ◌≤◌, ◌∷◌, List, None, Some, length, sym, ap, ◌∙◌, subst, arith}
use Rattle.std.proofs.lemmas.Option.{none-some}
use Rattle.link_server.proofs.Words.{filter, is_other, served, Arrival, QueueAccount}
use Rattle.link_steps.specs.Service.{leaves_at}
use Rattle.link_server.specs.Arrived.{all_here, arrived, HaveOwnNumbers, AreNumberedUpTo}
use Rattle.link_server.specs.Line.{waiting_in}
use Rattle.link_server.specs.Packets.{start_in, here_in, on_in}
use Rattle.link_server.specs.Planned.{left_in}
use Rattle.link_server.specs.QueueParts.{packets_of}
use Rattle.link_server.specs.Serving.{ServiceGoesOn}
use Rattle.link_server.proofs.Waiting.Arrived.{arrived-departed, own-left}
use Rattle.link_server.proofs.Waiting.Serving.{not-yet-sent, not-yet-best, not-yet-gone, sent-now, best-now, gone-now, stays-served, departs-served}
use Rattle.link_server.proofs.queue.Queue.serve.Goals as goal
use Rattle.link_server.proofs.queue.Queue.serve.Goals.{In-Some}

-- the packet on the link
on : (c : In-Some) → c.args.self.now.on ≡ Some (start_in c.in-Some.running)
on c = ap (λ (queue : QueueAccount). queue.on) (sym c.self.view_is) ∙ ap on_in c.in-Some.is

occupies : (c : In-Some) → served c.args.clock c.args.self.now.here c.args.self.now.on ≡ Some (start_in c.in-Some.running)
occupies c = ap (served c.args.clock c.args.self.now.here) (on c)

-- it can go on
goes : (c : In-Some) → ServiceGoesOn c.args.shape.now c.args.clock (start_in c.in-Some.running)
goes c = c.requires.serves.goes_on (start_in c.in-Some.running) (on c)

-- and departs at the tick that it keeps
leaves : (c : In-Some) → c.in-Some.running.leaves ≡ leaves_at c.args.shape.now.rate (start_in c.in-Some.running)
leaves c =
    let rate = ap (λ (queue : QueueAccount). queue.rate) c.self.view_is ∙ c.requires.rate in
    c.self.invariant.leaving c.in-Some.running c.in-Some.is ∙ ap (λ rate. leaves_at rate (start_in c.in-Some.running)) rate

-- ---- where it departs later

pub returns-then-running-clock-clause-sent : goal.returns-then-running-clock-clause-sent
returns-then-running-clock-clause-sent c =
    let at = (goal.at.returns-then-running-clock-clause-sent c).In-Some in
    not-yet-sent c.args.shape.now c.args.clock _ (start_in c.in-Some.running) (occupies at) (let leaves = leaves at in omega (arith, leaves, c.if-running-clock.true))

pub returns-then-running-clock-clause-best_sent : goal.returns-then-running-clock-clause-best_sent
returns-then-running-clock-clause-best_sent c =
    let at = (goal.at.returns-then-running-clock-clause-best_sent c).In-Some in
    not-yet-best c.args.shape.now c.args.clock _ (start_in c.in-Some.running) (occupies at) (let leaves = leaves at in omega (arith, leaves, c.if-running-clock.true))

pub returns-then-running-clock-clause-gone : goal.returns-then-running-clock-clause-gone
returns-then-running-clock-clause-gone c =
    let at = (goal.at.returns-then-running-clock-clause-gone c).In-Some in
    not-yet-gone c.args.shape.now c.args.clock _ (start_in c.in-Some.running) (occupies at) (let leaves = leaves at in omega (arith, leaves, c.if-running-clock.true))

pub returns-then-running-clock-clause-kept : goal.returns-then-running-clock-clause-kept
returns-then-running-clock-clause-kept c =
    let at = (goal.at.returns-then-running-clock-clause-kept c).In-Some in
    let old = c.args.self.now in
    ap (λ on. record old { on = on }) (on at)
    ∙ stays-served c.args.shape.now.rate c.args.clock old.looked old _ (start_in c.in-Some.running) (occupies at) (let leaves = leaves at in omega (arith, leaves, c.if-running-clock.true))

-- ---- where it departs

pub left-left-requires-clause-early : goal.left-left-requires-clause-early
left-left-requires-clause-early c = (let eligible = (goes (goal.at.left-left-requires-clause-early c).In-Some).eligible in omega (arith, eligible, c.requires.early))

pub left-left-requires-clause-leaves : goal.left-left-requires-clause-leaves
left-left-requires-clause-leaves c = leaves (goal.at.left-left-requires-clause-leaves c).In-Some

pub returns-clause-sent : goal.returns-clause-sent
returns-clause-sent c =
    let at = (goal.at.returns-clause-sent c).In-Some in
    sent-now c.args.shape.now c.args.clock _ (start_in c.in-Some.running) (occupies at) c.left-left.result.sent (goes at) (let leaves = leaves at in omega (arith, leaves, c.if-running-clock.false)) c.left-left.ensures.sent

pub returns-clause-best_sent : goal.returns-clause-best_sent
returns-clause-best_sent c =
    let at = (goal.at.returns-clause-best_sent c).In-Some in
    best-now c.args.shape.now c.args.clock _ (start_in c.in-Some.running) (occupies at) c.left-left.result.best_sent (goes at) (let leaves = leaves at in omega (arith, leaves, c.if-running-clock.false)) c.left-left.ensures.best_sent

pub returns-clause-gone : goal.returns-clause-gone
returns-clause-gone c =
    let at = (goal.at.returns-clause-gone c).In-Some in
    gone-now c.args.shape.now c.args.clock _ (start_in c.in-Some.running) (occupies at) c.left-left.result.gone (let leaves = leaves at in omega (arith, leaves, c.if-running-clock.false)) c.left-left.ensures.gone

-- it is the first of those here
with-it : (c : In-Some) → (P : List Arrival → Type 0) → P (packets_of c.self.inside) → P ((start_in c.in-Some.running).packet ∷ here_in (waiting_in c.self.inside.line))
with-it c P all = subst (λ on. P (all_here on (here_in (waiting_in c.self.inside.line)))) (ap on_in c.in-Some.is) all

pub returns-clause-kept : goal.returns-clause-kept
returns-clause-kept c =
    let q = c.self.inside in
    let at = (goal.at.returns-clause-kept c).In-Some in
    let start = start_in c.in-Some.running in
    let waiting = here_in (waiting_in q.line) in
    let looked = q.line.until in
    let left : arrived waiting q.taken ≡ filter (is_other start) (arrived (packets_of q) q.taken) =
    sym (arrived-departed start waiting q.taken (with-it at HaveOwnNumbers c.self.invariant.own)) ∙ ap (λ on. filter (is_other start) (arrived (all_here on waiting) q.taken)) (sym (ap on_in c.in-Some.is)) in
    ap (λ all. record { taken = q.taken; here = all; on = None; best = left_in q.best; room = q.room; looked = looked; bounds = q.bounds; rate = q.rate }) left
    ∙ ap (λ (queue : QueueAccount). record queue { here = filter (is_other start) queue.here; on = None; looked = looked }) c.self.view_is
    ∙ departs-served c.args.shape.now.rate c.args.clock looked c.args.self.now _ start (occupies at) (let leaves = leaves at in omega (arith, leaves, c.if-running-clock.false))

pub invariant_of-self : goal.invariant_of-self
invariant_of-self c =
    let q = c.self.inside in
    let at = (goal.at.invariant_of-self c).In-Some in
    let start = start_in c.in-Some.running in
    let waiting = here_in (waiting_in q.line) in
    let fits = with-it at (λ ps. length ps ≤ q.room) c.self.invariant.fits in
    record {
      own = own-left start.packet waiting (with-it at HaveOwnNumbers c.self.invariant.own);
      numbered = (with-it at (AreNumberedUpTo q.taken) c.self.invariant.numbered).1;
      fits = omega (arith, fits);
      lines_up = c.self.invariant.lines_up;
      best_counted = c.self.invariant.best_counted;
      leaving = λ running none. absurd (none-some running none);
    }
