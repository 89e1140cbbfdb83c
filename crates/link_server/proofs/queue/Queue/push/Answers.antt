-- The packet is put in line: it is the newest of those here.
use Rattle.std.proofs.Common.{◌≡◌, ◌+◌, ◌<◌, ◌≤◌, ◌++◌, ◌∷◌, [], length, refl, sym, ap, ◌∙◌, arith}
use Rattle.std.proofs.lemmas.List.{length-map}
use Rattle.std.proofs.lemmas.List.Sorted.{IsPermutation-map, length_permutation}
use Rattle.link_server.proofs.Words.{IsPermutation, filter, is_best, QueueAccount}
use Rattle.link_steps.proofs.SearchAndFilter.{Each-if, Each-mapped}
use Rattle.link_steps.proofs.ListParts.{Each-permuted}
use Rattle.link_server.specs.Arrived.{all_here, arrived, IsNumbered}
use Rattle.link_server.specs.Line.{waiting_in}
use Rattle.link_server.specs.Order.{IsNewest}
use Rattle.link_server.specs.Packets.{arrival_in, here_in, on_in}
use Rattle.link_server.specs.QueueParts.{packets_of}
use Rattle.link_server.proofs.Replies.Account.{queue-same}
use Rattle.link_server.proofs.Sound.Packets.{count-upto}
use Rattle.link_server.proofs.Waiting.Arrived.{all-came, arrived-came, arrived-same, count-same, here-waiting, long-arrived, long-here, one-more, own-came, own-same}
use Rattle.link_server.proofs.queue.Queue.push.Goals as goal
use Rattle.link_server.proofs.queue.Queue.push.Goals.{After-self, After-push}

-- there is room for it
free : (c : After-self) → length (packets_of c.self.inside) + 1 ≤ c.self.inside.room
free c =
    let here = ap (λ (queue : QueueAccount). length queue.here) c.self.view_is in
    let long = long-arrived (packets_of c.self.inside) c.self.inside.taken c.self.invariant.numbered in
    let room = ap (λ (queue : QueueAccount). queue.room) c.self.view_is in
    omega (arith, here, long, room, c.requires.room)

-- and it is the next one
next : (c : After-self) → c.args.packet.now.place ≡ c.self.inside.taken + 1
next c = c.requires.next ∙ ap (λ (queue : QueueAccount). queue.taken + 1) (sym c.self.view_is)

-- those that wait arrived before it
newest : (c : After-self) → IsNewest (waiting_in c.self.inside.line) c.args.packet.now
newest c =
    let q = c.self.inside in
    let next = next c in
    Each-if (λ s. IsNumbered q.taken (arrival_in s)) (λ s. s.place < c.args.packet.now.place) (waiting_in q.line) (λ s is. let most = is.most in omega (arith, most, next))
    (Each-mapped (IsNumbered q.taken) arrival_in (waiting_in q.line) (here-waiting (IsNumbered q.taken) (on_in q.on) (here_in (waiting_in q.line)) c.self.invariant.numbered))

-- no more packets wait than are here
few : (c : After-self) → length (waiting_in c.self.inside.line) ≤ length (packets_of c.self.inside)
few c =
    let long = length-map (waiting_in c.self.inside.line) arrival_in in
    let least = long-here (on_in c.self.inside.on) (here_in (waiting_in c.self.inside.line)) in
    omega (arith, long, least)

pub overflow_add-self : goal.overflow_add-self
overflow_add-self c =
    let q = c.self.inside in
    let at = (goal.at.overflow_add-self c).After-self in
    let counted = c.self.invariant.best_counted in
    let upto = count-upto (is_best q.bounds) (here_in (waiting_in q.line)) in
    let long = length-map (waiting_in q.line) arrival_in in
    let few = few at in
    let free = free at in
    omega (arith, counted, upto, long, few, free, c.best_in.ensures.most)

pub push-requires : goal.push-requires
push-requires c =
    let at = (goal.at.push-requires c).After-self in
    let few = few at in
    let free = free at in
    let room = c.self.invariant.lines_up in
    let looked = ap (λ (queue : QueueAccount). queue.looked) c.self.view_is in
    record {
      room = omega (arith, few, free, room);
      on = omega (arith, looked, c.requires.looked);
      eligible = c.requires.eligible;
      newest = newest at;
    }

pub overflow_add-self-2 : goal.overflow_add-self-2
overflow_add-self-2 c = (let taken = ap (λ (queue : QueueAccount). queue.taken) c.self.view_is in omega (arith, taken, c.requires.countable))

-- those here with it
came : (c : After-push) → IsPermutation (arrival_in c.args.packet.now ∷ packets_of c.self.inside) (all_here (on_in c.self.inside.on) (here_in (waiting_in c.push.new.self)))
came c =
    let q = c.self.inside in
    all-came (on_in q.on) (arrival_in c.args.packet.now) (here_in (waiting_in q.line)) (here_in (waiting_in c.push.new.self)) (IsPermutation-map arrival_in (c.args.packet.now ∷ waiting_in q.line) (waiting_in c.push.new.self) c.push.ensures.waiting)

pub invariant_of-self : goal.invariant_of-self
invariant_of-self c =
    let q = c.self.inside in
    let at = goal.at.invariant_of-self c in
    let p = arrival_in c.args.packet.now in
    let here = packets_of q in
    let came = came at.After-push in
    let free = free at.After-self in
    let next = next at.After-self in
    let lines_up = c.self.invariant.lines_up in
    let longer = length_permutation (p ∷ here) _ came in
    let best = count-same (is_best q.bounds) _ _ (IsPermutation-map arrival_in (c.args.packet.now ∷ waiting_in q.line) (waiting_in c.push.new.self) c.push.ensures.waiting) in
    record {
      own = own-same (p ∷ here) _ came (own-came p here q.taken c.self.invariant.numbered c.self.invariant.own (omega (arith, next)));
      numbered = Each-permuted (IsNumbered (q.taken + 1)) (p ∷ here) _ came (
        record { least = omega (arith, next); most = omega (arith, next) },
        Each-if (IsNumbered q.taken) (IsNumbered (q.taken + 1)) here (λ r is. record { least = is.least; most = (let most = is.most in omega (arith, most)) }) c.self.invariant.numbered,
      );
      fits = omega (arith, longer, free);
      lines_up = omega (arith, lines_up, c.push.ensures.room);
      best_counted =
          ap (λ n. n + c.best_in.result) c.self.invariant.best_counted ∙ ap (λ n. length (filter (is_best q.bounds) (here_in (waiting_in q.line))) + n) c.best_in.ensures.value
          ∙ sym (one-more (is_best q.bounds) p (here_in (waiting_in q.line))) ∙ sym best;
      leaving = c.self.invariant.leaving;
    }

pub returns-clause-kept : goal.returns-clause-kept
returns-clause-kept c =
    let q = c.self.inside in
    let at = goal.at.returns-clause-kept c in
    let p = arrival_in c.args.packet.now in
    let next = next at.After-self in
    let last : arrived (all_here (on_in q.on) (here_in (waiting_in c.push.new.self))) (q.taken + 1) ≡ arrived (packets_of q) q.taken ++ p ∷ [] =
    sym (arrived-same (p ∷ packets_of q) _ (q.taken + 1) (came at.After-push) (own-came p (packets_of q) q.taken c.self.invariant.numbered c.self.invariant.own (omega (arith, next))))
    ∙ arrived-came p (packets_of q) q.taken c.self.invariant.numbered next in
    rw (← c.self.view_is) (queue-same _ _ refl last refl refl refl refl refl refl)
