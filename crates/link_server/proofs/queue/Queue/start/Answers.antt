-- The first in line of those here starts. It stays on the link, or departs where this is its last tick.
use Rattle.std.proofs.Common.{◌≡◌, ℕ, ◌+◌, ◌≤◌, ◌∷◌, [], List, length, Option, Some, None, refl, sym, ap, ◌∙◌, subst, arith}
use Rattle.std.proofs.lemmas.List.{length-map}
use Rattle.std.proofs.lemmas.List.Sorted.{IsPermutation-map, length_permutation}
use Rattle.std.proofs.lemmas.Option.{same_Some}
use Rattle.std.specs.Option.{ForSome}
use Rattle.link_server.proofs.Words.{IsPermutation, filter, is_best, is_eligible_by, is_other, start_at, Arrival, Start, QueueAccount}
use Rattle.link_steps.specs.Service.{first_in_line, leaves_at}
use Rattle.link_steps.specs.Account.{departs, best_departs}
use Rattle.link_steps.proofs.ListParts.{Each-permuted}
use Rattle.link_server.specs.Arrived.{all_here, arrived, HaveOwnNumbers, IsNumbered, AreNumberedUpTo}
use Rattle.link_server.specs.Departed.{leaver}
use Rattle.link_server.specs.Line.{waiting_in}
use Rattle.link_server.specs.Packets.{arrival_in, here_in, on_in}
use Rattle.link_server.specs.QueueParts.{packets_of, queue_seen}
use Rattle.link_server.specs.Serving.{KeepsLeaving, ServiceGoesOn}
use Rattle.link_server.specs.declared.queue.held_packet.Running.{Running}
use Rattle.link_server.proofs.Replies.Account.{queue-same}
use Rattle.link_server.proofs.Waiting.Arrived.{all-moved, arrived-departed, arrived-same, count-same, long-arrived, one-more, own-left, own-same}
use Rattle.link_server.proofs.Waiting.Next.{none-first, next-first}
use Rattle.link_server.proofs.Waiting.Serving.{starts-on, not-yet-sent, not-yet-best, not-yet-gone, sent-now, best-now, gone-now, none-served, stays-served, departs-served}
use Rattle.link_server.proofs.queue.Queue.start.Goals as goal
use Rattle.link_server.proofs.queue.Queue.start.Goals.{After-len, In_default, In-Some, After-best_in, After-ceil_div}

-- ---- the link is free

off : (c : After-len) → on_in c.self.inside.on ≡ None
off c = ap (λ (queue : QueueAccount). queue.on) c.self.view_is ∙ c.requires.free

-- those here are the packets in line
waits : (c : After-len) → (P : List Arrival → Type 0) → P (packets_of c.self.inside) → P (here_in (waiting_in c.self.inside.line))
waits c P all = subst (λ on. P (all_here on (here_in (waiting_in c.self.inside.line)))) (off c) all

here-is : (c : After-len) → arrived (here_in (waiting_in c.self.inside.line)) c.self.inside.taken ≡ c.args.self.now.here
here-is c = ap (λ on. arrived (all_here on (here_in (waiting_in c.self.inside.line))) c.self.inside.taken) (sym (off c)) ∙ ap (λ (queue : QueueAccount). queue.here) c.self.view_is

-- and one of them occupies it if it is the first in line
starts : (c : After-len) (best : Option Arrival) → best ≡ first_in_line (filter (is_eligible_by c.args.clock) (arrived (here_in (waiting_in c.self.inside.line)) c.self.inside.taken)) → start_at c.args.clock best ≡ start_at c.args.clock (first_in_line (filter (is_eligible_by c.args.clock) c.args.self.now.here))
starts c best first = ap (start_at c.args.clock) (first ∙ ap (λ here. first_in_line (filter (is_eligible_by c.args.clock) here)) (here-is c))

-- the queue with another packet on the link, or none
abbrev with-on : ℕ → Option Start → QueueAccount → QueueAccount
with-on looked on queue = record queue { on = on; looked = looked }

-- ---- where no packet is here

first-none : (tick : ℕ) (here : List Arrival) → length here ≡ 0 → None ≡ first_in_line (filter (is_eligible_by tick) here)
unfolding first_in_line
first-none tick [] none = refl
first-none tick (p ∷ here) none = absurd (omega (arith, none))

nobody : (c : After-len) → c.len.result ≡ 0 → None ≡ start_at c.args.clock (first_in_line (filter (is_eligible_by c.args.clock) c.args.self.now.here))
nobody c empty =
    let q = c.self.inside in
    let long = long-arrived (here_in (waiting_in q.line)) q.taken (waits c (AreNumberedUpTo q.taken) c.self.invariant.numbered) in
    let none = length-map (waiting_in q.line) arrival_in in
    starts c None (first-none c.args.clock (arrived (here_in (waiting_in q.line)) q.taken) (omega (arith, long, none, empty, c.len.ensures)))

pub returns-then-len-eq0-clause-sent : goal.returns-then-len-eq0-clause-sent
returns-then-len-eq0-clause-sent c = ap (departs c.args.shape.now c.args.clock) (nobody (goal.at.returns-then-len-eq0-clause-sent c).After-len c.if-len-eq0.true)

pub returns-then-len-eq0-clause-best_sent : goal.returns-then-len-eq0-clause-best_sent
returns-then-len-eq0-clause-best_sent c = ap (best_departs c.args.shape.now c.args.clock) (nobody (goal.at.returns-then-len-eq0-clause-best_sent c).After-len c.if-len-eq0.true)

pub returns-then-len-eq0-clause-gone : goal.returns-then-len-eq0-clause-gone
returns-then-len-eq0-clause-gone c = ap (leaver c.args.shape.now.rate c.args.clock) (nobody (goal.at.returns-then-len-eq0-clause-gone c).After-len c.if-len-eq0.true)

pub returns-then-len-eq0-clause-kept : goal.returns-then-len-eq0-clause-kept
returns-then-len-eq0-clause-kept c =
    let old = c.args.self.now in
    ap (λ on. with-on old.looked on old) c.requires.free
    ∙ none-served c.args.shape.now.rate c.args.clock old.looked old _ (nobody (goal.at.returns-then-len-eq0-clause-kept c).After-len c.if-len-eq0.true)

-- ---- where none of them is eligible

moved : (c : In_default) → IsPermutation (here_in (waiting_in c.self.inside.line)) (here_in (waiting_in c.next.new.self))
moved c = IsPermutation-map arrival_in (waiting_in c.self.inside.line) (waiting_in c.next.new.self) c.in_default.ensures.none.1

passed : (c : In_default) → IsPermutation (packets_of c.self.inside) (all_here (on_in c.self.inside.on) (here_in (waiting_in c.next.new.self)))
passed c = all-moved (on_in c.self.inside.on) (here_in (waiting_in c.self.inside.line)) (here_in (waiting_in c.next.new.self)) (moved c)

pub invariant_of-self : goal.invariant_of-self
invariant_of-self c =
    let q = c.self.inside in
    let at = (goal.at.invariant_of-self c).In_default in
    let passed = passed at in
    let fits = c.self.invariant.fits in
    let lines_up = c.self.invariant.lines_up in
    let long = length_permutation (packets_of q) _ passed in
    record {
      own = own-same (packets_of q) _ passed c.self.invariant.own;
      numbered = Each-permuted (IsNumbered q.taken) (packets_of q) _ passed c.self.invariant.numbered;
      fits = omega (arith, fits, long);
      lines_up = omega (arith, lines_up, c.next.ensures.room);
      best_counted = c.self.invariant.best_counted ∙ sym (count-same (is_best q.bounds) (here_in (waiting_in q.line)) (here_in (waiting_in c.next.new.self)) (moved at));
      leaving = c.self.invariant.leaving;
    }

none-starts : (c : In_default) → None ≡ start_at c.args.clock (first_in_line (filter (is_eligible_by c.args.clock) c.args.self.now.here))
none-starts c =
    let q = c.self.inside in
    let at = (goal.at.In_default c).After-len in
    starts at None
    (none-first c.args.clock (waiting_in c.next.new.self) q.taken c.in_default.ensures.none.0
    ∙ ap (λ here. first_in_line (filter (is_eligible_by c.args.clock) here))
    (sym (arrived-same (here_in (waiting_in q.line)) (here_in (waiting_in c.next.new.self)) q.taken (moved c) (waits at HaveOwnNumbers c.self.invariant.own))))

pub returns-in_default-clause-sent : goal.returns-in_default-clause-sent
returns-in_default-clause-sent c = ap (departs c.args.shape.now c.args.clock) (none-starts (goal.at.returns-in_default-clause-sent c).In_default)

pub returns-in_default-clause-best_sent : goal.returns-in_default-clause-best_sent
returns-in_default-clause-best_sent c = ap (best_departs c.args.shape.now c.args.clock) (none-starts (goal.at.returns-in_default-clause-best_sent c).In_default)

pub returns-in_default-clause-gone : goal.returns-in_default-clause-gone
returns-in_default-clause-gone c = ap (leaver c.args.shape.now.rate c.args.clock) (none-starts (goal.at.returns-in_default-clause-gone c).In_default)

pub returns-in_default-clause-kept : goal.returns-in_default-clause-kept
returns-in_default-clause-kept c =
    let q = c.self.inside in
    let at = goal.at.returns-in_default-clause-kept c in
    let looked = c.next.new.self.until in
    queue-same _ (with-on looked None (queue_seen q)) refl (sym (arrived-same (packets_of q) _ q.taken (passed at.In_default) c.self.invariant.own)) (off at.After-len) refl refl refl refl refl
    ∙ ap (with-on looked None) c.self.view_is
    ∙ none-served c.args.shape.now.rate c.args.clock looked c.args.self.now _ (none-starts at.In_default)

-- ---- where one starts

started : (c : In-Some) → IsPermutation (here_in (waiting_in c.self.inside.line)) (here_in (c.in-Some.packet ∷ waiting_in c.next.new.self))
started c = IsPermutation-map arrival_in (waiting_in c.self.inside.line) (c.in-Some.packet ∷ waiting_in c.next.new.self) c.in-Some.ensures.next.others

own-started : (c : In-Some) → HaveOwnNumbers (here_in (c.in-Some.packet ∷ waiting_in c.next.new.self))
own-started c =
    own-same (here_in (waiting_in c.self.inside.line)) (here_in (c.in-Some.packet ∷ waiting_in c.next.new.self)) (started c) (waits (goal.at.In-Some c).After-len HaveOwnNumbers c.self.invariant.own)

numbered-started : (c : In-Some) → AreNumberedUpTo c.self.inside.taken (here_in (c.in-Some.packet ∷ waiting_in c.next.new.self))
numbered-started c =
    let q = c.self.inside in
    Each-permuted (IsNumbered q.taken) (here_in (waiting_in q.line)) (here_in (c.in-Some.packet ∷ waiting_in c.next.new.self)) (started c) (waits (goal.at.In-Some c).After-len (AreNumberedUpTo q.taken) c.self.invariant.numbered)

-- those here, with it
here-started : (c : In-Some) → arrived (here_in (c.in-Some.packet ∷ waiting_in c.next.new.self)) c.self.inside.taken ≡ arrived (packets_of c.self.inside) c.self.inside.taken
here-started c =
    let q = c.self.inside in
    let at = (goal.at.In-Some c).After-len in
    sym (arrived-same (here_in (waiting_in q.line)) (here_in (c.in-Some.packet ∷ waiting_in c.next.new.self)) q.taken (started c) (waits at HaveOwnNumbers c.self.invariant.own)) ∙ ap (λ on. arrived (all_here on (here_in (waiting_in q.line))) q.taken) (sym (off at))

-- the start of it
abbrev begun : In-Some → Start
begun c = record { packet = arrival_in c.in-Some.packet; tick = c.args.clock }

occupies : (c : In-Some) → start_at c.args.clock (first_in_line (filter (is_eligible_by c.args.clock) c.args.self.now.here)) ≡ Some (begun c)
occupies c =
    let q = c.self.inside in
    let at = (goal.at.In-Some c).After-len in
    let next = c.in-Some.ensures.next in
    sym (starts at (Some (arrival_in c.in-Some.packet))
    (sym (next-first c.args.clock q.taken c.in-Some.packet (waiting_in c.next.new.self) (own-started c) (numbered-started c) next.eligible next.after)
    ∙ ap (λ here. first_in_line (filter (is_eligible_by c.args.clock) here))
    (sym (arrived-same (here_in (waiting_in q.line)) (here_in (c.in-Some.packet ∷ waiting_in c.next.new.self)) q.taken (started c) (waits at HaveOwnNumbers c.self.invariant.own)))))

goes : (c : In-Some) → ServiceGoesOn c.args.shape.now c.args.clock (begun c)
goes c = starts-on c.args.shape.now c.args.clock (arrival_in c.in-Some.packet) c.in-Some.ensures.next.eligible c.in-Some.packet.has_size

-- of the best-effort packets that waited it is one more than those that still do, if it is one
waited : (c : After-best_in) → length (filter (is_best c.self.inside.bounds) (here_in (waiting_in c.next.new.self))) + c.best_in.result ≡ c.self.inside.best_waiting
waited c =
    let q = c.self.inside in
    let counted = c.self.invariant.best_counted in
    let moved = count-same (is_best q.bounds) (here_in (waiting_in q.line)) _ (started (goal.at.After-best_in c).In-Some) in
    let one = one-more (is_best q.bounds) (arrival_in c.in-Some.packet) (here_in (waiting_in c.next.new.self)) in
    omega (arith, counted, moved, one, c.best_in.ensures.value)

pub overflow_sub-self : goal.overflow_sub-self
overflow_sub-self c = (let waited = waited (goal.at.overflow_sub-self c).After-best_in in omega (arith, waited))

-- it departs once its work is done
leaves : (c : After-ceil_div) → c.args.clock + c.ceil_div.result ≡ leaves_at c.args.shape.now.rate (begun (goal.at.After-ceil_div c).In-Some)
leaves c = ap (λ n. c.args.clock + n) (c.ceil_div.ensures ∙ rw (c.from.ensures, c.from-2.ensures) refl)

-- no more packets are in line than were
few : (c : In-Some) → length (here_in (waiting_in c.next.new.self)) + 1 ≤ c.self.inside.room
few c =
    let q = c.self.inside in
    let fits = waits (goal.at.In-Some c).After-len (λ ps. length ps ≤ q.room) c.self.invariant.fits in
    let long = length_permutation (here_in (waiting_in q.line)) (here_in (c.in-Some.packet ∷ waiting_in c.next.new.self)) (started c) in
    omega (arith, fits, long)

-- ---- where it stays on the link

keeps-one : (rate : ℕ) (one : Running) → KeepsLeaving rate one → ForSome (Some one) (KeepsLeaving rate)
keeps-one rate one keeps = λ running same. subst (KeepsLeaving rate) (same_Some one running same) keeps

pub invariant_of-self-then-leaves-clock : goal.invariant_of-self-then-leaves-clock
invariant_of-self-then-leaves-clock c =
    let q = c.self.inside in
    let at = goal.at.invariant_of-self-then-leaves-clock c in
    let lines_up = c.self.invariant.lines_up in
    let rate = ap (λ (queue : QueueAccount). queue.rate) c.self.view_is ∙ c.requires.rate in
    record {
      own = own-started at.In-Some;
      numbered = numbered-started at.In-Some;
      fits = (let few = few at.In-Some in omega (arith, few));
      lines_up = omega (arith, lines_up, c.next.ensures.room);
      best_counted = (let waited = waited at.After-best_in in omega (arith, waited));
      leaving = keeps-one q.rate _ (leaves at.After-ceil_div ∙ ap (λ rate. leaves_at rate (begun at.In-Some)) (sym rate));
    }

pub returns-then-leaves-clock-clause-sent : goal.returns-then-leaves-clock-clause-sent
returns-then-leaves-clock-clause-sent c =
    let at = goal.at.returns-then-leaves-clock-clause-sent c in
    not-yet-sent c.args.shape.now c.args.clock _ (begun at.In-Some) (occupies at.In-Some) (let leaves = leaves at.After-ceil_div in omega (arith, leaves, c.if-leaves-clock.true))

pub returns-then-leaves-clock-clause-best_sent : goal.returns-then-leaves-clock-clause-best_sent
returns-then-leaves-clock-clause-best_sent c =
    let at = goal.at.returns-then-leaves-clock-clause-best_sent c in
    not-yet-best c.args.shape.now c.args.clock _ (begun at.In-Some) (occupies at.In-Some) (let leaves = leaves at.After-ceil_div in omega (arith, leaves, c.if-leaves-clock.true))

pub returns-then-leaves-clock-clause-gone : goal.returns-then-leaves-clock-clause-gone
returns-then-leaves-clock-clause-gone c =
    let at = goal.at.returns-then-leaves-clock-clause-gone c in
    not-yet-gone c.args.shape.now c.args.clock _ (begun at.In-Some) (occupies at.In-Some) (let leaves = leaves at.After-ceil_div in omega (arith, leaves, c.if-leaves-clock.true))

pub returns-then-leaves-clock-clause-kept : goal.returns-then-leaves-clock-clause-kept
returns-then-leaves-clock-clause-kept c =
    let q = c.self.inside in
    let at = goal.at.returns-then-leaves-clock-clause-kept c in
    let looked = c.next.new.self.until in
    queue-same _ (with-on looked (Some (begun at.In-Some)) (queue_seen q)) refl (here-started at.In-Some) refl refl refl refl refl refl
    ∙ ap (with-on looked (Some (begun at.In-Some))) c.self.view_is
    ∙ stays-served c.args.shape.now.rate c.args.clock looked c.args.self.now _ (begun at.In-Some) (occupies at.In-Some) (let leaves = leaves at.After-ceil_div in omega (arith, leaves, c.if-leaves-clock.true))

-- ---- where it departs at the end of this tick

pub invariant_of-self-else-leaves-clock : goal.invariant_of-self-else-leaves-clock
invariant_of-self-else-leaves-clock c =
    let q = c.self.inside in
    let at = goal.at.invariant_of-self-else-leaves-clock c in
    let rest = here_in (waiting_in c.next.new.self) in
    let lines_up = c.self.invariant.lines_up in
    let free = sym (off at.After-len) in
    record {
      own = subst (λ on. HaveOwnNumbers (all_here on rest)) free (own-left (arrival_in c.in-Some.packet) rest (own-started at.In-Some));
      numbered = subst (λ on. AreNumberedUpTo q.taken (all_here on rest)) free (numbered-started at.In-Some).1;
      fits = subst (λ on. length (all_here on rest) ≤ q.room) free (let few = few at.In-Some in omega (arith, few));
      lines_up = omega (arith, lines_up, c.next.ensures.room);
      best_counted = (let waited = waited at.After-best_in in omega (arith, waited));
      leaving = c.self.invariant.leaving;
    }

pub returns-clause-sent : goal.returns-clause-sent
returns-clause-sent c =
    let at = goal.at.returns-clause-sent c in
    sent-now c.args.shape.now c.args.clock _ (begun at.In-Some) (occupies at.In-Some) c.left.result.sent (goes at.In-Some) (let leaves = leaves at.After-ceil_div in omega (arith, leaves, c.if-leaves-clock.false)) c.left.ensures.sent

pub returns-clause-best_sent : goal.returns-clause-best_sent
returns-clause-best_sent c =
    let at = goal.at.returns-clause-best_sent c in
    best-now c.args.shape.now c.args.clock _ (begun at.In-Some) (occupies at.In-Some) c.left.result.best_sent (goes at.In-Some) (let leaves = leaves at.After-ceil_div in omega (arith, leaves, c.if-leaves-clock.false)) c.left.ensures.best_sent

pub returns-clause-gone : goal.returns-clause-gone
returns-clause-gone c =
    let at = goal.at.returns-clause-gone c in
    gone-now c.args.shape.now c.args.clock _ (begun at.In-Some) (occupies at.In-Some) c.left.result.gone (let leaves = leaves at.After-ceil_div in omega (arith, leaves, c.if-leaves-clock.false)) c.left.ensures.gone

pub returns-clause-kept : goal.returns-clause-kept
returns-clause-kept c =
    let q = c.self.inside in
    let at = goal.at.returns-clause-kept c in
    let looked = c.next.new.self.until in
    let start = begun at.In-Some in
    let rest = here_in (waiting_in c.next.new.self) in
    let left : arrived (all_here (on_in q.on) rest) q.taken ≡ filter (is_other start) (arrived (packets_of q) q.taken) =
    ap (λ on. arrived (all_here on rest) q.taken) (off at.After-len) ∙ sym (arrived-departed start rest q.taken (own-started at.In-Some)) ∙ ap (filter (is_other start)) (here-started at.In-Some) in
    queue-same _ (record (queue_seen q) { here = filter (is_other start) (queue_seen q).here; on = None; looked = looked }) refl left (off at.After-len) refl refl refl refl refl
    ∙ ap (λ (queue : QueueAccount). record queue { here = filter (is_other start) queue.here; on = None; looked = looked }) c.self.view_is
    ∙ departs-served c.args.shape.now.rate c.args.clock looked c.args.self.now _ start (occupies at.In-Some) (let leaves = leaves at.After-ceil_div in omega (arith, leaves, c.if-leaves-clock.false))
