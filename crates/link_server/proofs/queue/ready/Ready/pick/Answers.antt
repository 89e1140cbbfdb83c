-- The first key of all is that of the eight queues, or else that of the ninth.
use Rattle.std.proofs.Common.{◌≡◌, ◌+◌, ◌++◌, deque_len, ◌∷◌, [], ℕ, Option, Some, None, MatchOption, length, sym, ap, ◌∙◌, subst, arith}
use Rattle.link_server.specs.Queues.{joined, first_of, after_first}
use Rattle.link_server.proofs.Waiting.Queues.{head-some, head-none, left-after, joined-first, after-none, first-front, first-last, length-after, popped}
use Rattle.link_server.proofs.queue.ready.Ready.pick.Goals as goal
use Rattle.link_server.proofs.queue.ready.Ready.pick.Goals.{In-Some, In-None, After-pop_front}

-- ---- one of the eight has it

found : (c : In-Some) → first_of c.args.self.now.levels.queues ≡ Some c.in-Some.key
found c = head-some 1 c.args.self.now.levels.queues _ c.in-Some.key c.in-Some.ensures.head

left : (c : In-Some) → c.pick.new.self.queues ≡ after_first c.args.self.now.levels.queues
left c = c.in-Some.ensures.left ∙ left-after c.args.self.now.levels.queues

pub invariant_of-self : goal.invariant_of-self
invariant_of-self c =
    let first = head-some 1 c.args.self.now.levels.queues _ c.in-Some.key c.in-Some.ensures.head in
    let same = c.in-Some.ensures.left ∙ left-after c.args.self.now.levels.queues in
    let hold = c.args.self.now.levels_hold in
    let one = ap length (joined-first c.args.self.now.levels.queues c.in-Some.key first) in
    let long = ap (λ queues. length (joined queues)) same in
    record {
      eight = ap length same ∙ length-after c.args.self.now.levels.queues ∙ c.args.self.now.eight;
      levels_hold = omega (arith, hold, one, long, c.in-Some.ensures.spare);
      ninth_holds = c.args.self.now.ninth_holds;
    }

pub returns-in-Some-clause-first : goal.returns-in-Some-clause-first
returns-in-Some-clause-first c =
    sym (first-front c.args.self.now.levels.queues (c.args.self.now.ninth.items ∷ []) c.in-Some.key (found (goal.at.returns-in-Some-clause-first c).In-Some)).0

pub returns-in-Some-clause-left : goal.returns-in-Some-clause-left
returns-in-Some-clause-left c =
    ap (λ queues. queues ++ c.args.self.now.ninth.items ∷ []) (left (goal.at.returns-in-Some-clause-left c).In-Some)
    ∙ sym (first-front c.args.self.now.levels.queues (c.args.self.now.ninth.items ∷ []) c.in-Some.key (found (goal.at.returns-in-Some-clause-left c).In-Some)).1

-- ---- or else the ninth

none : (c : In-None) → first_of c.args.self.now.levels.queues ≡ None
none c = head-none 1 c.args.self.now.levels.queues c.in-None.ensures.head

stay : (c : In-None) → c.pick.new.self.queues ≡ c.args.self.now.levels.queues
stay c = c.in-None.ensures.left ∙ left-after c.args.self.now.levels.queues ∙ after-none c.args.self.now.levels.queues (none c)

pub invariant_of-self-in-None : goal.invariant_of-self-in-None
invariant_of-self-in-None c =
    let same = stay (goal.at.invariant_of-self-in-None c).In-None in
    let hold = c.args.self.now.levels_hold in
    let ninth = c.args.self.now.ninth_holds in
    let long = ap (λ queues. length (joined queues)) same in
    record {
      eight = ap length same ∙ c.args.self.now.eight;
      levels_hold = omega (arith, hold, long, c.in-None.ensures.spare);
      ninth_holds = omega (arith, ninth, c.pop_front.ensures.capacity);
    }

went : (c : After-pop_front) → (c.pop_front.result ≡ first_of (c.args.self.now.ninth.items ∷ [])) × (c.pop_front.new.self.items ∷ [] ≡ after_first (c.args.self.now.ninth.items ∷ []))
went c =
    let long = c.args.self.now.ninth.ok.0 in
    popped c.args.self.now.ninth.items c.pop_front.new.self.items c.pop_front.result c.pop_front.ensures.items
    (λ gone.
    let both : (deque_len c.args.self.now.ninth ≡ 0) × (deque_len c.pop_front.new.self ≡ 0) =
    subst (λ (r : Option ℕ). MatchOption r ((deque_len c.args.self.now.ninth ≡ 0) × (deque_len c.pop_front.new.self ≡ 0)) (λ _. deque_len c.pop_front.new.self + 1 ≡ deque_len c.args.self.now.ninth)) gone c.pop_front.ensures.cases in
    omega (arith, long, both.0))

pub returns-in-None-clause-first : goal.returns-in-None-clause-first
returns-in-None-clause-first c =
    (went (goal.at.returns-in-None-clause-first c).After-pop_front).0
    ∙ sym (first-last c.args.self.now.levels.queues (c.args.self.now.ninth.items ∷ []) (none (goal.at.returns-in-None-clause-first c).In-None)).0

pub returns-in-None-clause-left : goal.returns-in-None-clause-left
returns-in-None-clause-left c =
    ap (λ queues. queues ++ c.pop_front.new.self.items ∷ []) (stay (goal.at.returns-in-None-clause-left c).In-None)
    ∙ ap (λ last. c.args.self.now.levels.queues ++ last) (went (goal.at.returns-in-None-clause-left c).After-pop_front).1
    ∙ sym (first-last c.args.self.now.levels.queues (c.args.self.now.ninth.items ∷ []) (none (goal.at.returns-in-None-clause-left c).In-None)).1
