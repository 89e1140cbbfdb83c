-- The queue of the level has room, whether it is one of the first eight or the ninth.
use Rattle.std.proofs.Common.{◌≡◌, ◌-◌, ◌<◌, ◌++◌, ◌∷◌, [], length, is_some, inl, inr, sym, ap, ◌∙◌, arith}
use Rattle.std.proofs.lemmas.Bool.{cases_lt, false≢true}
use Rattle.static_priority.specs.Queues.{Queues, with_pushed}
use Rattle.link_server.specs.Queues.{joined, pushed}
use Rattle.link_server.proofs.Waiting.Queues.{length-joined-last, length-joined-pushed, length-pushed, pushed-is, pushed-front, pushed-last}
use Rattle.link_server.proofs.queue.ready.Ready.push.Goals as goal
use Rattle.link_server.proofs.queue.ready.Ready.push.Goals.{After-push}

pub push-requires-clause-room : goal.push-requires-clause-room
push-requires-clause-room c =
    let all = length-joined-last c.args.self.now.levels.queues c.args.self.now.ninth.items in
    let hold = c.args.self.now.levels_hold in
    omega (arith, all, hold, c.requires.room)

pub push_back_reserved-requires : goal.push_back_reserved-requires
push_back_reserved-requires c =
    let all = length-joined-last c.args.self.now.levels.queues c.args.self.now.ninth.items in
    let holds = c.args.self.now.ninth_holds in
    let long = c.args.self.now.ninth.ok.0 in
    omega (arith, all, holds, long, c.requires.room)

-- the level's queue has the key at its end
put : (c : After-push) → c.push.new.self.queues ≡ pushed c.args.self.now.levels.queues (c.args.level - 1) c.args.key
put c =
    ap (λ (s : Queues). s.queues) c.push.ensures
    ∙ ap (λ n. with_pushed c.args.self.now.levels.queues n c.args.key) c.in-Some.ensures.value
    ∙ pushed-is c.args.self.now.levels.queues (c.args.level - 1) c.args.key

pub invariant_of-self : goal.invariant_of-self
invariant_of-self c =
    let same = put (goal.at.invariant_of-self c).After-push in
    let eight = c.args.self.now.eight in
    let hold = c.args.self.now.levels_hold in
    let level = c.in-Some.level.most in
    let one = length-joined-pushed c.args.self.now.levels.queues (c.args.level - 1) c.args.key (omega (arith, eight, level, c.in-Some.ensures.value, c.requires.least)) in
    let long = ap (λ queues. length (joined queues)) same in
    let spare = ap (λ (s : Queues). s.spare) c.push.ensures in
    record {
      eight = ap length same ∙ length-pushed c.args.self.now.levels.queues (c.args.level - 1) c.args.key ∙ eight;
      levels_hold = omega (arith, hold, one, long, spare);
      ninth_holds = c.args.self.now.ninth_holds;
    }

pub returns-in-Some-clause-queues : goal.returns-in-Some-clause-queues
returns-in-Some-clause-queues c =
    let eight = c.args.self.now.eight in
    let level = c.in-Some.level.most in
    ap (λ queues. queues ++ c.args.self.now.ninth.items ∷ []) (put (goal.at.returns-in-Some-clause-queues c).After-push)
    ∙ sym (pushed-front c.args.self.now.levels.queues (c.args.self.now.ninth.items ∷ []) (c.args.level - 1) c.args.key (omega (arith, eight, level, c.in-Some.ensures.value, c.requires.least)))

pub returns-in-None-clause-queues : goal.returns-in-None-clause-queues
returns-in-None-clause-queues c =
    let eight = c.args.self.now.eight in
    let past : 8 < c.args.level =
    elim (cases_lt 8 c.args.level) [
      | inl past ↦ past
      | inr within ↦ absurd (false≢true (ap is_some (sym c.in-None.is) ∙ c.new.ensures.found.1 (c.requires.least, within)))
    ] in
    ap (λ last. c.args.self.now.levels.queues ++ last ∷ []) c.push_back_reserved.ensures.items
    ∙ sym (pushed-last c.args.self.now.levels.queues c.args.self.now.ninth.items (c.args.level - 1) c.args.key (omega (arith, eight, past, c.requires.most)))
