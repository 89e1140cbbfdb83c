-- The plan and the size are judged, and then the packets are planned.
use Rattle.std.proofs.Common.{◌≡◌, refl, sym, ap, ◌∙◌, subst, arith}
use Rattle.link_server.proofs.Words.{account, QueueAccount, account_after, busy, account_in, Planned, Refused, Pour}
use Rattle.link_server.specs.Sound.{IsSound}
use Rattle.link_steps.specs.declared.replies.Refusal.TheVariants.{TooBig}
use Rattle.link_server.proofs.Sound.Setup.{sound-pour}
use Rattle.link_server.proofs.Replies.Pour.{pour-busy, pour-big, pour-planned, pour-same, pour-kept}
use Rattle.link_server.proofs.Sound.Stood.{still-stood}
use Rattle.link_server.proofs.Departed.Rows.{counted-still}
use Rattle.link_server.proofs.LinkRests.{due-now}
use Rattle.link_server.proofs.link_state.LinkState.pour.Goals as goal
use Rattle.link_server.proofs.link_state.LinkState.pour.Goals.{After-plan_best}

pub returns-in-Some-clause-reply : goal.returns-in-Some-clause-reply
returns-in-Some-clause-reply c = pour-busy c.args.self.now.shape c.args.self.now.clock c.args.self.now.queue c.args.self.now.table.rows c.args.count c.args.gap c.args.size _ (c.in-Some.ensures ∙ ap busy c.best_left.ensures)

pub returns-in-Some-clause-kept : goal.returns-in-Some-clause-kept
returns-in-Some-clause-kept c = pour-same c.args.self.now.shape _ c.args.count c.args.gap c.args.size _

pub returns-then-size-self-clause-reply : goal.returns-then-size-self-clause-reply
returns-then-size-self-clause-reply c =
    ap (λ n. Refused (TooBig n c.from-then-size-self.result)) c.from.ensures ∙ ap (λ n. Refused (TooBig c.args.size n)) c.from-then-size-self.ensures
    ∙ pour-big c.args.self.now.shape c.args.self.now.clock c.args.self.now.queue c.args.self.now.table.rows c.args.count c.args.gap c.args.size (c.in_default.ensures ∙ ap busy c.best_left.ensures) c.if-size-self.true

pub returns-then-size-self-clause-kept : goal.returns-then-size-self-clause-kept
returns-then-size-self-clause-kept c = pour-same c.args.self.now.shape _ c.args.count c.args.gap c.args.size _

pub returns-clause-reply : goal.returns-clause-reply
returns-clause-reply c = pour-planned c.args.self.now.shape c.args.self.now.clock c.args.self.now.queue c.args.self.now.table.rows c.args.count c.args.gap c.args.size (c.in_default.ensures ∙ ap busy c.best_left.ensures) c.if-size-self.false

-- what is kept is the account's
kept : (c : After-plan_best) → account c.args.self.now.clock c.plan_best.new.self c.args.self.now.table.rows ≡ account_after c.args.self.now.shape (account_in c.args.self.now) (Pour c.args.count c.args.gap c.args.size) (Planned c.args.self.now.clock)
kept c =
    ap (λ (queue : QueueAccount). account c.args.self.now.clock queue c.args.self.now.table.rows) c.plan_best.ensures
    ∙ pour-kept c.args.self.now.shape c.args.self.now.clock c.args.self.now.queue c.args.self.now.table.rows c.args.count c.args.gap c.args.size c.args.self.now.clock (c.in_default.ensures ∙ ap busy c.best_left.ensures)

pub returns-clause-kept : goal.returns-clause-kept
returns-clause-kept c = kept (goal.at.returns-clause-kept c).After-plan_best

pub invariant_of-self : goal.invariant_of-self
invariant_of-self c =
    let l = c.args.self.now in
    let planned = pour-planned l.shape l.clock l.queue l.table.rows c.args.count c.args.gap c.args.size (c.in_default.ensures ∙ ap busy c.best_left.ensures) c.if-size-self.false in
    let kept = kept (goal.at.invariant_of-self c).After-plan_best in
    let room : c.plan_best.new.self.room ≡ l.queue.room = ap (λ (queue : QueueAccount). queue.room) c.plan_best.ensures in
    let looked : c.plan_best.new.self.looked ≡ l.queue.looked = ap (λ (queue : QueueAccount). queue.looked) c.plan_best.ensures in
    let few = l.few in
    let sound = subst (IsSound l.shape l.queue.room) (sym kept) (sound-pour l.shape l.queue.room (account_in l) c.args.count c.args.gap c.args.size (Planned l.clock) c.requires.fits l.sound planned) in
    let stood = still-stood c.args.self.now (Pour c.args.count c.args.gap c.args.size) (Planned c.args.self.now.clock) _ (c.requires.some, c.requires.fits) planned kept in
    record {
      of_shape = l.of_shape;
      looked = (l.looked.0, let was = l.looked.1 in omega (arith, was, looked));
      sound = subst (λ n. IsSound l.shape n (account l.clock c.plan_best.new.self l.table.rows)) (sym room) sound;
      few = omega (arith, few, room);
      same_bounds = ap (λ (queue : QueueAccount). queue.bounds) c.plan_best.ensures ∙ l.same_bounds;
      same_rate = ap (λ (queue : QueueAccount). queue.rate) c.plan_best.ensures ∙ l.same_rate;
      stood = stood;
      counted = counted-still l c.plan_best.new.self l.table (ap (λ (queue : QueueAccount). queue.here) c.plan_best.ensures) refl;
      rests = due-now _ _;
    }
