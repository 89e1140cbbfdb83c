-- Where rows have expired they give their parts back, and elsewhere no reservation changes.
use Rattle.std.proofs.Common.{◌≡◌, List, sym, ap, subst, arith}
use Rattle.std.specs.Prelude.{IfOk, IsOk, OnErr, filter}
use Rattle.std.specs.Vec.{vec_capacity}
use Rattle.link_steps.specs.declared.asks.Ask.TheVariants.{Tick}
use Rattle.link_server.specs.Asks.{TakesNone}
use Rattle.link_steps.specs.declared.replies.Entry.{Entry}
use Rattle.link_steps.specs.Account.{StandsFor}
use Rattle.link_steps.specs.Split.{Link, SplitFits}
use Rattle.link_server.specs.Held.{reservations_held}
use Rattle.link_server.specs.State.{account_in}
use Rattle.link_quota.specs.Closing.{AreClosing, HasRoomToClose, is_held, HaveGone, AreLowered}
use Rattle.link_quota.specs.Shares.{AreShares}
use Rattle.link_quota.specs.State.{rules_of}
use Rattle.link_quota.specs.Steps.{GoesOn}
use Rattle.link_quota.specs.Stood.{IsLegallyStood}
use Rattle.link_quota.specs.declared.share.Share.{Share}
use Rattle.link_quota.proofs.ClosingRoom.{room-ticked}
use Rattle.link_quota.proofs.ClosingSteps.{have-gone, shares-lowered, closing-left, closing-ticked}
use Rattle.link_quota.proofs.SplitSteps.{written-back, tick-other, goes-all, same-shape, stood-all, ticked-all}
use Rattle.link_quota.proofs.quota_link.QuotaLink.tick.Goals as goal
use Rattle.link_quota.proofs.quota_link.QuotaLink.tick.Goals.{After-rows_held}

same : (c : After-rows_held) → c.step-reply.new.self.shape ≡ c.args.self.now.link.shape
same c = ap (λ (l : Link). l.shape) c.step-reply.ensures.same

goes : (c : After-rows_held) → IfOk c.step-reply.result (GoesOn (rules_of c.args.self.now) (account_in c.args.self.now.link) (account_in c.step-reply.new.self) c.args.ask.now)
goes c =
    goes-all c.args.self.now.split c.args.self.now.link c.step-reply.new.self c.args.ask.now c.step-reply.result (tick-other c.args.ask.now c.requires.ticks) c.requires.fits (same c) c.step-reply.ensures.legal c.step-reply.ensures.entered

kept-same : (c : After-rows_held) → OnErr c.step-reply.result ((h : List Entry) → StandsFor c.args.self.now.link.shape (account_in c.args.self.now.link) h → StandsFor c.args.self.now.link.shape (account_in c.step-reply.new.self) h)
kept-same c = same-shape c.args.self.now.link c.step-reply.new.self c.step-reply.result (same c) c.step-reply.ensures.memory

stood : (c : After-rows_held) → IsLegallyStood (rules_of c.args.self.now) (account_in c.step-reply.new.self)
stood c = stood-all (rules_of c.args.self.now) (account_in c.args.self.now.link) (account_in c.step-reply.new.self) c.args.ask.now c.step-reply.result (goes c) (kept-same c) c.args.self.now.stood

ok : (c : After-rows_held) → IsOk c.step-reply.result
ok c = c.step-reply.ensures.sure (subst TakesNone (sym c.requires.ticks) tt)

ticked : (c : After-rows_held) → IfOk c.step-reply.result (GoesOn (rules_of c.args.self.now) (account_in c.args.self.now.link) (account_in c.step-reply.new.self) Tick)
ticked c = subst (λ ask. IfOk c.step-reply.result (GoesOn (rules_of c.args.self.now) (account_in c.args.self.now.link) (account_in c.step-reply.new.self) ask)) c.requires.ticks (goes c)

-- no row is added
room : (c : After-rows_held) → HasRoomToClose c.args.self.now.split (reservations_held c.step-reply.new.self) (vec_capacity c.args.self.now.closing)
room c = room-ticked (rules_of c.args.self.now) (account_in c.args.self.now.link) (account_in c.step-reply.new.self) c.step-reply.result (vec_capacity c.args.self.now.closing) (ticked c) (kept-same c) c.args.self.now.stood c.args.self.now.room

pub give_back_expired-requires-clause-parts : goal.give_back_expired-requires-clause-parts
give_back_expired-requires-clause-parts c =
    let here = goal.at.give_back_expired-requires-clause-parts c in
    subst (λ items. HaveGone (record { shape = c.step-reply.new.self.shape; split = c.args.self.now.split }) (reservations_held c.step-reply.new.self) items c.deref_mut.result.now) (sym c.deref.ensures.value)
    (subst (λ items. HaveGone (record { shape = c.step-reply.new.self.shape; split = c.args.self.now.split }) (reservations_held c.step-reply.new.self) c.args.self.now.closing.items items) (sym c.deref_mut.ensures.value)
    (subst (λ s. HaveGone (record { shape = s; split = c.args.self.now.split }) (reservations_held c.step-reply.new.self) c.args.self.now.closing.items c.args.self.now.shares.items) (sym (same here.After-rows_held))
    (have-gone (rules_of c.args.self.now) (account_in c.args.self.now.link) (account_in c.step-reply.new.self) c.step-reply.result c.args.self.now.closing.items c.args.self.now.shares.items c.args.self.now.fits (ok here.After-rows_held) (ticked here.After-rows_held) c.args.self.now.stood c.requires.splits c.args.self.now.listed c.args.self.now.shared)))

pub returns-then-rows_held-before-clause-goes : goal.returns-then-rows_held-before-clause-goes
returns-then-rows_held-before-clause-goes c = goes (goal.at.returns-then-rows_held-before-clause-goes c).After-rows_held

pub returns-else-rows_held-before-clause-goes : goal.returns-else-rows_held-before-clause-goes
returns-else-rows_held-before-clause-goes c = goes (goal.at.returns-else-rows_held-before-clause-goes c).After-rows_held

pub returns-then-rows_held-before-clause-sure : goal.returns-then-rows_held-before-clause-sure
returns-then-rows_held-before-clause-sure c = ok (goal.at.returns-then-rows_held-before-clause-sure c).After-rows_held

pub returns-else-rows_held-before-clause-sure : goal.returns-else-rows_held-before-clause-sure
returns-else-rows_held-before-clause-sure c = ok (goal.at.returns-else-rows_held-before-clause-sure c).After-rows_held

pub invariant_of-self : goal.invariant_of-self
invariant_of-self c =
    let here = goal.at.invariant_of-self c in
    let shape = same here.After-rows_held in
    let lowered : AreLowered (rules_of c.args.self.now) (reservations_held c.step-reply.new.self) c.args.self.now.closing.items c.args.self.now.shares.items c.give_back_expired.new.shares =
    subst (λ s. AreLowered (record { shape = s; split = c.args.self.now.split }) (reservations_held c.step-reply.new.self) c.args.self.now.closing.items c.args.self.now.shares.items c.give_back_expired.new.shares) shape
    (subst (λ items. AreLowered (record { shape = c.step-reply.new.self.shape; split = c.args.self.now.split }) (reservations_held c.step-reply.new.self) items c.args.self.now.shares.items c.give_back_expired.new.shares) c.deref.ensures.value
    (subst (λ items. AreLowered (record { shape = c.step-reply.new.self.shape; split = c.args.self.now.split }) (reservations_held c.step-reply.new.self) c.deref.result.now items c.give_back_expired.new.shares) c.deref_mut.ensures.value c.give_back_expired.ensures)) in
    let back = written-back c.args.self.now.shares.items c.give_back_expired.new.shares c.args.self.now.shares.len lowered.long (sym c.args.self.now.shares.ok.0) in
    record {
      fits = subst (λ s. SplitFits (record { shape = s; split = c.args.self.now.split })) (sym shape) c.args.self.now.fits;
      shared = subst (λ (items : List Share). AreShares (record { shape = c.step-reply.new.self.shape; split = c.args.self.now.split }) (reservations_held c.step-reply.new.self) items) (sym back)
          (subst (λ s. AreShares (record { shape = s; split = c.args.self.now.split }) (reservations_held c.step-reply.new.self) c.give_back_expired.new.shares) (sym shape)
          (shares-lowered (rules_of c.args.self.now) (account_in c.args.self.now.link) (account_in c.step-reply.new.self) c.step-reply.result c.args.self.now.closing.items c.args.self.now.shares.items c.give_back_expired.new.shares c.args.self.now.fits (ok here.After-rows_held) (ticked here.After-rows_held) c.args.self.now.stood c.requires.splits c.args.self.now.listed c.args.self.now.shared lowered));
      listed = subst (λ items. AreClosing (record { shape = c.step-reply.new.self.shape; split = c.args.self.now.split }) (reservations_held c.step-reply.new.self) items) (sym c.drop_expired.ensures.items)
          (subst (λ s. AreClosing (record { shape = s; split = c.args.self.now.split }) (reservations_held c.step-reply.new.self) (filter (is_held s.bounds (reservations_held c.step-reply.new.self)) c.args.self.now.closing.items)) (sym shape)
          (closing-left (rules_of c.args.self.now) (account_in c.args.self.now.link) (account_in c.step-reply.new.self) c.step-reply.result c.args.self.now.closing.items c.args.self.now.fits (ok here.After-rows_held) (ticked here.After-rows_held) c.args.self.now.stood c.args.self.now.listed));
      room = subst (HasRoomToClose c.args.self.now.split (reservations_held c.step-reply.new.self)) (sym c.drop_expired.ensures.capacity) (room here.After-rows_held);
      stood = subst (λ s. IsLegallyStood (record { shape = s; split = c.args.self.now.split }) (account_in c.step-reply.new.self)) (sym shape) (stood here.After-rows_held);
      rests = λ before. c.rests_until-self.ensures;
    }

pub invariant_of-self-else-rows_held-before : goal.invariant_of-self-else-rows_held-before
invariant_of-self-else-rows_held-before c =
    let here = goal.at.invariant_of-self-else-rows_held-before c in
    let shape = same here.After-rows_held in
    let was = c.rows_held-before.ensures.count in
    let now = c.rows_held.ensures.count in
    let most = c.if-rows_held-before.false in
    record {
      fits = subst (λ s. SplitFits (record { shape = s; split = c.args.self.now.split })) (sym shape) c.args.self.now.fits;
      shared = subst (λ s. AreShares (record { shape = s; split = c.args.self.now.split }) (reservations_held c.step-reply.new.self) c.args.self.now.shares.items) (sym shape)
          (ticked-all (rules_of c.args.self.now) (account_in c.args.self.now.link) (account_in c.step-reply.new.self) c.step-reply.result c.args.self.now.shares.items (ticked here.After-rows_held) (kept-same here.After-rows_held) (omega (arith, was, now, most)) c.args.self.now.stood c.args.self.now.shared);
      listed = subst (λ s. AreClosing (record { shape = s; split = c.args.self.now.split }) (reservations_held c.step-reply.new.self) c.args.self.now.closing.items) (sym shape)
          (closing-ticked (rules_of c.args.self.now) (account_in c.args.self.now.link) (account_in c.step-reply.new.self) c.step-reply.result c.args.self.now.closing.items (ticked here.After-rows_held) (kept-same here.After-rows_held) (omega (arith, was, now, most)) c.args.self.now.stood c.args.self.now.listed);
      room = room here.After-rows_held;
      stood = subst (λ s. IsLegallyStood (record { shape = s; split = c.args.self.now.split }) (account_in c.step-reply.new.self)) (sym shape) (stood here.After-rows_held);
      rests = λ before. c.rests_until-self.ensures;
    }
