-- No reservation changes.
use Rattle.std.proofs.Common.{sym, ap, subst}
use Rattle.std.specs.Vec.{vec_capacity}
use Rattle.link_steps.specs.Split.{Link, SplitFits}
use Rattle.link_server.specs.Held.{reservations_held}
use Rattle.link_server.specs.State.{account_in}
use Rattle.link_quota.specs.Closing.{AreClosing}
use Rattle.link_quota.specs.Shares.{AreShares}
use Rattle.link_quota.specs.State.{rules_of}
use Rattle.link_quota.specs.Stood.{IsLegallyStood}
use Rattle.link_quota.proofs.ClosingRoom.{room-carried}
use Rattle.link_quota.proofs.ClosingSteps.{closing-carried}
use Rattle.link_quota.proofs.SplitSteps.{goes-all, same-shape, stood-all, carried-all, carrying-none, carrying-other}
use Rattle.link_server.proofs.LinkRests.{due-now}
use Rattle.link_quota.proofs.quota_link.QuotaLink.carry.Goals as goal

pub returns-clause-goes : goal.returns-clause-goes
returns-clause-goes c =
    goes-all c.args.self.now.split c.args.self.now.link c.step.new.self c.args.ask.now c.step.result (carrying-other c.args.ask.now c.requires.carries) c.requires.fits (ap (λ (l : Link). l.shape) c.step.ensures.same) c.step.ensures.legal c.step.ensures.entered

pub returns-clause-sure : goal.returns-clause-sure
returns-clause-sure c = c.step.ensures.sure (carrying-none c.args.ask.now c.requires.carries)

pub invariant_of-self : goal.invariant_of-self
invariant_of-self c =
    let shape = ap (λ (l : Link). l.shape) c.step.ensures.same in
    let goes = goes-all c.args.self.now.split c.args.self.now.link c.step.new.self c.args.ask.now c.step.result (carrying-other c.args.ask.now c.requires.carries) c.requires.fits shape c.step.ensures.legal c.step.ensures.entered in
    let same = same-shape c.args.self.now.link c.step.new.self c.step.result shape c.step.ensures.memory in
    record {
      fits = subst (λ s. SplitFits (record { shape = s; split = c.args.self.now.split })) (sym shape) c.args.self.now.fits;
      shared = subst (λ s. AreShares (record { shape = s; split = c.args.self.now.split }) (reservations_held c.step.new.self) c.args.self.now.shares.items) (sym shape)
          (carried-all (rules_of c.args.self.now) (account_in c.args.self.now.link) (account_in c.step.new.self) c.args.ask.now c.step.result c.args.self.now.shares.items goes same c.requires.carries c.args.self.now.stood c.args.self.now.shared);
      listed = subst (λ s. AreClosing (record { shape = s; split = c.args.self.now.split }) (reservations_held c.step.new.self) c.args.self.now.closing.items) (sym shape)
          (closing-carried (rules_of c.args.self.now) (account_in c.args.self.now.link) (account_in c.step.new.self) c.args.ask.now c.step.result c.args.self.now.closing.items goes same c.requires.carries c.args.self.now.stood c.args.self.now.listed);
      room = room-carried (rules_of c.args.self.now) (account_in c.args.self.now.link) (account_in c.step.new.self) c.args.ask.now c.step.result (vec_capacity c.args.self.now.closing) goes same c.requires.carries c.args.self.now.stood c.args.self.now.room;
      stood = subst (λ s. IsLegallyStood (record { shape = s; split = c.args.self.now.split }) (account_in c.step.new.self)) (sym shape)
          (stood-all (rules_of c.args.self.now) (account_in c.args.self.now.link) (account_in c.step.new.self) c.args.ask.now c.step.result goes same c.args.self.now.stood);
      rests = due-now c.step.new.self.shape (account_in c.step.new.self);
    }
