-- The link inside rests, and the groups hold what they held.
use Rattle.std.proofs.Common.{sym, ap, subst, arith}
use Rattle.link_steps.specs.Account.{Account}
use Rattle.link_steps.specs.Split.{Link, SplitFits}
use Rattle.link_steps.proofs.QuietTicks.{later-rests, quiet-ticks}
use Rattle.link_server.specs.Resting.{RestsFromClock}
use Rattle.link_server.specs.State.{account_in}
use Rattle.link_server.proofs.EveryHistoryAgrees.{rows-have}
use Rattle.std.specs.Vec.{vec_capacity}
use Rattle.link_quota.specs.Closing.{AreClosing, HasRoomToClose}
use Rattle.link_quota.specs.Shares.{AreShares}
use Rattle.link_quota.specs.State.{rules_of}
use Rattle.link_quota.specs.Stood.{IsLegallyStood}
use Rattle.link_quota.proofs.SomeLegalHistory.{held_in}
use Rattle.link_quota.proofs.RestKeepsShares.{later-stood}
use Rattle.link_quota.proofs.quota_link.QuotaLink.rest.Goals as goal

pub invariant_of-self : goal.invariant_of-self
invariant_of-self c =
    let quota = c.args.self.now in
    let shape = ap (λ (l : Link). l.shape) c.rest.ensures.same in
    let rests = c.requires.rests in
    record {
      fits = subst (λ s. SplitFits (record { shape = s; split = quota.split })) (sym shape) quota.fits;
      shared = subst (λ s. AreShares (record { shape = s; split = quota.split }) (held_in (account_in c.rest.new.self)) quota.shares.items) (sym shape)
          (subst (λ (k : Account). AreShares (rules_of quota) (held_in k) quota.shares.items) (sym c.rest.ensures.kept) quota.shared);
      listed = subst (λ s. AreClosing (record { shape = s; split = quota.split }) (held_in (account_in c.rest.new.self)) quota.closing.items) (sym shape)
          (subst (λ (k : Account). AreClosing (rules_of quota) (held_in k) quota.closing.items) (sym c.rest.ensures.kept) quota.listed);
      room = subst (λ (k : Account). HasRoomToClose quota.split (held_in k) (vec_capacity quota.closing)) (sym c.rest.ensures.kept) quota.room;
      stood = subst (λ s. IsLegallyStood (record { shape = s; split = quota.split }) (account_in c.rest.new.self)) (sym shape)
          (subst (IsLegallyStood (rules_of quota)) (sym c.rest.ensures.kept) (later-stood (rules_of quota) rests.0 c.args.ticks (account_in quota.link) (rows-have quota.link) rests.1.0 rests.1.1 quota.stood));
      rests = subst (λ s. RestsFromClock s quota.due (account_in c.rest.new.self)) (sym shape)
          (subst (RestsFromClock quota.link.shape quota.due) (sym c.rest.ensures.kept) (λ before. later-rests quota.link.shape quota.due c.args.ticks (account_in quota.link) (quota.rests (omega (arith, before)))));
    }

pub returns-clause-same : goal.returns-clause-same
returns-clause-same c = ap (λ (l : Link). record { shape = l.shape; split = c.args.self.now.split }) c.rest.ensures.same

pub returns-clause-legal : goal.returns-clause-legal
returns-clause-legal c = λ m h few stands.
    let quota = c.args.self.now in
    let rests = c.requires.rests in
    (quiet-ticks (rules_of quota) rests.0 c.args.ticks (account_in quota.link) h (rows-have quota.link) stands rests.1.0 rests.1.1).replied m few
