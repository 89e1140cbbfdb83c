-- There are no quotas, and so no shares.
use Rattle.std.proofs.Common.{◌≡◌, true, false, sym, ap, ◌∙◌, subst}
use Rattle.link_steps.specs.Split.{Link, SplitFits}
use Rattle.link_server.specs.Held.{reservations_held}
use Rattle.link_server.specs.State.{account_in}
use Rattle.link_quota.specs.Shares.{AreShares}
use Rattle.link_quota.specs.State.{rules_of}
use Rattle.link_quota.specs.Stood.{IsLegallyStood}
use Rattle.link_quota.proofs.SomeLegalHistory.{shares-unsplit}
use Rattle.link_quota.proofs.SplitSteps.{goes-all-unsplit, instead-unsplit, same-shape, stood-all}
use Rattle.link_server.proofs.LinkRests.{due-now}
use Rattle.link_quota.proofs.quota_link.QuotaLink.whole.Goals as goal

pub returns-clause-goes : goal.returns-clause-goes
returns-clause-goes c =
    goes-all-unsplit c.args.self.now.split c.args.self.now.link c.step.new.self c.args.ask.now c.step.result c.requires.whole c.requires.fits (ap (λ (l : Link). l.shape) c.step.ensures.same) c.step.ensures.legal c.step.ensures.entered

pub returns-clause-instead : goal.returns-clause-instead
returns-clause-instead c = instead-unsplit c.args.self.now.split c.args.self.now.link c.args.ask.now c.step.result c.requires.whole c.step.ensures.instead

pub invariant_of-self : goal.invariant_of-self
invariant_of-self c =
    let shape = ap (λ (l : Link). l.shape) c.step.ensures.same in
    let goes = goes-all-unsplit c.args.self.now.split c.args.self.now.link c.step.new.self c.args.ask.now c.step.result c.requires.whole c.requires.fits shape c.step.ensures.legal c.step.ensures.entered in
    let same = same-shape c.args.self.now.link c.step.new.self c.step.result shape c.step.ensures.memory in
    record {
      fits = subst (λ s. SplitFits (record { shape = s; split = c.args.self.now.split })) (sym shape) c.args.self.now.fits;
      shared = subst (λ s. AreShares (record { shape = s; split = c.args.self.now.split }) (reservations_held c.step.new.self) c.args.self.now.shares.items) (sym shape)
          (shares-unsplit (rules_of c.args.self.now) (reservations_held c.args.self.now.link) (reservations_held c.step.new.self) c.args.self.now.shares.items c.requires.whole c.args.self.now.shared);
      listed = λ splits. absurd (let clash : true ≡ false = sym splits ∙ c.requires.whole in cc);
      room = λ splits. absurd (let clash : true ≡ false = sym splits ∙ c.requires.whole in cc);
      stood = subst (λ s. IsLegallyStood (record { shape = s; split = c.args.self.now.split }) (account_in c.step.new.self)) (sym shape)
          (stood-all (rules_of c.args.self.now) (account_in c.args.self.now.link) (account_in c.step.new.self) c.args.ask.now c.step.result goes same c.args.self.now.stood);
      rests = due-now c.step.new.self.shape (account_in c.step.new.self);
    }
