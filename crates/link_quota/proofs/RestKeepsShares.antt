-- While a split link rests its groups hold what they held, and some legal history stands for it.
use Rattle.std.proofs.Common.{ℕ, ◌+◌, ◌<◌, ◌≤◌, ap, ◌∙◌, subst, arith, ◌∷◌}
use Rattle.link_steps.specs.declared.asks.Ask.TheVariants.{Tick}
use Rattle.link_steps.specs.Account.{Account, HasContracts, StandsFor}
use Rattle.link_steps.specs.Quiet.{RestsUntil, later_by, quiet_reply, quiet_ticks}
use Rattle.link_steps.specs.Split.{Link}
use Rattle.link_steps.proofs.QuietTicks.{quiet-ticks}
use Rattle.link_quota.specs.Steps.{GoesOn}
use Rattle.link_quota.specs.Stood.{StandsForNoLegal, IsLegallyStood}

pub later-stood : (link : Link) (until n : ℕ) (k : Account) → HasContracts k → RestsUntil link.shape until k → k.clock + n ≤ until → IsLegallyStood link k → IsLegallyStood link (later_by n k)
later-stood link until n k each rests within stood =
    λ (none : StandsForNoLegal link (later_by n k)). stood (λ h legal stands.
    let on = quiet-ticks link until n k h each stands rests within in
    none (quiet_ticks n k.clock h) (on.legal legal) on.stands)

-- one tick is a step
pub one-goes : (link : Link) (until : ℕ) (k : Account) → HasContracts k → RestsUntil link.shape until k → k.clock < until → GoesOn link k (later_by 1 k) Tick (quiet_reply k.clock)
unfolding quiet_ticks
one-goes link until k each rests before = record {
  fits = tt;
  legal = λ h stands. ap quiet_reply (omega arith) ∙ (quiet-ticks link until 1 k h each stands rests (omega (arith, before))).replied 0 (omega arith);
  entered = λ h stands. subst (λ t. StandsFor link.shape (later_by 1 k) (record { ask = Tick; reply = quiet_reply t } ∷ h)) (omega arith) (quiet-ticks link until 1 k h each stands rests (omega (arith, before))).stands;
}
