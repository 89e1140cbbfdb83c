-- The packet that occupies the link in a tick can go on in it, and departs at its end if that is its last tick.
use Rattle.std.proofs.Common.{◌≡◌, ℕ, suc, ◌+◌, ◌<◌, ◌≤◌, Bool, true, false, cond, not, List, [], ◌∷◌, Option, Some, None, refl, ◌∙◌, arith}
use Rattle.std.proofs.lemmas.Bool.{leb-true, lt-leb, le-leb, eq-eqb, ne_eqb, cond_both}
use Rattle.link_server.proofs.Words.{filter, LinkShape, is_best, Each, QueueAccount}
use Rattle.link_steps.specs.declared.replies.Sent.{Sent}
use Rattle.link_steps.specs.Account.{is_eligible_by, is_other, departs, best_departs, still_here, still_on}
use Rattle.link_steps.specs.Replies.{sent_of}
use Rattle.link_steps.specs.Service.{Arrival, Start, leaves_at}
use Rattle.traffic_contract.proofs.LoadLimits.{ceil_quotient-some}
use Rattle.link_server.specs.declared.queue.held_packet.Gone.{Gone}
use Rattle.link_server.specs.Departed.{leaver}
use Rattle.link_server.specs.Packets.{gone_of}
use Rattle.link_server.specs.Serving.{ServiceGoesOn}

-- those of the packets here that are eligible
abbrev pub IsDue : ℕ → Arrival → Type 0
IsDue clock p = p.eligible ≤ clock

pub are-due : (clock : ℕ) (here : List Arrival) → Each (IsDue clock) (filter (is_eligible_by clock) here)
are-due clock [] = tt
are-due clock (p ∷ here) =
    let rest = are-due clock here in
    cond_both (is_eligible_by clock p) (p ∷ filter (is_eligible_by clock) here) (filter (is_eligible_by clock) here) (Each (IsDue clock))
    (λ passed. (leb-true p.eligible clock passed, rest))
    (λ _. rest)

-- one that starts in the tick leaves later
pub starts-on : (shape : LinkShape) (clock : ℕ) (p : Arrival) → IsDue clock p → 1 ≤ p.size → ServiceGoesOn shape clock (record { packet = p; tick = clock })
starts-on shape clock p due some = (let work = ceil_quotient-some p.size shape.rate shape.rate_least some in record { eligible = due; leaves_later = omega (arith, work) })

-- ---- what leaves, where this packet occupies the link

module _ (shape : LinkShape) (clock : ℕ) (occupies : Option Start) (start : Start) (is : occupies ≡ Some start) where
  -- one that leaves later doesn't yet
  pub not-yet-sent : clock + 1 < leaves_at shape.rate start → None ≡ departs shape clock occupies
  not-yet-sent later = rw (is, ne_eqb (leaves_at shape.rate start) (suc clock) (λ same. absurd (omega (arith, same, later)))) refl

  pub not-yet-best : clock + 1 < leaves_at shape.rate start → false ≡ best_departs shape clock occupies
  not-yet-best later = rw (is, ne_eqb (leaves_at shape.rate start) (suc clock) (λ same. absurd (omega (arith, same, later)))) refl

  pub not-yet-gone : clock + 1 < leaves_at shape.rate start → None ≡ leaver shape.rate clock occupies
  not-yet-gone later = rw (is, lt-leb (leaves_at shape.rate start) (suc clock) (omega (arith, later))) refl

  -- where its last tick is over it departs
  pub sent-now : (sent : Option Sent) → ServiceGoesOn shape clock start → leaves_at shape.rate start ≤ clock + 1 → sent ≡ cond (is_best shape.bounds start.packet) None (Some (sent_of shape start)) → sent ≡ departs shape clock occupies
  sent-now sent goes last made =
      let later = goes.leaves_later in
      made ∙ rw (is, eq-eqb (leaves_at shape.rate start) (suc clock) (omega (arith, later, last))) (by-best (is_best shape.bounds start.packet)) where
        by-best : (b : Bool) → cond b None (Some (sent_of shape start)) ≡ cond (not b) (Some (sent_of shape start)) None
        by-best true = refl
        by-best false = refl

  pub best-now : (best : Bool) → ServiceGoesOn shape clock start → leaves_at shape.rate start ≤ clock + 1 → best ≡ is_best shape.bounds start.packet → best ≡ best_departs shape clock occupies
  best-now best goes last made =
      let later = goes.leaves_later in
      rw (is, eq-eqb (leaves_at shape.rate start) (suc clock) (omega (arith, later, last))) made

  pub gone-now : (left : Option Gone) → leaves_at shape.rate start ≤ clock + 1 → left ≡ Some (gone_of start.packet) → left ≡ leaver shape.rate clock occupies
  gone-now left last made = made ∙ rw (is, le-leb (leaves_at shape.rate start) (suc clock) (omega (arith, last))) refl

-- ---- the queue once the tick is served

-- the queue at the end of the tick in which this packet occupied the link, if one did
abbrev pub served-queue : ℕ → ℕ → QueueAccount → Option Start → ℕ → QueueAccount
served-queue rate clock queue on looked = record queue { here = still_here rate clock on queue.here; on = still_on rate clock on; looked = looked }

module _ (rate clock looked : ℕ) (queue : QueueAccount) (on : Option Start) where
  -- where none did, nothing departs
  pub none-served : None ≡ on → record queue { on = None; looked = looked } ≡ served-queue rate clock queue on looked
  none-served none = rw (← none) refl

  -- one that leaves later stays on
  pub stays-served : (start : Start) → on ≡ Some start → clock + 1 < leaves_at rate start → record queue { on = Some start; looked = looked } ≡ served-queue rate clock queue on looked
  stays-served start is later = rw (is, lt-leb (leaves_at rate start) (suc clock) (omega (arith, later))) refl

  -- and one whose last tick is over departs
  pub departs-served : (start : Start) → on ≡ Some start → leaves_at rate start ≤ clock + 1 → record queue { here = filter (is_other start) queue.here; on = None; looked = looked } ≡ served-queue rate clock queue on looked
  departs-served start is last = rw (is, le-leb (leaves_at rate start) (suc clock) (omega (arith, last))) refl
