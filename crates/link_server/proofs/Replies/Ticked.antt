-- What the parts of a tick make of a link, one after another, is what the account says of the tick.
use Rattle.std.proofs.Common.{◌≡◌, ℕ, suc, ◌+◌, List, ◌++◌, Bool, length, refl, ap, ◌∙◌, arith, append_assoc, length-append}
use Rattle.std.specs.Prelude.{Option, nat_eq}
use Rattle.link_server.proofs.Words.{Tick, Reply, LinkShape, whole, best_packet, left_at, Arrival, SourceStep, Rests, Brings, Drops, taken_by, dropped_by, account, QueueAccount}
use Rattle.link_steps.specs.declared.replies.Reply.TheVariants.{Ticked}
use Rattle.link_steps.specs.declared.replies.Sent.{Sent}
use Rattle.link_steps.specs.Account.{Account, AccountRow, account_reply, account_after, account_tick_reply, account_after_tick, account_dropped, account_rows_after, held_rows, from_sources, account_best, brought, present, occupies, served, departs, best_departs, still_here, still_on}
use Rattle.link_steps.proofs.Account.{same-kept}
use Rattle.link_server.specs.Sources.{queue_after}

-- once the sources and the best-effort packet have come, the queue is the account's, and the link serves the packet that it says
pub record IsServedAs (shape : LinkShape) (k : Account) (mid : QueueAccount) : Type 0 where
  pub here : mid.here ≡ present shape k
  pub taken : mid.taken ≡ k.taken + length (brought shape k)
  pub occupant : served k.clock mid.here mid.on ≡ occupies shape k
  pub best : mid.best ≡ left_at (k.clock + 1) k.best_left

pub all-came : (shape : LinkShape) (clock : ℕ) (queue src mid : QueueAccount) (rows : List AccountRow) (step : SourceStep)
    → src ≡ queue_after shape.bounds clock (held_rows shape (account clock queue rows)) src.looked queue
    → step ≡ account_best shape (account clock queue rows)
    → mid ≡ record src { taken = src.taken + taken_by step; here = src.here ++ best_packet step shape.bounds (suc src.taken) clock; best = left_at (clock + 1) src.best; looked = mid.looked }
    → IsServedAs shape (account clock queue rows) mid
all-came shape clock queue src mid rows step brings is came = record {
  here = here;
  taken = omega (arith, ap (λ (q : QueueAccount). q.taken) came, count, one, parts);
  occupant = ap (λ all. served clock all mid.on) here ∙ ap (served clock (present shape k)) (ap (λ (q : QueueAccount). q.on) came ∙ ap (λ (q : QueueAccount). q.on) brings);
  best = ap (λ (q : QueueAccount). q.best) came ∙ ap (λ (q : QueueAccount). left_at (clock + 1) q.best) brings;
} where
  k : Account
  k = account clock queue rows

  count : src.taken ≡ k.taken + length (from_sources shape k)
  count = ap (λ (q : QueueAccount). q.taken) brings

  last : List Arrival
  last = best_packet (account_best shape k) shape.bounds (suc (k.taken + length (from_sources shape k))) clock

  here : mid.here ≡ present shape k
  here =
      ap (λ (q : QueueAccount). q.here) came
      ∙ ap (λ (q : QueueAccount). q.here ++ best_packet step shape.bounds (suc q.taken) clock) brings
      ∙ ap (λ s. (k.here ++ from_sources shape k) ++ best_packet s shape.bounds (suc (k.taken + length (from_sources shape k))) clock) is
      ∙ append_assoc k.here (from_sources shape k) last

  by-step : (s : SourceStep) → taken_by s ≡ length (best_packet s shape.bounds (suc (k.taken + length (from_sources shape k))) clock)
  by-step (Brings size) = refl
  by-step Rests = refl
  by-step Drops = refl

  one : taken_by step ≡ length last
  one = ap taken_by is ∙ by-step (account_best shape k)

  parts : length (brought shape k) ≡ length (from_sources shape k) + length last
  parts = length-append (from_sources shape k) last

-- the reply
pub tick-replied : (shape : LinkShape) (k : Account) (mid : QueueAccount) (sent : Option Sent) (best lost_best : Bool) (step : SourceStep) → IsServedAs shape k mid
    → sent ≡ departs shape k.clock (served k.clock mid.here mid.on) → best ≡ best_departs shape k.clock (served k.clock mid.here mid.on) → step ≡ account_best shape k → lost_best ≡ nat_eq (dropped_by step) 1
    → Ticked k.clock (account_dropped shape.bounds k.here k.clock (held_rows shape k)) sent best lost_best ≡ account_reply (whole shape) k Tick
unfolding account_reply account_tick_reply
tick-replied shape k mid sent best lost_best step came left best_left is loses =
    let full = account_dropped shape.bounds k.here k.clock (held_rows shape k) in
    ap (λ s. Ticked k.clock full s best lost_best) (left ∙ ap (departs shape k.clock) came.occupant)
    ∙ ap (λ b. Ticked k.clock full (departs shape k.clock (occupies shape k)) b lost_best) (best_left ∙ ap (best_departs shape k.clock) came.occupant)
    ∙ ap (Ticked k.clock full (departs shape k.clock (occupies shape k)) (best_departs shape k.clock (occupies shape k))) (loses ∙ ap (λ s. nat_eq (dropped_by s) 1) is)

-- the account after it
pub tick-kept : (shape : LinkShape) (k : Account) (last : List AccountRow) (mid new : QueueAccount) (reply : Reply) → IsServedAs shape k mid → last ≡ account_rows_after shape.bounds k.here k.clock k.taken (held_rows shape k)
    → new ≡ record mid { here = still_here shape.rate k.clock (served k.clock mid.here mid.on) mid.here; on = still_on shape.rate k.clock (served k.clock mid.here mid.on); looked = new.looked }
    → account (k.clock + 1) new last ≡ account_after shape k Tick reply
unfolding account_after account_after_tick
tick-kept shape k last mid new reply came rows left =
    let later : k.clock + 1 ≡ suc k.clock = omega arith in
    same-kept (account (k.clock + 1) new last) (account_after shape k Tick reply) later (ap (λ (q : QueueAccount). q.taken) left ∙ came.taken) rows
    (ap (λ (q : QueueAccount). q.here) left ∙ ap (λ start. still_here shape.rate k.clock start mid.here) came.occupant ∙ ap (still_here shape.rate k.clock (occupies shape k)) came.here)
    (ap (λ (q : QueueAccount). q.on) left ∙ ap (still_on shape.rate k.clock) came.occupant)
    (ap (λ (q : QueueAccount). q.best) left ∙ came.best ∙ ap (λ t. left_at t k.best_left) later)
