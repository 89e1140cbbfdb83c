-- The answers to a pour, case by case, and the best-effort packet of a tick.
use Rattle.std.proofs.Common.{◌≡◌, ℕ, suc, ◌+◌, ◌<◌, ◌≤◌, ◌++◌, ◌∷◌, [], Bool, true, false, List, length, Option, Some, None, refl, sym, ap, ◌∙◌, arith}
use Rattle.std.proofs.lemmas.Bool.{lt-leb, le-leb}
use Rattle.link_server.proofs.Words.{find, filter, nat_lt, channel_number, ChanNo, Arrival, Pour, Refusal, Planned, Refused, LinkShape, busy, SourcePacket, planned_from, is_for, left_at, SourceStep, Rests, Brings, Drops, source_step, taken_by, whole, account, QueueAccount}
use Rattle.link_steps.specs.declared.replies.Refusal.TheVariants.{TooBig}
use Rattle.link_steps.specs.Account.{Account, AccountRow, waits_here, account_waiting, account_best, account_reply, account_after}
use Rattle.link_steps.specs.Replies.{pour_reply}
use Rattle.link_steps.specs.BestEffort.{best_step, best_arrival, best_packet}
use Rattle.std.proofs.lemmas.List.{append-nil}
use Rattle.link_server.proofs.Replies.Account.{queue-same}
use Rattle.link_server.specs.Planned.{size_of}
use Rattle.link_server.proofs.Calendars.Planning.{after-none, none-left}
use Rattle.net_units.proofs.KnownByNumber.{same-channel}

-- the account with another best-effort plan
abbrev pub with_plan : Account → List SourcePacket → Account
with_plan k plan = record k { best_left = plan }

pub pour-busy : (shape : LinkShape) (t : ℕ) (queue : QueueAccount) (rows : List AccountRow) (count gap size : ℕ) (refusal : Refusal) → Some refusal ≡ busy (length queue.best) → Refused refusal ≡ account_reply (whole shape) (account t queue rows) (Pour count gap size)
unfolding account_reply pour_reply
pour-busy shape t queue rows count gap size refusal left = rw (sym left) refl

pub pour-big : (shape : LinkShape) (t : ℕ) (queue : QueueAccount) (rows : List AccountRow) (count gap size : ℕ) → None ≡ busy (length queue.best) → shape.cap < size → Refused (TooBig size shape.cap) ≡ account_reply (whole shape) (account t queue rows) (Pour count gap size)
unfolding account_reply pour_reply
pour-big shape t queue rows count gap size left big = rw (sym left, lt-leb size shape.cap big) refl

pub pour-planned : (shape : LinkShape) (t : ℕ) (queue : QueueAccount) (rows : List AccountRow) (count gap size : ℕ) → None ≡ busy (length queue.best) → size ≤ shape.cap → Planned t ≡ account_reply (whole shape) (account t queue rows) (Pour count gap size)
unfolding account_reply pour_reply
pour-planned shape t queue rows count gap size left small = rw (sym left, le-leb size shape.cap small) refl

pub pour-same : (shape : LinkShape) (k : Account) (count gap size : ℕ) (refusal : Refusal) → k ≡ account_after shape k (Pour count gap size) (Refused refusal)
unfolding account_after
pour-same shape k count gap size refusal = refl

pub pour-kept : (shape : LinkShape) (t : ℕ) (queue : QueueAccount) (rows : List AccountRow) (count gap size clock : ℕ) → None ≡ busy (length queue.best) → account t (record queue { best = planned_from t gap size count }) rows ≡ account_after shape (account t queue rows) (Pour count gap size) (Planned clock)
unfolding account_after
pour-kept shape t queue rows count gap size clock left =
    ap (with_plan (account t queue rows)) (after-none queue.best (planned_from t gap size count) (none-left (length queue.best) left))

-- ---- the step of the best-effort plan, where its packet fits or not

pub best-loses : (fits : Bool) (found : Option SourcePacket) (size : ℕ) → Some size ≡ size_of found → fits ≡ false → source_step fits found ≡ Drops
best-loses fits None size some full = cc
best-loses fits (Some p) size some full = rw full refl

pub best-brings : (fits : Bool) (found : Option SourcePacket) (size : ℕ) → Some size ≡ size_of found → fits ≡ true → source_step fits found ≡ Brings size
best-brings fits None size some free = cc
best-brings fits (Some p) size some free = rw free (let e : size ≡ p.size = cc in ap Brings (sym e))

-- where none is planned it doesn't matter how many wait
pub best-none : (waiting most t : ℕ) (plan : List SourcePacket) → find (is_for t) plan ≡ None → source_step false (find (is_for t) plan) ≡ best_step waiting most t plan
unfolding best_step
best-none waiting most t plan none = rw none refl

-- else it fits where fewer wait than may
pub best-some : (fits : Bool) (waiting most t : ℕ) (plan : List SourcePacket) → fits ≡ nat_lt waiting most → source_step fits (find (is_for t) plan) ≡ best_step waiting most t plan
unfolding best_step
best-some fits waiting most t plan same = ap (λ b. source_step b (find (is_for t) plan)) same

-- the step that the code finds is that of the account
pub best-step-is : (shape : LinkShape) (k : Account) (fits : Bool) (plan : List SourcePacket) → source_step fits (find (is_for k.clock) k.best_left) ≡ best_step (length (filter (waits_here shape.bounds k.on) k.here)) shape.best k.clock k.best_left → plan ≡ k.best_left → source_step fits (find (is_for k.clock) plan) ≡ account_best shape k
unfolding account_best account_waiting
best-step-is shape k fits plan step left = ap (λ p. source_step fits (find (is_for k.clock) p)) left ∙ step

pub waiting-is : (shape : LinkShape) (k : Account) → length (filter (waits_here shape.bounds k.on) k.here) ≡ account_waiting shape k
unfolding account_waiting
waiting-is shape k = refl

-- ---- the channel that a best-effort packet names

pub best-made : (bounds : List ℕ) (place size t level : ℕ) (chan : ChanNo) → channel_number chan ≡ 0 → level ≡ suc (length bounds)
    → record { place = place; lead = place; chan = chan; number = 0; size = size; at = t; eligible = t; level = level; next = None } ≡ best_arrival bounds place size t
best-made bounds place size t level chan none below =
    ap (λ n. made n chan) below ∙ ap (made (suc (length bounds))) (same-channel chan (best_arrival bounds place size t).chan none) where
      made : ℕ → ChanNo → Arrival
      made n c = record { place = place; lead = place; chan = c; number = 0; size = size; at = t; eligible = t; level = n; next = None }

-- ---- the queue once the step is made

-- the queue after a step of the best-effort plan
abbrev pub stepped-queue : List ℕ → ℕ → QueueAccount → SourceStep → ℕ → QueueAccount
stepped-queue bounds clock queue step looked =
    record queue { taken = queue.taken + taken_by step; here = queue.here ++ best_packet step bounds (suc queue.taken) clock; best = left_at (clock + 1) queue.best; looked = looked }

-- a step that takes no packet leaves the plan alone behind
nothing-taken : (bounds : List ℕ) (clock : ℕ) (queue : QueueAccount) (left : List SourcePacket) → left ≡ left_at (clock + 1) queue.best → record queue { best = left } ≡ stepped-queue bounds clock queue Rests queue.looked
nothing-taken bounds clock queue left over =
    let same : queue.taken ≡ queue.taken + 0 = omega arith in
    queue-same (record queue { best = left }) (stepped-queue bounds clock queue Rests queue.looked) same (sym (append-nil queue.here)) refl over refl refl refl refl

pub rests-queue : (bounds : List ℕ) (clock : ℕ) (queue : QueueAccount) (left : List SourcePacket) (step : SourceStep) → step ≡ Rests → left ≡ left_at (clock + 1) queue.best → record queue { best = left } ≡ stepped-queue bounds clock queue step queue.looked
rests-queue bounds clock queue left step is over = rw is (nothing-taken bounds clock queue left over)

pub drops-queue : (bounds : List ℕ) (clock : ℕ) (queue : QueueAccount) (left : List SourcePacket) (step : SourceStep) → step ≡ Drops → left ≡ left_at (clock + 1) queue.best → record queue { best = left } ≡ stepped-queue bounds clock queue step queue.looked
drops-queue bounds clock queue left step is over = rw is (nothing-taken bounds clock queue left over)

pub brings-queue : (bounds : List ℕ) (clock size looked : ℕ) (queue : QueueAccount) (left : List SourcePacket) (step : SourceStep) (packet : Arrival) → step ≡ Brings size → left ≡ left_at (clock + 1) queue.best → packet ≡ best_arrival bounds (queue.taken + 1) size clock
    → record queue { taken = queue.taken + 1; here = queue.here ++ packet ∷ []; best = left; looked = looked } ≡ stepped-queue bounds clock queue step looked
brings-queue bounds clock size looked queue left step packet is over made =
    let next : queue.taken + 1 ≡ suc queue.taken = omega arith in
    let put : queue.here ++ packet ∷ [] ≡ queue.here ++ best_arrival bounds (suc queue.taken) size clock ∷ [] = ap (λ p. queue.here ++ p ∷ []) (made ∙ ap (λ n. best_arrival bounds n size clock) next) in
    rw is (queue-same (record queue { taken = queue.taken + 1; here = queue.here ++ packet ∷ []; best = left; looked = looked }) (stepped-queue bounds clock queue (Brings size) looked) refl put refl over refl refl refl refl)
