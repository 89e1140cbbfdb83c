-- A tick in which nothing falls due changes the clock alone, and so do n of them.
use Rattle.std.proofs.Common.{◌≡◌, ℕ, zero, suc, ◌+◌, ◌<◌, ◌≤◌, Bool, false, List, [], ◌∷◌, ◌++◌, length, append-nil, Option, Some, None, refl, sym, ap, ◌∙◌, arith, nat_eq}
use Rattle.std.proofs.lemmas.Bool.{ne_eqb, le-leb, lt-leb}
use Rattle.std.specs.Prelude.{filter, find}
use Rattle.link_steps.specs.declared.asks.Ask.TheVariants.{Tick}
use Rattle.link_steps.specs.declared.replies.Entry.{Entry}
use Rattle.link_steps.specs.declared.replies.Reply.TheVariants.{Ticked}
use Rattle.link_steps.specs.declared.replies.Sent.{Sent}
use Rattle.link_steps.specs.declared.shape.LinkShape.{LinkShape}
use Rattle.link_steps.specs.Account.{Account, AccountRow, HasContracts, StandsFor, account_stays, account_step, past_tick, account_packets, account_rows_after, account_dropped, account_best, account_reply, account_after, held_rows, brought, present, served, still_on, still_here, departs, best_departs, is_eligible_by, account_after_tick, account_tick_reply}
use Rattle.link_steps.specs.BestEffort.{best_step}
use Rattle.link_steps.specs.Legal.{IsLegal}
use Rattle.link_steps.specs.Lists.{Each}
use Rattle.link_steps.specs.Replies.{reply_to}
use Rattle.link_steps.specs.Rows.{SourcePacket, is_for, left_at}
use Rattle.link_steps.specs.Service.{Arrival, Start, leaves_at, first_in_line}
use Rattle.link_steps.specs.Sources.{Rests, dropped_by}
use Rattle.link_steps.specs.Split.{Link}
use Rattle.link_steps.proofs.SearchAndFilter.{Each-if}
use Rattle.link_steps.proofs.Account.{same-kept, stands-reply, stands-entry}
use Rattle.link_steps.specs.Quiet.{IsPlannedFrom, IsEligibleFrom, RowRests, ServiceRests, RestsUntil, quiet_reply, quiet_ticks, later_by, GoesOnQuietly}

-- ---- plans

-- none is planned for a tick before, and all are left after it
pub none-planned : (until t : ℕ) (left : List SourcePacket) → Each (IsPlannedFrom until) left → t < until → find (is_for t) left ≡ None
none-planned until t [] plans before = refl
none-planned until t (p ∷ left) plans before =
    rw (ne_eqb p.tick t (λ same. (let from = plans.0 in omega (arith, from, before, same)))) (none-planned until t left plans.1 before)

pub all-left : (until t : ℕ) (left : List SourcePacket) → Each (IsPlannedFrom until) left → t < until → left_at (suc t) left ≡ left
all-left until t [] plans before = refl
all-left until t (p ∷ left) plans before =
    let from = plans.0 in
    rw (le-leb (suc t) p.tick (omega (arith, from, before))) (ap (λ rest. p ∷ rest) (all-left until t left plans.1 before))

-- ---- rows

row-rests : (bounds : List ℕ) (here : List Arrival) (until t : ℕ) (row : AccountRow) → Each (IsPlannedFrom until) row.left → t < until → account_step bounds here t row ≡ Rests
unfolding account_step
row-rests bounds here until t row plans before = rw (none-planned until t row.left plans before) refl

row-past : (until t : ℕ) (row : AccountRow) → Each (IsPlannedFrom until) row.left → t < until → past_tick t row ≡ row
row-past until t row plans before = ap (λ left. record row { left = left }) (all-left until t row.left plans before)

-- all rows stay
rows-stay : (bounds : List ℕ) (until t : ℕ) (rows : List AccountRow) → Each (RowRests bounds t until) rows → t < until → filter (account_stays bounds t) rows ≡ rows
rows-stay bounds until t [] each before = refl
rows-stay bounds until t (row ∷ rows) each before =
    rw (each.0.stays t (omega arith) before) (ap (λ rest. row ∷ rest) (rows-stay bounds until t rows each.1 before))

module _ (bounds : List ℕ) (here : List Arrival) (until t : ℕ) where
  -- they bring no packet, drop none, and stay as they are
  rows-bring : (taken : ℕ) (rows : List AccountRow) → Each (RowRests bounds t until) rows → t < until → account_packets bounds here t taken rows ≡ []
  unfolding account_packets
  rows-bring taken [] each before = refl
  rows-bring taken (row ∷ rows) each before =
      rw (row-rests bounds here until t row each.0.plans before) (rows-bring (taken + 0) rows each.1 before)

  rows-lose : (rows : List AccountRow) → Each (RowRests bounds t until) rows → t < until → account_dropped bounds here t rows ≡ 0
  unfolding account_dropped
  rows-lose [] each before = refl
  rows-lose (row ∷ rows) each before =
      rw (row-rests bounds here until t row each.0.plans before) (omega (arith, rows-lose rows each.1 before))

  rows-same : (taken : ℕ) (rows : List AccountRow) → Each (RowRests bounds t until) rows → t < until → account_rows_after bounds here t taken rows ≡ rows
  unfolding account_rows_after
  rows-same taken [] each before = refl
  rows-same taken (row ∷ rows) each before =
      rw (row-rests bounds here until t row each.0.plans before)
      (ap (λ first. first ∷ account_rows_after bounds here t (taken + 0) rows) (row-past until t row each.0.plans before)
      ∙ ap (λ rest. row ∷ rest) (rows-same (taken + 0) rows each.1 before))

-- ---- the service

none-eligible : (until t : ℕ) (here : List Arrival) → Each (IsEligibleFrom until) here → t < until → filter (is_eligible_by t) here ≡ []
none-eligible until t [] each before = refl
none-eligible until t (p ∷ here) each before =
    let from = each.0 in
    rw (lt-leb p.eligible t (omega (arith, from, before))) (none-eligible until t here each.1 before)

module _ (rate until t : ℕ) (here : List Arrival) where
  -- none starts
  none-served : Each (IsEligibleFrom until) here → t < until → served t here None ≡ None
  unfolding first_in_line
  none-served each before = rw (none-eligible until t here each before) refl

  -- what is on the link stays on it, and those here stay here
  on-stays : (on : Option Start) → ServiceRests rate until here on → t < until → still_on rate t (served t here on) ≡ on
  on-stays None rests before = rw (none-served rests before) refl
  on-stays (Some start) rests before = rw (lt-leb (leaves_at rate start) (suc t) (omega (arith, rests, before))) refl

  here-stays : (on : Option Start) → ServiceRests rate until here on → t < until → still_here rate t (served t here on) here ≡ here
  here-stays None rests before = rw (none-served rests before) refl
  here-stays (Some start) rests before = rw (lt-leb (leaves_at rate start) (suc t) (omega (arith, rests, before))) refl

module _ (shape : LinkShape) (until : ℕ) where
  -- and nothing departs
  none-departs : (t : ℕ) (here : List Arrival) (on : Option Start) → ServiceRests shape.rate until here on → t < until → departs shape t (served t here on) ≡ None
  none-departs t here None rests before = rw (none-served shape.rate until t here rests before) refl
  none-departs t here (Some start) rests before =
      rw (ne_eqb (leaves_at shape.rate start) (suc t) (λ same. omega (arith, rests, before, same))) refl

  no-best-departs : (t : ℕ) (here : List Arrival) (on : Option Start) → ServiceRests shape.rate until here on → t < until → best_departs shape t (served t here on) ≡ false
  no-best-departs t here None rests before = rw (none-served shape.rate until t here rests before) refl
  no-best-departs t here (Some start) rests before =
      rw (ne_eqb (leaves_at shape.rate start) (suc t) (λ same. omega (arith, rests, before, same))) refl

  -- ---- one tick

  rows-held : (k : Account) → RestsUntil shape until k → k.clock < until → held_rows shape k ≡ k.rows
  rows-held k rests before = rows-stay shape.bounds until k.clock k.rows rests.rows before

  best-rests : (k : Account) → RestsUntil shape until k → k.clock < until → account_best shape k ≡ Rests
  unfolding account_best best_step
  best-rests k rests before = rw (none-planned until k.clock k.best_left rests.best before) refl

  none-brought : (k : Account) → RestsUntil shape until k → k.clock < until → brought shape k ≡ []
  none-brought k rests before =
      rw (rows-held k rests before)
      (rw (rows-bring shape.bounds k.here until k.clock k.taken k.rows rests.rows before)
      (rw (best-rests k rests before) refl))

  same-present : (k : Account) → RestsUntil shape until k → k.clock < until → present shape k ≡ k.here
  same-present k rests before = ap (λ new. k.here ++ new) (none-brought k rests before) ∙ append-nil k.here

  pub quiet-after : (k : Account) → RestsUntil shape until k → k.clock < until → account_after_tick shape k ≡ record k { clock = suc k.clock }
  unfolding account_after_tick
  quiet-after k rests before =
      let same = same-present k rests before in
      same-kept (account_after_tick shape k) (record k { clock = suc k.clock }) refl
      (ap (λ new. k.taken + length new) (none-brought k rests before) ∙ omega arith)
      (ap (account_rows_after shape.bounds k.here k.clock k.taken) (rows-held k rests before) ∙ rows-same shape.bounds k.here until k.clock k.taken k.rows rests.rows before)
      (ap (λ here. still_here shape.rate k.clock (served k.clock here k.on) here) same ∙ here-stays shape.rate until k.clock k.here k.on rests.service before)
      (ap (λ here. still_on shape.rate k.clock (served k.clock here k.on)) same ∙ on-stays shape.rate until k.clock k.here k.on rests.service before)
      (all-left until k.clock k.best_left rests.best before)

same-tick : (t lost : ℕ) (sent : Option Sent) (best_sent best_lost : Bool) → lost ≡ 0 → sent ≡ None → best_sent ≡ false → best_lost ≡ false → Ticked t lost sent best_sent best_lost ≡ quiet_reply t
same-tick t lost sent best_sent best_lost none left kept held = rw (none, left, kept, held) refl

pub quiet-tick : (shape : LinkShape) (until : ℕ) (k : Account) → RestsUntil shape until k → k.clock < until → account_tick_reply shape k ≡ quiet_reply k.clock
unfolding account_tick_reply
quiet-tick shape until k rests before =
    let same = same-present shape until k rests before in
    same-tick k.clock _ _ _ _
    (ap (account_dropped shape.bounds k.here k.clock) (rows-held shape until k rests before) ∙ rows-lose shape.bounds k.here until k.clock k.rows rests.rows before)
    (ap (λ here. departs shape k.clock (served k.clock here k.on)) same ∙ none-departs shape until k.clock k.here k.on rests.service before)
    (ap (λ here. best_departs shape k.clock (served k.clock here k.on)) same ∙ no-best-departs shape until k.clock k.here k.on rests.service before)
    (ap (λ step. nat_eq (dropped_by step) 1) (best-rests shape until k rests before))

-- ---- n of them

pub later-rests : (shape : LinkShape) (until n : ℕ) (k : Account) → RestsUntil shape until k → RestsUntil shape until (later_by n k)
later-rests shape until n k rests = record {
  rows = Each-if (RowRests shape.bounds k.clock until) (RowRests shape.bounds (k.clock + n) until) k.rows (λ row row_rests. record { plans = row_rests.plans; stays = λ t from before. row_rests.stays t (omega (arith, from)) before }) rests.rows;
  best = rests.best;
  service = rests.service;
}

pub one-more : (n : ℕ) (k : Account) → record (later_by n k) { clock = suc (k.clock + n) } ≡ later_by (suc n) k
one-more n k = ap (λ clock. record k { clock = clock }) (omega arith)

pub none-later : (k : Account) → k ≡ later_by 0 k
none-later k = ap (λ clock. record k { clock = clock }) (omega arith)

-- the account stands for the history with them
quiet-stands : (link : Link) (until n : ℕ) (k : Account) (h : List Entry) → HasContracts k → StandsFor link.shape k h → RestsUntil link.shape until k → k.clock + n ≤ until → StandsFor link.shape (later_by n k) (quiet_ticks n k.clock h)
unfolding quiet_ticks account_after
quiet-stands link until zero k h each stands rests within = sym (none-later k) ∙ stands
quiet-stands link until (suc n) k h each stands rests within =
    sym (quiet-after link.shape until (later_by n k) (later-rests link.shape until n k rests) (omega (arith, within)) ∙ one-more n k)
    ∙ stands-entry link.shape (later_by n k) (quiet_ticks n k.clock h) Tick (quiet_reply (k.clock + n)) each (quiet-stands link until n k h each stands rests (omega (arith, within)))

-- each has its legal reply
quiet-replied : (link : Link) (until m : ℕ) (k : Account) (h : List Entry) → HasContracts k → StandsFor link.shape k h → RestsUntil link.shape until k → k.clock + m < until → quiet_reply (k.clock + m) ≡ reply_to link (quiet_ticks m k.clock h) Tick
unfolding account_reply
quiet-replied link until m k h each stands rests early =
    sym (quiet-tick link.shape until (later_by m k) (later-rests link.shape until m k rests) early)
    ∙ stands-reply link (later_by m k) (quiet_ticks m k.clock h) Tick each (quiet-stands link until m k h each stands rests (omega (arith, early)))

quiet-legal : (link : Link) (until n : ℕ) (k : Account) (h : List Entry) → HasContracts k → StandsFor link.shape k h → RestsUntil link.shape until k → k.clock + n ≤ until → IsLegal link h → IsLegal link (quiet_ticks n k.clock h)
unfolding quiet_ticks IsLegal
quiet-legal link until zero k h each stands rests within legal = legal
quiet-legal link until (suc n) k h each stands rests within legal =
    (quiet-legal link until n k h each stands rests (omega (arith, within)) legal, record { fits = tt; answered = quiet-replied link until n k h each stands rests (omega (arith, within)) })

pub quiet-ticks : (link : Link) (until n : ℕ) (k : Account) (h : List Entry) → HasContracts k → StandsFor link.shape k h → RestsUntil link.shape until k → k.clock + n ≤ until → GoesOnQuietly link n k h
quiet-ticks link until n k h each stands rests within = record {
  stands = quiet-stands link until n k h each stands rests within;
  replied = λ m few. quiet-replied link until m k h each stands rests (omega (arith, within, few));
  legal = quiet-legal link until n k h each stands rests within;
}

-- one quiet tick more
pub more-quiet : (t n : ℕ) (h : List Entry) → record { ask = Tick; reply = quiet_reply (t + n) } ∷ quiet_ticks n t h ≡ quiet_ticks (suc n) t h
unfolding quiet_ticks
more-quiet t n h = refl
