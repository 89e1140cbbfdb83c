-- A state of a link stands for an admissible history from its beginning on, and so its numbers have the bounds that these
-- promise.
use Rattle.std.proofs.Common.{◌≡◌, ℕ, zero, suc, ◌+◌, ◌*◌, ◌^◌, ◌<◌, ◌≤◌, List, [], ◌∷◌, length, map, take, ⊎_elim, sym, ap, subst, arith}
use Rattle.std.proofs.Math.Nat.{mul-le-mul_right}
use Rattle.std.proofs.lemmas.Bool.{cases_lt}
use Rattle.net_units.proofs.BoundsInOrder.{bound-least}
use Rattle.link_server.proofs.Words.{level_number, total, newest, Ask, Phase, Tentative, Committed, Closing, Reply, Offer, LinkShape, AskFits, ReserveFits, Each, Reservation, clock_of, scan_of, whole, LinkState, Offered, Wanted, account_in}
use Rattle.traffic_contract.proofs.LoadLimits.{most_in-some}
use Rattle.traffic_contract.specs.Contract.{IsContract, most_in, burst_of}
use Rattle.link_steps.specs.declared.replies.Entry.{Entry}
use Rattle.link_steps.specs.Admissible.{IsAdmissible}
use Rattle.link_steps.specs.Buffer.{held_units, stay_in, stay_of}
use Rattle.link_steps.specs.Account.{HasContract, Account, AccountRow, StandsFor, empty_account, account_at, account_row, account_terms, account_reply, account_after}
use Rattle.link_steps.specs.Rows.{Row}
use Rattle.link_steps.specs.Slots.{IsSoon, HasSoonTicks}
use Rattle.link_steps.proofs.Account.{nothing-stands, stands-entry}
use Rattle.link_steps.proofs.TicksBounded.{ticks-soon}
use Rattle.link_steps.proofs.UnitsHeld.{units-held}
use Rattle.link_server.specs.Sound.{IsSoundRow}
use Rattle.link_server.specs.Sources.{IsReady}
use Rattle.link_server.specs.Stood.{IsStood}
use Rattle.link_server.specs.Wants.{ask_for, MayHold}
use Rattle.link_server.proofs.ChosenLevel.{terms-stand, wanted-admissible}
use Rattle.link_server.proofs.Sound.Numbers.{rows-ready, rows-upto}
use Rattle.link_server.proofs.EveryHistoryAgrees.{rows-have, step-admissible}

-- ---- every state stands

-- nothing is kept of the empty history
pub nothing-stood : (shape : LinkShape) → IsStood shape empty_account
unfolding IsAdmissible
nothing-stood shape none = none [] tt (nothing-stands shape)

-- an answered ask leads on
pub stood-answered : (shape : LinkShape) (k : Account) (ask : Ask) (reply : Reply) → Each HasContract k.rows → AskFits shape ask → reply ≡ account_reply (whole shape) k ask → IsStood shape k → IsStood shape (account_after shape k ask reply)
stood-answered shape k ask reply each fits same stood none =
    stood (λ h before stands. none (record { ask = ask; reply = reply } ∷ h) (step-admissible shape k ask reply each fits same h stands before) (stands-entry shape k h ask reply each stands))

-- and so does an offer that the link may make
pub stood-offered : (shape : LinkShape) (k : Account) (wanted : Wanted) (offer : Offered) → Each HasContract k.rows → ReserveFits wanted.contract wanted.up_reach wanted.first → MayHold shape (map account_terms k.rows) wanted offer → IsStood shape k → IsStood shape (account_after shape k (ask_for wanted) (Offer offer.level offer.reach))
stood-offered shape k wanted offer each fits may stood none =
    stood (λ h before stands. none (record { ask = ask_for wanted; reply = Offer offer.level offer.reach } ∷ h) (wanted-admissible shape k wanted offer fits may h stands before) (stands-entry shape k h (ask_for wanted) (Offer offer.level offer.reach) each stands))

-- ---- what is promised in numbers

-- a number that is below another by each admissible history is below it
stood-below : (shape : LinkShape) (k : Account) (a b : ℕ) → IsStood shape k → ((h : List Entry) → IsAdmissible shape h → StandsFor shape k h → a < b) → a < b
stood-below shape k a b stood fact =
    ⊎_elim (λ (below : a < b). below)
    (λ (over : b ≤ a). absurd (stood (λ h admissible stands. (let below = fact h admissible stands in omega (arith, below, over)))))
    (cases_lt a b)

-- and so with the numbers of rows
stood-each : (shape : LinkShape) (k : Account) (number : AccountRow → ℕ) (most : ℕ) (rows : List AccountRow) → IsStood shape k → ((h : List Entry) → IsAdmissible shape h → StandsFor shape k h → Each (λ row. number row < most) rows) → Each (λ row. number row < most) rows
stood-each shape k number most [] stood fact = tt
stood-each shape k number most (row ∷ rows) stood fact = (
  stood-below shape k (number row) most stood (λ h admissible stands. (fact h admissible stands).0),
  stood-each shape k number most rows stood (λ h admissible stands. (fact h admissible stands).1),
)

-- the rows keep no more than the buffer
units-stood : (shape : LinkShape) (k : Account) → IsStood shape k → total (held_units shape.bounds) (map account_terms k.rows) < suc shape.buffer
units-stood shape k stood =
    stood-below shape k (total (held_units shape.bounds) (map account_terms k.rows)) (suc shape.buffer) stood
    (λ h admissible stands.
    let upto = subst (λ held. total (held_units shape.bounds) held ≤ shape.buffer) (sym (terms-stand shape k h stands)) (units-held shape h admissible) in
    omega (arith, upto))

-- the newest of some of the newest ticks is soon
newest-soon : (n : ℕ) (ticks : List ℕ) → Each IsSoon ticks → newest (take n ticks) < 2 ^ 63
newest-soon zero ticks soon = omega arith
newest-soon (suc n) [] soon = omega arith
newest-soon (suc n) (e ∷ ticks) soon = soon.0

rows-soon : (t : ℕ) (rows : List Row) → Each HasSoonTicks rows → Each (λ row. newest row.recent < 2 ^ 63) (map (account_row t) rows)
rows-soon t [] soon = tt
rows-soon t (row ∷ rows) soon = (newest-soon (burst_of row.terms.contract) row.ticks soon.0, rows-soon t rows soon.1)

-- and their newest eligible ticks are soon
pub newest-stood : (shape : LinkShape) (k : Account) → k.clock < 2 ^ 61 → IsStood shape k → Each (λ row. newest row.recent < 2 ^ 63) k.rows
unfolding account_at
newest-stood shape k early stood =
    stood-each shape k (λ row. newest row.recent) (2 ^ 63) k.rows stood
    (λ h admissible stands.
    let clock : k.clock ≡ clock_of h = ap (λ kept. kept.clock) stands in
    let rows : k.rows ≡ map (account_row (clock_of h)) (scan_of shape h).rows = ap (λ kept. kept.rows) stands in
    subst (λ all. Each (λ row. newest row.recent < 2 ^ 63) all) (sym rows) (rows-soon (clock_of h) (scan_of shape h).rows (ticks-soon shape h (omega (arith, clock, early)) admissible).held))

-- ---- the rows are few

-- each keeps a unit
stay-some : (shape : LinkShape) (terms : Reservation) (phase : Phase) → level_number terms.level ≤ length shape.bounds → level_number terms.reach ≤ length shape.bounds → 1 ≤ stay_in phase shape.bounds terms
stay-some shape terms Tentative level reach = omega (arith, bound-least shape.bounds (level_number terms.reach) shape.bounds_rise terms.reach.least reach)
stay-some shape terms Committed level reach = omega (arith, bound-least shape.bounds (level_number terms.level) shape.bounds_rise terms.level.least level)
stay-some shape terms Closing level reach = omega (arith, bound-least shape.bounds (level_number terms.level) shape.bounds_rise terms.level.least level)

-- so a reservation keeps a unit
units-some : (shape : LinkShape) (terms : Reservation) → IsContract terms.contract → level_number terms.level ≤ length shape.bounds → level_number terms.reach ≤ length shape.bounds → 1 ≤ held_units shape.bounds terms
unfolding held_units
units-some shape terms valid level reach =
    let packets = most_in-some terms.contract (stay_of shape.bounds terms) valid (stay-some shape terms terms.phase level reach) in
    let e : 1 * terms.contract.smax ≤ most_in terms.contract (stay_of shape.bounds terms) * terms.contract.smax = mul-le-mul_right terms.contract.smax packets in
    omega (arith, e, valid.smax_least)

rows-units : (shape : LinkShape) (clock taken : ℕ) (rows : List AccountRow) → Each (IsSoundRow (length shape.bounds) clock taken) rows → length rows ≤ total (held_units shape.bounds) (map account_terms rows)
rows-units shape clock taken [] each = omega arith
rows-units shape clock taken (row ∷ rows) each =
    let one = units-some shape row.terms each.0.contract each.0.level_most each.0.reach_most in
    omega (arith, one, rows-units shape clock taken rows each.1)

-- ---- a state

-- it has few rows
pub rows-few : (link : LinkState) → length link.table.rows < 2 ^ 32
rows-few link =
    let units = units-stood link.shape (account_in link) link.stood in
    let rows = rows-units link.shape link.clock link.queue.taken (account_in link).rows link.sound.rows in
    let buffer : link.shape.buffer ≤ 262144 = link.shape.buffer_most in
    omega (arith, units, rows, buffer)

-- an arrival number is left for one packet more
pub numbers-left : (link : LinkState) → link.clock < 2 ^ 61 → link.queue.taken + 1 < 2 ^ 64
numbers-left link early =
    let most = link.sound.taken_most in
    let upto = rows-upto link.shape link.queue.room (account_in link) link.sound in
    let few = link.few in
    omega (arith, early, most, upto, few)

-- and each row can make its step in a tick
pub all-ready : (link : LinkState) → link.clock < 2 ^ 61 → Each (IsReady link.clock) (account_in link).rows
all-ready link early = rows-ready link.shape link.queue.room (account_in link) early link.few link.sound (newest-stood link.shape (account_in link) early link.stood)

-- an ask that is answered leaves a state that stands
pub still-stood : (link : LinkState) (ask : Ask) (reply : Reply) (next : Account) → AskFits link.shape ask → reply ≡ account_reply (whole link.shape) (account_in link) ask → next ≡ account_after link.shape (account_in link) ask reply → IsStood link.shape next
still-stood link ask reply next fits replied kept = subst (IsStood link.shape) (sym kept) (stood-answered link.shape (account_in link) ask reply (rows-have link) fits replied link.stood)
