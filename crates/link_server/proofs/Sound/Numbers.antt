-- What the numbers of a sound account leave to count on while a tick is made: there is a place for each packet that the
-- sources bring, and each count can go on.
use Rattle.std.proofs.Common.{◌≡◌, ℕ, suc, ◌+◌, ◌^◌, ◌<◌, ◌≤◌, List, [], ◌∷◌, ◌++◌, length, arith, length-append}
use Rattle.traffic_contract.proofs.AdmissionTest.{total-append, total-filter-le}
use Rattle.link_server.proofs.Words.{total, newest, LinkShape, slots_of, Each, SourcePacket, Arrival}
use Rattle.link_steps.specs.Account.{Account, AccountRow, account_stays, account_waiting, account_best, from_sources, brought}
use Rattle.link_steps.proofs.SearchAndFilter.{Each-both, Each-if}
use Rattle.link_server.specs.Planned.{IsPlannedFrom}
use Rattle.link_server.specs.Sources.{IsReady}
use Rattle.link_server.specs.Sound.{of_channels, places_of, all_places_of, places, most_places, AreAhead, IsSoundRow, IsSound}
use Rattle.link_server.proofs.Sound.Best.{both-count, waits-count, account_best-is, best-fits}
use Rattle.link_server.proofs.Sound.Sources.{brought-places, from_best}

-- ---- places

-- a row wants at least one
rows-places : (bounds : List ℕ) (here : List Arrival) (rows : List AccountRow) → length rows ≤ total (places_of bounds here) rows
rows-places bounds here [] = omega arith
rows-places bounds here (row ∷ rows) = omega (arith, rows-places bounds here rows)

-- the packets here and the rows together are no more than the places
pub rows-upto : (shape : LinkShape) (room : ℕ) (k : Account) → IsSound shape room k → length k.here + length k.rows ≤ room
unfolding places
rows-upto shape room k sound = omega (arith, sound.fits, sound.best_few, both-count shape.bounds k.here, rows-places shape.bounds (of_channels shape.bounds k.here) k.rows)

-- there is room for all that comes in a tick
pub brought-room : (shape : LinkShape) (room : ℕ) (k : Account) → IsSound shape room k → length k.here + length (brought shape k) ≤ room
unfolding places
brought-room shape room k sound =
    let few = best-fits shape k (suc (k.taken + length (from_sources shape k))) k.clock (account_best shape k) (account_best-is shape k sound.best_ahead) sound.numbered sound.packets sound.best_few in
    omega (arith, brought-places shape room k sound, total-filter-le (places_of shape.bounds (of_channels shape.bounds k.here)) (account_stays shape.bounds k.clock) k.rows, sound.fits, both-count shape.bounds k.here, few, length-append (from_sources shape k) (from_best shape k))

-- for the sources' packets
pub sources-room : (shape : LinkShape) (room : ℕ) (k : Account) → IsSound shape room k → length k.here + length (from_sources shape k) ≤ room
sources-room shape room k sound = omega (arith, brought-room shape room k sound, length-append (from_sources shape k) (from_best shape k))

-- and for a best-effort packet after them, where fewer wait than may
pub best-room : (shape : LinkShape) (room : ℕ) (k : Account) → IsSound shape room k → account_waiting shape k < shape.best → length k.here + length (from_sources shape k) < room
unfolding places account_waiting
best-room shape room k sound free =
    let few = waits-count shape.bounds k.here k.on (length shape.bounds) k.taken sound.numbered sound.packets in
    omega (arith, brought-places shape room k sound, total-filter-le (places_of shape.bounds (of_channels shape.bounds k.here)) (account_stays shape.bounds k.clock) k.rows, sound.fits, both-count shape.bounds k.here, few, free)

-- ---- counts

-- one packet more than those taken can be counted
taken-small : (shape : LinkShape) (room : ℕ) (k : Account) → k.clock < 2 ^ 61 → room < 2 ^ 63 → IsSound shape room k → k.taken + 1 < 2 ^ 64
taken-small shape room k early few sound = omega (arith, sound.taken_most, rows-upto shape room k sound)

-- and so can all that a tick brings
pub brought-small : (shape : LinkShape) (room : ℕ) (k : Account) → k.clock < 2 ^ 61 → room < 2 ^ 63 → IsSound shape room k → k.taken + length (brought shape k) < 2 ^ 64
brought-small shape room k early few sound = omega (arith, sound.taken_most, brought-room shape room k sound)

-- ---- a row in a tick

-- nothing is planned for an earlier tick
pub ahead-from : (t u : ℕ) (plan : List SourcePacket) → t ≤ u → AreAhead u plan → Each (IsPlannedFrom t) plan
ahead-from t u [] from ahead = tt
ahead-from t u (p ∷ plan) from ahead = (omega (arith, ahead.0), ahead-from t (suc p.tick) plan (omega (arith, ahead.0)) ahead.2)

-- so each row of a sound account, where its newest eligible tick is soon, can make its step in the tick
pub rows-ready : (shape : LinkShape) (room : ℕ) (k : Account) → k.clock < 2 ^ 61 → room < 2 ^ 63 → IsSound shape room k → Each (λ row. newest row.recent < 2 ^ 63) k.rows → Each (IsReady k.clock) k.rows
rows-ready shape room k early few sound soon =
    let taken = taken-small shape room k early few sound in
    Each-if (λ row. IsSoundRow (length shape.bounds) k.clock k.taken row × (newest row.recent < 2 ^ 63)) (IsReady k.clock) k.rows
    (λ row both. record {
      ahead = ahead-from k.clock k.clock row.left (omega arith) both.0.ahead;
      last = both.1;
      few = (let most = both.0.taken_most in omega (arith, most, taken));
    })
    (Each-both (IsSoundRow (length shape.bounds) k.clock k.taken) (λ row. newest row.recent < 2 ^ 63) k.rows sound.rows soon)

-- ---- a reserve

-- one row more wants a place for each of its slots, and one more
pub most_places-push : (bounds : List ℕ) (here : List Arrival) (rows : List AccountRow) (new : AccountRow) → most_places bounds here (rows ++ new ∷ []) ≡ most_places bounds here rows + suc (slots_of bounds new.terms)
unfolding most_places
most_places-push bounds here rows new = omega (arith, total-append (all_places_of bounds) rows (new ∷ []))
