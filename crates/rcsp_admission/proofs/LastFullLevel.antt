-- The last level without room says which level is the best.
use Rattle.std.proofs.Common.{◌≡◌, ℕ, ◌+◌, ◌*◌, ◌<◌, ◌≤◌, ⊎_elim, List, [], ◌∷◌, length, Some, sym, subst, arith}
use Rattle.std.proofs.lemmas.Bool.{cases_lt}
use Rattle.traffic_contract.specs.Contract.{Traffic}
use Rattle.std.specs.List.{All}
use Rattle.net_units.specs.LevelBounds.{last_bound}
use Rattle.traffic_contract.specs.Admission.{Server, Admitted, total, work_in, work_up_to, load, level_sum, with_row, HasRoom, WindowCounts, PassesAt, Passes, IsBest, IsRefused, best_level, refused_sum}
use Rattle.traffic_contract.specs.declared.admission.Test.TheVariants.{Whole, Least}
use Rattle.net_units.specs.LevelBounds.{bound_at}
use Rattle.traffic_contract.proofs.AdmissionTest.{work_up_to-within, work_up_to-above, load-from, Decides-passes_at, window-of, PassesAt-whole, Passes-with_row, room-from-Passes, best_level-found}
use Rattle.traffic_contract.proofs.LoadLimits.{HasContract, load-mono}
use Rattle.rcsp_admission.specs.Lines.{one_tick, IsBelow}
use Rattle.rcsp_admission.specs.Room.{IsLastFull, NoneBefore, load_with, FitsSome}

-- the level above the last without room is the best
pub IsBest-above_full : (server : Server) (rows : List Admitted) (contract : Traffic) (full : ℕ) → Passes server rows → IsLastFull server rows contract (length server.bounds) full → full < length server.bounds → IsBest server rows contract (full + 1)
IsBest-above_full server rows contract full passed last below = record {
  from = omega arith;
  upto = omega arith;
  passes = Passes-with_row server rows contract (full + 1) passed (λ k above within. last.room k (omega arith) within);
  least = λ lower from within passes. ⊎_elim
      (λ (too_low : lower < full + 1). absurd (last.no_room (omega arith) (room-from-Passes server rows contract lower full (omega arith) (omega arith) (omega arith) passes)))
      (λ (above : full + 1 ≤ lower). above)
      (cases_lt lower (full + 1));
}

pub best_level-above_full : (server : Server) (rows : List Admitted) (contract : Traffic) (full : ℕ) → Passes server rows → IsLastFull server rows contract (length server.bounds) full → full < length server.bounds → best_level server rows contract ≡ Some (full + 1)
best_level-above_full server rows contract full passed last below =
    best_level-found server rows contract (full + 1) (IsBest-above_full server rows contract full passed last below)

-- where the last level has no room, the contract has no level
pub IsRefused-last_full : (server : Server) (rows : List Admitted) (contract : Traffic) → 1 ≤ length server.bounds → IsLastFull server rows contract (length server.bounds) (length server.bounds) → IsRefused server rows contract
IsRefused-last_full server rows contract some last = record {
  each = λ m from upto passes. absurd (last.no_room some (room-from-Passes server rows contract m (length server.bounds) some upto (omega arith) passes));
}

-- what the last level comes to with the row is then over its bound
pub refused_sum-over : (server : Server) (rows : List Admitted) (contract : Traffic) → 1 ≤ length server.bounds → 1 ≤ last_bound server.bounds → IsLastFull server rows contract (length server.bounds) (length server.bounds) → last_bound server.bounds < refused_sum server rows contract
refused_sum-over server rows contract some least last =
    ⊎_elim (λ (over : last_bound server.bounds < refused_sum server rows contract). over)
    (λ (upto : refused_sum server rows contract ≤ last_bound server.bounds). absurd (last.no_room some (PassesAt-whole server (with_row rows contract (length server.bounds)) (length server.bounds) least upto)))
    (cases_lt (last_bound server.bounds) (refused_sum server rows contract))

-- ---- the search for a window

-- as long as the load is over the window, no window that fits lies before the load
pub search-goes_on : (server : Server) (rows : List Admitted) (contract : Traffic) (m window : ℕ) → All HasContract (with_row rows contract m) → ((w : ℕ) → load_with server rows contract m w ≤ w → window ≤ w) → (w : ℕ) → load_with server rows contract m w ≤ w → load_with server rows contract m window ≤ w
search-goes_on server rows contract m window contracts before w fits =
    let more = load-mono server (with_row rows contract m) m window w contracts (before w fits) in
    omega (arith, more, fits)

-- it begins with the blocking
pub search-begins : (server : Server) (rows : List Admitted) (contract : Traffic) (m w : ℕ) → load_with server rows contract m w ≤ w → server.blocking ≤ w
unfolding load
search-begins server rows contract m w fits = omega (arith, fits)

-- a level has no less work than the one before
total-levels : (rate m w : ℕ) (rows : List Admitted) → total (work_up_to rate m w) rows ≤ total (work_up_to rate (m + 1) w) rows
total-levels rate m w [] = omega arith
total-levels rate m w (row ∷ rows) =
    let rest = total-levels rate m w rows in
    ⊎_elim (λ (above : m < row.level). (let e = work_up_to-above rate m w row above in omega (arith, e, rest)))
    (λ (within : row.level ≤ m). (let e = work_up_to-within rate m w row within in let f = work_up_to-within rate (m + 1) w row (omega arith) in omega (arith, e, f, rest)))
    (cases_lt m row.level)

-- so the search of a level goes on where that of the level before ended
pub search-next : (server : Server) (rows : List Admitted) (contract : Traffic) (m from : ℕ) → NoneBefore server rows contract m from → NoneBefore server rows contract (m + 1) from
unfolding load
search-next server rows contract m from none w fits =
    let less = total-levels server.rate m w rows in
    let e = load-from server rows contract m m w (omega arith) in
    let f = load-from server rows contract (m + 1) (m + 1) w (omega arith) in
    none w (omega (arith, less, e, f, fits))

-- a window that fits is no shorter than the lines below its load are high
pub line-fits : (server : Server) (rows : List Admitted) (contract : Traffic) (m from w rows_flat rows_slope new_flat new_slope : ℕ) → IsBelow rows_flat rows_slope (λ v. total (work_up_to server.rate m v) rows) from → IsBelow new_flat new_slope (work_in server.rate contract) from → from ≤ w → load_with server rows contract m w ≤ w → (server.blocking + rows_flat + new_flat) * one_tick + (rows_slope + new_slope) * w ≤ w * one_tick
unfolding load
line-fits server rows contract m from w rows_flat rows_slope new_flat new_slope held new after fits =
    let e = load-from server rows contract m m w (omega arith) in omega (arith, e, fits, held.each w after, new.each w after)

-- where every window up to the bound counts, the level has room exactly where one of them fits
pub room-some : (server : Server) (rows : List Admitted) (contract : Traffic) (m bound : ℕ) → server.test ≡ Least → bound ≡ bound_at server.bounds m → FitsSome server rows contract m bound → HasRoom server rows contract m
room-some server rows contract m bound least same found =
    (Decides-passes_at server (with_row rows contract m) m).1 (record { window = found.0; counts = subst (λ test. WindowCounts test (bound_at server.bounds m) found.0) (sym least) (found.1, subst (λ d. found.0 ≤ d) same found.2); fits = found.3 })

pub some-room : (server : Server) (rows : List Admitted) (contract : Traffic) (m bound : ℕ) → server.test ≡ Least → bound ≡ bound_at server.bounds m → HasRoom server rows contract m → FitsSome server rows contract m bound
some-room server rows contract m bound least same room =
    let found = window-of server (with_row rows contract m) m room in
    let counts = subst (λ test. WindowCounts test (bound_at server.bounds m) found.window) least found.counts in
    (found.window, counts.0, subst (λ d. found.window ≤ d) (sym same) counts.1, found.fits)

-- where the whole bound counts alone, the load in it fits it
pub whole-fits : (server : Server) (rows : List Admitted) (m : ℕ) → server.test ≡ Whole → PassesAt server rows m → level_sum server rows m ≤ bound_at server.bounds m
whole-fits server rows m whole passed =
    let found = window-of server rows m passed in
    let counts : found.window ≡ bound_at server.bounds m = subst (λ test. WindowCounts test (bound_at server.bounds m) found.window) whole found.counts in
    subst (λ w. load server rows m w ≤ w) counts found.fits

-- so a level has no room whose load in the whole bound, with the row, is over it
pub whole-none : (server : Server) (rows : List Admitted) (contract : Traffic) (m : ℕ) → server.test ≡ Whole → bound_at server.bounds m < load_with server rows contract m (bound_at server.bounds m) → HasRoom server rows contract m → ⊥
whole-none server rows contract m whole over room =
    let fits = whole-fits server (with_row rows contract m) m whole room in omega (arith, fits, over)

-- and under every test one has room whose load there fits
pub room-whole : (server : Server) (rows : List Admitted) (contract : Traffic) (m : ℕ) → 1 ≤ bound_at server.bounds m → load_with server rows contract m (bound_at server.bounds m) ≤ bound_at server.bounds m → HasRoom server rows contract m
room-whole server rows contract m least fits = PassesAt-whole server (with_row rows contract m) m least fits
