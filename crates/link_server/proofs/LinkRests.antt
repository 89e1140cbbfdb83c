-- Where the calendars have no entry before a tick, and no packet starts or departs before it, the link rests until it.
use Rattle.std.proofs.Common.{◌≡◌, ℕ, zero, suc, ◌+◌, ◌<◌, ◌≤◌, Bool, true, false, ◌&&◌, List, [], ◌∷◌, map, get_or, All, Option, Some, None, ⊎_elim, refl, sym, ◌∙◌, subst, arith, nat_eq}
use Rattle.std.proofs.lemmas.Bool.{cases_Bool, lt-leb}
use Rattle.std.proofs.lemmas.List.Folds.{list_any_none}
use Rattle.link_server.proofs.Words.{Tick, LinkShape, Each, SourcePacket, Arrival, Start, channel_number, Entry, Timetable, ServedRow, row_in}
use Rattle.link_steps.specs.Account.{HasContracts, Account, AccountRow, account_stays, account_after, account_reply}
use Rattle.link_steps.proofs.SearchAndFilter.{Each-if}
use Rattle.link_server.specs.Holds.{AreListed, IsListed, tells_end}
use Rattle.link_server.specs.Plans.{IsTold}
use Rattle.link_server.specs.Planned.{IsPlannedFrom, left_in}
use Rattle.link_server.specs.Resting.{RestsFromClock}
use Rattle.link_server.specs.Sound.{IsSound}
use Rattle.link_server.specs.Stood.{IsStood}
use Rattle.link_server.proofs.Calendars.Plans.{told-quiet}
use Rattle.link_server.proofs.Sound.Tick.{sound-tick}
use Rattle.link_server.proofs.Sound.Stood.{stood-answered}
use Rattle.link_steps.specs.Quiet.{RowRests, RestsUntil, ServiceRests, IsEligibleFrom, quiet_reply, later_by}
use Rattle.link_steps.proofs.QuietTicks.{quiet-after, quiet-tick, later-rests, one-more, none-later}

-- ---- rows

all-from-zero : (left : List SourcePacket) → Each (IsPlannedFrom 0) left
all-from-zero [] = tt
all-from-zero (p ∷ left) = (omega arith, all-from-zero left)

-- a row plans nothing before the calendar's first entry
told-rests : (until : ℕ) (entries : List Entry) (row : ServedRow) → All (λ entry. until ≤ entry.0) entries → IsTold entries (row_in row) → Each (IsPlannedFrom until) (left_in row.planned)
told-rests zero entries row later told = all-from-zero (left_in row.planned)
told-rests (suc until) entries row later told = told-quiet until entries row (λ k d inside. later k d inside) told

-- nor does its hold end before
not-told : (bounds : List ℕ) (t until : ℕ) (row : AccountRow) (entry : Entry) → until ≤ entry.0 → t < until → tells_end bounds t row entry ≡ false
not-told bounds t until row entry from before = rw (lt-leb entry.0 t (omega (arith, from, before))) (and-false (nat_eq entry.1 (channel_number row.terms.chan))) where
  and-false : (b : Bool) → b && false ≡ false
  and-false true = refl
  and-false false = refl

listed-stays : (bounds : List ℕ) (clock until : ℕ) (entries : List Entry) (row : AccountRow) → All (λ entry. until ≤ entry.0) entries → IsListed bounds clock entries row → (t : ℕ) → clock ≤ t → t < until → account_stays bounds t row ≡ true
listed-stays bounds clock until entries row later listed t from before =
    ⊎_elim (λ (stays : account_stays bounds t row ≡ true). stays)
    (λ (ends : account_stays bounds t row ≡ false).
    absurd (let f : false ≡ true = sym (list_any_none (tells_end bounds t row) entries (λ k d inside. not-told bounds t until row (get_or entries k d) (later k d inside) before)) ∙ listed.told t from ends in cc))
    (cases_Bool (account_stays bounds t row))

-- so each row rests
pub rows-rest : (bounds : List ℕ) (clock until : ℕ) (holds plans : Timetable) (rows : List ServedRow) → All (λ entry. until ≤ entry.0) holds.entries → All (λ entry. until ≤ entry.0) plans.entries
    → Each (IsListed bounds clock holds.entries) (map row_in rows) → Each (IsTold plans.entries) (map row_in rows) → Each (RowRests bounds clock until) (map row_in rows)
rows-rest bounds clock until holds plans [] held planned listed told = tt
rows-rest bounds clock until holds plans (row ∷ rows) held planned listed told = (
  record { plans = told-rests until plans.entries row planned told.0; stays = listed-stays bounds clock until holds.entries (row_in row) held listed.0 },
  rows-rest bounds clock until holds plans rows held planned listed.1 told.1,
)

-- nothing is said of a tick that the clock has reached
pub due-now : (shape : LinkShape) (k : Account) → RestsFromClock shape 0 k
due-now shape k = λ before. absurd (omega (arith, before))

-- what is later than one tick is later than an earlier one
pub all-from : (until least : ℕ) (entries : List Entry) → until ≤ least → All (λ entry. least ≤ entry.0) entries → All (λ entry. until ≤ entry.0) entries
all-from until least entries less later = λ k d inside. (let from = later k d inside in omega (arith, from, less))

-- ---- while it rests, the account stays sound, and some history stands for it

pub later-sound : (shape : LinkShape) (room until n : ℕ) (k : Account) → RestsUntil shape until k → k.clock + n ≤ until → IsSound shape room k → IsSound shape room (later_by n k)
unfolding account_after
later-sound shape room until zero k rests within sound = subst (IsSound shape room) (none-later k) sound
later-sound shape room until (suc n) k rests within sound =
    let before = later-sound shape room until n k rests (omega (arith, within)) sound in
    subst (IsSound shape room) (quiet-after shape until (later_by n k) (later-rests shape until n k rests) (omega (arith, within)) ∙ one-more n k)
    (sound-tick shape room (later_by n k) (quiet_reply (k.clock + n)) before)

pub later-stood : (shape : LinkShape) (until n : ℕ) (k : Account) → HasContracts k → RestsUntil shape until k → k.clock + n ≤ until → IsStood shape k → IsStood shape (later_by n k)
unfolding account_after account_reply
later-stood shape until zero k each rests within stood = subst (IsStood shape) (none-later k) stood
later-stood shape until (suc n) k each rests within stood =
    let before = later-stood shape until n k each rests (omega (arith, within)) stood in
    let still = later-rests shape until n k rests in
    let early : k.clock + n < until = omega (arith, within) in
    subst (IsStood shape) (quiet-after shape until (later_by n k) still early ∙ one-more n k)
    (stood-answered shape (later_by n k) Tick (quiet_reply (k.clock + n)) each tt (sym (quiet-tick shape until (later_by n k) still early)) before)

-- ---- what rests until a tick rests until an earlier one

pub plans-from : (until least : ℕ) (left : List SourcePacket) → until ≤ least → Each (IsPlannedFrom least) left → Each (IsPlannedFrom until) left
plans-from until least left less each = Each-if (IsPlannedFrom least) (IsPlannedFrom until) left (λ p from. omega (arith, from, less)) each

pub service-from : (rate until least : ℕ) (here : List Arrival) (on : Option Start) → until ≤ least → ServiceRests rate least here on → ServiceRests rate until here on
service-from rate until least here None less rests = Each-if (IsEligibleFrom least) (IsEligibleFrom until) here (λ p from. omega (arith, from, less)) rests
service-from rate until least here (Some start) less rests = omega (arith, rests, less)

-- what the calendar tells from the clock on it tells from a later one on
pub listed-later : (bounds : List ℕ) (clock later : ℕ) (holds : Timetable) (rows : List AccountRow) → clock ≤ later → AreListed bounds clock holds rows → AreListed bounds later holds rows
listed-later bounds clock later holds rows less listed = record {
  begun = let begun = listed.begun in omega (arith, begun, less);
  listed = Each-if (IsListed bounds clock holds.entries) (IsListed bounds later holds.entries) rows (λ row is. record { plans_none = is.plans_none; told = λ t from ends. is.told t (omega (arith, from, less)) ends }) listed.listed;
  room = listed.room;
}
