-- A sound account stays sound through a reserve, a relax, a deny, a submit and a release.
use Rattle.std.proofs.Common.{◌≡◌, ℕ, suc, ◌+◌, ◌≤◌, Bool, true, List, [], ◌∷◌, ◌++◌, length, map, Option, Some, refl, ap, ◌∙◌, arith}
use Rattle.link_server.proofs.Words.{find, level_number, ChanNo, Level, Traffic, IsContract, Relax, Deny, Submit, Release, Pour, Reply, LinkShape, whole, MayOffer, SourcePacket, planned_from, names_first_hop, Arrival}
use Rattle.std.specs.Option.{option_map}
use Rattle.net_units.proofs.BoundsInOrder.{bound_at-rising}
use Rattle.net_units.specs.LevelBounds.{bound_at}
use Rattle.net_units.specs.declared.Kind.{Kind}
use Rattle.net_units.specs.declared.numbers.LinkNo.{LinkNo}
use Rattle.traffic_contract.proofs.AdmissionTest.{total-le}
use Rattle.traffic_contract.proofs.LongerWindows.{most_in-mono}
use Rattle.link_steps.specs.declared.replies.Reply.TheVariants as Is
use Rattle.link_steps.specs.Buffer.{slots_of, stay_in, held_packets}
use Rattle.link_steps.specs.Account.{Account, AccountRow, empty_account, with_account_rows, account_terms, is_account_of, is_account_at_hop, account_relaxed, account_planned, account_closed, new_account, account_reply, account_after}
use Rattle.link_steps.specs.Legal.{ReserveFits, RelaxFits, SubmitFits}
use Rattle.link_steps.specs.Lists.{change_first, without_first, Each}
use Rattle.link_steps.specs.Replies.{relax_reply}
use Rattle.link_steps.specs.Reservation.{Reservation, tentative, committed, is_of}
use Rattle.link_steps.proofs.FoundElements.{Each-change_found}
use Rattle.link_steps.proofs.SearchAndFilter.{Each-append, Each-find, Each-without_first, find-map, total-change_first-le, total-without_first-le}
use Rattle.link_steps.proofs.ReservationFound.{may-reach, FitsOffer, relax-tells, submit-tells, release-tells, pour-tells}
use Rattle.link_server.specs.Sound.{of_channels, best_count, places_of, all_places_of, places, most_places, AreAhead, HaveOwnLeads, IsSoundRow, IsSound}
use Rattle.link_server.proofs.Sound.Best.{both-count}
use Rattle.link_server.proofs.Sound.Rows.{AreApart-without_first, AreApart-push, AreApart-changed, planned-ahead}
use Rattle.link_server.proofs.Replies.Close.{release-found}
use Rattle.link_server.proofs.Replies.Setup.{submit-found}
use Rattle.link_steps.proofs.SlotsHeld.{slots-closed}

-- ---- nothing, and more room

-- what is kept of no history is sound
pub nothing-sound : (shape : LinkShape) (room : ℕ) → suc shape.best ≤ room → IsSound shape room empty_account
unfolding places of_channels best_count
nothing-sound shape room enough = record {
  taken_most = omega arith;
  numbered = omega arith;
  packets = tt;
  apart = tt;
  rows = tt;
  fits = omega (arith, enough);
  best_few = omega arith;
  best_ahead = tt;
  running = λ start some. cc;
}

-- more room is enough
pub sound-larger : (shape : LinkShape) (room larger : ℕ) (k : Account) → room ≤ larger → IsSound shape room k → IsSound shape larger k
sound-larger shape room larger k more sound = record {
  taken_most = sound.taken_most;
  numbered = sound.numbered;
  packets = sound.packets;
  apart = sound.apart;
  rows = sound.rows;
  fits = omega (arith, sound.fits);
  best_few = sound.best_few;
  best_ahead = sound.best_ahead;
  running = sound.running;
}

-- ---- other rows

-- the rows of the account are sound
abbrev pub AreSoundRows : LinkShape → Account → List AccountRow → Type 0
AreSoundRows shape k rows = Each (IsSoundRow (length shape.bounds) k.clock k.taken) rows

-- the account with other rows
pub sound-rows : (shape : LinkShape) (room larger : ℕ) (k : Account) (rows : List AccountRow) → IsSound shape room k → HaveOwnLeads rows → AreSoundRows shape k rows → places shape.bounds (of_channels shape.bounds k.here) rows + suc shape.best ≤ larger → IsSound shape larger (with_account_rows k rows)
sound-rows shape room larger k rows sound apart each fits = record {
  taken_most = sound.taken_most;
  numbered = sound.numbered;
  packets = sound.packets;
  apart = apart;
  rows = each;
  fits = fits;
  best_few = sound.best_few;
  best_ahead = sound.best_ahead;
  running = sound.running;
}

-- the account with one row changed, which has no more slots than before and the same lead
pub sound-changed : (shape : LinkShape) (room : ℕ) (k : Account) (test : AccountRow → Bool) (change : AccountRow → AccountRow) → IsSound shape room k → ((row : AccountRow) → (change row).lead ≡ row.lead) → ((row : AccountRow) → find test k.rows ≡ Some row → IsSoundRow (length shape.bounds) k.clock k.taken row → IsSoundRow (length shape.bounds) k.clock k.taken (change row)) → ((row : AccountRow) → find test k.rows ≡ Some row → slots_of shape.bounds (change row).terms ≤ slots_of shape.bounds row.terms) → IsSound shape room (with_account_rows k (change_first test change k.rows))
unfolding places
sound-changed shape room k test change sound same each fewer =
    sound-rows shape room room k (change_first test change k.rows) sound
    (AreApart-changed test change same k.rows sound.apart)
    (Each-change_found (IsSoundRow (length shape.bounds) k.clock k.taken) test change k.rows each sound.rows)
    (let less = total-change_first-le (places_of shape.bounds (of_channels shape.bounds k.here)) test change k.rows (λ row found. (let slots = fewer row found in let e : held_packets (change row).lead (of_channels shape.bounds k.here) ≡ held_packets row.lead (of_channels shape.bounds k.here) = ap (λ lead. held_packets lead (of_channels shape.bounds k.here)) (same row) in omega (arith, slots, e))) in
    omega (arith, less, sound.fits))

-- ---- a deny

pub sound-deny : (shape : LinkShape) (room : ℕ) (k : Account) (chan : ChanNo) (reply : Reply) → IsSound shape room k → IsSound shape room (account_after shape k (Deny chan) reply)
unfolding account_after places
sound-deny shape room k chan Is.Denied sound =
    sound-rows shape room room k (without_first (is_account_of chan) k.rows) sound
    (AreApart-without_first (is_account_of chan) k.rows sound.apart)
    (Each-without_first (IsSoundRow (length shape.bounds) k.clock k.taken) (is_account_of chan) k.rows sound.rows)
    (omega (arith, total-without_first-le (places_of shape.bounds (of_channels shape.bounds k.here)) (is_account_of chan) k.rows, sound.fits))
sound-deny shape room k chan _ sound = sound

-- ---- a relax

-- the reply is that of the row of the channel
relax-found : (shape : LinkShape) (k : Account) (chan : ChanNo) (level : Level) (up_bound : ℕ) (row : AccountRow) → find (is_account_of chan) k.rows ≡ Some row → account_reply (whole shape) k (Relax chan level up_bound) ≡ relax_reply k.clock level up_bound (Some row.terms)
unfolding account_reply
relax-found shape k chan level up_bound row found =
    ap (relax_reply k.clock level up_bound) (find-map account_terms (is_account_of chan) (is_of chan) (λ r. refl) k.rows ∙ ap (option_map account_terms) found)

-- a row that is relaxed has no more slots than before
relax-slots : (shape : LinkShape) (terms : Reservation) (level : Level) (up_bound : ℕ) → IsContract terms.contract → level_number terms.reach ≤ length shape.bounds → FitsOffer terms level up_bound → slots_of shape.bounds (committed level up_bound terms) ≤ slots_of shape.bounds terms
unfolding slots_of
relax-slots shape terms level up_bound valid within fits =
    let bound = bound_at-rising shape.bounds (level_number level) (level_number terms.reach) shape.bounds_rise level.least fits.level_most within in
    let stay : stay_in terms.phase shape.bounds terms ≡ terms.up_reach + bound_at shape.bounds (level_number terms.reach) = ap (λ phase. stay_in phase shape.bounds terms) fits.phase in
    rw stay (most_in-mono terms.contract (up_bound + bound_at shape.bounds (level_number level)) (terms.up_reach + bound_at shape.bounds (level_number terms.reach)) valid (omega (arith, bound, fits.bound_most)))

-- where the row of the channel is relaxed
pub relaxed-slots : (shape : LinkShape) (room : ℕ) (k : Account) (chan : ChanNo) (level : Level) (up_bound clock : ℕ) (row : AccountRow) → IsSound shape room k → find (is_account_of chan) k.rows ≡ Some row → Is.Relaxed clock ≡ account_reply (whole shape) k (Relax chan level up_bound) → slots_of shape.bounds (committed level up_bound row.terms) ≤ slots_of shape.bounds row.terms
relaxed-slots shape room k chan level up_bound clock row sound found same =
    let each = Each-find (IsSoundRow (length shape.bounds) k.clock k.taken) (is_account_of chan) k.rows row sound.rows found in
    relax-slots shape row.terms level up_bound each.contract each.reach_most (relax-tells k.clock row.terms level up_bound clock (same ∙ relax-found shape k chan level up_bound row found))

pub sound-relax : (shape : LinkShape) (room : ℕ) (k : Account) (chan : ChanNo) (level : Level) (up_bound : ℕ) (reply : Reply) → RelaxFits (length shape.bounds) (level_number level) up_bound → IsSound shape room k → reply ≡ account_reply (whole shape) k (Relax chan level up_bound) → IsSound shape room (account_after shape k (Relax chan level up_bound) reply)
unfolding account_after
sound-relax shape room k chan level up_bound (Is.Relaxed clock) fits sound same =
    sound-changed shape room k (is_account_of chan) (account_relaxed level up_bound) sound (λ row. refl)
    (λ row found each. record {
      contract = each.contract;
      level_most = fits.level_most;
      reach_most = each.reach_most;
      up_reach_most = each.up_reach_most;
      up_bound_most = fits.bound_most;
      taken_most = each.taken_most;
      lead_most = each.lead_most;
      ahead = each.ahead;
    })
    (λ row found. relaxed-slots shape room k chan level up_bound clock row sound found same)
sound-relax shape room k chan level up_bound _ fits sound same = sound

-- ---- a submit

-- what a row plans of which nothing is left lies ahead
submit-ahead : (t count gap size : ℕ) (left : List SourcePacket) → SubmitFits count gap size → length left ≡ 0 → AreAhead t (left ++ planned_from t gap size count)
submit-ahead t count gap size [] fits none = planned-ahead t t gap size count (omega arith) fits.gap_least fits.size_least fits.size_most
submit-ahead t count gap size (p ∷ left) fits none = absurd (omega arith)

pub sound-submit : (shape : LinkShape) (room : ℕ) (k : Account) (chan : ChanNo) (count gap size : ℕ) (reply : Reply) → SubmitFits count gap size → IsSound shape room k → reply ≡ account_reply (whole shape) k (Submit chan count gap size) → IsSound shape room (account_after shape k (Submit chan count gap size) reply)
unfolding account_after
sound-submit shape room k chan count gap size (Is.Planned clock) fits sound same =
    sound-changed shape room k (is_account_at_hop chan true) (account_planned k.clock count gap size) sound (λ row. refl)
    (λ row found each. record {
      contract = each.contract;
      level_most = each.level_most;
      reach_most = each.reach_most;
      up_reach_most = each.up_reach_most;
      up_bound_most = each.up_bound_most;
      taken_most = each.taken_most;
      lead_most = each.lead_most;
      ahead = submit-ahead k.clock count gap size row.left fits (submit-tells k.clock size row.terms (length row.left) clock (same ∙ submit-found shape k chan count gap size row found)).1;
    })
    (λ row found. omega arith)
sound-submit shape room k chan count gap size _ fits sound same = sound

-- ---- a pour

pub sound-pour : (shape : LinkShape) (room : ℕ) (k : Account) (count gap size : ℕ) (reply : Reply) → SubmitFits count gap size → IsSound shape room k → reply ≡ account_reply (whole shape) k (Pour count gap size) → IsSound shape room (account_after shape k (Pour count gap size) reply)
unfolding account_after account_reply
sound-pour shape room k count gap size (Is.Planned clock) fits sound same = record {
  taken_most = sound.taken_most;
  numbered = sound.numbered;
  packets = sound.packets;
  apart = sound.apart;
  rows = sound.rows;
  fits = sound.fits;
  best_few = sound.best_few;
  best_ahead = submit-ahead k.clock count gap size k.best_left fits (pour-tells k.clock shape.cap size (length k.best_left) clock same).0;
  running = sound.running;
}
sound-pour shape room k count gap size _ fits sound same = sound

-- ---- a release

pub sound-release : (shape : LinkShape) (room : ℕ) (k : Account) (chan : ChanNo) (upstream : Option ℕ) (reply : Reply) → IsSound shape room k → reply ≡ account_reply (whole shape) k (Release chan upstream) → IsSound shape room (account_after shape k (Release chan upstream) reply)
unfolding account_after
sound-release shape room k chan upstream (Is.Closing count cancelled) sound same =
    sound-changed shape room k (is_account_at_hop chan (names_first_hop upstream)) (account_closed count) sound (λ row. refl)
    (λ row found each. record {
      contract = each.contract;
      level_most = each.level_most;
      reach_most = each.reach_most;
      up_reach_most = each.up_reach_most;
      up_bound_most = each.up_bound_most;
      taken_most = each.taken_most;
      lead_most = each.lead_most;
      ahead = tt;
    })
    (λ row found.
    let e = slots-closed shape.bounds count row.terms (release-tells upstream row.terms row.taken (length row.left) count cancelled (same ∙ release-found shape k chan upstream row found)).0 in
    omega (arith, e))
sound-release shape room k chan upstream _ sound same = sound

-- ---- a reserve

-- all slots are at least the free ones
places-most : (bounds : List ℕ) (here : List Arrival) (rows : List AccountRow) → places bounds (of_channels bounds here) rows ≤ most_places bounds here rows
unfolding places most_places
places-most bounds here rows = omega (arith, both-count bounds here, total-le (places_of bounds (of_channels bounds here)) (all_places_of bounds) rows (λ k d inside. omega arith))

-- a new row is sound
new-sound : (levels clock taken : ℕ) (chan : ChanNo) (contract : Traffic) (kind : Kind) (first : Bool) (next : Option LinkNo) (up_reach : ℕ) (level reach : Level) → ReserveFits contract up_reach first → level_number level ≤ levels → level_number reach ≤ levels → IsSoundRow levels clock taken (new_account (tentative chan contract kind first next up_reach level reach))
new-sound levels clock taken chan contract kind first next up_reach level reach fits level_most reach_most = record {
  contract = fits.is_contract;
  level_most = level_most;
  reach_most = reach_most;
  up_reach_most = fits.reach_most;
  up_bound_most = omega arith;
  taken_most = omega arith;
  lead_most = omega arith;
  ahead = tt;
}

-- the account with a row more, at an offer that the link may make, where its places are made room for
pub sound-reserve : (shape : LinkShape) (room : ℕ) (k : Account) (chan : ChanNo) (contract : Traffic) (kind : Kind) (delay up_reach : ℕ) (first : Bool) (next : Option LinkNo) (level reach : Level) → ReserveFits contract up_reach first → IsSound shape room k → MayOffer shape (map account_terms k.rows) chan contract delay up_reach level reach → most_places shape.bounds k.here (k.rows ++ new_account (tentative chan contract kind first next up_reach level reach) ∷ []) + suc shape.best ≤ room → IsSound shape room (with_account_rows k (k.rows ++ new_account (tentative chan contract kind first next up_reach level reach) ∷ []))
sound-reserve shape room k chan contract kind delay up_reach first next level reach fits sound may enough =
    let row : AccountRow = new_account (tentative chan contract kind first next up_reach level reach) in
    sound-rows shape room room k (k.rows ++ row ∷ []) sound
    (AreApart-push k.rows row refl sound.apart)
    (Each-append (IsSoundRow (length shape.bounds) k.clock k.taken) k.rows (row ∷ []) sound.rows (new-sound (length shape.bounds) k.clock k.taken chan contract kind first next up_reach level reach fits may.level_most (may-reach shape (map account_terms k.rows) chan contract delay up_reach level reach may), tt))
    (omega (arith, places-most shape.bounds k.here (k.rows ++ row ∷ []), enough))
