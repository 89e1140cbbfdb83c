-- A reserve at a chosen level: every admissible history that the link stands for goes on with its offer, and the offer is
-- the legal reply exactly where the level is the best.
use Rattle.std.proofs.Common.{◌≡◌, ℕ, ◌<◌, ◌≤◌, max, ⊎_elim, List, ◌∷◌, length, map, Option, Some, None, refl, sym, ap, ◌∙◌, subst, arith}
use Rattle.std.specs.Prelude.{◌↔◌, option_map, slice_get}
use Rattle.std.proofs.lemmas.Option.{slice_get-map, slice_get_past}
use Rattle.std.proofs.lemmas.Bool.{cases_lt, le-leb}
use Rattle.net_units.proofs.BoundsInOrder.{bounds-parts, within-count, level-largest}
use Rattle.net_units.specs.LevelBounds.{bound_at, reach_of}
use Rattle.link_server.proofs.Words.{level_number, ChanNo, Level, best_level, Traffic, Ask, Offer, LinkShape, need_of, free_units, AskFits, ReserveFits, level_of, Each, Reservation, admitted, clock_of, scan_of, server_of, whole, Offered, Wanted}
use Rattle.traffic_contract.proofs.AdmissionTest.{best_level-is}
use Rattle.link_steps.specs.declared.asks.Ask.TheVariants.{Reserve, Relax, Deny, Submit, Release, Arrive, Tick, Pour}
use Rattle.link_steps.specs.declared.replies.Entry.{Entry}
use Rattle.link_steps.specs.Admissible.{MayOffer, MayAnswer, IsAdmissible}
use Rattle.link_steps.specs.Account.{HasContract, StandsFor, Account, AccountRow, account_at, account_terms, account_reply}
use Rattle.link_steps.specs.Replies.{reserve_reply, reply_to}
use Rattle.link_steps.specs.Room.{room_of, whole_room}
use Rattle.link_steps.specs.Rows.{row_terms}
use Rattle.link_steps.proofs.Account.{stands-reply, terms-scanned}
use Rattle.link_steps.proofs.LevelByNumber.{level_of-number, level_of-level}
use Rattle.link_steps.proofs.ReservationFound.{offer-best, offer-numbers}
use Rattle.link_server.specs.Held.{seen, seen_at, reach_at, MayReserve, IsBestFor}
use Rattle.link_server.specs.declared.held_row.HeldRow.{HeldRow}
use Rattle.link_server.specs.Wants.{ask_for, MayHold}
use Rattle.link_server.proofs.Replies.Setup.{reserve-offer}

-- ---- the rows held

-- the reservations of the account are those of every history that it stands for
pub terms-stand : (shape : LinkShape) (k : Account) (h : List Entry) → StandsFor shape k h → map account_terms k.rows ≡ map row_terms (scan_of shape h).rows
unfolding account_at
terms-stand shape k h stands = ap (λ kept. map account_terms kept.rows) stands ∙ terms-scanned (clock_of h) (scan_of shape h).rows

-- what is seen of them is the same
pub seen-stand : (shape : LinkShape) (k : Account) (place : ℕ) (row : Option HeldRow) → row ≡ seen_at shape.bounds (map account_terms k.rows) place → (h : List Entry) → StandsFor shape k h → row ≡ seen_at shape.bounds (map row_terms (scan_of shape h).rows) place
seen-stand shape k place row same h stands = same ∙ ap (λ held. seen_at shape.bounds held place) (terms-stand shape k h stands)

-- what is seen at a place is the row there, and nothing past the last row
pub seen-row : (bounds : List ℕ) (rows : List AccountRow) (place : ℕ) (found : Option AccountRow) → slice_get rows place ≡ found → option_map (seen bounds) (option_map account_terms found) ≡ seen_at bounds (map account_terms rows) place
seen-row bounds rows place found at =
    ap (option_map (seen bounds)) (ap (option_map account_terms) (sym at) ∙ sym (slice_get-map account_terms rows place))
    ∙ sym (slice_get-map (seen bounds) (map account_terms rows) place)

pub seen-none : (bounds : List ℕ) (rows : List AccountRow) (place : ℕ) → length rows ≤ place → None ≡ seen_at bounds (map account_terms rows) place
seen-none bounds rows place past = seen-row bounds rows place None (slice_get_past rows place past)

-- ---- admissible

-- an admissible history goes on with an offer that the link may make
pub wanted-admissible : (shape : LinkShape) (k : Account) (wanted : Wanted) (offer : Offered) → ReserveFits wanted.contract wanted.up_reach wanted.first → MayHold shape (map account_terms k.rows) wanted offer → (h : List Entry) → StandsFor shape k h → IsAdmissible shape h → IsAdmissible shape (record { ask = ask_for wanted; reply = Offer offer.level offer.reach } ∷ h)
unfolding IsAdmissible MayAnswer
wanted-admissible shape k wanted offer fits may h stands before =
    (before, record { fits = fits; answered = subst (λ held. MayHold shape held wanted offer) (terms-stand shape k h stands) may })

-- the history with the offer
abbrev pub offered : Ask → Level → Level → List Entry → List Entry
offered ask level reach h = record { ask = ask; reply = Offer level reach } ∷ h

pub offer-admissible : (shape : LinkShape) (k : Account) (ask : Ask) (level reach : Level) → AskFits shape ask → MayReserve shape (map account_terms k.rows) ask level → reach ≡ reach_at shape ask level → (h : List Entry) → StandsFor shape k h → IsAdmissible shape h → IsAdmissible shape (offered ask level reach h)
unfolding IsAdmissible MayAnswer
offer-admissible shape k (Reserve chan contract kind delay up_reach first next) level reach fits may same h stands before = (
  before,
  record {
    fits = fits;
    answered =
        subst (λ held. MayOffer shape held chan contract delay up_reach level reach) (terms-stand shape k h stands)
        (subst (λ far. MayOffer shape (map account_terms k.rows) chan contract delay up_reach level far) (sym same) may);
  },
)
offer-admissible shape k (Relax chan at up_bound) level reach fits may same h stands before = absurd may
offer-admissible shape k (Deny chan) level reach fits may same h stands before = absurd may
offer-admissible shape k (Submit chan count gap size) level reach fits may same h stands before = absurd may
offer-admissible shape k (Release chan upstream) level reach fits may same h stands before = absurd may
offer-admissible shape k (Arrive packet) level reach fits may same h stands before = absurd may
offer-admissible shape k Tick level reach fits may same h stands before = absurd may
offer-admissible shape k (Pour count gap size) level reach fits may same h stands before = absurd may

-- ---- legal

-- a level with the legal offer is the best
legal-best : (shape : LinkShape) (held : List Reservation) (chan : ChanNo) (contract : Traffic) (delay up_reach : ℕ) (level reach : Level) → Offer level reach ≡ reserve_reply (whole shape) held chan contract delay up_reach → best_level (server_of shape) (map admitted held) contract ≡ Some (level_number level)
unfolding reserve_reply room_of whole_room
legal-best shape held chan contract delay up_reach level reach same =
    let offers = offer-best shape held chan contract delay up_reach (whole_room (whole shape) held contract) level reach same in
    let best = best_level-is (server_of shape) (map admitted held) contract offers.number offers.best in
    let numbers = offer-numbers shape held chan contract delay up_reach (whole_room (whole shape) held contract) level reach offers best.from best.upto in
    offers.best ∙ ap Some (sym numbers.level_is)

-- the reach of a level is one of the levels
reach-least : (shape : LinkShape) (delay : ℕ) (level : Level) → level_number level ≤ length shape.bounds → 1 ≤ reach_of shape.bounds delay (level_number level)
reach-least shape delay level upto =
    ⊎_elim (λ (below : reach_of shape.bounds delay (level_number level) < level_number level).
    let over = level-largest shape.bounds (max delay (bound_at shape.bounds (level_number level))) (reach_of shape.bounds delay (level_number level)) (level_number level) shape.bounds_rise refl below upto in
    absurd (omega (arith, over)))
    (λ (above : level_number level ≤ reach_of shape.bounds delay (level_number level)). omega (arith, above, level.least))
    (cases_lt (reach_of shape.bounds delay (level_number level)) (level_number level))

-- the number of a reach that the link may offer
reach-number : (shape : LinkShape) (delay : ℕ) (level : Level) → level_number level ≤ length shape.bounds → level_number (level_of (reach_of shape.bounds delay (level_number level))) ≡ reach_of shape.bounds delay (level_number level)
reach-number shape delay level upto =
    let least = reach-least shape delay level upto in
    let within = within-count shape.bounds (max delay (bound_at shape.bounds (level_number level))) in
    level_of-number (reach_of shape.bounds delay (level_number level)) (omega (arith, least, level.least)) (omega (arith, within, (bounds-parts shape.bounds shape.bounds_rise).most))

-- the offer of the best level, which the link may make, is the legal one
best-legal : (shape : LinkShape) (held : List Reservation) (chan : ChanNo) (contract : Traffic) (delay up_reach : ℕ) (level : Level) → MayOffer shape held chan contract delay up_reach level (level_of (reach_of shape.bounds delay (level_number level))) → best_level (server_of shape) (map admitted held) contract ≡ Some (level_number level) → Offer level (level_of (reach_of shape.bounds delay (level_number level))) ≡ reserve_reply (whole shape) held chan contract delay up_reach
best-legal shape held chan contract delay up_reach level may best =
    let free = subst (λ far. need_of shape.bounds contract up_reach far ≤ free_units shape held) (reach-number shape delay level may.level_most) may.free in
    ap (λ at. Offer at (level_of (reach_of shape.bounds delay (level_number level)))) (sym (level_of-level level))
    ∙ reserve-offer shape held chan contract delay up_reach (level_number level) (le-leb contract.smax shape.cap may.narrow) may.new best (le-leb _ _ free)

chosen-legal : (shape : LinkShape) (k : Account) (ask : Ask) (level reach : Level) → MayReserve shape (map account_terms k.rows) ask level → reach ≡ reach_at shape ask level → (Offer level reach ≡ account_reply (whole shape) k ask) ↔ IsBestFor shape (map account_terms k.rows) ask level
unfolding account_reply
chosen-legal shape k (Reserve chan contract kind delay up_reach first next) level reach may same = (
  legal-best shape (map account_terms k.rows) chan contract delay up_reach level reach,
  λ best. ap (Offer level) same ∙ best-legal shape (map account_terms k.rows) chan contract delay up_reach level may best,
)
chosen-legal shape k (Relax chan at up_bound) level reach may same = absurd may
chosen-legal shape k (Deny chan) level reach may same = absurd may
chosen-legal shape k (Submit chan count gap size) level reach may same = absurd may
chosen-legal shape k (Release chan upstream) level reach may same = absurd may
chosen-legal shape k (Arrive packet) level reach may same = absurd may
chosen-legal shape k Tick level reach may same = absurd may
chosen-legal shape k (Pour count gap size) level reach may same = absurd may

pub offer-legal : (shape : LinkShape) (k : Account) (ask : Ask) (level reach : Level) → Each HasContract k.rows → MayReserve shape (map account_terms k.rows) ask level → reach ≡ reach_at shape ask level → (h : List Entry) → StandsFor shape k h → (Offer level reach ≡ reply_to (whole shape) h ask) ↔ IsBestFor shape (map account_terms k.rows) ask level
offer-legal shape k ask level reach each may same h stands =
    let tie = stands-reply (whole shape) k h ask each stands in
    let chosen = chosen-legal shape k ask level reach may same in
    (λ legal. chosen.0 (legal ∙ sym tie), λ best. chosen.1 best ∙ tie)
