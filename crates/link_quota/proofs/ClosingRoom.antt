-- The list of the closing rows has room for every row that a split link holds. No ask but a reserve adds a row, and a reserve
-- makes room for it. A row that is released wasn't listed before, so there is a place for it.
use Rattle.std.proofs.Common.{◌≡◌, ℕ, suc, ◌+◌, ◌<◌, ◌≤◌, Bool, true, false, cond, List, [], ◌∷◌, map, length, Option, Some, None, refl, sym, ap, ◌∙◌, arith}
use Rattle.std.proofs.lemmas.List.{length-map, length_push}
use Rattle.std.specs.Prelude.{IfOk, OnErr, Result, Ok, Err, find}
use Rattle.net_units.specs.declared.numbers.ChanNo.{ChanNo}
use Rattle.traffic_contract.specs.Admission.{total}
use Rattle.link_steps.specs.declared.asks.Ask.{Ask}
use Rattle.link_steps.specs.declared.asks.Ask.TheVariants.{Reserve, Relax, Deny, Submit, Release, Arrive, Tick, Pour}
use Rattle.link_steps.specs.declared.replies.Entry.{Entry}
use Rattle.link_steps.specs.declared.replies.Phase.TheVariants.{Closing}
use Rattle.link_steps.specs.declared.replies.Reply.{Reply}
use Rattle.link_steps.specs.declared.replies.Reply.TheVariants as Is
use Rattle.link_steps.specs.declared.shape.LinkShape.{LinkShape}
use Rattle.link_steps.specs.Hold.{stays}
use Rattle.link_steps.specs.Account.{Account, StandsFor}
use Rattle.link_steps.specs.Lists.{change_first, without_first}
use Rattle.link_steps.specs.Reservation.{Reservation, is_of, is_phase, tentative}
use Rattle.link_steps.specs.Rows.{Row, row_terms, new_row}
use Rattle.link_steps.specs.Scan.{Scan, clock_of, is_row_of, is_row_at_hop, names_first_hop, relax_row, close_row, scan_of, after}
use Rattle.link_steps.specs.Split.{Link, Split, SplitFits, is_split}
use Rattle.link_server.specs.Held.{seen_of}
use Rattle.link_server.specs.declared.held_row.HeldRow.{HeldRow}
use Rattle.link_server.proofs.ChosenLevel.{terms-stand}
use Rattle.link_quota.specs.Closing.{is_closing, if_closing, closing_part, AreClosing, HasRoomToClose}
use Rattle.link_quota.specs.Places.{value_of}
use Rattle.link_quota.specs.Steps.{GoesOn, IsCarrying, IsReserve, IsSettling}
use Rattle.link_quota.specs.Stood.{IsLegallyStood}
use Rattle.link_quota.proofs.ClosingSteps.{left-terms, value-open, value-part}
use Rattle.link_quota.proofs.SomeLegalHistory.{held_in, sure-equal, sure-most, setup-total}
use Rattle.link_quota.proofs.RowChanges.{filter-less, terms-carried}
use Rattle.link_quota.proofs.SplitSteps.{settling-new, settling-setup}

-- ---- how many rows there are after an ask

length-changed : (test : Row → Bool) (change : Row → Row) (rows : List Row) → length (change_first test change rows) ≡ length rows
unfolding change_first
length-changed test change [] = refl
length-changed test change (row ∷ rows) = elim (test row) as (λ b. length (cond b (change row ∷ rows) (row ∷ change_first test change rows)) ≡ suc (length rows)) [ true ↦ refl | false ↦ ap suc (length-changed test change rows) ]

length-taken : (test : Row → Bool) (rows : List Row) → length (without_first test rows) ≤ length rows
unfolding without_first
length-taken test [] = omega arith
length-taken test (row ∷ rows) = (let rest = length-taken test rows in elim (test row) as (λ b. length (cond b rows (row ∷ without_first test rows)) ≤ suc (length rows)) [ true ↦ omega arith | false ↦ omega (arith, rest) ])

-- what is held, from the rows
terms-few : (rows rows' : List Row) → length rows' ≤ length rows → length (map row_terms rows') ≤ length (map row_terms rows)
terms-few rows rows' few = (let one = length-map rows row_terms in let two = length-map rows' row_terms in omega (arith, few, one, two))

-- as the ask settles what becomes of a row
settled-few : (shape : LinkShape) (t : ℕ) (scan : Scan) (chan : ChanNo) (ask : Ask) (reply : Reply) → IsSettling chan ask → length (after shape t scan ask reply).rows ≤ length scan.rows
unfolding after
settled-few shape t scan chan (Relax chan' level up_bound) (Is.Relaxed clock) is = (let same = length-changed (is_row_of chan') (relax_row level up_bound) scan.rows in omega (arith, same))
settled-few shape t scan chan (Deny chan') Is.Denied is = length-taken (is_row_of chan') scan.rows
settled-few shape t scan chan (Release chan' upstream) (Is.Closing count cancelled) is = (let same = length-changed (is_row_at_hop chan' (names_first_hop upstream)) (close_row t count) scan.rows in omega (arith, same))
settled-few shape t scan chan (Reserve chan' contract kind delay up_reach first next) reply is = absurd is
settled-few shape t scan chan (Submit chan' count gap size) reply is = absurd is
settled-few shape t scan chan (Arrive packet) reply is = absurd is
settled-few shape t scan chan Tick reply is = absurd is
settled-few shape t scan chan (Pour count gap size) reply is = absurd is
settled-few shape t scan chan _ _ is = omega arith

-- a reserve adds one at most
reserved-few : (shape : LinkShape) (t : ℕ) (scan : Scan) (ask : Ask) (reply : Reply) → IsReserve ask → length (after shape t scan ask reply).rows ≤ suc (length scan.rows)
unfolding after
reserved-few shape t scan (Reserve chan contract kind delay up_reach first next) (Is.Offer level reach) is = (let one = length_push scan.rows (new_row (tentative chan contract kind first next up_reach level reach)) in omega (arith, one))
reserved-few shape t scan (Reserve chan contract kind delay up_reach first next) _ is = omega arith
reserved-few shape t scan _ reply is = absurd is

-- ---- the room

-- where an entry adds no row
room-few : (link : Link) (k k' : Account) (ask : Ask) (reply : Reply) (capacity : ℕ) → GoesOn link k k' ask reply → ((t : ℕ) (scan : Scan) → length (map row_terms (after link.shape t scan ask reply).rows) ≤ length (map row_terms scan.rows)) → IsLegallyStood link k → HasRoomToClose link.split (held_in k) capacity → HasRoomToClose link.split (held_in k') capacity
unfolding scan_of
room-few link k k' ask reply capacity goes few stood has = λ splits.
    let was = has splits in
    let most = sure-most (length (held_in k')) (length (held_in k)) (λ over. stood (λ h legal stands. over
    (let now = ap length (terms-stand link.shape k' (record { ask = ask; reply = reply } ∷ h) (goes.entered h stands)) in
    let then_is = ap length (terms-stand link.shape k h stands) in
    let less = few (clock_of h) (scan_of link.shape h) in
    omega (arith, now, then_is, less)))) in
    omega (arith, was, most)

pub room-settled : (link : Link) (k k' : Account) (ask : Ask) (reply : Reply) (chan : ChanNo) (capacity : ℕ) → GoesOn link k k' ask reply → IsSettling chan ask → IsLegallyStood link k → HasRoomToClose link.split (held_in k) capacity → HasRoomToClose link.split (held_in k') capacity
room-settled link k k' ask reply chan capacity goes is stood has = room-few link k k' ask reply capacity goes (λ t scan. terms-few scan.rows _ (settled-few link.shape t scan chan ask reply is)) stood has

-- an account that stands for the same histories
pub room-same : (link : Link) (k k' : Account) (capacity : ℕ) → ((h : List Entry) → StandsFor link.shape k h → StandsFor link.shape k' h) → IsLegallyStood link k → HasRoomToClose link.split (held_in k) capacity → HasRoomToClose link.split (held_in k') capacity
room-same link k k' capacity same stood has = λ splits.
    let was = has splits in
    let equal = sure-equal (length (held_in k')) (length (held_in k)) (λ other. stood (λ h legal stands. other (ap length (terms-stand link.shape k' h (same h stands)) ∙ sym (ap length (terms-stand link.shape k h stands))))) in
    omega (arith, was, equal)

pub room-carried : {E : Type 0} (link : Link) (k k' : Account) (ask : Ask) (r : Result Reply E) (capacity : ℕ) → IfOk r (GoesOn link k k' ask) → OnErr r ((h : List Entry) → StandsFor link.shape k h → StandsFor link.shape k' h) → IsCarrying ask → IsLegallyStood link k → HasRoomToClose link.split (held_in k) capacity → HasRoomToClose link.split (held_in k') capacity
room-carried link k k' ask (Ok reply) capacity goes same carries stood has =
    room-few link k k' ask reply capacity goes (λ t scan. (let one = ap length (terms-carried link.shape t scan ask reply carries) in omega (arith, one))) stood has
room-carried link k k' ask (Err e) capacity goes same carries stood has = room-same link k k' capacity same stood has

pub room-ticked : {E : Type 0} (link : Link) (k k' : Account) (r : Result Reply E) (capacity : ℕ) → IfOk r (GoesOn link k k' Tick) → OnErr r ((h : List Entry) → StandsFor link.shape k h → StandsFor link.shape k' h) → IsLegallyStood link k → HasRoomToClose link.split (held_in k) capacity → HasRoomToClose link.split (held_in k') capacity
unfolding after
room-ticked link k k' (Ok reply) capacity goes same stood has =
    room-few link k k' Tick reply capacity goes (λ t scan. (let one = ap length (left-terms link.shape t scan) in let two = terms-few scan.rows _ (filter-less (stays link.shape.bounds t) scan.rows) in omega (arith, one, two))) stood has
room-ticked link k k' (Err e) capacity goes same stood has = room-same link k k' capacity same stood has

-- a reserve has made room for one more
pub room-reserved : (link : Link) (k k' : Account) (ask : Ask) (reply : Reply) (capacity : ℕ) → GoesOn link k k' ask reply → IsReserve ask → IsLegallyStood link k → suc (length (held_in k)) ≤ capacity → HasRoomToClose link.split (held_in k') capacity
unfolding scan_of
room-reserved link k k' ask reply capacity goes is stood room = λ splits.
    let most = sure-most (length (held_in k')) (suc (length (held_in k))) (λ over. stood (λ h legal stands. over
    (let now = ap length (terms-stand link.shape k' (record { ask = ask; reply = reply } ∷ h) (goes.entered h stands)) in
    let then_is = ap length (terms-stand link.shape k h stands) in
    let less = reserved-few link.shape (clock_of h) (scan_of link.shape h) ask reply is in
    let one = length-map (scan_of link.shape h).rows row_terms in
    let two = length-map (after link.shape (clock_of h) (scan_of link.shape h) ask reply).rows row_terms in
    omega (arith, now, then_is, less, one, two)))) in
    omega (arith, room, most)

-- more of it
pub room-more : (split : Split) (held : List Reservation) (capacity capacity' : ℕ) → capacity ≤ capacity' → HasRoomToClose split held capacity → HasRoomToClose split held capacity'
room-more split held capacity capacity' more has = λ splits. (let was = has splits in omega (arith, more, was))

-- ---- a release

-- as many as are listed
count-listed : (rows : List HeldRow) → total (λ _. 1) rows ≡ length rows
count-listed [] = refl
count-listed (row ∷ rows) = (let rest = count-listed rows in omega (arith, rest))

-- at most all are closing
count-closing : (bounds : List ℕ) (held : List Reservation) → total (closing_part bounds (λ _. 1)) held ≤ length held
count-closing bounds [] = omega arith
count-closing bounds (terms ∷ held) =
    let rest = count-closing bounds held in
    elim (is_phase terms.phase Closing) as (λ b. cond b 1 0 + total (closing_part bounds (λ _. 1)) held ≤ suc (length held)) [ true ↦ omega (arith, rest) | false ↦ omega (arith, rest) ]

value-closing : (row : Option HeldRow) → is_closing row ≡ true → value_of (if_closing (λ _. 1)) row ≡ 1
value-closing None closes = cc
value-closing (Some row) closes = rw closes refl

-- the row that it closes finds a place
pub place-to-close : (link : Link) (k k' : Account) (ask : Ask) (reply : Reply) (chan : ChanNo) (rows : List HeldRow) (capacity : ℕ) → SplitFits link → is_split link.split ≡ true → GoesOn link k k' ask reply → IsSettling chan ask → IsLegallyStood link k → AreClosing link (held_in k) rows → HasRoomToClose link.split (held_in k) capacity
    → is_closing (seen_of link.shape.bounds (held_in k) chan) ≡ false → is_closing (seen_of link.shape.bounds (held_in k') chan) ≡ true → length rows < capacity
place-to-close link k k' ask reply chan rows capacity fits splits goes is stood listed has apart closes =
    let sum = setup-total link k k' ask reply chan (closing_part link.shape.bounds (λ _. 1)) fits goes (settling-setup chan ask is) (λ h stands. settling-new chan ask reply _ is) stood in
    let one = value-part link.shape.bounds (λ _. 1) (find (is_of chan) (held_in k)) in
    let two = value-part link.shape.bounds (λ _. 1) (find (is_of chan) (held_in k')) in
    let before = value-open (λ _. 1) (seen_of link.shape.bounds (held_in k) chan) apart in
    let afterwards = value-closing (seen_of link.shape.bounds (held_in k') chan) closes in
    let all = listed splits (λ _. 1) in
    let count = count-listed rows in
    let most = count-closing link.shape.bounds (held_in k') in
    let room = room-settled link k k' ask reply chan capacity goes is stood has splits in
    omega (arith, sum, one, two, before, afterwards, all, count, most, room)
