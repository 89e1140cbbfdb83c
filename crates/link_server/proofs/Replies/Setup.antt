-- The answers to an ask, case by case.
use Rattle.std.proofs.Common.{◌≡◌, ℕ, true, false, List, [], ◌∷◌, ◌++◌, length, map, Some, None, refl, sym, ap}
use Rattle.link_server.proofs.Words.{find, nat_le, Reservation, Offered, Wanted, ChanNo, Level, last_bound, reach_of, best_level, refused_sum, Traffic, Relax, Deny, Submit, Tentative, Committed, Refusal, LinkShape, need_of, free_units, level_of, whole, tentative, admitted, is_of, server_of}
use Rattle.link_server.specs.Wants.{ask_for, MayHold}
use Rattle.link_steps.specs.Lists.{change_first, without_first}
use Rattle.link_server.specs.Changes.{IsRowAtHop}
use Rattle.link_server.proofs.RowsOfTable.Places.{terms-found, terms-absent}
use Rattle.link_server.proofs.RowsOfTable.Placed.{hop-changed}
use Rattle.link_steps.specs.declared.replies.Refusal.TheVariants.{NoSuch, TooWide, Twice, NoLevel, NoBuffer}
use Rattle.link_steps.specs.declared.replies.Reply.TheVariants.{Offer, Relaxed, Denied, Planned, Refused}
use Rattle.link_steps.specs.Account.{Account, AccountRow, account_terms, account_reply, account_after, with_account_rows, new_account, account_relaxed, account_planned, account_submit, is_account_of, is_account_at_hop}
use Rattle.link_steps.specs.Refusals.{not_in_phase, unfit, busy, too_big}
use Rattle.link_steps.specs.Room.{room_of, whole_room}
use Rattle.link_steps.specs.Replies.{reserve_reply, relax_reply, deny_reply, submit_reply}
use Rattle.link_steps.proofs.ReservationFound.{whole-offer-may}

-- ---- a deny

pub deny-absent : (shape : LinkShape) (k : Account) (chan : ChanNo) → find (is_account_of chan) k.rows ≡ None → Refused NoSuch ≡ account_reply (whole shape) k (Deny chan)
unfolding account_reply deny_reply
deny-absent shape k chan absent = rw (terms-absent chan k.rows absent) refl

pub deny-refused : (shape : LinkShape) (k : Account) (chan : ChanNo) (row : AccountRow) (refusal : Refusal) → find (is_account_of chan) k.rows ≡ Some row → Some refusal ≡ not_in_phase Tentative row.terms → Refused refusal ≡ account_reply (whole shape) k (Deny chan)
unfolding account_reply deny_reply
deny-refused shape k chan row refusal found phase = rw (terms-found chan k.rows row found, sym phase) refl

pub deny-denied : (shape : LinkShape) (k : Account) (chan : ChanNo) (row : AccountRow) → find (is_account_of chan) k.rows ≡ Some row → None ≡ not_in_phase Tentative row.terms → Denied ≡ account_reply (whole shape) k (Deny chan)
unfolding account_reply deny_reply
deny-denied shape k chan row found phase = rw (terms-found chan k.rows row found, sym phase) refl

-- a refusal changes nothing
pub deny-same : (shape : LinkShape) (k : Account) (chan : ChanNo) (refusal : Refusal) → k ≡ account_after shape k (Deny chan) (Refused refusal)
unfolding account_after
deny-same shape k chan refusal = refl

-- and a deny takes the row out
pub deny-kept : (shape : LinkShape) (k : Account) (chan : ChanNo) → with_account_rows k (without_first (is_account_of chan) k.rows) ≡ account_after shape k (Deny chan) Denied
unfolding account_after
deny-kept shape k chan = refl

-- ---- a relax

pub relax-absent : (shape : LinkShape) (k : Account) (chan : ChanNo) (level : Level) (up_bound : ℕ) → find (is_account_of chan) k.rows ≡ None → Refused NoSuch ≡ account_reply (whole shape) k (Relax chan level up_bound)
unfolding account_reply relax_reply
relax-absent shape k chan level up_bound absent = rw (terms-absent chan k.rows absent) refl

pub relax-phase : (shape : LinkShape) (k : Account) (chan : ChanNo) (level : Level) (up_bound : ℕ) (row : AccountRow) (refusal : Refusal) → find (is_account_of chan) k.rows ≡ Some row → Some refusal ≡ not_in_phase Tentative row.terms → Refused refusal ≡ account_reply (whole shape) k (Relax chan level up_bound)
unfolding account_reply relax_reply
relax-phase shape k chan level up_bound row refusal found phase = rw (terms-found chan k.rows row found, sym phase) refl

pub relax-unfit : (shape : LinkShape) (k : Account) (chan : ChanNo) (level : Level) (up_bound : ℕ) (row : AccountRow) (refusal : Refusal) → find (is_account_of chan) k.rows ≡ Some row → None ≡ not_in_phase Tentative row.terms → Some refusal ≡ unfit row.terms level up_bound → Refused refusal ≡ account_reply (whole shape) k (Relax chan level up_bound)
unfolding account_reply relax_reply
relax-unfit shape k chan level up_bound row refusal found phase fits = rw (terms-found chan k.rows row found, sym phase, sym fits) refl

pub relax-relaxed : (shape : LinkShape) (k : Account) (chan : ChanNo) (level : Level) (up_bound : ℕ) (row : AccountRow) → find (is_account_of chan) k.rows ≡ Some row → None ≡ not_in_phase Tentative row.terms → None ≡ unfit row.terms level up_bound → Relaxed k.clock ≡ account_reply (whole shape) k (Relax chan level up_bound)
unfolding account_reply relax_reply
relax-relaxed shape k chan level up_bound row found phase fits = rw (terms-found chan k.rows row found, sym phase, sym fits) refl

pub relax-same : (shape : LinkShape) (k : Account) (chan : ChanNo) (level : Level) (up_bound : ℕ) (refusal : Refusal) → k ≡ account_after shape k (Relax chan level up_bound) (Refused refusal)
unfolding account_after
relax-same shape k chan level up_bound refusal = refl

-- a relax commits the row
pub relax-kept : (shape : LinkShape) (k : Account) (chan : ChanNo) (level : Level) (up_bound clock : ℕ) → with_account_rows k (change_first (is_account_of chan) (account_relaxed level up_bound) k.rows) ≡ account_after shape k (Relax chan level up_bound) (Relaxed clock)
unfolding account_after
relax-kept shape k chan level up_bound clock = refl

-- ---- a reserve, over the reservations that are held

pub reserve-wide : (shape : LinkShape) (held : List Reservation) (chan : ChanNo) (contract : Traffic) (delay up_reach : ℕ) → nat_le contract.smax shape.cap ≡ false → Refused (TooWide contract.smax shape.cap) ≡ reserve_reply (whole shape) held chan contract delay up_reach
unfolding reserve_reply room_of whole_room
reserve-wide shape held chan contract delay up_reach wide = rw wide refl

pub reserve-twice : (shape : LinkShape) (held : List Reservation) (chan : ChanNo) (contract : Traffic) (delay up_reach : ℕ) (terms : Reservation) → nat_le contract.smax shape.cap ≡ true → find (is_of chan) held ≡ Some terms → Refused (Twice terms.phase) ≡ reserve_reply (whole shape) held chan contract delay up_reach
unfolding reserve_reply room_of whole_room
reserve-twice shape held chan contract delay up_reach terms wide found = rw (wide, found) refl

pub reserve-no_level : (shape : LinkShape) (held : List Reservation) (chan : ChanNo) (contract : Traffic) (delay up_reach : ℕ) → nat_le contract.smax shape.cap ≡ true → find (is_of chan) held ≡ None → best_level (server_of shape) (map admitted held) contract ≡ None → Refused (NoLevel (refused_sum (server_of shape) (map admitted held) contract) (last_bound shape.bounds)) ≡ reserve_reply (whole shape) held chan contract delay up_reach
unfolding reserve_reply room_of whole_room
reserve-no_level shape held chan contract delay up_reach wide found best = rw (wide, found, best) refl

pub reserve-no_buffer : (shape : LinkShape) (held : List Reservation) (chan : ChanNo) (contract : Traffic) (delay up_reach m : ℕ) → nat_le contract.smax shape.cap ≡ true → find (is_of chan) held ≡ None → best_level (server_of shape) (map admitted held) contract ≡ Some m → nat_le (need_of shape.bounds contract up_reach (reach_of shape.bounds delay m)) (free_units shape held) ≡ false → Refused (NoBuffer (need_of shape.bounds contract up_reach (reach_of shape.bounds delay m)) (free_units shape held)) ≡ reserve_reply (whole shape) held chan contract delay up_reach
unfolding reserve_reply room_of whole_room
reserve-no_buffer shape held chan contract delay up_reach m wide found best room = rw (wide, found, best, room) refl

pub reserve-offer : (shape : LinkShape) (held : List Reservation) (chan : ChanNo) (contract : Traffic) (delay up_reach m : ℕ) → nat_le contract.smax shape.cap ≡ true → find (is_of chan) held ≡ None → best_level (server_of shape) (map admitted held) contract ≡ Some m → nat_le (need_of shape.bounds contract up_reach (reach_of shape.bounds delay m)) (free_units shape held) ≡ true → Offer (level_of m) (level_of (reach_of shape.bounds delay m)) ≡ reserve_reply (whole shape) held chan contract delay up_reach
unfolding reserve_reply room_of whole_room
reserve-offer shape held chan contract delay up_reach m wide found best room = rw (wide, found, best, room) refl

-- what the reply offers the link may offer
pub reply-may : (shape : LinkShape) (k : Account) (wanted : Wanted) (offer : Offered) → Offer offer.level offer.reach ≡ account_reply (whole shape) k (ask_for wanted) → MayHold shape (map account_terms k.rows) wanted offer
unfolding account_reply reserve_reply room_of
reply-may shape k wanted offer same = whole-offer-may (whole shape) (map account_terms k.rows) wanted.chan wanted.contract wanted.delay wanted.up_reach offer.level offer.reach same

-- a refusal changes nothing
pub reserve-same : (shape : LinkShape) (k : Account) (wanted : Wanted) (refusal : Refusal) → k ≡ account_after shape k (ask_for wanted) (Refused refusal)
unfolding account_after
reserve-same shape k wanted refusal = refl

-- and an offer holds a row more
pub reserve-kept : (shape : LinkShape) (k : Account) (wanted : Wanted) (level reach : Level) (new : AccountRow) → new ≡ new_account (tentative wanted.chan wanted.contract wanted.kind wanted.first wanted.next wanted.up_reach level reach) → with_account_rows k (k.rows ++ new ∷ []) ≡ account_after shape k (ask_for wanted) (Offer level reach)
unfolding account_after
reserve-kept shape k wanted level reach new same = ap (λ row. with_account_rows k (k.rows ++ row ∷ [])) same

-- ---- a submit

pub submit-absent : (shape : LinkShape) (k : Account) (chan : ChanNo) (count gap size : ℕ) → find (is_account_at_hop chan true) k.rows ≡ None → Refused NoSuch ≡ account_reply (whole shape) k (Submit chan count gap size)
unfolding account_reply
submit-absent shape k chan count gap size absent = rw absent refl

-- the reply is that of the row at the place
pub submit-found : (shape : LinkShape) (k : Account) (chan : ChanNo) (count gap size : ℕ) (row : AccountRow) → find (is_account_at_hop chan true) k.rows ≡ Some row → account_reply (whole shape) k (Submit chan count gap size) ≡ submit_reply k.clock size row.terms (length row.left)
unfolding account_reply
submit-found shape k chan count gap size row found = ap (account_submit k.clock size) found

pub submit-phase : (shape : LinkShape) (k : Account) (chan : ChanNo) (count gap size : ℕ) (row : AccountRow) (refusal : Refusal) → find (is_account_at_hop chan true) k.rows ≡ Some row → Some refusal ≡ not_in_phase Committed row.terms → Refused refusal ≡ account_reply (whole shape) k (Submit chan count gap size)
unfolding submit_reply
submit-phase shape k chan count gap size row refusal found phase = rw (submit-found shape k chan count gap size row found, sym phase) refl

pub submit-busy : (shape : LinkShape) (k : Account) (chan : ChanNo) (count gap size : ℕ) (row : AccountRow) (refusal : Refusal) → find (is_account_at_hop chan true) k.rows ≡ Some row → None ≡ not_in_phase Committed row.terms → Some refusal ≡ busy (length row.left) → Refused refusal ≡ account_reply (whole shape) k (Submit chan count gap size)
unfolding submit_reply
submit-busy shape k chan count gap size row refusal found phase left = rw (submit-found shape k chan count gap size row found, sym phase, sym left) refl

pub submit-big : (shape : LinkShape) (k : Account) (chan : ChanNo) (count gap size : ℕ) (row : AccountRow) (refusal : Refusal) → find (is_account_at_hop chan true) k.rows ≡ Some row → None ≡ not_in_phase Committed row.terms → None ≡ busy (length row.left) → Some refusal ≡ too_big row.terms size → Refused refusal ≡ account_reply (whole shape) k (Submit chan count gap size)
unfolding submit_reply
submit-big shape k chan count gap size row refusal found phase left large = rw (submit-found shape k chan count gap size row found, sym phase, sym left, sym large) refl

pub submit-planned : (shape : LinkShape) (k : Account) (chan : ChanNo) (count gap size : ℕ) (row : AccountRow) → find (is_account_at_hop chan true) k.rows ≡ Some row → None ≡ not_in_phase Committed row.terms → None ≡ busy (length row.left) → None ≡ too_big row.terms size → Planned k.clock ≡ account_reply (whole shape) k (Submit chan count gap size)
unfolding submit_reply
submit-planned shape k chan count gap size row found phase left large = rw (submit-found shape k chan count gap size row found, sym phase, sym left, sym large) refl

pub submit-same : (shape : LinkShape) (k : Account) (chan : ChanNo) (count gap size : ℕ) (refusal : Refusal) → k ≡ account_after shape k (Submit chan count gap size) (Refused refusal)
unfolding account_after
submit-same shape k chan count gap size refusal = refl

-- a submit plans the row's packets
pub submit-kept : (shape : LinkShape) (k : Account) (chan : ChanNo) (count gap size clock : ℕ) (row : AccountRow) → IsRowAtHop chan true k.rows row → with_account_rows k (change_first (is_account_of chan) (account_planned k.clock count gap size) k.rows) ≡ account_after shape k (Submit chan count gap size) (Planned clock)
unfolding account_after
submit-kept shape k chan count gap size clock row is = ap (with_account_rows k) (hop-changed chan true (account_planned k.clock count gap size) k.rows row is)
