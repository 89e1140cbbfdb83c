-- What each reply that is no refusal says of the reservation that its ask finds, and of the numbers that it is told.
use Rattle.std.proofs.Common.{◌≡◌, ℕ, suc, ◌<◌, ◌≤◌, true, false, not, ◌&&◌, List, length, map, max, Option, Some, None, ⊎_elim, refl, sym, ap, ◌∙◌, subst, arith}
use Rattle.std.proofs.lemmas.Bool.{cases_lt, leb-true, le-leb, ltb-true, eqb-true, not-true}
use Rattle.std.specs.Prelude.{find, nat_eq, nat_le, nat_lt, unwrap_or}
use Rattle.net_units.proofs.BoundsInOrder.{within-count, bounds-parts, level-largest}
use Rattle.net_units.specs.Numbers.{level_number}
use Rattle.net_units.specs.LevelBounds.{bound_at, reach_of}
use Rattle.net_units.specs.declared.numbers.ChanNo.{ChanNo}
use Rattle.net_units.specs.declared.numbers.Level.{Level}
use Rattle.traffic_contract.specs.Admission.{admits}
use Rattle.traffic_contract.specs.Contract.{Traffic}
use Rattle.traffic_contract.proofs.AdmissionTest.{best_level-is, Decides-admits}
use Rattle.link_steps.specs.declared.asks.Packet.{Packet}
use Rattle.link_steps.specs.declared.replies.Phase.{Phase}
use Rattle.link_steps.specs.declared.replies.Phase.TheVariants.{Tentative, Committed, Closing}
use Rattle.link_steps.specs.declared.replies.Reply.TheVariants as Is
use Rattle.link_steps.specs.declared.shape.LinkShape.{LinkShape}
use Rattle.link_steps.specs.Admissible.{MayOffer}
use Rattle.link_steps.specs.Buffer.{slots_of, need_of, free_units}
use Rattle.link_steps.specs.Levels.{level_of}
use Rattle.link_steps.specs.Refusals.{too_wide, twice, no_level, no_buffer, not_in_phase, unfit, busy, too_big, too_big_for, first_hop, uncommitted, wrong_number, past_count, big, full}
use Rattle.link_steps.specs.Replies.{best_offer, reserve_reply_in, relax_reply, deny_reply, submit_reply, pour_reply, release_reply, count_at_release, arrive_reply}
use Rattle.link_steps.specs.Reservation.{Reservation, is_phase, admitted, is_of}
use Rattle.link_steps.specs.Room.{Room, whole_room}
use Rattle.link_steps.specs.Shape.{server_of}
use Rattle.link_steps.specs.Split.{Link}
use Rattle.link_steps.proofs.LevelByNumber.{level_of-number}
use Rattle.link_steps.proofs.RulesPassed.{kept-rule, unless-none, no_level-some, unfit-none}

-- what the test of two phases says
pub phase-is : (a b : Phase) → is_phase a b ≡ true → a ≡ b
phase-is Tentative Tentative same = refl
phase-is Committed Committed same = refl
phase-is Closing Closing same = refl
phase-is Tentative Committed same = cc
phase-is Tentative Closing same = cc
phase-is Committed Tentative same = cc
phase-is Committed Closing same = cc
phase-is Closing Tentative same = cc
phase-is Closing Committed same = cc

-- ---- a reserve

-- the refusal of a channel that holds a reservation
not-twice : (found : Option Reservation) → twice found ≡ None → found ≡ None
not-twice None none = refl
not-twice (Some terms) none = cc

-- what an offer says of the room that it was made in
pub record OffersBest (shape : LinkShape) (held : List Reservation) (chan : ChanNo) (contract : Traffic) (delay up_reach : ℕ) (room : Room) (level reach : Level) : Type 0 where
  pub narrow : contract.smax ≤ shape.cap
  pub new : find (is_of chan) held ≡ None
  pub number : ℕ
  pub best : room.best ≡ Some number
  pub level_is : level ≡ level_of number
  pub reach_is : reach ≡ level_of (reach_of shape.bounds delay number)
  pub free : need_of shape.bounds contract up_reach (reach_of shape.bounds delay number) ≤ room.free

pub offer-best : (shape : LinkShape) (held : List Reservation) (chan : ChanNo) (contract : Traffic) (delay up_reach : ℕ) (room : Room) (level reach : Level) → Is.Offer level reach ≡ reserve_reply_in shape held chan contract delay up_reach room → OffersBest shape held chan contract delay up_reach room level reach
offer-best shape held chan contract delay up_reach room level reach same =
    let wide = kept-rule (too_wide contract shape.cap) _ (Is.Offer level reach) tt same in
    let new = kept-rule (twice (find (is_of chan) held)) _ (Is.Offer level reach) tt wide.1 in
    let some = kept-rule (no_level room.best room.sum room.bound) _ (Is.Offer level reach) tt new.1 in
    let found = no_level-some room.best room.sum room.bound some.0 in
    let units = kept-rule (no_buffer (need_of shape.bounds contract up_reach (reach_of shape.bounds delay (unwrap_or room.best 0))) room.free) (best_offer shape delay room) (Is.Offer level reach) tt some.1 in
    record {
      narrow = leb-true contract.smax shape.cap (unless-none (nat_le contract.smax shape.cap) _ wide.0);
      new = not-twice (find (is_of chan) held) new.0;
      number = found.0;
      best = found.1;
      level_is = offered-level level _ reach _ units.1 ∙ ap (λ o. level_of (unwrap_or o 0)) found.1;
      reach_is = offered-reach level _ reach _ units.1 ∙ ap (λ o. level_of (reach_of shape.bounds delay (unwrap_or o 0))) found.1;
      free = subst (λ o. need_of shape.bounds contract up_reach (reach_of shape.bounds delay (unwrap_or o 0)) ≤ room.free) found.1 (leb-true _ _ (unless-none (nat_le (need_of shape.bounds contract up_reach (reach_of shape.bounds delay (unwrap_or room.best 0))) room.free) _ units.0));
    } where
      offered-level : (level other reach far : Level) → Is.Offer level reach ≡ Is.Offer other far → level ≡ other
      offered-level level other reach far same = cc

      offered-reach : (level other reach far : Level) → Is.Offer level reach ≡ Is.Offer other far → reach ≡ far
      offered-reach level other reach far same = cc

-- the reach of a level is at least that level
reach-least : (shape : LinkShape) (delay m : ℕ) → m ≤ length shape.bounds → m ≤ reach_of shape.bounds delay m
reach-least shape delay m upto =
    ⊎_elim (λ (below : reach_of shape.bounds delay m < m).
    let over = level-largest shape.bounds (max delay (bound_at shape.bounds m)) (reach_of shape.bounds delay m) m shape.bounds_rise refl below upto in
    absurd (omega (arith, over)))
    (λ (above : m ≤ reach_of shape.bounds delay m). above)
    (cases_lt (reach_of shape.bounds delay m) m)

-- the numbers of an offer's level and reach, where the best level is one of the link's
pub record OffersNumbers (shape : LinkShape) (delay number : ℕ) (level reach : Level) : Type 0 where
  pub level_is : level_number level ≡ number
  pub reach_is : level_number reach ≡ reach_of shape.bounds delay number

pub offer-numbers : (shape : LinkShape) (held : List Reservation) (chan : ChanNo) (contract : Traffic) (delay up_reach : ℕ) (room : Room) (level reach : Level) → (offers : OffersBest shape held chan contract delay up_reach room level reach) → 1 ≤ offers.number → offers.number ≤ length shape.bounds → OffersNumbers shape delay offers.number level reach
offer-numbers shape held chan contract delay up_reach room level reach offers from upto =
    let most = (bounds-parts shape.bounds shape.bounds_rise).most in
    let within = within-count shape.bounds (max delay (bound_at shape.bounds offers.number)) in
    record {
      level_is = ap level_number offers.level_is ∙ level_of-number offers.number from (omega (arith, upto, most));
      reach_is = ap level_number offers.reach_is ∙ level_of-number (reach_of shape.bounds delay offers.number) (omega (arith, from, reach-least shape delay offers.number upto)) (omega (arith, within, most));
    }

-- an offer of a level that passes, whose need is free, is one that the link may make
pub offer-may : (shape : LinkShape) (held : List Reservation) (chan : ChanNo) (contract : Traffic) (delay up_reach : ℕ) (room : Room) (level reach : Level) → (offers : OffersBest shape held chan contract delay up_reach room level reach) → 1 ≤ offers.number → offers.number ≤ length shape.bounds → admits (server_of shape) (map admitted held) contract offers.number ≡ true → need_of shape.bounds contract up_reach (reach_of shape.bounds delay offers.number) ≤ free_units shape held → MayOffer shape held chan contract delay up_reach level reach
offer-may shape held chan contract delay up_reach room level reach offers from upto passes free =
    let numbers = offer-numbers shape held chan contract delay up_reach room level reach offers from upto in
    let n = numbers.level_is in
    record {
      narrow = offers.narrow;
      new = offers.new;
      level_most = omega (arith, n, upto);
      passes = subst (λ m. admits (server_of shape) (map admitted held) contract m ≡ true) (sym n) passes;
      reach_is = offers.reach_is ∙ ap (λ m. level_of (reach_of shape.bounds delay m)) (sym n);
      free = subst (λ k. need_of shape.bounds contract up_reach k ≤ free_units shape held) (sym numbers.reach_is) free;
    }

-- so it is where the room is the whole link's
pub whole-offer-may : (link : Link) (held : List Reservation) (chan : ChanNo) (contract : Traffic) (delay up_reach : ℕ) (level reach : Level) → Is.Offer level reach ≡ reserve_reply_in link.shape held chan contract delay up_reach (whole_room link held contract) → MayOffer link.shape held chan contract delay up_reach level reach
unfolding whole_room
whole-offer-may link held chan contract delay up_reach level reach same =
    let offers = offer-best link.shape held chan contract delay up_reach (whole_room link held contract) level reach same in
    let best = best_level-is (server_of link.shape) (map admitted held) contract offers.number offers.best in
    offer-may link.shape held chan contract delay up_reach (whole_room link held contract) level reach offers best.from best.upto ((Decides-admits (server_of link.shape) (map admitted held) contract offers.number).1 best.passes) offers.free

-- the reach of an offer that it may make is one of the link's levels
pub may-reach : (shape : LinkShape) (held : List Reservation) (chan : ChanNo) (contract : Traffic) (delay up_reach : ℕ) (level reach : Level) → MayOffer shape held chan contract delay up_reach level reach → level_number reach ≤ length shape.bounds
may-reach shape held chan contract delay up_reach level reach may =
    let least = (bounds-parts shape.bounds shape.bounds_rise).least in
    let within = within-count shape.bounds (max delay (bound_at shape.bounds (level_number level))) in
    let e = ap level_number may.reach_is in
    omega (arith, e, within, least)

-- ---- a relax and a deny

-- a relax finds a tentative reservation, a level from the offer to the reach, and a bound before within the reach before
pub record FitsOffer (terms : Reservation) (level : Level) (up_bound : ℕ) : Type 0 where
  pub phase : terms.phase ≡ Tentative
  pub level_least : level_number terms.level ≤ level_number level
  pub level_most : level_number level ≤ level_number terms.reach
  pub bound_most : up_bound ≤ terms.up_reach

pub relax-tells : (t : ℕ) (terms : Reservation) (level : Level) (up_bound clock : ℕ) → Is.Relaxed clock ≡ relax_reply t level up_bound (Some terms) → FitsOffer terms level up_bound
unfolding relax_reply
relax-tells t terms level up_bound clock same =
    let phase = kept-rule (not_in_phase Tentative terms) _ (Is.Relaxed clock) tt same in
    let fit = kept-rule (unfit terms level up_bound) _ (Is.Relaxed clock) tt phase.1 in
    let parts = unfit-none terms level up_bound fit.0 in
    record {
      phase = phase-is terms.phase Tentative (unless-none _ _ phase.0);
      level_least = parts.0;
      level_most = parts.1;
      bound_most = parts.2;
    }

-- a deny finds a tentative reservation too
pub deny-tells : (terms : Reservation) → Is.Denied ≡ deny_reply (Some terms) → terms.phase ≡ Tentative
unfolding deny_reply
deny-tells terms same =
    let phase = kept-rule (not_in_phase Tentative terms) _ Is.Denied tt same in
    phase-is terms.phase Tentative (unless-none _ _ phase.0)

-- ---- a submit and a release

-- a submit finds a committed reservation of which nothing is left, and its packets are no larger than the contract's
pub submit-tells : (t size : ℕ) (terms : Reservation) (left clock : ℕ) → Is.Planned clock ≡ submit_reply t size terms left → (terms.phase ≡ Committed) × (left ≡ 0) × (size ≤ terms.contract.smax)
unfolding submit_reply
submit-tells t size terms left clock same =
    let phase = kept-rule (not_in_phase Committed terms) _ (Is.Planned clock) tt same in
    let free = kept-rule (busy left) _ (Is.Planned clock) tt phase.1 in
    let small = kept-rule (too_big terms size) _ (Is.Planned clock) tt free.1 in
    (phase-is terms.phase Committed (unless-none _ _ phase.0), eqb-true left 0 (unless-none (nat_eq left 0) _ free.0), leb-true size terms.contract.smax (unless-none _ _ small.0))

pub closing-count : (a b c d : ℕ) → Is.Closing a b ≡ Is.Closing c d → a ≡ c
closing-count a b c d same = cc

-- a release finds a committed reservation, and counts at least the packets taken
pub release-tells : (upstream : Option ℕ) (terms : Reservation) (taken left count cancelled : ℕ) → Is.Closing count cancelled ≡ release_reply upstream terms taken left → (terms.phase ≡ Committed) × (taken ≤ count)
unfolding release_reply
release-tells upstream terms taken left count cancelled same =
    let phase = kept-rule (not_in_phase Committed terms) _ (Is.Closing count cancelled) tt same in
    let counts : count ≡ count_at_release upstream taken = closing-count count cancelled _ _ phase.1 in
    let most = most-at-release upstream in
    (phase-is terms.phase Committed (unless-none _ _ phase.0), omega (arith, counts, most)) where
      most-at-release : (upstream : Option ℕ) → taken ≤ count_at_release upstream taken
      most-at-release None = omega arith
      most-at-release (Some told) = omega arith

-- ---- a pour

-- a pour finds nothing left, and its packets are no larger than the link carries
pub pour-tells : (t cap size left clock : ℕ) → Is.Planned clock ≡ pour_reply t cap size left → (left ≡ 0) × (size ≤ cap)
unfolding pour_reply
pour-tells t cap size left clock same =
    let free = kept-rule (busy left) _ (Is.Planned clock) tt same in
    let small = kept-rule (too_big_for cap size) _ (Is.Planned clock) tt free.1 in
    (eqb-true left 0 (unless-none (nat_eq left 0) _ free.0), leb-true size cap (unless-none (nat_le size cap) _ small.0))

-- ---- an arrive

-- a packet that is taken finds a reservation past its first hop that isn't tentative, that may take one more and has a
-- slot free, and whose packets are as large; its number is the next one
pub record TakesPacket (bounds : List ℕ) (packet : Packet) (terms : Reservation) (taken held : ℕ) : Type 0 where
  pub later : terms.first ≡ false
  pub settled : terms.phase ≡ Tentative → ⊥
  pub number : packet.number ≡ suc taken
  pub counts : terms.phase ≡ Closing → taken < terms.count
  pub fits : packet.size ≤ terms.contract.smax
  pub free : held < slots_of bounds terms

pub arrive-tells : (bounds : List ℕ) (t : ℕ) (packet : Packet) (terms : Reservation) (taken held e clock eligible : ℕ) → Is.Taken clock eligible ≡ arrive_reply bounds t packet terms taken held e → TakesPacket bounds packet terms taken held
unfolding arrive_reply
arrive-tells bounds t packet terms taken held e clock eligible same =
    let hop = kept-rule (first_hop terms) _ (Is.Taken clock eligible) tt same in
    let ready = kept-rule (uncommitted terms) _ (Is.Taken clock eligible) tt hop.1 in
    let number = kept-rule (wrong_number packet.number (suc taken)) _ (Is.Taken clock eligible) tt ready.1 in
    let past = kept-rule (past_count terms taken) _ (Is.Taken clock eligible) tt number.1 in
    let wide = kept-rule (big terms packet.size) _ (Is.Taken clock eligible) tt past.1 in
    let slot = kept-rule (full held (slots_of bounds terms)) _ (Is.Taken clock eligible) tt wide.1 in
    let unset = unless-none (not (is_phase terms.phase Tentative)) _ ready.0 in
    let open_yet = unless-none (not (is_phase terms.phase Closing && nat_le terms.count taken)) _ past.0 in
    record {
      later = not-true terms.first (unless-none (not terms.first) _ hop.0);
      settled = λ is. settles terms.phase is unset;
      number = eqb-true packet.number (suc taken) (unless-none (nat_eq packet.number (suc taken)) _ number.0);
      counts = λ is. counts terms.phase terms.count is open_yet;
      fits = leb-true packet.size terms.contract.smax (unless-none (nat_le packet.size terms.contract.smax) _ wide.0);
      free = ltb-true held (slots_of bounds terms) (unless-none (nat_lt held (slots_of bounds terms)) _ slot.0);
    } where
      settles : (phase : Phase) → phase ≡ Tentative → not (is_phase phase Tentative) ≡ true → ⊥
      settles phase is passed = (let h : false ≡ true = rw is at passed in cc)

      counts : (phase : Phase) (count : ℕ) → phase ≡ Closing → not (is_phase phase Closing && nat_le count taken) ≡ true → taken < count
      counts phase count is passed =
          let h : not (nat_le count taken) ≡ true = rw is at passed in
          ⊎_elim (λ (less : taken < count). less) (λ (more : count ≤ taken). absurd (let f : false ≡ true = rw (le-leb count taken more) at h in cc)) (cases_lt taken count)
