-- The legal replies to the asks of a setup, where the link holds what the setup counts on. A reserve is answered by an offer,
-- or refused as no more than a reserve may be; a deny and a relax of a tentative reservation are not refused.
use Rattle.std.proofs.Common.{◌≡◌, ℕ, ◌≤◌, true, List, length, Option, Some, None, refl, sym, ap, ◌∙◌, subst, arith}
use Rattle.std.proofs.lemmas.Bool.{le-leb}
use Rattle.std.proofs.lemmas.Option.{same_Some}
use Rattle.std.specs.Prelude.{find, max}
use Rattle.net_units.specs.LevelBounds.{bound_at, levels_within}
use Rattle.net_units.specs.Numbers.{level_number}
use Rattle.net_units.specs.declared.numbers.ChanNo.{ChanNo}
use Rattle.net_units.specs.declared.numbers.Level.{Level}
use Rattle.net_units.proofs.BoundsInOrder.{bounds-parts, within-count, largest-within}
use Rattle.traffic_contract.specs.Contract.{Traffic}
use Rattle.link_steps.specs.declared.replies.Phase.TheVariants.{Tentative}
use Rattle.link_steps.specs.declared.replies.Refusal.{Refusal}
use Rattle.link_steps.specs.declared.replies.Refusal.TheVariants.{NoLevel}
use Rattle.link_steps.specs.declared.replies.Reply.{Reply}
use Rattle.link_steps.specs.declared.replies.Reply.TheVariants as Is
use Rattle.link_steps.specs.declared.shape.LinkShape.{LinkShape}
use Rattle.link_steps.specs.Refusals.{twice, no_level}
use Rattle.link_steps.specs.Admissible.{MayOffer, MayReply}
use Rattle.link_steps.specs.Replies.{reserve_rules, best_offer, reserve_reply_in, reserve_reply, relax_reply, deny_reply}
use Rattle.link_steps.specs.Room.{Room, room_of}
use Rattle.link_steps.specs.Split.{Link}
use Rattle.link_steps.specs.Reservation.{Reservation, is_of}
use Rattle.link_steps.proofs.LevelByNumber.{level_of-number}
use Rattle.link_steps.proofs.ReservationFound.{may-reach}
use Rattle.link_steps.proofs.RuleCases.{rules-fact, unless-some}
use Rattle.setup_protocol.specs.Setup.{is_reserve_refusal}

-- ---- a reserve where none of the channel is held

-- an offer, or a refusal of a reserve
abbrev IsUsual : Reply → Type 0
IsUsual (Is.Offer level reach) = Unit {0}
IsUsual (Is.Refused refusal) = is_reserve_refusal refusal ≡ true
IsUsual _ = ⊥

usual-refusal : (own refusal : Refusal) → refusal ≡ own → is_reserve_refusal own ≡ true → is_reserve_refusal refusal ≡ true
usual-refusal own refusal same is = ap is_reserve_refusal same ∙ is

level-refusal : (best : Option ℕ) (sum bound : ℕ) (refusal : Refusal) → no_level best sum bound ≡ Some refusal → is_reserve_refusal refusal ≡ true
level-refusal None sum bound refusal same = ap is_reserve_refusal (sym (same_Some (NoLevel sum bound) refusal same))
level-refusal (Some level) sum bound refusal same = cc

twice-refusal : (found : Option Reservation) (refusal : Refusal) → found ≡ None → twice found ≡ Some refusal → ⊥
twice-refusal found refusal none same = (let clash : None ≡ Some refusal = ap twice (sym none) ∙ same in cc)

usual-in : (shape : LinkShape) (held : List Reservation) (chan : ChanNo) (contract : Traffic) (delay up_reach : ℕ) (room : Room) → find (is_of chan) held ≡ None → IsUsual (reserve_reply_in shape held chan contract delay up_reach room)
usual-in shape held chan contract delay up_reach room none =
    rules-fact IsUsual (reserve_rules shape held chan contract delay up_reach room) (best_offer shape delay room) (
      λ refusal same. usual-refusal _ refusal (unless-some _ _ refusal same) refl,
      (
        λ refusal same. absurd (twice-refusal (find (is_of chan) held) refusal none same),
        (
          λ refusal same. level-refusal room.best room.sum room.bound refusal same,
          (λ refusal same. usual-refusal _ refusal (unless-some _ _ refusal same) refl, tt),
        ),
      ),
    ) tt

-- the offer of a link with these bounds tells the reach of its level; a refusal is one of a reserve
abbrev pub IsReserved : List ℕ → ℕ → Reply → Type 0
IsReserved bounds delay (Is.Offer level reach) = (level_number reach ≡ levels_within bounds (max delay (bound_at bounds (level_number level)))) × (level_number level ≤ length bounds) × (level_number reach ≤ length bounds)
IsReserved bounds delay (Is.Refused refusal) = is_reserve_refusal refusal ≡ true
IsReserved bounds delay _ = ⊥

offer-reserved : (shape : LinkShape) (held : List Reservation) (chan : ChanNo) (contract : Traffic) (delay up_reach : ℕ) (level reach : Level) → MayOffer shape held chan contract delay up_reach level reach → IsReserved shape.bounds delay (Is.Offer level reach)
offer-reserved shape held chan contract delay up_reach level reach may =
    let parts = bounds-parts shape.bounds shape.bounds_rise in
    let few = parts.most in
    let from : 1 ≤ level_number level = level.least in
    let upto = may.level_most in
    let least = (largest-within shape.bounds (level_number level) (max delay (bound_at shape.bounds (level_number level))) shape.bounds_rise from upto (omega arith)).least in
    let most = within-count shape.bounds (max delay (bound_at shape.bounds (level_number level))) in
    let reached : level_number reach ≡ levels_within shape.bounds (max delay (bound_at shape.bounds (level_number level))) = ap level_number may.reach_is ∙ level_of-number (levels_within shape.bounds (max delay (bound_at shape.bounds (level_number level)))) (omega (arith, least, from)) (omega (arith, most, few)) in
    (reached, upto, may-reach shape held chan contract delay up_reach level reach may)

pub reserve-reply : (link : Link) (held : List Reservation) (chan : ChanNo) (contract : Traffic) (delay up_reach : ℕ) (reply : Reply) → find (is_of chan) held ≡ None → reply ≡ reserve_reply link held chan contract delay up_reach → MayReply link.shape held chan contract delay up_reach reply → IsReserved link.shape.bounds delay reply
unfolding reserve_reply
reserve-reply link held chan contract delay up_reach reply none same may = by-reply reply may (subst IsUsual (sym same) (usual-in link.shape held chan contract delay up_reach (room_of link held chan contract) none)) where
  by-reply : (r : Reply) → MayReply link.shape held chan contract delay up_reach r → IsUsual r → IsReserved link.shape.bounds delay r
  by-reply (Is.Offer level reach) offer usual = offer-reserved link.shape held chan contract delay up_reach level reach offer
  by-reply (Is.Refused refusal) any usual = usual
  by-reply (Is.Relaxed clock) any usual = usual
  by-reply Is.Denied any usual = usual
  by-reply (Is.Planned clock) any usual = usual
  by-reply (Is.Closing count cancelled) any usual = usual
  by-reply (Is.Taken clock eligible) any usual = usual
  by-reply (Is.Ticked clock full sent best_sent best_lost) any usual = usual

-- ---- a deny and a relax of a tentative reservation

pub deny-tentative : (terms : Reservation) → terms.phase ≡ Tentative → deny_reply (Some terms) ≡ Is.Denied
unfolding deny_reply
deny-tentative terms phase = rw phase refl

pub relax-tentative : (t : ℕ) (terms : Reservation) (level : Level) (up_bound : ℕ) → terms.phase ≡ Tentative → level_number terms.level ≤ level_number level → level_number level ≤ level_number terms.reach → up_bound ≤ terms.up_reach → relax_reply t level up_bound (Some terms) ≡ Is.Relaxed t
unfolding relax_reply
relax-tentative t terms level up_bound phase from upto bound =
    rw (phase, le-leb (level_number terms.level) (level_number level) from, le-leb (level_number level) (level_number terms.reach) upto, le-leb up_bound terms.up_reach bound) refl
