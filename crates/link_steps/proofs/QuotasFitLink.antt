-- On a link whose split fits it, held reservations of which each group is within its quota pass the admission test and fit
-- the buffer; and an offer by the room of its group keeps that group within it.
use Rattle.std.proofs.Common.{◌≡◌, ℕ, suc, ◌+◌, ◌-◌, ◌<◌, ◌≤◌, Bool, true, false, cond, List, [], ◌∷◌, ◌++◌, length, map, Option, Some, None, inl, inr, ⊎_elim, refl, sym, ap, ◌∙◌, subst, arith}
use Rattle.std.proofs.lemmas.Bool.{cases_Bool, cases_lt, leb-true, eqb-true}
use Rattle.std.proofs.lemmas.List.{map-append}
use Rattle.std.specs.Prelude.{nat_eq}
use Rattle.net_units.proofs.BoundsInOrder.{bound-least}
use Rattle.net_units.specs.LevelBounds.{bound_at, reach_of}
use Rattle.net_units.specs.declared.Kind.{Kind}
use Rattle.net_units.specs.declared.Kind.TheVariants.{Rate}
use Rattle.net_units.specs.declared.numbers.ChanNo.{ChanNo}
use Rattle.net_units.specs.declared.numbers.Level.{Level}
use Rattle.net_units.specs.declared.numbers.LinkNo.{LinkNo}
use Rattle.traffic_contract.specs.Admission.{total, work_up_to, load, Passes, with_row}
use Rattle.traffic_contract.specs.Contract.{Traffic}
use Rattle.traffic_contract.proofs.AdmissionTest.{total-map, total-push, work_up_to-above, work_up_to-le, PassesAt-whole, Decides-admits, first_level-is}
use Rattle.link_steps.specs.declared.asks.Ask.{Ask}
use Rattle.link_steps.specs.declared.asks.Ask.TheVariants.{Reserve}
use Rattle.link_steps.specs.declared.replies.Reply.{Reply}
use Rattle.link_steps.specs.declared.replies.Reply.TheVariants as Is
use Rattle.link_steps.specs.Admissible.{MayOffer, MayAnswer}
use Rattle.link_steps.specs.Buffer.{held_units, need_of, free_units}
use Rattle.link_steps.specs.Replies.{reserve_reply_in, reserve_reply, reply_at}
use Rattle.link_steps.specs.Reservation.{Reservation, admitted, tentative, committed, closing}
use Rattle.link_steps.specs.Room.{group_work, group_units, group_sum, level_quota, buffer_quota, within_quota, group_admits, group_room, room_of}
use Rattle.link_steps.specs.Lists.{Each}
use Rattle.link_steps.specs.Rows.{Row, row_terms, new_row}
use Rattle.link_steps.specs.Scan.{Scan, after}
use Rattle.link_steps.specs.Shape.{server_of}
use Rattle.link_steps.specs.Split.{Link, is_split, group_of, is_in, level_part, buffer_part, SplitFits}
use Rattle.link_steps.specs.Effects.{effect_of}
use Rattle.link_steps.specs.Legal.{AskFits}
use Rattle.link_steps.proofs.EntryEffects.{by-effect, effect-fits, offer_of, is-effect}
use Rattle.link_steps.proofs.RowsInOrder.{IsInOrder}
use Rattle.link_steps.proofs.ReservationFound.{OffersBest, offer-best, offer-numbers, offer-may}
use Rattle.link_steps.proofs.RulesAsMeant.{need-kept}
use Rattle.link_steps.proofs.Shares.{Share, amount_of, in_group, within-together}
use Rattle.link_steps.proofs.SumAfter.{OnlyNewRaise, added_by, sum-effect}
use Rattle.link_steps.proofs.UnitsHeld.{units-raise}
use Rattle.link_steps.proofs.TestsInTurn.{all_from-each}

-- each group is within its quotas
pub record AreWithin (link : Link) (held : List Reservation) : Type 0 where
  pub levels : (group m : ℕ) → 1 ≤ m → m ≤ length link.shape.bounds → total (group_work link group m) held ≤ level_quota link group m
  pub buffer : (group : ℕ) → total (group_units link group) held ≤ buffer_quota link group

-- ---- then all together are

-- what a reservation adds to the levels up to m
abbrev work_at : Link → ℕ → Reservation → ℕ
work_at link m terms = work_up_to link.shape.rate m (bound_at link.shape.bounds m) (admitted terms)

abbrev share_of : Link → (Reservation → ℕ) → Reservation → Share
share_of link f terms = record { group = group_of link.split terms.chan; amount = f terms }

together-levels : (link : Link) (held : List Reservation) (m : ℕ) → AreWithin link held → 1 ≤ m → m ≤ length link.shape.bounds → total (work_at link m) held ≤ total (level_part m) link.split.quotas
unfolding group_work
together-levels link held m within from upto =
    let e = total-map amount_of (share_of link (work_at link m)) held in
    let all = within-together (level_part m) link.split.quotas (map (share_of link (work_at link m)) held) (λ group.
    (let g = total-map (in_group group) (share_of link (work_at link m)) held in let h = within.levels group m from upto in omega (arith, g, h))) in
    omega (arith, e, all)

together-buffer : (link : Link) (held : List Reservation) → AreWithin link held → total (held_units link.shape.bounds) held ≤ total buffer_part link.split.quotas
unfolding group_units
together-buffer link held within =
    let e = total-map amount_of (share_of link (held_units link.shape.bounds)) held in
    let all = within-together buffer_part link.split.quotas (map (share_of link (held_units link.shape.bounds)) held) (λ group.
    (let g = total-map (in_group group) (share_of link (held_units link.shape.bounds)) held in let h = within.buffer group in omega (arith, g, h))) in
    omega (arith, e, all)

-- and so the held pass
within-passes : (link : Link) (held : List Reservation) → SplitFits link → AreWithin link held → Passes (server_of link.shape) (map admitted held)
unfolding load
within-passes link held fits within = record {
  each = λ m from upto.
      let e = total-map (work_up_to link.shape.rate m (bound_at link.shape.bounds m)) admitted held in
      let all = together-levels link held m within from upto in
      let room = fits.levels m from upto in
      PassesAt-whole (server_of link.shape) (map admitted held) m (bound-least link.shape.bounds m link.shape.bounds_rise from upto) (omega (arith, e, all, room));
}

-- ---- an offer keeps each group within its quotas

-- what the best level of a group is
best-group : (link : Link) (held : List Reservation) (group : ℕ) (contract : Traffic) (m : ℕ) → (group_room link held group contract).best ≡ Some m → (1 ≤ m) × (m ≤ length link.shape.bounds) × ((k : ℕ) → m ≤ k → k ≤ length link.shape.bounds → group_sum link held group contract m k ≤ level_quota link group k)
unfolding group_room group_admits
best-group link held group contract m best =
    let found = first_level-is (group_admits link held group contract) 1 (length link.shape.bounds) m best in
    let upto = found.1 in (
      found.0,
      omega (arith, upto),
      λ k from within. leb-true _ _ (all_from-each (within_quota link held group contract m) m (suc (length link.shape.bounds) - m) found.2 k from (omega (arith, upto, within))),
    )

-- the reservation of an offer in the room of its group keeps every group within its quotas
pub within-offered : (link : Link) (held : List Reservation) (chan : ChanNo) (contract : Traffic) (kind : Kind) (first : Bool) (next : Option LinkNo) (delay up_reach : ℕ) (level reach : Level) → AreWithin link held → (offers : OffersBest link.shape held chan contract delay up_reach (group_room link held (group_of link.split chan) contract) level reach) → AreWithin link (held ++ tentative chan contract kind first next up_reach level reach ∷ [])
unfolding group_work group_units group_room need_of held_units
within-offered link held chan contract kind first next delay up_reach level reach within offers =
    let group = group_of link.split chan in
    let new = tentative chan contract kind first next up_reach level reach in
    let best = best-group link held (group_of link.split chan) contract offers.number offers.best in
    let numbers = offer-numbers link.shape held chan contract delay up_reach (group_room link held (group_of link.split chan) contract) level reach offers best.0 best.1 in
    record {
      levels = λ g m from upto.
          let e = total-push (group_work link g m) held (tentative chan contract kind first next up_reach level reach) in
          let before = within.levels g m from upto in
          elim (cases_Bool (nat_eq (group_of link.split chan) g)) [
            | inl own ↦
                let same = eqb-true (group_of link.split chan) g own in
                ⊎_elim (λ (below : m < offers.number).
                let none = work_up_to-above link.shape.rate m (bound_at link.shape.bounds m) (admitted (tentative chan contract kind first next up_reach level reach)) (let n = numbers.level_is in omega (arith, below, n)) in
                (let f = rw own at e in omega (arith, f, none, before)))
                (λ (above : offers.number ≤ m).
                let sum = best.2 m above upto in
                let at_level : work_at link m (tentative chan contract kind first next up_reach level reach) ≡ work_up_to link.shape.rate m (bound_at link.shape.bounds m) (record { contract = contract; level = offers.number }) = ap (λ l. work_up_to link.shape.rate m (bound_at link.shape.bounds m) (record { contract = contract; level = l })) numbers.level_is in
                let within_own = subst (λ h. total (group_work link h m) held + work_up_to link.shape.rate m (bound_at link.shape.bounds m) (record { contract = contract; level = offers.number }) ≤ level_quota link h m) same sum in
                (let f = rw own at e in omega (arith, f, at_level, within_own)))
                (cases_lt m offers.number)
            | inr other ↦ (let f = rw other at e in omega (arith, f, before))
          ];
      buffer = λ g.
          let e = total-push (group_units link g) held (tentative chan contract kind first next up_reach level reach) in
          let before = within.buffer g in
          elim (cases_Bool (nat_eq (group_of link.split chan) g)) [
            | inl own ↦
                let same = eqb-true (group_of link.split chan) g own in
                let free = subst (λ h. need_of link.shape.bounds contract up_reach (reach_of link.shape.bounds delay offers.number) ≤ buffer_quota link h - total (group_units link h) held) same offers.free in
                let need = subst (λ k. need_of link.shape.bounds contract up_reach k ≤ buffer_quota link g - total (group_units link g) held) (sym numbers.reach_is) free in
                (let f = rw own at e in omega (arith, f, need, before))
            | inr other ↦ (let f = rw other at e in omega (arith, f, before))
          ];
    }

-- so such an offer is one that the link may make
pub group-offer-may : (link : Link) (held : List Reservation) (chan : ChanNo) (contract : Traffic) (delay up_reach : ℕ) (level reach : Level) → SplitFits link → AreWithin link held → Is.Offer level reach ≡ reserve_reply_in link.shape held chan contract delay up_reach (group_room link held (group_of link.split chan) contract) → MayOffer link.shape held chan contract delay up_reach level reach
unfolding free_units
group-offer-may link held chan contract delay up_reach level reach fits within same =
    let offers = offer-best link.shape held chan contract delay up_reach (group_room link held (group_of link.split chan) contract) level reach same in
    let best = best-group link held (group_of link.split chan) contract offers.number offers.best in
    let numbers = offer-numbers link.shape held chan contract delay up_reach (group_room link held (group_of link.split chan) contract) level reach offers best.0 best.1 in
    let new : Reservation = tentative chan contract Rate true None up_reach level reach in
    let after = within-offered link held chan contract Rate true None delay up_reach level reach within offers in
    let rows : map admitted (held ++ new ∷ []) ≡ with_row (map admitted held) contract offers.number = map-append admitted held (new ∷ []) ∙ ap (λ l. with_row (map admitted held) contract l) numbers.level_is in
    let passes = subst (Passes (server_of link.shape)) rows (within-passes link (held ++ tentative chan contract Rate true None up_reach level reach ∷ []) fits after) in
    let all = together-buffer link (held ++ tentative chan contract Rate true None up_reach level reach ∷ []) after in
    let sum = total-push (held_units link.shape.bounds) held (tentative chan contract Rate true None up_reach level reach) in
    let need : held_units link.shape.bounds new ≡ need_of link.shape.bounds contract up_reach (reach_of link.shape.bounds delay offers.number) = need-kept link.shape.bounds chan contract Rate true None up_reach level reach ∙ ap (need_of link.shape.bounds contract up_reach) numbers.reach_is in
    let fit = fits.buffer in
    offer-may link.shape held chan contract delay up_reach (group_room link held (group_of link.split chan) contract) level reach offers best.0 best.1
    ((Decides-admits (server_of link.shape) (map admitted held) contract offers.number).1 passes)
    (omega (arith, all, sum, need, fit))

-- ---- what raises the parts of a group

work-raise : (link : Link) (group m : ℕ) → OnlyNewRaise link.shape (group_work link group m)
unfolding group_work
work-raise link group m = record {
  relaxed = λ level up_bound terms fits valid most.
      let less = work_up_to-le link.shape.rate m (bound_at link.shape.bounds m) (admitted terms) (admitted (committed level up_bound terms)) refl fits.level_least in
      elim (is_in link.split group terms.chan) as (λ b. cond b (work_at link m (committed level up_bound terms)) 0 ≤ cond b (work_at link m terms) 0) [ true ↦ less | false ↦ omega arith ];
  closed = λ count terms is. omega arith;
}

group-units-raise : (link : Link) (group : ℕ) → OnlyNewRaise link.shape (group_units link group)
unfolding group_units
group-units-raise link group = record {
  relaxed = λ level up_bound terms fits valid most.
      let less = (units-raise link.shape).relaxed level up_bound terms fits valid most in
      elim (is_in link.split group terms.chan) as (λ b. cond b (held_units link.shape.bounds (committed level up_bound terms)) 0 ≤ cond b (held_units link.shape.bounds terms) 0) [ true ↦ less | false ↦ omega arith ];
  closed = λ count terms is.
      let less = (units-raise link.shape).closed count terms is in
      elim (is_in link.split group terms.chan) as (λ b. cond b (held_units link.shape.bounds (closing count terms)) 0 ≤ cond b (held_units link.shape.bounds terms) 0) [ true ↦ less | false ↦ omega arith ];
}

-- without a new row each group stays within its quotas
within-less : (link : Link) (held others : List Reservation) → ((f : Reservation → ℕ) → OnlyNewRaise link.shape f → total f others ≤ total f held) → AreWithin link held → AreWithin link others
within-less link held others less within = record {
  levels = λ g m from upto. (let h = less (group_work link g m) (work-raise link g m) in let w = within.levels g m from upto in omega (arith, h, w));
  buffer = λ g. (let h = less (group_units link g) (group-units-raise link g) in let w = within.buffer g in omega (arith, h, w));
}

-- a sum of theirs is raised by a new row alone
sum-after : (f : Reservation → ℕ) (link : Link) (t : ℕ) (scan : Scan) (ask : Ask) (reply : Reply) → OnlyNewRaise link.shape f → AskFits link.shape ask → MayAnswer link.shape t scan ask reply → Each (IsInOrder link.shape t) scan.rows → total f (map row_terms (after link.shape t scan ask reply).rows) ≤ total f (map row_terms scan.rows) + added_by f (offer_of ask reply)
sum-after f link t scan ask reply raise fits may order =
    let added = ap (added_by f) (is-effect link.shape t scan ask reply).new_is in
    by-effect (λ clock later. total f (map row_terms later.rows) ≤ total f (map row_terms scan.rows) + added_by f (offer_of ask reply)) link.shape t scan ask reply
    (let more = sum-effect f link.shape t scan (effect_of scan ask reply) raise (effect-fits link.shape t scan ask reply fits may) order in omega (arith, more, added))

-- after each legal entry they do
pub within-after : (link : Link) (t : ℕ) (scan : Scan) (ask : Ask) (reply : Reply) → is_split link.split ≡ true → reply ≡ reply_at link t scan ask → AskFits link.shape ask → MayAnswer link.shape t scan ask reply → Each (IsInOrder link.shape t) scan.rows → AreWithin link (map row_terms scan.rows) → AreWithin link (map row_terms (after link.shape t scan ask reply).rows)
unfolding after reply_at reserve_reply room_of
within-after link t scan (Reserve chan contract kind delay up_reach first next) (Is.Offer level reach) splits same fits may order within =
    let new : Row = new_row (tentative chan contract kind first next up_reach level reach) in
    let e : map row_terms (scan.rows ++ new ∷ []) ≡ map row_terms scan.rows ++ tentative chan contract kind first next up_reach level reach ∷ [] = map-append row_terms scan.rows (new ∷ []) in
    let in_group : Is.Offer level reach ≡ reserve_reply_in link.shape (map row_terms scan.rows) chan contract delay up_reach (group_room link (map row_terms scan.rows) (group_of link.split chan) contract) = (rw splits at same) in
    let offers = offer-best link.shape (map row_terms scan.rows) chan contract delay up_reach (group_room link (map row_terms scan.rows) (group_of link.split chan) contract) level reach in_group in
    subst (AreWithin link) (sym e) (within-offered link (map row_terms scan.rows) chan contract kind first next delay up_reach level reach within offers)
within-after link t scan ask reply splits same fits may order within =
    within-less link (map row_terms scan.rows) _ (λ f raise. (let h = sum-after f link t scan ask reply raise fits may order in omega (arith, h))) within
