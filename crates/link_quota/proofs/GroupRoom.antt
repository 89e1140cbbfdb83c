-- The room of a group is what its share leaves of its quota, and the reply to a reserve is by that room.
use Rattle.std.proofs.Common.{◌≡◌, ℕ, zero, suc, ◌+◌, ◌-◌, ◌<◌, ◌≤◌, Bool, true, false, List, length, Option, Some, None, refl, sym, ap, ◌∙◌, subst, arith}
use Rattle.std.specs.Prelude.{find, nat_le}
use Rattle.std.specs.List.{slice_index}
use Rattle.std.specs.Option.{option_map}
use Rattle.std.proofs.lemmas.Option.{same_Some}
use Rattle.net_units.proofs.BoundsInOrder.{bounds-parts}
use Rattle.net_units.specs.LevelBounds.{bound_at, reach_of}
use Rattle.net_units.specs.declared.numbers.ChanNo.{ChanNo}
use Rattle.traffic_contract.specs.Admission.{total, first_level}
use Rattle.traffic_contract.specs.Contract.{Traffic}
use Rattle.traffic_contract.proofs.AdmissionTest.{work_up_to-within}
use Rattle.link_steps.specs.declared.quota.Quota.{Quota}
use Rattle.link_steps.specs.declared.replies.Refusal.TheVariants.{TooWide, Twice, NoLevel, NoBuffer}
use Rattle.link_steps.specs.declared.replies.Reply.TheVariants.{Offer, Refused}
use Rattle.link_steps.specs.declared.shape.LinkShape.{LinkShape}
use Rattle.link_steps.specs.Buffer.{need_of}
use Rattle.link_steps.specs.Levels.{level_of}
use Rattle.link_steps.specs.Replies.{reserve_reply_in, reserve_reply}
use Rattle.link_steps.specs.Reservation.{Reservation, is_of}
use Rattle.link_steps.specs.Room.{Room, group_work, group_sum, level_quota, within_quota, all_from, group_admits, group_room, room_of}
use Rattle.link_steps.specs.Split.{Link, is_split, group_of}
use Rattle.link_server.specs.Held.{seen, seen_of}
use Rattle.link_server.specs.declared.held_row.HeldRow.{HeldRow}
use Rattle.link_quota.specs.Best.{load_of, is_within, best_of}
use Rattle.link_quota.specs.Places.{IsQuotaOf}
use Rattle.link_quota.specs.Shares.{IsShare}
use Rattle.link_quota.specs.declared.share.Share.{Share}

-- tests that agree from a place on
all-same : (p q : ℕ → Bool) (m count : ℕ) → ((k : ℕ) → m ≤ k → k < m + count → p k ≡ q k) → all_from p m count ≡ all_from q m count
unfolding all_from
all-same p q m zero same = refl
all-same p q m (suc count) same =
    rw (same m (omega arith) (omega arith), all-same p q (suc m) count (λ k from upto. same k (omega (arith, from)) (omega (arith, upto)))) refl

first-same : (p q : ℕ → Bool) (m count : ℕ) → ((k : ℕ) → m ≤ k → k < m + count → p k ≡ q k) → first_level p m count ≡ first_level q m count
unfolding first_level
first-same p q m zero same = refl
first-same p q m (suc count) same =
    rw (same m (omega arith) (omega arith), first-same p q (m + 1) count (λ k from upto. same k (omega (arith, from)) (omega (arith, upto)))) refl

-- the room that a share leaves of a quota
abbrev pub room_in : LinkShape → Share → Quota → Traffic → Room
room_in shape share quota contract = record {
  best = best_of shape share quota contract;
  sum = load_of shape share contract (length shape.bounds);
  bound = slice_index quota.levels (length shape.bounds - 1);
  free = quota.buffer - share.units;
}

same-room : (best best' : Option ℕ) (sum sum' bound bound' free free' : ℕ) → best ≡ best' → sum ≡ sum' → bound ≡ bound' → free ≡ free' → (let room : Room = record { best = best; sum = sum; bound = bound; free = free } in room) ≡ (let room : Room = record { best = best'; sum = sum'; bound = bound'; free = free' } in room)
same-room best best' sum sum' bound bound' free free' a b c d = rw (a, b, c, d) refl

-- the load with the contract at level m is that of the share from there on
sum-is : (link : Link) (held : List Reservation) (group : ℕ) (contract : Traffic) (share : Share) (m k : ℕ) → IsShare link group held share → 1 ≤ k → m ≤ k → k ≤ length link.shape.bounds → group_sum link held group contract m k ≡ load_of link.shape share contract k
sum-is link held group contract share m k are from above upto =
    let work = work_up_to-within link.shape.rate k (bound_at link.shape.bounds k) (record { contract = contract; level = m }) above in
    let load : slice_index share.loads (k - 1) ≡ total (group_work link group k) held = subst (λ n. slice_index share.loads (k - 1) ≡ total (group_work link group n) held) (let e : (k - 1) + 1 ≡ k = omega (arith, from) in e) (are.loads (k - 1) (omega (arith, from, upto))) in
    omega (arith, work, load)

within-is : (link : Link) (held : List Reservation) (group : ℕ) (contract : Traffic) (share : Share) (quota : Quota) (m k : ℕ) → IsShare link group held share → IsQuotaOf link group quota → 1 ≤ k → m ≤ k → k ≤ length link.shape.bounds → within_quota link held group contract m k ≡ is_within link.shape share quota contract k
within-is link held group contract share quota m k are is from above upto =
    ap (λ n. nat_le n (level_quota link group k)) (sum-is link held group contract share m k are from above upto)
    ∙ ap (nat_le (load_of link.shape share contract k)) (sym (is.levels k from upto))

pub group-room-is : (link : Link) (held : List Reservation) (group : ℕ) (contract : Traffic) (share : Share) (quota : Quota) → IsShare link group held share → IsQuotaOf link group quota → group_room link held group contract ≡ room_in link.shape share quota contract
unfolding group_room group_admits
group-room-is link held group contract share quota are is =
    let least = (bounds-parts link.shape.bounds link.shape.bounds_rise).least in
    same-room _ _ _ _ _ _ _ _
    (first-same (group_admits link held group contract) (λ m. all_from (is_within link.shape share quota contract) m (suc (length link.shape.bounds) - m)) 1 (length link.shape.bounds) (λ m from upto.
    all-same (within_quota link held group contract m) (is_within link.shape share quota contract) m (suc (length link.shape.bounds) - m) (λ k above below.
    within-is link held group contract share quota m k are is (omega (arith, from, above)) above (omega (arith, upto, below, from)))))
    (sum-is link held group contract share (length link.shape.bounds) (length link.shape.bounds) are least (omega arith) (omega arith))
    (sym (is.levels (length link.shape.bounds) least (omega arith)))
    (let units = are.units in let buffer = is.buffer in omega (arith, units, buffer))

-- so the reply is by that
pub quota-reply : (link : Link) (held : List Reservation) (chan : ChanNo) (contract : Traffic) (delay up_reach : ℕ) (share : Share) (quota : Quota) → is_split link.split ≡ true → IsShare link (group_of link.split chan) held share → IsQuotaOf link (group_of link.split chan) quota → reserve_reply link held chan contract delay up_reach ≡ reserve_reply_in link.shape held chan contract delay up_reach (room_in link.shape share quota contract)
unfolding reserve_reply room_of
quota-reply link held chan contract delay up_reach share quota splits are is =
    rw splits (ap (reserve_reply_in link.shape held chan contract delay up_reach) (group-room-is link held (group_of link.split chan) contract share quota are is))

-- ---- the reply by each rule

pub split-wide : (link : Link) (held : List Reservation) (chan : ChanNo) (contract : Traffic) (delay up_reach : ℕ) → nat_le contract.smax link.shape.cap ≡ false → Refused (TooWide contract.smax link.shape.cap) ≡ reserve_reply link held chan contract delay up_reach
unfolding reserve_reply
split-wide link held chan contract delay up_reach wide = rw wide refl

pub split-twice : (link : Link) (held : List Reservation) (chan : ChanNo) (contract : Traffic) (delay up_reach : ℕ) (terms : Reservation) → nat_le contract.smax link.shape.cap ≡ true → find (is_of chan) held ≡ Some terms → Refused (Twice terms.phase) ≡ reserve_reply link held chan contract delay up_reach
unfolding reserve_reply
split-twice link held chan contract delay up_reach terms wide found = rw (wide, found) refl

pub by-no_level : (shape : LinkShape) (held : List Reservation) (chan : ChanNo) (contract : Traffic) (delay up_reach : ℕ) (room : Room) → nat_le contract.smax shape.cap ≡ true → find (is_of chan) held ≡ None → room.best ≡ None → Refused (NoLevel room.sum room.bound) ≡ reserve_reply_in shape held chan contract delay up_reach room
by-no_level shape held chan contract delay up_reach room wide found best = rw (wide, found, best) refl

pub by-no_buffer : (shape : LinkShape) (held : List Reservation) (chan : ChanNo) (contract : Traffic) (delay up_reach : ℕ) (room : Room) (m : ℕ) → nat_le contract.smax shape.cap ≡ true → find (is_of chan) held ≡ None → room.best ≡ Some m → nat_le (need_of shape.bounds contract up_reach (reach_of shape.bounds delay m)) room.free ≡ false → Refused (NoBuffer (need_of shape.bounds contract up_reach (reach_of shape.bounds delay m)) room.free) ≡ reserve_reply_in shape held chan contract delay up_reach room
by-no_buffer shape held chan contract delay up_reach room m wide found best need = rw (wide, found, best, need) refl

pub by-offer : (shape : LinkShape) (held : List Reservation) (chan : ChanNo) (contract : Traffic) (delay up_reach : ℕ) (room : Room) (m : ℕ) → nat_le contract.smax shape.cap ≡ true → find (is_of chan) held ≡ None → room.best ≡ Some m → nat_le (need_of shape.bounds contract up_reach (reach_of shape.bounds delay m)) room.free ≡ true → Offer (level_of m) (level_of (reach_of shape.bounds delay m)) ≡ reserve_reply_in shape held chan contract delay up_reach room
by-offer shape held chan contract delay up_reach room m wide found best need = rw (wide, found, best, need) refl

-- ---- what is seen of a channel

pub seen-found : (bounds : List ℕ) (held : List Reservation) (chan : ChanNo) (row : HeldRow) → Some row ≡ seen_of bounds held chan → (terms : Reservation) × ((find (is_of chan) held ≡ Some terms) × (row ≡ seen bounds terms))
seen-found bounds held chan row found = one (find (is_of chan) held) refl found where
  one : (at : Option Reservation) → find (is_of chan) held ≡ at → Some row ≡ option_map (seen bounds) at → (terms : Reservation) × ((find (is_of chan) held ≡ Some terms) × (row ≡ seen bounds terms))
  one None at clash = cc
  one (Some terms) at same = (terms, (at, same_Some row (seen bounds terms) same))

pub seen-none : (bounds : List ℕ) (held : List Reservation) (chan : ChanNo) → None ≡ seen_of bounds held chan → find (is_of chan) held ≡ None
seen-none bounds held chan none = one (find (is_of chan) held) refl none where
  one : (at : Option Reservation) → find (is_of chan) held ≡ at → None ≡ option_map (seen bounds) at → find (is_of chan) held ≡ None
  one None at same = at
  one (Some terms) at clash = cc
