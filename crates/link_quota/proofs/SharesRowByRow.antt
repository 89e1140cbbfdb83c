-- The shares of the rows seen so far, from none on.
use Rattle.std.proofs.Common.{◌≡◌, ℕ, zero, suc, ◌+◌, ◌-◌, ◌^◌, ◌<◌, ◌≤◌, ⊎_elim, ◌⊎◌, inl, inr, true, false, cond, List, [], ◌∷◌, ◌++◌, length, take, replicate, set, map, Option, Some, None, refl, sym, ap, ◌∙◌, subst, arith}
use Rattle.std.proofs.lemmas.Bool.{cases_Bool, cases_eq, cases_lt, eq-eqb}
use Rattle.std.proofs.lemmas.List.{get_or-replicate, length-set, get_or-set_same, get_or-set_other}
use Rattle.std.proofs.lemmas.Option.{same_Some, slice_get-map, get_or_from_slice_get, slice_get_within}
use Rattle.std.specs.Prelude.{nat_eq, slice_get}
use Rattle.std.specs.List.{slice_index}
use Rattle.std.specs.Option.{option_map}
use Rattle.net_units.proofs.BoundsInOrder.{bounds-parts}
use Rattle.traffic_contract.specs.Admission.{total}
use Rattle.link_steps.specs.declared.quota.Quota.{Quota}
use Rattle.link_steps.specs.Reservation.{Reservation}
use Rattle.link_steps.specs.Room.{group_work, group_units, level_quota, buffer_quota}
use Rattle.link_steps.specs.Split.{Link, SplitFits, group_of, is_in, quota_part, level_part, buffer_part}
use Rattle.link_steps.proofs.ListParts.{stands-at}
use Rattle.link_server.specs.Held.{seen, seen_at}
use Rattle.link_server.specs.declared.held_row.HeldRow.{HeldRow}
use Rattle.link_quota.specs.Places.{HaveRoomFor, IsSmall, AreSmall, IsRaisedFor, AreRaisedBy, AreFew}
use Rattle.link_quota.specs.Shares.{IsShare, AreShares}
use Rattle.link_quota.specs.declared.share.Share.{Share}

-- ---- sums of a beginning

pub total-take : {X : Type 0} (f : X → ℕ) (xs : List X) (i : ℕ) (x : X) → slice_get xs i ≡ Some x → total f (take (suc i) xs) ≡ total f (take i xs) + f x
total-take f [] i x found = absurd (let clash : None ≡ Some x = found in cc)
total-take f (y ∷ xs) zero x found = (let same = ap f (same_Some y x found) in omega (arith, same))
total-take f (y ∷ xs) (suc i) x found = (let rest = total-take f xs i x found in omega (arith, rest))

pub total-take-le : {X : Type 0} (f : X → ℕ) (xs : List X) (i : ℕ) → total f (take i xs) ≤ total f xs
total-take-le f [] zero = omega arith
total-take-le f [] (suc i) = omega arith
total-take-le f (x ∷ xs) zero = omega arith
total-take-le f (x ∷ xs) (suc i) = (let rest = total-take-le f xs i in omega (arith, rest))

-- ---- no rows

-- the first shares are none
abbrev pub AreNoneTo : List Share → ℕ → Type 0
AreNoneTo shares i = (k : ℕ) (share : Share) → k < i → slice_get shares k ≡ Some share → (share.loads ≡ replicate 8 0) × (share.units ≡ 0)

pub none-set : (shares : List Share) (i : ℕ) (new : Share) → i < length shares → new.loads ≡ replicate 8 0 → new.units ≡ 0 → AreNoneTo shares i → AreNoneTo (set shares i new) (i + 1)
none-set shares i new inside loads units none = λ k share below found.
    ⊎_elim (λ (here : k ≡ i).
    let is : new ≡ share = sym (get_or-set_same shares i new new inside) ∙ get_or_from_slice_get (set shares i new) i share new (subst (λ n. slice_get (set shares i new) n ≡ Some share) here found) in
    (ap (λ (s : Share). s.loads) (sym is) ∙ loads, ap (λ (s : Share). s.units) (sym is) ∙ units))
    (λ (other : k ≡ i → ⊥).
    let in_set = slice_get_within (set shares i new) k share found in
    let long = length-set shares i new in
    let was = stands-at shares k (omega (arith, in_set, long)) in
    let same : share ≡ was.0 = sym (get_or_from_slice_get (set shares i new) k share new found) ∙ get_or-set_other shares i k new new other ∙ get_or_from_slice_get shares k was.0 new was.1 in
    let before = none k was.0 (omega (arith, below, other)) was.1 in
    (ap (λ (s : Share). s.loads) same ∙ before.0, ap (λ (s : Share). s.units) same ∙ before.1))
    (cases_eq k i)

pub shares-none : (link : Link) (shares : List Share) (i : ℕ) → length shares ≤ i → length shares ≡ length link.split.quotas → AreNoneTo shares i → AreShares link [] shares
shares-none link shares i all long none = record {
  long = long;
  each = λ k quota share at is.
      let inside = slice_get_within shares k share is in
      let zero_is = none k share (omega (arith, inside, all)) is in
      let most = (bounds-parts link.shape.bounds link.shape.bounds_rise).most in
      record {
        loads = λ n within. ap (λ loads. slice_index loads n) zero_is.0 ∙ get_or-replicate 8 n 0 0 (omega (arith, within, most));
        units = zero_is.1;
      };
}

-- ---- a row more

-- a part of a quota is no larger than all
quota_part-le : (part : Quota → ℕ) (quotas : List Quota) (group : ℕ) → quota_part part quotas group ≤ total part quotas
quota_part-le part [] group = omega arith
quota_part-le part (quota ∷ quotas) group =
    let rest = quota_part-le part quotas group in
    elim (nat_eq quota.group group) as (λ b. cond b (part quota) (quota_part part quotas group) ≤ part quota + total part quotas) [ true ↦ omega arith | false ↦ omega (arith, rest) ]

-- quotas are small numbers
pub level-small : (link : Link) (group m : ℕ) → SplitFits link → 1 ≤ m → m ≤ length link.shape.bounds → level_quota link group m < 2 ^ 60
level-small link group m fits from upto =
    let part = quota_part-le (level_part m) link.split.quotas group in
    let all = fits.levels m from upto in
    let bound = ((bounds-parts link.shape.bounds link.shape.bounds_rise).each (m - 1) (omega (arith, from, upto))).1 in
    omega (arith, part, all, bound)

pub buffer-small : (link : Link) (group : ℕ) → SplitFits link → buffer_quota link group < 2 ^ 60
buffer-small link group fits =
    let part = quota_part-le buffer_part link.split.quotas group in
    let all = fits.buffer in
    let most : link.shape.buffer ≤ 262144 = link.shape.buffer_most in
    omega (arith, part, all, most)

-- so are the shares of reservations that are within them
pub shares-small : (link : Link) (held others : List Reservation) (shares : List Share) → SplitFits link → AreFew link held → ((f : Reservation → ℕ) → total f others ≤ total f held) → AreShares link others shares → AreSmall link shares
shares-small link held others shares fits few less are = λ k quota share at is.
    let share_is = are.each k quota share at is in
    record {
      loads = λ i within.
          let one = share_is.loads i within in
          let two = less (group_work link quota.group (i + 1)) in
          let three = few.levels quota.group (i + 1) (omega arith) (omega (arith, within)) in
          let four = level-small link quota.group (i + 1) fits (omega arith) (omega (arith, within)) in
          omega (arith, one, two, three, four);
      units =
          let one = share_is.units in
          let two = less (group_units link quota.group) in
          let three = few.buffer quota.group in
          let four = buffer-small link quota.group fits in
          omega (arith, one, two, three, four);
    }

-- what is seen at a place
pub seen-there : (bounds : List ℕ) (held : List Reservation) (i : ℕ) (row : HeldRow) → Some row ≡ seen_at bounds held i → (terms : Reservation) × ((slice_get held i ≡ Some terms) × (row ≡ seen bounds terms))
seen-there bounds held i row found = one (slice_get held i) refl (found ∙ slice_get-map (seen bounds) held i) where
  one : (at : Option Reservation) → slice_get held i ≡ at → Some row ≡ option_map (seen bounds) at → (terms : Reservation) × ((slice_get held i ≡ Some terms) × (row ≡ seen bounds terms))
  one None at clash = cc
  one (Some terms) at same = (terms, (at, same_Some row (seen bounds terms) same))

pub seen-past : (bounds : List ℕ) (held : List Reservation) (i : ℕ) → None ≡ seen_at bounds held i → i < length held → ⊥
seen-past bounds held i none inside =
    let there = stands-at held i inside in
    let found : slice_get (map (seen bounds) held) i ≡ Some (seen bounds there.0) = slice_get-map (seen bounds) held i ∙ ap (option_map (seen bounds)) there.1 in
    let clash : None ≡ Some (seen bounds there.0) = none ∙ found in
    cc

-- the shares with the row at a place
pub shares-more : (link : Link) (held : List Reservation) (i : ℕ) (row : HeldRow) (shares shares' : List Share) → Some row ≡ seen_at link.shape.bounds held i → AreShares link (take i held) shares → AreRaisedBy link row shares shares' → AreShares link (take (suc i) held) shares'
unfolding group_work group_units
shares-more link held i row shares shares' found are raised =
    let there = seen-there link.shape.bounds held i row found in
    record {
      long = raised.long ∙ are.long;
      each = λ k quota share' at is.
          let inside = slice_get_within shares' k share' is in
          let long = raised.long in
          let was = stands-at shares k (omega (arith, inside, long)) in
          one quota was.0 share' there.0 there.1.0 there.1.1 (are.each k quota was.0 at was.1) (raised.each k quota was.0 share' at was.1 is) (cases_Bool (is_in link.split quota.group there.0.chan));
    } where
      one : (quota : Quota) (share share' : Share) (terms : Reservation) → slice_get held i ≡ Some terms → row ≡ seen link.shape.bounds terms → IsShare link quota.group (take i held) share → IsRaisedFor link quota.group row share share' → (is_in link.split quota.group terms.chan ≡ true) ⊎ (is_in link.split quota.group terms.chan ≡ false) → IsShare link quota.group (take (suc i) held) share'
      one quota share share' terms at same are raised (inl own) =
          let is = (subst (λ r. IsRaisedFor link quota.group r share share') same raised).own own in
          record {
            loads = λ n within.
                let sum = total-take (group_work link quota.group (n + 1)) held i terms at in
                let s = are.loads n within in
                let r = is.loads n within in
                (let t = rw own at sum in omega (arith, t, s, r));
            units =
                let sum = total-take (group_units link quota.group) held i terms at in
                let s = are.units in
                let r = is.units in
                (let t = rw own at sum in omega (arith, t, s, r));
          }
      one quota share share' terms at same are raised (inr other) =
          let is = (subst (λ r. IsRaisedFor link quota.group r share share') same raised).others other in
          record {
            loads = λ n within.
                let sum = total-take (group_work link quota.group (n + 1)) held i terms at in
                let s = are.loads n within in
                let r = ap (λ (x : Share). slice_index x.loads n) is in
                (let t = rw other at sum in omega (arith, t, s, r));
            units =
                let sum = total-take (group_units link quota.group) held i terms at in
                let s = are.units in
                let r = ap (λ (x : Share). x.units) is in
                (let t = rw other at sum in omega (arith, t, s, r));
          }

-- a row that is held keeps a small number of units
total-part : {X : Type 0} (f : X → ℕ) (xs : List X) (i : ℕ) (x : X) → slice_get xs i ≡ Some x → f x ≤ total f xs
total-part f xs i x found =
    let more = total-take f xs i x found in
    let most = total-take-le f xs (suc i) in
    omega (arith, more, most)

pub kept-small : (link : Link) (held : List Reservation) (i : ℕ) (row : HeldRow) → SplitFits link → AreFew link held → Some row ≡ seen_at link.shape.bounds held i → row.kept < 2 ^ 60
unfolding group_units
kept-small link held i row fits few found =
    let there = seen-there link.shape.bounds held i row found in
    let group = group_of link.split there.0.chan in
    let own : is_in link.split (group_of link.split there.0.chan) there.0.chan ≡ true = eq-eqb (group_of link.split there.0.chan) (group_of link.split there.0.chan) refl in
    let part = total-part (group_units link (group_of link.split there.0.chan)) held i there.0 there.1.0 in
    let p = rw own at part in
    let kept = ap (λ (r : HeldRow). r.kept) there.1.1 in
    let most = few.buffer (group_of link.split there.0.chan) in
    let small = buffer-small link (group_of link.split there.0.chan) fits in
    omega (arith, p, kept, most, small)

-- so there is room for it beside those before it
pub room-more : (link : Link) (held : List Reservation) (i : ℕ) (row : HeldRow) (shares : List Share) → SplitFits link → AreFew link held → Some row ≡ seen_at link.shape.bounds held i → AreShares link (take i held) shares → HaveRoomFor link row shares
room-more link held i row shares fits few found are = λ k quota share at is.
    let small = shares-small link held (take i held) shares fits few (λ f. total-take-le f held i) are k quota share at is in
    let kept = kept-small link held i row fits few found in
    (λ n within. (let s = small.loads n within in omega (arith, s)), (let s = small.units in omega (arith, s, kept)))

-- one more share of no rows
pub none-push : (shares : List Share) (i : ℕ) (new : Share) → length shares ≡ i → new.loads ≡ replicate 8 0 → new.units ≡ 0 → AreNoneTo shares i → AreNoneTo (shares ++ new ∷ []) (i + 1)
none-push shares i new long loads units none = λ k share below found.
    ⊎_elim (λ (before : k < length shares).
    none k share (omega (arith, before, long)) (sym (slice_get-append_left shares (new ∷ []) k before) ∙ found))
    (λ (last : length shares ≤ k).
    let here : k ≡ length shares = omega (arith, last, below, long) in
    let at : slice_get (shares ++ new ∷ []) (length shares) ≡ Some new = push-last shares new in
    let is : new ≡ share = same_Some new share (sym at ∙ subst (λ n. slice_get (shares ++ new ∷ []) n ≡ Some share) here found) in
    (ap (λ (s : Share). s.loads) (sym is) ∙ loads, ap (λ (s : Share). s.units) (sym is) ∙ units))
    (cases_lt k (length shares)) where
      push-last : (shares : List Share) (new : Share) → slice_get (shares ++ new ∷ []) (length shares) ≡ Some new
      push-last [] new = refl
      push-last (share ∷ shares) new = push-last shares new

      slice_get-append_left : (xs ys : List Share) (k : ℕ) → k < length xs → slice_get (xs ++ ys) k ≡ slice_get xs k
      slice_get-append_left [] ys k inside = absurd (omega (arith, inside))
      slice_get-append_left (x ∷ xs) ys zero inside = refl
      slice_get-append_left (x ∷ xs) ys (suc k) inside = slice_get-append_left xs ys k (omega (arith, inside))

pub share-small : (link : Link) (held : List Reservation) (group : ℕ) (share : Share) → SplitFits link → AreFew link held → IsShare link group held share → IsSmall link.shape.bounds share
share-small link held group share fits few are = record {
  loads = λ i within.
      let one = are.loads i within in
      let three = few.levels group (i + 1) (omega arith) (omega (arith, within)) in
      let four = level-small link group (i + 1) fits (omega arith) (omega (arith, within)) in
      omega (arith, one, three, four);
  units =
      let one = are.units in
      let three = few.buffer group in
      let four = buffer-small link group fits in
      omega (arith, one, three, four);
}
