-- The places of packets in a list: the eligible tick at an index, and the place of a packet among those of its row, which its
-- number tells.
use Rattle.std.proofs.Common.{◌≡◌, ℕ, zero, suc, ◌+◌, ◌<◌, List, [], ◌∷◌, length, map, get_or, Some, None, sym, ap, subst, inl, inr, arith}
use Rattle.std.proofs.lemmas.Option.{same_Some}
use Rattle.std.specs.List.{slice_get}
use Rattle.traffic_contract.specs.Keeping.{Keeps}
use Rattle.traffic_contract.proofs.BurstIsPositive.{burst-least}
use Rattle.traffic_contract.proofs.NewestFirst.{Decides-keeps_newest_first}
use Rattle.link_steps.specs.Rows.{Row}
use Rattle.link_steps.specs.Service.{Arrival}
use Rattle.link_steps.specs.Lists.{Among}
use Rattle.channel_laws.specs.Channels.{HopTerms, AreNumberedAfter, RowTells, tick_of_packet}

-- the eligible tick of the packet at an index
pub tick-at : (qs : List Arrival) (k : ℕ) (q : Arrival) → slice_get qs k ≡ Some q → (k < length (map tick_of_packet qs)) × (get_or (map tick_of_packet qs) k 0 ≡ q.eligible)
tick-at [] k q found = absurd (let clash : None ≡ Some q = found in cc)
tick-at (p ∷ qs) zero q found = (omega arith, ap (λ x. x.eligible) (same_Some p q found))
tick-at (p ∷ qs) (suc k) q found = (let rest = tick-at qs k q found in (omega (arith, rest.0), rest.1))

-- the place of a packet among those of its row
pub record PlaceOf (n : ℕ) (own : List Arrival) (p : Arrival) : Type 0 where
  pub index : ℕ
  pub within : index < length own
  pub number : p.number ≡ suc (n + index)
  pub tick : get_or (map tick_of_packet own) index 0 ≡ p.eligible

pub place-of : (n : ℕ) (own : List Arrival) (p : Arrival) → AreNumberedAfter n own → Among p own → PlaceOf n own p
place-of n [] p are among = absurd among
place-of n (q ∷ own) p are (inl same) = record { index = 0; within = omega arith; number = (let e : p.number ≡ q.number = ap (λ x. x.number) same in let f = are.0 in omega (arith, e, f)); tick = ap (λ x. x.eligible) (sym same) }
place-of n (q ∷ own) p are (inr among) =
    let rest = place-of (suc n) own p are.1 among in
    record { index = suc rest.index; within = (let w = rest.within in omega (arith, w)); number = (let e = rest.number in omega (arith, e)); tick = rest.tick }

-- the eligible ticks of a channel keep its contract
pub row-keeps : (terms : HopTerms) (c : ℕ) (row : Row) (own : List Arrival) → RowTells terms c row own → Keeps terms.contract (map tick_of_packet own)
row-keeps terms c row own tells = subst (Keeps terms.contract) tells.eligible ((Decides-keeps_newest_first terms.contract row.ticks (burst-least terms.contract tells.valid)).0 tells.keeps)
