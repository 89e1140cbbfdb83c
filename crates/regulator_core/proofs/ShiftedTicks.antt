-- Shifting a list of ticks changes no distance in it, so it keeps the same contracts.
use Rattle.std.proofs.Common.{◌≡◌, ℕ, ◌+◌, ◌-◌, ◌<◌, ◌↔◌, List, [], ◌∷◌, length, drop, get_or, refl, arith}
use Rattle.std.proofs.lemmas.Bool.{leb-true, le-leb}
use Rattle.std.proofs.lemmas.Bool.Decides.{same_from_decides}
use Rattle.std.proofs.lemmas.List.{get_or-map, length-map, drop-map}
use Rattle.traffic_contract.specs.Contract.{Traffic, burst_of}
use Rattle.traffic_contract.specs.Keeping.{Spaced, Keeps, starts_before, may_follow, keeps_newest_first}
use Rattle.regulator_core.specs.Shifted.{later_by, shifted_by}

-- an entry of the shifted list
get_or-shifted_by : (shift i : ℕ) (ticks : List ℕ) → i < length ticks → get_or (shifted_by shift ticks) i 0 ≡ get_or ticks i 0 + shift
get_or-shifted_by shift i ticks h = get_or-map (later_by shift) ticks i 0 0 h

length-shifted_by : (shift : ℕ) (ticks : List ℕ) → length (shifted_by shift ticks) ≡ length ticks
length-shifted_by shift ticks = length-map ticks (later_by shift)

-- distances are the same
Spaced-shifted_by : (gap least shift : ℕ) (ticks : List ℕ) → Spaced gap least ticks → Spaced gap least (shifted_by shift ticks)
Spaced-shifted_by gap least shift ticks spaced = record {
  apart = λ i h.
      let n = length-shifted_by shift ticks in
      let inside : i + gap < length ticks = omega (arith, n) in
      let early = get_or-shifted_by shift i ticks (omega arith) in
      let late = get_or-shifted_by shift (i + gap) ticks inside in
      omega (arith, early, late, spaced.apart i inside);
}

Spaced-unshifted : (gap least shift : ℕ) (ticks : List ℕ) → Spaced gap least (shifted_by shift ticks) → Spaced gap least ticks
Spaced-unshifted gap least shift ticks spaced = record {
  apart = λ i h.
      let n = length-shifted_by shift ticks in
      let early = get_or-shifted_by shift i ticks (omega arith) in
      let late = get_or-shifted_by shift (i + gap) ticks h in
      omega (arith, early, late, spaced.apart i (omega (arith, n)));
}

-- so the shifted list keeps a contract exactly where the list does
pub Keeps-shifted_by : (c : Traffic) (ticks : List ℕ) (shift : ℕ) → Keeps c (shifted_by shift ticks) ↔ Keeps c ticks
Keeps-shifted_by c ticks shift = (
  λ kept. record {
    neighbours = Spaced-unshifted 1 c.xmin shift ticks kept.neighbours;
    bursts = Spaced-unshifted (burst_of c) c.interval shift ticks kept.bursts;
  },
  λ kept. record {
    neighbours = Spaced-shifted_by 1 c.xmin shift ticks kept.neighbours;
    bursts = Spaced-shifted_by (burst_of c) c.interval shift ticks kept.bursts;
  },
)

-- a shifted tick is as far after shifted ones
starts_before-shifted_by : (t least shift : ℕ) (past : List ℕ) → starts_before (t + shift) least (shifted_by shift past) ≡ starts_before t least past
starts_before-shifted_by t least shift [] = refl
starts_before-shifted_by t least shift (u ∷ past) =
    same_from_decides _ _ (leb-true (u + shift + least) (t + shift), le-leb (u + shift + least) (t + shift))
    ((λ e. (let h = leb-true (u + least) t e in omega (arith, h))), (λ h. le-leb (u + least) t (omega (arith, h))))

-- and may follow them where it may follow without the shift
pub may_follow-shifted_by : (c : Traffic) (past : List ℕ) (t shift : ℕ) → may_follow c (shifted_by shift past) (t + shift) ≡ may_follow c past t
unfolding may_follow
may_follow-shifted_by c past t shift =
    rw (starts_before-shifted_by t c.xmin shift past, drop-map (later_by shift) (burst_of c - 1) past, starts_before-shifted_by t c.interval shift (drop (burst_of c - 1) past)) refl

pub keeps_newest_first-shifted_by : (c : Traffic) (past : List ℕ) (shift : ℕ) → keeps_newest_first c (shifted_by shift past) ≡ keeps_newest_first c past
unfolding keeps_newest_first
keeps_newest_first-shifted_by c [] shift = refl
keeps_newest_first-shifted_by c (t ∷ past) shift =
    rw (may_follow-shifted_by c past t shift, keeps_newest_first-shifted_by c past shift) refl
