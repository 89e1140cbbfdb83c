-- The test of a list with the newest tick first says whether the list in order of time keeps the contract.
use Rattle.std.proofs.Common.{◌≡◌, ℕ, ◌+◌, ◌-◌, ◌<◌, ◌≤◌, ⊎_elim, List, [], ◌∷◌, ◌++◌, length, get_or, drop, Decides, refl, sym, ap, ◌∙◌, subst, arith, length-drop}
use Rattle.std.proofs.lemmas.Bool.{leb-true, le-leb, cases_lt, and_parts, and_from}
use Rattle.std.proofs.lemmas.Bool.Decides.{Decides-like, Decides-and, same_from_decides}
use Rattle.std.proofs.lemmas.List.{get_or-drop, get_or_append_left, get_or_push, get_or-reverse, length_push, length-reverse, reverse-append, reverse-reverse}
use Rattle.std.specs.Prelude.{reverse}
use Rattle.traffic_contract.specs.Contract.{Traffic, IsContract, burst_of}
use Rattle.traffic_contract.specs.Keeping.{Spaced, Keeps, keeps, starts_before, may_follow, keeps_newest_first}
use Rattle.traffic_contract.proofs.BurstIsPositive.{burst-least}
use Rattle.traffic_contract.proofs.PartsKeepContract.{Decides-keeps, Keeps-prefix}

-- a list, newest first, starts early enough exactly where its first entry, if there is one, does
pub starts_before-tells : (t least : ℕ) (past : List ℕ) → Decides (starts_before t least past) (0 < length past → get_or past 0 0 + least ≤ t)
starts_before-tells t least [] = (λ _ h. absurd (omega arith), λ _. refl)
starts_before-tells t least (u ∷ past) = (λ e _. leb-true (u + least) t e, λ h. le-leb (u + least) t (h (omega arith)))

-- a spaced list stays so with t at its end where the entry `gap` places before t is early enough
Spaced-push : (gap least t : ℕ) (ticks : List ℕ) → 1 ≤ gap → Spaced gap least ticks → (gap ≤ length ticks → get_or ticks (length ticks - gap) 0 + least ≤ t) → Spaced gap least (ticks ++ t ∷ [])
Spaced-push gap least t ticks some spaced early = record {
  apart = λ i h.
      let n : length (ticks ++ t ∷ []) ≡ length ticks + 1 = length_push ticks t in
      let first : get_or (ticks ++ t ∷ []) i 0 ≡ get_or ticks i 0 = get_or_append_left ticks (t ∷ []) 0 i (omega arith) in
      rw first (⊎_elim
      (λ (inside : i + gap < length ticks). (rw (get_or_append_left ticks (t ∷ []) 0 (i + gap) inside) (spaced.apart i inside)))
      (λ (last : length ticks ≤ i + gap).
      let e : i ≡ length ticks - gap = omega arith in
      rw (get_or_push ticks t 0 (i + gap) (omega arith)) (subst (λ k. get_or ticks k 0 + least ≤ t) (sym e) (early (omega arith))))
      (cases_lt (i + gap) (length ticks)));
}

-- and only there
Spaced-last : (gap least t : ℕ) (ticks : List ℕ) → 1 ≤ gap → Spaced gap least (ticks ++ t ∷ []) → gap ≤ length ticks → get_or ticks (length ticks - gap) 0 + least ≤ t
Spaced-last gap least t ticks some spaced h =
    let n : length (ticks ++ t ∷ []) ≡ length ticks + 1 = length_push ticks t in
    let i : ℕ = length ticks - gap in
    let e : get_or (ticks ++ t ∷ []) (length ticks - gap) 0 ≡ get_or ticks (length ticks - gap) 0 = get_or_append_left ticks (t ∷ []) 0 (length ticks - gap) (omega arith) in
    let f : get_or (ticks ++ t ∷ []) (length ticks - gap + gap) 0 ≡ t = get_or_push ticks t 0 (length ticks - gap + gap) (omega arith) in
    let g = spaced.apart (length ticks - gap) (omega arith) in
    omega (arith, g, e, f)

-- the entry that is `gap` places before the end of a list in order of time is at gap - 1 of the same list, newest first
gap-before : (gap : ℕ) (past : List ℕ) → 1 ≤ gap → gap ≤ length past → get_or (reverse past) (length past - gap) 0 ≡ get_or (drop (gap - 1) past) 0 0
gap-before gap past some h =
    get_or-reverse past (length past - gap) 0 (omega arith) ∙ ap (λ k. get_or past k 0) (omega arith) ∙ sym (get_or-drop (gap - 1) past 0 0)

-- t may follow at the distance of `gap` places
follows-at : (gap least t : ℕ) (past : List ℕ) → 1 ≤ gap → Decides (starts_before t least (drop (gap - 1) past)) (gap ≤ length (reverse past) → get_or (reverse past) (length (reverse past) - gap) 0 + least ≤ t)
follows-at gap least t past some =
    let n : length (reverse past) ≡ length past = length-reverse past in
    let m : length (drop (gap - 1) past) ≡ length past - (gap - 1) = length-drop (gap - 1) past in
    Decides-like _
    (λ f h. (rw n (let e = gap-before gap past some (omega arith) in let g = f (omega arith) in omega (arith, e, g))))
    (λ f h. (let e = gap-before gap past some (omega arith) in let g = rw n at (f (omega arith)) in omega (arith, e, g)))
    (starts_before-tells t least (drop (gap - 1) past))

-- a list that keeps a contract and the tick t after it keep it together exactly where t may follow
pub Decides-may_follow : (c : Traffic) (past : List ℕ) (t : ℕ) → 1 ≤ burst_of c → Keeps c (reverse past) → Decides (may_follow c past t) (Keeps c (reverse past ++ t ∷ []))
unfolding may_follow
Decides-may_follow c past t some kept =
    Decides-like _
    (λ both. record {
      neighbours = Spaced-push 1 c.xmin t (reverse past) (omega arith) kept.neighbours both.0;
      bursts = Spaced-push (burst_of c) c.interval t (reverse past) some kept.bursts both.1;
    })
    (λ all. (Spaced-last 1 c.xmin t (reverse past) (omega arith) all.neighbours, Spaced-last (burst_of c) c.interval t (reverse past) some all.bursts))
    (Decides-and _ _ (follows-at 1 c.xmin t past (omega arith)) (follows-at (burst_of c) c.interval t past some))

-- the empty list keeps every contract
Keeps-nil : (c : Traffic) → Keeps c []
Keeps-nil c = record { neighbours = record { apart = λ i h. absurd (omega arith) }; bursts = record { apart = λ i h. absurd (omega arith) } }

reverse-cons : (t : ℕ) (past : List ℕ) → reverse (t ∷ past) ≡ reverse past ++ t ∷ []
reverse-cons t past = reverse-append (t ∷ []) past

-- the test of a list, newest first, says whether it keeps the contract in order of time
pub Decides-keeps_newest_first : (c : Traffic) (past : List ℕ) → 1 ≤ burst_of c → Decides (keeps_newest_first c past) (Keeps c (reverse past))
unfolding keeps_newest_first
Decides-keeps_newest_first c [] some = (λ _. Keeps-nil c, λ _. refl)
Decides-keeps_newest_first c (t ∷ past) some =
    let rest = Decides-keeps_newest_first c past some in (
      λ e. let both = and_parts (may_follow c past t) (keeps_newest_first c past) e in
          rw (reverse-cons t past) ((Decides-may_follow c past t some (rest.0 both.1)).0 both.0),
      λ kept. let all = rw (reverse-cons t past) at kept in
          let before = Keeps-prefix c (reverse past) (t ∷ []) all in
          and_from (may_follow c past t) (keeps_newest_first c past) ((Decides-may_follow c past t some before).1 all) (rest.1 before),
    )

-- the two tests agree
pub keeps-reverse : (c : Traffic) (past : List ℕ) → 1 ≤ burst_of c → keeps c (reverse past) ≡ keeps_newest_first c past
keeps-reverse c past some = same_from_decides _ _ (Decides-keeps c (reverse past)) (Decides-keeps_newest_first c past some)

-- and the same of a list in order of time
pub keeps-newest_first : (c : Traffic) (ticks : List ℕ) → IsContract c → keeps c ticks ≡ keeps_newest_first c (reverse ticks)
keeps-newest_first c ticks valid = ap (keeps c) (sym (reverse-reverse ticks)) ∙ keeps-reverse c (reverse ticks) (burst-least c valid)
