-- Places that rise: how many they may be, what one more makes of them, and which places lie between two of them.
use Rattle.std.proofs.Common.{◌≡◌, ℕ, zero, suc, ◌+◌, ◌<◌, ◌≤◌, true, false, List, [], ◌∷◌, ◌++◌, remove, length, get_or, refl, arith}
use Rattle.std.proofs.lemmas.Bool.{eq-eqb, ne_eqb, or_right, or_parts, or_from}
use Rattle.link_server.proofs.Words.{insert, nat_eq}
use Rattle.link_server.specs.KeyedList.{AreRising}
use Rattle.link_server.specs.Plans.{is_turn}

-- ---- where they stand

-- there are no more of them than there are places
pub rising-few : (low high : ℕ) (places : List ℕ) → AreRising low high places → low + length places ≤ high
rising-few low high [] rising = omega (arith, rising)
rising-few low high (place ∷ places) rising = (let from = rising.0 in let rest = rising-few (suc place) high places rising.1 in omega (arith, from, rest))

pub rising-wider : (low high more : ℕ) (places : List ℕ) → high ≤ more → AreRising low high places → AreRising low more places
rising-wider low high more [] wider rising = omega (arith, wider, rising)
rising-wider low high more (place ∷ places) wider rising = (rising.0, rising-wider (suc place) high more places wider rising.1)

rising-from : (low high : ℕ) (places : List ℕ) (k d : ℕ) → AreRising low high places → k < length places → low ≤ get_or places k d
rising-from low high [] k d rising inside = absurd (omega arith)
rising-from low high (place ∷ places) zero d rising inside = rising.0
rising-from low high (place ∷ places) (suc k) d rising inside = (let own = rising.0 in let rest = rising-from (suc place) high places k d rising.1 (omega (arith, inside)) in omega (arith, own, rest))

pub rising-below : (low high : ℕ) (places : List ℕ) (k d : ℕ) → AreRising low high places → k < length places → get_or places k d < high
rising-below low high [] k d rising inside = absurd (omega arith)
rising-below low high (place ∷ places) zero d rising inside = (let rest = rising-few (suc place) high places rising.1 in omega (arith, rest))
rising-below low high (place ∷ places) (suc k) d rising inside = rising-below (suc place) high places k d rising.1 (omega (arith, inside))

-- each is less than the next one, or than the place past all
pub rising-next : (low high : ℕ) (places : List ℕ) (k d : ℕ) → AreRising low high places → k < length places → get_or places k d < get_or places (suc k) high
rising-next low high [] k d rising inside = absurd (omega arith)
rising-next low high (place ∷ []) zero d rising inside = rising.1
rising-next low high (place ∷ next ∷ places) zero d rising inside = rising.1.0
rising-next low high (place ∷ places) (suc k) d rising inside = rising-next (suc place) high places k d rising.1 (omega (arith, inside))

-- and none is greater than a later one
pub rising-on : (low high : ℕ) (places : List ℕ) → AreRising low high places → (i j d : ℕ) → i ≤ j → j < length places → get_or places i d ≤ get_or places j d
rising-on low high [] rising i j d upto inside = absurd (omega arith)
rising-on low high (place ∷ places) rising zero zero d upto inside = omega arith
rising-on low high (place ∷ places) rising zero (suc j) d upto inside = (let above = rising-from (suc place) high places j d rising.1 (omega (arith, inside)) in omega (arith, above))
rising-on low high (place ∷ places) rising (suc i) zero d upto inside = absurd (omega (arith, upto))
rising-on low high (place ∷ places) rising (suc i) (suc j) d upto inside = rising-on (suc place) high places rising.1 i j d (omega (arith, upto)) (omega (arith, inside))

-- and each is less than a later one
pub rising-apart : (low high : ℕ) (places : List ℕ) → AreRising low high places → (i j d : ℕ) → i < j → j < length places → get_or places i d < get_or places j d
rising-apart low high [] rising i j d before inside = absurd (omega (arith, inside))
rising-apart low high (place ∷ places) rising i zero d before inside = absurd (omega (arith, before))
rising-apart low high (place ∷ places) rising zero (suc j) d before inside = (let above = rising-from (suc place) high places j d rising.1 (omega (arith, inside)) in omega (arith, above))
rising-apart low high (place ∷ places) rising (suc i) (suc j) d before inside = rising-apart (suc place) high places rising.1 i j d (omega (arith, before)) (omega (arith, inside))

-- ---- one more

-- past all
pub rising-last : (low high : ℕ) (places : List ℕ) → AreRising low high places → AreRising low (suc high) (places ++ high ∷ [])
rising-last low high [] rising = (rising, omega arith)
rising-last low high (place ∷ places) rising = (rising.0, rising-last (suc place) high places rising.1)

-- or one less
rising-lower : (low less high : ℕ) (places : List ℕ) → less ≤ low → AreRising low high places → AreRising less high places
rising-lower low less high [] lower rising = omega (arith, lower, rising)
rising-lower low less high (place ∷ places) lower rising = ((let own = rising.0 in omega (arith, lower, own)), rising.1)

pub rising-without : (low high : ℕ) (places : List ℕ) (i : ℕ) → AreRising low high places → AreRising low high (remove places i)
rising-without low high [] zero rising = rising
rising-without low high [] (suc i) rising = rising
rising-without low high (place ∷ places) zero rising = rising-lower (suc place) low high places (let own = rising.0 in omega (arith, own)) rising.1
rising-without low high (place ∷ places) (suc i) rising = (rising.0, rising-without (suc place) high places i rising.1)

-- it would stand at place i among them
pub record IsGap (x : ℕ) (places : List ℕ) (i : ℕ) : Type 0 where
  pub within : i ≤ length places
  pub below : (k : ℕ) → k < i → get_or places k 0 < x
  pub above : (k : ℕ) → i ≤ k → k < length places → x < get_or places k 0

gap-later : (x place : ℕ) (places : List ℕ) (i : ℕ) → IsGap x (place ∷ places) (suc i) → IsGap x places i
gap-later x place places i gap = record {
  within = let w = gap.within in omega (arith, w);
  below = λ k before. gap.below (suc k) (omega (arith, before));
  above = λ k from inside. gap.above (suc k) (omega (arith, from)) (omega (arith, inside));
}

pub rising-insert : (low high : ℕ) (places : List ℕ) (i x : ℕ) → AreRising low high places → low ≤ x → x < high → IsGap x places i → AreRising low high (insert places i x)
rising-insert low high [] zero x rising from before gap = (from, before)
rising-insert low high [] (suc i) x rising from before gap = (from, before)
rising-insert low high (place ∷ places) zero x rising from before gap = (from, (gap.above 0 (omega arith) (omega arith), rising.1))
rising-insert low high (place ∷ places) (suc i) x rising from before gap = (rising.0, rising-insert (suc place) high places i x rising.1 (gap.below 0 (omega arith)) before (gap-later x place places i gap))

-- it is one of them then
pub turn-inserted : (places : List ℕ) (i x : ℕ) → i ≤ length places → is_turn (insert places i x) x ≡ true
turn-inserted places zero x within = rw (eq-eqb x x refl) refl
turn-inserted [] (suc i) x within = absurd (omega (arith, within))
turn-inserted (place ∷ places) (suc i) x within = or_right (nat_eq x place) (is_turn (insert places i x) x) (turn-inserted places i x (omega (arith, within)))

pub turn-before : (places : List ℕ) (i x other : ℕ) → is_turn (insert places i x) other ≡ false → is_turn places other ≡ false
turn-before [] zero x other none = refl
turn-before [] (suc i) x other none = refl
turn-before (place ∷ places) zero x other none = (or_parts (nat_eq other x) (is_turn (place ∷ places) other) none).1
turn-before (place ∷ places) (suc i) x other none =
    let parts = or_parts (nat_eq other place) (is_turn (insert places i x) other) none in
    or_from (nat_eq other place) (is_turn places other) parts.0 (turn-before places i x other parts.1)

-- ---- which are among them

pub turn-at : (places : List ℕ) (k d : ℕ) → k < length places → is_turn places (get_or places k d) ≡ true
turn-at [] k d inside = absurd (omega arith)
turn-at (place ∷ places) zero d inside = rw (eq-eqb place place refl) refl
turn-at (place ∷ places) (suc k) d inside = or_right (nat_eq (get_or places k d) place) (is_turn places (get_or places k d)) (turn-at places k d (omega (arith, inside)))

none-below : (low high : ℕ) (places : List ℕ) (x : ℕ) → AreRising low high places → x < low → is_turn places x ≡ false
none-below low high [] x rising below = refl
none-below low high (place ∷ places) x rising below =
    let from = rising.0 in
    or_from (nat_eq x place) (is_turn places x) (ne_eqb x place (λ same. omega (arith, same, from, below))) (none-below (suc place) high places x rising.1 (omega (arith, from, below)))

-- none before the first
pub none-first : (low high : ℕ) (places : List ℕ) (x : ℕ) → AreRising low high places → x < get_or places 0 high → is_turn places x ≡ false
none-first low high [] x rising before = refl
none-first low high (place ∷ places) x rising before =
    or_from (nat_eq x place) (is_turn places x) (ne_eqb x place (λ same. omega (arith, same, before))) (none-below (suc place) high places x rising.1 (omega (arith, before)))

-- nor between one and the next
pub none-between : (low high : ℕ) (places : List ℕ) (k d x : ℕ) → AreRising low high places → k < length places → get_or places k d < x → x < get_or places (suc k) high → is_turn places x ≡ false
none-between low high [] k d x rising inside past before = refl
none-between low high (place ∷ places) zero d x rising inside past before =
    or_from (nat_eq x place) (is_turn places x) (ne_eqb x place (λ same. omega (arith, same, past))) (none-first (suc place) high places x rising.1 before)
none-between low high (place ∷ places) (suc k) d x rising inside past before =
    let from = rising-from (suc place) high places k d rising.1 (omega (arith, inside)) in
    or_from (nat_eq x place) (is_turn places x) (ne_eqb x place (λ same. omega (arith, same, past, from))) (none-between (suc place) high places k d x rising.1 (omega (arith, inside)) past before)
