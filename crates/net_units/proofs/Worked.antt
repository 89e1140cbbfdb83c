-- The limits of names, levels, bounds and quotients, each at its value and one beyond, found by computing with the
-- definitions.
use Rattle.std.proofs.Common.{◌≡◌, true, false, [], ◌∷◌, map, codes, refl}
use Rattle.net_units.specs.LevelBounds.{are_bounds, bound_at, last_bound, levels_within}
use Rattle.net_units.specs.Quotient.{ceil_quotient}
use Rattle.net_units.specs.Text.{is_letter, is_name_byte, is_name}

-- ---- names

-- the letters are `A` to `Z` and `a` to `z`
letters : map is_letter (codes "@AZ[`az{") ≡ false ∷ true ∷ true ∷ false ∷ false ∷ true ∷ true ∷ false ∷ []
letters = refl

-- after the first letter there may be digits and `_` too
name-bytes : map is_name_byte (codes "/09:^_`-") ≡ false ∷ true ∷ true ∷ false ∷ false ∷ true ∷ false ∷ false ∷ []
name-bytes = refl

-- a name has 1 to 16 bytes
lengths : map is_name ([] ∷ codes "a" ∷ codes "abcdefghijklmnop" ∷ codes "abcdefghijklmnopq" ∷ []) ≡ false ∷ true ∷ true ∷ false ∷ []
lengths = refl

-- it begins with a letter
beginnings : map is_name (codes "Z9_" ∷ codes "9Z" ∷ codes "_Z" ∷ []) ≡ true ∷ false ∷ false ∷ []
beginnings = refl

-- two words are none
kept-words : map is_name (codes "contract" ∷ codes "contracts" ∷ codes "Contract" ∷ codes "plane" ∷ codes "plan" ∷ codes "planes" ∷ []) ≡ false ∷ true ∷ true ∷ false ∷ true ∷ true ∷ []
kept-words = refl

-- ---- bounds

-- there are 1 to 8, which rise
counts : map are_bounds ([] ∷ (1 ∷ []) ∷ (1 ∷ 2 ∷ 3 ∷ 4 ∷ 5 ∷ 6 ∷ 7 ∷ 8 ∷ []) ∷ (1 ∷ 2 ∷ 3 ∷ 4 ∷ 5 ∷ 6 ∷ 7 ∷ 8 ∷ 9 ∷ []) ∷ (10 ∷ 10 ∷ []) ∷ (10 ∷ 11 ∷ []) ∷ (10 ∷ 9 ∷ []) ∷ [])
    ≡ false ∷ true ∷ true ∷ false ∷ false ∷ true ∷ false ∷ []
counts = refl

-- each from 1 to 1,048,576
sizes : map are_bounds ((0 ∷ []) ∷ (1 ∷ []) ∷ (1048576 ∷ []) ∷ (1048577 ∷ []) ∷ (1 ∷ 1048577 ∷ []) ∷ []) ≡ false ∷ true ∷ true ∷ false ∷ false ∷ []
sizes = refl

-- of three levels
of-levels : map (bound_at (10 ∷ 20 ∷ 40 ∷ [])) (1 ∷ 2 ∷ 3 ∷ []) ≡ 10 ∷ 20 ∷ 40 ∷ []
of-levels = refl

of-the-last : map last_bound ((10 ∷ []) ∷ (10 ∷ 20 ∷ 40 ∷ []) ∷ []) ≡ 10 ∷ 40 ∷ []
of-the-last = refl

-- a bound is within as many ticks as it has
within : map (levels_within (10 ∷ 20 ∷ 40 ∷ [])) (0 ∷ 9 ∷ 10 ∷ 19 ∷ 20 ∷ 39 ∷ 40 ∷ 1048576 ∷ []) ≡ 0 ∷ 0 ∷ 1 ∷ 1 ∷ 2 ∷ 2 ∷ 3 ∷ 3 ∷ []
within = refl

-- ---- quotients

-- they are rounded up
quotients : map (λ a. ceil_quotient a 125) (0 ∷ 1 ∷ 125 ∷ 126 ∷ 250 ∷ 1500 ∷ 1501 ∷ []) ≡ 0 ∷ 1 ∷ 1 ∷ 2 ∷ 2 ∷ 12 ∷ 13 ∷ []
quotients = refl
