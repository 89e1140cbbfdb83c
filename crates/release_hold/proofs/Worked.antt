-- A channel of three packets under a largest bound of 40 ticks, worked by hand.
use Rattle.std.proofs.Common.{◌≡◌, refl, true, false, [], ◌∷◌}
use Rattle.release_hold.specs.Hold.{is_over}

-- one tick before the last packet's bound has passed
held-at-59 : is_over 3 (20 ∷ 10 ∷ 0 ∷ []) 40 59 ≡ false
held-at-59 = refl

-- as the last packet's bound has passed
over-at-60 : is_over 3 (20 ∷ 10 ∷ 0 ∷ []) 40 60 ≡ true
over-at-60 = refl

-- a packet is still to come
held-for-the-third : is_over 3 (20 ∷ 10 ∷ []) 40 100 ≡ false
held-for-the-third = refl

-- a channel that brings no packet
over-at-once : is_over 0 [] 40 0 ≡ true
over-at-once = refl
