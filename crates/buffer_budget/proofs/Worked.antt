-- A buffer of 10 units, worked by hand.
use Rattle.std.proofs.Common.{◌≡◌, refl}
use Rattle.buffer_budget.specs.Parts.{Parts, with_held, with_freed}

-- a buffer of 10 units that is free
abbrev ten : Parts
ten = record { free = 10; held = 0 }

-- a row of 4 units leaves 6
held-four : with_held ten 4 ≡ record { free = 6; held = 4 }
held-four = refl

-- cut from 4 units to 2, it leaves 8
cut-to-two : with_freed (with_held ten 4) 2 ≡ record { free = 8; held = 2 }
cut-to-two = refl

-- given back, it leaves 10
given-back : with_freed (with_freed (with_held ten 4) 2) 2 ≡ ten
given-back = refl
