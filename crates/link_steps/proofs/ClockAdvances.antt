-- The clock of a history: an entry never moves it back, and moves it by at most one tick, so it is at most the number of
-- entries.
use Rattle.std.proofs.Common.{ℕ, suc, ◌≤◌, List, [], ◌∷◌, length, arith}
use Rattle.link_steps.specs.declared.asks.Ask.{Ask}
use Rattle.link_steps.specs.declared.asks.Ask.TheVariants.{Tick}
use Rattle.link_steps.specs.declared.replies.Entry.{Entry}
use Rattle.link_steps.specs.Scan.{clock_with, clock_of}

pub clock_with-later : (ask : Ask) (t : ℕ) → t ≤ clock_with ask t
clock_with-later Tick t = omega arith
clock_with-later _ t = omega arith

pub clock_with-most : (ask : Ask) (t : ℕ) → clock_with ask t ≤ suc t
clock_with-most Tick t = omega arith
clock_with-most _ t = omega arith

pub clock_of-most : (h : List Entry) → clock_of h ≤ length h
unfolding clock_of
clock_of-most [] = omega arith
clock_of-most (e ∷ past) = omega (arith, clock_with-most e.ask (clock_of past), clock_of-most past)
