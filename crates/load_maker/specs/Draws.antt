-- The numbers that a load is drawn from. A draw moves the state on by a linear congruence modulo 2^31, and gives its upper half,
-- a number below 32,768.
use Rattle.std.specs.Prelude.{ℕ, zero, suc, ◌+◌, ◌*◌, ◌/◌, ◌%◌}

-- the state after a draw
abbrev pub next_state : ℕ → ℕ
next_state x = (1103515245 * x + 12345) % 2147483648

-- the state after n draws
unfoldable pub state_after : ℕ → ℕ → ℕ
state_after zero x = x
state_after (suc n) x = next_state (state_after n x)

-- the draw that ends in this state
abbrev pub told_by : ℕ → ℕ
told_by x = x / 65536

-- the n-th draw from this state on, from 1
abbrev pub draw : ℕ → ℕ → ℕ
draw n x = told_by (state_after n x)
