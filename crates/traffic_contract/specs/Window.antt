-- How many ticks of a list fall into a window of w consecutive ticks, from a first one on. A list that keeps a
-- contract never has more of them than the contract's bound for w ticks.
use Rattle.std.specs.Prelude.{ℕ, ◌+◌, Bool, nat_le, nat_lt, ◌&&◌, List, length}
use Rattle.std.specs.List.{filter}

-- whether t is one of the w ticks from `from` on
abbrev pub is_in_window : ℕ → ℕ → ℕ → Bool
is_in_window from w t = nat_le from t && nat_lt t (from + w)

-- how many entries of a list are
unfoldable pub count_in : List ℕ → ℕ → ℕ → ℕ
count_in ticks from w = length (filter (is_in_window from w) ticks)
