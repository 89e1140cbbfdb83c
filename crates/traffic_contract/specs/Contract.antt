-- A traffic contract says how the packets of a channel may come: neighbours are at least `xmin` ticks apart,
-- no more than a burst of them falls into any `interval` ticks, and none is larger than `smax` units. The
-- burst is the number of average gaps of `xave` ticks that an interval holds, rounded down. The four numbers
-- are Xmin, Xave, I and Smax of the Tenet suite (Banerjea, Ferrari et al. 1996). Their limits, and that of
-- 256 on the burst, are this project's.
use Rattle.std.specs.Prelude.{ℕ, ◌+◌, ◌*◌, ◌/◌, ◌%◌, ◌≤◌, min}
use Rattle.net_units.specs.Quotient.{ceil_quotient}
use Rattle.net_units.specs.Limits.{most_gap, most_interval, most_size}

-- the four numbers: ticks between neighbours, ticks between packets on average, the ticks over which that
-- average is taken, and the units of the largest packet
pub record Traffic : Type 0 where
  pub xmin : ℕ
  pub xave : ℕ
  pub interval : ℕ
  pub smax : ℕ

-- the record of four numbers
abbrev pub terms_of : ℕ → ℕ → ℕ → ℕ → Traffic
terms_of xmin xave interval smax = record { xmin = xmin; xave = xave; interval = interval; smax = smax }

-- the burst: the most packets of an interval
abbrev pub burst_of : Traffic → ℕ
burst_of c = c.interval / c.xave

-- the four numbers are within their limits, and are a contract together
pub record IsContract (c : Traffic) : Type 0 where
  pub xmin_least : 1 ≤ c.xmin
  pub xave_least : c.xmin ≤ c.xave
  pub xave_most : c.xave ≤ most_gap
  pub interval_least : c.xave ≤ c.interval
  pub interval_most : c.interval ≤ most_interval
  pub burst_most : burst_of c ≤ 256
  pub smax_least : 1 ≤ c.smax
  pub smax_most : c.smax ≤ most_size

-- the most packets of a channel that keeps the contract in any w consecutive ticks: a burst for each whole
-- interval, and in the ticks left over one packet for each `xmin` ticks begun, but no more than a burst
unfoldable pub most_in : Traffic → ℕ → ℕ
most_in c w = w / c.interval * burst_of c + min (burst_of c) (ceil_quotient (w % c.interval) c.xmin)
