-- What is kept of the rows of a channel so far: the ticks at which its packets were sent, whether they keep the contract, and the least and the
-- largest of their delays.
use Rattle.std.specs.Prelude.{◌≡◌, ℕ, Some, List, length, map, reverse}
use Rattle.std.specs.List.{slice_get}
use Rattle.packet_audit.specs.Promises.{sent_of, is_kept, rows_of, spread_of}
use Rattle.packet_audit.specs.declared.rows.Promise.{Promise}
use Rattle.packet_audit.specs.declared.rows.Row.{Row}
use Rattle.packet_audit.specs.declared.trail.Trail.{Trail}

-- the trail of a channel with this promise stands for these rows, newest first
pub record TrailStands (promise : Promise) (trail : Trail) (own : List Row) : Type 0 where
  pub sent : reverse trail.sent.items ≡ map sent_of own
  pub keeps : trail.keeps ≡ is_kept promise.contract own
  pub spread : trail.spread ≡ spread_of own

-- there is one for each promise
pub record TrailsStand (promises : List Promise) (trails : List Trail) (above : List Row) : Type 0 where
  pub same : length trails ≡ length promises
  pub each : (channel : ℕ) (promise : Promise) (trail : Trail) → slice_get promises channel ≡ Some promise → slice_get trails channel ≡ Some trail → TrailStands promise trail (rows_of channel above)
