-- A link has running numbers of what its rows keep together: how many units of its buffer they hold and how many are free, and
-- how many places their packets may want, one for each slot and one more a row. A row adds its share as it is reserved, has a
-- smaller one once it is relaxed, and gives it back as it is denied or expires.
use Rattle.std.specs.Prelude.{◌≡◌, ℕ, suc, List}
use Rattle.buffer_budget.specs.Parts.{whole_of}
use Rattle.traffic_contract.specs.Admission.{total}
use Rattle.link_steps.specs.Buffer.{slots_of, held_units}
use Rattle.link_steps.specs.Reservation.{Reservation}
use Rattle.link_server.specs.declared.table.keeping.Keeping.{Keeping}

-- the places that the packets of a reservation may want
abbrev pub places_for : List ℕ → Reservation → ℕ
places_for bounds terms = suc (slots_of bounds terms)

-- the numbers are those of these reservations, at a link with this buffer
pub record IsKeeping (buffer : ℕ) (bounds : List ℕ) (keeping : Keeping) (held : List Reservation) : Type 0 where
  pub whole : whole_of keeping.budget ≡ buffer
  pub units : keeping.budget.held ≡ total (held_units bounds) held
  pub places : keeping.places ≡ total (places_for bounds) held
