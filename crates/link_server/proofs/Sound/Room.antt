-- The places that rows may want for packets.
use Rattle.std.proofs.Common.{◌≡◌, ℕ, ◌+◌, List, length, sym, ap}
use Rattle.link_server.proofs.Words.{total, AccountRow, Arrival}
use Rattle.link_server.specs.Sound.{all_places_of, most_places}

-- the places of what a link holds, from the rows' and the packets' numbers
pub most_places-are : (bounds : List ℕ) (here : List Arrival) (rows : List AccountRow) (places : ℕ) → places ≡ total (all_places_of bounds) rows → most_places bounds here rows ≡ length here + places
unfolding most_places
most_places-are bounds here rows places same = ap (λ n. length here + n) (sym same)
