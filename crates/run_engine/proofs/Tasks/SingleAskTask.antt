-- A task that asks once: which link it asks, and for what packets.
use Rattle.std.proofs.Common.{◌≡◌, ℕ, Option, Some, None, List, [], ◌∷◌, refl, ap}
use Rattle.run_engine.proofs.Words.{same_Some, ChanNo, LinkNo, Ask, Submit, Reply, PacketsOff, once_next, packets_ask, IsOff}

-- it has no reply yet, and asks its link for what it is
pub record AsksOnce (link : LinkNo) (own : Ask) (replies : List Reply) (to : LinkNo) (ask : Ask) : Type 0 where
  pub fresh : replies ≡ []
  pub at : link ≡ to
  pub is : own ≡ ask

pub once-asked : (link : LinkNo) (own : Ask) (replies : List Reply) (to : LinkNo) (ask : Ask) → once_next link own replies ≡ Some (to, ask) → AsksOnce link own replies to ask
once-asked link own [] to ask same = (let both = same_Some (link, own) (to, ask) same in record { fresh = refl; at = ap (λ pair. pair.0) both; is = ap (λ pair. pair.1) both })
once-asked link own (reply ∷ replies) to ask same = cc

-- what holds of a submit on its channel and of the ask for best-effort packets holds of each ask for packets
pub packets-hold : (P : Ask → Type 0) (chan : Option ChanNo) (count gap size : ℕ) → ((c : ChanNo) → P (Submit c count gap size)) → P (packets_ask None count gap size) → P (packets_ask chan count gap size)
packets-hold P None count gap size submit best = best
packets-hold P (Some chan) count gap size submit best = submit chan

-- packets of another channel, or best-effort ones, aren't of this one
pub packets-off : (c : ℕ) (chan : Option ChanNo) (count gap size : ℕ) → PacketsOff c chan → IsOff c (packets_ask chan count gap size)
packets-off c None count gap size off = tt
packets-off c (Some chan) count gap size off = off
