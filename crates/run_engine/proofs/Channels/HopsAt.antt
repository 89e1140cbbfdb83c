-- The hops of a request's route over the links of the network, and the channel's packets there.
use Rattle.std.proofs.Common.{◌≡◌, ℕ, ◌<◌, ◌≤◌, List, length, get_or}
use Rattle.run_engine.proofs.Words.{Each, Request, IsHopOf, RequestFits, Network, Done, HopAt, packets_at}
use Rattle.link_steps.proofs.ListParts.{Each-at, stands-at}

pub hop-at : (network : Network) (request : Request) (i : ℕ) → RequestFits network.links request → i < length request.route → HopAt network request i
hop-at network request i sound within =
    let there = stands-at request.route i within in
    let is = Each-at (IsHopOf network.links) request.route i there.0 sound.hops there.1 in
    record { hop = there.0; stands = there.1; link = is.link; linked = is.linked; bounds = is.bounds; prop = is.prop }

-- the levels of the channel's packets at its hops
pub record HaveLevelsAt (network : Network) (request : Request) (levels : List ℕ) (run : List Done) : Type 0 where
  pub count : length request.route ≤ length levels
  pub at : (i : ℕ) (at : HopAt network request i) → Each (λ p. p.level ≡ get_or levels i 0) (packets_at network request i at run)
