-- A network, edge by edge from the last.
use Rattle.std.proofs.Common.{◌≡◌, ℕ, suc, ◌<◌, ◌≤◌, List, ◌∷◌, length, drop, get_or, ap, sym, subst, ◌∙◌, arith}
use Rattle.std.proofs.Math.Seq.{drop-cons}
use Rattle.std.proofs.lemmas.List.{drop_all}
use Rattle.route_finder.specs.declared.edge.Edge.{Edge}
use Rattle.route_finder.specs.Walks.{link_of, AreAbove, IsNetwork}

-- edges that are a network, and have link numbers from this one on
pub record IsNetworkFrom (edges : List Edge) (low : ℕ) : Type 0 where
  pub network : IsNetwork edges
  pub above : (link : ℕ) → link < low → AreAbove link edges

pub network-none : (edges : List Edge) (index low : ℕ) → length edges ≤ index → IsNetworkFrom (drop index edges) low
unfolding IsNetwork AreAbove
network-none edges index low past = subst (λ es. IsNetworkFrom es low) (sym (drop_all index edges past)) (record { network = tt; above = λ link less. tt })

pub network-more : (edges : List Edge) (index low : ℕ) (edge : Edge) → index < length edges → get_or edges index edge ≡ edge → edge.from < 64 → edge.to < 64
    → link_of edge < low → IsNetworkFrom (drop (suc index) edges) low → IsNetworkFrom (drop index edges) (link_of edge)
unfolding IsNetwork AreAbove
network-more edges index low edge within is from to less rest =
    subst (λ es. IsNetworkFrom es (link_of edge)) (sym (drop-cons edges index edge within ∙ ap (λ e. e ∷ drop (suc index) edges) is)) (record {
      network = (record { from_node = from; to_node = to }, rest.above (link_of edge) less, rest.network);
      above = λ link below. (below, rest.above link (omega (arith, below, less)));
    })
