-- What is read off the code's table is the least walk, and its hops are a route.
use Rattle.std.proofs.Common.{◌≡◌, ◌≢◌, ℕ, zero, suc, ◌<◌, ◌≤◌, Option, Some, None, List, [], ◌∷◌, length, get_or, map, ap, sym, subst, refl, ◌∙◌, arith}
use Rattle.hop_reservation.specs.declared.route.Hop.{Hop}
use Rattle.hop_reservation.specs.Routes.{IsRoute}
use Rattle.hop_reservation.specs.Routes as routes
use Rattle.route_finder.specs.declared.edge.Edge.{Edge}
use Rattle.route_finder.specs.Finding.{IsTable, IsUnreachable}
use Rattle.route_finder.specs.Rows.{entry}
use Rattle.route_finder.specs.Table.{least_prop, IsLeastProp}
use Rattle.route_finder.specs.Trace.{traced_from, walk_by, least_walk}
use Rattle.route_finder.specs.Walks.{hop_of, link_of, prop_over, IsNetwork, IsLeastWalk}
use Rattle.route_finder.proofs.LeastPropagations.{least_prop-within, least_prop-is}
use Rattle.route_finder.proofs.TraceSteps.{traced_from-same}
use Rattle.route_finder.proofs.LeastWalk.{traced-least, traced-prop}
use Rattle.route_finder.proofs.NoLinkTwice.{passes-no-link-twice}

-- the rows of the code are a table
pub is-table : (edges : List Edge) (to : ℕ) (rows : List (List (Option ℕ)))
    → ((links node : ℕ) → links ≤ 16 → entry rows links node ≡ least_prop edges to links node) → IsTable edges to rows
is-table edges to rows same = record {
  entries = same;
  least = λ links node few. subst (IsLeastProp edges to links node) (sym (same links node few)) (least_prop-is edges to links node (least_prop edges to links node) refl);
}

-- the hops of a least walk are a route
pub least-route : (edges : List Edge) (from to : ℕ) (walk : List Edge) → IsNetwork edges → IsLeastWalk edges from to walk → IsRoute (map hop_of walk)
least-route edges from to walk network least =
    let count = length-map walk in
    let way = least.is_walk.way in
    record {
      least = omega (arith, count, least.is_walk.some);
      most = omega (arith, count, way.few);
      apart = λ i j d before within same. apart i j d edges from to walk network least before (omega (arith, count, within)) same;
    } where
      length-map : (walk : List Edge) → length (map hop_of walk) ≡ length walk
      length-map [] = refl
      length-map (step ∷ walk) = ap suc (length-map walk)

      link-at : (walk : List Edge) (i : ℕ) (d : Hop) (e : Edge) → i < length walk → routes.link_of (get_or (map hop_of walk) i d) ≡ link_of (get_or walk i e)
      link-at [] i d e within = absurd (omega (arith, within))
      link-at (step ∷ walk) zero d e within = refl
      link-at (step ∷ walk) (suc i) d e within = link-at walk i d e (omega arith)

      edge_of : Hop → Edge
      edge_of hop = record { from = 0; to = 0; hop = hop }

      apart : (i j : ℕ) (d : Hop) (edges : List Edge) (from to : ℕ) (walk : List Edge) → IsNetwork edges → IsLeastWalk edges from to walk → i < j
          → j < length walk → routes.link_of (get_or (map hop_of walk) i d) ≡ routes.link_of (get_or (map hop_of walk) j d) → ⊥
      apart i j d edges from to walk network least before within same =
          passes-no-link-twice edges from to walk network least i j (edge_of d) before within
          (sym (link-at walk i d (edge_of d) (omega (arith, before, within))) ∙ same ∙ link-at walk j d (edge_of d) within)

-- what the code reads off its rows
pub record IsRead (edges : List Edge) (from to prop : ℕ) (hops : List Hop) (walk : List Edge) : Type 0 where
  pub is_walk : least_walk edges from to ≡ Some walk
  pub is_least : IsLeastWalk edges from to walk
  pub is_hops : hops ≡ map hop_of walk
  pub is_prop : prop ≡ prop_over walk

pub is-read : (edges : List Edge) (from to prop : ℕ) (rows : List (List (Option ℕ))) (hops : List Hop) → IsNetwork edges → from ≢ to → IsTable edges to rows
    → entry rows 16 from ≡ Some prop
    → hops ≡ map hop_of (traced_from (entry rows) edges from) → IsRead edges from to prop hops (traced_from (least_prop edges to) edges from)
is-read edges from to prop rows hops network apart table is are =
    let here : least_prop edges to 16 from ≡ Some prop = sym (table.entries 16 from (omega arith)) ∙ is in
    let least = traced-least edges from to prop network apart here in
    record {
      is_walk = ap (walk_by edges from to) here;
      is_least = least;
      is_hops = are ∙ ap (map hop_of) (traced_from-same (entry rows) (least_prop edges to) edges from (λ few n less. table.entries few n less));
      is_prop = sym (traced-prop edges from to prop network here);
    }

pub is-unreachable : (edges : List Edge) (from to : ℕ) (rows : List (List (Option ℕ))) → IsTable edges to rows → entry rows 16 from ≡ None
    → IsUnreachable edges from to rows
is-unreachable edges from to rows table is =
    let here : least_prop edges to 16 from ≡ None = sym (table.entries 16 from (omega arith)) ∙ is in
    record {
      no_walk = λ walk is_walk. (let within = least_prop-within edges to 16 from walk is_walk.way in let clash : None ≡ Some within.value = sym here ∙ within.is in cc);
      none = ap (walk_by edges from to) here;
      is_table = table;
    }
