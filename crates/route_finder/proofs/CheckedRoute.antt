-- The check of what was found, a part at a time: rows, bounds and hops that are the same, the edge by a hop, how the hops
-- lead on, and what a yes tells.
use Rattle.std.proofs.Common.{◌≡◌, ◌↔◌, ℕ, zero, suc, ◌+◌, ◌-◌, ◌<◌, ◌≤◌, IsTrue, Option, Some, None, List, [], ◌∷◌, length, drop, get_or, map, nat_eq, ◌⊎◌, inl, inr, ap, sym, subst, refl, ◌∙◌, arith}
use Rattle.std.proofs.Math.Seq.{drop-cons}
use Rattle.std.specs.List.{slice_get}
use Rattle.std.proofs.lemmas.Option.{same_Some, slice_get_within, get_or_from_slice_get}
use Rattle.std.proofs.lemmas.List.{same_lists, drop_all}
use Rattle.std.specs.Cmp.Lexicographic.{pointwise, pointwise_decides}
use Rattle.std.specs.Option.{option_eq}
use Rattle.net_units.specs.Numbers.{link_number}
use Rattle.net_units.proofs.KnownByNumber.{same-link}
use Rattle.hop_reservation.specs.declared.route.Hop.{Hop}
use Rattle.route_finder.specs.declared.edge.Edge.{Edge}
use Rattle.route_finder.specs.Checking.{HasRows, Checks, IsLeastSum, IsBy, Follows}
use Rattle.route_finder.specs.Rows.{in_row, entry}
use Rattle.route_finder.specs.Table.{by_none, by_one_more, least_prop}
use Rattle.route_finder.specs.Walks.{hop_of, prop_over, IsAmong, AreAmong, IsNetwork, Leads}
use Rattle.route_finder.proofs.LeastPropagations.{least_prop-within}
use Rattle.route_finder.proofs.FirstStep.{are_same-true, are_same-equal, same-edge}

-- ---- rows

pub rows-same : (one other : List (Option ℕ)) → length one ≡ 64 → length other ≡ 64
    → IsTrue (pointwise (option_eq nat_eq) one other) ↔ ((node : ℕ) → node < 64 → in_row one node ≡ in_row other node)
rows-same one other size size' =
    let decides = pointwise_decides {E = option_eq nat_eq} (λ a b. (are_same-true a b, are_same-equal a b)) one other in (
      λ yes node within. ap (λ row. in_row row node) (decides.0 yes),
      λ each. decides.1 (same_lists one other (size ∙ sym size') (λ k d within. any one k d None within ∙ each k (omega (arith, size, within)) ∙ any other k None d (omega (arith, size, size', within)))),
    ) where
      any : (row : List (Option ℕ)) (k : ℕ) (d e : Option ℕ) → k < length row → get_or row k d ≡ get_or row k e
      any [] k d e within = absurd (omega (arith, within))
      any (x ∷ row) zero d e within = refl
      any (x ∷ row) (suc k) d e within = any row k d e (omega arith)

-- ---- hops

pub same-hop : (one other : Hop) → link_number one.link ≡ link_number other.link → one.prop ≡ other.prop → one.bounds ≡ other.bounds → one ≡ other
same-hop one other link prop bounds = (let same = same-link one.link other.link link in λ i. record { link = same i; bounds = bounds i; prop = prop i })

-- ---- the rows one after another

pub rows-none : (edges : List Edge) (to : ℕ) (rows : List (List (Option ℕ))) → ((node : ℕ) → node < 64 → entry rows 0 node ≡ by_none to node)
    → HasRows edges to 0 rows
rows-none edges to rows first = record { none = first; one_more = λ few node less. absurd (omega (arith, less)) }

pub rows-one_more : (edges : List Edge) (to links : ℕ) (rows : List (List (Option ℕ))) → HasRows edges to links rows
    → ((node : ℕ) → node < 64 → entry rows (links + 1) node ≡ by_one_more (entry rows links) edges node) → HasRows edges to (links + 1) rows
rows-one_more edges to links rows has next = record {
  none = has.none;
  one_more = λ few node less within. elim (last few links less) [
    | inl before ↦ has.one_more few node before within
    | inr now ↦
        let e : links + 1 ≡ suc few = omega (arith, now) in
        sym (ap (λ n. entry rows n node) e) ∙ next node within ∙ ap (λ n. by_one_more (entry rows n) edges node) (sym now)
  ];
} where
  last : (few links : ℕ) → few < links + 1 → (few < links) ⊎ (few ≡ links)
  last few links less = grind arith

-- a row that isn't made from the one before
pub rows-other : (edges : List Edge) (to links : ℕ) (rows : List (List (Option ℕ))) → HasRows edges to 16 rows → links < 16 → (node : ℕ) → node < 64
    → entry rows (links + 1) node ≡ by_one_more (entry rows links) edges node
rows-other edges to links rows has less node within = (let e : links + 1 ≡ suc links = omega arith in ap (λ n. entry rows n node) e ∙ has.one_more links node less within)

-- ---- the edge by a hop

-- such an edge stands at the index or later
pub record NoneBefore (edges : List Edge) (index node : ℕ) (hop : Hop) : Type 0 where
  pub later : (edge : Edge) → IsAmong edges edge → IsBy node hop edge → IsAmong (drop index edges) edge

pub none-before-first : (edges : List Edge) (node : ℕ) (hop : Hop) → NoneBefore edges 0 node hop
none-before-first edges node hop = record { later = λ edge among by. among }

pub none-before-next : (edges : List Edge) (index node : ℕ) (hop : Hop) (edge : Edge) → index < length edges → get_or edges index edge ≡ edge
    → (IsBy node hop edge → ⊥) → NoneBefore edges index node hop → NoneBefore edges (index + 1) node hop
unfolding IsAmong
none-before-next edges index node hop edge within is other none = record {
  later = λ found among by.
      (let here : IsAmong (edge ∷ drop (suc index) edges) found = subst (λ es. IsAmong es found) (drop-cons edges index edge within ∙ ap (λ e. e ∷ drop (suc index) edges) is) (none.later found among by) in
      let next : suc index ≡ index + 1 = omega arith in
      elim here [
        | inl same ↦ absurd (other (subst (IsBy node hop) (sym same) by))
        | inr after ↦ subst (λ n. IsAmong (drop n edges) found) next after
      ]);
}

pub none-at-all : (edges : List Edge) (index node : ℕ) (hop : Hop) → length edges ≤ index → NoneBefore edges index node hop → (edge : Edge)
    → IsAmong edges edge → IsBy node hop edge → ⊥
unfolding IsAmong
none-at-all edges index node hop past none edge among by = subst (λ es. IsAmong es edge) (drop_all index edges past) (none.later edge among by)

pub among-at : (edges : List Edge) (index : ℕ) (edge : Edge) → index < length edges → get_or edges index edge ≡ edge → IsAmong edges edge
unfolding IsAmong
among-at edges index edge within is = subst (IsAmong edges) is (at edges index edge within) where
  at : (edges : List Edge) (index : ℕ) (d : Edge) → index < length edges → IsAmong edges (get_or edges index d)
  at [] index d within = absurd (omega (arith, within))
  at (edge ∷ edges) zero d within = inl refl
  at (edge ∷ edges) (suc index) d within = inr (at edges index d (omega arith))

-- ---- how the hops lead on

pub follows-end : (edges : List Edge) (to prop node sum : ℕ) → Follows edges to prop node sum [] → (node ≡ to) × (sum ≡ prop)
unfolding Leads prop_over
follows-end edges to prop node sum follows = by edges to prop node sum follows.walk follows.leads follows.is_route follows.is_prop where
  by : (edges : List Edge) (to prop node sum : ℕ) (walk : List Edge) → Leads node to walk → map hop_of walk ≡ [] → sum + prop_over walk ≡ prop
      → (node ≡ to) × (sum ≡ prop)
  by edges to prop node sum [] leads is total = (leads, omega (arith, total))
  by edges to prop node sum (step ∷ walk) leads is total = absurd cc

pub end-follows : (edges : List Edge) (to prop node sum : ℕ) → node ≡ to → sum ≡ prop → Follows edges to prop node sum []
unfolding AreAmong Leads prop_over
end-follows edges to prop node sum here total = record { walk = []; among = tt; leads = here; is_route = refl; is_prop = omega (arith, total) }

-- by an edge, and then on
pub step-follows : (edges : List Edge) (to prop node sum : ℕ) (hop : Hop) (hops : List Hop) (edge : Edge) → IsAmong edges edge → IsBy node hop edge
    → Follows edges to prop edge.to (sum + edge.hop.prop) hops → Follows edges to prop node sum (hop ∷ hops)
unfolding AreAmong Leads prop_over
step-follows edges to prop node sum hop hops edge among by follows = record {
  walk = edge ∷ follows.walk;
  among = (among, follows.among);
  leads = (by.from, follows.leads);
  is_route = (let head = by.hop in let tail = follows.is_route in cc);
  is_prop = omega (arith, follows.is_prop);
}

-- the first edge of a walk over these hops
pub record IsFirstBy (edges : List Edge) (to prop node sum : ℕ) (hop : Hop) (hops : List Hop) : Type 0 where
  pub edge : Edge
  pub among : IsAmong edges edge
  pub by : IsBy node hop edge
  pub on : Follows edges to prop edge.to (sum + edge.hop.prop) hops

pub follows-first : (edges : List Edge) (to prop node sum : ℕ) (hop : Hop) (hops : List Hop) → Follows edges to prop node sum (hop ∷ hops)
    → IsFirstBy edges to prop node sum hop hops
unfolding AreAmong Leads prop_over
follows-first edges to prop node sum hop hops follows = by edges to prop node sum hop hops follows.walk follows.among follows.leads follows.is_route follows.is_prop where
  by : (edges : List Edge) (to prop node sum : ℕ) (hop : Hop) (hops : List Hop) (walk : List Edge) → AreAmong edges walk → Leads node to walk
      → map hop_of walk ≡ hop ∷ hops → sum + prop_over walk ≡ prop → IsFirstBy edges to prop node sum hop hops
  by edges to prop node sum hop hops [] among leads is total = absurd cc
  by edges to prop node sum hop hops (edge ∷ walk) among leads is total =
      let head : edge.hop ≡ hop = cc in
      let tail : map hop_of walk ≡ hops = cc in
      record {
        edge = edge;
        among = among.0;
        by = record { from = leads.0; hop = head };
        on = record { walk = walk; among = among.1; leads = leads.1; is_route = tail; is_prop = omega (arith, total) };
      }

-- the edge by a hop from a node is the only one
pub follows-step : (edges : List Edge) (to prop node sum : ℕ) (hop : Hop) (hops : List Hop) (edge : Edge) → IsNetwork edges → IsAmong edges edge
    → IsBy node hop edge → Follows edges to prop node sum (hop ∷ hops) → Follows edges to prop edge.to (sum + edge.hop.prop) hops
follows-step edges to prop node sum hop hops edge network among by follows =
    let first = follows-first edges to prop node sum hop hops follows in
    let same : first.edge ≡ edge = same-edge edges first.edge edge network first.among among (ap (λ h. link_number h.link) (first.by.hop ∙ sym by.hop)) in
    subst (λ e. Follows edges to prop e.to (sum + e.hop.prop) hops) same first.on

-- the hops from a place on
pub drop-hop : (hops : List Hop) (place : ℕ) (hop : Hop) → slice_get hops (place + 1 - 1) ≡ Some hop → drop place hops ≡ hop ∷ drop (place + 1) hops
drop-hop hops place hop found =
    let same : place + 1 - 1 ≡ place = omega arith in
    let here : slice_get hops place ≡ Some hop = subst (λ n. slice_get hops n ≡ Some hop) same found in
    let next : suc place ≡ place + 1 = omega arith in
    drop-cons hops place hop (slice_get_within hops place hop here) ∙ ap (λ h. h ∷ drop (suc place) hops) (get_or_from_slice_get hops place hop hop here) ∙ ap (λ n. hop ∷ drop n hops) next

pub drop-none : (hops : List Hop) (place : ℕ) → length hops ≤ place → drop place hops ≡ []
drop-none hops place past = drop_all place hops past

-- ---- what a yes tells

-- what was there before at the nodes of a network alone counts
pub one_more-below : (before before' : ℕ → Option ℕ) (edges : List Edge) (node : ℕ) → IsNetwork edges → node < 64 → ((n : ℕ) → n < 64 → before n ≡ before' n)
    → by_one_more before edges node ≡ by_one_more before' edges node
unfolding by_one_more IsNetwork
one_more-below before before' [] node network within same = same node within
one_more-below before before' (edge ∷ edges) node network within same =
    rw (same edge.to network.0.to_node, one_more-below before before' edges node network.2 within same) refl

-- the rows are the table of the least propagations
pub rows-least : (edges : List Edge) (to links : ℕ) (rows : List (List (Option ℕ))) → IsNetwork edges → HasRows edges to 16 rows → links ≤ 16 → (node : ℕ)
    → node < 64 → entry rows links node ≡ least_prop edges to links node
unfolding least_prop
rows-least edges to zero rows network has less node within = has.none node within
rows-least edges to (suc links) rows network has less node within =
    has.one_more links node (omega arith) within ∙ one_more-below (entry rows links) (least_prop edges to links) edges node network within (λ n below. rows-least edges to links rows network has (omega arith) n below)

pub least-sum : (edges : List Edge) (from to prop : ℕ) (route : List Hop) (rows : List (List (Option ℕ))) → IsNetwork edges → from < 64
    → Checks edges from to route prop rows → IsLeastSum edges from to prop
least-sum edges from to prop route rows network within checks other is_walk =
    let least = least_prop-within edges to 16 from other is_walk.way in
    let here = rows-least edges to 16 rows network checks.is_table (omega arith) from within in
    let same : prop ≡ least.value = same_Some prop least.value (sym checks.reached ∙ here ∙ least.is) in
    omega (arith, same, least.less)

-- ---- the whole check

pub walk-follows : (edges : List Edge) (from to prop : ℕ) (route : List Hop) (rows : List (List (Option ℕ))) → Checks edges from to route prop rows
    → Follows edges to prop from 0 route
walk-follows edges from to prop route rows checks = record {
  walk = checks.walk;
  among = checks.is_walk.way.among;
  leads = checks.is_walk.way.leads;
  is_route = checks.is_route;
  is_prop = omega (arith, checks.is_prop);
}

pub all-checks : (edges : List Edge) (from to prop : ℕ) (route : List Hop) (rows : List (List (Option ℕ))) → 1 ≤ length route → length route ≤ 16
    → Follows edges to prop from 0 route → HasRows edges to 16 rows → entry rows 16 from ≡ Some prop → Checks edges from to route prop rows
all-checks edges from to prop route rows some few follows has reached =
    let count = length-map follows.walk in
    let same = ap length follows.is_route in
    record {
      walk = follows.walk;
      is_walk = record { way = record { among = follows.among; leads = follows.leads; few = omega (arith, count, same, few) }; some = omega (arith, count, same, some) };
      is_route = follows.is_route;
      is_prop = omega (arith, follows.is_prop);
      is_table = has;
      reached = reached;
    } where
      length-map : (walk : List Edge) → length (map hop_of walk) ≡ length walk
      length-map [] = refl
      length-map (step ∷ walk) = ap suc (length-map walk)
