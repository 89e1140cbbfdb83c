-- Where a route with a hop is found between two names, both are nodes of the network, and they differ.
use Rattle.std.proofs.Common.{◌≡◌, ◌≢◌, ℕ, zero, suc, ◌+◌, ◌*◌, ◌<◌, ◌≤◌, true, false, Option, Some, None, option_map, List, [], ◌∷◌, length, map, inl, inr, ap, sym, subst, refl, ◌∙◌, arith}
use Rattle.std.proofs.lemmas.Bool.{cases_Bool, or_left, or_right}
use Rattle.std.proofs.lemmas.Option.{same_Some}
use Rattle.hop_reservation.specs.declared.route.Hop.{Hop}
use Rattle.call_script.specs.Rules.{is_named}
use Rattle.call_script.specs.declared.entries.LinkEntry.{LinkEntry}
use Rattle.route_finder.specs.Laws.{IsLeastOrNone}
use Rattle.route_finder.specs.Table.{least_prop}
use Rattle.route_finder.specs.Trace.{fewest, traced, traced_from, walk_by, least_walk}
use Rattle.route_finder.specs.Walks.{hop_of as hop_by, prop_over, IsAmong, AreAmong, Leads}
use Rattle.route_finder.specs.declared.edge.Edge.{Edge}
use Rattle.route_finder.proofs.LeastPropagations.{least_prop-within}
use Rattle.route_finder.proofs.TracedWalk.{IsFewest, fewest-is}
use Rattle.route_finder.proofs.LeastWalk.{finds-least-walk}
use Rattle.scenario_reader.specs.Nodes.{LinksAreNumbered, touches, is_node, node_from, node_of, edges_of, route_between}
use Rattle.scenario_reader.proofs.Finding.NodesByNumber.{named-same, are-network, node-known, ends-known, step-is}

-- a number of a node that is there
pub node-there : (n : ℕ) (links : List LinkEntry) (name : List ℕ) → node_from n links name < n + 2 * length links → is_node links name ≡ true
unfolding node_from
node-there n [] name less = absurd (omega (arith, less))
node-there n (entry ∷ links) name less =
    elim (cases_Bool (is_named name entry.from)) [
      | inl first ↦ or_left (touches name entry) (is_node links name) (or_left (is_named name entry.from) (is_named name entry.to) first)
      | inr miss ↦ elim (cases_Bool (is_named name entry.to)) [
        | inl second ↦ or_left (touches name entry) (is_node links name) (or_right (is_named name entry.from) (is_named name entry.to) second)
        | inr other ↦
            let later : node_from (2 + n) links name < n + 2 * length (entry ∷ links) = rw (miss, other) at less in
            or_right (touches name entry) (is_node links name) (node-there (2 + n) links name (omega (arith, later)))
      ]
    ]

-- from a node to itself nothing is traced
here-is : (edges : List Edge) (node links : ℕ) → least_prop edges node links node ≡ Some 0
unfolding Leads AreAmong prop_over
here-is edges node links =
    let within = least_prop-within edges node links node [] (record { among = tt; leads = refl; few = omega arith }) in
    by within.value within.is within.less where
      by : (value : ℕ) → least_prop edges node links node ≡ Some value → value ≤ 0 → least_prop edges node links node ≡ Some 0
      by value is less = (let none : value ≡ 0 = omega (arith, less) in is ∙ ap Some none)

none-traced : (edges : List Edge) (node : ℕ) → traced_from (least_prop edges node) edges node ≡ []
unfolding traced
none-traced edges node = by (fewest (λ links. least_prop edges node links node) 16) (fewest-is (λ links. least_prop edges node links node) 16) where
  by : (links : ℕ) → IsFewest (λ links. least_prop edges node links node) 16 links → traced (least_prop edges node) edges links node ≡ []
  by zero few = refl
  by (suc links) few = absurd (few.other links refl (here-is edges node links ∙ sym (here-is edges node (suc links))))

no-walk : (edges : List Edge) (node : ℕ) → least_walk edges node node ≡ Some []
no-walk edges node = ap (walk_by edges node node) (here-is edges node 16) ∙ ap Some (none-traced edges node)

-- the ends of a walk are nodes
record AreEnds (links : List LinkEntry) (from to : ℕ) : Type 0 where
  first : from < 2 * length links
  last : to < 2 * length links

step-ends : (links : List LinkEntry) (step : Edge) → IsAmong (edges_of links) step → AreEnds links step.from step.to
step-ends links step among =
    let is = step-is links step among in
    let ends = ends-known links is.place is.entry is.found in
    let from : node_of links is.entry.from ≡ step.from = ap (λ (e : Edge). e.from) is.is in
    let to : node_of links is.entry.to ≡ step.to = ap (λ (e : Edge). e.to) is.is in
    record { first = omega (arith, from, node-known 0 links is.entry.from ends.0); last = omega (arith, to, node-known 0 links is.entry.to ends.1) }

walk-ends : (links : List LinkEntry) (from to : ℕ) (walk : List Edge) → 1 ≤ length walk → AreAmong (edges_of links) walk → Leads from to walk
    → AreEnds links from to
unfolding AreAmong Leads
walk-ends links from to [] some among leads = absurd (omega (arith, some))
walk-ends links from to (step ∷ []) some among leads =
    let ends = step-ends links step among.0 in
    record { first = omega (arith, ends.first, leads.0); last = omega (arith, ends.last, leads.1) }
walk-ends links from to (step ∷ next ∷ walk) some among leads =
    let ends = step-ends links step among.0 in
    let later = walk-ends links step.to to (next ∷ walk) (omega arith) among.1 leads.1 in
    record { first = omega (arith, ends.first, leads.0); last = later.last }

-- so both are nodes
pub record AreFoundNodes (links : List LinkEntry) (from to : List ℕ) : Type 0 where
  pub first : is_node links from ≡ true
  pub second : is_node links to ≡ true
  pub apart : is_named to from ≡ false

pub found-nodes : (links : List LinkEntry) (from to : List ℕ) (hops : List Hop) → LinksAreNumbered links → length links ≤ 32 → 1 ≤ length hops
    → route_between links from to ≡ Some hops → AreFoundNodes links from to
unfolding route_between
found-nodes links from to hops numbered few some found =
    let edges = edges_of links in
    let a = node_of links from in
    let b = node_of links to in
    let apart : a ≢ b = λ same. nothing hops some (sym (ap (option_map (map hop_by)) (subst (λ n. least_walk edges n b ≡ Some []) (sym same) (no-walk edges b))) ∙ found) in
    by (least_walk edges a b) (finds-least-walk edges a b (are-network links numbered few) apart) found apart where
      nothing : (hops : List Hop) → 1 ≤ length hops → Some [] ≡ Some hops → ⊥
      nothing [] some same = omega (arith, some)
      nothing (hop ∷ hops) some same = (let clash : [] ≡ hop ∷ hops = same_Some [] (hop ∷ hops) same in cc)

      differ : (one other : List ℕ) → (one ≡ other → ⊥) → is_named other one ≡ false
      differ one other apart = elim (cases_Bool (is_named other one)) [
        | inl same ↦ absurd (apart (named-same other one same))
        | inr other ↦ other
      ]

      by : (walk : Option (List Edge)) → IsLeastOrNone (edges_of links) (node_of links from) (node_of links to) walk
          → option_map (map hop_by) walk ≡ Some hops → node_of links from ≢ node_of links to → AreFoundNodes links from to
      by None none found apart = absurd (let clash : None ≡ Some hops = found in cc)
      by (Some walk) least found apart =
          let way = least.is_walk.way in
          let ends = walk-ends links (node_of links from) (node_of links to) walk least.is_walk.some way.among way.leads in
          record { first = node-there 0 links from (omega (arith, ends.first)); second = node-there 0 links to (omega (arith, ends.last)); apart = differ from to (λ same. apart (ap (node_of links) same)) }
