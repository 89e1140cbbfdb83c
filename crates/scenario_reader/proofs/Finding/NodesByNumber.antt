-- The nodes of a network: two of one number are one node, the links are the edges of a network, and what is found between two
-- nodes is a route over links that are there.
use Rattle.std.proofs.Common.{◌≡◌, ℕ, zero, suc, ◌+◌, ◌*◌, ◌<◌, ◌≤◌, true, false, Option, Some, None, option_map, List, [], ◌∷◌, length, map, inl, inr, ap, sym, subst, refl, ◌∙◌, arith}
use Rattle.std.proofs.lemmas.Bool.{cases_Bool, or_left, or_right, and_from, lt-ltb}
use Rattle.std.proofs.lemmas.Option.{same_Some, slice_get_within}
use Rattle.std.specs.Cmp.Lexicographic.{bytes_decides}
use Rattle.std.specs.List.{list_all, slice_get}
use Rattle.net_units.specs.Numbers.{link_number}
use Rattle.hop_reservation.specs.Routes.{IsRoute}
use Rattle.hop_reservation.specs.declared.route.Hop.{Hop}
use Rattle.link_steps.specs.Lists.{Each}
use Rattle.call_script.specs.Parts.{FollowsLink}
use Rattle.call_script.specs.Rules.{is_named, has_link, meets, goes_on, is_joined}
use Rattle.call_script.specs.declared.entries.LinkEntry.{LinkEntry}
use Rattle.route_finder.specs.Laws.{IsLeastOrNone}
use Rattle.route_finder.specs.Trace.{least_walk}
use Rattle.route_finder.specs.Walks.{hop_of as hop_by, link_of, IsAmong, AreAmong, AreAbove, IsNetwork, Leads, IsLeastWalk}
use Rattle.route_finder.specs.declared.edge.Edge.{Edge}
use Rattle.route_finder.proofs.WalkReadOff.{least-route}
use Rattle.route_finder.proofs.LeastWalk.{finds-least-walk}
use Rattle.scenario_reader.specs.Entries.{hop_of}
use Rattle.scenario_reader.specs.Nodes.{LinksAreNumbered, touches, is_node, node_from, node_of, edge_over, edges_of, route_between}

-- ---- names and numbers

pub named-same : (name other : List ℕ) → is_named name other ≡ true → other ≡ name
named-same name other named = (bytes_decides other name).0 named

same-named : (name other : List ℕ) → other ≡ name → is_named name other ≡ true
same-named name other same = (bytes_decides other name).1 same

pub named-equal : (name other : List ℕ) → other ≡ name → is_named name other ≡ true
named-equal name other same = same-named name other same

pub node-least : (n : ℕ) (links : List LinkEntry) (name : List ℕ) → n ≤ node_from n links name
unfolding node_from
node-least n [] name = omega arith
node-least n (entry ∷ links) name =
    elim (cases_Bool (is_named name entry.from)) [
      | inl first ↦ rw first (omega arith)
      | inr miss ↦ rw miss (elim (cases_Bool (is_named name entry.to)) [
        | inl second ↦ rw second (omega arith)
        | inr other ↦ rw other (omega (arith, node-least (2 + n) links name))
      ])
    ]

pub node-most : (n : ℕ) (links : List LinkEntry) (name : List ℕ) → node_from n links name ≤ n + 2 * length links
unfolding node_from
node-most n [] name = omega arith
node-most n (entry ∷ links) name =
    elim (cases_Bool (is_named name entry.from)) [
      | inl first ↦ rw first (omega arith)
      | inr miss ↦ rw miss (elim (cases_Bool (is_named name entry.to)) [
        | inl second ↦ rw second (omega arith)
        | inr other ↦ rw other (omega (arith, node-most (2 + n) links name))
      ])
    ]

pub node-known : (n : ℕ) (links : List LinkEntry) (name : List ℕ) → is_node links name ≡ true → node_from n links name < n + 2 * length links
unfolding node_from
node-known n [] name known = absurd (let clash : false ≡ true = known in cc)
node-known n (entry ∷ links) name known =
    elim (cases_Bool (is_named name entry.from)) [
      | inl first ↦ rw first (omega arith)
      | inr miss ↦ rw miss (elim (cases_Bool (is_named name entry.to)) [
        | inl second ↦ rw second (omega arith)
        | inr other ↦ rw other (let later : is_node links name ≡ true = rw (miss, other) at known in omega (arith, node-known (2 + n) links name later))
      ])
    ]

-- two nodes of one number are one node
pub node-same : (n : ℕ) (links : List LinkEntry) (one other : List ℕ) → is_node links one ≡ true → is_node links other ≡ true
    → node_from n links one ≡ node_from n links other → one ≡ other
unfolding node_from
node-same n [] one other known known' same = absurd (let clash : false ≡ true = known in cc)
node-same n (entry ∷ links) one other known known' same =
    elim (cases_Bool (is_named one entry.from)) [
      | inl a ↦ elim (cases_Bool (is_named other entry.from)) [
        | inl b ↦ sym (named-same one entry.from a) ∙ named-same other entry.from b
        | inr b ↦ absurd (above n entry links other b (rw a at same))
      ]
      | inr a ↦ elim (cases_Bool (is_named other entry.from)) [
        | inl b ↦ absurd (above n entry links one a (sym (rw b at same)))
        | inr b ↦ elim (cases_Bool (is_named one entry.to)) [
          | inl d ↦ elim (cases_Bool (is_named other entry.to)) [
            | inl e ↦ sym (named-same one entry.to d) ∙ named-same other entry.to e
            | inr e ↦ absurd (let s : suc n ≡ node_from (2 + n) links other = rw (a, b, d, e) at same in omega (arith, s, node-least (2 + n) links other))
          ]
          | inr d ↦ elim (cases_Bool (is_named other entry.to)) [
            | inl e ↦ absurd (let s : node_from (2 + n) links one ≡ suc n = rw (a, b, d, e) at same in omega (arith, s, node-least (2 + n) links one))
            | inr e ↦ node-same (2 + n) links one other (rw (a, d) at known) (rw (b, e) at known') (rw (a, b, d, e) at same)
          ]
        ]
      ]
    ] where
      above : (n : ℕ) (entry : LinkEntry) (links : List LinkEntry) (name : List ℕ) → is_named name entry.from ≡ false → n ≡ node_from n (entry ∷ links) name → ⊥
      above n entry links name miss same = elim (cases_Bool (is_named name entry.to)) [
        | inl second ↦ (let s : n ≡ suc n = rw (miss, second) at same in omega (arith, s))
        | inr other ↦ (let s : n ≡ node_from (2 + n) links name = rw (miss, other) at same in omega (arith, s, node-least (2 + n) links name))
      ]

-- the ends of a link that is there are nodes
pub ends-known : (links : List LinkEntry) (place : ℕ) (entry : LinkEntry) → slice_get links place ≡ Some entry
    → (is_node links entry.from ≡ true) × (is_node links entry.to ≡ true)
ends-known [] place entry found = absurd (let clash : None ≡ Some entry = found in cc)
ends-known (first ∷ links) zero entry found =
    let same : first ≡ entry = same_Some first entry found in (
      or_left (touches entry.from first) (is_node links entry.from) (or_left (is_named entry.from first.from) (is_named entry.from first.to) (same-named entry.from first.from (ap (λ (e : LinkEntry). e.from) same))),
      or_left (touches entry.to first) (is_node links entry.to) (or_right (is_named entry.to first.from) (is_named entry.to first.to) (same-named entry.to first.to (ap (λ (e : LinkEntry). e.to) same))),
    )
ends-known (first ∷ links) (suc place) entry found =
    let later = ends-known links place entry found in
    (or_right (touches entry.from first) (is_node links entry.from) later.0, or_right (touches entry.to first) (is_node links entry.to) later.1)

-- ---- the links as edges

record AreFrom (all links : List LinkEntry) (k : ℕ) : Type 0 where
  number : (n : ℕ) (entry : LinkEntry) → slice_get links n ≡ Some entry → link_number entry.shape.link ≡ k + n
  ends : (n : ℕ) (entry : LinkEntry) → slice_get links n ≡ Some entry → (is_node all entry.from ≡ true) × (is_node all entry.to ≡ true)

record IsNetworkAbove (edges : List Edge) (k : ℕ) : Type 0 where
  network : IsNetwork edges
  above : (low : ℕ) → low < k → AreAbove low edges

edges-network : (all links : List LinkEntry) (k : ℕ) → length all ≤ 32 → AreFrom all links k → IsNetworkAbove (map (edge_over all) links) k
unfolding IsNetwork AreAbove
edges-network all [] k few are = record { network = tt; above = λ low less. tt }
edges-network all (entry ∷ links) k few are =
    let number : link_number entry.shape.link ≡ k + 0 = are.number 0 entry refl in
    let ends = are.ends 0 entry refl in
    let rest = edges-network all links (suc k) few (record { number = λ n e found. omega (arith, are.number (suc n) e found); ends = λ n e found. are.ends (suc n) e found }) in
    record {
      network = (record { from_node = omega (arith, few, node-known 0 all entry.from ends.0); to_node = omega (arith, few, node-known 0 all entry.to ends.1) }, rest.above (link_number entry.shape.link) (omega (arith, number)), rest.network);
      above = λ low less. (omega (arith, less, number), rest.above low (omega (arith, less)));
    }

pub are-network : (links : List LinkEntry) → LinksAreNumbered links → length links ≤ 32 → IsNetwork (edges_of links)
unfolding edges_of
are-network links numbered few = (edges-network links links 0 few (record { number = λ n entry found. omega (arith, numbered.number n entry found); ends = ends-known links })).network

-- a step of a walk is over a link that is there
pub record IsStep (links : List LinkEntry) (step : Edge) : Type 0 where
  pub place : ℕ
  pub entry : LinkEntry
  pub found : slice_get links place ≡ Some entry
  pub is : edge_over links entry ≡ step

step-in : (all links : List LinkEntry) (step : Edge) → IsAmong (map (edge_over all) links) step
    → (place : ℕ) × ((entry : LinkEntry) × ((slice_get links place ≡ Some entry) × (edge_over all entry ≡ step)))
unfolding IsAmong
step-in all [] step among = absurd among
step-in all (entry ∷ links) step (inl same) = (0, (entry, (refl, same)))
step-in all (entry ∷ links) step (inr later) = (let rest = step-in all links step later in (suc rest.0, (rest.1.0, rest.1.1)))

pub step-is : (links : List LinkEntry) (step : Edge) → IsAmong (edges_of links) step → IsStep links step
unfolding edges_of
step-is links step among = (let rest = step-in links links step among in record { place = rest.0; entry = rest.1.0; found = rest.1.1.0; is = rest.1.1.1 })

-- the hops of a walk
pub record IsFoundWay (links : List LinkEntry) (route : List Hop) : Type 0 where
  pub there : list_all (λ (hop : Hop). has_link links hop.link) route ≡ true
  pub joined : is_joined links route ≡ true
  pub follows : Each (FollowsLink links) route

-- the link of a step has its number
at-number : (links : List LinkEntry) (step : Edge) → LinksAreNumbered links → (is : IsStep links step) → slice_get links (link_of step) ≡ Some is.entry
at-number links step numbered is =
    let number : link_of step ≡ is.place = ap link_of (sym is.is) ∙ numbered.number is.place is.entry is.found in
    subst (λ n. slice_get links n ≡ Some is.entry) (sym number) is.found

step-there : (links : List LinkEntry) (step : Edge) → LinksAreNumbered links → IsStep links step → has_link links step.hop.link ≡ true
step-there links step numbered is = lt-ltb (link_of step) (length links) (slice_get_within links (link_of step) is.entry (at-number links step numbered is))

step-follows : (links : List LinkEntry) (step : Edge) → LinksAreNumbered links → IsStep links step → FollowsLink links step.hop
step-follows links step numbered is =
    let at = at-number links step numbered is in
    let hop : hop_of is.entry ≡ step.hop = ap (λ (e : Edge). e.hop) is.is in
    record {
      bounds = λ other found. sym (ap (λ (h : Hop). h.bounds) hop) ∙ ap (λ (l : LinkEntry). l.shape.bounds) (same_Some is.entry other (sym at ∙ found));
      prop = λ other found. sym (ap (λ (h : Hop). h.prop) hop) ∙ ap (λ (l : LinkEntry). l.shape.prop) (same_Some is.entry other (sym at ∙ found));
    }

steps-meet : (links : List LinkEntry) (step next : Edge) → LinksAreNumbered links → IsStep links step → IsStep links next → next.from ≡ step.to
    → meets links step.hop.link next.hop.link ≡ true
steps-meet links step next numbered is is' same =
    let ends = ends-known links is.place is.entry is.found in
    let ends' = ends-known links is'.place is'.entry is'.found in
    let number : node_of links is'.entry.from ≡ node_of links is.entry.to = ap (λ (e : Edge). e.from) is'.is ∙ same ∙ sym (ap (λ (e : Edge). e.to) is.is) in
    let name : is'.entry.from ≡ is.entry.to = node-same 0 links is'.entry.from is.entry.to ends'.0 ends.1 number in
    rw (at-number links step numbered is, at-number links next numbered is') (same-named is'.entry.from is.entry.to (sym name))

walk-there : (links : List LinkEntry) (walk : List Edge) → LinksAreNumbered links → AreAmong (edges_of links) walk
    → list_all (λ (hop : Hop). has_link links hop.link) (map hop_by walk) ≡ true
unfolding AreAmong
walk-there links [] numbered among = refl
walk-there links (step ∷ walk) numbered among =
    and_from (has_link links step.hop.link) (list_all (λ (hop : Hop). has_link links hop.link) (map hop_by walk)) (step-there links step numbered (step-is links step among.0)) (walk-there links walk numbered among.1)

walk-follows : (links : List LinkEntry) (walk : List Edge) → LinksAreNumbered links → AreAmong (edges_of links) walk → Each (FollowsLink links) (map hop_by walk)
unfolding AreAmong
walk-follows links [] numbered among = tt
walk-follows links (step ∷ walk) numbered among = (step-follows links step numbered (step-is links step among.0), walk-follows links walk numbered among.1)

walk-goes_on : (links : List LinkEntry) (step : Edge) (walk : List Edge) (to : ℕ) → LinksAreNumbered links → IsStep links step → AreAmong (edges_of links) walk
    → Leads step.to to walk → goes_on links step.hop (map hop_by walk) ≡ true
unfolding AreAmong Leads
walk-goes_on links step [] to numbered is among leads = refl
walk-goes_on links step (next ∷ walk) to numbered is among leads =
    let is' = step-is links next among.0 in
    and_from (meets links step.hop.link next.hop.link) (goes_on links next.hop (map hop_by walk)) (steps-meet links step next numbered is is' leads.0) (walk-goes_on links next walk to numbered is' among.1 leads.1)

walk-joined : (links : List LinkEntry) (walk : List Edge) (from to : ℕ) → LinksAreNumbered links → AreAmong (edges_of links) walk → Leads from to walk
    → is_joined links (map hop_by walk) ≡ true
unfolding AreAmong Leads
walk-joined links [] from to numbered among leads = refl
walk-joined links (step ∷ walk) from to numbered among leads = walk-goes_on links step walk to numbered (step-is links step among.0) among.1 leads.1

pub walk-way : (links : List LinkEntry) (walk : List Edge) (from to : ℕ) → LinksAreNumbered links → IsLeastWalk (edges_of links) from to walk
    → IsFoundWay links (map hop_by walk)
walk-way links walk from to numbered least = record {
  there = walk-there links walk numbered least.is_walk.way.among;
  joined = walk-joined links walk from to numbered least.is_walk.way.among least.is_walk.way.leads;
  follows = walk-follows links walk numbered least.is_walk.way.among;
}

-- what is found between two nodes
pub record IsGoodRoute (links : List LinkEntry) (hops : List Hop) : Type 0 where
  pub way : IsFoundWay links hops
  pub route : IsRoute hops

pub found-route : (links : List LinkEntry) (from to : List ℕ) (hops : List Hop) → LinksAreNumbered links → length links ≤ 32 → is_node links from ≡ true
    → is_node links to ≡ true → (from ≡ to → ⊥)
    → route_between links from to ≡ Some hops → IsGoodRoute links hops
unfolding route_between
found-route links from to hops numbered few known known' apart found =
    by (least_walk (edges_of links) (node_of links from) (node_of links to))
    (finds-least-walk (edges_of links) (node_of links from) (node_of links to) (are-network links numbered few) (λ same. apart (node-same 0 links from to known known' same))) found where
      by : (walk : Option (List Edge)) → IsLeastOrNone (edges_of links) (node_of links from) (node_of links to) walk
          → option_map (map hop_by) walk ≡ Some hops → IsGoodRoute links hops
      by None none found = absurd (let clash : None ≡ Some hops = found in cc)
      by (Some walk) least found =
          let same : map hop_by walk ≡ hops = same_Some (map hop_by walk) hops found in
          subst (IsGoodRoute links) same (record { way = walk-way links walk (node_of links from) (node_of links to) numbered least; route = least-route (edges_of links) (node_of links from) (node_of links to) walk (are-network links numbered few) least })

-- the walk that is found in edges and between numbers that are these
pub route-of : (links : List LinkEntry) (from to : List ℕ) (edges : List Edge) (a b : ℕ) (walk : Option (List Edge)) → edges ≡ edges_of links
    → a ≡ node_of links from → b ≡ node_of links to → least_walk edges a b ≡ walk
    → option_map (map hop_by) walk ≡ route_between links from to
unfolding route_between
route-of links from to edges a b walk same first second found =
    sym (ap (option_map (map hop_by)) found)
    ∙ ap (λ es. option_map (map hop_by) (least_walk es a b)) same
    ∙ ap (λ n. option_map (map hop_by) (least_walk (edges_of links) n b)) first
    ∙ ap (λ n. option_map (map hop_by) (least_walk (edges_of links) (node_of links from) n)) second
