-- How the trace is made: the number of links from above, the first step edge by edge, and the hops one by one.
use Rattle.std.proofs.Common.{◌≡◌, ◌≢◌, ℕ, zero, suc, ◌+◌, ◌-◌, ◌<◌, ◌≤◌, true, false, Option, Some, None, List, [], ◌∷◌, ◌++◌, length, drop, get_or, map, inl, inr, ap, sym, subst, refl, ◌∙◌, arith}
use Rattle.std.proofs.Math.Seq.{drop-cons}
use Rattle.std.proofs.lemmas.Bool.{cases_Bool}
use Rattle.std.proofs.lemmas.List.{append_assoc, append-nil, drop_all}
use Rattle.hop_reservation.specs.declared.route.Hop.{Hop}
use Rattle.route_finder.specs.declared.edge.Edge.{Edge}
use Rattle.route_finder.specs.Trace.{are_same, goes_on, fewest, first_step, traced, traced_from, with_step}
use Rattle.route_finder.specs.Walks.{hop_of, IsEdge, IsNetwork}
use Rattle.route_finder.proofs.FirstStep.{are_same-true, are_same-refl}
use Rattle.route_finder.proofs.TracedWalk.{fewest-is}

-- ---- how many links

pub fewest-fewer : (entry : ℕ → Option ℕ) (links : ℕ) → 0 < links → entry (links - 1) ≡ entry links → fewest entry links ≡ fewest entry (links - 1)
unfolding fewest
fewest-fewer entry zero some same = absurd (omega arith)
fewest-fewer entry (suc links) some same =
    let e : suc links - 1 ≡ links = omega arith in
    let equal : entry links ≡ entry (suc links) = ap entry (sym e) ∙ same in
    rw e (rw (subst (λ v. are_same (entry links) v ≡ true) equal (are_same-refl (entry links))) refl)

pub fewest-stays : (entry : ℕ → Option ℕ) (links : ℕ) → (0 < links → entry (links - 1) ≢ entry links) → fewest entry links ≡ links
unfolding fewest
fewest-stays entry zero other = refl
fewest-stays entry (suc links) other =
    elim (cases_Bool (are_same (entry links) (entry (suc links)))) [
      | inl same ↦ absurd (other (omega arith) (let e : suc links - 1 ≡ links = omega arith in ap entry e ∙ are_same-true (entry links) (entry (suc links)) same))
      | inr differs ↦ rw differs refl
    ]

-- ---- the first step

pub first_step-found : (rest : ℕ → Option ℕ) (whole : Option ℕ) (node : ℕ) (edges : List Edge) (index : ℕ) (edge : Edge) → index < length edges
    → get_or edges index edge ≡ edge → goes_on rest whole node edge ≡ true
    → first_step rest whole node (drop index edges) ≡ Some edge
unfolding first_step
first_step-found rest whole node edges index edge within is goes = rw (drop-cons edges index edge within) (rw is (rw goes refl))

pub first_step-later : (rest : ℕ → Option ℕ) (whole : Option ℕ) (node : ℕ) (edges : List Edge) (index : ℕ) (edge : Edge) → index < length edges
    → get_or edges index edge ≡ edge → goes_on rest whole node edge ≡ false
    → first_step rest whole node (drop index edges) ≡ first_step rest whole node (drop (index + 1) edges)
unfolding first_step
first_step-later rest whole node edges index edge within is goes =
    let next : suc index ≡ index + 1 = omega arith in
    rw (← next) (rw (drop-cons edges index edge within) (rw is (rw goes refl)))

pub first_step-none : (rest : ℕ → Option ℕ) (whole : Option ℕ) (node : ℕ) (edges : List Edge) (index : ℕ) → length edges ≤ index
    → first_step rest whole node (drop index edges) ≡ None
unfolding first_step
first_step-none rest whole node edges index past = rw (drop_all index edges past) refl

-- it is an edge of the network
pub first_step-edge : (rest : ℕ → Option ℕ) (whole : Option ℕ) (node : ℕ) (edges : List Edge) (step : Edge) → IsNetwork edges
    → first_step rest whole node edges ≡ Some step → IsEdge step
unfolding first_step IsNetwork
first_step-edge rest whole node [] step network is = absurd (let clash : None ≡ Some step = is in cc)
first_step-edge rest whole node (edge ∷ edges) step network is =
    elim (cases_Bool (goes_on rest whole node edge)) [
      | inl goes ↦ (let found : Some edge ≡ Some step = rw goes at is in let same : edge ≡ step = cc in subst IsEdge same network.0)
      | inr stays ↦ first_step-edge rest whole node edges step network.2 (rw stays at is)
    ]

-- ---- the hops

-- a step more
pub hops-some : (least : ℕ → ℕ → Option ℕ) (edges : List Edge) (left node : ℕ) (step : Edge) (hops : List Hop)
    → first_step (least left) (least (left + 1) node) node edges ≡ Some step
    → (hops ++ step.hop ∷ []) ++ map hop_of (traced least edges left step.to) ≡ hops ++ map hop_of (traced least edges (suc left) node)
unfolding traced
hops-some least edges left node step hops found =
    let next : left + 1 ≡ suc left = omega arith in
    let is : first_step (least left) (least (suc left) node) node edges ≡ Some step = subst (λ n. first_step (least left) (least n node) node edges ≡ Some step) next found in
    rw is (append_assoc hops (step.hop ∷ []) (map hop_of (traced least edges left step.to)))

-- no step more
pub hops-none : (least : ℕ → ℕ → Option ℕ) (edges : List Edge) (left node : ℕ) (hops : List Hop)
    → first_step (least left) (least (left + 1) node) node edges ≡ None → hops ≡ hops ++ map hop_of (traced least edges (suc left) node)
unfolding traced
hops-none least edges left node hops found =
    let next : left + 1 ≡ suc left = omega arith in
    let is : first_step (least left) (least (suc left) node) node edges ≡ None = subst (λ n. first_step (least left) (least n node) node edges ≡ None) next found in
    rw is (sym (append-nil hops))

pub hops-all : (least : ℕ → ℕ → Option ℕ) (edges : List Edge) (left node : ℕ) (hops : List Hop) → left ≤ 0
    → hops ≡ hops ++ map hop_of (traced least edges left node)
unfolding traced
hops-all least edges zero node hops less = sym (append-nil hops)
hops-all least edges (suc left) node hops less = absurd (omega arith)

-- ---- over tables that are the same up to so many links

pub fewest-same : (entry entry' : ℕ → Option ℕ) (links : ℕ) → ((few : ℕ) → few ≤ links → entry few ≡ entry' few) → fewest entry links ≡ fewest entry' links
unfolding fewest
fewest-same entry entry' zero same = refl
fewest-same entry entry' (suc links) same =
    rw (same links (omega arith), same (suc links) (omega arith), fewest-same entry entry' links (λ few less. same few (omega arith))) refl

pub first_step-same : (rest rest' : ℕ → Option ℕ) (whole : Option ℕ) (node : ℕ) (edges : List Edge) → ((n : ℕ) → rest n ≡ rest' n)
    → first_step rest whole node edges ≡ first_step rest' whole node edges
unfolding first_step
first_step-same rest rest' whole node [] same = refl
first_step-same rest rest' whole node (edge ∷ edges) same = rw (same edge.to, first_step-same rest rest' whole node edges same) refl

pub traced-same : (least least' : ℕ → ℕ → Option ℕ) (edges : List Edge) (links node : ℕ) → ((few n : ℕ) → few ≤ links → least few n ≡ least' few n)
    → traced least edges links node ≡ traced least' edges links node
unfolding traced
traced-same least least' edges zero node same = refl
traced-same least least' edges (suc links) node same =
    let whole = ap (λ w. first_step (least links) w node edges) (same (suc links) node (omega arith)) in
    let step = whole ∙ first_step-same (least links) (least' links) (least' (suc links) node) node edges (λ n. same links n (omega arith)) in
    ap (λ s. with_step s (traced least edges links)) step ∙ after (first_step (least' links) (least' (suc links) node) node edges) (traced least edges links) (traced least' edges links) (λ n. traced-same least least' edges links n (λ few n less. same few n (omega arith))) where
      after : (step : Option Edge) (rest rest' : ℕ → List Edge) → ((n : ℕ) → rest n ≡ rest' n) → with_step step rest ≡ with_step step rest'
      after None rest rest' same = refl
      after (Some step) rest rest' same = ap (λ walk. step ∷ walk) (same step.to)

pub traced_from-same : (least least' : ℕ → ℕ → Option ℕ) (edges : List Edge) (node : ℕ) → ((few n : ℕ) → few ≤ 16 → least few n ≡ least' few n)
    → traced_from least edges node ≡ traced_from least' edges node
traced_from-same least least' edges node same =
    let count = fewest-same (λ links. least links node) (λ links. least' links node) 16 (λ few less. same few node less) in
    ap (λ n. traced least edges n node) count ∙ traced-same least least' edges (fewest (λ links. least' links node) 16) node (λ few n less. same few n (omega (arith, less, (fewest-is (λ links. least' links node) 16).less)))
