-- The least walk passes no link twice: without the part between the two places it would have fewer links and no greater sum.
use Rattle.std.proofs.Common.{◌≡◌, ℕ, zero, suc, ◌+◌, ◌-◌, ◌<◌, ◌≤◌, List, [], ◌∷◌, ◌++◌, length, take, drop, get_or, ◌⊎◌, inl, inr, ap, sym, subst, refl, ◌∙◌, arith}
use Rattle.route_finder.specs.declared.edge.Edge.{Edge}
use Rattle.route_finder.specs.Laws.{PassesNoLinkTwice}
use Rattle.route_finder.specs.Walks.{links_of, prop_over, IsAmong, AreAmong, Leads, IsWalk, IsNotAbove, ComesFirst}
use Rattle.route_finder.proofs.FirstStep.{same-edge}

-- a walk without the part from one place to another
record IsCut (edges : List Edge) (to node : ℕ) (walk cut : List Edge) (less : ℕ) : Type 0 where
  among : AreAmong edges cut
  leads : Leads node to cut
  prop : prop_over cut ≤ prop_over walk
  count : length cut + less ≡ length walk

-- what is left from a place on
drop-cut : (edges : List Edge) (to node j : ℕ) (walk : List Edge) (d : Edge) → AreAmong edges walk → Leads node to walk → j < length walk
    → IsCut edges to (get_or walk j d).from walk (drop j walk) j
unfolding AreAmong Leads prop_over
drop-cut edges to node j [] d among leads within = absurd (omega (arith, within))
drop-cut edges to node zero (step ∷ walk) d among leads within = record { among = among; leads = (refl, leads.1); prop = omega arith; count = omega arith }
drop-cut edges to node (suc j) (step ∷ walk) d among leads within =
    let rest = drop-cut edges to step.to j walk d among.1 leads.1 (omega arith) in
    record { among = rest.among; leads = rest.leads; prop = omega (arith, rest.prop); count = omega (arith, rest.count) }

-- from a place on at once to a later one that begins at the same node
take-cut : (edges : List Edge) (to node i j : ℕ) (walk : List Edge) (d : Edge) → AreAmong edges walk → Leads node to walk → i < j → j < length walk
    → (get_or walk i d).from ≡ (get_or walk j d).from
    → IsCut edges to node walk (take i walk ++ drop j walk) (j - i)
unfolding AreAmong Leads prop_over
take-cut edges to node i j [] d among leads before within same = absurd (omega (arith, within))
take-cut edges to node zero j (step ∷ walk) d among leads before within same =
    let rest = drop-cut edges to node j (step ∷ walk) d among leads within in
    record { among = rest.among; leads = subst (λ n. Leads n to (drop j (step ∷ walk))) (sym same ∙ leads.0) rest.leads; prop = rest.prop; count = omega (arith, rest.count) }
take-cut edges to node (suc i) zero (step ∷ walk) d among leads before within same = absurd (omega (arith, before))
take-cut edges to node (suc i) (suc j) (step ∷ walk) d among leads before within same =
    let rest = take-cut edges to step.to i j walk d among.1 leads.1 (omega arith) (omega arith) same in
    record { among = (among.0, rest.among); leads = (leads.0, rest.leads); prop = omega (arith, rest.prop); count = omega (arith, rest.count) }

among-at : (edges walk : List Edge) (i : ℕ) (d : Edge) → AreAmong edges walk → i < length walk → IsAmong edges (get_or walk i d)
unfolding AreAmong
among-at edges [] i d among within = absurd (omega (arith, within))
among-at edges (step ∷ walk) zero d among within = among.0
among-at edges (step ∷ walk) (suc i) d among within = among-at edges walk i d among.1 (omega arith)

-- the least walk is not a longer one
first-count : (walk cut : List Edge) → ComesFirst walk cut → prop_over cut ≤ prop_over walk → length walk ≤ length cut
first-count walk cut (inl less) prop = absurd (omega arith)
first-count walk cut (inr more) prop = by walk cut more.1 where
  by : (walk cut : List Edge) → (length walk < length cut) ⊎ ((length walk ≡ length cut) × IsNotAbove (links_of walk) (links_of cut)) → length walk ≤ length cut
  by walk cut (inl less) = omega arith
  by walk cut (inr same) = (let e = same.0 in omega arith)

pub passes-no-link-twice : PassesNoLinkTwice
passes-no-link-twice edges from to walk network least i j d before within same =
    let way = least.is_walk.way in
    let one = get_or walk i d in
    let other = get_or walk j d in
    let equal : one ≡ other = same-edge edges one other network (among-at edges walk i d way.among (omega (arith, before, within))) (among-at edges walk j d way.among within) same in
    let cut = take-cut edges to from i j walk d way.among way.leads before within (ap (λ e. e.from) equal) in
    let shorter : IsWalk edges from to (take i walk ++ drop j walk) = record {
      way = record { among = cut.among; leads = cut.leads; few = omega (arith, cut.count, way.few) };
      some = omega (arith, cut.count, before, within, rest-of i j walk before within);
    } in
    let count = first-count walk (take i walk ++ drop j walk) (least.first (take i walk ++ drop j walk) shorter) cut.prop in
    omega (arith, count, cut.count, before) where
      rest-of : (i j : ℕ) (walk : List Edge) → i < j → j < length walk → j - i < length walk
      rest-of i j walk before within = omega arith
