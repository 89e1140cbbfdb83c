-- Two least walks are the same: neither comes after the other, so they pass the same links.
use Rattle.std.proofs.Common.{◌≡◌, ◌<◌, ℕ, List, [], ◌∷◌, length, ◌⊎◌, inl, inr, refl, arith}
use Rattle.route_finder.specs.declared.edge.Edge.{Edge}
use Rattle.route_finder.specs.Laws.{HasOneLeastWalk}
use Rattle.route_finder.specs.Walks.{link_of, links_of, AreAmong, IsNetwork, IsNotAbove, ComesFirst}
use Rattle.route_finder.proofs.FirstStep.{same-edge}

-- lists of which neither is above the other are the same
pub not_above-both : (ns others : List ℕ) → IsNotAbove ns others → IsNotAbove others ns → ns ≡ others
unfolding IsNotAbove
not_above-both [] [] one other = refl
not_above-both [] (m ∷ others) one other = absurd other
not_above-both (n ∷ ns) [] one other = absurd one
not_above-both (n ∷ ns) (m ∷ others) (inl less) (inl more) = absurd (omega arith)
not_above-both (n ∷ ns) (m ∷ others) (inl less) (inr more) = absurd (let e = more.0 in omega arith)
not_above-both (n ∷ ns) (m ∷ others) (inr less) (inl more) = absurd (let e = less.0 in omega arith)
not_above-both (n ∷ ns) (m ∷ others) (inr less) (inr more) = (let head = less.0 in let tail = not_above-both ns others less.1 more.1 in cc)

pub first-both : (one other : List Edge) → ComesFirst one other → ComesFirst other one → links_of one ≡ links_of other
first-both one other (inl less) (inl more) = absurd (omega arith)
first-both one other (inl less) (inr more) = absurd (let e = more.0 in omega arith)
first-both one other (inr less) (inl more) = absurd (let e = less.0 in omega arith)
first-both one other (inr less) (inr more) = by one other less.1 more.1 where
  by : (one other : List Edge) → (length one < length other) ⊎ ((length one ≡ length other) × IsNotAbove (links_of one) (links_of other))
      → (length other < length one) ⊎ ((length other ≡ length one) × IsNotAbove (links_of other) (links_of one)) → links_of one ≡ links_of other
  by one other (inl less) (inl more) = absurd (omega arith)
  by one other (inl less) (inr more) = absurd (let e = more.0 in omega arith)
  by one other (inr less) (inl more) = absurd (let e = less.0 in omega arith)
  by one other (inr less) (inr more) = not_above-both (links_of one) (links_of other) less.1 more.1

-- walks over the same links are the same
pub same-walk : (edges one other : List Edge) → IsNetwork edges → AreAmong edges one → AreAmong edges other → links_of one ≡ links_of other → one ≡ other
unfolding AreAmong
same-walk edges [] [] network among among' same = refl
same-walk edges [] (step ∷ other) network among among' same = absurd cc
same-walk edges (step ∷ one) [] network among among' same = absurd cc
same-walk edges (step ∷ one) (step' ∷ other) network among among' same =
    let head : link_of step ≡ link_of step' = cc in
    let tail : links_of one ≡ links_of other = cc in
    let first = same-edge edges step step' network among.0 among'.0 head in
    let later = same-walk edges one other network among.1 among'.1 tail in
    cc

pub has-one-least-walk : HasOneLeastWalk
has-one-least-walk edges from to one other network least least' =
    same-walk edges one other network least.is_walk.way.among least'.is_walk.way.among
    (first-both one other (least.first other least'.is_walk) (least'.first one least.is_walk))
