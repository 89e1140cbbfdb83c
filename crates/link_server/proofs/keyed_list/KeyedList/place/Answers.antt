-- The stamp of the key stands where the key does.
use Rattle.std.proofs.Common.{◌≡◌, ◌<◌, ◌≤◌, ℕ, Result, Ok, Err, length, get_or, refl, ap, sym, subst, ◌∙◌, arith}
use Rattle.std.proofs.lemmas.List.Sorted.{searched}
use Rattle.std.specs.Prelude.{IsOk, MatchResult}
use Rattle.link_server.specs.KeyedList.{position}
use Rattle.link_server.proofs.KeyedValues.{key-inside}
use Rattle.link_server.proofs.KeyPlaces.{stamp-found, stamp-inside, stamp-is}
use Rattle.link_server.proofs.Waiting.Rising.{rising-on}
use Rattle.link_server.proofs.keyed_list.KeyedList.place.Goals as goal
use Rattle.link_server.proofs.keyed_list.KeyedList.place.Goals.{After-binary_search}
use Rattle.link_server.proofs.keyed_list.KeyedList.place.Given.{Over}

pub index-requires : goal.index-requires
index-requires g c =
    let keys = c.self.inside.keys.items in
    let below = stamp-inside keys c.self.inside.stamps.items c.self.inside.stamp_under.items c.self.inside.next c.self.invariant.1.0 c.args.key
    (key-inside c.self.inside.slots.slots keys c.self.inside.spare c.args.key c.args.self.now c.self.invariant.0 c.self.view_is c.requires) in
    omega (arith, below, c.self.inside.stamp_under.ok)

found : (g : Over) (c : After-binary_search g) → c.binary_search.result ≡ Ok (position c.self.inside.keys.items c.args.key)
found g c =
    let keys = c.self.inside.keys.items in
    let stamps = c.self.inside.stamps.items in
    let under = c.self.inside.stamp_under.items in
    let next = c.self.inside.next in
    let are = c.self.invariant.1.0 in
    let x = c.index.result.now in
    let inside = key-inside c.self.inside.slots.slots keys c.self.inside.spare c.args.key c.args.self.now c.self.invariant.0 c.self.view_is c.requires in
    let rise = subst (λ ys. (i j : _) → i ≤ j → j < length ys → get_or ys i 0 ≤ get_or ys j 0) (sym c.deref.ensures.value) (λ i j. rising-on 0 next stamps are.rising i j 0) in
    let told = searched c.deref.result.now x c.binary_search.result c.binary_search.ensures.position rise in
    stamp-found keys stamps under next are c.args.key x c.binary_search.result inside (c.index.ensures ∙ stamp-is keys stamps under next are c.args.key x inside)
    (subst (λ ys. MatchResult c.binary_search.result (λ j. (j < length ys) × (get_or ys j 0 ≡ x)) (λ j. (j ≤ length ys) × ((k : _) → k < j → get_or ys k 0 < x) × ((k : _) → j ≤ k → k < length ys → x < get_or ys k 0))) c.deref.ensures.value told)

pub unwrap-requires : goal.unwrap-requires
unwrap-requires g c = subst IsOk (sym (found g (goal.at.unwrap-requires g c).After-binary_search)) refl

abbrev place-of : Result ℕ ℕ → ℕ
place-of (Ok place) = place
place-of (Err place) = place

pub returns : goal.returns
returns g c = ap place-of (sym c.unwrap.ensures ∙ found g (goal.at.returns g c).After-binary_search) ∙ ap (λ list. position list.keys c.args.key) c.self.view_is
