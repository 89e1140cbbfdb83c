-- The place comes before the first one that isn't less, unless that is it.
use Rattle.std.proofs.Common.{◌≡◌, ℕ, ◌<◌, ◌≤◌, Bool, true, false, not, List, if◌then◌else◌, Ok, Err, is_ok, get_or, length, sym, ap, ◌∙◌, subst, arith}
use Rattle.std.proofs.lemmas.Bool.{true≢false, false≢true}
use Rattle.std.proofs.lemmas.List.Sorted.{searched}
use Rattle.std.proofs.lemmas.List.Edits.{length-insert}
use Rattle.link_server.proofs.Words.{insert}
use Rattle.std.specs.Vec.{vec_capacity}
use Rattle.link_server.specs.KeyedList.{AreRising}
use Rattle.link_server.specs.Plans.{is_turn}
use Rattle.link_server.proofs.Waiting.Rising.{IsGap, rising-few, rising-on, rising-insert, turn-inserted, turn-before, turn-at}
use Rattle.link_server.proofs.table.plans.add_turn.Goals as goal
use Rattle.link_server.proofs.table.plans.add_turn.Goals.{After-insert}

-- where the search doesn't find it, it would stand there
gap : (c : After-insert) → IsGap c.args.place c.args.turns.now.items c.in-Err.at
gap c =
    let xs = c.args.turns.now.items in
    let found = searched c.deref.result.now c.args.place (Err c.in-Err.at) c.in-Err.ensures.position (λ i j. subst (λ ys. i ≤ j → j < length ys → get_or ys i 0 ≤ get_or ys j 0) (sym c.deref.ensures.value) (rising-on 0 (vec_capacity c.args.turns.now) xs c.requires.rising i j 0)) in
    subst (λ ys. IsGap c.args.place ys c.in-Err.at) c.deref.ensures.value (record { within = found.0; below = found.1; above = found.2 })

-- and there is room for it
few : (c : After-insert) → length c.args.turns.now.items < vec_capacity c.args.turns.now
few c =
    let xs = c.args.turns.now.items in
    let more = rising-few 0 (vec_capacity c.args.turns.now) (insert xs c.in-Err.at c.args.place) (rising-insert 0 (vec_capacity c.args.turns.now) xs c.in-Err.at c.args.place c.requires.rising (omega arith) c.requires.inside (gap c)) in
    let one = length-insert xs c.in-Err.at c.args.place (gap c).within in
    omega (arith, more, one)

stands : (c : After-insert) → is_ok c.insert.result ≡ true
stands c =
    let few = few c in
    let len = c.args.turns.now.ok in
    c.insert.ensures.succeeds (omega (arith, few, len))

inserted : (b : Bool) (items xs : List ℕ) (i x : ℕ) → items ≡ (if b then insert xs i x else xs) → b ≡ true → items ≡ insert xs i x
inserted true items xs i x is same = is
inserted false items xs i x is same = absurd (false≢true same)

items : (c : After-insert) → c.insert.new.self.items ≡ insert c.args.turns.now.items c.in-Err.at c.args.place
items c = inserted _ _ _ _ _ c.insert.ensures.items (stands c)

pub unreachable-requires : goal.unreachable-requires
unreachable-requires c = absurd (true≢false (sym (stands (goal.at.unreachable-requires c).After-insert) ∙ c.is_err.ensures.negation ∙ ap not c.if-is_err.true))

pub returns-else-is_err-clause-rising : goal.returns-else-is_err-clause-rising
returns-else-is_err-clause-rising c = λ high rising before.
    subst (AreRising 0 high) (sym (items (goal.at.returns-else-is_err-clause-rising c).After-insert))
    (rising-insert 0 high c.args.turns.now.items c.in-Err.at c.args.place rising (omega arith) before (gap (goal.at.returns-else-is_err-clause-rising c).After-insert))

pub returns-else-is_err-clause-others : goal.returns-else-is_err-clause-others
returns-else-is_err-clause-others c = λ other none.
    turn-before c.args.turns.now.items c.in-Err.at c.args.place other (ap (λ all. is_turn all other) (sym (items (goal.at.returns-else-is_err-clause-others c).After-insert)) ∙ none)

pub returns-else-is_err-clause-capacity : goal.returns-else-is_err-clause-capacity
returns-else-is_err-clause-capacity c =
    let few = few (goal.at.returns-else-is_err-clause-capacity c).After-insert in
    let len = c.args.turns.now.ok in
    (c.insert.ensures.in_place (omega (arith, few, len))).1.0

pub returns-else-is_err-clause-called : goal.returns-else-is_err-clause-called
returns-else-is_err-clause-called c =
    let at = (goal.at.returns-else-is_err-clause-called c).After-insert in
    ap (λ all. is_turn all c.args.place) (items at) ∙ turn-inserted c.args.turns.now.items c.in-Err.at c.args.place (gap at).within

pub returns-in_default-clause-called : goal.returns-in_default-clause-called
returns-in_default-clause-called c =
    let xs = c.args.turns.now.items in
    let i = c.in_default.field-0 in
    let found = searched c.deref.result.now c.args.place (Ok i) c.in_default.ensures.position (λ j k. subst (λ ys. j ≤ k → k < length ys → get_or ys j 0 ≤ get_or ys k 0) (sym c.deref.ensures.value) (rising-on 0 (vec_capacity c.args.turns.now) xs c.requires.rising j k 0)) in
    let here = subst (λ ys. (i < length ys) × (get_or ys i 0 ≡ c.args.place)) c.deref.ensures.value found in
    ap (is_turn xs) (sym here.1) ∙ turn-at xs i 0 here.0
