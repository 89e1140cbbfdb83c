-- Facts on marks: rising stamps, the longer of two lists, stamps of draws that are numbered, and how many all actors
-- draw together.
use Rattle.std.proofs.Common.{◌≡◌, ℕ, zero, suc, eqb, ◌+◌, ◌*◌, ◌<◌, ◌≤◌, Bool, cond, List, [], ◌∷◌, ◌++◌, length, refl, sym, ap, ◌∙◌, subst, inl, inr, ⊎_elim, arith, suc-mul}
use Rattle.std.specs.Prelude.{nat_lt}
use Rattle.std.proofs.lemmas.Bool.{ltb-true, ltb-false, cond_both, eq-eqb, eqb-true, cases_eq}
use Rattle.std.specs.List.{filter}
use mathlib.Core.List.{IsPrefix}
use Rattle.net_units.specs.Numbers.{actor_number}
use Rattle.link_steps.specs.Lists.{Each}
use Rattle.link_steps.proofs.SearchAndFilter.{Each-append}
use Rattle.step_stamp.specs.declared.marks.Drawn.{Drawn}
use Rattle.step_stamp.specs.declared.marks.Mark.{Mark}
use Rattle.step_stamp.specs.Lists.{Has, AppearIn}
use Rattle.step_stamp.specs.Marks.{RisesFrom, StampsRise, Numbered, NoTwice, drawn_marks, by_actor, of_actor, for_link, marks_of, drawn_for, longer}
use Rattle.step_stamp.proofs.ListMembers.{has-each, has-right, has-passed, has-kept, passes-test, prefix_length, prefix-whole}

-- ---- rising stamps

-- a stamp above all others at the end
pub rises-append : (low top : ℕ) (ms : List Mark) (m : Mark) → RisesFrom low ms → Each (λ (x : Mark). x.stamp ≤ top) ms → low ≤ top → top < m.stamp → RisesFrom low (ms ++ m ∷ [])
rises-append low top [] m rises most le lt = (omega arith, tt)
rises-append low top (x ∷ ms) m rises most le lt = (rises.0, rises-append x.stamp top ms m rises.1 most.1 most.0 lt)

-- rising stamps of at most `top` are at most so many
pub rises-length : (low top : ℕ) (ms : List Mark) → RisesFrom low ms → Each (λ (m : Mark). m.stamp ≤ top) ms → low ≤ top → low + length ms ≤ top
rises-length low top [] rises most le = omega arith
rises-length low top (m ∷ ms) rises most le = let rest = rises-length m.stamp top ms rises.1 most.1 most.0 in let first = rises.0 in omega (arith, rest, first)

-- a list that rises from a number rises from a lower one, and so does what a filter passes
rises-lower : (low high : ℕ) (ms : List Mark) → low ≤ high → RisesFrom high ms → RisesFrom low ms
rises-lower low high [] le rises = tt
rises-lower low high (m ∷ ms) le rises = let first = rises.0 in (omega (arith, first, le), rises.1)

rises-filter : (p : Mark → Bool) (low : ℕ) (ms : List Mark) → RisesFrom low ms → RisesFrom low (filter p ms)
rises-filter p low [] rises = tt
rises-filter p low (m ∷ ms) rises =
    let rest = rises-filter p m.stamp ms rises.1 in
    let first = rises.0 in
    cond_both (p m) (m ∷ filter p ms) (filter p ms) (RisesFrom low) (λ _. (first, rest)) (λ _. rises-lower low m.stamp (filter p ms) (omega (arith, first)) rest)

-- every stamp of it is above that number
pub rises-all : (low : ℕ) (ms : List Mark) (m : Mark) → RisesFrom low ms → Has m ms → low < m.stamp
rises-all low [] m rises has = absurd has
rises-all low (x ∷ ms) m rises has =
    ⊎_elim
    (λ (e : x ≡ m). subst (λ (y : Mark). low < y.stamp) e rises.0)
    (λ t. let rest = rises-all x.stamp ms m rises.1 t in let first = rises.0 in omega (arith, rest, first))
    has

-- and no mark of it stands in both parts
pub rises-apart : (low : ℕ) (xs ys : List Mark) (m : Mark) → RisesFrom low (xs ++ ys) → Has m xs → Has m ys → ⊥
rises-apart low [] ys m rises one other = one
rises-apart low (x ∷ xs) ys m rises one other =
    ⊎_elim
    (λ (e : x ≡ m). let above = rises-all x.stamp (xs ++ ys) m rises.1 (has-right m xs ys other) in let same = ap (λ (y : Mark). y.stamp) e in absurd (omega (arith, above, same)))
    (λ t. rises-apart x.stamp xs ys m rises.1 t other)
    one

-- of two rising lists, where the marks of the first stand in the second, they appear there in their order
rising-appear : (low : ℕ) (xs ys : List Mark) → RisesFrom low xs → RisesFrom low ys → ((m : Mark) → Has m xs → Has m ys) → AppearIn xs ys
rising-appear low [] ys one other all = tt
rising-appear low (x ∷ xs) [] one other all = all x (inl refl)
rising-appear low (x ∷ xs) (y ∷ ys) one other all =
    ⊎_elim
    (λ (e : y ≡ x). inl (
      e,
      rising-appear y.stamp xs ys (subst (λ (z : Mark). RisesFrom z.stamp xs) (sym e) one.1) other.1
          (λ m has. ⊎_elim
          (λ (is : y ≡ m). let above = rises-all x.stamp xs m one.1 has in let same = ap (λ (z : Mark). z.stamp) (sym is ∙ e) in absurd (omega (arith, above, same)))
          (λ t. t)
          (all m (inr has))),
    ))
    (λ there. let before = rises-all y.stamp ys x other.1 there in inr (rising-appear y.stamp (x ∷ xs) ys (before, one.1) other.1
    (λ m has. ⊎_elim
    (λ (is : y ≡ m).
    let same = ap (λ (z : Mark). z.stamp) is in
    ⊎_elim
    (λ (e : x ≡ m). let also = ap (λ (z : Mark). z.stamp) e in absurd (omega (arith, before, same, also)))
    (λ t. let above = rises-all x.stamp xs m one.1 t in absurd (omega (arith, before, same, above)))
    has)
    (λ t. t)
    (all m has))))
    (all x (inl refl))

-- ---- the longer of two lists

pub longer-both : (P : List Mark → Type 0) (xs ys : List Mark) → P xs → P ys → P (longer xs ys)
longer-both P xs ys one other = cond_both (nat_lt (length ys) (length xs)) xs ys P (λ _. one) (λ _. other)

-- the longer of the whole and of a beginning is the whole
pub longer-whole : (list xs ys : List Mark) → xs ≡ list → IsPrefix ys list → longer xs ys ≡ list
longer-whole list xs ys whole begins =
    cond_both (nat_lt (length ys) (length xs)) xs ys (λ l. l ≡ list) (λ _. whole)
    (λ no. let le : length xs ≤ length ys = ltb-false (length ys) (length xs) no in prefix-whole ys list begins (omega (arith, le, ap length whole)))

-- the longer of a beginning and of the whole is the whole
pub longer-other : (list xs ys : List Mark) → ys ≡ list → IsPrefix xs list → longer xs ys ≡ list
longer-other list xs ys whole begins =
    cond_both (nat_lt (length ys) (length xs)) xs ys (λ l. l ≡ list)
    (λ less. let le = prefix_length xs list begins in let lt : length ys < length xs = ltb-true (length ys) (length xs) less in let same = ap length whole in absurd (omega (arith, lt, le, same)))
    (λ _. whole)

-- where the first begins the second, the longer is the second
pub longer-second : (xs ys : List Mark) → IsPrefix xs ys → longer xs ys ≡ ys
longer-second xs ys begins =
    cond_both (nat_lt (length ys) (length xs)) xs ys (λ l. l ≡ ys)
    (λ less. let le = prefix_length xs ys begins in let lt : length ys < length xs = ltb-true (length ys) (length xs) less in absurd (omega arith))
    (λ _. refl)

-- ---- draws

pub numbered-append : (n : ℕ) (ds : List Drawn) (d : Drawn) → Numbered n ds → d.mark.stamp ≡ suc (n + length ds) → Numbered n (ds ++ d ∷ [])
numbered-append n [] d numbered is = (omega arith, tt)
numbered-append n (x ∷ ds) d numbered is = (numbered.0, numbered-append (suc n) ds d numbered.1 (omega arith))

-- numbered draws rise, and so do those of an actor and those of a filter
pub numbered-rise : (n : ℕ) (ds : List Drawn) → Numbered n ds → RisesFrom n (drawn_marks ds)
numbered-rise n [] numbered = tt
numbered-rise n (d ∷ ds) numbered = let is = numbered.0 in (omega (arith, is), subst (λ k. RisesFrom k (drawn_marks ds)) (sym is) (numbered-rise (suc n) ds numbered.1))

pub draws-filter : (p : Drawn → Bool) (low : ℕ) (ds : List Drawn) → RisesFrom low (drawn_marks ds) → RisesFrom low (drawn_marks (filter p ds))
draws-filter p low [] rises = tt
draws-filter p low (d ∷ ds) rises =
    let rest = draws-filter p d.mark.stamp ds rises.1 in
    let first = rises.0 in
    cond_both (p d) (d ∷ filter p ds) (filter p ds) (λ xs. RisesFrom low (drawn_marks xs)) (λ _. (first, rest)) (λ _. rises-lower low d.mark.stamp (drawn_marks (filter p ds)) (omega (arith, first)) rest)

has-mark : (d : Drawn) (ds : List Drawn) → Has d ds → Has d.mark (drawn_marks ds)
has-mark d [] has = absurd has
has-mark d (x ∷ ds) has = ⊎_elim (λ (e : x ≡ d). inl (ap (λ (y : Drawn). y.mark) e)) (λ t. inr (has-mark d ds t)) has

-- two draws with one stamp are the same
pub same-stamp : (low : ℕ) (ds : List Drawn) (d e : Drawn) → RisesFrom low (drawn_marks ds) → Has d ds → Has e ds → d.mark.stamp ≡ e.mark.stamp → d ≡ e
same-stamp low [] d e rise one other is = absurd one
same-stamp low (x ∷ ds) d e rise one other is =
    ⊎_elim
    (λ (d_is : x ≡ d). ⊎_elim
    (λ (e_is : x ≡ e). sym d_is ∙ e_is)
    (λ t. let above = rises-all x.mark.stamp (drawn_marks ds) e.mark rise.1 (has-mark e ds t) in let same = ap (λ (y : Drawn). y.mark.stamp) d_is in absurd (omega (arith, above, same, is)))
    other)
    (λ u. ⊎_elim
    (λ (e_is : x ≡ e). let above = rises-all x.mark.stamp (drawn_marks ds) d.mark rise.1 (has-mark d ds u) in let same = ap (λ (y : Drawn). y.mark.stamp) e_is in absurd (omega (arith, above, same, is)))
    (λ t. same-stamp x.mark.stamp ds d e rise.1 u t is)
    other)
    one

-- where each actor's stamps rise, no stamp stands twice
pub no-twice : (ds : List Drawn) → ((a : ℕ) → StampsRise (drawn_marks (of_actor a ds))) → ((d e : Drawn) → Has d ds → Has e ds → d.mark.stamp ≡ e.mark.stamp → d ≡ e) → NoTwice ds
no-twice [] rise one = tt
no-twice (d ∷ ds) rise one =
    let a = actor_number d.mark.actor in
    let here : StampsRise (drawn_marks (d ∷ of_actor a ds)) = subst (λ b. StampsRise (drawn_marks (cond b (d ∷ of_actor a ds) (of_actor a ds)))) (eq-eqb a a refl) (rise a) in (
      has-each (λ (e : Drawn). e.mark.stamp ≡ d.mark.stamp → ⊥) ds
          (λ e has is.
          let same : e ≡ d = one e d (inr has) (inl refl) is in
          let among : Has e (of_actor a ds) = has-passed (by_actor a) e ds (eq-eqb (actor_number e.mark.actor) a (ap (λ (x : Drawn). actor_number x.mark.actor) same)) has in
          let above = rises-all d.mark.stamp (drawn_marks (of_actor a ds)) e.mark here.1 (has-mark e (of_actor a ds) among) in
          omega (arith, above, is)),
      no-twice ds
          (λ b. cond_both (by_actor b d) (d ∷ of_actor b ds) (of_actor b ds) (λ l. StampsRise (drawn_marks l) → StampsRise (drawn_marks (of_actor b ds))) (λ _ r. rises-lower 0 d.mark.stamp (drawn_marks (of_actor b ds)) (omega arith) r.1) (λ _ r. r) (rise b))
          (λ x y hx hy. one x y (inr hx) (inr hy)),
    )

-- one draw more, with another stamp than all before
pub no-twice-more : (ds : List Drawn) (d : Drawn) → NoTwice ds → Each (λ (e : Drawn). e.mark.stamp ≡ d.mark.stamp → ⊥) ds → NoTwice (ds ++ d ∷ [])
no-twice-more [] d once new = (tt, tt)
no-twice-more (x ∷ ds) d once new = (Each-append (λ (e : Drawn). e.mark.stamp ≡ x.mark.stamp → ⊥) ds (d ∷ []) once.0 ((λ is. new.0 (sym is)), tt), no-twice-more ds d once.1 new.1)

-- the marks of an actor in a link's list are those that it has drawn for the link, in their order
pub in-their-order : (a l : ℕ) (list : List Mark) (ds : List Drawn) → StampsRise list → StampsRise (drawn_marks (of_actor a ds)) → ((m : Mark) → Has m list → actor_number m.actor ≡ a → Has (drawn_for l m) ds)
    → AppearIn (marks_of a list) (for_link l (of_actor a ds))
in-their-order a l list ds rises drawn own =
    rising-appear 0 (marks_of a list) (for_link l (of_actor a ds)) (rises-filter (λ (m : Mark). eqb (actor_number m.actor) a) 0 list rises) (draws-filter (λ (d : Drawn). eqb d.link l) 0 (of_actor a ds) drawn)
    (λ m has.
    let is = passes-test (λ (x : Mark). eqb (actor_number x.actor) a) m list has in
    let there = own m (has-kept (λ (x : Mark). eqb (actor_number x.actor) a) m list has) (eqb-true (actor_number m.actor) a is) in
    has-mark (drawn_for l m) (filter (λ (d : Drawn). eqb d.link l) (of_actor a ds))
    (has-passed (λ (d : Drawn). eqb d.link l) (drawn_for l m) (of_actor a ds) (eq-eqb l l refl) (has-passed (by_actor a) (drawn_for l m) ds is there)))

-- ---- counts by actor

unfoldable sum_below : ℕ → (ℕ → ℕ) → ℕ
sum_below zero f = 0
sum_below (suc n) f = f n + sum_below n f

sum-same : (n : ℕ) (f g : ℕ → ℕ) → ((a : ℕ) → a < n → g a ≡ f a) → sum_below n g ≡ sum_below n f
unfolding sum_below
sum-same zero f g same = refl
sum-same (suc n) f g same = let here = same n (omega arith) in let rest = sum-same n f g (λ a lt. same a (omega arith)) in omega (arith, here, rest)

sum-one_more : (n x : ℕ) (f g : ℕ → ℕ) → x < n → g x ≡ suc (f x) → ((a : ℕ) → (a ≡ x → ⊥) → g a ≡ f a) → sum_below n g ≡ suc (sum_below n f)
unfolding sum_below
sum-one_more zero x f g lt more same = absurd (omega arith)
sum-one_more (suc n) x f g lt more same =
    ⊎_elim
    (λ (e : n ≡ x). let rest = sum-same n f g (λ a lt'. same a (λ i. absurd (omega arith))) in let here : g n ≡ suc (f n) = subst (λ k. g k ≡ suc (f k)) (sym e) more in omega (arith, here, rest))
    (λ other. let rest = sum-one_more n x f g (omega arith) more same in let here = same n other in omega (arith, here, rest))
    (cases_eq n x)

sum-most : (n k : ℕ) (f : ℕ → ℕ) → ((a : ℕ) → f a ≤ k) → sum_below n f ≤ n * k
unfolding sum_below
sum-most zero k f most = omega arith
sum-most (suc n) k f most = let here = most n in let rest = sum-most n k f most in omega (arith, here, rest, suc-mul n k)

actor-small : (d : Drawn) → actor_number d.mark.actor < 65
actor-small d = d.mark.actor.small

sum-none : (n : ℕ) → sum_below n (λ a. 0) ≡ 0
unfolding sum_below
sum-none zero = refl
sum-none (suc n) = let rest = sum-none n in omega (arith, rest)

counted : (ds : List Drawn) → sum_below 65 (λ a. length (of_actor a ds)) ≡ length ds
counted [] = sum-none 65
counted (d ∷ ds) =
    sum-one_more 65 (actor_number d.mark.actor) (λ a. length (of_actor a ds)) (λ a. length (of_actor a (d ∷ ds))) (actor-small d)
    (cond_both (by_actor (actor_number d.mark.actor) d) (d ∷ of_actor (actor_number d.mark.actor) ds) (of_actor (actor_number d.mark.actor) ds) (λ l. length l ≡ suc (length (of_actor (actor_number d.mark.actor) ds))) (λ _. refl) (λ no. absurd (cc (no, eq-eqb (actor_number d.mark.actor) (actor_number d.mark.actor) refl))))
    (λ a other. cond_both (by_actor a d) (d ∷ of_actor a ds) (of_actor a ds) (λ l. length l ≡ length (of_actor a ds)) (λ on. absurd (other (sym (eqb-true (actor_number d.mark.actor) a on)))) (λ _. refl))
    ∙ ap suc (counted ds)

-- 65 actors that draw at most k marks each draw at most 65 k
pub most-drawn : (k : ℕ) (ds : List Drawn) → ((a : ℕ) → length (of_actor a ds) ≤ k) → length ds ≤ 65 * k
most-drawn k ds each = subst (λ n. n ≤ 65 * k) (counted ds) (sum-most 65 k (λ a. length (of_actor a ds)) each)
