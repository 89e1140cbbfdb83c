-- What one element more makes of queues, and the first that goes.
use Rattle.std.proofs.Common.{◌≡◌, ℕ, zero, suc, ◌+◌, ◌<◌, List, [], ◌∷◌, ◌++◌, Option, Some, None, length, get_or, set, map, refl, sym, ap, ◌∙◌, subst, arith}
use Rattle.std.proofs.lemmas.List.{append_assoc, append-nil, length-append, map-append, map_push}
use Rattle.std.proofs.lemmas.List.Sorted.{IsPermutation-sym, IsPermutation-trans, IsPermutation-append_right, IsPermutation-middle, length_permutation}
use Rattle.link_server.proofs.Words.{IsPermutation, Each}
use Rattle.std.specs.Option.{option_map, option_to_list}
use Rattle.static_priority.specs.Queues.{head_from, left_of}
use Rattle.link_steps.proofs.SearchAndFilter.{Each-append}
use Rattle.link_steps.proofs.ListParts.{Each-parts}
use Rattle.link_server.specs.Queues.{joined, first_of, after_first, pushed}

module _ {X : Type 0} where
  -- ---- one more

  -- it is among the others
  pub joined-pushed : (queues : List (List X)) (place : ℕ) (x : X) → place < length queues → IsPermutation (x ∷ joined queues) (joined (pushed queues place x))
  joined-pushed [] place x inside = absurd (omega arith)
  joined-pushed (queue ∷ queues) zero x inside =
      subst (IsPermutation (x ∷ (queue ++ joined queues))) (sym (append_assoc queue (x ∷ []) (joined queues))) (IsPermutation-sym _ _ (IsPermutation-middle queue x (joined queues)))
  joined-pushed (queue ∷ queues) (suc place) x inside =
      IsPermutation-trans (x ∷ (queue ++ joined queues)) (queue ++ x ∷ joined queues) (queue ++ joined (pushed queues place x)) (IsPermutation-sym _ _ (IsPermutation-middle queue x (joined queues)))
      (IsPermutation-append_right queue _ _ (joined-pushed queues place x (omega arith)))

  pub Each-pushed : (P : X → Type 0) (queues : List (List X)) (place : ℕ) (x : X) → P x → Each P (joined queues) → Each P (joined (pushed queues place x))
  Each-pushed P [] place x here each = tt
  Each-pushed P (queue ∷ queues) zero x here each =
      let parts = Each-parts P queue (joined queues) each in
      Each-append P (queue ++ x ∷ []) (joined queues) (Each-append P queue (x ∷ []) parts.0 (here, tt)) parts.1
  Each-pushed P (queue ∷ queues) (suc place) x here each =
      let parts = Each-parts P queue (joined queues) each in
      Each-append P queue (joined (pushed queues place x)) parts.0 (Each-pushed P queues place x here parts.1)

  pub length-pushed : (queues : List (List X)) (place : ℕ) (x : X) → length (pushed queues place x) ≡ length queues
  length-pushed [] place x = refl
  length-pushed (queue ∷ queues) zero x = refl
  length-pushed (queue ∷ queues) (suc place) x = ap suc (length-pushed queues place x)

  -- it is the queue at the place that is written anew
  pub pushed-is : (queues : List (List X)) (place : ℕ) (x : X) → set queues place (get_or queues place [] ++ x ∷ []) ≡ pushed queues place x
  pushed-is [] place x = refl
  pushed-is (queue ∷ queues) zero x = refl
  pushed-is (queue ∷ queues) (suc place) x = ap (λ (later : List (List X)). queue ∷ later) (pushed-is queues place x)

  pub length-joined-pushed : (queues : List (List X)) (place : ℕ) (x : X) → place < length queues → length (joined (pushed queues place x)) ≡ length (joined queues) + 1
  length-joined-pushed queues place x inside = let same = length_permutation _ _ (joined-pushed queues place x inside) in omega (arith, same)

  pub length-joined-last : (queues : List (List X)) (last : List X) → length (joined (queues ++ last ∷ [])) ≡ length (joined queues) + length last
  length-joined-last [] last = let same = ap length (append-nil last) in omega (arith, same)
  length-joined-last (queue ∷ queues) last =
      let rest = length-joined-last queues last in
      let all = length-append queue (joined (queues ++ last ∷ [])) in
      let first = length-append queue (joined queues) in
      omega (arith, rest, all, first)

  -- in one of the first queues, or in the last one
  pub pushed-front : (queues more : List (List X)) (place : ℕ) (x : X) → place < length queues → pushed (queues ++ more) place x ≡ pushed queues place x ++ more
  pushed-front [] more place x inside = absurd (omega arith)
  pushed-front (queue ∷ queues) more zero x inside = refl
  pushed-front (queue ∷ queues) more (suc place) x inside = ap (λ (later : List (List X)). queue ∷ later) (pushed-front queues more place x (omega arith))

  pub pushed-last : (queues : List (List X)) (last : List X) (place : ℕ) (x : X) → place ≡ length queues → pushed (queues ++ last ∷ []) place x ≡ queues ++ (last ++ x ∷ []) ∷ []
  pushed-last [] last zero x at = refl
  pushed-last [] last (suc place) x at = absurd (omega (arith, at))
  pushed-last (queue ∷ queues) last zero x at = absurd (omega (arith, at))
  pushed-last (queue ∷ queues) last (suc place) x at = ap (λ (later : List (List X)). queue ∷ later) (pushed-last queues last place x (omega (arith, at)))

  -- it goes from the one list to the queues
  pub moved-between : (before after : List X) (queues : List (List X)) (place : ℕ) (x : X) → place < length queues → IsPermutation ((before ++ x ∷ after) ++ joined queues) ((before ++ after) ++ joined (pushed queues place x))
  moved-between before after queues place x inside =
      let out : IsPermutation ((before ++ x ∷ after) ++ joined queues) (x ∷ ((before ++ after) ++ joined queues)) =
      rw (append_assoc before (x ∷ after) (joined queues), append_assoc before after (joined queues)) (IsPermutation-middle before x (after ++ joined queues)) in
      IsPermutation-trans _ _ _ out
      (IsPermutation-trans _ _ _ (IsPermutation-sym _ _ (IsPermutation-middle (before ++ after) x (joined queues))) (IsPermutation-append_right (before ++ after) _ _ (joined-pushed queues place x inside)))

  -- it comes before the queues
  pub comes-before : (xs : List X) (x : X) (more : List X) → IsPermutation (x ∷ (xs ++ more)) ((xs ++ x ∷ []) ++ more)
  comes-before xs x more = rw (append_assoc xs (x ∷ []) more) (IsPermutation-sym _ _ (IsPermutation-middle xs x more))

  -- it comes into one of the queues
  pub comes-into : (xs : List X) (queues : List (List X)) (place : ℕ) (x : X) → place < length queues → IsPermutation (x ∷ (xs ++ joined queues)) (xs ++ joined (pushed queues place x))
  comes-into xs queues place x inside =
      IsPermutation-trans (x ∷ (xs ++ joined queues)) (xs ++ x ∷ joined queues) (xs ++ joined (pushed queues place x)) (IsPermutation-sym _ _ (IsPermutation-middle xs x (joined queues)))
      (IsPermutation-append_right xs _ _ (joined-pushed queues place x inside))

  -- ---- the first

  pub joined-first : (queues : List (List X)) (x : X) → first_of queues ≡ Some x → joined queues ≡ x ∷ joined (after_first queues)
  joined-first [] x first = absurd (cc)
  joined-first ([] ∷ queues) x first = joined-first queues x first
  joined-first ((y ∷ queue) ∷ queues) x first = ap (λ (z : X). z ∷ (queue ++ joined queues)) (same-Some first) where
    same-Some : Some y ≡ Some x → y ≡ x
    same-Some same = cc

  pub joined-none : (queues : List (List X)) → first_of queues ≡ None → joined queues ≡ []
  joined-none [] none = refl
  joined-none ([] ∷ queues) none = joined-none queues none
  joined-none ((y ∷ queue) ∷ queues) none = absurd (cc)

  pub after-none : (queues : List (List X)) → first_of queues ≡ None → after_first queues ≡ queues
  after-none [] none = refl
  after-none ([] ∷ queues) none = ap (λ (later : List (List X)). [] ∷ later) (after-none queues none)
  after-none ((y ∷ queue) ∷ queues) none = absurd (cc)

  -- where one of the first queues has it, or only the last one
  pub first-front : (queues more : List (List X)) (x : X) → first_of queues ≡ Some x → (first_of (queues ++ more) ≡ Some x) × (after_first (queues ++ more) ≡ after_first queues ++ more)
  first-front [] more x first = absurd (cc)
  first-front ([] ∷ queues) more x first = let rest = first-front queues more x first in (rest.0, ap (λ (later : List (List X)). [] ∷ later) rest.1)
  first-front ((y ∷ queue) ∷ queues) more x first = (first, refl)

  pub first-last : (queues : List (List X)) (last : List (List X)) → first_of queues ≡ None → (first_of (queues ++ last) ≡ first_of last) × (after_first (queues ++ last) ≡ queues ++ after_first last)
  first-last [] last none = (refl, refl)
  first-last ([] ∷ queues) last none = let rest = first-last queues last none in (rest.0, ap (λ (later : List (List X)). [] ∷ later) rest.1)
  first-last ((y ∷ queue) ∷ queues) last none = absurd (cc)

  pub length-after : (queues : List (List X)) → length (after_first queues) ≡ length queues
  length-after [] = refl
  length-after ([] ∷ queues) = ap suc (length-after queues)
  length-after ((y ∷ queue) ∷ queues) = refl

  -- a queue alone has lost its head, if it had one
  pub popped : (old new : List X) (result : Option X) → old ≡ option_to_list result ++ new → (result ≡ None → length old ≡ 0) → (result ≡ first_of (old ∷ [])) × (new ∷ [] ≡ after_first (old ∷ []))
  popped [] new None is none = (refl, ap (λ (queue : List X). queue ∷ []) (sym is))
  popped (x ∷ old) new None is none = absurd (let empty = none refl in omega (arith, empty))
  popped [] new (Some y) is none = absurd (cc)
  popped (x ∷ old) new (Some y) is none = (cc, cc)

-- ---- the first as the queues of the levels tell it

pub head-some : (level : ℕ) (queues : List (List ℕ)) (n key : ℕ) → Some (n, key) ≡ head_from level queues → first_of queues ≡ Some key
unfolding head_from
head-some level [] n key head = absurd (cc)
head-some level ([] ∷ queues) n key head = head-some (level + 1) queues n key head
head-some level ((y ∷ queue) ∷ queues) n key head = sym (ap (λ (found : Option (ℕ × ℕ)). option_map (λ picked. picked.1) found) head)

pub head-none : (level : ℕ) (queues : List (List ℕ)) → None ≡ head_from level queues → first_of queues ≡ None
unfolding head_from
head-none level [] head = refl
head-none level ([] ∷ queues) head = head-none (level + 1) queues head
head-none level ((y ∷ queue) ∷ queues) head = absurd (cc)

pub left-after : (queues : List (List ℕ)) → left_of queues ≡ after_first queues
unfolding left_of
left-after [] = refl
left-after ([] ∷ queues) = ap (λ (later : List (List ℕ)). [] ∷ later) (left-after queues)
left-after ((y ∷ queue) ∷ queues) = refl

-- ---- what stands for the elements

module _ {X Y : Type 0} (f : X → Y) where
  pub joined-map : (queues : List (List X)) → joined (map (map f) queues) ≡ map f (joined queues)
  joined-map [] = refl
  joined-map (queue ∷ queues) = ap (λ (ys : List Y). map f queue ++ ys) (joined-map queues) ∙ sym (map-append f queue (joined queues))

  pub pushed-map : (queues : List (List X)) (place : ℕ) (x : X) → map (map f) (pushed queues place x) ≡ pushed (map (map f) queues) place (f x)
  pushed-map [] place x = refl
  pushed-map (queue ∷ queues) zero x = ap (λ (first : List Y). first ∷ map (map f) queues) (map_push f queue x)
  pushed-map (queue ∷ queues) (suc place) x = ap (λ (later : List (List Y)). map f queue ∷ later) (pushed-map queues place x)

  pub after-map : (queues : List (List X)) → map (map f) (after_first queues) ≡ after_first (map (map f) queues)
  after-map [] = refl
  after-map ([] ∷ queues) = ap (λ (later : List (List Y)). [] ∷ later) (after-map queues)
  after-map ((x ∷ queue) ∷ queues) = refl

  pub first-map : (queues : List (List X)) (x : X) → first_of queues ≡ Some x → first_of (map (map f) queues) ≡ Some (f x)
  first-map [] x first = absurd (cc)
  first-map ([] ∷ queues) x first = first-map queues x first
  first-map ((y ∷ queue) ∷ queues) x first = cc
