-- Facts on lists: what stands in a list, in two put together and in what a filter passes, at which place, numbers that all
-- differ, and beginnings of a list.
use Rattle.std.proofs.Common.{◌≡◌, ◌⊎◌, ℕ, zero, suc, ◌≤◌, Bool, true, List, [], ◌∷◌, ◌++◌, length, Some, None, refl, sym, ap, ◌∙◌, subst, inl, inr, ⊎_elim, arith, append_assoc, length-append}
use Rattle.std.specs.Prelude.{take}
use Rattle.std.proofs.lemmas.Bool.{cond_both}
use Rattle.std.proofs.lemmas.List.{append-nil}
use Rattle.std.proofs.lemmas.Option.{same_Some}
use Rattle.std.specs.List.{filter, slice_get}
use mathlib.Core.List.{IsPrefix}
use Rattle.link_steps.specs.Lists.{Each}
use Rattle.step_stamp.specs.Lists.{Has, Differ}

module _ {X : Type 0} where
  pub has-left : (x : X) (xs ys : List X) → Has x xs → Has x (xs ++ ys)
  has-left x [] ys h = absurd h
  has-left x (y ∷ xs) ys h = ⊎_elim (λ e. inl e) (λ t. inr (has-left x xs ys t)) h

  pub has-right : (x : X) (xs ys : List X) → Has x ys → Has x (xs ++ ys)
  has-right x [] ys h = h
  has-right x (y ∷ xs) ys h = inr (has-right x xs ys h)

  pub has-prefix : (x : X) (xs ys : List X) → IsPrefix xs ys → Has x xs → Has x ys
  has-prefix x xs ys p h = subst (Has x) p.1 (has-left x xs p.0 h)

  pub each-has : (P : X → Type 0) (x : X) (xs : List X) → Each P xs → Has x xs → P x
  each-has P x [] each h = absurd h
  each-has P x (y ∷ xs) each h = ⊎_elim (λ (e : y ≡ x). subst P e each.0) (λ t. each-has P x xs each.1 t) h

  pub has-each : (P : X → Type 0) (xs : List X) → ((x : X) → Has x xs → P x) → Each P xs
  has-each P [] all = tt
  has-each P (x ∷ xs) all = (all x (inl refl), has-each P xs (λ y h. all y (inr h)))

  pub has-passed : (p : X → Bool) (x : X) (xs : List X) → p x ≡ true → Has x xs → Has x (filter p xs)
  has-passed p x [] on h = absurd h
  has-passed p x (y ∷ xs) on h =
      cond_both (p y) (y ∷ filter p xs) (filter p xs) (Has x)
      (λ _. ⊎_elim (λ (e : y ≡ x). inl e) (λ t. inr (has-passed p x xs on t)) h)
      (λ no. ⊎_elim (λ (e : y ≡ x). absurd (cc (sym (ap p e) ∙ no, on))) (λ t. has-passed p x xs on t) h)

  pub has-kept : (p : X → Bool) (x : X) (xs : List X) → Has x (filter p xs) → Has x xs
  has-kept p x [] = λ h. absurd h
  has-kept p x (y ∷ xs) =
      cond_both (p y) (y ∷ filter p xs) (filter p xs) (λ l. Has x l → Has x (y ∷ xs))
      (λ _ h. ⊎_elim (λ (e : y ≡ x). inl e) (λ t. inr (has-kept p x xs t)) h)
      (λ _ h. inr (has-kept p x xs h))

  pub begins-nothing : (xs : List X) → IsPrefix [] xs
  begins-nothing xs = (xs, refl)

  pub begins-itself : (xs : List X) → IsPrefix xs xs
  begins-itself xs = ([], append-nil xs)

  pub begins-then : (xs ys zs : List X) → IsPrefix xs ys → IsPrefix ys zs → IsPrefix xs zs
  begins-then xs ys zs one other = (one.0 ++ other.0, sym (append_assoc xs one.0 other.0) ∙ ap (λ w. w ++ other.0) one.1 ∙ other.1)

  pub begins-longer : (xs ys zs : List X) → IsPrefix xs ys → IsPrefix xs (ys ++ zs)
  begins-longer xs ys zs p = (p.0 ++ zs, sym (append_assoc xs p.0 zs) ∙ ap (λ w. w ++ zs) p.1)

pub has-split : {X : Type 0} (x : X) (xs ys : List X) → Has x (xs ++ ys) → Has x xs ⊎ Has x ys
has-split x [] ys h = inr h
has-split x (y ∷ xs) ys h = ⊎_elim (λ (e : y ≡ x). inl (inl e)) (λ t. ⊎_elim (λ in_xs. inl (inr in_xs)) (λ in_ys. inr in_ys) (has-split x xs ys t)) h

-- an element at a place stands in the list, and one that stands there has a place
pub get-has : {X : Type 0} (xs : List X) (k : ℕ) (x : X) → slice_get xs k ≡ Some x → Has x xs
get-has [] k x found = absurd (let clash : None ≡ Some x = found in cc)
get-has (y ∷ xs) zero x found = inl (same_Some y x found)
get-has (y ∷ xs) (suc k) x found = inr (get-has xs k x found)

pub has-get : {X : Type 0} (xs : List X) (x : X) → Has x xs → (k : ℕ) × (slice_get xs k ≡ Some x)
has-get [] x has = absurd has
has-get (y ∷ xs) x (inl is) = (0, ap Some is)
has-get (y ∷ xs) x (inr has) = (let rest = has-get xs x has in (suc rest.0, rest.1))

pub passes-test : {X : Type 0} (p : X → Bool) (x : X) (xs : List X) → Has x (filter p xs) → p x ≡ true
passes-test p x [] = λ h. absurd h
passes-test p x (y ∷ xs) =
    cond_both (p y) (y ∷ filter p xs) (filter p xs) (λ l. Has x l → p x ≡ true)
    (λ on h. ⊎_elim (λ (e : y ≡ x). sym (ap p e) ∙ on) (λ t. passes-test p x xs t) h)
    (λ _ h. passes-test p x xs h)

pub filter-none : {X : Type 0} (p : X → Bool) (xs : List X) → ((x : X) → Has x xs → p x ≡ true → ⊥) → filter p xs ≡ []
filter-none p [] none = refl
filter-none p (x ∷ xs) none =
    cond_both (p x) (x ∷ filter p xs) (filter p xs) (λ l. l ≡ []) (λ on. absurd (none x (inl refl) on)) (λ _. filter-none p xs (λ y has on. none y (inr has) on))

pub has-first : (a : ℕ) (xs : List ℕ) → take 1 xs ≡ a ∷ [] → Has a xs
has-first a [] e = absurd (cc e)
has-first a (x ∷ xs) e = inl (cc e)

-- ---- numbers that all differ: in what a filter passes, in two lists without a number in common, and the last one
pub differ-kept : (p : ℕ → Bool) (ns : List ℕ) → Differ ns → Differ (filter p ns)
differ-kept p [] differ = tt
differ-kept p (n ∷ ns) differ =
    cond_both (p n) (n ∷ filter p ns) (filter p ns) Differ (λ _. ((λ has. differ.0 (has-kept p n ns has)), differ-kept p ns differ.1)) (λ _. differ-kept p ns differ.1)

pub differ-both : (ms ns : List ℕ) → Differ ms → Differ ns → ((n : ℕ) → Has n ms → Has n ns → ⊥) → Differ (ms ++ ns)
differ-both [] ns one other apart = other
differ-both (m ∷ ms) ns one other apart = (
  (λ has. ⊎_elim (λ before. one.0 before) (λ after. apart m (inl refl) after) (has-split m ms ns has)),
  differ-both ms ns one.1 other (λ n before after. apart n (inr before) after),
)

pub differ-last : (n : ℕ) (ns : List ℕ) → Differ (ns ++ n ∷ []) → Has n ns → ⊥
differ-last n [] differ has = has
differ-last n (m ∷ ns) differ has = ⊎_elim (λ (e : m ≡ n). differ.0 (subst (λ k. Has k (ns ++ n ∷ [])) (sym e) (has-right n ns (n ∷ []) (inl refl)))) (λ rest. differ-last n ns differ.1 rest) has

pub prefix_length : {X : Type 0} (xs ys : List X) → IsPrefix xs ys → length xs ≤ length ys
prefix_length xs ys p = omega (arith, sym (ap length p.1) ∙ length-append xs p.0)

-- a beginning as long as the whole is the whole
pub prefix-whole : {X : Type 0} (xs ys : List X) → IsPrefix xs ys → length ys ≤ length xs → xs ≡ ys
prefix-whole [] [] p le = refl
prefix-whole [] (y ∷ ys) p le = absurd (omega arith)
prefix-whole (x ∷ xs) [] p le = absurd (cc (p.1))
prefix-whole (x ∷ xs) (y ∷ ys) p le = let rest = prefix-whole xs ys (p.0, cc (p.1)) (omega arith) in cc (p.1, rest)

-- two beginnings of one list
pub prefixes : {X : Type 0} (xs ys zs : List X) → IsPrefix xs zs → IsPrefix ys zs → IsPrefix xs ys ⊎ IsPrefix ys xs
prefixes [] ys zs p q = inl (begins-nothing ys)
prefixes (x ∷ xs) [] zs p q = inr (begins-nothing (x ∷ xs))
prefixes (x ∷ xs) (y ∷ ys) [] p q = absurd (cc (p.1))
prefixes (x ∷ xs) (y ∷ ys) (z ∷ zs) p q =
    let heads : x ≡ y = cc (p.1, q.1) in
    ⊎_elim
    (λ (r : IsPrefix xs ys). inl (r.0, cc (heads, r.1)))
    (λ (r : IsPrefix ys xs). inr (r.0, cc (heads, r.1)))
    (prefixes xs ys zs (p.0, cc (p.1)) (q.0, cc (q.1)))
