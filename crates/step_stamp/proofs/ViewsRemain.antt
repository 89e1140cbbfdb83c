-- A view of which something holds is still there, at its number or at the one to which that was moved, through each change of
-- the views.
use Rattle.std.proofs.Common.{◌≡◌, ℕ, zero, suc, eqb, ◌<◌, cond, List, [], ◌∷◌, ◌++◌, length, set, refl, sym, ap, ◌∙◌, subst, ⊎_elim, arith}
use Rattle.std.proofs.lemmas.Bool.{cond_both, cases_eq, eq-eqb, eqb-true}
use mathlib.Core.Option.{some, some-ne-none, some-injective}
use lib.ListN.{get_elem?}
use Rattle.atomic_table.proofs.Lists.{set_here, set_else, at_longer, at_last}
use Rattle.step_stamp.specs.declared.views.View.{View}
use Rattle.step_stamp.specs.Rule.{Stands}
use Rattle.step_stamp.specs.Views.{nobody}

at-inside : (views : List View) (id : ℕ) (v : View) → get_elem? views id ≡ some v → id < length views
at-inside [] id v at = absurd (some-ne-none v (sym at))
at-inside (x ∷ views) zero v at = omega arith
at-inside (x ∷ views) (suc id) v at = let rest = at-inside views id v at in omega (arith, rest)

pub length-set : (views : List View) (id : ℕ) (w : View) → length (set views id w) ≡ length views
length-set [] id w = refl
length-set (x ∷ views) zero w = refl
length-set (x ∷ views) (suc id) w = ap suc (length-set views id w)

module _ (P : View → Type 0) where
  -- where one view changes, of which it holds still if it held
  pub stands-set : (views : List View) (id by : ℕ) (v w : View) → get_elem? views id ≡ some v → (P v → P w) → Stands views by P → Stands (set views id w) by P
  stands-set views id by v w at keeps s = ⊎_elim
      (λ (e : by ≡ id). record {
        view = w;
        found = subst (λ k. get_elem? (set views id w) k ≡ some w) (sym e) (set_here views id w (at-inside views id v at));
        fact = keeps (subst P (some-injective s.view v (sym (subst (λ k. get_elem? views k ≡ some s.view) e s.found) ∙ at)) s.fact);
      })
      (λ other. record { view = s.view; found = set_else views id by w other ∙ s.found; fact = s.fact })
      (cases_eq by id)

  -- with a new view, and of that one
  pub stands-more : (views : List View) (by : ℕ) (w : View) → Stands views by P → Stands (views ++ w ∷ []) by P
  stands-more views by w s = record { view = s.view; found = at_longer views (w ∷ []) by s.view s.found; fact = s.fact }

  pub stands-end : (views : List View) (n : ℕ) (w : View) → length views ≡ n → P w → Stands (views ++ w ∷ []) n P
  stands-end views n w long fact = record { view = w; found = at_last views w n long; fact = fact }

  -- where a view is cut in two
  pub stands-cut : (views : List View) (id by : ℕ) (v left right : View) → get_elem? views id ≡ some v → (P v → P left) → Stands views by P → Stands (set views id left ++ right ∷ []) by P
  stands-cut views id by v left right at keeps s = stands-more (set views id left) by right (stands-set views id by v left at keeps s)

  -- where a view of which it doesn't hold is put together with another
  pub stands-joined : (views : List View) (id other by : ℕ) (v w both : View) → get_elem? views id ≡ some v → get_elem? (set views id both) other ≡ some w → (P v → P both) → (P w → ⊥)
      → Stands views by P → Stands (set (set views id both) other nobody) by P
  stands-joined views id other by v w both at there keeps none s = stands-set (set views id both) other by w nobody there (λ h. absurd (none h)) (stands-set views id by v both at keeps s)

  -- where two views are put together, and the other's is this one's then
  pub stands-moved : (views : List View) (id other by : ℕ) (v w both : View) → get_elem? views id ≡ some v → (other ≡ id → ⊥) → get_elem? (set views id both) other ≡ some w → (P v → P both) → (P w → P both)
      → Stands views by P → Stands (set (set views id both) other nobody) (cond (eqb by other) id by) P
  stands-moved views id other by v w both at apart there keeps brings s =
      let here : get_elem? (set (set views id both) other nobody) id ≡ some both = set_else (set views id both) other id nobody (λ e. apart (sym e)) ∙ set_here views id both (at-inside views id v at) in
      cond_both (eqb by other) id by (λ k. Stands (set (set views id both) other nobody) k P)
      (λ on.
      let e = eqb-true by other on in
      let was : get_elem? views other ≡ some w = sym (set_else views id other both apart) ∙ there in
      record { view = both; found = here; fact = brings (subst P (some-injective s.view w (sym (subst (λ k. get_elem? views k ≡ some s.view) e s.found) ∙ was)) s.fact) })
      (λ off.
      let first = stands-set views id by v both at keeps s in
      record { view = first.view; found = set_else (set views id both) other by nobody (λ e. absurd (cc (off, eq-eqb by other e))) ∙ first.found; fact = first.fact })
