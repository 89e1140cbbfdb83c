-- Where marks stand, through each change of the views: hands stay as they are, a hand goes to a new view, a mark is drawn
-- into a hand, and a mark goes from a hand into its link's list.
use Rattle.std.proofs.Common.{◌≡◌, ℕ, zero, suc, eqb, ◌+◌, ◌≤◌, cond, List, [], ◌∷◌, ◌++◌, length, set, refl, sym, ap, ◌∙◌, subst, inl, inr, ⊎_elim, arith}
use Rattle.std.proofs.lemmas.Bool.{cond_both, cases_eq, eq-eqb, eqb-true}
use mathlib.Core.Option.{some, some-ne-none, some-injective}
use lib.ListN.{get_elem?}
use Rattle.link_steps.specs.Lists.{Each}
use Rattle.link_steps.proofs.SearchAndFilter.{Each-if, Each-append}
use Rattle.step_stamp.specs.declared.marks.Drawn.{Drawn}
use Rattle.step_stamp.specs.declared.marks.Mark.{Mark}
use Rattle.step_stamp.specs.declared.views.View.{View}
use Rattle.step_stamp.specs.Lists.{Has}
use Rattle.step_stamp.specs.Marks.{drawn_for, Numbered}
use Rattle.step_stamp.specs.Placing.{hand_at, IsPlaced, Placed}
use Rattle.step_stamp.proofs.ListMembers.{has-left, has-right, has-split, each-has, has-each}

-- ---- hands after a change of one view, and with a new one

pub hand-was : (views : List View) (id : ℕ) (v : View) → get_elem? views id ≡ some v → hand_at views id ≡ v.hand
unfolding hand_at
hand-was [] id v at = absurd (some-ne-none v (sym at))
hand-was (x ∷ views) zero v at = ap (λ (y : View). y.hand) (some-injective x v at)
hand-was (x ∷ views) (suc id) v at = hand-was views id v at

pub hand-here : (views : List View) (id : ℕ) (v w : View) → get_elem? views id ≡ some v → hand_at (set views id w) id ≡ w.hand
unfolding hand_at
hand-here [] id v w at = absurd (some-ne-none v (sym at))
hand-here (x ∷ views) zero v w at = refl
hand-here (x ∷ views) (suc id) v w at = hand-here views id v w at

pub hand-else : (views : List View) (id : ℕ) (w : View) (k : ℕ) → (k ≡ id → ⊥) → hand_at (set views id w) k ≡ hand_at views k
unfolding hand_at
hand-else [] id w k other = refl
hand-else (x ∷ views) zero w zero other = absurd (other refl)
hand-else (x ∷ views) zero w (suc k) other = refl
hand-else (x ∷ views) (suc id) w zero other = refl
hand-else (x ∷ views) (suc id) w (suc k) other = hand-else views id w k (λ e. other (ap suc e))

pub hand-set : (views : List View) (id : ℕ) (v w : View) → get_elem? views id ≡ some v → w.hand ≡ v.hand → (k : ℕ) → hand_at (set views id w) k ≡ hand_at views k
hand-set views id v w at same k =
    ⊎_elim
    (λ (e : k ≡ id). subst (λ n. hand_at (set views id w) n ≡ hand_at views n) (sym e) (hand-here views id v w at ∙ same ∙ sym (hand-was views id v at)))
    (λ other. hand-else views id w k other)
    (cases_eq k id)

pub no-hand : (k : ℕ) → hand_at [] k ≡ []
unfolding hand_at
no-hand k = refl

pub hand-more : (views : List View) (w : View) → w.hand ≡ [] → (k : ℕ) → hand_at (views ++ w ∷ []) k ≡ hand_at views k
unfolding hand_at
hand-more [] w none zero = none
hand-more [] w none (suc k) = refl
hand-more (x ∷ views) w none zero = refl
hand-more (x ∷ views) w none (suc k) = hand-more views w none k

pub hand-before : (views : List View) (w : View) (k : ℕ) → (k ≡ length views → ⊥) → hand_at (views ++ w ∷ []) k ≡ hand_at views k
unfolding hand_at
hand-before [] w zero other = absurd (other refl)
hand-before [] w (suc k) other = refl
hand-before (x ∷ views) w zero other = refl
hand-before (x ∷ views) w (suc k) other = hand-before views w k (λ e. other (ap suc e))

pub hand-end : (views : List View) (w : View) → hand_at (views ++ w ∷ []) (length views) ≡ w.hand
unfolding hand_at
hand-end [] w = refl
hand-end (x ∷ views) w = hand-end views w

pub hand-beyond : (views : List View) → hand_at views (length views) ≡ []
unfolding hand_at
hand-beyond [] = refl
hand-beyond (x ∷ views) = hand-beyond views

pub at-short : (views : List View) (id : ℕ) (v : View) → get_elem? views id ≡ some v → id ≡ length views → ⊥
at-short [] id v at e = some-ne-none v (sym at)
at-short (x ∷ views) zero v at e = omega (arith, e)
at-short (x ∷ views) (suc id) v at e = at-short views id v at (omega (arith, e))

-- ---- places

at-true : {X : Type 0} (a b : ℕ) (x y : X) → a ≡ b → cond (eqb a b) x y ≡ x
at-true a b x y is = ap (λ t. cond t x y) (eq-eqb a b is)

at-false : {X : Type 0} (a b : ℕ) (x y : X) → (a ≡ b → ⊥) → cond (eqb a b) x y ≡ y
at-false a b x y other = cond_both (eqb a b) x y (λ z. z ≡ y) (λ on. absurd (other (eqb-true a b on))) (λ _. refl)

-- all hands stay
pub placed-same : (draws : List Drawn) (log : ℕ → List Mark) (hands now : ℕ → List Drawn) → ((k : ℕ) → now k ≡ hands k) → Placed draws log hands → Placed draws log now
placed-same draws log hands now same p = record {
  place = p.place;
  in_hand = λ k. subst (Each (λ (d : Drawn). Has d draws × (p.place d.mark.stamp ≡ suc k))) (sym (same k)) (p.in_hand k);
  entered = p.entered;
  stands = λ d has. ⊎_elim
      (λ (t : (p.place d.mark.stamp ≡ 0) × Has d.mark (log d.link)). inl t)
      (λ (t : (k : ℕ) × (p.place d.mark.stamp ≡ suc k) × Has d (hands k)). inr (t.0, t.1, subst (Has d) (sym (same t.0)) t.2))
      (p.stands d has);
}

-- all that is in hand at a goes to b, where nothing was
pub placed-moved : (draws : List Drawn) (log : ℕ → List Mark) (hands now : ℕ → List Drawn) (a b : ℕ) → (a ≡ b → ⊥) → hands b ≡ [] → now b ≡ hands a → now a ≡ [] → ((k : ℕ) → (k ≡ a → ⊥) → (k ≡ b → ⊥) → now k ≡ hands k)
    → Placed draws log hands → Placed draws log now
placed-moved draws log hands now a b apart empty to from else p =
    let place' : ℕ → ℕ = λ s. cond (eqb (p.place s) (suc a)) (suc b) (p.place s) in
    let moved : (s : ℕ) → p.place s ≡ suc a → place' s ≡ suc b = λ s is. at-true (p.place s) (suc a) (suc b) (p.place s) is in
    let stayed : (s : ℕ) → (p.place s ≡ suc a → ⊥) → place' s ≡ p.place s = λ s no. at-false (p.place s) (suc a) (suc b) (p.place s) no in
    record {
      place = place';
      in_hand = λ k. ⊎_elim
          (λ (e : k ≡ b). subst (λ n. Each (λ (d : Drawn). Has d draws × (place' d.mark.stamp ≡ suc n)) (now n)) (sym e)
          (subst (Each (λ (d : Drawn). Has d draws × (place' d.mark.stamp ≡ suc b))) (sym to)
          (Each-if (λ (d : Drawn). Has d draws × (p.place d.mark.stamp ≡ suc a)) (λ (d : Drawn). Has d draws × (place' d.mark.stamp ≡ suc b)) (hands a) (λ d h. (h.0, moved d.mark.stamp h.1)) (p.in_hand a))))
          (λ not_b. ⊎_elim
          (λ (e : k ≡ a). subst (λ n. Each (λ (d : Drawn). Has d draws × (place' d.mark.stamp ≡ suc n)) (now n)) (sym e) (subst (Each (λ (d : Drawn). Has d draws × (place' d.mark.stamp ≡ suc a))) (sym from) tt))
          (λ not_a. subst (Each (λ (d : Drawn). Has d draws × (place' d.mark.stamp ≡ suc k))) (sym (else k not_a not_b))
          (Each-if (λ (d : Drawn). Has d draws × (p.place d.mark.stamp ≡ suc k)) (λ (d : Drawn). Has d draws × (place' d.mark.stamp ≡ suc k)) (hands k)
          (λ d h. (h.0, stayed d.mark.stamp (λ e. let s = h.1 in not_a (omega (arith, e, s))) ∙ h.1)) (p.in_hand k)))
          (cases_eq k a))
          (cases_eq k b);
      entered = λ l. Each-if (λ (x : Mark). p.place x.stamp ≡ 0) (λ (x : Mark). place' x.stamp ≡ 0) (log l) (λ x is. stayed x.stamp (λ e. absurd (omega (arith, e, is))) ∙ is) (p.entered l);
      stands = λ d has. ⊎_elim
          (λ (t : (p.place d.mark.stamp ≡ 0) × Has d.mark (log d.link)). let is = t.0 in inl (stayed d.mark.stamp (λ e. absurd (omega (arith, e, is))) ∙ t.0, t.1))
          (λ (t : (k : ℕ) × (p.place d.mark.stamp ≡ suc k) × Has d (hands k)). ⊎_elim
          (λ (is : t.0 ≡ a). inr (b, moved d.mark.stamp (t.1 ∙ ap suc is), subst (Has d) (sym to) (subst (λ k. Has d (hands k)) is t.2)))
          (λ not_a.
          let s = t.1 in
          ⊎_elim
          (λ (is : t.0 ≡ b). absurd (subst (Has d) empty (subst (λ k. Has d (hands k)) is t.2)))
          (λ not_b. inr (t.0, stayed d.mark.stamp (λ e. not_a (omega (arith, e, s))) ∙ t.1, subst (Has d) (sym (else t.0 not_a not_b)) t.2))
          (cases_eq t.0 b))
          (cases_eq t.0 a))
          (p.stands d has);
    }

-- a new mark is drawn into the hand of id
pub placed-drawn : (draws : List Drawn) (log : ℕ → List Mark) (hands now : ℕ → List Drawn) (id : ℕ) (d : Drawn) → ((e : Drawn) → Has e draws → e.mark.stamp ≡ d.mark.stamp → ⊥) → ((l : ℕ) (x : Mark) → Has x (log l) → x.stamp ≡ d.mark.stamp → ⊥)
    → now id ≡ hands id ++ d ∷ [] → ((k : ℕ) → (k ≡ id → ⊥) → now k ≡ hands k) → Placed draws log hands → Placed (draws ++ d ∷ []) log now
placed-drawn draws log hands now id d fresh fresh_log here else p =
    let after = draws ++ d ∷ [] in
    let place' : ℕ → ℕ = λ s. cond (eqb s d.mark.stamp) (suc id) (p.place s) in
    let old : (s : ℕ) → (s ≡ d.mark.stamp → ⊥) → place' s ≡ p.place s = λ s no. at-false s d.mark.stamp (suc id) (p.place s) no in
    let new : place' d.mark.stamp ≡ suc id = at-true d.mark.stamp d.mark.stamp (suc id) (p.place d.mark.stamp) refl in
    let kept : (k : ℕ) → Each (λ (e : Drawn). Has e after × (place' e.mark.stamp ≡ suc k)) (hands k) =
    λ k. Each-if (λ (e : Drawn). Has e draws × (p.place e.mark.stamp ≡ suc k)) (λ (e : Drawn). Has e after × (place' e.mark.stamp ≡ suc k)) (hands k) (λ e h. (has-left e draws (d ∷ []) h.0, old e.mark.stamp (fresh e h.0) ∙ h.1)) (p.in_hand k) in
    record {
      place = place';
      in_hand = λ k. ⊎_elim
          (λ (e : k ≡ id). subst (λ n. Each (λ (x : Drawn). Has x after × (place' x.mark.stamp ≡ suc n)) (now n)) (sym e)
          (subst (Each (λ (x : Drawn). Has x after × (place' x.mark.stamp ≡ suc id))) (sym here)
          (Each-append (λ (x : Drawn). Has x after × (place' x.mark.stamp ≡ suc id)) (hands id) (d ∷ []) (kept id) ((has-right d draws (d ∷ []) (inl refl), new), tt))))
          (λ other. subst (Each (λ (x : Drawn). Has x after × (place' x.mark.stamp ≡ suc k))) (sym (else k other)) (kept k))
          (cases_eq k id);
      entered = λ l. has-each (λ (x : Mark). place' x.stamp ≡ 0) (log l) (λ x has. old x.stamp (fresh_log l x has) ∙ each-has (λ (y : Mark). p.place y.stamp ≡ 0) x (log l) (p.entered l) has);
      stands = λ e has. ⊎_elim
          (λ was. ⊎_elim
          (λ (t : (p.place e.mark.stamp ≡ 0) × Has e.mark (log e.link)). inl (old e.mark.stamp (fresh e was) ∙ t.0, t.1))
          (λ (t : (k : ℕ) × (p.place e.mark.stamp ≡ suc k) × Has e (hands k)). inr (
            t.0,
            old e.mark.stamp (fresh e was) ∙ t.1,
            ⊎_elim
                (λ (is : t.0 ≡ id). subst (λ n. Has e (now n)) (sym is) (subst (Has e) (sym here) (has-left e (hands id) (d ∷ []) (subst (λ n. Has e (hands n)) is t.2))))
                (λ other. subst (Has e) (sym (else t.0 other)) t.2)
                (cases_eq t.0 id),
          ))
          (p.stands e was))
          (λ last. ⊎_elim
          (λ (is : d ≡ e). subst (IsPlaced log place' now) is (inr (id, new, subst (Has d) (sym here) (has-right d (hands id) (d ∷ []) (inl refl)))))
          (λ none. absurd none)
          last)
          (has-split e draws (d ∷ []) has);
    }

-- the mark in the hand of `other` goes into its link's list
pub placed-entered : (draws : List Drawn) (log list : ℕ → List Mark) (hands now : ℕ → List Drawn) (other l : ℕ) (m : Mark) → hands other ≡ drawn_for l m ∷ [] → list l ≡ log l ++ m ∷ [] → ((k : ℕ) → (k ≡ l → ⊥) → list k ≡ log k)
    → now other ≡ [] → ((k : ℕ) → (k ≡ other → ⊥) → now k ≡ hands k) → Placed draws log hands → Placed draws list now
placed-entered draws log list hands now other l m hand here else from stay p =
    let place' : ℕ → ℕ = λ s. cond (eqb s m.stamp) 0 (p.place s) in
    let was : p.place m.stamp ≡ suc other = (subst (Each (λ (d : Drawn). Has d draws × (p.place d.mark.stamp ≡ suc other))) hand (p.in_hand other)).0.1 in
    let zero_still : (s : ℕ) → p.place s ≡ 0 → place' s ≡ 0 = λ s is. cond_both (eqb s m.stamp) 0 (p.place s) (λ x. x ≡ 0) (λ _. refl) (λ _. is) in
    let gone : place' m.stamp ≡ 0 = at-true m.stamp m.stamp 0 (p.place m.stamp) refl in
    let stayed : (s k : ℕ) → p.place s ≡ suc k → (k ≡ other → ⊥) → place' s ≡ suc k =
    λ s k is apart. at-false s m.stamp 0 (p.place s) (λ e. let same : p.place s ≡ p.place m.stamp = ap p.place e in absurd (apart (omega (arith, is, same, was)))) ∙ is in
    let more : (k : ℕ) (x : Mark) → Has x (log k) → Has x (list k) =
    λ k x has. ⊎_elim (λ (e : k ≡ l). subst (λ j. Has x (list j)) (sym e) (subst (Has x) (sym here) (has-left x (log l) (m ∷ []) (subst (λ j. Has x (log j)) e has)))) (λ no_l. subst (Has x) (sym (else k no_l)) has) (cases_eq k l) in
    record {
      place = place';
      in_hand = λ k. ⊎_elim
          (λ (e : k ≡ other). subst (λ n. Each (λ (d : Drawn). Has d draws × (place' d.mark.stamp ≡ suc n)) (now n)) (sym e) (subst (Each (λ (d : Drawn). Has d draws × (place' d.mark.stamp ≡ suc other))) (sym from) tt))
          (λ apart. subst (Each (λ (d : Drawn). Has d draws × (place' d.mark.stamp ≡ suc k))) (sym (stay k apart))
          (Each-if (λ (d : Drawn). Has d draws × (p.place d.mark.stamp ≡ suc k)) (λ (d : Drawn). Has d draws × (place' d.mark.stamp ≡ suc k)) (hands k) (λ d h. (h.0, stayed d.mark.stamp k h.1 apart)) (p.in_hand k)))
          (cases_eq k other);
      entered = λ k. ⊎_elim
          (λ (e : k ≡ l). subst (λ j. Each (λ (x : Mark). place' x.stamp ≡ 0) (list j)) (sym e) (subst (Each (λ (x : Mark). place' x.stamp ≡ 0)) (sym here)
          (Each-append (λ (x : Mark). place' x.stamp ≡ 0) (log l) (m ∷ []) (Each-if (λ (x : Mark). p.place x.stamp ≡ 0) (λ (x : Mark). place' x.stamp ≡ 0) (log l) (λ x is. zero_still x.stamp is) (p.entered l)) (gone, tt))))
          (λ no_l. subst (Each (λ (x : Mark). place' x.stamp ≡ 0)) (sym (else k no_l)) (Each-if (λ (x : Mark). p.place x.stamp ≡ 0) (λ (x : Mark). place' x.stamp ≡ 0) (log k) (λ x is. zero_still x.stamp is) (p.entered k)))
          (cases_eq k l);
      stands = λ d has. ⊎_elim
          (λ (t : (p.place d.mark.stamp ≡ 0) × Has d.mark (log d.link)). inl (zero_still d.mark.stamp t.0, more d.link d.mark t.1))
          (λ (t : (k : ℕ) × (p.place d.mark.stamp ≡ suc k) × Has d (hands k)). ⊎_elim
          (λ (is : t.0 ≡ other).
          let d_is : drawn_for l m ≡ d = ⊎_elim (λ (e : drawn_for l m ≡ d). e) (λ none. absurd none) (subst (Has d) hand (subst (λ k. Has d (hands k)) is t.2)) in
          subst (IsPlaced list place' now) d_is (inl (gone, subst (Has m) (sym here) (has-right m (log l) (m ∷ []) (inl refl)))))
          (λ apart. inr (t.0, stayed d.mark.stamp t.0 t.1 apart, subst (Has d) (sym (stay t.0 apart)) t.2))
          (cases_eq t.0 other))
          (p.stands d has);
    }

-- ---- stamps of draws

pub numbered-most : (n : ℕ) (ds : List Drawn) (e : Drawn) → Numbered n ds → Has e ds → e.mark.stamp ≤ n + length ds
numbered-most n [] e numbered has = absurd has
numbered-most n (d ∷ ds) e numbered has =
    ⊎_elim
    (λ (is : d ≡ e). let first = numbered.0 in let same = ap (λ (x : Drawn). x.mark.stamp) is in omega (arith, first, same))
    (λ t. let rest = numbered-most (suc n) ds e numbered.1 t in omega (arith, rest))
    has
