-- The entries at the places of a list, and the first and the last place of a tick among them.
use Rattle.std.proofs.Common.{◌≡◌, ◌≢◌, ℕ, suc, ◌+◌, Bool, true, false, cond, Option, Some, None, List, [], ◌∷◌, ◌++◌, length, refl, ap, ◌∙◌, arith, inl, inr, ◌⊎◌}
use Rattle.std.proofs.lemmas.Bool.{cases_Bool}
use Rattle.std.proofs.lemmas.Bool.Decides.{nat_tests}
use Rattle.tick_calendar.specs.declared.place.Place.{Place}
use Rattle.tick_calendar.specs.Wheel.{entries_in, waits_at, first_at, last_at, first_found}

module _ {T : Type 0} where
  pub entries-append : (ps qs : List (Place T)) → entries_in (ps ++ qs) ≡ entries_in ps ++ entries_in qs
  unfolding entries_in
  entries-append [] qs = refl
  entries-append (p ∷ ps) qs = by-case p.waits (entries-append ps qs) where
    by-case : (b : Bool) → entries_in (ps ++ qs) ≡ entries_in ps ++ entries_in qs
        → cond b ((p.tick, p.key) ∷ entries_in (ps ++ qs)) (entries_in (ps ++ qs)) ≡ cond b ((p.tick, p.key) ∷ entries_in ps) (entries_in ps) ++ entries_in qs
    by-case true same = ap (λ es. (p.tick, p.key) ∷ es) same
    by-case false same = same

  pub entries-nil : entries_in {T = T} [] ≡ []
  unfolding entries_in
  entries-nil = refl

  pub entries-here : (p : Place T) (ps : List (Place T)) → p.waits ≡ true → entries_in (p ∷ ps) ≡ (p.tick, p.key) ∷ entries_in ps
  unfolding entries_in
  entries-here p ps waits = rw waits refl

  pub entries-skip : (p : Place T) (ps : List (Place T)) → p.waits ≡ false → entries_in (p ∷ ps) ≡ entries_in ps
  unfolding entries_in
  entries-skip p ps gone = rw gone refl

  pub entries-alike : (a b : List (Place T)) (x y : Place T) → x.tick ≡ y.tick → x.key ≡ y.key → x.waits ≡ y.waits → entries_in (a ++ x ∷ b) ≡ entries_in (a ++ y ∷ b)
  unfolding entries_in
  entries-alike [] b x y tick key waits = rw (tick, key, waits) refl
  entries-alike (p ∷ a) b x y tick key waits = ap (λ es. cond p.waits ((p.tick, p.key) ∷ es) es) (entries-alike a b x y tick key waits)

  entries-one : (n : Place T) → n.waits ≡ true → entries_in (n ∷ []) ≡ (n.tick, n.key) ∷ []
  unfolding entries_in
  entries-one n waits = rw waits refl

  pub entries-put : (ps : List (Place T)) (n : Place T) → n.waits ≡ true → entries_in (ps ++ n ∷ []) ≡ entries_in ps ++ (n.tick, n.key) ∷ []
  entries-put ps n waits = entries-append ps (n ∷ []) ∙ ap (λ es. entries_in ps ++ es) (entries-one n waits)

  pub entries-gone : (a b : List (Place T)) (y : Place T) → y.waits ≡ false → entries_in (a ++ y ∷ b) ≡ entries_in a ++ entries_in b
  entries-gone a b y gone = entries-append a (y ∷ b) ∙ ap (λ es. entries_in a ++ es) (entries-skip y b gone)

  pub first_at-past : (t i : ℕ) (ps : List (Place T)) (n : Place T) → waits_at t n ≡ false → first_at t i (ps ++ n ∷ []) ≡ first_at t i ps
  unfolding first_at
  first_at-past t i [] n apart = rw apart refl
  first_at-past t i (p ∷ ps) n apart = ap (λ rest. cond (waits_at t p) (Some i) rest) (first_at-past t (suc i) ps n apart)

  -- places that are alike for the tick
  pub first_at-alike : (t i : ℕ) (a b : List (Place T)) (x y : Place T) → waits_at t x ≡ waits_at t y → first_at t i (a ++ x ∷ b) ≡ first_at t i (a ++ y ∷ b)
  unfolding first_at
  first_at-alike t i [] b x y same = ap (λ at. cond at (Some i) (first_at t (suc i) b)) same
  first_at-alike t i (p ∷ a) b x y same = ap (λ rest. cond (waits_at t p) (Some i) rest) (first_at-alike t (suc i) a b x y same)

  -- what stands after a place of the tick doesn't matter
  pub first_at-found : (t i : ℕ) (a b c : List (Place T)) (x y : Place T) → waits_at t x ≡ true → waits_at t y ≡ true → first_at t i (a ++ x ∷ b) ≡ first_at t i (a ++ y ∷ c)
  unfolding first_at
  first_at-found t i [] b c x y at_x at_y = rw (at_x, at_y) refl
  first_at-found t i (p ∷ a) b c x y at_x at_y = ap (λ rest. cond (waits_at t p) (Some i) rest) (first_at-found t (suc i) a b c x y at_x at_y)

  -- nothing of the tick
  abbrev pub HasNone : ℕ → List (Place T) → Type 0
  HasNone t [] = Unit {0}
  HasNone t (p ∷ ps) = (waits_at t p ≡ false) × HasNone t ps

  pub first_at-none : (t i : ℕ) (a b : List (Place T)) → HasNone t a → first_at t i (a ++ b) ≡ first_at t (length a + i) b
  unfolding first_at
  first_at-none t i [] b none = let same : i ≡ 0 + i = omega arith in ap (λ j. first_at t j b) same
  first_at-none t i (p ∷ a) b none =
      let step : length a + suc i ≡ suc (length a) + i = omega arith in
      rw (none.0, first_at-none t (suc i) a b none.1, step) refl

  pub none-first_at : (t i : ℕ) (a : List (Place T)) → first_at t i a ≡ None → HasNone t a
  unfolding first_at
  none-first_at t i [] none = tt
  none-first_at t i (p ∷ a) none = elim (cases_Bool (waits_at t p)) [
    | inl at ↦ absurd (cc (at, none))
    | inr not_at ↦ (not_at, none-first_at t (suc i) a (rw not_at at none))
  ]

  pub none-found : (t i : ℕ) (ps : List (Place T)) → HasNone t ps → first_at t i ps ≡ None
  unfolding first_at
  none-found t i [] none = refl
  none-found t i (p ∷ ps) none = rw none.0 (none-found t (suc i) ps none.1)

  pub first-one : (t i : ℕ) (n : Place T) → waits_at t n ≡ true → first_at t i (n ∷ []) ≡ Some i
  unfolding first_at
  first-one t i n at = rw at refl

  pub at-apart : (t u : ℕ) (p : Place T) → p.waits ≡ true → p.tick ≡ u → waits_at t p ≡ false → u ≢ t
  at-apart t u p waits tick apart same = absurd (grind (arith, nat_tests))

  pub is_at-other : (t : ℕ) (p : Place T) → p.tick ≢ t → waits_at t p ≡ false
  is_at-other t p apart = grind (arith, nat_tests)

  pub first_at-here : (t i : ℕ) (p : Place T) (ps : List (Place T)) → waits_at t p ≡ true → first_at t i (p ∷ ps) ≡ Some i
  unfolding first_at
  first_at-here t i p ps at = rw at refl

  pub first_at-skip : (t i : ℕ) (p : Place T) (ps : List (Place T)) → waits_at t p ≡ false → first_at t i (p ∷ ps) ≡ first_at t (suc i) ps
  unfolding first_at
  first_at-skip t i p ps apart = rw apart refl

  pub last_at-past : (t i : ℕ) (ps : List (Place T)) (n : Place T) → waits_at t n ≡ false → last_at t i (ps ++ n ∷ []) ≡ last_at t i ps
  unfolding last_at
  last_at-past t i [] n apart = rw apart refl
  last_at-past t i (p ∷ ps) n apart = ap (λ rest. first_found rest (cond (waits_at t p) (Some i) None)) (last_at-past t (suc i) ps n apart)

  pub last_at-new : (t i : ℕ) (ps : List (Place T)) (n : Place T) → waits_at t n ≡ true → last_at t i (ps ++ n ∷ []) ≡ Some (length ps + i)
  unfolding last_at
  last_at-new t i [] n at = rw at (let e : i ≡ 0 + i = omega arith in ap Some e)
  last_at-new t i (p ∷ ps) n at =
      let e : length ps + suc i ≡ suc (length ps) + i = omega arith in
      ap (λ rest. first_found rest (cond (waits_at t p) (Some i) None)) (last_at-new t (suc i) ps n at) ∙ ap Some e

  pub last_at-alike : (t i : ℕ) (a b : List (Place T)) (x y : Place T) → waits_at t x ≡ waits_at t y → last_at t i (a ++ x ∷ b) ≡ last_at t i (a ++ y ∷ b)
  unfolding last_at
  last_at-alike t i [] b x y same = ap (λ at. first_found (last_at t (suc i) b) (cond at (Some i) None)) same
  last_at-alike t i (p ∷ a) b x y same = ap (λ rest. first_found rest (cond (waits_at t p) (Some i) None)) (last_at-alike t (suc i) a b x y same)

  last_at-none : (t i : ℕ) (ps : List (Place T)) → last_at t i ps ≡ None → HasNone t ps
  unfolding last_at
  last_at-none t i [] none = tt
  last_at-none t i (p ∷ ps) none = by-case (last_at t (suc i) ps) refl (cases_Bool (waits_at t p)) (last_at-none t (suc i) ps) where
    by-case : (rest : Option ℕ) → last_at t (suc i) ps ≡ rest → (waits_at t p ≡ true) ⊎ (waits_at t p ≡ false) → (last_at t (suc i) ps ≡ None → HasNone t ps) → HasNone t (p ∷ ps)
    by-case (Some q) is at more = absurd (cc (rw is at none))
    by-case None is (inl at) more = absurd (cc (rw (is, at) at none))
    by-case None is (inr apart) more = (apart, more is)

  -- the list is split at the last place of a tick
  pub record IsSplitAt (t i q : ℕ) (ps : List (Place T)) : Type 0 where
    pub before : List (Place T)
    pub place : Place T
    pub after : List (Place T)
    pub was : ps ≡ before ++ place ∷ after
    pub at : q ≡ length before + i
    pub here : waits_at t place ≡ true
    pub none : HasNone t after

  pub split-last : (t i q : ℕ) (ps : List (Place T)) → last_at t i ps ≡ Some q → IsSplitAt t i q ps
  unfolding last_at
  split-last t i q [] found = absurd (cc)
  split-last t i q (p ∷ ps) found = by-case (last_at t (suc i) ps) refl (cases_Bool (waits_at t p)) (split-last t (suc i) q ps) where
    by-case : (rest : Option ℕ) → last_at t (suc i) ps ≡ rest → (waits_at t p ≡ true) ⊎ (waits_at t p ≡ false) → (last_at t (suc i) ps ≡ Some q → IsSplitAt t (suc i) q ps) → IsSplitAt t i q (p ∷ ps)
    by-case (Some r) is at more =
        let e : r ≡ q = cc (rw is at found) in
        let rest = more (is ∙ ap Some e) in
        record { before = p ∷ rest.before; place = rest.place; after = rest.after; was = ap (λ l. p ∷ l) rest.was; at = omega (arith, rest.at); here = rest.here; none = rest.none }
    by-case None is (inl at) more =
        let e : i ≡ q = cc (rw (is, at) at found) in
        record { before = []; place = p; after = ps; was = refl; at = omega (arith, e); here = at; none = last_at-none t (suc i) ps is }
    by-case None is (inr apart) more = absurd (cc (rw (is, apart) at found))

  -- where the first place of a tick is taken, the last one stays, if there is one
  pub last_at-taken : (t i q : ℕ) (a b : List (Place T)) (x y : Place T) → HasNone t a → waits_at t y ≡ false → last_at t i (a ++ y ∷ b) ≡ Some q → last_at t i (a ++ x ∷ b) ≡ Some q
  unfolding last_at
  last_at-taken t i q [] b x y none gone found = by-case (last_at t (suc i) b) refl where
    by-case : (rest : Option ℕ) → last_at t (suc i) b ≡ rest → first_found (last_at t (suc i) b) (cond (waits_at t x) (Some i) None) ≡ Some q
    by-case (Some r) is = rw is (rw is at found)
    by-case None is = absurd (cc (rw (is, gone) at found))
  last_at-taken t i q (p ∷ a) b x y none gone found = by-case (last_at t (suc i) (a ++ y ∷ b)) refl (λ r. last_at-taken t (suc i) r a b x y none.1 gone) where
    by-case : (rest : Option ℕ) → last_at t (suc i) (a ++ y ∷ b) ≡ rest → ((r : ℕ) → last_at t (suc i) (a ++ y ∷ b) ≡ Some r → last_at t (suc i) (a ++ x ∷ b) ≡ Some r) → first_found (last_at t (suc i) (a ++ x ∷ b)) (cond (waits_at t p) (Some i) None) ≡ Some q
    by-case (Some r) is more =
        let e : r ≡ q = cc (rw is at found) in
        rw (more r is) (ap Some e)
    by-case None is more = absurd (cc (rw (is, none.0) at found))

  pub found-last : (t i f : ℕ) (ps : List (Place T)) → first_at t i ps ≡ Some f → (q : ℕ) × (last_at t i ps ≡ Some q)
  found-last t i f ps found = by-case (last_at t i ps) refl where
    by-case : (last : Option ℕ) → last_at t i ps ≡ last → (q : ℕ) × (last_at t i ps ≡ Some q)
    by-case (Some q) is = (q, is)
    by-case None is = absurd (cc (none-found t i ps (last_at-none t i ps is), found))

  pub last_at-skip : (t i : ℕ) (p : Place T) (ps : List (Place T)) → waits_at t p ≡ false → last_at t i (p ∷ ps) ≡ last_at t (suc i) ps
  unfolding last_at
  last_at-skip t i p ps apart = by-case (last_at t (suc i) ps) refl where
    by-case : (rest : Option ℕ) → last_at t (suc i) ps ≡ rest → first_found (last_at t (suc i) ps) (cond (waits_at t p) (Some i) None) ≡ last_at t (suc i) ps
    by-case None is = rw (is, apart) refl
    by-case (Some q) is = rw is refl

  pub last_at-rest : (t i q : ℕ) (p : Place T) (ps : List (Place T)) → last_at t (suc i) ps ≡ Some q → last_at t i (p ∷ ps) ≡ Some q
  unfolding last_at
  last_at-rest t i q p ps found = rw found refl

  no-last : (t i : ℕ) (ps : List (Place T)) → HasNone t ps → last_at t i ps ≡ None
  unfolding last_at
  no-last t i [] none = refl
  no-last t i (p ∷ ps) none = rw (no-last t (suc i) ps none.1, none.0) refl

  pub last_at-alone : (t i : ℕ) (p : Place T) (ps : List (Place T)) → waits_at t p ≡ true → HasNone t ps → last_at t i (p ∷ ps) ≡ Some i
  unfolding last_at
  last_at-alone t i p ps at none = rw (no-last t (suc i) ps none, at) refl
