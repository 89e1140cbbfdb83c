-- Each place names the next one of its tick: through a put, a taking, and one place more in front.
use Rattle.std.proofs.lemmas.Bool.{true≢false}
use Rattle.std.proofs.Common.{◌≡◌, ◌≢◌, ℕ, suc, ◌+◌, ◌<◌, ◌≤◌, true, false, nat_eq, Some, None, List, [], ◌∷◌, ◌++◌, length, refl, sym, ap, ◌∙◌, arith, inl, inr, append_assoc}
use Rattle.std.proofs.lemmas.Bool.{cases_eq, eqb-true, and_parts}
use Rattle.tick_calendar.specs.declared.place.Place.{Place}
use Rattle.tick_calendar.specs.Wheel.{waits_at, first_at, AreLinked}
use Rattle.tick_calendar.proofs.Chains.{first_at-past, first_at-alike, first_at-found, HasNone, first_at-none, at-apart, is_at-other}

module _ {T : Type 0} where
  -- a place at the end, of a tick that no place of the turn has
  pub linked-past : (end t i : ℕ) (ps : List (Place T)) (n : Place T) → AreLinked end i ps → HasNone t ps → n.tick ≡ t → n.next ≡ None → AreLinked end i (ps ++ n ∷ [])
  unfolding AreLinked first_at
  linked-past end t i [] n linked none tick next = ((λ _ _. next), tt)
  linked-past end t i (p ∷ ps) n linked none tick next = (
    (λ waits low. linked.0 waits low ∙ sym (first_at-past p.tick (suc i) ps n (is_at-other p.tick n (λ e. at-apart t p.tick p waits refl none.0 (sym e ∙ tick))))),
    linked-past end t (suc i) ps n linked.1 none.1 tick next,
  )

  -- a place after the last one of its tick, which names it
  pub linked-after : (end t i : ℕ) (a b : List (Place T)) (x y n : Place T) → AreLinked end i (a ++ x ∷ b) → waits_at t x ≡ true → waits_at t y ≡ true → HasNone t b → waits_at t n ≡ true → n.next ≡ None
      → y.next ≡ Some (suc (length b + (length a + i))) → AreLinked end i (a ++ y ∷ (b ++ n ∷ []))
  unfolding AreLinked first_at
  linked-after end t i [] b x y n linked at_x at_y none at_n next names =
      let tick_y : y.tick ≡ t = eqb-true y.tick t (and_parts y.waits (nat_eq y.tick t) at_y).1 in
      let tick_n : n.tick ≡ t = eqb-true n.tick t (and_parts n.waits (nat_eq n.tick t) at_n).1 in
      let found : first_at t (suc i) (b ++ n ∷ []) ≡ Some (length b + suc i) = first_at-none t (suc i) b (n ∷ []) none ∙ rw at_n refl in
      let step : length b + suc i ≡ suc (length b + (0 + i)) = omega arith in (
        (λ _ _. names ∙ ap Some (sym step) ∙ sym found ∙ ap (λ u. first_at u (suc i) (b ++ n ∷ [])) (sym tick_y)),
        linked-past end t (suc i) b n linked.1 none tick_n next,
      )
  linked-after end t i (p ∷ a) b x y n linked at_x at_y none at_n next names =
      let tick_x : x.tick ≡ t = eqb-true x.tick t (and_parts x.waits (nat_eq x.tick t) at_x).1 in
      let tick_y : y.tick ≡ t = eqb-true y.tick t (and_parts y.waits (nat_eq y.tick t) at_y).1 in
      let tick_n : n.tick ≡ t = eqb-true n.tick t (and_parts n.waits (nat_eq n.tick t) at_n).1 in
      let step : suc (length b + (suc (length a) + i)) ≡ suc (length b + (length a + suc i)) = omega arith in
      let same : first_at p.tick (suc i) (a ++ x ∷ b) ≡ first_at p.tick (suc i) (a ++ y ∷ (b ++ n ∷ [])) =
      elim (cases_eq p.tick t) [
        | inl same ↦ rw same (first_at-found t (suc i) a b (b ++ n ∷ []) x y at_x at_y)
        | inr apart ↦
            first_at-alike p.tick (suc i) a b x y (is_at-other p.tick x (λ e. apart (sym e ∙ tick_x)) ∙ sym (is_at-other p.tick y (λ e. apart (sym e ∙ tick_y))))
            ∙ sym (rw append_assoc at (first_at-past p.tick (suc i) (a ++ y ∷ b) n (is_at-other p.tick n (λ e. apart (sym e ∙ tick_n)))))
      ] in
      ((λ waits low. linked.0 waits low ∙ same), linked-after end t (suc i) a b x y n linked.1 at_x at_y none at_n next (names ∙ ap Some step))

  -- the first place of a tick leaves its place behind
  pub linked-taken : (end t i : ℕ) (a b : List (Place T)) (x y : Place T) → AreLinked end i (a ++ x ∷ b) → HasNone t a → waits_at t x ≡ true → y.waits ≡ false → AreLinked end i (a ++ y ∷ b)
  unfolding AreLinked
  linked-taken end t i [] b x y linked none at_x gone = ((λ waits _. absurd (true≢false (sym waits ∙ gone))), linked.1)
  linked-taken end t i (p ∷ a) b x y linked none at_x gone =
      let tick_x : x.tick ≡ t = eqb-true x.tick t (and_parts x.waits (nat_eq x.tick t) at_x).1 in (
        (λ waits low.
            let apart : x.tick ≢ p.tick = λ e. at-apart t p.tick p waits refl none.0 (sym e ∙ tick_x) in
            linked.0 waits low ∙ first_at-alike p.tick (suc i) a b x y (is_at-other p.tick x apart ∙ sym (rw gone refl))),
        linked-taken end t (suc i) a b x y linked.1 none.1 at_x gone,
      )

  -- the first one then is the one that it named
  pub first_at-taken : (end t i : ℕ) (a b : List (Place T)) (x y : Place T) → AreLinked end i (a ++ x ∷ b) → HasNone t a → waits_at t x ≡ true → y.waits ≡ false → t < end → first_at t i (a ++ y ∷ b) ≡ x.next
  unfolding AreLinked first_at
  first_at-taken end t i [] b x y linked none at_x gone low =
      let parts = and_parts x.waits (nat_eq x.tick t) at_x in
      let tick_x : x.tick ≡ t = eqb-true x.tick t parts.1 in
      rw gone (ap (λ u. first_at u (suc i) b) (sym tick_x) ∙ sym (linked.0 parts.0 (omega (arith, tick_x, low))))
  first_at-taken end t i (p ∷ a) b x y linked none at_x gone low = rw none.0 (first_at-taken end t (suc i) a b x y linked.1 none.1 at_x gone low)

  pub linked-beyond : (end i : ℕ) (ps : List (Place T)) (n : Place T) → AreLinked end i ps → end ≤ n.tick → AreLinked end i (ps ++ n ∷ [])
  unfolding AreLinked
  linked-beyond end i [] n linked beyond = ((λ _ low. absurd (omega (arith, low, beyond))), tt)
  linked-beyond end i (p ∷ ps) n linked beyond = (
    (λ waits low. linked.0 waits low ∙ sym (first_at-past p.tick (suc i) ps n (is_at-other p.tick n (λ e. absurd (omega (arith, e, low, beyond)))))),
    linked-beyond end (suc i) ps n linked.1 beyond,
  )

  pub linked-cons : (end i : ℕ) (p : Place T) (ps : List (Place T)) → (p.waits ≡ true → p.tick < end → p.next ≡ first_at p.tick (suc i) ps) → AreLinked end (suc i) ps → AreLinked end i (p ∷ ps)
  unfolding AreLinked
  linked-cons end i p ps mine rest = (mine, rest)
