-- The slots and the chains of a wheel stay right through a put and a taking.
use Rattle.std.proofs.Common.{◌≡◌, ◌≢◌, ℕ, suc, ◌+◌, ◌<◌, ◌≤◌, true, false, nat_eq, Option, Some, None, List, [], ◌∷◌, ◌++◌, length, get_or, set, refl, sym, ap, ◌∙◌, subst, arith, inl, inr, append_assoc}
use Rattle.std.proofs.lemmas.Bool.{cases_Bool, cases_eq, eqb-true, and_parts}
use Rattle.std.proofs.lemmas.List.{get_or_at, set_at, length-append, length-set, get_or-set_same, get_or-set_other}
use Rattle.std.proofs.lemmas.Option.{same_Some}
use Rattle.tick_calendar.specs.declared.place.Place.{Place}
use Rattle.tick_calendar.specs.Wheel.{entries_in, waits_at, first_at, last_at, AreAllFrom, IsWheel, RemovesFirst, Stands, StandsFirst}
use Rattle.tick_calendar.proofs.Chains.{entries-append, entries-here, entries-alike, entries-put, entries-gone, first_at-past, first_at-alike, first_at-found, HasNone, first_at-none, none-first_at, none-found, first-one, is_at-other, last_at-past, last_at-new, last_at-alike, split-last, last_at-taken, found-last}
use Rattle.tick_calendar.proofs.Ahead.{all-right}
use Rattle.tick_calendar.proofs.Links.{linked-past, linked-after, linked-taken, first_at-taken, linked-beyond}

module _ {T : Type 0} where
  -- what isn't of a tick of the turn changes no chain
  pub wheel-beyond : (places : List (Place T)) (firsts : List (Option ℕ)) (lasts : List ℕ) (base : ℕ) (n : Place T) → IsWheel places firsts lasts base → base + 1024 ≤ n.tick → n.next ≡ None → IsWheel (places ++ n ∷ []) firsts lasts base
  wheel-beyond places firsts lasts base n wheel beyond next =
      let other : (slot : ℕ) → slot < 1024 → waits_at (base + slot) n ≡ false = λ slot low. is_at-other (base + slot) n (λ e. absurd (omega (arith, e, low, beyond))) in
      record {
        slots = wheel.slots;
        ends = wheel.ends;
        firsts_at = λ slot low. wheel.firsts_at slot low ∙ sym (first_at-past (base + slot) 0 places n (other slot low));
        lasts_at = λ slot last low found. wheel.lasts_at slot last low (sym (last_at-past (base + slot) 0 places n (other slot low)) ∙ found);
        linked = linked-beyond (base + 1024) 0 places n wheel.linked beyond;
      }

  -- the first of its tick
  pub wheel-first : (places : List (Place T)) (firsts : List (Option ℕ)) (lasts : List ℕ) (base slot : ℕ) (n : Place T) → IsWheel places firsts lasts base → slot < 1024 → get_or firsts slot None ≡ None → waits_at (base + slot) n ≡ true → n.next ≡ None
      → IsWheel (places ++ n ∷ []) (set firsts slot (Some (length places))) (set lasts slot (length places)) base
  wheel-first places firsts lasts base slot n wheel low empty at next =
      let none : HasNone (base + slot) places = none-first_at (base + slot) 0 places (sym (wheel.firsts_at slot low) ∙ empty) in
      let tick : n.tick ≡ base + slot = eqb-true n.tick (base + slot) (and_parts n.waits (nat_eq n.tick (base + slot)) at).1 in
      let other : (s : ℕ) → s ≢ slot → waits_at (base + s) n ≡ false = λ s apart. is_at-other (base + s) n (λ e. apart (omega (arith, e, tick))) in
      let zero_end : length places + 0 ≡ length places = omega arith in
      record {
        slots = length-set firsts slot (Some (length places)) ∙ wheel.slots;
        ends = length-set lasts slot (length places) ∙ wheel.ends;
        firsts_at = λ s within. elim (cases_eq s slot) [
          | inl same ↦ rw same (get_or-set_same firsts slot (Some (length places)) None (omega (arith, wheel.slots, low)) ∙ sym (first_at-none (base + slot) 0 places (n ∷ []) none ∙ first-one (base + slot) (length places + 0) n at ∙ ap Some zero_end))
          | inr apart ↦ get_or-set_other firsts slot s (Some (length places)) None apart ∙ wheel.firsts_at s within ∙ sym (first_at-past (base + s) 0 places n (other s apart))
        ];
        lasts_at = λ s last within found. elim (cases_eq s slot) [
          | inl same ↦
              let e : length places ≡ last = same_Some _ _ (ap Some (sym zero_end) ∙ sym (last_at-new (base + slot) 0 places n at) ∙ ap (λ u. last_at (base + u) 0 (places ++ n ∷ [])) (sym same) ∙ found) in
              rw same (get_or-set_same lasts slot (length places) 0 (omega (arith, wheel.ends, low)) ∙ e)
          | inr apart ↦ get_or-set_other lasts slot s (length places) 0 apart ∙ wheel.lasts_at s last within (sym (last_at-past (base + s) 0 places n (other s apart)) ∙ found)
        ];
        linked = linked-past (base + 1024) (base + slot) 0 places n wheel.linked none tick next;
      }

  -- the first of a tick is taken
  wheel-taken : (a b : List (Place T)) (x y : Place T) (firsts : List (Option ℕ)) (lasts : List ℕ) (base slot : ℕ) → IsWheel (a ++ x ∷ b) firsts lasts base → slot < 1024 → HasNone (base + slot) a → waits_at (base + slot) x ≡ true → y.waits ≡ false
      → IsWheel (a ++ y ∷ b) (set firsts slot x.next) lasts base
  wheel-taken a b x y firsts lasts base slot wheel low none at gone =
      let tick : x.tick ≡ base + slot = eqb-true x.tick (base + slot) (and_parts x.waits (nat_eq x.tick (base + slot)) at).1 in
      let gone_at : (t : ℕ) → waits_at t y ≡ false = λ t. rw gone refl in
      let other : (s : ℕ) → s ≢ slot → waits_at (base + s) x ≡ waits_at (base + s) y = λ s apart. is_at-other (base + s) x (λ e. apart (omega (arith, e, tick))) ∙ sym (gone_at (base + s)) in
      record {
        slots = length-set firsts slot x.next ∙ wheel.slots;
        ends = wheel.ends;
        firsts_at = λ s within. elim (cases_eq s slot) [
          | inl same ↦ rw same (get_or-set_same firsts slot x.next None (omega (arith, wheel.slots, low)) ∙ sym (first_at-taken (base + 1024) (base + slot) 0 a b x y wheel.linked none at gone (omega (arith, low))))
          | inr apart ↦ get_or-set_other firsts slot s x.next None apart ∙ wheel.firsts_at s within ∙ first_at-alike (base + s) 0 a b x y (other s apart)
        ];
        lasts_at = λ s last within found. elim (cases_eq s slot) [
          | inl same ↦ wheel.lasts_at s last within (rw same (last_at-taken (base + slot) 0 last a b x y none (gone_at (base + slot)) (rw same at found)))
          | inr apart ↦ wheel.lasts_at s last within (last_at-alike (base + s) 0 a b x y (other s apart) ∙ found)
        ];
        linked = linked-taken (base + 1024) (base + slot) 0 a b x y wheel.linked none at gone;
      }

  wheel-after : (a b : List (Place T)) (x y n : Place T) (firsts : List (Option ℕ)) (lasts : List ℕ) (base slot : ℕ) → IsWheel (a ++ x ∷ b) firsts lasts base → slot < 1024
      → waits_at (base + slot) x ≡ true → HasNone (base + slot) b → waits_at (base + slot) n ≡ true → n.next ≡ None → y.tick ≡ x.tick → y.waits ≡ x.waits → y.next ≡ Some (length (a ++ x ∷ b))
      → IsWheel (a ++ y ∷ (b ++ n ∷ [])) firsts (set lasts slot (length (a ++ x ∷ b))) base
  wheel-after a b x y n firsts lasts base slot wheel low at none at_n next tick waits names =
      let tick_x : x.tick ≡ base + slot = eqb-true x.tick (base + slot) (and_parts x.waits (nat_eq x.tick (base + slot)) at).1 in
      let tick_n : n.tick ≡ base + slot = eqb-true n.tick (base + slot) (and_parts n.waits (nat_eq n.tick (base + slot)) at_n).1 in
      let alike : (t : ℕ) → waits_at t x ≡ waits_at t y = λ t. rw (tick, waits) refl in
      let at_y : waits_at (base + slot) y ≡ true = sym (alike (base + slot)) ∙ at in
      let other : (s : ℕ) → s ≢ slot → waits_at (base + s) n ≡ false = λ s apart. is_at-other (base + s) n (λ e. apart (omega (arith, e, tick_n))) in
      let long : length (a ++ y ∷ b) + 0 ≡ length (a ++ x ∷ b) = omega (arith, length-append a (y ∷ b), length-append a (x ∷ b)) in
      let ends : length (a ++ x ∷ b) ≡ suc (length b + (length a + 0)) = omega (arith, length-append a (x ∷ b)) in
      record {
        slots = wheel.slots;
        ends = length-set lasts slot (length (a ++ x ∷ b)) ∙ wheel.ends;
        firsts_at = λ s within. wheel.firsts_at s within ∙ elim (cases_eq s slot) [
          | inl same ↦ rw same (first_at-found (base + slot) 0 a b (b ++ n ∷ []) x y at at_y)
          | inr apart ↦ first_at-alike (base + s) 0 a b x y (alike (base + s)) ∙ sym (rw append_assoc at (first_at-past (base + s) 0 (a ++ y ∷ b) n (other s apart)))
        ];
        lasts_at = λ s last within found. elim (cases_eq s slot) [
          | inl same ↦
              let new : last_at (base + slot) 0 (a ++ y ∷ (b ++ n ∷ [])) ≡ Some (length (a ++ y ∷ b) + 0) = rw append_assoc at (last_at-new (base + slot) 0 (a ++ y ∷ b) n at_n) in
              let e : length (a ++ x ∷ b) ≡ last = same_Some _ _ (ap Some (sym long) ∙ sym new ∙ ap (λ u. last_at (base + u) 0 (a ++ y ∷ (b ++ n ∷ []))) (sym same) ∙ found) in
              rw same (get_or-set_same lasts slot (length (a ++ x ∷ b)) 0 (omega (arith, wheel.ends, low)) ∙ e)
          | inr apart ↦
              let past : last_at (base + s) 0 (a ++ y ∷ (b ++ n ∷ [])) ≡ last_at (base + s) 0 (a ++ y ∷ b) = rw append_assoc at (last_at-past (base + s) 0 (a ++ y ∷ b) n (other s apart)) in
              get_or-set_other lasts slot s (length (a ++ x ∷ b)) 0 apart ∙ wheel.lasts_at s last within (last_at-alike (base + s) 0 a b x y (alike (base + s)) ∙ sym past ∙ found)
        ];
        linked = linked-after (base + 1024) (base + slot) 0 a b x y n wheel.linked at at_y none at_n next (names ∙ ap Some ends);
      }

  pub record IsSplitFirst (t i q : ℕ) (ps : List (Place T)) : Type 0 where
    pub before : List (Place T)
    pub place : Place T
    pub after : List (Place T)
    pub was : ps ≡ before ++ place ∷ after
    pub at : q ≡ length before + i
    pub here : waits_at t place ≡ true
    pub none : HasNone t before

  split-first : (t i q : ℕ) (ps : List (Place T)) → first_at t i ps ≡ Some q → IsSplitFirst t i q ps
  unfolding first_at
  split-first t i q [] found = absurd (cc)
  split-first t i q (p ∷ ps) found = elim (cases_Bool (waits_at t p)) [
    | inl at ↦ (let e : i ≡ q = cc (rw at at found) in record { before = []; place = p; after = ps; was = refl; at = omega (arith, e); here = at; none = tt })
    | inr apart ↦ (
        let rest = split-first t (suc i) q ps (rw apart at found) in
        record { before = p ∷ rest.before; place = rest.place; after = rest.after; was = ap (λ l. p ∷ l) rest.was; at = omega (arith, rest.at); here = rest.here; none = (apart, rest.none) })
  ]

  pub append-after : (places : List (Place T)) (firsts : List (Option ℕ)) (lasts : List ℕ) (base slot first last : ℕ) (x y n : Place T) → IsWheel places firsts lasts base → slot < 1024 → get_or firsts slot None ≡ Some first → last ≡ get_or lasts slot 0
      → waits_at (base + slot) n ≡ true → n.next ≡ None → x ≡ get_or (places ++ n ∷ []) last x → y.tick ≡ x.tick → y.key ≡ x.key → y.waits ≡ x.waits → y.next ≡ Some (length places)
      → IsWheel (set (places ++ n ∷ []) last y) firsts (set lasts slot (length places)) base × (entries_in (set (places ++ n ∷ []) last y) ≡ entries_in places ++ (n.tick, n.key) ∷ [])
  append-after places firsts lasts base slot first last x y n wheel low is_first is_last at next read tick key waits names =
      let q = found-last (base + slot) 0 first places (sym (wheel.firsts_at slot low) ∙ is_first) in
      let split = split-last (base + slot) 0 q.0 places q.1 in
      let place : last ≡ length split.before = omega (arith, is_last ∙ wheel.lasts_at slot q.0 low q.1, split.at) in
      let whole : places ++ n ∷ [] ≡ split.before ++ split.place ∷ (split.after ++ n ∷ []) = ap (λ l. l ++ n ∷ []) split.was ∙ append_assoc split.before (split.place ∷ split.after) (n ∷ []) in
      let same : x ≡ split.place = read ∙ ap (λ l. get_or l last x) whole ∙ get_or_at split.before split.place (split.after ++ n ∷ []) x last (sym place) in
      let written : set (places ++ n ∷ []) last y ≡ split.before ++ y ∷ (split.after ++ n ∷ []) = ap (λ l. set l last y) whole ∙ set_at split.before split.place (split.after ++ n ∷ []) y last (sym place) in
      let long : length (split.before ++ split.place ∷ split.after) ≡ length places = ap length (sym split.was) in
      let turned = wheel-after split.before split.after split.place y n firsts lasts base slot (subst (λ l. IsWheel l firsts lasts base) split.was wheel) low split.here split.none at next
      (tick ∙ ap (λ (p : Place T). p.tick) same) (waits ∙ ap (λ (p : Place T). p.waits) same) (names ∙ ap Some (sym long)) in
      let alike : entries_in (split.before ++ y ∷ (split.after ++ n ∷ [])) ≡ entries_in (places ++ n ∷ []) =
      entries-alike split.before (split.after ++ n ∷ []) y split.place (tick ∙ ap (λ (p : Place T). p.tick) same) (key ∙ ap (λ (p : Place T). p.key) same) (waits ∙ ap (λ (p : Place T). p.waits) same) ∙ ap entries_in (sym whole) in (
        subst (λ l. IsWheel l firsts (set lasts slot (length places)) base) (sym written) (subst (λ m. IsWheel (split.before ++ y ∷ (split.after ++ n ∷ [])) firsts (set lasts slot m) base) long turned),
        ap entries_in written ∙ alike ∙ entries-put places n (and_parts n.waits (nat_eq n.tick (base + slot)) at).0,
      )

  -- the place that a slot names is one of them
  pub first-within : (places : List (Place T)) (firsts : List (Option ℕ)) (lasts : List ℕ) (base slot first : ℕ) → IsWheel places firsts lasts base → slot < 1024 → get_or firsts slot None ≡ Some first → first < length places
  first-within places firsts lasts base slot first wheel low is_first =
      let split = split-first (base + slot) 0 first places (sym (wheel.firsts_at slot low) ∙ is_first) in
      omega (arith, ap length split.was, length-append split.before (split.place ∷ split.after), split.at)

  pub last-within : (places : List (Place T)) (firsts : List (Option ℕ)) (lasts : List ℕ) (base slot first : ℕ) → IsWheel places firsts lasts base → slot < 1024 → get_or firsts slot None ≡ Some first → get_or lasts slot 0 < length places
  last-within places firsts lasts base slot first wheel low is_first =
      let q = found-last (base + slot) 0 first places (sym (wheel.firsts_at slot low) ∙ is_first) in
      let split = split-last (base + slot) 0 q.0 places q.1 in
      omega (arith, wheel.lasts_at slot q.0 low q.1, ap length split.was, length-append split.before (split.place ∷ split.after), split.at)

  pub take-first : (places : List (Place T)) (firsts : List (Option ℕ)) (lasts : List ℕ) (base slot first : ℕ) (x y : Place T) → IsWheel places firsts lasts base → slot < 1024 → get_or firsts slot None ≡ Some first → x ≡ get_or places first x → y.waits ≡ false
      → IsWheel (set places first y) (set firsts slot x.next) lasts base × RemovesFirst (base + slot) places (set places first y) x.key
  take-first places firsts lasts base slot first x y wheel low is_first read gone =
      let split = split-first (base + slot) 0 first places (sym (wheel.firsts_at slot low) ∙ is_first) in
      let place : first ≡ length split.before = omega (arith, split.at) in
      let same : x ≡ split.place = read ∙ ap (λ l. get_or l first x) split.was ∙ get_or_at split.before split.place split.after x first (sym place) in
      let written : set places first y ≡ split.before ++ y ∷ split.after = ap (λ l. set l first y) split.was ∙ set_at split.before split.place split.after y first (sym place) in
      let turned = wheel-taken split.before split.after split.place y firsts lasts base slot (subst (λ l. IsWheel l firsts lasts base) split.was wheel) low split.none split.here gone in (
        subst (λ l. IsWheel l (set firsts slot x.next) lasts base) (sym written) (subst (λ (m : Option ℕ). IsWheel (split.before ++ y ∷ split.after) (set firsts slot m) lasts base) (ap (λ (p : Place T). p.next) (sym same)) turned),
        record { before = split.before; place = split.place; after = split.after; was = split.was; at = split.here; none = none-found (base + slot) 0 split.before split.none; key_is = ap (λ (p : Place T). p.key) same; left = ap entries_in written ∙ entries-gone split.before split.after y gone },
      )

  -- the place that the slot names stands first of its tick
  pub stands-first : (places : List (Place T)) (firsts : List (Option ℕ)) (lasts : List ℕ) (base slot first : ℕ) (x : Place T) → IsWheel places firsts lasts base → slot < 1024 → get_or firsts slot None ≡ Some first → x ≡ get_or places first x → StandsFirst (base + slot) places x.key
  stands-first places firsts lasts base slot first x wheel low is_first read =
      let split = split-first (base + slot) 0 first places (sym (wheel.firsts_at slot low) ∙ is_first) in
      let place : first ≡ length split.before = omega (arith, split.at) in
      let same : x ≡ split.place = read ∙ ap (λ l. get_or l first x) split.was ∙ get_or_at split.before split.place split.after x first (sym place) in
      record { before = split.before; place = split.place; after = split.after; is = split.was; at = split.here; none = none-found (base + slot) 0 split.before split.none; key_is = ap (λ (p : Place T). p.key) same }

  -- where the slot names a place, an entry of its tick waits
  pub stands-found : (places : List (Place T)) (firsts : List (Option ℕ)) (lasts : List ℕ) (base slot first now : ℕ) → IsWheel places firsts lasts base → slot < 1024 → get_or firsts slot None ≡ Some first → Stands base slot now (entries_in places)
  stands-found places firsts lasts base slot first now wheel low is_first all =
      let split = split-first (base + slot) 0 first places (sym (wheel.firsts_at slot low) ∙ is_first) in
      let parts = and_parts split.place.waits (nat_eq split.place.tick (base + slot)) split.here in
      let tick : split.place.tick ≡ base + slot = eqb-true split.place.tick (base + slot) parts.1 in
      let whole : entries_in places ≡ entries_in split.before ++ (split.place.tick, split.place.key) ∷ entries_in split.after =
      ap entries_in split.was ∙ entries-append split.before (split.place ∷ split.after) ∙ ap (λ es. entries_in split.before ++ es) (entries-here split.place split.after parts.0) in
      let after = all-right (suc (base + slot)) (entries_in split.before) ((split.place.tick, split.place.key) ∷ entries_in split.after) (subst (AreAllFrom (suc (base + slot))) whole all) in
      absurd (omega (arith, tick, after.0))
