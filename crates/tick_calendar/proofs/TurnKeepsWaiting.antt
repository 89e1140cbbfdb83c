-- A turn: what waits is kept, and comes into the chains from the last place on.
use Rattle.std.proofs.lemmas.Bool.{true≢false}
use Rattle.std.proofs.Common.{◌≡◌, ◌≢◌, ℕ, suc, ◌+◌, ◌<◌, ◌≤◌, Bool, true, false, nat_eq, cond, Option, Some, None, List, [], ◌∷◌, ◌++◌, length, get_or, set, refl, sym, ap, ◌∙◌, subst, arith, inl, inr, take, drop}
use Rattle.std.proofs.lemmas.Bool.{cases_eq, cases_lt, eq-eqb, eqb-true, and_parts}
use Rattle.std.proofs.lemmas.List.{length-set, get_or-set_same, get_or-set_other, get_or_read, drop-set, set_split, take-append-drop}
use Rattle.std.proofs.lemmas.Option.{same_Some}
use Rattle.std.proofs.lemmas.List.Elements.{All-from_recursion}
use Rattle.std.specs.List.{AllByRecursion, filter, All}
use Rattle.tick_calendar.specs.declared.place.Place.{Place}
use Rattle.tick_calendar.specs.Wheel.{entries_in, waits_at, first_at, last_at, AreAllFrom, AreLinked, IsWheel, IsWheelFrom}
use Rattle.std.proofs.Math.Seq.{drop-cons}
use Rattle.std.specs.Option.{is_some}
use Rattle.tick_calendar.proofs.Chains.{entries-nil, entries-here, entries-alike, none-found, none-first_at, is_at-other, first_at-here, first_at-skip, found-last, last_at-skip, last_at-rest, last_at-alone}
use Rattle.tick_calendar.proofs.Ahead.{none-ahead}
use Rattle.tick_calendar.proofs.Links.{linked-cons}

-- a slot that is read
pub some-read : (xs : List (Option ℕ)) (i : ℕ) (x : Option ℕ) → i < length xs → x ≡ get_or xs i x → (b : Bool) → is_some x ≡ b → is_some (get_or xs i None) ≡ b
some-read xs i x within read b is = ap is_some (sym (get_or_read xs i x within read None)) ∙ is

module _ {T : Type 0} where
  -- a place past the turn is in no chain
  turn-beyond : (i : ℕ) (p : Place T) (ps : List (Place T)) (firsts : List (Option ℕ)) (lasts : List ℕ) (base : ℕ) → IsWheelFrom (suc i) ps firsts lasts base → base + 1024 ≤ p.tick → IsWheelFrom i (p ∷ ps) firsts lasts base
  turn-beyond i p ps firsts lasts base wheel beyond =
      let other : (s : ℕ) → s < 1024 → waits_at (base + s) p ≡ false = λ s low. is_at-other (base + s) p (λ e. absurd (omega (arith, e, low, beyond))) in
      record {
        slots = wheel.slots;
        ends = wheel.ends;
        firsts_at = λ s within. wheel.firsts_at s within ∙ sym (first_at-skip (base + s) i p ps (other s within));
        lasts_at = λ s last within found. wheel.lasts_at s last within (sym (last_at-skip (base + s) i p ps (other s within)) ∙ found);
        linked = linked-cons (base + 1024) i p ps (λ _ low. absurd (omega (arith, low, beyond))) wheel.linked;
      }

  -- one of the turn goes before the chain of its tick, and is the last of it where there was none
  turn-links : (i slot : ℕ) (p : Place T) (ps : List (Place T)) (firsts : List (Option ℕ)) (lasts lasts' : List ℕ) (base : ℕ) → IsWheelFrom (suc i) ps firsts lasts base → slot < 1024 → waits_at (base + slot) p ≡ true → p.next ≡ get_or firsts slot None
      → length lasts' ≡ 1024 → ((s : ℕ) → s ≢ slot → get_or lasts' s 0 ≡ get_or lasts s 0) → (get_or firsts slot None ≡ None → get_or lasts' slot 0 ≡ i) → ((f : ℕ) → get_or firsts slot None ≡ Some f → get_or lasts' slot 0 ≡ get_or lasts slot 0)
      → IsWheelFrom i (p ∷ ps) (set firsts slot (Some i)) lasts' base
  turn-links i slot p ps firsts lasts lasts' base wheel low at next ends others fresh stays =
      let tick : p.tick ≡ base + slot = eqb-true p.tick (base + slot) (and_parts p.waits (nat_eq p.tick (base + slot)) at).1 in
      let other : (s : ℕ) → s ≢ slot → waits_at (base + s) p ≡ false = λ s apart. is_at-other (base + s) p (λ e. apart (omega (arith, e, tick))) in
      record {
        slots = length-set firsts slot (Some i) ∙ wheel.slots;
        ends = ends;
        firsts_at = λ s within. elim (cases_eq s slot) [
          | inl same ↦ rw same (get_or-set_same firsts slot (Some i) None (omega (arith, wheel.slots, low)) ∙ sym (first_at-here (base + slot) i p ps at))
          | inr apart ↦ get_or-set_other firsts slot s (Some i) None apart ∙ wheel.firsts_at s within ∙ sym (first_at-skip (base + s) i p ps (other s apart))
        ];
        lasts_at = λ s last within found. elim (cases_eq s slot) [
          | inl same ↦ rw same (last-of (get_or firsts slot None) refl last (rw same at found))
          | inr apart ↦ others s apart ∙ wheel.lasts_at s last within (sym (last_at-skip (base + s) i p ps (other s apart)) ∙ found)
        ];
        linked = linked-cons (base + 1024) i p ps (λ _ _. next ∙ wheel.firsts_at slot low ∙ ap (λ t. first_at t (suc i) ps) (sym tick)) wheel.linked;
      } where
        last-of : (first : Option ℕ) → get_or firsts slot None ≡ first → (last : ℕ) → last_at (base + slot) i (p ∷ ps) ≡ Some last → get_or lasts' slot 0 ≡ last
        last-of None is last found = fresh is ∙ same_Some _ _ (sym (last_at-alone (base + slot) i p ps at (none-first_at (base + slot) (suc i) ps (sym (wheel.firsts_at slot low) ∙ is))) ∙ found)
        last-of (Some f) is last found =
            let q = found-last (base + slot) (suc i) f ps (sym (wheel.firsts_at slot low) ∙ is) in
            stays f is ∙ wheel.lasts_at slot q.0 low q.1 ∙ same_Some _ _ (sym (last_at-rest (base + slot) i q.0 p ps q.1) ∙ found)

  -- no place is in a chain yet
  pub turn-begins : (i : ℕ) (firsts : List (Option ℕ)) (lasts : List ℕ) (base : ℕ) → ((slot : ℕ) → slot < 1024 → get_or firsts slot None ≡ None) → length firsts ≡ 1024 → length lasts ≡ 1024 → IsWheelFrom {T = T} i [] firsts lasts base
  unfolding first_at last_at AreLinked
  turn-begins i firsts lasts base empty slots ends = record {
    slots = slots;
    ends = ends;
    firsts_at = λ slot low. empty slot low;
    lasts_at = λ slot last low found. absurd (cc (found));
    linked = tt;
  }

  -- the slots from the one at hand on are cleared, and those before it are empty
  pub slots-cleared : (places : List (Place T)) (firsts cleared : List (Option ℕ)) (lasts : List ℕ) (base slot : ℕ) → IsWheel places firsts lasts base → AreAllFrom (base + slot) (entries_in places)
      → ((s : ℕ) → slot ≤ s → get_or cleared s None ≡ None) → ((s : ℕ) → s < slot → get_or cleared s None ≡ get_or firsts s None) → (s : ℕ) → s < 1024 → get_or cleared s None ≡ None
  slots-cleared places firsts cleared lasts base slot wheel past from before s low = elim (cases_lt s slot) [
    | inl less ↦ before s less ∙ wheel.firsts_at s low ∙ none-found (base + s) 0 places (none-ahead (base + s) (base + slot) places (omega (arith, less)) past)
    | inr more ↦ from s more
  ]

  -- each place is in its chain
  pub turn-ends : (ps : List (Place T)) (firsts : List (Option ℕ)) (lasts : List ℕ) (base : ℕ) → IsWheelFrom 0 ps firsts lasts base → IsWheel ps firsts lasts base
  turn-ends ps firsts lasts base wheel = record { slots = wheel.slots; ends = wheel.ends; firsts_at = wheel.firsts_at; lasts_at = wheel.lasts_at; linked = wheel.linked }

  from-here : (ps : List (Place T)) (i : ℕ) (x : Place T) → i < length ps → x ≡ get_or ps i x → drop i ps ≡ x ∷ drop (suc i) ps
  from-here ps i x within read = drop-cons ps i x within ∙ ap (λ p. p ∷ drop (suc i) ps) (sym read)

  -- a place past the turn stays out
  pub link-beyond : (ps : List (Place T)) (firsts : List (Option ℕ)) (lasts : List ℕ) (base i : ℕ) (x : Place T) → IsWheelFrom (suc i) (drop (suc i) ps) firsts lasts base → i < length ps → x ≡ get_or ps i x → base + 1024 ≤ x.tick
      → IsWheelFrom i (drop i ps) firsts lasts base
  link-beyond ps firsts lasts base i x wheel within read beyond =
      subst (λ l. IsWheelFrom i l firsts lasts base) (sym (from-here ps i x within read)) (turn-beyond i x (drop (suc i) ps) firsts lasts base wheel beyond)

  from-written : (ps : List (Place T)) (i : ℕ) (y : Place T) → i < length ps → drop i (set ps i y) ≡ y ∷ drop (suc i) ps
  from-written ps i y within = let step : i + 1 ≡ suc i = omega arith in drop-set ps i y within ∙ ap (λ k. y ∷ drop k ps) step

  -- one of the turn goes before the others of its tick
  pub link-before : (ps : List (Place T)) (firsts : List (Option ℕ)) (lasts : List ℕ) (base i slot : ℕ) (y : Place T) → IsWheelFrom (suc i) (drop (suc i) ps) firsts lasts base → i < length ps → slot < 1024
      → y.waits ≡ true → y.tick ≡ base + slot → y.next ≡ get_or firsts slot None → is_some (get_or firsts slot None) ≡ true → IsWheelFrom i (drop i (set ps i y)) (set firsts slot (Some i)) lasts base
  link-before ps firsts lasts base i slot y wheel within low waits tick next some =
      let at : waits_at (base + slot) y ≡ true = rw waits (eq-eqb y.tick (base + slot) tick) in
      subst (λ l. IsWheelFrom i l (set firsts slot (Some i)) lasts base) (sym (from-written ps i y within))
      (turn-links i slot y (drop (suc i) ps) firsts lasts lasts base wheel low at next wheel.ends (λ s apart. refl)
      (λ none. absurd (true≢false (sym some ∙ ap is_some none))) (λ f is. refl))

  -- or alone, as its first and its last
  pub link-alone : (ps : List (Place T)) (firsts : List (Option ℕ)) (lasts : List ℕ) (base i slot : ℕ) (y : Place T) → IsWheelFrom (suc i) (drop (suc i) ps) firsts lasts base → i < length ps → slot < 1024
      → y.waits ≡ true → y.tick ≡ base + slot → y.next ≡ get_or firsts slot None → is_some (get_or firsts slot None) ≡ false → IsWheelFrom i (drop i (set ps i y)) (set firsts slot (Some i)) (set lasts slot i) base
  link-alone ps firsts lasts base i slot y wheel within low waits tick next none =
      let at : waits_at (base + slot) y ≡ true = rw waits (eq-eqb y.tick (base + slot) tick) in
      subst (λ l. IsWheelFrom i l (set firsts slot (Some i)) (set lasts slot i) base) (sym (from-written ps i y within))
      (turn-links i slot y (drop (suc i) ps) firsts lasts (set lasts slot i) base wheel low at next (length-set lasts slot i ∙ wheel.ends)
      (λ s apart. get_or-set_other lasts slot s i 0 apart) (λ _. get_or-set_same lasts slot i 0 (omega (arith, wheel.ends, low)))
      (λ f is. absurd (true≢false (sym (ap is_some is) ∙ none))))

  -- a place's next place is no part of its entry
  pub entries-linked : (ps : List (Place T)) (i : ℕ) (x y : Place T) → i < length ps → x ≡ get_or ps i x → y.tick ≡ x.tick → y.key ≡ x.key → y.waits ≡ x.waits → entries_in (set ps i y) ≡ entries_in ps
  entries-linked ps i x y within read tick key waits =
      let whole : take i ps ++ x ∷ drop (suc i) ps ≡ ps = ap (λ t. take i ps ++ t) (sym (from-here ps i x within read)) ∙ take-append-drop i ps in
      ap entries_in (set_split ps i y within) ∙ entries-alike (take i ps) (drop (suc i) ps) y x tick key waits ∙ ap entries_in whole

  pub entries-kept : (ps : List (Place T)) → entries_in (filter (λ p. p.waits) ps) ≡ entries_in ps
  unfolding entries_in
  entries-kept [] = refl
  entries-kept (p ∷ ps) = by-case p.waits refl (entries-kept ps) where
    by-case : (b : Bool) → p.waits ≡ b → entries_in (filter (λ q. q.waits) ps) ≡ entries_in ps
        → entries_in (cond b (p ∷ filter (λ q. q.waits) ps) (filter (λ q. q.waits) ps)) ≡ cond b ((p.tick, p.key) ∷ entries_in ps) (entries_in ps)
    by-case true is same = entries-here p (filter (λ q. q.waits) ps) is ∙ ap (λ es. (p.tick, p.key) ∷ es) same
    by-case false is same = same

  kept-each : (ps : List (Place T)) → AllByRecursion (λ p. p.waits ≡ true) (filter (λ p. p.waits) ps)
  kept-each [] = tt
  kept-each (p ∷ ps) = by-case p.waits refl (kept-each ps) where
    by-case : (b : Bool) → p.waits ≡ b → AllByRecursion (λ q. q.waits ≡ true) (filter (λ q. q.waits) ps)
        → AllByRecursion (λ q. q.waits ≡ true) (cond b (p ∷ filter (λ q. q.waits) ps) (filter (λ q. q.waits) ps))
    by-case true is rest = (is, rest)
    by-case false is rest = rest

  pub kept-wait : (ps : List (Place T)) → All (λ p. p.waits ≡ true) (filter (λ p. p.waits) ps)
  kept-wait ps = All-from_recursion (λ p. p.waits ≡ true) (filter (λ p. p.waits) ps) (kept-each ps)

  -- as many entries as places
  pub length-full : (ps : List (Place T)) → All (λ p. p.waits ≡ true) ps → length ps ≡ length (entries_in ps)
  length-full [] all = sym (ap length entries-nil)
  length-full (p ∷ ps) all =
      let here : p.waits ≡ true = all 0 p (omega arith) in
      ap suc (length-full ps (λ k d lt. all (suc k) d (omega arith))) ∙ sym (ap length (entries-here p ps here))

  pub read-ahead : (ps : List (Place T)) (i t : ℕ) (x : Place T) → All (λ p. t ≤ p.tick) ps → i < length ps → x ≡ get_or ps i x → t ≤ x.tick
  read-ahead ps i t x all within read = subst (λ (p : Place T). t ≤ p.tick) (sym read) (all i x within)

  pub read-waits : (ps : List (Place T)) (i : ℕ) (x : Place T) → All (λ p. p.waits ≡ true) ps → i < length ps → x ≡ get_or ps i x → x.waits ≡ true
  read-waits ps i x all within read = subst (λ (p : Place T). p.waits ≡ true) (sym read) (all i x within)

  pub read-same : (ps : List (Place T)) (i : ℕ) (x y : Place T) → i < length ps → x ≡ get_or ps i x → y ≡ get_or ps i y → y ≡ x
  read-same ps i x y within read_x read_y = read_y ∙ sym (get_or_read ps i x within read_x y)
