-- What the wheel takes is what is due in the calendar, and what a calendar keeps through a put and a taking.
use Rattle.std.proofs.Common.{◌≡◌, ℕ, zero, suc, ◌+◌, ◌-◌, ◌<◌, ◌≤◌, nat_eq, Option, Some, None, List, [], ◌∷◌, ◌++◌, length, get_or, refl, sym, ap, ◌∙◌, subst, arith}
use Rattle.std.proofs.lemmas.Bool.{eqb-true, and_parts}
use Rattle.std.proofs.lemmas.List.{get_or_at, get_or_append_left, length-append}
use Rattle.std.proofs.lemmas.Option.{same_Some}
use Rattle.std.proofs.lemmas.List.Elements.{All-append, All-cons, All-from_recursion}
use Rattle.std.specs.List.{AllByRecursion, remove, All, slice_get}
use Rattle.std.specs.Option.{option_map}
use Rattle.std.proofs.lemmas.List.Edits.{remove-append_right}
use Rattle.tick_calendar.specs.Calendar.{EntryOf, due_place, due_key, left_after, key_at, without_place, TakesDue}
use Rattle.tick_calendar.proofs.DueByTicks.{due_place-least, due_place-ahead, due_place-Some}
use Rattle.tick_calendar.specs.declared.place.Place.{Place}
use Rattle.tick_calendar.specs.Wheel.{entries_in, IsWheel, RemovesFirst, Stands, StandsFirst, AreAllFrom, IsFrom, IsKeptWheel}
use Rattle.tick_calendar.proofs.Chains.{entries-append, entries-here, none-first_at}
use Rattle.tick_calendar.proofs.Ahead.{all-earlier, all-left, all-right, all-both, all-without, all-before}

module _ {T : Type 0} where
  due_place-first : (before after : List (EntryOf T)) (e : EntryOf T) (now : ℕ) → AllByRecursion (λ other. e.0 < other.0) before → AllByRecursion (λ other. e.0 ≤ other.0) after → e.0 ≤ now → due_place (before ++ e ∷ after) now ≡ Some (length before)
  due_place-first before after e now later least due =
      let at : get_or (before ++ e ∷ after) (length before) e ≡ e = get_or_at before e after e (length before) refl in
      let within : length before < length (before ++ e ∷ after) = omega (arith, length-append before (e ∷ after)) in
      due_place-least (before ++ e ∷ after) now (length before) e within (rw at due)
      (rw at (All-append (λ other. e.0 ≤ other.0) before (e ∷ after)
      (λ k d lt. let low = All-from_recursion (λ other. e.0 < other.0) before later k d lt in omega (arith, low))
      (All-cons (λ other. e.0 ≤ other.0) e after (omega arith) (All-from_recursion (λ other. e.0 ≤ other.0) after least))))
      (λ k lt. rw (at, get_or_append_left before (e ∷ after) e k lt) (All-from_recursion (λ other. e.0 < other.0) before later k e lt))

  removed-at : (before after : List (EntryOf T)) (e : EntryOf T) → remove (before ++ e ∷ after) (length before) ≡ before ++ after
  removed-at before after e =
      let zero_left : length before - length before ≡ 0 = omega arith in
      remove-append_right before (e ∷ after) (length before) (length before) refl (omega arith) ∙ ap (λ k. before ++ remove (e ∷ after) k) zero_left

  found-at : (before after : List (EntryOf T)) (e : EntryOf T) → slice_get (before ++ e ∷ after) (length before) ≡ Some e
  found-at [] after e = refl
  found-at (x ∷ before) after e = found-at before after e

  taken-is-due : (t now : ℕ) (key : T) (old new : List (Place T)) → RemovesFirst t old new key → AreAllFrom t (entries_in old) → t ≤ now → (due_key (entries_in old) now ≡ Some key) × (left_after (entries_in old) now ≡ entries_in new)
  taken-is-due t now key old new removes all due =
      let tick : removes.place.tick ≡ t = eqb-true removes.place.tick t (and_parts removes.place.waits (nat_eq removes.place.tick t) removes.at).1 in
      let e : EntryOf T = (removes.place.tick, removes.place.key) in
      let whole : entries_in old ≡ entries_in removes.before ++ e ∷ entries_in removes.after = ap entries_in removes.was ∙ entries-append removes.before (removes.place ∷ removes.after) ∙ ap (λ es. entries_in removes.before ++ es) (entries-here removes.place removes.after (and_parts removes.place.waits (nat_eq removes.place.tick t) removes.at).0) in
      let all' = subst (AreAllFrom t) whole all in
      let later = all-before t removes.before (none-first_at t 0 removes.before removes.none) (all-left t (entries_in removes.before) (e ∷ entries_in removes.after) all') in
      let least = (all-right t (entries_in removes.before) (e ∷ entries_in removes.after) all').1 in
      let place : due_place (entries_in removes.before ++ e ∷ entries_in removes.after) now ≡ Some (length (entries_in removes.before)) =
      due_place-first (entries_in removes.before) (entries_in removes.after) e now (subst (λ u. AllByRecursion (λ (entry : EntryOf T). u < entry.0) (entries_in removes.before)) (sym tick) later) (subst (λ u. AllByRecursion (λ (entry : EntryOf T). u ≤ entry.0) (entries_in removes.after)) (sym tick) least) (omega (arith, tick, due)) in (
        ap (λ es. due_key es now) whole ∙ ap (key_at (entries_in removes.before ++ e ∷ entries_in removes.after)) place ∙ ap (option_map (λ (x : EntryOf T). x.1)) (found-at (entries_in removes.before) (entries_in removes.after) e) ∙ ap Some (sym removes.key_is),
        ap (λ es. left_after es now) whole ∙ ap (without_place (entries_in removes.before ++ e ∷ entries_in removes.after)) place ∙ removed-at (entries_in removes.before) (entries_in removes.after) e ∙ sym removes.left,
      )

  -- every tick is still ahead
  pub all-later : (now : ℕ) (es : List (EntryOf T)) → AreAllFrom (suc now) es → All (λ entry. now < entry.0) es
  all-later now es all = λ k d lt. let later : suc now ≤ (get_or es k d).0 = All-from_recursion (IsFrom (suc now)) es all k d lt in omega (arith, later)

  none-due : (now : ℕ) (es : List (EntryOf T)) → AreAllFrom (suc now) es → due_place es now ≡ None
  none-due now es all = due_place-ahead es now (all-later now es all)

  pub due-none : (now : ℕ) (es : List (EntryOf T)) → AreAllFrom (suc now) es → due_key es now ≡ None
  due-none now es all = ap (key_at es) (none-due now es all)

  -- where none is due, all is left
  pub left-all : (now : ℕ) (es : List (EntryOf T)) → AreAllFrom (suc now) es → left_after es now ≡ es
  left-all now es all = ap (without_place es) (none-due now es all)

  -- a key that is taken isn't where all ticks are ahead
  pub taken-not_ahead : (es : List (EntryOf T)) (now : ℕ) (key : T) → due_key es now ≡ Some key → All (λ entry. now < entry.0) es → ⊥
  taken-not_ahead es now key is ahead = let none : due_key es now ≡ None = ap (key_at es) (due_place-ahead es now ahead) in absurd (cc)

  -- a key that is at a place is that of the entry there
  told-at : (es : List (EntryOf T)) (i : ℕ) (key : T) → key_at es (Some i) ≡ Some key → (get_or es i (0, key)).1 ≡ key
  told-at [] i key is = refl
  told-at (e ∷ es) zero key is = same_Some _ _ is
  told-at (e ∷ es) (suc i) key is = told-at es i key is

  -- the due key and what is left make a taking
  pub takes-due : (es left : List (EntryOf T)) (now : ℕ) (key : T) → due_key es now ≡ Some key → left_after es now ≡ left → TakesDue es left now key
  takes-due es left now key is same = by-case (due_place es now) refl is same where
    by-case : (place : Option ℕ) → due_place es now ≡ place → key_at es place ≡ Some key → without_place es place ≡ left → TakesDue es left now key
    by-case None at is same = absurd (cc (is))
    by-case (Some i) at is same =
        subst (λ l. TakesDue es l now key) same (subst (λ k. TakesDue es (remove es i) now k) (told-at es i key is) (due_place-Some es now i (0, key) at).1)

  -- an entry less
  pub removes-one : (t : ℕ) (key : T) (old new : List (Place T)) → RemovesFirst t old new key → length (entries_in old) ≡ suc (length (entries_in new))
  removes-one t key old new removes =
      let waits = (and_parts removes.place.waits (nat_eq removes.place.tick t) removes.at).0 in
      let whole : entries_in old ≡ entries_in removes.before ++ (removes.place.tick, removes.place.key) ∷ entries_in removes.after =
      ap entries_in removes.was ∙ entries-append removes.before (removes.place ∷ removes.after) ∙ ap (λ es. entries_in removes.before ++ es) (entries-here removes.place removes.after waits) in
      omega (arith, ap length whole, ap length removes.left, length-append (entries_in removes.before) ((removes.place.tick, removes.place.key) ∷ entries_in removes.after), length-append (entries_in removes.before) (entries_in removes.after))

  -- what is left is still ahead
  pub removes-ahead : (t u : ℕ) (key : T) (old new : List (Place T)) → RemovesFirst t old new key → AreAllFrom u (entries_in old) → AreAllFrom u (entries_in new)
  removes-ahead t u key old new removes all =
      let waits = (and_parts removes.place.waits (nat_eq removes.place.tick t) removes.at).0 in
      let whole : entries_in old ≡ entries_in removes.before ++ (removes.place.tick, removes.place.key) ∷ entries_in removes.after =
      ap entries_in removes.was ∙ entries-append removes.before (removes.place ∷ removes.after) ∙ ap (λ es. entries_in removes.before ++ es) (entries-here removes.place removes.after waits) in
      subst (AreAllFrom u) (sym removes.left) (all-without u (entries_in removes.before) (entries_in removes.after) (removes.place.tick, removes.place.key) (subst (AreAllFrom u) whole all))

  -- what a taking from the wheel is to the calendar
  pub removes-due : (t now : ℕ) (key : T) (es : List (EntryOf T)) (old new : List (Place T)) → RemovesFirst t old new key → entries_in old ≡ es → AreAllFrom t (entries_in old) → t ≤ now → (due_key es now ≡ Some key) × (left_after es now ≡ entries_in new)
  removes-due t now key es old new removes same all due =
      subst (λ l. (due_key l now ≡ Some key) × (left_after l now ≡ entries_in new)) same (taken-is-due t now key old new removes all due)

  -- where there is none, all of them are ahead
  pub none-left : (t : ℕ) (es : List (EntryOf T)) → length es ≡ 0 → AreAllFrom t es
  none-left t [] none = tt
  none-left t (e ∷ es) none = absurd (omega (arith, none))

  -- what a calendar keeps where it goes on to a tick before which it rests
  pub rests-kept : (ps : List (Place T)) (firsts : List (Option ℕ)) (lasts : List ℕ) (base slot waiting room clock now next capacity : ℕ) → IsKeptWheel ps firsts lasts base slot waiting room clock capacity → clock ≤ now → now < next → AreAllFrom next (entries_in ps)
      → IsKeptWheel ps firsts lasts base slot waiting room now capacity
  rests-kept ps firsts lasts base slot waiting room clock now next capacity kept later before all = record {
    wheel = kept.wheel;
    counted = kept.counted;
    within = kept.within;
    roomy = kept.roomy;
    slot_most = kept.slot_most;
    begun = omega (arith, kept.begun, later);
    ahead = kept.ahead;
    stands = λ _. all-earlier next (suc now) (entries_in ps) before all;
  }

  -- what a calendar keeps after a put
  pub put-kept : (ps : List (Place T)) (es : List (EntryOf T)) (firsts : List (Option ℕ)) (lasts : List ℕ) (base slot waiting room clock capacity tick : ℕ) (key : T) → IsWheel ps firsts lasts base → slot < 1024
      → entries_in ps ≡ es ++ (tick, key) ∷ [] → length es ≡ waiting → waiting + 1 ≤ room → room ≤ capacity → base + slot ≤ clock → clock ≤ tick → AreAllFrom (base + slot) es → Stands base slot clock es → clock < tick
      → IsKeptWheel ps firsts lasts base slot (waiting + 1) room clock capacity
  put-kept ps es firsts lasts base slot waiting room clock capacity tick key wheel low more counted within roomy begun coming ahead stands later = record {
    wheel = wheel;
    counted = omega (arith, ap length more, length-append es ((tick, key) ∷ []), counted);
    within = within;
    roomy = roomy;
    slot_most = low;
    begun = begun;
    ahead = subst (AreAllFrom (base + slot)) (sym more) (all-both (base + slot) es ((tick, key) ∷ []) ahead (omega (arith, begun, coming), tt));
    stands = λ none. subst (AreAllFrom (suc clock)) (sym more) (all-both (suc clock) es ((tick, key) ∷ []) (stands (all-left (suc (base + slot)) es ((tick, key) ∷ []) (subst (AreAllFrom (suc (base + slot))) more none))) (omega (arith, later), tt));
  }

  -- what lies ahead of a tick still does, after a taking, and with an entry that does
  pub taken-from : (u t : ℕ) (key : T) (old new : List (Place T)) → RemovesFirst t old new key → AreAllFrom u (entries_in old) → AreAllFrom u (entries_in new)
  taken-from u t key old new removes all = removes-ahead t u key old new removes all

  pub put-from : (next least tick : ℕ) (key : T) (es new : List (EntryOf T)) → least ≤ next → least ≤ tick → new ≡ es ++ (tick, key) ∷ [] → AreAllFrom next es → AreAllFrom least new
  put-from next least tick key es new less by is all = subst (AreAllFrom least) (sym is) (all-both least es ((tick, key) ∷ []) (all-earlier next least es less all) (by, tt))

  -- where all lie ahead of a later tick, none is due
  pub none-until : (now next : ℕ) (es : List (EntryOf T)) → now < next → AreAllFrom next es → AreAllFrom (suc now) es
  none-until now next es before all = all-earlier next (suc now) es before all

  -- what is left without the first entry of a tick
  without-first : (t : ℕ) (key : T) (places : List (Place T)) → StandsFirst t places key → (left : List (Place T)) × RemovesFirst t places left key
  without-first t key places first = (first.before ++ first.after, record { before = first.before; place = first.place; after = first.after; was = first.is; at = first.at; none = first.none; key_is = first.key_is; left = entries-append first.before first.after })

  -- the first entry of the least tick is due
  pub first-due : (t now : ℕ) (key : T) (es : List (EntryOf T)) (places : List (Place T)) → StandsFirst t places key → entries_in places ≡ es → AreAllFrom t (entries_in places) → t ≤ now → due_key es now ≡ Some key
  first-due t now key es places first same all due =
      let taken = without-first t key places first in
      (removes-due t now key es places taken.0 taken.1 same all due).0
