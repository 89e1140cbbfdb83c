-- Entries that are all still ahead of a tick, of two lists and of places.
use Rattle.std.proofs.Common.{◌≡◌, ◌≢◌, ℕ, zero, suc, ◌<◌, ◌≤◌, Bool, true, false, cond, List, [], ◌∷◌, ◌++◌, length, get_or, refl, subst, arith}
use Rattle.std.specs.List.{AllByRecursion}
use Rattle.tick_calendar.specs.Calendar.{EntryOf}
use Rattle.tick_calendar.specs.declared.place.Place.{Place}
use Rattle.tick_calendar.specs.Wheel.{entries_in, AreAllFrom}
use Rattle.tick_calendar.proofs.Chains.{entries-here, HasNone, at-apart, is_at-other}

module _ {T : Type 0} where
  pub all-left : (t : ℕ) (es fs : List (EntryOf T)) → AreAllFrom t (es ++ fs) → AreAllFrom t es
  all-left t [] fs all = tt
  all-left t (e ∷ es) fs all = (all.0, all-left t es fs all.1)

  pub all-right : (t : ℕ) (es fs : List (EntryOf T)) → AreAllFrom t (es ++ fs) → AreAllFrom t fs
  all-right t [] fs all = all
  all-right t (e ∷ es) fs all = all-right t es fs all.1

  -- what is ahead of a tick is ahead of an earlier one
  pub all-earlier : (t u : ℕ) (es : List (EntryOf T)) → u ≤ t → AreAllFrom t es → AreAllFrom u es
  all-earlier t u [] le all = tt
  all-earlier t u (e ∷ es) le all = (omega (arith, all.0), all-earlier t u es le all.1)

  pub all-both : (t : ℕ) (es fs : List (EntryOf T)) → AreAllFrom t es → AreAllFrom t fs → AreAllFrom t (es ++ fs)
  all-both t [] fs left right = right
  all-both t (e ∷ es) fs left right = (left.0, all-both t es fs left.1 right)

  pub all-without : (t : ℕ) (a b : List (EntryOf T)) (e : EntryOf T) → AreAllFrom t (a ++ e ∷ b) → AreAllFrom t (a ++ b)
  all-without t [] b e all = all.1
  all-without t (x ∷ a) b e all = (all.0, all-without t a b e all.1)

  pub all-before : (t : ℕ) (a : List (Place T)) → HasNone t a → AreAllFrom t (entries_in a) → AllByRecursion (λ entry. t < entry.0) (entries_in a)
  unfolding entries_in
  all-before t [] none all = tt
  all-before t (p ∷ a) none all = by-case p.waits refl (all-before t a none.1) all where
    by-case : (b : Bool) → p.waits ≡ b → (AreAllFrom t (entries_in a) → AllByRecursion (λ entry. t < entry.0) (entries_in a))
        → AreAllFrom t (cond b ((p.tick, p.key) ∷ entries_in a) (entries_in a)) → AllByRecursion (λ entry. t < entry.0) (cond b ((p.tick, p.key) ∷ entries_in a) (entries_in a))
    by-case true is more all =
        let apart : p.tick ≢ t = λ e. at-apart t p.tick p is refl none.0 e in
        (omega (arith, all.0, apart), more all.1)
    by-case false is more all = more all

  -- where no entry is of a tick, all are later
  pub all-after : (t : ℕ) (ps : List (Place T)) → HasNone t ps → AreAllFrom t (entries_in ps) → AreAllFrom (suc t) (entries_in ps)
  unfolding entries_in
  all-after t [] none all = tt
  all-after t (p ∷ a) none all = by-case p.waits refl (all-after t a none.1) all where
    by-case : (b : Bool) → p.waits ≡ b → (AreAllFrom t (entries_in a) → AreAllFrom (suc t) (entries_in a))
        → AreAllFrom t (cond b ((p.tick, p.key) ∷ entries_in a) (entries_in a)) → AreAllFrom (suc t) (cond b ((p.tick, p.key) ∷ entries_in a) (entries_in a))
    by-case true is more all =
        let apart : p.tick ≢ t = λ e. at-apart t p.tick p is refl none.0 e in
        (omega (arith, all.0, apart), more all.1)
    by-case false is more all = more all

  -- what is ahead of a later tick has no place for this one
  pub none-ahead : (t u : ℕ) (ps : List (Place T)) → t < u → AreAllFrom u (entries_in ps) → HasNone t ps
  unfolding entries_in
  none-ahead t u [] before all = tt
  none-ahead t u (p ∷ ps) before all = by-case p.waits refl (none-ahead t u ps before) all where
    by-case : (b : Bool) → p.waits ≡ b → (AreAllFrom u (entries_in ps) → HasNone t ps)
        → AreAllFrom u (cond b ((p.tick, p.key) ∷ entries_in ps) (entries_in ps)) → HasNone t (p ∷ ps)
    by-case true is more all = (is_at-other t p (λ same. absurd (omega (arith, same, before, all.0))), more all.1)
    by-case false is more all = (rw is refl, more all)

  all-rest : (t : ℕ) (p : Place T) (ps : List (Place T)) → AreAllFrom t (entries_in (p ∷ ps)) → AreAllFrom t (entries_in ps)
  unfolding entries_in
  all-rest t p ps all = by-case p.waits all where
    by-case : (b : Bool) → AreAllFrom t (cond b ((p.tick, p.key) ∷ entries_in ps) (entries_in ps)) → AreAllFrom t (entries_in ps)
    by-case true all = all.1
    by-case false all = all

  all-first : (t : ℕ) (p : Place T) (ps : List (Place T)) → AreAllFrom t (entries_in (p ∷ ps)) → p.waits ≡ true → t ≤ p.tick
  all-first t p ps all waits = (subst (AreAllFrom t) (entries-here p ps waits) all).0

  -- a place that waits is ahead as its entry is
  pub ahead-at : (t : ℕ) (ps : List (Place T)) → AreAllFrom t (entries_in ps) → (k : ℕ) (d : Place T) → k < length ps → (get_or ps k d).waits ≡ true → t ≤ (get_or ps k d).tick
  ahead-at t [] all k d lt waits = absurd (omega arith)
  ahead-at t (p ∷ ps) all zero d lt waits = all-first t p ps all waits
  ahead-at t (p ∷ ps) all (suc k) d lt waits = ahead-at t ps (all-rest t p ps all) k d (omega arith) waits
