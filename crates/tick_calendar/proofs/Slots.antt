-- Where a slot has no entry its tick lies after; and the least tick of the entries.
use Rattle.std.proofs.lemmas.Bool.{true≢false}
use Rattle.std.proofs.Common.{◌≡◌, ℕ, suc, ◌+◌, ◌<◌, ◌≤◌, true, false, Option, Some, None, List, [], ◌∷◌, ◌++◌, get_or, refl, sym, ap, ◌∙◌, subst, arith, inl, inr, min}
use Rattle.std.proofs.lemmas.Bool.{cases_lt}
use Rattle.std.proofs.lemmas.List.{get_or_read}
use Rattle.tick_calendar.specs.Calendar.{EntryOf}
use Rattle.tick_calendar.specs.declared.place.Place.{Place}
use Rattle.tick_calendar.specs.Wheel.{entries_in, IsWheel, AreAllFrom, IsLeastBy}
use Rattle.std.specs.Option.{is_some}
use Rattle.tick_calendar.proofs.Chains.{entries-append, entries-nil, entries-here, entries-skip, none-first_at}
use Rattle.tick_calendar.proofs.Ahead.{all-left, all-right, all-earlier, all-both, all-after}

pub none-of : (r : Option ℕ) → is_some r ≡ false → r ≡ None
none-of None none = refl
none-of (Some x) none = absurd (true≢false none)

pub some-of : (r : Option ℕ) → is_some r ≡ true → (x : ℕ) × (r ≡ Some x)
some-of None some = absurd (true≢false (sym some))
some-of (Some x) some = (x, refl)

module _ {T : Type 0} where
  -- an empty slot lies after
  pub slot-empty : (places : List (Place T)) (firsts : List (Option ℕ)) (lasts : List ℕ) (base slot : ℕ) → IsWheel places firsts lasts base → slot < 1024 → get_or firsts slot None ≡ None
      → AreAllFrom (base + slot) (entries_in places) → AreAllFrom (suc (base + slot)) (entries_in places)
  slot-empty places firsts lasts base slot wheel low empty all =
      all-after (base + slot) places (none-first_at (base + slot) 0 places (sym (wheel.firsts_at slot low) ∙ empty)) all

  -- a slot that was read to be empty is passed
  pub slot-passed : (places : List (Place T)) (firsts : List (Option ℕ)) (lasts : List ℕ) (base slot next : ℕ) (first : Option ℕ) → IsWheel places firsts lasts base → slot < 1024 → next ≡ suc slot → first ≡ get_or firsts slot first → is_some first ≡ false
      → AreAllFrom (base + slot) (entries_in places) → AreAllFrom (base + next) (entries_in places)
  slot-passed places firsts lasts base slot next first wheel low follows read none all =
      let empty : get_or firsts slot None ≡ None = sym (get_or_read firsts slot first (omega (arith, low, wheel.slots)) read None) ∙ none-of first none in
      let passed : suc (base + slot) ≡ base + next = omega (arith, follows) in
      subst (λ t. AreAllFrom t (entries_in places)) passed (slot-empty places firsts lasts base slot wheel low empty all)

  -- the slots have no entry up to this tick's
  pub none-in-turn : (places : List (Place T)) (firsts : List (Option ℕ)) (lasts : List ℕ) (base slot last now : ℕ) → IsWheel places firsts lasts base → slot < 1024 → get_or firsts slot None ≡ None
      → slot ≤ last → (slot < last → is_some (get_or firsts slot None) ≡ true) → base + last ≡ now → AreAllFrom (base + slot) (entries_in places) → AreAllFrom (suc now) (entries_in places)
  none-in-turn places firsts lasts base slot last now wheel low empty within found come ahead =
      let done : slot ≡ last = elim (cases_lt slot last) [
        | inl below ↦ absurd (true≢false (sym (found below) ∙ ap is_some empty))
        | inr le ↦ omega (arith, within, le)
      ] in
      let tick : suc (base + slot) ≡ suc now = omega (arith, done, come) in
      subst (λ t. AreAllFrom t (entries_in places)) tick (slot-empty places firsts lasts base slot wheel low empty ahead)

  -- nor has the first slot of a new turn
  pub none-after-turn : (places : List (Place T)) (es : List (EntryOf T)) (firsts : List (Option ℕ)) (lasts : List ℕ) (base now least : ℕ) → IsWheel places firsts lasts base → base ≡ least → entries_in places ≡ es
      → IsLeastBy es now least → get_or firsts 0 None ≡ None → AreAllFrom (suc now) (entries_in places)
  none-after-turn places es firsts lasts base now least wheel begins same is empty =
      let first : least ≡ base + 0 = omega (arith, begins) in
      let ahead : AreAllFrom (base + 0) (entries_in places) = subst (λ t. AreAllFrom t (entries_in places)) first (subst (AreAllFrom least) (sym same) is.all) in
      let after = slot-empty places firsts lasts base 0 wheel (omega arith) empty ahead in
      let next : suc (base + 0) ≡ suc least = omega (arith, begins) in
      let past : AreAllFrom (suc least) (entries_in places) = subst (λ t. AreAllFrom t (entries_in places)) next after in
      let come : least ≡ now = is.reached (subst (AreAllFrom (suc least)) same past) in
      subst (λ t. AreAllFrom (suc t) (entries_in places)) come past

  pub least-none : (now : ℕ) → IsLeastBy (entries_in {T = T} []) now now
  unfolding entries_in
  least-none now = record { most = omega arith; all = tt; reached = λ _. refl }

  pub least-skips : (ps : List (Place T)) (p : Place T) (now least : ℕ) → p.waits ≡ false → IsLeastBy (entries_in ps) now least → IsLeastBy (entries_in (ps ++ p ∷ [])) now least
  least-skips ps p now least gone is =
      let same : entries_in (ps ++ p ∷ []) ≡ entries_in ps ++ [] = entries-append ps (p ∷ []) ∙ ap (λ es. entries_in ps ++ es) (entries-skip p [] gone ∙ entries-nil) in
      subst (λ es. IsLeastBy es now least) (sym same) (record {
        most = is.most;
        all = all-both least (entries_in ps) [] is.all tt;
        reached = λ all. is.reached (all-left (suc least) (entries_in ps) [] all);
      })

  lower : (es : List (EntryOf T)) (e : EntryOf T) (now least : ℕ) → IsLeastBy es now least → IsLeastBy (es ++ e ∷ []) now (min least e.0)
  lower es e now least is = record {
    most = omega (arith, is.most);
    all = all-both (min least e.0) es (e ∷ []) (all-earlier least (min least e.0) es (omega arith) is.all) (omega arith, tt);
    reached = λ all. elim (cases_lt e.0 least) [
      | inl below ↦ absurd (let one = (all-right (suc (min least e.0)) es (e ∷ []) all).0 in omega arith)
      | inr le ↦
          let same : min least e.0 ≡ least = omega arith in
          same ∙ is.reached (all-left (suc least) es (e ∷ []) (subst (λ m. AreAllFrom (suc m) (es ++ e ∷ [])) same all))
    ];
  }

  pub least-lowers : (ps : List (Place T)) (p : Place T) (now least : ℕ) → p.waits ≡ true → IsLeastBy (entries_in ps) now least → IsLeastBy (entries_in (ps ++ p ∷ [])) now (min least p.tick)
  least-lowers ps p now least waits is =
      let same : entries_in (ps ++ p ∷ []) ≡ entries_in ps ++ (p.tick, p.key) ∷ [] = entries-append ps (p ∷ []) ∙ ap (λ es. entries_in ps ++ es) (entries-here p [] waits ∙ ap (λ es. (p.tick, p.key) ∷ es) entries-nil) in
      subst (λ es. IsLeastBy es now (min least p.tick)) (sym same) (lower (entries_in ps) (p.tick, p.key) now least is)
