-- The admission test under changes of the rows: a sum row by row, what taking a row out, moving it and adding
-- one do to it, and where the best level of a new contract lies.
use Rattle.std.proofs.Common.{◌≡◌, ℕ, zero, suc, ◌+◌, ◌<◌, ◌≤◌, ⊎_elim, Bool, true, false, cond, List, [], ◌∷◌, ◌++◌, length, map, Decides, Some, None, refl, sym, ap, ◌∙◌, subst, arith}
use Rattle.std.proofs.lemmas.Bool.{leb-true, le-leb, lt-leb, cases_lt, cases_eq, cases_Bool, true≢false, and_parts, and_from, or_cases, or_left, or_right, false_from_ne_true}
use Rattle.std.proofs.lemmas.Bool.Decides.{Decides-like}
use Rattle.std.proofs.lemmas.List.Elements.{All-head, All-tail}
use Rattle.std.specs.List.{All, filter}
use Rattle.net_units.specs.LevelBounds.{bound_at}
use Rattle.traffic_contract.specs.Contract.{Traffic}
use Rattle.traffic_contract.specs.declared.admission.Test.{Test}
use Rattle.traffic_contract.specs.declared.admission.Test.TheVariants.{Whole, Least}
use Rattle.traffic_contract.specs.Admission.{Server, Admitted, total, work_in, work_up_to, load, level_sum, WindowCounts, PassesAt, HasWindow, Passes, fits_in, some_upto, some_counts, passes_at, passes_up_to, passes, with_row, HasRoom, admits, first_level, best_level, IsBest, IsRefused}

-- ---- sums over lists

pub total-append : {X : Type 0} (f : X → ℕ) (xs ys : List X) → total f (xs ++ ys) ≡ total f xs + total f ys
total-append f [] ys = omega arith
total-append f (x ∷ xs) ys = omega (arith, total-append f xs ys)

pub total-push : {X : Type 0} (f : X → ℕ) (xs : List X) (y : X) → total f (xs ++ y ∷ []) ≡ total f xs + f y
total-push f xs y = omega (arith, total-append f xs (y ∷ []))

-- an item in the middle adds its part
pub total-middle : {X : Type 0} (f : X → ℕ) (xs : List X) (y : X) (ys : List X) → total f (xs ++ y ∷ ys) ≡ total f (xs ++ ys) + f y
total-middle f xs y ys = omega (arith, total-append f xs (y ∷ ys), total-append f xs ys)

pub total-map : {X Y : Type 0} (f : Y → ℕ) (g : X → Y) (xs : List X) → total f (map g xs) ≡ total (λ x. f (g x)) xs
total-map f g [] = refl
total-map f g (x ∷ xs) = ap (λ n. f (g x) + n) (total-map f g xs)

pub total-filter-le : {X : Type 0} (f : X → ℕ) (test : X → Bool) (xs : List X) → total f (filter test xs) ≤ total f xs
total-filter-le f test [] = omega arith
total-filter-le f test (x ∷ xs) =
    let rest = total-filter-le f test xs in
    elim (test x) as (λ b. total f (cond b (x ∷ filter test xs) (filter test xs)) ≤ f x + total f xs) [ true ↦ omega arith | false ↦ omega arith ]

-- a sum whose parts are no larger is no larger
pub total-le : {X : Type 0} (f g : X → ℕ) (xs : List X) → All (λ x. f x ≤ g x) xs → total f xs ≤ total g xs
total-le f g [] less = omega arith
total-le f g (x ∷ xs) less =
    omega (arith, All-head (λ y. f y ≤ g y) x xs less, total-le f g xs (All-tail (λ y. f y ≤ g y) x xs less))

-- ---- what a row adds to the levels

pub work_up_to-within : (rate m w : ℕ) (row : Admitted) → row.level ≤ m → work_up_to rate m w row ≡ work_in rate row.contract w
unfolding work_up_to
work_up_to-within rate m w row h = rw (le-leb row.level m h) refl

pub work_up_to-above : (rate m w : ℕ) (row : Admitted) → m < row.level → work_up_to rate m w row ≡ 0
unfolding work_up_to
work_up_to-above rate m w row h = rw (lt-leb row.level m h) refl

-- a row of the same contract at a level that is no smaller adds no more
pub work_up_to-le : (rate m w : ℕ) (row other : Admitted) → other.contract ≡ row.contract → row.level ≤ other.level
    → work_up_to rate m w other ≤ work_up_to rate m w row
work_up_to-le rate m w row other same larger =
    ⊎_elim (λ (above : m < other.level). (let e = work_up_to-above rate m w other above in omega (arith, e)))
    (λ (within : other.level ≤ m).
    let e = work_up_to-within rate m w other within in
    let f = work_up_to-within rate m w row (omega arith) in
    let g : work_in rate other.contract w ≡ work_in rate row.contract w = ap (λ contract. work_in rate contract w) same in
    omega (arith, e, f, g))
    (cases_lt m other.level)

-- the load with a new row is the load before and what the row adds
pub load-with_row : (server : Server) (rows : List Admitted) (contract : Traffic) (level m w : ℕ)
    → load server (with_row rows contract level) m w ≡ load server rows m w + work_up_to server.rate m w (record { contract = contract; level = level })
unfolding load
load-with_row server rows contract level m w =
    let e = total-push (work_up_to server.rate m w) rows (record { contract = contract; level = level }) in omega (arith, e)

-- ---- the test

-- whether some number up to n passes a test
Decides-some_upto : (test : ℕ → Bool) (n : ℕ) → Decides (some_upto test n) ((w : ℕ) × (1 ≤ w) × (w ≤ n) × (test w ≡ true))
unfolding some_upto
Decides-some_upto test zero = (λ e. cc, λ found. absurd (omega (arith, found.1, found.2)))
Decides-some_upto test (suc n) =
    let below = Decides-some_upto test n in (
      λ e. ⊎_elim (λ (last : test (suc n) ≡ true). (suc n, omega arith, omega arith, last)) (λ (earlier : some_upto test n ≡ true). let found = below.0 earlier in (found.0, found.1, omega (arith, found.2), found.3)) (or_cases (test (suc n)) (some_upto test n) e),
      λ found. ⊎_elim (λ (last : found.0 ≡ suc n). or_left (test (suc n)) (some_upto test n) (subst (λ w. test w ≡ true) last found.3)) (λ (other : found.0 ≡ suc n → ⊥). or_right (test (suc n)) (some_upto test n) (below.1 (found.0, found.1, omega (arith, other, found.2), found.3))) (cases_eq found.0 (suc n)),
    )

Decides-some_counts : (kind : Test) (test : ℕ → Bool) (d : ℕ)
    → Decides (some_counts kind test d) ((w : ℕ) × WindowCounts kind d w × (test w ≡ true))
Decides-some_counts Whole test d = (λ e. (d, refl, e), λ found. subst (λ w. test w ≡ true) found.1 found.2)
Decides-some_counts Least test d =
    Decides-like _ (λ found. (found.0, (found.1, found.2), found.3)) (λ found. (found.0, found.1.0, found.1.1, found.2)) (Decides-some_upto test d)

-- whether a level passes
pub Decides-passes_at : (server : Server) (rows : List Admitted) (m : ℕ) → Decides (passes_at server rows m) (HasWindow server rows m)
Decides-passes_at server rows m =
    Decides-like _ (λ found. record { window = found.0; counts = found.1; fits = leb-true (load server rows m found.0) found.0 found.2 }) (λ passed. (passed.window, passed.counts, le-leb (load server rows m passed.window) passed.window passed.fits))
    (Decides-some_counts server.test (fits_in server rows m) (bound_at server.bounds m))

-- a window of a level that passes
pub window-of : (server : Server) (rows : List Admitted) (m : ℕ) → PassesAt server rows m → HasWindow server rows m
window-of server rows m = (Decides-passes_at server rows m).0

-- a level passes whose load is no larger than one that passes
pub PassesAt-le : (server : Server) (rows others : List Admitted) (m : ℕ) → ((w : ℕ) → load server others m w ≤ load server rows m w)
    → PassesAt server rows m → PassesAt server others m
PassesAt-le server rows others m less passed =
    let found = window-of server rows m passed in
    (Decides-passes_at server others m).1 (record {
      window = found.window;
      counts = found.counts;
      fits = (let fits = found.fits in omega (arith, less found.window, fits));
    })

-- a window that counts is at most the bound, and at least a tick where the bound is
pub counts-within : (test : Test) (d w : ℕ) → 1 ≤ d → WindowCounts test d w → (1 ≤ w) × (w ≤ d)
counts-within Whole d w some counts = (omega (arith, counts), omega (arith, counts))
counts-within Least d w some counts = counts

-- the whole bound counts under every test
pub counts-whole : (test : Test) (d : ℕ) → 1 ≤ d → WindowCounts test d d
counts-whole Whole d some = refl
counts-whole Least d some = (some, omega arith)

-- so a level passes whose load in its whole bound fits
pub PassesAt-whole : (server : Server) (rows : List Admitted) (m : ℕ) → 1 ≤ bound_at server.bounds m
    → level_sum server rows m ≤ bound_at server.bounds m → PassesAt server rows m
PassesAt-whole server rows m some fits =
    (Decides-passes_at server rows m).1 (record { window = bound_at server.bounds m; counts = counts-whole server.test (bound_at server.bounds m) some; fits = fits })

-- rows pass whose loads are no larger than those of rows that pass
pub Passes-le : (server : Server) (rows others : List Admitted) → ((m w : ℕ) → load server others m w ≤ load server rows m w)
    → Passes server rows → Passes server others
Passes-le server rows others less passed = record { each = λ m from upto. PassesAt-le server rows others m (less m) (passed.each m from upto) }

-- rows that pass still pass when one moves to a larger level
pub Passes-raised : (server : Server) (rows : List Admitted) (row raised : Admitted) (later : List Admitted)
    → raised.contract ≡ row.contract → row.level ≤ raised.level → Passes server (rows ++ row ∷ later)
    → Passes server (rows ++ raised ∷ later)
unfolding load
Passes-raised server rows row raised later same larger =
    Passes-le server (rows ++ row ∷ later) (rows ++ raised ∷ later) (λ m w.
    let e = total-middle (work_up_to server.rate m w) rows row later in
    let f = total-middle (work_up_to server.rate m w) rows raised later in
    let g = work_up_to-le server.rate m w row raised same larger in
    omega (arith, e, f, g))

-- f gives the row of an item: the rows that pass still do when items are taken out
pub Passes-kept : {X : Type 0} (server : Server) (f : X → Admitted) (test : X → Bool) (xs : List X) → Passes server (map f xs)
    → Passes server (map f (filter test xs))
unfolding load
Passes-kept server f test xs =
    Passes-le server (map f xs) (map f (filter test xs)) (λ m w.
    let e = total-map (work_up_to server.rate m w) f xs in
    let h = total-map (work_up_to server.rate m w) f (filter test xs) in
    let less = total-filter-le (λ x. work_up_to server.rate m w (f x)) test xs in
    omega (arith, e, h, less))

-- and so do those of items that changed to no smaller levels
pub Passes-changed : {X : Type 0} (server : Server) (f : X → Admitted) (change : X → X) (xs : List X)
    → All (λ x. ((f (change x)).contract ≡ (f x).contract) × ((f x).level ≤ (f (change x)).level)) xs → Passes server (map f xs)
    → Passes server (map f (map change xs))
unfolding load
Passes-changed server f change xs raised =
    Passes-le server (map f xs) (map f (map change xs)) (λ m w.
    let e = total-map (work_up_to server.rate m w) f xs in
    let h = total-map (work_up_to server.rate m w) f (map change xs) in
    let i = total-map (λ x. work_up_to server.rate m w (f x)) change xs in
    let less = total-le (λ x. work_up_to server.rate m w (f (change x))) (λ x. work_up_to server.rate m w (f x)) xs (λ k d inside. work_up_to-le server.rate m w _ _ (raised k d inside).0 (raised k d inside).1) in
    omega (arith, e, h, i, less))

-- a row that passes at a level passes at every larger level
pub Passes-larger : (server : Server) (rows : List Admitted) (contract : Traffic) (m larger : ℕ) → m ≤ larger
    → Passes server (with_row rows contract m) → Passes server (with_row rows contract larger)
Passes-larger server rows contract m larger h =
    Passes-raised server rows (record { contract = contract; level = m }) (record { contract = contract; level = larger }) [] refl h

-- the empty list of rows passes where the blocking, of a tick or more, fits every bound
pub Passes-nil : (server : Server) → 1 ≤ server.blocking
    → ((m : ℕ) → 1 ≤ m → m ≤ length server.bounds → server.blocking ≤ bound_at server.bounds m) → Passes server []
unfolding load
Passes-nil server some fits = record { each = λ m from upto. PassesAt-whole server [] m (omega (arith, some, fits m from upto)) (omega (arith, fits m from upto)) }

-- whether rows pass up to a level
Decides-passes_up_to : (server : Server) (rows : List Admitted) (n : ℕ)
    → Decides (passes_up_to server rows n) ((m : ℕ) → 1 ≤ m → m ≤ n → PassesAt server rows m)
unfolding passes_up_to
Decides-passes_up_to server rows zero = (λ _ m from upto. absurd (omega arith), λ _. refl)
Decides-passes_up_to server rows (suc n) =
    let below = Decides-passes_up_to server rows n in (
      λ e m from upto.
          let both = and_parts (passes_at server rows (suc n)) (passes_up_to server rows n) e in
          ⊎_elim (λ (last : m ≡ suc n). (rw last both.0)) (λ (other : m ≡ suc n → ⊥). below.0 both.1 m from (omega arith)) (cases_eq m (suc n)),
      λ all. and_from (passes_at server rows (suc n)) (passes_up_to server rows n) (all (suc n) (omega arith) (omega arith)) (below.1 (λ m from upto. all m from (omega arith))),
    )

-- the test says whether the rows pass
pub Decides-passes : (server : Server) (rows : List Admitted) → Decides (passes server rows) (Passes server rows)
unfolding passes
Decides-passes server rows =
    Decides-like _ (λ all. record { each = all }) (λ passed. passed.each) (Decides-passes_up_to server rows (length server.bounds))

pub Decides-admits : (server : Server) (rows : List Admitted) (contract : Traffic) (m : ℕ)
    → Decides (admits server rows contract m) (Passes server (with_row rows contract m))
unfolding admits
Decides-admits server rows contract m = Decides-passes server (with_row rows contract m)

-- ---- the best level

-- a level that passes, while the ones before it don't, is found
pub first_level-found : (test : ℕ → Bool) (m count found : ℕ) → m ≤ found → found < m + count → test found ≡ true
    → ((k : ℕ) → m ≤ k → k < found → test k ≡ false) → first_level test m count ≡ Some found
unfolding first_level
first_level-found test m zero found from upto holds before = absurd (omega arith)
first_level-found test m (suc count) found from upto holds before =
    ⊎_elim (λ (here : m ≡ found). (rw here (rw holds refl)))
    (λ (other : m ≡ found → ⊥).
    rw (before m (omega arith) (omega arith)) (first_level-found test (m + 1) count found (omega arith) (omega arith) holds (λ k below above. before k (omega arith) above)))
    (cases_eq m found)

-- none is found where none passes
pub first_level-none : (test : ℕ → Bool) (m count : ℕ) → ((k : ℕ) → m ≤ k → k < m + count → test k ≡ false)
    → first_level test m count ≡ None
unfolding first_level
first_level-none test m zero fails = refl
first_level-none test m (suc count) fails =
    rw (fails m (omega arith) (omega arith)) (first_level-none test (m + 1) count (λ k from upto. fails k (omega arith) (omega arith)))

-- what is found passes and comes first
pub first_level-is : (test : ℕ → Bool) (m count found : ℕ) → first_level test m count ≡ Some found
    → (m ≤ found) × (found < m + count) × (test found ≡ true) × ((k : ℕ) → m ≤ k → k < found → test k ≡ false)
unfolding first_level
first_level-is test m zero found e = cc
first_level-is test m (suc count) found e =
    ⊎_elim (λ (here : test m ≡ true).
    let same : m ≡ found = (let f = rw here at e in cc) in
    (omega arith, omega arith, sym (ap test same) ∙ here, λ k from before. absurd (omega arith)))
    (λ (not_here : test m ≡ false).
    let rest = first_level-is test (m + 1) count found (rw not_here at e) in (
      omega (arith, rest.0),
      omega (arith, rest.1),
      rest.2,
      λ k from before.
          ⊎_elim (λ (at_m : k ≡ m). (rw at_m not_here)) (λ (other : k ≡ m → ⊥). rest.3 k (omega arith) before) (cases_eq k m),
    ))
    (cases_Bool (test m))

module _ (server : Server) (rows : List Admitted) (contract : Traffic) where
  -- the best level that the definition computes is the least that passes
  pub best_level-is : (m : ℕ) → best_level server rows contract ≡ Some m → IsBest server rows contract m
  unfolding best_level
  best_level-is m e =
      let found = first_level-is (admits server rows contract) 1 (length server.bounds) m e in
      record {
        from = found.0;
        upto = omega (arith, found.1);
        passes = (Decides-admits server rows contract m).0 found.2;
        least = λ lower from upto passed. ⊎_elim (λ (below : lower < m). absurd (true≢false (sym ((Decides-admits server rows contract lower).1 passed) ∙ found.3 lower from below))) (λ (above : m ≤ lower). above) (cases_lt lower m);
      }

  pub best_level-found : (m : ℕ) → IsBest server rows contract m → best_level server rows contract ≡ Some m
  unfolding best_level
  best_level-found m best =
      first_level-found (admits server rows contract) 1 (length server.bounds) m best.from (omega (arith, best.upto)) ((Decides-admits server rows contract m).1 best.passes)
      (λ k from below. false_from_ne_true _ (λ passed. absurd (omega (arith, best.least k from (omega (arith, best.upto)) ((Decides-admits server rows contract k).0 passed)))))

  -- there is none exactly where no level passes
  pub best_level-none : IsRefused server rows contract → best_level server rows contract ≡ None
  unfolding best_level
  best_level-none refused =
      first_level-none (admits server rows contract) 1 (length server.bounds) (λ k from upto. false_from_ne_true _ (λ passed. refused.each k from (omega arith) ((Decides-admits server rows contract k).0 passed)))

  -- ---- room for a new row at each level

  -- a new row adds nothing below its level
  pub load-below : (m k w : ℕ) → k < m → load server (with_row rows contract m) k w ≡ load server rows k w
  load-below m k w below =
      let e = load-with_row server rows contract m k w in
      let f = work_up_to-above server.rate k w (record { contract = contract; level = m }) below in
      omega (arith, e, f)

  -- and its work at each level from its own on
  pub load-from : (m k w : ℕ) → m ≤ k → load server (with_row rows contract m) k w ≡ load server rows k w + work_in server.rate contract w
  load-from m k w within =
      let e = load-with_row server rows contract m k w in
      let f = work_up_to-within server.rate k w (record { contract = contract; level = m }) within in
      omega (arith, e, f)

  -- rows that pass still pass with a new one at m where every level from m on has room for it
  pub Passes-with_row : (m : ℕ) → Passes server rows → ((k : ℕ) → m ≤ k → k ≤ length server.bounds → HasRoom server rows contract k)
      → Passes server (with_row rows contract m)
  Passes-with_row m passed room = record {
    each = λ k from upto.
        ⊎_elim (λ (below : k < m). PassesAt-le server rows (with_row rows contract m) k (λ w. (let e = load-below m k w below in omega (arith, e))) (passed.each k from upto))
        (λ (above : m ≤ k). PassesAt-le server (with_row rows contract k) (with_row rows contract m) k (λ w. (let e = load-from m k w above in let f = load-from k k w (omega arith) in omega (arith, e, f))) (room k above upto))
        (cases_lt k m);
  }

  -- where a level has no room, the new row passes at none of the levels up to it
  pub room-from-Passes : (m k : ℕ) → 1 ≤ k → m ≤ k → k ≤ length server.bounds → Passes server (with_row rows contract m)
      → HasRoom server rows contract k
  room-from-Passes m k from within upto passed =
      PassesAt-le server (with_row rows contract m) (with_row rows contract k) k (λ w. (let e = load-from m k w within in let f = load-from k k w (omega arith) in omega (arith, e, f))) (passed.each k from upto)
