-- Over the whole route of a channel: each row against the row of its packet at the first hop.
use Rattle.std.proofs.Common.{◌≡◌, ℕ, zero, suc, ◌+◌, ◌<◌, ◌≤◌, Bool, true, List, [], ◌∷◌, ◌++◌, length, get_or, map, take, Option, Some, None, refl, sym, ap, ◌∙◌, subst, inl, inr, arith}
use Rattle.std.proofs.lemmas.Bool.{cases_Bool, cases_eq}
use Rattle.std.proofs.lemmas.List.{get_or_append_left, get_or_push, length-map, length-reverse, length-take-le, append-nil, reverse-append}
use Rattle.std.proofs.lemmas.Option.{get_or_from_slice_get}
use Rattle.std.proofs.Math.Seq.{take-suc}
use Rattle.std.specs.List.{slice_get}
use Rattle.std.specs.Prelude.{reverse, filter}
use Rattle.std.proofs.lemmas.List.Elements.{filter-append}
use Rattle.net_units.specs.Allotted.{levels_of}
use Rattle.net_units.specs.LevelBounds.{bound_at}
use Rattle.net_units.specs.declared.Kind.TheVariants.{Jitter}
use Rattle.net_units.specs.declared.levels.Levels.{Levels}
use Rattle.traffic_contract.specs.Contract.{IsContract}
use Rattle.traffic_contract.specs.Keeping.{Keeps}
use Rattle.traffic_contract.proofs.BurstIsPositive.{burst-least}
use Rattle.traffic_contract.proofs.LeastEligibleTick.{eligible-is}
use Rattle.traffic_contract.proofs.PartsKeepContract.{Keeps-prefix}
use Rattle.hop_reservation.specs.Offers.{delay_over}
use Rattle.hop_reservation.specs.declared.route.Hop.{Hop}
use Rattle.hop_reservation.proofs.OneMoreOffer.{delay_over-push, delay_over-none}
use Rattle.link_steps.specs.Lists.{Each, Among}
use Rattle.link_steps.proofs.SearchAndFilter.{map-same}
use Rattle.link_steps.proofs.ListParts.{stands-at}
use Rattle.setup_protocol.specs.Requests.{kind_of}
use Rattle.setup_protocol.specs.declared.request.Request.{Request}
use Rattle.call_script.specs.Parts.{PlanParts}
use Rattle.run_engine.specs.channels.Paths.{IsBehind}
use Rattle.run_record.specs.declared.rows.HopRow.{HopRow}
use Rattle.trace_audit.specs.Above.{is_at, rows_at, ticks_above, tick_of, hop_before}
use Rattle.trace_audit.specs.Bounds.{delay_before, arrival_of}
use Rattle.trace_audit.specs.Checks.{AllPass, may_go_from}
use Rattle.trace_audit.specs.declared.terms.Terms.{Terms}
use Rattle.trace_audit.specs.Terms.{hop_terms, terms_of_hop, terms_of_request, levels_given, bound_of, prop_of, terms_at}
use Rattle.trace_audit.proofs.HopToHop.{ticks_in, ticks-keep, hops-timed, row-at}
use Rattle.trace_audit.proofs.TableInOrder.{RowsAreNumbered, none-before, at-parts}
use Rattle.trace_audit.proofs.RowTerms.{IsGiven}

-- ---- lists

pub filter-reverse : {X : Type 0} (test : X → Bool) (xs : List X) → filter test (reverse xs) ≡ reverse (filter test xs)
filter-reverse test [] = refl
filter-reverse test (x ∷ xs) =
    let rest = filter-reverse test xs in
    let parts : filter test (reverse (x ∷ xs)) ≡ filter test (reverse xs) ++ filter test (x ∷ []) = ap (filter test) (reverse-append (x ∷ []) xs) ∙ filter-append test (reverse xs) (x ∷ []) in
    elim (cases_Bool (test x)) [
      | inl passed ↦ (let one : filter test (x ∷ []) ≡ x ∷ [] = rw passed refl in parts ∙ ap (λ ys. ys ++ filter test (x ∷ [])) rest ∙ ap (λ ys. reverse (filter test xs) ++ ys) one ∙ sym (reverse-append (x ∷ []) (filter test xs)) ∙ (rw passed refl))
      | inr failed ↦ (let one : filter test (x ∷ []) ≡ [] = rw failed refl in parts ∙ ap (λ ys. ys ++ filter test (x ∷ [])) rest ∙ ap (λ ys. reverse (filter test xs) ++ ys) one ∙ append-nil (reverse (filter test xs)) ∙ (rw failed refl))
    ]

-- ---- places, which numbers tell

pub record HasPlace (f : HopRow → ℕ) (rows : List HopRow) (row : HopRow) (k : ℕ) : Type 0 where
  pub number : row.number ≡ suc k
  pub inside : k < length rows
  pub value : get_or (reverse (map f rows)) k 0 ≡ f row

turned : (f : HopRow → ℕ) (row : HopRow) (rows : List HopRow) → reverse (map f (row ∷ rows)) ≡ reverse (map f rows) ++ f row ∷ []
turned f row rows = reverse-append (f row ∷ []) (map f rows)

long : (f : HopRow → ℕ) (rows : List HopRow) → length (reverse (map f rows)) ≡ length rows
long f rows = length-reverse (map f rows) ∙ length-map rows f

pub place-of : (f : HopRow → ℕ) (rows : List HopRow) (row : HopRow) → RowsAreNumbered rows → Among row rows → (k : ℕ) × HasPlace f rows row k
place-of f [] row are among = absurd among
place-of f (first ∷ rows) row are (inl same) = (
  length rows,
  record {
    number = ap (λ r. r.number) same ∙ are.0;
    inside = omega arith;
    value = ap (λ vs. get_or vs (length rows) 0) (turned f first rows) ∙ get_or_push (reverse (map f rows)) (f first) 0 (length rows) (long f rows) ∙ ap f (sym same);
  },
)
place-of f (first ∷ rows) row are (inr among) =
    let rest = place-of f rows row are.1 among in
    let inside = rest.1.inside in
    let count = long f rows in (
      rest.0,
      record {
        number = rest.1.number;
        inside = omega (arith, inside);
        value = ap (λ vs. get_or vs rest.0 0) (turned f first rows) ∙ get_or_append_left (reverse (map f rows)) (f first ∷ []) 0 rest.0 (omega (arith, inside, count)) ∙ rest.1.value;
      },
    )

-- each place has a row
pub row-of-place : (rows : List HopRow) (k : ℕ) → RowsAreNumbered rows → k < length rows → (row : HopRow) × (Among row rows × (row.number ≡ suc k))
row-of-place [] k are inside = absurd (omega (arith, inside))
row-of-place (first ∷ rows) k are inside =
    elim (cases_eq k (length rows)) [
      | inl last ↦ (let n = are.0 in (first, (inl refl, omega (arith, n, last))))
      | inr other ↦ (let rest = row-of-place rows k are.1 (omega (arith, inside, other)) in (rest.0, (inr rest.1.0, rest.1.1)))
    ]

-- ---- the terms of an accepted channel's hops

pub terms-given : (plan : PlanParts) (levels : List (Option Levels)) (c i : ℕ) (given : IsGiven plan levels c) (hop : Hop) → slice_get given.entry.request.route i ≡ Some hop → terms_at plan levels c i ≡ Some (hop_terms plan given.entry.request (levels_of given.given) i hop)
unfolding terms_at
terms-given plan levels c i given hop stands =
    let accepted : levels_given levels c ≡ Some given.given = get_or_from_slice_get levels c (Some given.given) None given.accepted in
    ap (λ e. terms_of_request plan e (levels_given levels c) i) given.requested ∙ ap (λ g. terms_of_request plan (Some given.entry) g i) accepted
    ∙ ap (terms_of_hop plan given.entry.request (levels_of given.given) i) stands

pub delay-more : (request : Request) (levels : List ℕ) (i : ℕ) (hop : Hop) → slice_get request.route i ≡ Some hop → i < length levels → delay_before request levels (suc i) ≡ delay_before request levels i + (bound_at hop.bounds (get_or levels i 0) + hop.prop)
delay-more request levels i hop stands within =
    let count : length (take i levels) ≡ i = length-take-le i levels (omega arith) in
    let more : take (suc i) levels ≡ take i levels ++ get_or levels i 0 ∷ [] = take-suc levels i 0 within in
    let found : slice_get request.route (length (take i levels)) ≡ Some hop = ap (slice_get request.route) count ∙ stands in
    ap (delay_over request.route) more ∙ delay_over-push request.route (take i levels) hop (get_or levels i 0) found

-- ---- the path

pub record OnPath (kind_is_jitter : Type 0) (shift : ℕ) (first ticks : List ℕ) : Type 0 where
  pub after : IsBehind shift first ticks
  pub paced : kind_is_jitter → (k : ℕ) → k < length ticks → get_or first k 0 + shift ≤ get_or ticks k 0

path-from : (shift : ℕ) (ticks : List ℕ) (J : Type 0) → shift ≡ 0 → OnPath J shift ticks ticks
path-from shift ticks J none = record { after = record { fewer = omega arith; after = λ k within. omega (arith, none) }; paced = λ j k within. omega (arith, none) }

path-on : (J : Type 0) (a b : ℕ) (first second third : List ℕ) → OnPath J a first second → IsBehind b second third → (J → (k : ℕ) → k < length third → get_or second k 0 + b ≤ get_or third k 0) → OnPath J (a + b) first third
path-on J a b first second third one two exact = record {
  after = record {
    fewer = (let x = one.after.fewer in let y = two.fewer in omega (arith, x, y));
    after = λ k within. (let y = two.after k within in let f = two.fewer in let x = one.after.after k (omega (arith, f, within)) in omega (arith, x, y));
  };
  paced = λ j k within. (let y = exact j k within in let f = two.fewer in let x = one.paced j k (omega (arith, f, within)) in omega (arith, x, y));
}

-- what the path rests on: the channel's request, its contract and its levels
pub record IsSettled (plan : PlanParts) (levels : List (Option Levels)) (c : ℕ) : Type 0 where
  pub given : IsGiven plan levels c
  pub valid : IsContract given.entry.request.contract
  pub whole : length (levels_of given.given) ≡ length given.entry.request.route

pub path : (plan : PlanParts) (levels : List (Option Levels)) (c i : ℕ) (rows : List HopRow) → AllPass plan levels rows → (is : IsSettled plan levels c) → i < length is.given.entry.request.route
    → OnPath (kind_of is.given.entry.request.control ≡ Jitter) (delay_before is.given.entry.request (levels_of is.given.given) i) (ticks_in c 1 rows) (ticks_in c (suc i) rows)
path plan levels c zero rows all is within = path-from (delay_before is.given.entry.request (levels_of is.given.given) zero) (ticks_in c 1 rows) _ (delay_over-none is.given.entry.request.route)
path plan levels c (suc i) rows all is within =
    let request = is.given.entry.request in
    let ls = levels_of is.given.given in
    let near = stands-at is.given.entry.request.route i (omega (arith, within)) in
    let far = stands-at is.given.entry.request.route (suc i) within in
    let whole = is.whole in
    let before = path plan levels c i rows all is (omega (arith, within)) in
    let near_terms = hop_terms plan is.given.entry.request (levels_of is.given.given) i near.0 in
    let terms = hop_terms plan is.given.entry.request (levels_of is.given.given) (suc i) far.0 in
    let bound : bound_at near.0.bounds (get_or (levels_of is.given.given) i 0) ≡ bound_of (slice_get is.given.entry.request.route i) (get_or (levels_of is.given.given) i 0) = ap (λ h. bound_of h (get_or (levels_of is.given.given) i 0)) (sym near.1) in
    let prop : near.0.prop ≡ prop_of (slice_get is.given.entry.request.route i) = ap prop_of (sym near.1) in
    let timed = hops-timed plan levels c i (hop_terms plan is.given.entry.request (levels_of is.given.given) i near.0) (hop_terms plan is.given.entry.request (levels_of is.given.given) (suc i) far.0) rows all
    (terms-given plan levels c i is.given near.0 near.1) (terms-given plan levels c (suc i) is.given far.0 far.1) (record { valid = is.valid; contract = refl; bound = bound }) in
    let more = delay-more is.given.entry.request (levels_of is.given.given) i near.0 near.1 (omega (arith, whole, within)) in
    let sum : delay_before is.given.entry.request (levels_of is.given.given) i + (bound_of (slice_get is.given.entry.request.route i) (get_or (levels_of is.given.given) i 0) + prop_of (slice_get is.given.entry.request.route i)) ≡ delay_before is.given.entry.request (levels_of is.given.given) (suc i) = omega (arith, more, bound, prop) in
    subst (λ d. OnPath (kind_of is.given.entry.request.control ≡ Jitter) d (ticks_in c 1 rows) (ticks_in c (suc (suc i)) rows)) sum
    (path-on (kind_of is.given.entry.request.control ≡ Jitter) _ _ (ticks_in c 1 rows) (ticks_in c (suc i) rows) (ticks_in c (suc (suc i)) rows) before timed.after timed.paced)

-- ---- a source that keeps its contract

-- the ticks at which the packets arrived, in the order of time
abbrev pub arrivals : ℕ → List HopRow → List ℕ
arrivals c rows = reverse (map arrival_of (rows_at c 1 rows))

arrivals-more : (c : ℕ) (row : HopRow) (above : List HopRow) → is_at c 1 row ≡ true → arrivals c (row ∷ above) ≡ arrivals c above ++ row.at ∷ []
arrivals-more c row above at = rw at (reverse-append (row.at ∷ []) (map arrival_of (rows_at c 1 above)))

pub at-once : (plan : PlanParts) (levels : List (Option Levels)) (c : ℕ) (terms : Terms) (rows : List HopRow) → AllPass plan levels rows → terms_at plan levels c 0 ≡ Some terms → IsContract terms.contract → Keeps terms.contract (arrivals c rows) → Each (λ r. r.eligible ≡ r.at) (rows_at c 1 rows)
unfolding AllPass
at-once plan levels c terms [] all has valid keeps = tt
at-once plan levels c terms (row ∷ above) all has valid keeps =
    elim (cases_Bool (is_at c 1 row)) [
      | inl at ↦
          (let now : Keeps terms.contract (arrivals c above ++ row.at ∷ []) = subst (Keeps terms.contract) (arrivals-more c row above at) keeps in
          let rest = at-once plan levels c terms above all.0 has valid (Keeps-prefix terms.contract (arrivals c above) (row.at ∷ []) now) in
          let same : ticks_in c 1 above ≡ arrivals c above = ap reverse (map-same tick_of arrival_of (rows_at c 1 above) rest) in
          let own = row-at plan levels c 0 terms above row all has at in
          let low : may_go_from terms row (hop_before above row) ≡ row.at = ap (may_go_from terms row) (none-before above row (at-parts c 1 row at).1) in
          let is = eligible-is terms.contract (ticks_above c 1 above) (may_go_from terms row (hop_before above row)) valid (burst-least terms.contract valid) (ticks-keep plan levels c 0 terms above all.0 has valid) in
          let most = is.least row.at (omega (arith, low)) (subst (λ ts. Keeps terms.contract (ts ++ row.at ∷ [])) (sym same) now) in
          let least = is.reached in
          let e = own.eligible in
          let equal : row.eligible ≡ row.at = omega (arith, e, most, least, low) in
          rw at (equal, rest))
      | inr off ↦ (let same : arrivals c (row ∷ above) ≡ arrivals c above = rw off refl in let rest = at-once plan levels c terms above all.0 has valid (subst (Keeps terms.contract) same keeps) in rw off rest)
    ]
