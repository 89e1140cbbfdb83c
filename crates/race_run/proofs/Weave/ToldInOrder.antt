-- The weave of a race's journals, told in order of stamp. With the entry of the next stamp what is told is one entry more, which is the
-- next step of the run; at a stamp that no journal has it stays as it is; and after the last stamp it is the whole weave.
use Rattle.std.proofs.Common.{◌≡◌, ◌≢◌, ℕ, zero, suc, ◌+◌, ◌<◌, ◌≤◌, true, false, Option, Some, None, List, [], ◌∷◌, ◌++◌, length, map, reverse, take, set, get_or, replicate, refl, sym, ap, ◌∙◌, subst, inl, inr, add-one, arith}
use Rattle.std.proofs.lemmas.Bool.{lt-ltb, le-ltb, cases_lt, cases_Bool}
use Rattle.std.proofs.lemmas.List.{length-append, length-map, length-reverse, length-take-le, map-append, reverse-append}
use Rattle.std.proofs.lemmas.Option.{get_or_from_slice_get, same_Some, slice_get-get_or, slice_get_within}
use Rattle.std.specs.Prelude.{nat_lt}
use Rattle.std.specs.List.{slice_get}
use Rattle.net_units.specs.Numbers.{actor_number}
use Rattle.link_steps.specs.Lists.{Each, Among}
use Rattle.link_steps.proofs.SearchAndFilter.{Each-among, Each-from, Each-if, filter-all, filter-none, filter-same}
use Rattle.link_steps.proofs.FoundElements.{Each-from_among}
use Rattle.link_steps.proofs.ListParts.{Each-at, comes-from, mapped-at}
use Rattle.step_stamp.specs.Marks.{StampsRise}
use Rattle.step_stamp.proofs.ListMembers.{get-has}
use Rattle.link_ledger.specs.Journals.{marks_in}
use Rattle.link_ledger.specs.Tokens.{Token}
use Rattle.link_ledger.specs.declared.entries.Entry.{Entry}
use Rattle.link_ledger.specs.declared.entries.Journal.{Journal}
use Rattle.link_ledger.specs.declared.entries.OwnEntry.{OwnEntry}
use Rattle.call_script.specs.Parts.{PlanParts}
use Rattle.call_script.specs.Plans.{IsPlan}
use Rattle.call_script.specs.Splits.{entry_link, groups_in}
use Rattle.call_script.specs.Tasks.{Network, network_of}
use Rattle.call_script.specs.declared.actor.Actor.{Actor}
use Rattle.call_script.specs.declared.schedule.Do.{Do}
use Rattle.net_units.specs.declared.numbers.ActorNo.{ActorNo}
use Rattle.run_record.specs.declared.done.Done.{Done}
use Rattle.run_engine.specs.runs.Laws.{actor_of}
use Rattle.run_engine.specs.runs.Runs.{IsNext, IsRun, plane_no}
use Rattle.run_engine.specs.runs.Weave.{Stamped, IsUnder, Falls, InOne, StandsIn, done_of, woven_of}
use Rattle.run_engine.specs.schedules.Schedules.{turns_of}
use Rattle.run_engine.specs.schedules.Standing.{AreCallers}
use Rattle.run_engine.specs.schedules.Watching.{IsNextSeen}
use Rattle.run_engine.proofs.Keeping.KeptActors.{callers-same, plane-number}
use Rattle.run_engine.proofs.Keeping.NextStep.{has-few}
use Rattle.run_engine.proofs.Runs.Merge.{falls-filter}
use Rattle.run_engine.proofs.Runs.WeaveLaw.{journals-weave}
use Rattle.run_engine.proofs.Runs.RunFronts.{next-head}
use Rattle.race_run.specs.Order.{AreBelow, HasOrder, IsOrder, has_stamp, journal_with}
use Rattle.race_run.specs.Tail.{AreUpTo, own_in}
use Rattle.race_run.specs.Telling.{HasTold, TellsNext, below, count_below, counts_below, done_on, is_below, weave_below}
use Rattle.race_run.specs.Turns.{AreMaximalRuns, actors_of}
use Rattle.race_run.specs.Whole.{IsWhole, stamped_in, stamped_on, weave_of}
use Rattle.race_run.proofs.Weave.EntriesInOrder.{HasNot, NextIn, counts-nothing, counts-with, counts-without, has-at, next-in, one-has}
use Rattle.race_run.proofs.Lists.{among-turned_map, turned_map-among}
use Rattle.race_run.proofs.Weave.WeaveIsRun.{own_in as owned, own_stamped, passes-long, whole-asked, whole-journals, whole-length, whole-run}

-- ---- stamps that fall, up to a stamp

first-kept : (stamp : ℕ) (x : Stamped) (xs : List Stamped) → x.stamp < stamp → below stamp (x ∷ xs) ≡ x ∷ below stamp xs
first-kept stamp x xs less = rw (lt-ltb x.stamp stamp less) refl

first-left : (stamp : ℕ) (x : Stamped) (xs : List Stamped) → stamp ≤ x.stamp → below stamp (x ∷ xs) ≡ below stamp xs
first-left stamp x xs le = rw (le-ltb x.stamp stamp le) refl

below-zero : (xs : List Stamped) → below 0 xs ≡ []
below-zero xs = filter-none (is_below 0) xs (Each-from (λ (x : Stamped). is_below 0 x ≡ false) xs (λ x. le-ltb x.stamp 0 (omega arith)))

pub below-all : (stamp : ℕ) (xs : List Stamped) → Each (IsUnder stamp) xs → below stamp xs ≡ xs
below-all stamp xs each = filter-all (is_below stamp) xs (Each-if (IsUnder stamp) (λ (x : Stamped). is_below stamp x ≡ true) xs (λ x less. lt-ltb x.stamp stamp less) each)

under-more : (low high : ℕ) (xs : List Stamped) → low ≤ high → Each (IsUnder low) xs → Each (IsUnder high) xs
under-more low high xs le each = Each-if (IsUnder low) (IsUnder high) xs (λ x less. omega (arith, less, le)) each

below-with : (x : Stamped) (xs : List Stamped) → Falls xs → Among x xs → below (suc x.stamp) xs ≡ x ∷ below x.stamp xs
below-with x [] falls among = absurd among
below-with x (y ∷ ys) falls (inl same) =
    let here : below (suc y.stamp) (y ∷ ys) ≡ y ∷ below y.stamp (y ∷ ys) =
    first-kept (suc y.stamp) y ys (omega arith)
    ∙ ap (λ zs. y ∷ zs) (below-all (suc y.stamp) ys (under-more y.stamp (suc y.stamp) ys (omega arith) falls.0) ∙ sym (below-all y.stamp ys falls.0) ∙ sym (first-left y.stamp y ys (omega arith))) in
    subst (λ (z : Stamped). below (suc z.stamp) (y ∷ ys) ≡ z ∷ below z.stamp (y ∷ ys)) (sym same) here
below-with x (y ∷ ys) falls (inr among) =
    let under = Each-among (IsUnder y.stamp) x ys falls.0 among in
    first-left (suc x.stamp) y ys (omega (arith, under)) ∙ below-with x ys falls.1 among ∙ ap (λ zs. x ∷ zs) (sym (first-left x.stamp y ys (omega (arith, under))))

below-without : (stamp : ℕ) (xs : List Stamped) → Each (λ (x : Stamped). x.stamp ≢ stamp) xs → below (suc stamp) xs ≡ below stamp xs
below-without stamp xs each = filter-same (is_below (suc stamp)) (is_below stamp) xs (Each-if (λ (x : Stamped). x.stamp ≢ stamp) (λ (x : Stamped). is_below (suc stamp) x ≡ is_below stamp x) xs (λ x ne. both x ne) each) where
  both : (x : Stamped) → x.stamp ≢ stamp → nat_lt x.stamp (suc stamp) ≡ nat_lt x.stamp stamp
  both x ne = elim (cases_lt x.stamp stamp) [
    | inl less ↦ lt-ltb x.stamp (suc stamp) (omega (arith, less)) ∙ sym (lt-ltb x.stamp stamp less)
    | inr le ↦ (
        let above : suc stamp ≤ x.stamp = (elim (cases_lt stamp x.stamp) [ inl more ↦ omega (arith, more) | inr not ↦ absurd (ne (omega (arith, le, not))) ]) in
        le-ltb x.stamp (suc stamp) above ∙ sym (le-ltb x.stamp stamp le))
  ]

falls-few : (stamp : ℕ) (xs : List Stamped) → Falls xs → Each (IsUnder stamp) xs → length xs ≤ stamp
falls-few stamp [] falls all = omega arith
falls-few stamp (x ∷ xs) falls all = (let rest = falls-few x.stamp xs falls.1 falls.0 in let less = all.0 in omega (arith, rest, less))

below-under : (stamp : ℕ) (xs : List Stamped) → Each (IsUnder stamp) (below stamp xs)
below-under stamp [] = tt
below-under stamp (x ∷ xs) = elim (cases_lt x.stamp stamp) [
  | inl less ↦ subst (Each (IsUnder stamp)) (sym (first-kept stamp x xs less)) (less, below-under stamp xs)
  | inr le ↦ subst (Each (IsUnder stamp)) (sym (first-left stamp x xs le)) (below-under stamp xs)
]

-- ---- runs

run-past : (network : Network) (done : Done) (past : List Done) → IsRun network (done ∷ past) → IsRun network past
unfolding IsRun
run-past network done past run = run.0

run-below : (network : Network) (stamp : ℕ) (xs : List Stamped) → Falls xs → IsRun network (map done_of xs)
    → IsRun network (map done_of (below stamp xs))
run-below network stamp [] falls run = run
run-below network stamp (x ∷ xs) falls run = elim (cases_lt x.stamp stamp) [
  | inl less ↦ subst (λ ys. IsRun network (map done_of ys)) (sym (below-all stamp (x ∷ xs) (less, under-more x.stamp stamp xs (omega (arith, less)) falls.0))) run
  | inr le ↦ subst (λ ys. IsRun network (map done_of ys)) (sym (first-left stamp x xs le)) (run-below network stamp xs falls.1 (run-past network x.done (map done_of xs) run))
]

-- ---- the weave of a race

abbrev weave : List Journal → List Stamped
weave journals = woven_of (map stamped_in journals)

weave-falls : (network : Network) (passes : List Token) (journals : List Journal) → IsWhole network passes journals → Falls (weave journals)
weave-falls network passes journals whole = journals-weave.falls network (map stamped_in journals) (whole-journals network passes journals whole)

-- the journal in which an entry of the weave stands
record Origin (journals : List Journal) (x : Stamped) : Type 0 where
  place : ℕ
  journal : Journal
  found : slice_get journals place ≡ Some journal
  at : ℕ
  entry : Entry
  here : slice_get journal.entries at ≡ Some entry
  is : x ≡ stamped_on journal.link entry

origin : (journals : List Journal) (x : Stamped) → Among x (weave journals) → Origin journals x
origin journals x among = by (journals-weave.stands (map stamped_in journals) x among) where
  by : InOne x (map stamped_in journals) → Origin journals x
  by (StandsIn k stamped found in_it) =
      let journal = comes-from stamped_in journals k stamped found in
      let from = among-turned_map (stamped_on journal.from.link) journal.from.entries x (subst (Among x) (sym journal.is) in_it) in
      record { place = k; journal = journal.from; found = journal.found; at = from.place; entry = from.from; here = from.found; is = from.is }

-- ---- the next entry

pub record NextTold (network : Network) (journals : List Journal) (place stamp : ℕ) : Type 0 where
  pub journal : Journal
  pub found : slice_get journals place ≡ Some journal
  pub entry : Entry
  pub here : slice_get journal.entries (count_below stamp journal.entries) ≡ Some entry
  pub counts : counts_below (stamp + 1) journals ≡ set (counts_below stamp journals) place (count_below stamp journal.entries + 1)
  pub tells : weave_below (stamp + 1) journals ≡ done_on journal.link entry ∷ weave_below stamp journals
  pub run : IsRun network (weave_below stamp journals)
  pub next : IsNext network (weave_below stamp journals) (done_on journal.link entry)

-- no other journal has its stamp
others-not : (network : Network) (passes : List Token) (journals : List Journal) (place stamp l : ℕ) (journal other : Journal)
    → IsWhole network passes journals → slice_get journals place ≡ Some journal → NextIn stamp journal.entries → l ≢ place
    → slice_get journals l ≡ Some other → HasNot stamp other
others-not network passes journals place stamp l journal other whole found next ne there = elim (cases_Bool (has_stamp stamp other.entries)) [
  | inl has ↦ absurd (
      let rises = Each-at (λ (j : Journal). StampsRise (marks_in j.entries)) journals l other whole.closed.rises there in
      let twice = next-in 0 stamp other.entries rises has in
      whole.closed.apart l place other journal twice.entry next.entry ne there found (get-has other.entries (count_below stamp other.entries) twice.entry twice.here) (get-has journal.entries (count_below stamp journal.entries) next.entry next.here) (twice.is ∙ sym next.is))
  | inr not ↦ not
]

tells-at : (network : Network) (passes : List Token) (journals : List Journal) (place stamp : ℕ) (journal : Journal)
    → IsWhole network passes journals → slice_get journals place ≡ Some journal → has_stamp stamp journal.entries ≡ true
    → NextTold network journals place stamp
tells-at network passes journals place stamp journal whole found has =
    let rises = Each-at (λ (j : Journal). StampsRise (marks_in j.entries)) journals place journal whole.closed.rises found in
    let next = next-in 0 stamp journal.entries rises has in
    let x = stamped_on journal.link next.entry in
    let falls = weave-falls network passes journals whole in
    let among : Among x (weave journals) = journals-weave.all (map stamped_in journals) x (StandsIn place (stamped_in journal) (mapped-at stamped_in journals place journal found) (turned_map-among (stamped_on journal.link) journal.entries (count_below stamp journal.entries) next.entry next.here)) in
    let one : below (suc stamp) (weave journals) ≡ x ∷ below stamp (weave journals) = subst (λ s. below (suc s) (weave journals) ≡ x ∷ below s (weave journals)) next.is (below-with x (weave journals) falls among) in
    let run = whole-run network passes journals whole in
    let more = counts-with stamp place journals journal whole.closed.rises found has (λ l other ne there. others-not network passes journals place stamp l journal other whole found next ne there) in
    let up = add-one stamp in
    record {
      journal = journal;
      found = found;
      entry = next.entry;
      here = next.here;
      counts = ap (λ n. counts_below n journals) up ∙ more ∙ ap (set (counts_below stamp journals) place) (sym (add-one (count_below stamp journal.entries)));
      tells = ap (λ n. weave_below n journals) up ∙ ap (map done_of) one;
      run = run-below network stamp (weave journals) falls run;
      next = next-head network x.done (weave_below stamp journals) (subst (λ ys. IsRun network (map done_of ys)) one (run-below network (suc stamp) (weave journals) falls run));
    }

pub next-told : (network : Network) (passes : List Token) (journals : List Journal) (place stamp : ℕ) → IsWhole network passes journals
    → length journals ≤ 32 → journal_with stamp 0 255 journals ≡ place → place < length journals → NextTold network journals place stamp
next-told network passes journals place stamp whole few is inside = elim (one-has stamp 0 255 journals) [
  | inl never ↦ absurd (let none = never.0 in omega (arith, none, is, inside, few))
  | inr one ↦ (
      let at : one.place ≡ place = (let e = one.is in omega (arith, e, is)) in
      tells-at network passes journals place stamp one.journal whole (subst (λ k. slice_get journals k ≡ Some one.journal) at one.found) one.has)
]

-- ---- a stamp that no journal has

pub record NoneTold (journals : List Journal) (stamp : ℕ) : Type 0 where
  pub counts : counts_below (stamp + 1) journals ≡ counts_below stamp journals
  pub tells : weave_below (stamp + 1) journals ≡ weave_below stamp journals

pub none-told : (journals : List Journal) (place stamp : ℕ) → journal_with stamp 0 255 journals ≡ place → length journals ≤ place
    → NoneTold journals stamp
none-told journals place stamp is past = elim (one-has stamp 0 255 journals) [
  | inl never ↦ (
      let up = add-one stamp in
      record {
        counts = ap (λ n. counts_below n journals) up ∙ counts-without stamp journals (λ l other there. Each-at (HasNot stamp) journals l other never.1 there);
        tells = ap (λ n. weave_below n journals) up ∙ ap (map done_of) (below-without stamp (weave journals) (Each-from_among (λ (x : Stamped). x.stamp ≢ stamp) (weave journals) (λ x among same.
            (let from = origin journals x among in
            let has = has-at stamp from.at from.journal.entries from.entry from.here (sym (ap (λ (y : Stamped). y.stamp) from.is) ∙ same) in
            let not = Each-at (HasNot stamp) journals from.place from.journal never.1 from.found in
            let clash : true ≡ false = sym has ∙ not in cc))));
      })
  | inr one ↦ absurd (let within = slice_get_within journals one.place one.journal one.found in let at = one.is in omega (arith, within, at, is, past))
]

-- ---- at first, and at last

zeros : (journals : List Journal) → Each (λ (j : Journal). count_below 0 j.entries ≡ 0) journals
    → replicate (length journals) 0 ≡ counts_below 0 journals
zeros [] each = refl
zeros (journal ∷ journals) each = ap (λ ns. 0 ∷ ns) (zeros journals each.1) ∙ ap (λ n. n ∷ counts_below 0 journals) (sym each.0)

pub counts-first : (journals : List Journal) (told : List ℕ) → told ≡ replicate (length journals) 0 → told ≡ counts_below 0 journals
counts-first journals told is = is ∙ zeros journals (counts-nothing journals)

pub weave-first : (journals : List Journal) → weave_below 0 journals ≡ []
weave-first journals = ap (map done_of) (below-zero (weave journals))

pub weave-last : (journals : List Journal) (order : List ℕ) → IsOrder journals order
    → weave_below (length order) journals ≡ weave_of journals
weave-last journals order order_is = ap (map done_of) (below-all (length order) (weave journals) (Each-from_among (IsUnder (length order)) (weave journals) (λ x among.
    (let from = origin journals x among in
    let all = Each-at (λ (j : Journal). AreBelow (length order) j.entries) journals from.place from.journal order_is.all from.found in
    let less = Each-at (λ (e : Entry). e.stamp < length order) from.journal.entries from.at from.entry all from.here in
    subst (λ (y : Stamped). y.stamp < length order) (sym from.is) less))))

-- ---- turns

-- there are no more turns than stamps
pub turns-few : (network : Network) (passes : List Token) (journals : List Journal) (stamp : ℕ) (items : List Do)
    → IsWhole network passes journals → AreMaximalRuns (actors_of (reverse (weave_below stamp journals))) items
    → length (turns_of items) ≤ stamp
turns-few network passes journals stamp items whole runs =
    let spelled = ap length runs.spelled in
    let actors = length-map (reverse (weave_below stamp journals)) actor_of in
    let turned = length-reverse (weave_below stamp journals) in
    let dones = length-map (below stamp (weave journals)) done_of in
    let few = falls-few stamp (below stamp (weave journals)) (falls-filter (is_below stamp) (weave journals) (weave-falls network passes journals whole)) (below-under stamp (weave journals)) in
    omega (arith, spelled, actors, turned, dones, few)

pub actors-more : (done : Done) (past run : List Done) (items : List Do) → run ≡ done ∷ past
    → AreMaximalRuns (actors_of (reverse past) ++ done.actor ∷ []) items → AreMaximalRuns (actors_of (reverse run)) items
actors-more done past run items is runs =
    let more : actors_of (reverse run) ≡ actors_of (reverse past) ++ done.actor ∷ [] = ap (λ r. actors_of (reverse r)) is ∙ ap actors_of (reverse-append (done ∷ []) past) ∙ map-append actor_of (reverse past) (done ∷ []) in
    subst (λ actors. AreMaximalRuns actors items) (sym more) runs

-- ---- the callers

-- the callers stand for the weave where they stand for it up to a stamp, and what comes after is the plane's
callers-below : (parts : PlanParts) (callers : List Actor) (count : ℕ) (xs : List Stamped) → Falls xs
    → ((x : Stamped) → Among x xs → count ≤ x.stamp → actor_number x.done.actor ≡ length callers)
    → AreCallers parts callers (map done_of (below count xs)) → AreCallers parts callers (map done_of xs)
callers-below parts callers count [] falls later stand = stand
callers-below parts callers count (x ∷ xs) falls later stand = elim (cases_lt x.stamp count) [
  | inl less ↦ subst (λ ys. AreCallers parts callers (map done_of ys)) (below-all count (x ∷ xs) (less, under-more x.stamp count xs (omega (arith, less)) falls.0)) stand
  | inr le ↦ callers-same parts callers (map done_of xs) x.done (callers-below parts callers count xs falls.1 (λ y among. later y (inr among)) (subst (λ ys. AreCallers parts callers (map done_of ys)) (first-left count x xs le) stand)) (later x (inl refl) le)
]

each-front : {X Y : Type 0} (P : Y → Type 0) (f : X → Y) (n k : ℕ) (xs : List X) (x : X) → Each P (map f (take n xs))
    → slice_get xs k ≡ Some x → k < n → P (f x)
each-front P f n k [] x each found less = absurd (let clash : None ≡ Some x = found in cc)
each-front P f zero k (y ∷ ys) x each found less = absurd (omega (arith, less))
each-front P f (suc n) zero (y ∷ ys) x each found less = subst (λ z. P (f z)) (same_Some y x found) each.0
each-front P f (suc n) (suc k) (y ∷ ys) x each found less = each-front P f n k ys x each.1 found (omega (arith, less))

-- an entry after the last of the callers is the plane's
plane-later : (network : Network) (passes : List Token) (journals : List Journal) (latest : ℕ) (x : Stamped)
    → IsWhole network passes journals → Each (AreUpTo latest) (map own_in (take (plane_no network) passes)) → Among x (weave journals)
    → latest < x.stamp → actor_number x.done.actor ≡ plane_no network
plane-later network passes journals latest x whole upto among above =
    let number = actor_number x.done.actor in
    let there = (whole-asked network passes journals whole).own number in
    owner number refl (slice_get passes number) refl (there.all x (journals-weave.stands (map stamped_in journals) x among) refl) where
      owner : (number : ℕ) → number ≡ actor_number x.done.actor → (found : Option Token) → slice_get passes number ≡ found → Among x (owned found) → actor_number x.done.actor ≡ plane_no network
      owner number same None is own = absurd own
      owner number same (Some pass) is own =
          let from = among-turned_map (own_stamped pass.actor) pass.own x own in
          let within = slice_get_within passes number pass is in
          let all = passes-long network passes journals whole in
          elim (cases_lt number (plane_no network)) [
            | inl less ↦ absurd (
                let mine = each-front (AreUpTo latest) own_in (plane_no network) number passes pass upto is less in
                let le = Each-at (λ (e : OwnEntry). e.stamp ≤ latest) pass.own from.place from.from mine from.found in
                let stamp = ap (λ (y : Stamped). y.stamp) from.is in
                omega (arith, le, stamp, above))
            | inr past ↦ omega (arith, same, within, all, past)
          ]

pub callers-after : (parts : PlanParts) (passes : List Token) (journals : List Journal) (callers : List Actor) (latest count : ℕ) (order : List ℕ)
    → IsWhole (network_of parts) passes journals → IsOrder journals order
    → Each (AreUpTo latest) (map own_in (take (length parts.callers) passes)) → count ≤ length order
    → (count < length order → latest < count) → AreCallers parts callers (weave_below count journals)
    → AreCallers parts callers (weave_of journals)
callers-after parts passes journals callers latest count order whole order_is upto inside front stand =
    let plane = plane-number parts in
    callers-below parts callers count (weave journals) (weave-falls (network_of parts) passes journals whole) (λ x among le.
    (let from = origin journals x among in
    let all = Each-at (λ (j : Journal). AreBelow (length order) j.entries) journals from.place from.journal order_is.all from.found in
    let less = Each-at (λ (e : Entry). e.stamp < length order) from.journal.entries from.at from.entry all from.here in
    let stamp = ap (λ (y : Stamped). y.stamp) from.is in
    let above = front (omega (arith, le, less, stamp)) in
    let same = stand.same in
    plane-later (network_of parts) passes journals latest x whole (subst (λ n. Each (AreUpTo latest) (map own_in (take n passes))) (sym plane) upto) among (omega (arith, above, le)) ∙ plane ∙ sym same)) stand

-- ---- step by step

pub whole-few : (parts : PlanParts) (passes : List Token) (journals : List Journal) → IsPlan parts
    → IsWhole (network_of parts) passes journals → length journals ≤ 32
unfolding network_of
whole-few parts passes journals plan whole =
    let few = (has-few parts plan).few in
    let same = length-map parts.links (entry_link (groups_in parts)) in
    let long = whole-length (network_of parts) passes journals whole in
    omega (arith, few, same, long)

pub order-at : (journals : List Journal) (order : List ℕ) (i d n : ℕ) → HasOrder journals order → i < length order → n ≡ get_or order i d
    → journal_with i 0 255 journals ≡ n
order-at journals order i d n has inside is = same_Some (journal_with i 0 255 journals) n (sym (has i inside) ∙ slice_get-get_or order i d inside ∙ ap Some (sym is))

pub stays-told : {W : Type 0} (saw : W → PlanParts → List Done → Type 0) (parts : PlanParts) (journals : List Journal) (told : List ℕ) (items : List Do) (watch : W) (place stamp : ℕ)
    → TellsNext saw parts journals told items watch place stamp → length journals ≤ place
    → HasTold saw parts journals told items watch (stamp + 1)
stays-told saw parts journals told items watch place stamp tells past =
    let none = none-told journals place stamp tells.number past in
    record {
      counts = tells.so_far.counts ∙ sym none.counts;
      runs = subst (λ run. AreMaximalRuns (actors_of (reverse run)) items) (sym none.tells) tells.so_far.runs;
      seen = subst (saw watch parts) (sym none.tells) tells.so_far.seen;
    }

-- the journal, and how many of its entries are told, as they are read
pub reads-journal : (network : Network) (journals : List Journal) (place stamp : ℕ) (journal : Journal)
    → (next : NextTold network journals place stamp) → journal ≡ get_or journals place journal → next.journal ≡ journal
reads-journal network journals place stamp journal next is = sym (is ∙ get_or_from_slice_get journals place next.journal journal next.found)

pub reads-count : (network : Network) (journals : List Journal) (place stamp : ℕ) (told : List ℕ) (at : ℕ)
    → (next : NextTold network journals place stamp) → told ≡ counts_below stamp journals → at ≡ get_or told place at
    → at ≡ count_below stamp next.journal.entries
reads-count network journals place stamp told at next counts is =
    is ∙ ap (λ ts. get_or ts place at) counts ∙ get_or_from_slice_get (counts_below stamp journals) place (count_below stamp next.journal.entries) at (mapped-at (λ (j : Journal). count_below stamp j.entries) journals place next.journal next.found)

pub reads-inside : (network : Network) (journals : List Journal) (place stamp : ℕ) (told : List ℕ) (journal : Journal) (at : ℕ)
    → (next : NextTold network journals place stamp) → told ≡ counts_below stamp journals → journal ≡ get_or journals place journal
    → at ≡ get_or told place at → at < length journal.entries
reads-inside network journals place stamp told journal at next counts here is =
    let same = reads-journal network journals place stamp journal next here in
    let count = reads-count network journals place stamp told at next counts is in
    let within = slice_get_within next.journal.entries (count_below stamp next.journal.entries) next.entry next.here in
    subst (λ (j : Journal). at < length j.entries) same (omega (arith, count, within))

-- the entry that is read is the next one
pub reads-next : (network : Network) (journals : List Journal) (place stamp : ℕ) (told : List ℕ) (journal : Journal) (at : ℕ) (entry : Entry)
    → (next : NextTold network journals place stamp) → told ≡ counts_below stamp journals → journal ≡ get_or journals place journal
    → at ≡ get_or told place at → slice_get journal.entries at ≡ Some entry
    → done_on next.journal.link next.entry ≡ done_on journal.link entry
reads-next network journals place stamp told journal at entry next counts here is found =
    let same = reads-journal network journals place stamp journal next here in
    let count = reads-count network journals place stamp told at next counts is in
    let one : next.entry ≡ entry = same_Some next.entry entry (sym next.here ∙ ap (slice_get next.journal.entries) (sym count) ∙ ap (λ (j : Journal). slice_get j.entries at) same ∙ found) in
    ap (λ (j : Journal). done_on j.link next.entry) same ∙ ap (done_on journal.link) one

pub next-seen : {W : Type 0} (saw : W → PlanParts → List Done → Type 0) (parts : PlanParts) (journals : List Journal) (told : List ℕ) (items : List Do) (watch : W) (place stamp : ℕ) (done : Done)
    → IsPlan parts → TellsNext saw parts journals told items watch place stamp → (next : NextTold (network_of parts) journals place stamp)
    → done_on next.journal.link next.entry ≡ done → IsNextSeen saw parts watch (weave_below stamp journals) done
next-seen saw parts journals told items watch place stamp done plan tells next is =
    record { plan = plan; run = next.run; next = subst (IsNext (network_of parts) (weave_below stamp journals)) is next.next; seen = tells.so_far.seen }

pub goes-told : {W : Type 0} (saw : W → PlanParts → List Done → Type 0) (parts : PlanParts) (journals : List Journal) (told told' : List ℕ) (items items' : List Do) (watch watch' : W) (place stamp at : ℕ) (done : Done)
    → TellsNext saw parts journals told items watch place stamp → (next : NextTold (network_of parts) journals place stamp)
    → at ≡ get_or told place at → done_on next.journal.link next.entry ≡ done → told' ≡ set told place (at + 1)
    → ((actors : List ActorNo) → AreMaximalRuns actors items → AreMaximalRuns (actors ++ done.actor ∷ []) items')
    → saw watch' parts (done ∷ weave_below stamp journals) → HasTold saw parts journals told' items' watch' (stamp + 1)
goes-told saw parts journals told told' items items' watch watch' place stamp at done tells next count is told_is more seen =
    let tells_done : weave_below (stamp + 1) journals ≡ done ∷ weave_below stamp journals = next.tells ∙ ap (λ d. d ∷ weave_below stamp journals) is in
    let counted = reads-count (network_of parts) journals place stamp told at next tells.so_far.counts count in
    record {
      counts = told_is ∙ ap (λ ts. set ts place (at + 1)) tells.so_far.counts ∙ ap (λ n. set (counts_below stamp journals) place (n + 1)) counted ∙ sym next.counts;
      runs = actors-more done (weave_below stamp journals) (weave_below (stamp + 1) journals) items' tells_done (more (actors_of (reverse (weave_below stamp journals))) tells.so_far.runs);
      seen = subst (saw watch' parts) (sym tells_done) seen;
    }

-- ---- a front of the table

get-front : (front more : List ℕ) (stamp : ℕ) → stamp < length front → slice_get (front ++ more) stamp ≡ slice_get front stamp
get-front [] more stamp less = absurd (omega (arith, less))
get-front (x ∷ front) more zero less = refl
get-front (x ∷ front) more (suc stamp) less = get-front front more stamp (omega (arith, less))

pub front-has : (journals : List Journal) (order front more : List ℕ) → HasOrder journals order → order ≡ front ++ more
    → HasOrder journals front
front-has journals order front more has is stamp less =
    let long = ap length is ∙ length-append front more in
    sym (get-front front more stamp less) ∙ ap (λ os. slice_get os stamp) (sym is) ∙ has stamp (omega (arith, less, long))

-- ---- the whole weave, and a front of it

pub woven-by : (js journals : List Journal) (order os : List ℕ) → js ≡ journals → os ≡ order → IsOrder js order
    → weave_below (length os) js ≡ weave_of journals
woven-by js journals order os same is has = ap (λ (l : List ℕ). weave_below (length l) js) is ∙ weave-last js order has ∙ ap weave_of same

pub run-front : (network : Network) (passes : List Token) (journals : List Journal) (stamp : ℕ) → IsWhole network passes journals
    → IsRun network (weave_below stamp journals)
run-front network passes journals stamp whole = run-below network stamp (weave journals) (weave-falls network passes journals whole) (whole-run network passes journals whole)

-- the passes of the callers come first
pub callers-inside : (parts : PlanParts) (passes : List Token) (journals : List Journal) (count : ℕ) (ps : List Token)
    → IsWhole (network_of parts) passes journals → ps ≡ passes → count ≡ length parts.callers → count ≡ length (take count ps)
callers-inside parts passes journals count ps whole same is =
    let all = passes-long (network_of parts) passes journals whole in
    let plane = plane-number parts in
    sym (length-take-le count ps (subst (λ l. count ≤ length l) (sym same) (omega (arith, all, plane, is))))
