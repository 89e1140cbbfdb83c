-- The merge of the links' journals by stamp is a run, where each journal is legal and each actor's own entries are asked by its
-- rules.
use Rattle.std.proofs.Common.{◌≡◌, ℕ, suc, ◌+◌, ◌<◌, ◌≤◌, Bool, List, [], ◌∷◌, length, map, Some, None, refl, sym, ap, ◌∙◌, subst, inl, inr, arith}
use Rattle.run_engine.proofs.Words.{cases_Bool, eqb-true, eq-eqb, slice_get_within, slice_get, filter, link_number, actor_number, IsLegal, Each, Network, is_by, part_of, Done, next_for, IsRun}
use Rattle.link_steps.proofs.SearchAndFilter.{Among-filter}
use Rattle.link_steps.proofs.PacketRows.{Among-passes}
use Rattle.run_engine.specs.runs.Parts.{reply_of, next_after, IsAsked, own_of, IsLinked}
use Rattle.run_engine.specs.runs.Weave.{Stamped, woven_of, Falls, AreOf, done_of, entry_in, AreOwn, AreJournals, AreAsked, run_of, JournalsWeaveToARun}
use Rattle.run_engine.proofs.Runs.Merge.{is_at, HoldTheSame, falls-woven, woven-part, each-woven, woven-in, in-woven, pairs-apart, falls-same, falls-filter}
use Rattle.run_engine.proofs.Runs.PartsRun.{next-is, parts-run}
use Rattle.link_steps.proofs.ListParts.{stands-at}

-- ---- the entries of a link and of an actor

part-filter : (n : ℕ) (xs : List Stamped) → part_of n (map done_of xs) ≡ map entry_in (filter (is_at n) xs)
unfolding part_of
part-filter n [] = refl
part-filter n (x ∷ xs) =
    elim (cases_Bool (is_at n x)) [
      | inl on ↦ rw on (ap (λ es. entry_in x ∷ es) (part-filter n xs))
      | inr off ↦ rw off (part-filter n xs)
    ]

abbrev pub is_stamped_by : ℕ → Stamped → Bool
is_stamped_by actor x = is_by actor x.done

own-filter : (actor : ℕ) (xs : List Stamped) → own_of actor (map done_of xs) ≡ map done_of (filter (is_stamped_by actor) xs)
own-filter actor [] = refl
own-filter actor (x ∷ xs) =
    elim (cases_Bool (is_stamped_by actor x)) [
      | inl by ↦ rw by (ap (λ ds. done_of x ∷ ds) (own-filter actor xs))
      | inr off ↦ rw off (own-filter actor xs)
    ]

-- ---- the links of journals

linked-all : (network : Network) (n : ℕ) (xs : List Stamped) → n < length network.links → Each (λ x. link_number x.done.link ≡ n) xs → Each (λ x. IsLinked network x.done) xs
linked-all network n [] inside each = tt
linked-all network n (x ∷ xs) inside each =
    let there = stands-at network.links n inside in
    (record { link = there.0; linked = ap (slice_get network.links) each.0 ∙ there.1 }, linked-all network n xs inside each.1)

linked-journals : (network : Network) (n : ℕ) (journals : List (List Stamped)) → n + length journals ≤ length network.links → AreOf n journals → Each (Each (λ x. IsLinked network x.done)) journals
linked-journals network n [] fit are = tt
linked-journals network n (journal ∷ journals) fit are = (linked-all network n journal (omega (arith, fit)) are.0, linked-journals network (suc n) journals (omega (arith, fit)) are.1)

each-done : (P : Done → Type 0) (xs : List Stamped) → Each (λ x. P x.done) xs → Each P (map done_of xs)
each-done P [] each = tt
each-done P (x ∷ xs) each = (each.0, each-done P xs each.1)

-- ---- the merge

woven-falls : (network : Network) (journals : List (List Stamped)) → AreJournals network journals → Falls (woven_of journals)
woven-falls network journals are = falls-woven journals are.falls (pairs-apart journals are.apart)

woven-parts : (network : Network) (journals : List (List Stamped)) (n : ℕ) (journal : List Stamped) → AreJournals network journals → slice_get journals n ≡ Some journal → part_of n (run_of journals) ≡ map entry_in journal
woven-parts network journals n journal are found =
    let at : n ≡ 0 + n = omega arith in
    let part : filter (is_at n) (woven_of journals) ≡ journal = ap (λ m. filter (is_at m) (woven_of journals)) at ∙ woven-part 0 n journals journal are.of_links are.falls (pairs-apart journals are.apart) found in
    part-filter n (woven_of journals) ∙ ap (map entry_in) part

-- an actor's entries in the merge are its own
own-same : (actor : ℕ) (own : List Stamped) (journals : List (List Stamped)) → AreOwn actor own journals → HoldTheSame own (filter (is_stamped_by actor) (woven_of journals))
own-same actor own journals are = record {
  to = λ x among. (let both = are.stands x among in Among-passes (is_stamped_by actor) x (woven_of journals) (eq-eqb (actor_number x.done.actor) actor both.1) (in-woven x journals both.0));
  from = λ x among. (let both = Among-filter (is_stamped_by actor) x (woven_of journals) among in are.all x (woven-in x journals both.0) (eqb-true (actor_number x.done.actor) actor both.1));
}

own-part : (network : Network) (journals : List (List Stamped)) (owns : ℕ → List Stamped) (actor : ℕ) → AreJournals network journals → AreAsked network owns journals → own_of actor (run_of journals) ≡ map done_of (owns actor)
own-part network journals owns actor are of =
    let same : owns actor ≡ filter (is_stamped_by actor) (woven_of journals) = falls-same (owns actor) _ (of.falls actor) (falls-filter (is_stamped_by actor) (woven_of journals) (woven-falls network journals are)) (own-same actor (owns actor) journals (of.own actor)) in
    own-filter actor (woven_of journals) ∙ ap (map done_of) (sym same)

woven-run : (network : Network) (journals : List (List Stamped)) (owns : ℕ → List Stamped) → AreJournals network journals → AreAsked network owns journals → IsRun network (run_of journals)
woven-run network journals owns are of =
    let whole = are.whole in
    parts-run network (run_of journals) (each-done (IsLinked network) (woven_of journals) (each-woven (λ x. IsLinked network x.done) journals (linked-journals network 0 journals (omega (arith, whole)) are.of_links)))
    (λ n link found.
    (let within = slice_get_within network.links n link found in
    let there = stands-at journals n (omega (arith, whole, within)) in
    subst (IsLegal link) (sym (woven-parts network journals n there.0 are there.1)) (are.legal n link there.0 found there.1)))
    (λ actor. subst (IsAsked network actor) (sym (own-part network journals owns actor are of)) (of.asked actor))

woven-ends : (network : Network) (journals : List (List Stamped)) (owns : ℕ → List Stamped) (actor : ℕ) → AreJournals network journals → AreAsked network owns journals → next_after network actor (map reply_of (map done_of (owns actor))) ≡ None → next_for network actor (run_of journals) ≡ None
woven-ends network journals owns actor are of none = next-is network actor (run_of journals) ∙ ap (λ ds. next_after network actor (map reply_of ds)) (own-part network journals owns actor are of) ∙ none

pub journals-weave : JournalsWeaveToARun
journals-weave = record {
  falls = woven-falls;
  stands = λ journals x among. woven-in x journals among;
  all = λ journals x there. in-woven x journals there;
  parts = woven-parts;
  run = woven-run;
  ends = woven-ends;
}
