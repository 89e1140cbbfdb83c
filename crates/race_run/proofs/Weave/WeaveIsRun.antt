-- Where journals and passes are whole for a network, the journals are what the weave of journals asks for, and so are the actors'
-- own entries: the weave is a run, in which every actor has made all its steps.
use Rattle.std.proofs.Common.{◌≡◌, ◌≢◌, ℕ, zero, suc, ◌+◌, ◌<◌, ◌≤◌, List, [], ◌∷◌, ◌++◌, map, reverse, length, Option, Some, None, refl, sym, ap, ◌∙◌, subst, inl, inr, arith}
use Rattle.std.proofs.lemmas.Bool.{ne_eqb}
use Rattle.std.proofs.lemmas.List.{length-map, reverse-append}
use Rattle.std.proofs.lemmas.Option.{slice_get_past, slice_get_within}
use Rattle.std.specs.List.{slice_get}
use Rattle.net_units.specs.Numbers.{actor_number, link_number}
use Rattle.net_units.specs.declared.numbers.ActorNo.{ActorNo}
use Rattle.net_units.specs.declared.numbers.LinkNo.{LinkNo}
use Rattle.link_steps.specs.Legal.{IsLegal}
use Rattle.link_steps.specs.Lists.{Each, Among}
use Rattle.link_steps.proofs.SearchAndFilter.{Each-append, Each-if, Each-map, Each-from}
use Rattle.link_steps.proofs.FoundElements.{Each-from_among}
use Rattle.link_steps.proofs.LegalJournals.{journals-are-histories}
use Rattle.step_stamp.specs.Marks.{RisesFrom, StampsRise}
use Rattle.step_stamp.specs.declared.marks.Mark.{Mark}
use Rattle.link_ledger.specs.Journals.{mark_in, marks_in, done_in}
use Rattle.link_ledger.specs.Own.{own_mark, own_entry}
use Rattle.link_ledger.specs.Tokens.{Token}
use Rattle.link_ledger.specs.declared.entries.Entry.{Entry}
use Rattle.link_ledger.specs.declared.entries.Journal.{Journal}
use Rattle.link_ledger.specs.declared.entries.OwnEntry.{OwnEntry}
use Rattle.shared_network.specs.Calls.{reply_in}
use Rattle.shared_network.specs.Closing.{StandsIn as StandsAt, number_of}
use Rattle.shared_network.specs.Gathering.{token_actor}
use Rattle.shared_network.proofs.Numbering.LinkNumbers.{numbered-length, numbered-at}
use Rattle.call_script.specs.Tasks.{Network}
use Rattle.run_engine.specs.runs.Parts.{IsAsked, next_after, reply_of}
use Rattle.run_engine.specs.runs.Runs.{plane_no, IsRun, next_for}
use Rattle.run_engine.specs.runs.Weave.{Stamped, IsUnder, Falls, IsUnlike, AreStampedApart, PairsApart, AreOf, AreJournals, AreAsked, InOne, StandsIn, done_of, entry_in}
use Rattle.run_engine.proofs.Runs.WeaveLaw.{journals-weave}
use Rattle.race_run.specs.Whole.{IsWhole, HasMadeAll, own_done, stamped_on, stamped_in, weave_of}
use Rattle.race_run.proofs.Lists.{among-turned_map, turned_map-among}
use Rattle.link_steps.proofs.ListParts.{Each-reverse, comes-from, mapped-at, Each-at, Each-by_place}
use Rattle.step_stamp.proofs.ListMembers.{get-has, has-get}
use Rattle.net_units.proofs.KnownByNumber.{same-link}
use Rattle.net_units.proofs.ListPlaces.{map-reverse}

-- ---- stamps that rise, turned round

falls-last : (xs : List Stamped) (x : Stamped) → Falls xs → Each (λ (y : Stamped). x.stamp < y.stamp) xs → Falls (xs ++ x ∷ [])
falls-last [] x falls above = (tt, tt)
falls-last (y ∷ ys) x falls above = (Each-append (IsUnder y.stamp) ys (x ∷ []) falls.0 (above.0, tt), falls-last ys x falls.1 above.1)

falls-turned : {X : Type 0} (g : X → Stamped) (m : X → Mark) → ((x : X) → (g x).stamp ≡ (m x).stamp) → (low : ℕ) (xs : List X) → RisesFrom low (map m xs) → Falls (reverse (map g xs)) × Each (λ (y : Stamped). low < y.stamp) (reverse (map g xs))
falls-turned g m same low [] rises = (tt, tt)
falls-turned g m same low (x ∷ xs) rises =
    let rest = falls-turned g m same (m x).stamp xs rises.1 in
    let turned = reverse-append (g x ∷ []) (map g xs) in
    let above = Each-if (λ (y : Stamped). (m x).stamp < y.stamp) (λ (y : Stamped). (g x).stamp < y.stamp) (reverse (map g xs)) (λ y more. (let e = same x in omega (arith, more, e))) rest.1 in
    let higher = Each-if (λ (y : Stamped). (m x).stamp < y.stamp) (λ (y : Stamped). low < y.stamp) (reverse (map g xs)) (λ y more. (let first = rises.0 in omega (arith, more, first))) rest.1 in
    let first : low < (g x).stamp = (let e = same x in let up = rises.0 in omega (arith, up, e)) in
    (subst Falls (sym turned) (falls-last (reverse (map g xs)) (g x) rest.0 above), subst (Each (λ (y : Stamped). low < y.stamp)) (sym turned) (Each-append (λ (y : Stamped). low < y.stamp) (reverse (map g xs)) (g x ∷ []) higher (first, tt)))

-- ---- the journals

pub whole-length : (network : Network) (passes : List Token) (journals : List Journal) → IsWhole network passes journals → length journals ≡ length network.links
whole-length network passes journals whole = numbered-length number_of journals (length network.links) whole.closed.numbers

journal-number : (network : Network) (passes : List Token) (journals : List Journal) (k : ℕ) (journal : Journal) → IsWhole network passes journals → slice_get journals k ≡ Some journal → link_number journal.link ≡ k
journal-number network passes journals k journal whole found =
    let inside : k < length network.links = subst (λ n. k < n) (whole-length network passes journals whole) (slice_get_within journals k journal found) in
    numbered-at number_of journals (length network.links) k journal whole.closed.numbers inside found

are-of : (n : ℕ) (journals : List Journal) → ((k : ℕ) (journal : Journal) → slice_get journals k ≡ Some journal → link_number journal.link ≡ n + k) → AreOf n (map stamped_in journals)
are-of n [] numbers = tt
are-of n (journal ∷ journals) numbers = (
  let first : link_number journal.link ≡ n = (let e = numbers 0 journal refl in omega (arith, e)) in
      Each-reverse (λ (x : Stamped). link_number x.done.link ≡ n) (map (stamped_on journal.link) journal.entries) (Each-map (λ (x : Stamped). link_number x.done.link ≡ n) (stamped_on journal.link) journal.entries (Each-from (λ (e : Entry). link_number journal.link ≡ n) journal.entries (λ e. first))),
  are-of (suc n) journals (λ k one found. (let e = numbers (suc k) one found in omega (arith, e))),
)

are-apart : (xs ys : List Stamped) → ((x y : Stamped) → Among x xs → Among y ys → IsUnlike x y) → AreStampedApart xs ys
are-apart [] ys unlike = tt
are-apart (x ∷ xs) ys unlike = (Each-from_among (IsUnlike x) ys (λ y there. unlike x y (inl refl) there), are-apart xs ys (λ z y here there. unlike z y (inr here) there))

pairs-apart : (journals : List Journal) → ((k l : ℕ) (one other : Journal) → k ≢ l → slice_get journals k ≡ Some one → slice_get journals l ≡ Some other → AreStampedApart (stamped_in one) (stamped_in other)) → PairsApart (map stamped_in journals)
pairs-apart [] apart = tt
pairs-apart (journal ∷ journals) apart = (
  Each-map (AreStampedApart (stamped_in journal)) stamped_in journals (Each-by_place (λ (j : Journal). AreStampedApart (stamped_in journal) (stamped_in j)) journals (λ k j found. apart 0 (suc k) journal j (λ same. absurd (omega (arith, same))) refl found)),
  pairs-apart journals (λ k l one other ne here there. apart (suc k) (suc l) one other (λ same. ne (omega (arith, same))) here there),
)

-- the history of a journal, as its entries in the run tell it
entries-told : (link : LinkNo) (entries : List Entry) → map entry_in (map (stamped_on link) entries) ≡ map done_in entries
entries-told link [] = refl
entries-told link (e ∷ entries) = ap (λ es. done_in e ∷ es) (entries-told link entries)

pub whole-journals : (network : Network) (passes : List Token) (journals : List Journal) → IsWhole network passes journals → AreJournals network (map stamped_in journals)
whole-journals network passes journals whole = record {
  whole = length-map journals stamped_in ∙ whole-length network passes journals whole;
  of_links = are-of 0 journals (λ k journal found. (let e = journal-number network passes journals k journal whole found in omega (arith, e)));
  falls = Each-map Falls stamped_in journals (Each-if (λ (journal : Journal). StampsRise (marks_in journal.entries)) (λ (journal : Journal). Falls (stamped_in journal)) journals (λ journal rises. (falls-turned (stamped_on journal.link) mark_in (λ e. refl) 0 journal.entries rises).0) whole.closed.rises);
  apart = pairs-apart journals (λ k l one other ne here there. are-apart (stamped_in one) (stamped_in other) (λ x y in_one in_other.
      (let from = among-turned_map (stamped_on one.link) one.entries x in_one in
      let to = among-turned_map (stamped_on other.link) other.entries y in_other in
      λ same. whole.closed.apart k l one other from.from to.from ne here there (get-has one.entries from.place from.from from.found) (get-has other.entries to.place to.from to.found) (sym (ap (λ (s : Stamped). s.stamp) from.is) ∙ same ∙ ap (λ (s : Stamped). s.stamp) to.is))));
  legal = λ n link journal linked found.
      (let it = comes-from stamped_in journals n journal found in
      let told : map entry_in (stamped_in it.from) ≡ reverse (map done_in it.from.entries) = map-reverse entry_in (map (stamped_on it.from.link) it.from.entries) ∙ ap reverse (entries-told it.from.link it.from.entries) in
      subst (λ (j : List Stamped). IsLegal link (map entry_in j)) it.is (subst (IsLegal link) (sym told) ((journals-are-histories link (map done_in it.from.entries)).0 (whole.closed.legal n link it.from linked it.found))));
}

-- ---- the own entries

-- an own entry with its stamp, and those of the actor of a number, newest first
abbrev pub own_stamped : ActorNo → OwnEntry → Stamped
own_stamped actor e = record { stamp = e.stamp; done = own_done actor e }

abbrev pub own_in : Option Token → List Stamped
own_in None = []
own_in (Some pass) = reverse (map (own_stamped pass.actor) pass.own)

abbrev pub owns_of : List Token → ℕ → List Stamped
owns_of passes actor = own_in (slice_get passes actor)

own-falls : (network : Network) (passes : List Token) (journals : List Journal) (actor : ℕ) (found : Option Token) → IsWhole network passes journals → slice_get passes actor ≡ found → Falls (own_in found)
own-falls network passes journals actor None whole is = tt
own-falls network passes journals actor (Some pass) whole is =
    (falls-turned (own_stamped pass.actor) (own_mark pass.actor) (λ e. refl) 0 pass.own (Each-at (λ (p : Token). StampsRise (map (own_mark p.actor) p.own)) passes actor pass whole.closed.in_order is)).0

pub passes-long : (network : Network) (passes : List Token) (journals : List Journal) → IsWhole network passes journals → length passes ≡ suc (plane_no network)
passes-long network passes journals whole = numbered-length token_actor passes (suc (plane_no network)) whole.actors

pass-number : (network : Network) (passes : List Token) (journals : List Journal) (actor : ℕ) (pass : Token) → IsWhole network passes journals → slice_get passes actor ≡ Some pass → actor_number pass.actor ≡ actor
pass-number network passes journals actor pass whole found =
    let all : length passes ≡ suc (plane_no network) = numbered-length token_actor passes (suc (plane_no network)) whole.actors in
    numbered-at token_actor passes (suc (plane_no network)) actor pass whole.actors (subst (λ n. actor < n) all (slice_get_within passes actor pass found)) found

own-stands : (network : Network) (passes : List Token) (journals : List Journal) (actor : ℕ) (x : Stamped) (found : Option Token) → IsWhole network passes journals → slice_get passes actor ≡ found → Among x (own_in found) → InOne x (map stamped_in journals) × (actor_number x.done.actor ≡ actor)
own-stands network passes journals actor x None whole is among = absurd among
own-stands network passes journals actor x (Some pass) whole is among =
    let from = among-turned_map (own_stamped pass.actor) pass.own x among in
    let at = Each-at (StandsAt journals pass.actor) pass.own from.place from.from (Each-at (λ (p : Token). Each (StandsAt journals p.actor) p.own) passes actor pass whole.closed.stands is) from.found in
    let link : at.journal.link ≡ from.from.link = same-link at.journal.link from.from.link (journal-number network passes journals (link_number from.from.link) at.journal whole at.found) in
    let same : stamped_on at.journal.link (own_entry pass.actor from.from) ≡ x = ap (λ l. stamped_on l (own_entry pass.actor from.from)) link ∙ sym from.is in (
      StandsIn (link_number from.from.link) (stamped_in at.journal) (mapped-at stamped_in journals (link_number from.from.link) at.journal at.found) (subst (λ (z : Stamped). Among z (stamped_in at.journal)) same (turned_map-among (stamped_on at.journal.link) at.journal.entries _ (own_entry pass.actor from.from) at.here)),
      ap (λ (z : Stamped). actor_number z.done.actor) from.is ∙ pass-number network passes journals actor pass whole is,
    )

all-own : (network : Network) (passes : List Token) (journals : List Journal) (actor : ℕ) (x : Stamped) → IsWhole network passes journals → InOne x (map stamped_in journals) → actor_number x.done.actor ≡ actor → Among x (owns_of passes actor)
all-own network passes journals actor x whole (StandsIn k stamped found among) by =
    let journal = comes-from stamped_in journals k stamped found in
    let from = among-turned_map (stamped_on journal.from.link) journal.from.entries x (subst (Among x) (sym journal.is) among) in
    let one = whole.closed.of_one k from.place journal.from from.from journal.found from.found in
    let link : journal.from.link ≡ one.entry.link = same-link journal.from.link one.entry.link (journal-number network passes journals k journal.from whole journal.found ∙ sym one.link) in
    let is : own_stamped one.pass.actor one.entry ≡ x = ap (λ l. stamped_on l (own_entry one.pass.actor one.entry)) (sym link) ∙ ap (stamped_on journal.from.link) one.same ∙ sym from.is in
    let index : one.index ≡ actor = sym (pass-number network passes journals one.index one.pass whole one.found) ∙ ap (λ (z : Stamped). actor_number z.done.actor) is ∙ by in
    let here : slice_get passes actor ≡ Some one.pass = ap (slice_get passes) (sym index) ∙ one.found in
    let at = has-get one.pass.own one.entry one.own in
    subst (λ o. Among x (own_in o)) (sym here) (subst (λ (z : Stamped). Among z (own_in (Some one.pass))) is (turned_map-among (own_stamped one.pass.actor) one.pass.own at.0 one.entry at.1))

own-done : (actor : ActorNo) (own : List OwnEntry) → map done_of (map (own_stamped actor) own) ≡ map (own_done actor) own
own-done actor [] = refl
own-done actor (e ∷ own) = ap (λ ds. own_done actor e ∷ ds) (own-done actor own)

own-replies : (actor : ActorNo) (own : List OwnEntry) → map reply_of (map done_of (map (own_stamped actor) own)) ≡ map reply_in own
own-replies actor [] = refl
own-replies actor (e ∷ own) = ap (λ rs. e.reply ∷ rs) (own-replies actor own)

own-asked : (network : Network) (passes : List Token) (journals : List Journal) (actor : ℕ) (found : Option Token) → IsWhole network passes journals → slice_get passes actor ≡ found → IsAsked network actor (map done_of (own_in found))
own-asked network passes journals actor None whole is = tt
own-asked network passes journals actor (Some pass) whole is =
    let made = Each-at (HasMadeAll network) passes actor pass whole.made_all is in
    let told : map done_of (own_in (Some pass)) ≡ reverse (map (own_done pass.actor) pass.own) = map-reverse done_of (map (own_stamped pass.actor) pass.own) ∙ ap reverse (own-done pass.actor pass.own) in
    subst (λ n. IsAsked network n (map done_of (own_in (Some pass)))) (pass-number network passes journals actor pass whole is) (subst (IsAsked network (actor_number pass.actor)) (sym told) made.asked)

pub whole-asked : (network : Network) (passes : List Token) (journals : List Journal) → IsWhole network passes journals → AreAsked network (owns_of passes) (map stamped_in journals)
whole-asked network passes journals whole = record {
  falls = λ actor. own-falls network passes journals actor (slice_get passes actor) whole refl;
  own = λ actor. record {
    stands = λ x among. own-stands network passes journals actor x (slice_get passes actor) whole refl among;
    all = λ x there by. all-own network passes journals actor x whole there by;
  };
  asked = λ actor. own-asked network passes journals actor (slice_get passes actor) whole refl;
}

-- ---- the run

pub whole-run : (network : Network) (passes : List Token) (journals : List Journal) → IsWhole network passes journals → IsRun network (weave_of journals)
whole-run network passes journals whole = journals-weave.run network (map stamped_in journals) (owns_of passes) (whole-journals network passes journals whole) (whole-asked network passes journals whole)

-- after its own entries no actor has an ask left, and none that the network hasn't
own-over : (network : Network) (passes : List Token) (journals : List Journal) (actor : ℕ) (found : Option Token) → IsWhole network passes journals → slice_get passes actor ≡ found → next_after network actor (map reply_of (map done_of (own_in found))) ≡ None
own-over network passes journals actor None whole is =
    let all : length passes ≡ suc (plane_no network) = numbered-length token_actor passes (suc (plane_no network)) whole.actors in
    let past : suc (plane_no network) ≤ actor = past-end passes actor (suc (plane_no network)) all is in
    let other = ne_eqb actor (plane_no network) (λ same. absurd (omega (arith, past, same))) in
    rw (other, slice_get_past network.scripts actor (omega (arith, past))) refl where
      past-end : (xs : List Token) (k n : ℕ) → length xs ≡ n → slice_get xs k ≡ None → n ≤ k
      past-end [] k n long none = omega (arith, long)
      past-end (x ∷ xs) zero n long none = absurd (let clash : Some x ≡ None = none in cc)
      past-end (x ∷ xs) (suc k) zero long none = omega arith
      past-end (x ∷ xs) (suc k) (suc n) long none = (let more = past-end xs k n (omega (arith, long)) none in omega (arith, more))
own-over network passes journals actor (Some pass) whole is =
    let made = Each-at (HasMadeAll network) passes actor pass whole.made_all is in
    let told : map reply_of (map done_of (own_in (Some pass))) ≡ reverse (map reply_in pass.own) = ap (map reply_of) (map-reverse done_of (map (own_stamped pass.actor) pass.own)) ∙ map-reverse reply_of (map done_of (map (own_stamped pass.actor) pass.own)) ∙ ap reverse (own-replies pass.actor pass.own) in
    ap (next_after network actor) told ∙ ap (λ n. next_after network n (reverse (map reply_in pass.own))) (sym (pass-number network passes journals actor pass whole is)) ∙ made.over

pub whole-over : (network : Network) (passes : List Token) (journals : List Journal) (actor : ℕ) → IsWhole network passes journals → next_for network actor (weave_of journals) ≡ None
whole-over network passes journals actor whole =
    journals-weave.ends network (map stamped_in journals) (owns_of passes) actor (whole-journals network passes journals whole) (whole-asked network passes journals whole) (own-over network passes journals actor (slice_get passes actor) whole refl)
