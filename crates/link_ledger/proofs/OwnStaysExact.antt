-- The own entries of a pass through a step: they are exact again, and the entries of its actor in the link's journal are the
-- own entries of this link. What the link's list has beyond what the pass knew has no mark of its actor, since such a mark
-- was drawn by the pass, hence known, and stamps rise.
use Rattle.std.proofs.Common.{◌≡◌, ℕ, zero, suc, eqb, ◌-◌, Bool, true, false, cond, List, [], ◌∷◌, ◌++◌, map, length, refl, sym, ap, ◌∙◌, subst, inl, inr, ⊎_elim, arith}
use Rattle.std.specs.Prelude.{Some, None, slice_get}
use Rattle.std.proofs.lemmas.Bool.{cond_both, cases_eq, eq-eqb, eqb-true}
use Rattle.std.proofs.lemmas.List.{append-nil, map-append, length-map}
use Rattle.std.proofs.lemmas.List.Elements.{filter-append}
use Rattle.net_units.specs.Numbers.{actor_number, link_number}
use Rattle.net_units.specs.declared.numbers.ActorNo.{ActorNo}
use Rattle.link_steps.specs.Legal.{IsLegal}
use Rattle.link_steps.specs.Replies.{reply_to}
use Rattle.link_steps.specs.Split.{Link}
use Rattle.link_steps.specs.declared.asks.Ask.{Ask}
use Rattle.link_steps.specs.declared.replies.Entry.{Entry as Done}
use Rattle.link_steps.proofs.SearchAndFilter.{Each-if, Each-append}
use Rattle.step_stamp.specs.Lists.{Has}
use Rattle.step_stamp.specs.Marks.{StampsRise, drawn_for, marks_of}
use Rattle.step_stamp.specs.Views.{known_of}
use Rattle.step_stamp.specs.declared.marks.Drawn.{Drawn}
use Rattle.step_stamp.specs.declared.marks.Mark.{Mark}
use Rattle.step_stamp.specs.declared.views.View.{View}
use Rattle.step_stamp.proofs.ListMembers.{has-right, has-kept, filter-none}
use Rattle.step_stamp.proofs.RisingStamps.{rises-apart}
use Rattle.link_ledger.specs.Journals.{mark_in, marks_in, history_in, journal_entry_of, history_entry_of, told_after, journal_of, entries_of}
use Rattle.link_ledger.specs.Own.{own_mark, own_drawn, own_entry, own_at, IsAtPlace, IsExact, Owns, Acted}
use Rattle.link_ledger.specs.declared.entries.Entry.{Entry}
use Rattle.link_ledger.specs.declared.entries.OwnEntry.{OwnEntry}
use Rattle.link_ledger.proofs.JournalGrowth.{history-more, marks-more, journal-told, past_after, told-append}

-- ---- an element at a place

pub get-left : {X : Type 0} (xs ys : List X) (k : ℕ) (x : X) → slice_get xs k ≡ Some x → slice_get (xs ++ ys) k ≡ Some x
get-left [] ys k x at = absurd (let clash : None ≡ Some x = at in cc)
get-left (y ∷ xs) ys zero x at = at
get-left (y ∷ xs) ys (suc k) x at = get-left xs ys k x at

pub get-last : {X : Type 0} (xs : List X) (x : X) → slice_get (xs ++ x ∷ []) (length xs) ≡ Some x
get-last [] x = refl
get-last (y ∷ xs) x = get-last xs x

-- ---- the own entries of a link

-- a mark of an own entry, found among the drawn ones
pub own_drawn-has : (a : ActorNo) (l : ℕ) (m : Mark) (own : List OwnEntry) → Has (drawn_for l m) (map (own_drawn a) own) → Has m (map (own_mark a) (own_at l own))
own_drawn-has a l m [] has = absurd has
own_drawn-has a l m (e ∷ own) has =
    cond_both (eqb (link_number e.link) l) (e ∷ own_at l own) (own_at l own) (λ es. Has m (map (own_mark a) es))
    (λ _. ⊎_elim (λ (is : own_drawn a e ≡ drawn_for l m). inl (ap (λ (d : Drawn). d.mark) is)) (λ t. inr (own_drawn-has a l m own t)) has)
    (λ no. ⊎_elim (λ (is : own_drawn a e ≡ drawn_for l m). absurd (cc (no, eq-eqb (link_number e.link) l (ap (λ (d : Drawn). d.link) is)))) (λ t. own_drawn-has a l m own t) has)

-- one more of this link, and of another
pub one-at : (l : ℕ) (own : List OwnEntry) (e : OwnEntry) → link_number e.link ≡ l → own_at l (own ++ e ∷ []) ≡ own_at l own ++ e ∷ []
one-at l own e is = filter-append (λ (x : OwnEntry). eqb (link_number x.link) l) own (e ∷ []) ∙ ap (λ b. own_at l own ++ cond b (e ∷ []) []) (eq-eqb (link_number e.link) l is)

pub none-at : (l k : ℕ) (own : List OwnEntry) (e : OwnEntry) → link_number e.link ≡ l → (k ≡ l → ⊥) → own_at k (own ++ e ∷ []) ≡ own_at k own
none-at l k own e is other =
    filter-append (λ (x : OwnEntry). eqb (link_number x.link) k) own (e ∷ [])
    ∙ cond_both (eqb (link_number e.link) k) (e ∷ []) [] (λ es. own_at k own ++ es ≡ own_at k own) (λ on. absurd (other (sym (eqb-true (link_number e.link) k on) ∙ is))) (λ _. append-nil (own_at k own))

-- ---- what the pass didn't know

-- what the link's list has more than the pass knew has no mark of its actor
pub rest-none : (a : ActorNo) (l : ℕ) (v : View) (own : List OwnEntry) (rest : List Mark) → IsExact a v own → Has (actor_number a) v.actors → StampsRise (known_of l v ++ rest)
    → ((m : Mark) → Has m (known_of l v ++ rest) → Has (actor_number m.actor) v.actors → Has (drawn_for l m) v.drawn) → marks_of (actor_number a) rest ≡ []
rest-none a l v own rest exact acts rises drew =
    filter-none (λ (m : Mark). eqb (actor_number m.actor) (actor_number a)) rest
    (λ m has on.
    let is : actor_number m.actor ≡ actor_number a = eqb-true (actor_number m.actor) (actor_number a) on in
    let made = drew m (has-right m (known_of l v) rest has) (subst (λ n. Has n v.actors) (sym is) acts) in
    let among = own_drawn-has a l m own (subst (Has (drawn_for l m)) exact.drawn made) in
    let knew = has-kept (λ (x : Mark). eqb (actor_number x.actor) (actor_number a)) m (known_of l v) (subst (Has m) (sym (exact.known l)) among) in
    rises-apart 0 (known_of l v) rest m rises knew has)

-- so it has no entry of its actor in the journal
pub entries-none : (link : Link) (a : ℕ) (past : List Done) (ms : List Mark) → marks_of a ms ≡ [] → entries_of a (told_after link past ms) ≡ []
unfolding told_after
entries-none link a past [] none = refl
entries-none link a past (m ∷ ms) none =
    elim (eqb (actor_number m.actor) a)
    as (λ b. cond b (m ∷ marks_of a ms) (marks_of a ms) ≡ [] → cond b (journal_entry_of m (reply_to link past m.ask) ∷ entries_of a (told_after link (history_entry_of m (reply_to link past m.ask) ∷ past) ms)) (entries_of a (told_after link (history_entry_of m (reply_to link past m.ask) ∷ past) ms)) ≡ [])
    [ true ↦ λ is. absurd (cc is) | false ↦ λ is. entries-none link a (history_entry_of m (reply_to link past m.ask) ∷ past) ms is ] none

module _ (link : Link) (l : ℕ) (a : ActorNo) (ask : Ask) (v v' : View) (entries : List Entry) (own : List OwnEntry) (e : OwnEntry) (acts : Has (actor_number a) v.actors) (exact : IsExact a v own) (acted : Acted link l a ask v v' entries e) where
  -- the rest of the list, after what the pass knew
  abbrev rest : List Mark
  rest = acted.begins.0

  whole : known_of l v ++ rest ≡ marks_in entries
  whole = acted.begins.1

  none : marks_of (actor_number a) rest ≡ []
  none = rest-none a l v own rest exact acts (subst StampsRise (sym whole) acted.rises) (λ m has on. acted.own m (subst (Has m) whole has) on)

  -- the marks known of this link after the step
  known-now : marks_of (actor_number a) (known_of l v') ≡ map (own_mark a) (own_at l (own ++ e ∷ []))
  known-now =
      let n = actor_number a in
      let known = known_of l v in
      let by : Mark → Bool = λ m. eqb (actor_number m.actor) n in
      ap (marks_of n) (acted.knows ∙ ap (λ ms. ms ++ own_mark a e ∷ []) (sym whole))
      ∙ filter-append by (known ++ rest) (own_mark a e ∷ [])
      ∙ ap (λ ms. ms ++ marks_of n (own_mark a e ∷ [])) (filter-append by known rest ∙ ap (λ ms. marks_of n known ++ ms) none ∙ append-nil (marks_of n known) ∙ exact.known l)
      ∙ ap (λ b. map (own_mark a) (own_at l own) ++ cond b (own_mark a e ∷ []) []) (eq-eqb n n refl)
      ∙ sym (map-append (own_mark a) (own_at l own) (e ∷ []))
      ∙ sym (ap (map (own_mark a)) (one-at l own e acted.link_is))

  -- an entry that had its place has it still, and the new one has the last
  placed-still : (o : OwnEntry) → IsAtPlace a v o → IsAtPlace a v' o
  placed-still o was = record {
    least = was.least;
    here = ⊎_elim
        (λ (is : link_number o.link ≡ l).
        let at_l : slice_get (known_of l v) (o.place - 1) ≡ Some (own_mark a o) = ap (λ k. slice_get (known_of k v) (o.place - 1)) (sym is) ∙ was.here in
        let longer : slice_get (marks_in entries ++ own_mark a e ∷ []) (o.place - 1) ≡ Some (own_mark a o) =
        get-left (marks_in entries) (own_mark a e ∷ []) (o.place - 1) (own_mark a o) (ap (λ ms. slice_get ms (o.place - 1)) (sym whole) ∙ get-left (known_of l v) rest (o.place - 1) (own_mark a o) at_l) in
        ap (λ k. slice_get (known_of k v') (o.place - 1)) is ∙ ap (λ ms. slice_get ms (o.place - 1)) acted.knows ∙ longer)
        (λ other. ap (λ ms. slice_get ms (o.place - 1)) (acted.others (link_number o.link) other) ∙ was.here)
        (cases_eq (link_number o.link) l);
  }

  placed-last : IsAtPlace a v' e
  placed-last =
      let place = acted.place in
      let long = length-map entries mark_in in
      let at : e.place - 1 ≡ length (marks_in entries) = omega (arith, place, long) in
      record {
        least = omega (arith, place);
        here = ap (λ k. slice_get (known_of k v') (e.place - 1)) acted.link_is ∙ ap (slice_get (known_of l v')) at ∙ ap (λ ms. slice_get ms (length (marks_in entries))) acted.knows ∙ get-last (marks_in entries) (own_mark a e);
      }

  -- after a step the own entries are exact again
  pub exact-after : IsExact a v' (own ++ e ∷ [])
  exact-after =
      let n = actor_number a in
      record {
        drawn = acted.drawn ∙ ap (λ ds. ds ++ drawn_for l (own_mark a e) ∷ []) exact.drawn ∙ ap (λ k. map (own_drawn a) own ++ drawn_for k (own_mark a e) ∷ []) (sym acted.link_is) ∙ sym (map-append (own_drawn a) own (e ∷ []));
        known = λ k. ⊎_elim
            (λ (is : k ≡ l). subst (λ j. marks_of n (known_of j v') ≡ map (own_mark a) (own_at j (own ++ e ∷ []))) (sym is) known-now)
            (λ other. ap (marks_of n) (acted.others k other) ∙ exact.known k ∙ sym (ap (map (own_mark a)) (none-at l k own e acted.link_is other)))
            (cases_eq k l);
        placed = Each-append (IsAtPlace a v') own (e ∷ []) (Each-if (IsAtPlace a v) (IsAtPlace a v') own placed-still exact.placed) (placed-last, tt);
      }

  -- the journal before the step is legal
  legal-before : IsLegal link (history_in entries)
  unfolding IsLegal
  legal-before = (subst (IsLegal link) (history-more entries (own_entry a e)) acted.legal).0

  -- the actor's entries in it
  entries-before : Owns link l a v own → entries_of (actor_number a) entries ≡ map (own_entry a) (own_at l own)
  entries-before owns =
      let n = actor_number a in
      let known = known_of l v in
      let by : Entry → Bool = λ x. eqb (actor_number x.actor) n in
      ap (entries_of n) (sym (journal-told link entries legal-before) ∙ ap (journal_of link) (sym whole) ∙ told-append link [] known rest)
      ∙ filter-append by (journal_of link known) (told_after link (past_after link [] known) rest)
      ∙ ap (λ es. entries_of n (journal_of link known) ++ es) (entries-none link n (past_after link [] known) rest none)
      ∙ append-nil (entries_of n (journal_of link known))
      ∙ owns

  -- and after it: they are the own entries of this link, replies included
  pub entries-after : Owns link l a v own → entries_of (actor_number a) (entries ++ own_entry a e ∷ []) ≡ map (own_entry a) (own_at l (own ++ e ∷ []))
  entries-after owns =
      let n = actor_number a in
      filter-append (λ (x : Entry). eqb (actor_number x.actor) n) entries (own_entry a e ∷ [])
      ∙ ap (λ es. es ++ entries_of n (own_entry a e ∷ [])) (entries-before owns)
      ∙ ap (λ b. map (own_entry a) (own_at l own) ++ cond b (own_entry a e ∷ []) []) (eq-eqb n n refl)
      ∙ sym (map-append (own_entry a) (own_at l own) (e ∷ []))
      ∙ sym (ap (map (own_entry a)) (one-at l own e acted.link_is))

  -- and so the pass owns its entries at this link again
  pub owns-after : Owns link l a v own → Owns link l a v' (own ++ e ∷ [])
  owns-after owns =
      let n = actor_number a in
      ap (λ ms. entries_of n (journal_of link ms)) (acted.knows ∙ sym (marks-more entries (own_entry a e)))
      ∙ ap (entries_of n) (journal-told link (entries ++ own_entry a e ∷ []) acted.legal)
      ∙ entries-after owns
