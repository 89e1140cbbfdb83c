-- A pass whose own entries at a link have the replies of the rules owns them: in the journal that its seat knows, the entries
-- of its actor are its own. For they have its marks there in their order, and each has the one reply that the rules give.
use Rattle.std.proofs.Common.{◌≡◌, ℕ, eqb, true, false, cond, List, [], ◌∷◌, ◌++◌, map, refl, sym, ap, ◌∙◌}
use Rattle.std.proofs.lemmas.List.{append-nil, append_assoc, reverse-append}
use Rattle.std.specs.Prelude.{reverse}
use Rattle.net_units.specs.Numbers.{actor_number}
use Rattle.net_units.specs.declared.numbers.ActorNo.{ActorNo}
use Rattle.link_steps.specs.Lists.{Each}
use Rattle.link_steps.specs.Replies.{reply_to}
use Rattle.link_steps.specs.Split.{Link}
use Rattle.link_steps.specs.declared.replies.Entry.{Entry as Done}
use Rattle.link_steps.proofs.SearchAndFilter.{Each-if}
use Rattle.step_stamp.specs.Marks.{marks_of}
use Rattle.step_stamp.specs.Views.{known_of}
use Rattle.step_stamp.specs.declared.marks.Mark.{Mark}
use Rattle.step_stamp.specs.declared.views.View.{View}
use Rattle.link_ledger.specs.Journals.{done_in, history_in, journal_entry_of, history_entry_of, told_after, journal_of, entries_of}
use Rattle.link_ledger.specs.Own.{own_mark, own_entry, own_at, IsExact, IsAnswered, AreAnswered, Owns}
use Rattle.link_ledger.specs.declared.entries.OwnEntry.{OwnEntry}
use Rattle.link_ledger.proofs.JournalGrowth.{past_after}

-- the history after marks is what they tell, turned round, and the history before
pub past-told : (link : Link) (past : List Done) (ms : List Mark) → past_after link past ms ≡ reverse (map done_in (told_after link past ms)) ++ past
unfolding past_after told_after
past-told link past [] = refl
past-told link past (m ∷ ms) =
    let d : Done = history_entry_of m (reply_to link past m.ask) in
    let rest : List Done = map done_in (told_after link (d ∷ past) ms) in
    past-told link (d ∷ past) ms
    ∙ sym (append_assoc (reverse rest) (d ∷ []) past)
    ∙ ap (λ h. h ++ past) (sym (reverse-append (d ∷ []) rest))

-- an own entry is answered in the marks after a history
abbrev AnsweredAfter : Link → List Done → List Mark → ActorNo → OwnEntry → Type 0
AnsweredAfter link past known a e = (before after : List Mark) → known ≡ before ++ own_mark a e ∷ after → e.reply ≡ reply_to link (past_after link past before) e.ask

-- and so after the first of them
answered-rest : (link : Link) (past : List Done) (m : Mark) (ms : List Mark) (a : ActorNo) (e : OwnEntry) → AnsweredAfter link past (m ∷ ms) a e → AnsweredAfter link (history_entry_of m (reply_to link past m.ask) ∷ past) ms a e
unfolding past_after
answered-rest link past m ms a e answered before after is = answered (m ∷ before) after (ap (λ xs. m ∷ xs) is)

answered-first : (link : Link) (past : List Done) (m : Mark) (ms : List Mark) (a : ActorNo) (e : OwnEntry) → m ≡ own_mark a e → AnsweredAfter link past (m ∷ ms) a e → journal_entry_of m (reply_to link past m.ask) ≡ own_entry a e
unfolding past_after
answered-first link past m ms a e is answered =
    let reply : e.reply ≡ reply_to link past e.ask = answered [] ms (ap (λ x. x ∷ ms) is) in
    ap (λ (x : Mark). journal_entry_of x (reply_to link past x.ask)) is ∙ ap (journal_entry_of (own_mark a e)) (sym reply)

-- the journal after a mark of the actor, where this is so of the marks after it
first-own : (link : Link) (past : List Done) (m : Mark) (ms : List Mark) (a : ActorNo)
    → ((own : List OwnEntry) → marks_of (actor_number a) ms ≡ map (own_mark a) own → Each (AnsweredAfter link (history_entry_of m (reply_to link past m.ask) ∷ past) ms a) own
    → entries_of (actor_number a) (told_after link (history_entry_of m (reply_to link past m.ask) ∷ past) ms) ≡ map (own_entry a) own)
    → (own : List OwnEntry) → m ∷ marks_of (actor_number a) ms ≡ map (own_mark a) own → Each (AnsweredAfter link past (m ∷ ms) a) own
    → journal_entry_of m (reply_to link past m.ask) ∷ entries_of (actor_number a) (told_after link (history_entry_of m (reply_to link past m.ask) ∷ past) ms) ≡ map (own_entry a) own
first-own link past m ms a later [] marks each = absurd (cc marks)
first-own link past m ms a later (e ∷ own) marks each =
    let past' : List Done = history_entry_of m (reply_to link past m.ask) ∷ past in
    let head : m ≡ own_mark a e = cc marks in
    let tail : marks_of (actor_number a) ms ≡ map (own_mark a) own = cc marks in
    let here = answered-first link past m ms a e head each.0 in
    let rest = later own tail (Each-if (AnsweredAfter link past (m ∷ ms) a) (AnsweredAfter link past' ms a) own (answered-rest link past m ms a) each.1) in
    cc (here, rest)

entries-answered : (link : Link) (past : List Done) (ms : List Mark) (a : ActorNo) (own : List OwnEntry) → marks_of (actor_number a) ms ≡ map (own_mark a) own → Each (AnsweredAfter link past ms a) own → entries_of (actor_number a) (told_after link past ms) ≡ map (own_entry a) own
unfolding told_after
entries-answered link past [] a [] marks each = refl
entries-answered link past [] a (e ∷ own) marks each = absurd (cc marks)
entries-answered link past (m ∷ ms) a own marks each =
    let n = actor_number a in
    let reply = reply_to link past m.ask in
    let past' : List Done = history_entry_of m reply ∷ past in
    elim (eqb (actor_number m.actor) n)
    as (λ b. cond b (m ∷ marks_of n ms) (marks_of n ms) ≡ map (own_mark a) own → cond b (journal_entry_of m reply ∷ entries_of n (told_after link past' ms)) (entries_of n (told_after link past' ms)) ≡ map (own_entry a) own) [
      | true ↦ λ is. first-own link past m ms a (entries-answered link past' ms a) own is each
      | false ↦ λ is. entries-answered link past' ms a own is (Each-if (AnsweredAfter link past (m ∷ ms) a) (AnsweredAfter link past' ms a) own (answered-rest link past m ms a) each)
    ] marks

pub answered-owned : (link : Link) (l : ℕ) (a : ActorNo) (v : View) (own : List OwnEntry) → IsExact a v own → AreAnswered link l a v own → Owns link l a v own
answered-owned link l a v own exact answered =
    entries-answered link [] (known_of l v) a (own_at l own) (exact.known l)
    (Each-if (IsAnswered link (known_of l v) a) (AnsweredAfter link [] (known_of l v) a) (own_at l own)
    (λ e told before after is. told before after is ∙ ap (λ h. reply_to link h e.ask) (sym (past-told link [] before ∙ append-nil (history_in (journal_of link before)))))
    answered)
