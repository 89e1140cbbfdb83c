-- Journals: one entry more, how many ticks they have at most, and that the marks of a legal journal tell the whole of it.
use Rattle.std.proofs.Common.{◌≡◌, ◌≤◌, List, [], ◌∷◌, ◌++◌, map, length, refl, ap, ◌∙◌, subst, arith}
use Rattle.std.proofs.lemmas.List.{map-append, reverse-append, length-reverse, length-map}
use Rattle.std.specs.Prelude.{reverse}
use Rattle.link_steps.specs.Journals.{JournalGoesOn}
use Rattle.link_steps.specs.Legal.{IsLegal}
use Rattle.link_steps.specs.Replies.{reply_to}
use Rattle.link_steps.specs.Scan.{clock_of}
use Rattle.link_steps.specs.Split.{Link}
use Rattle.link_steps.specs.declared.replies.Entry.{Entry as Done}
use Rattle.link_steps.specs.declared.replies.Reply.{Reply}
use Rattle.link_steps.proofs.LegalJournals.{journals-are-histories}
use Rattle.step_stamp.specs.declared.marks.Mark.{Mark}
use Rattle.link_ledger.specs.Journals.{mark_in, done_in, marks_in, history_in, journal_entry_of, history_entry_of, told_after, journal_of}
use Rattle.link_ledger.specs.declared.entries.Entry.{Entry}
use Rattle.link_steps.proofs.ClockAdvances.{clock_of-most}

-- ---- one entry more

pub history-more : (entries : List Entry) (e : Entry) → history_in (entries ++ e ∷ []) ≡ done_in e ∷ history_in entries
history-more entries e = ap reverse (map-append done_in entries (e ∷ [])) ∙ reverse-append (map done_in entries) (done_in e ∷ [])

pub marks-more : (entries : List Entry) (e : Entry) → marks_in (entries ++ e ∷ []) ≡ marks_in entries ++ mark_in e ∷ []
marks-more entries e = map-append mark_in entries (e ∷ [])

-- ---- the clock of a history

pub journal-clock-most : (entries : List Entry) → clock_of (history_in entries) ≤ length entries
journal-clock-most entries =
    let most = clock_of-most (history_in entries) in
    let turned = length-reverse (map done_in entries) in
    let mapped = length-map entries done_in in
    omega (arith, most, turned, mapped)

-- ---- what marks tell

-- marks tell the journal of legal entries, after any history
told : (link : Link) (past : List Done) (entries : List Entry) → JournalGoesOn link past (map done_in entries) → told_after link past (marks_in entries) ≡ entries
unfolding told_after JournalGoesOn
told link past [] on = refl
told link past (e ∷ entries) on =
    let answered : e.reply ≡ reply_to link past e.ask = on.0.answered in
    let rest = told link (done_in e ∷ past) entries on.1 in
    subst (λ (reply : Reply). journal_entry_of (mark_in e) reply ∷ told_after link (history_entry_of (mark_in e) reply ∷ past) (marks_in entries) ≡ e ∷ entries) answered (ap (λ es. e ∷ es) rest)

pub journal-told : (link : Link) (entries : List Entry) → IsLegal link (history_in entries) → journal_of link (marks_in entries) ≡ entries
journal-told link entries legal = told link [] entries ((journals-are-histories link (map done_in entries)).1 legal)

-- what marks tell in two parts
unfoldable pub past_after : Link → List Done → List Mark → List Done
past_after link past [] = past
past_after link past (m ∷ ms) = past_after link (history_entry_of m (reply_to link past m.ask) ∷ past) ms

pub told-append : (link : Link) (past : List Done) (xs ys : List Mark) → told_after link past (xs ++ ys) ≡ told_after link past xs ++ told_after link (past_after link past xs) ys
unfolding past_after told_after
told-append link past [] ys = refl
told-append link past (x ∷ xs) ys = ap (λ es. journal_entry_of x (reply_to link past x.ask) ∷ es) (told-append link (history_entry_of x (reply_to link past x.ask) ∷ past) xs ys)
