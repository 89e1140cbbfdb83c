-- A journal is legal exactly where its history is.
use Rattle.std.proofs.Common.{◌≡◌, List, [], ◌∷◌, ◌++◌, sym, ap, ◌∙◌, subst, append-nil, append_assoc}
use Rattle.std.proofs.lemmas.List.{reverse-append}
use Rattle.std.specs.Prelude.{reverse}
use Rattle.link_steps.specs.declared.replies.Entry.{Entry}
use Rattle.link_steps.specs.Journals.{JournalGoesOn}
use Rattle.link_steps.specs.Legal.{IsLegal}
use Rattle.link_steps.specs.RowLaws.{JournalsAreHistories}
use Rattle.link_steps.specs.Split.{Link}

-- the history of an entry and those after it, after a history
turned : (e : Entry) (journal past : List Entry) → reverse (e ∷ journal) ++ past ≡ reverse journal ++ (e ∷ past)
turned e journal past = ap (λ all. all ++ past) (reverse-append (e ∷ []) journal) ∙ append_assoc (reverse journal) (e ∷ []) past

legal-on : (link : Link) (past journal : List Entry) → IsLegal link past → JournalGoesOn link past journal → IsLegal link (reverse journal ++ past)
unfolding IsLegal JournalGoesOn
legal-on link past [] legal on = legal
legal-on link past (e ∷ journal) legal on = subst (IsLegal link) (sym (turned e journal past)) (legal-on link (e ∷ past) journal (legal, on.0) on.1)

goes-on : (link : Link) (past journal : List Entry) → IsLegal link (reverse journal ++ past) → IsLegal link past × JournalGoesOn link past journal
unfolding IsLegal JournalGoesOn
goes-on link past [] legal = (legal, tt)
goes-on link past (e ∷ journal) legal =
    let rest = goes-on link (e ∷ past) journal (subst (IsLegal link) (turned e journal past) legal) in
    (rest.0.0, (rest.0.1, rest.1))

pub journals-are-histories : JournalsAreHistories
unfolding IsLegal
journals-are-histories link journal = (
  λ on. subst (IsLegal link) (append-nil (reverse journal)) (legal-on link [] journal tt on),
  λ legal. (goes-on link [] journal (subst (IsLegal link) (sym (append-nil (reverse journal))) legal)).1,
)
