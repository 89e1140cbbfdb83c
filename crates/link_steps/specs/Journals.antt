-- A journal lists the asks of a link with their replies in the order of time; a history is the same list, newest first. A
-- journal is legal when each of its entries is legal after the history of those before it.
use Rattle.std.specs.Prelude.{List, [], ◌∷◌, reverse}
use Rattle.link_steps.specs.declared.replies.Entry.{Entry}
use Rattle.link_steps.specs.Legal.{IsLegalAfter}
use Rattle.link_steps.specs.Split.{Link}

-- the history of a journal
abbrev pub history_of : List Entry → List Entry
history_of journal = reverse journal

-- a journal that goes on from a history is legal
unfoldable pub JournalGoesOn : Link → List Entry → List Entry → Type 0
JournalGoesOn link past [] = Unit {0}
JournalGoesOn link past (e ∷ journal) = IsLegalAfter link past e × JournalGoesOn link (e ∷ past) journal

-- a whole journal is
abbrev pub IsLegalJournal : Link → List Entry → Type 0
IsLegalJournal link journal = JournalGoesOn link [] journal
