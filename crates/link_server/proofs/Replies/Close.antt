-- The answers to a release, case by case.
use Rattle.std.proofs.Common.{◌≡◌, ℕ, Bool, true, false, not, Option, Some, None, length, refl, sym, ap}
use Rattle.std.specs.Prelude.{is_some, find}
use Rattle.link_server.proofs.Words.{ChanNo, Release, Committed, Refusal, LinkShape, whole, not_in_phase, names_first_hop}
use Rattle.link_steps.specs.declared.replies.Refusal.TheVariants.{NoSuch}
use Rattle.link_steps.specs.declared.replies.Reply.TheVariants.{Closing, Refused}
use Rattle.link_steps.specs.Account.{Account, AccountRow, account_reply, account_after, with_account_rows, account_closed, account_release, is_account_of, is_account_at_hop}
use Rattle.link_steps.specs.Replies.{release_reply, count_at_release, cancelled_at_release}
use Rattle.link_steps.specs.Lists.{change_first}
use Rattle.link_server.specs.Changes.{IsRowAtHop}
use Rattle.link_server.proofs.RowsOfTable.Placed.{hop-changed}

-- a release that is told no count names a first hop
pub names-is : (upstream : Option ℕ) (none : Bool) → is_some upstream ≡ not none → none ≡ names_first_hop upstream
names-is None true told = refl
names-is None false told = (let f : false ≡ true = told in cc)
names-is (Some count) true told = (let f : true ≡ false = told in cc)
names-is (Some count) false told = refl

pub release-absent : (shape : LinkShape) (k : Account) (chan : ChanNo) (upstream : Option ℕ) → find (is_account_at_hop chan (names_first_hop upstream)) k.rows ≡ None → Refused NoSuch ≡ account_reply (whole shape) k (Release chan upstream)
unfolding account_reply
release-absent shape k chan upstream absent = rw absent refl

-- the reply is that of the row at the place
pub release-found : (shape : LinkShape) (k : Account) (chan : ChanNo) (upstream : Option ℕ) (row : AccountRow) → find (is_account_at_hop chan (names_first_hop upstream)) k.rows ≡ Some row → account_reply (whole shape) k (Release chan upstream) ≡ release_reply upstream row.terms row.taken (length row.left)
unfolding account_reply
release-found shape k chan upstream row found = ap (account_release upstream) found

pub release-phase : (shape : LinkShape) (k : Account) (chan : ChanNo) (upstream : Option ℕ) (row : AccountRow) (refusal : Refusal) → find (is_account_at_hop chan (names_first_hop upstream)) k.rows ≡ Some row → Some refusal ≡ not_in_phase Committed row.terms → Refused refusal ≡ account_reply (whole shape) k (Release chan upstream)
unfolding release_reply
release-phase shape k chan upstream row refusal found phase = rw (release-found shape k chan upstream row found, sym phase) refl

pub release-closes : (shape : LinkShape) (k : Account) (chan : ChanNo) (upstream : Option ℕ) (row : AccountRow) (count cancelled : ℕ) → find (is_account_at_hop chan (names_first_hop upstream)) k.rows ≡ Some row → None ≡ not_in_phase Committed row.terms
    → count ≡ count_at_release upstream row.taken → cancelled ≡ cancelled_at_release upstream (length row.left) → Closing count cancelled ≡ account_reply (whole shape) k (Release chan upstream)
unfolding release_reply
release-closes shape k chan upstream row count cancelled found phase counted none = rw (release-found shape k chan upstream row found, sym phase, counted, none) refl

-- a refusal changes nothing
pub release-same : (shape : LinkShape) (k : Account) (chan : ChanNo) (upstream : Option ℕ) (refusal : Refusal) → k ≡ account_after shape k (Release chan upstream) (Refused refusal)
unfolding account_after
release-same shape k chan upstream refusal = refl

-- and a release closes the row
pub release-kept : (shape : LinkShape) (k : Account) (chan : ChanNo) (upstream : Option ℕ) (count cancelled : ℕ) (row : AccountRow) → IsRowAtHop chan (names_first_hop upstream) k.rows row → with_account_rows k (change_first (is_account_of chan) (account_closed count) k.rows) ≡ account_after shape k (Release chan upstream) (Closing count cancelled)
unfolding account_after
release-kept shape k chan upstream count cancelled row is = ap (with_account_rows k) (hop-changed chan (names_first_hop upstream) (account_closed count) k.rows row is)
