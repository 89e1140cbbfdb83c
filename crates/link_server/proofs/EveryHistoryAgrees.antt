-- What the account says of a step, every history that the link stands for says.
use Rattle.std.proofs.Common.{◌≡◌, true, false, List, ◌∷◌, length, refl, ◌∙◌, sym, ap, subst}
use Rattle.std.specs.Prelude.{Result, Ok, Err, IfOk, OnErr}
use Rattle.link_server.proofs.Words.{Ask, Reply, LinkShape, whole, HasContract, StandsFor, Account, account_reply, account_after, Each, clock_of, scan_of, AskFits, LinkState, account_in}
use Rattle.link_steps.specs.declared.replies.Entry.{Entry}
use Rattle.link_steps.specs.Replies.{reply_to}
use Rattle.link_steps.specs.HopGuarantee.{HopGuarantee}
use Rattle.link_steps.specs.Admissible.{IsAdmissible}
use Rattle.link_steps.proofs.LegalAdmissible.{may-answer, whole-fits}
use Rattle.link_steps.proofs.HopHolds.{hop-guarantee}
use Rattle.link_steps.proofs.SearchAndFilter.{Each-if}
use Rattle.link_steps.proofs.Account.{stands-reply, stands-entry}
use Rattle.link_server.specs.Asks.{IsOffer}
use Rattle.link_server.specs.Sound.{IsSoundRow}

-- the rows have contracts
pub rows-have : (link : LinkState) → Each HasContract (account_in link).rows
rows-have link = Each-if (IsSoundRow (length link.shape.bounds) link.clock link.queue.taken) HasContract link.table.rows (λ row is. is.contract) link.sound.rows

-- the reply of the account is the legal one
pub step-legal : (shape : LinkShape) (k : Account) (ask asked : Ask) (reply : Reply) → Each HasContract k.rows → ask ≡ asked → reply ≡ account_reply (whole shape) k asked → (h : List Entry) → StandsFor shape k h → reply ≡ reply_to (whole shape) h ask
step-legal shape k ask asked reply each is same h stands = same ∙ ap (account_reply (whole shape) k) (sym is) ∙ stands-reply (whole shape) k h ask each stands

-- and the next account stands for the history with the entry
pub step-entered : (shape new : LinkShape) (k next : Account) (ask asked : Ask) (reply : Reply) → Each HasContract k.rows → ask ≡ asked → new ≡ shape → next ≡ account_after shape k asked reply → (h : List Entry) → StandsFor shape k h → StandsFor new next (record { ask = ask; reply = reply } ∷ h)
step-entered shape new k next ask asked reply each is unchanged same h stands =
    rw unchanged (same ∙ ap (λ a. account_after shape k a reply) (sym is) ∙ stands-entry shape k h ask reply each stands)

-- the same of a step that may want memory
pub reserve-legal : {E : Type 0} (shape : LinkShape) (k : Account) (ask asked : Ask) (r : Result Reply E) → Each HasContract k.rows → ask ≡ asked → IfOk r (λ reply. reply ≡ account_reply (whole shape) k asked) → IfOk r (λ reply. (h : List Entry) → StandsFor shape k h → reply ≡ reply_to (whole shape) h ask)
reserve-legal shape k ask asked (Ok reply) each is same = step-legal shape k ask asked reply each is same
reserve-legal shape k ask asked (Err e) each is same = tt

pub reserve-entered : {E : Type 0} (shape new : LinkShape) (k next : Account) (ask asked : Ask) (r : Result Reply E) → Each HasContract k.rows → ask ≡ asked → new ≡ shape → IfOk r (λ reply. next ≡ account_after shape k asked reply) → IfOk r (λ reply. (h : List Entry) → StandsFor shape k h → StandsFor new next (record { ask = ask; reply = reply } ∷ h))
reserve-entered shape new k next ask asked (Ok reply) each is unchanged same = step-entered shape new k next ask asked reply each is unchanged same
reserve-entered shape new k next ask asked (Err e) each is unchanged same = tt

-- where memory is wanted the legal reply is an offer
pub reserve-instead : {E : Type 0} (shape : LinkShape) (k : Account) (ask asked : Ask) (r : Result Reply E) → Each HasContract k.rows → ask ≡ asked → OnErr r (IsOffer (account_reply (whole shape) k asked)) → OnErr r ((h : List Entry) → StandsFor shape k h → IsOffer (reply_to (whole shape) h ask))
reserve-instead shape k ask asked (Ok reply) each is offer = tt
reserve-instead shape k ask asked (Err e) each is offer =
    λ h stands. subst IsOffer (ap (account_reply (whole shape) k) (sym is) ∙ stands-reply (whole shape) k h ask each stands) offer

-- ---- the next history

-- a legal reply goes on with an admissible history
legal-admissible : (shape : LinkShape) (ask : Ask) (reply : Reply) (h : List Entry) → AskFits shape ask → reply ≡ reply_to (whole shape) h ask → IsAdmissible shape h → IsAdmissible shape (record { ask = ask; reply = reply } ∷ h)
unfolding IsAdmissible reply_to
legal-admissible shape ask reply h fits answered before =
    (before, record { fits = fits; answered = may-answer (whole shape) (clock_of h) (scan_of shape h) ask reply (whole-fits shape) (λ splits. absurd (let none : false ≡ true = splits in cc)) answered })

-- where the history is admissible so is the next one
pub step-admissible : (shape : LinkShape) (k : Account) (ask : Ask) (reply : Reply) → Each HasContract k.rows → AskFits shape ask → reply ≡ account_reply (whole shape) k ask → (h : List Entry) → StandsFor shape k h → IsAdmissible shape h → IsAdmissible shape (record { ask = ask; reply = reply } ∷ h)
step-admissible shape k ask reply each fits same h stands before = legal-admissible shape ask reply h fits (step-legal shape k ask ask reply each refl same h stands) before

-- and it has the hop guarantee
pub step-guaranteed : (shape : LinkShape) (ask : Ask) (reply : Reply) (k : Account) → AskFits shape ask → ((h : List Entry) → StandsFor shape k h → reply ≡ reply_to (whole shape) h ask) → (h : List Entry) → StandsFor shape k h → IsAdmissible shape h → HopGuarantee shape (record { ask = ask; reply = reply } ∷ h)
step-guaranteed shape ask reply k fits answered h stands before = hop-guarantee shape (record { ask = ask; reply = reply } ∷ h) (legal-admissible shape ask reply h fits (answered h stands) before)

pub reserve-guaranteed : {E : Type 0} (shape : LinkShape) (ask : Ask) (k : Account) (r : Result Reply E) → AskFits shape ask → IfOk r (λ reply. (h : List Entry) → StandsFor shape k h → reply ≡ reply_to (whole shape) h ask) → IfOk r (λ reply. (h : List Entry) → StandsFor shape k h → IsAdmissible shape h → HopGuarantee shape (record { ask = ask; reply = reply } ∷ h))
reserve-guaranteed shape ask k (Ok reply) fits answered = step-guaranteed shape ask reply k fits answered
reserve-guaranteed shape ask k (Err e) fits answered = tt
