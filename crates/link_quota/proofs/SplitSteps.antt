-- The steps of a split link, from those of the link inside.
use Rattle.std.proofs.Common.{◌≡◌, ℕ, ◌<◌, ◌≤◌, ◌^◌, true, false, List, [], ◌∷◌, ◌++◌, length, take, drop, Option, Some, None, refl, sym, ap, ◌∙◌, subst, arith}
use Rattle.std.specs.Prelude.{IfOk, OnErr, IfSome, Bool, Result, Ok, Err}
use Rattle.net_units.specs.declared.numbers.ChanNo.{ChanNo}
use Rattle.link_steps.specs.declared.asks.Ask.{Ask}
use Rattle.link_steps.specs.declared.asks.Ask.TheVariants.{Reserve, Relax, Deny, Submit, Release, Arrive, Tick, Pour}
use Rattle.link_steps.specs.declared.replies.Entry.{Entry}
use Rattle.link_steps.specs.declared.replies.Reply.{Reply}
use Rattle.net_units.specs.declared.Kind.{Kind}
use Rattle.net_units.specs.declared.numbers.Level.{Level}
use Rattle.net_units.specs.declared.numbers.LinkNo.{LinkNo}
use Rattle.traffic_contract.specs.Contract.{Traffic}
use Rattle.link_steps.specs.declared.replies.Reply.TheVariants.{Offer}
use Rattle.link_steps.specs.Account.{Account, StandsFor}
use Rattle.link_steps.specs.declared.shape.LinkShape.{LinkShape}
use Rattle.link_steps.specs.HopGuarantee.{HopGuarantee}
use Rattle.link_steps.specs.Legal.{AskFits, IsLegal}
use Rattle.link_steps.proofs.HopHolds.{hop-guarantee}
use Rattle.link_steps.proofs.LegalAdmissible.{legal-admissible, whole-fits}
use Rattle.link_steps.specs.Admissible.{IsAdmissible}
use Rattle.link_steps.specs.Replies.{reply_to, reserve_reply}
use Rattle.link_steps.specs.Reservation.{Reservation}
use Rattle.link_steps.specs.Rows.{Row}
use Rattle.link_steps.specs.Split.{Link, Split, SplitFits, is_split, whole}
use Rattle.link_server.specs.Asks.{IsOffer, TakesNone}
use Rattle.link_server.specs.Held.{seen_of}
use Rattle.link_server.specs.State.{account_in, LinkStands}
use Rattle.link_server.specs.declared.held_row.HeldRow.{HeldRow}
use Rattle.link_server.specs.declared.link_state.LinkState.{LinkState}
use Rattle.link_quota.specs.Places.{HavePart, AreSmall}
use Rattle.link_quota.specs.Shares.{AreShares}
use Rattle.link_quota.specs.Steps.{GoesOn, IsCarrying, IsSettling}
use Rattle.link_quota.specs.Stood.{IsLegallyStood}
use Rattle.link_quota.specs.declared.share.Share.{Share}
use Rattle.link_quota.proofs.SharesRowByRow.{shares-small}
use Rattle.link_quota.proofs.SomeLegalHistory.{held_in, reserve-legal, same-unsplit, stood-within, stood-goes, stood-same, shares-carried, shares-kept, shares-ticked, few-held, part-held, kept-held, IsNoReserve, goes-on, goes-on-unsplit}
use Rattle.link_quota.proofs.RowChanges.{IsSetupOf, OffersNew}

-- a list that was lent and is written back
pub written-back : (shares new : List Share) (len : ℕ) → length new ≡ length shares → length shares ≡ len → take len (new ++ drop (length new) shares) ≡ new
written-back shares new len long is = subst (λ n. take n (new ++ drop (length new) shares) ≡ new) (long ∙ is) (front new (drop (length new) shares)) where
  front : (xs ys : List Share) → take (length xs) (xs ++ ys) ≡ xs
  front [] ys = refl
  front (x ∷ xs) ys = ap (λ zs. x ∷ zs) (front xs ys)

-- ---- by the result

pub goes-all : {E : Type 0} (split : Split) (old new : LinkState) (ask : Ask) (r : Result Reply E) → IsNoReserve ask → AskFits old.shape ask → new.shape ≡ old.shape
    → IfOk r (λ reply. (h : List Entry) → LinkStands old h → reply ≡ reply_to (whole old.shape) h ask)
    → IfOk r (λ reply. (h : List Entry) → LinkStands old h → LinkStands new (record { ask = ask; reply = reply } ∷ h))
    → IfOk r (GoesOn (record { shape = old.shape; split = split }) (account_in old) (account_in new) ask)
goes-all split old new ask (Ok reply) other fits shape legal entered = goes-on split old new ask reply other fits shape legal entered
goes-all split old new ask (Err e) other fits shape legal entered = tt

pub goes-all-unsplit : {E : Type 0} (split : Split) (old new : LinkState) (ask : Ask) (r : Result Reply E) → is_split split ≡ false → AskFits old.shape ask → new.shape ≡ old.shape
    → IfOk r (λ reply. (h : List Entry) → LinkStands old h → reply ≡ reply_to (whole old.shape) h ask)
    → IfOk r (λ reply. (h : List Entry) → LinkStands old h → LinkStands new (record { ask = ask; reply = reply } ∷ h))
    → IfOk r (GoesOn (record { shape = old.shape; split = split }) (account_in old) (account_in new) ask)
goes-all-unsplit split old new ask (Ok reply) other fits shape legal entered = goes-on-unsplit split old new ask reply other fits shape legal entered
goes-all-unsplit split old new ask (Err e) other fits shape legal entered = tt

-- ---- want of memory

-- it comes where a link that isn't split has it
pub instead-unsplit : {E : Type 0} (split : Split) (old : LinkState) (ask : Ask) (r : Result Reply E) → is_split split ≡ false → OnErr r ((h : List Entry) → LinkStands old h → IsOffer (reply_to (whole old.shape) h ask))
    → OnErr r ((h : List Entry) → LinkStands old h → IsOffer (reply_to (record { shape = old.shape; split = split }) h ask))
instead-unsplit split old ask (Ok reply) unsplit instead = tt
instead-unsplit split old ask (Err e) unsplit instead = λ h stands. subst IsOffer (same-unsplit (record { shape = old.shape; split = split }) h ask unsplit) (instead h stands)

-- and in place of an offer
pub instead-offered : (link : Link) (k : Account) (chan : ChanNo) (contract : Traffic) (kind : Kind) (delay up_reach : ℕ) (first : Bool) (next : Option LinkNo) (ask : Ask) (level reach : Level) → ask ≡ Reserve chan contract kind delay up_reach first next → Offer level reach ≡ reserve_reply link (held_in k) chan contract delay up_reach → (h : List Entry) → StandsFor link.shape k h → IsOffer (reply_to link h ask)
instead-offered link k chan contract kind delay up_reach first next ask level reach is offered h stands =
    subst IsOffer (reserve-legal link k chan contract kind delay up_reach first next ask (Offer level reach) is offered h stands) tt

pub carrying-none : (ask : Ask) → IsCarrying ask → TakesNone ask
carrying-none (Submit chan count gap size) carries = tt
carrying-none (Arrive packet) carries = tt
carrying-none (Pour count gap size) carries = tt
carrying-none _ carries = absurd carries

-- what nothing was entered in stands for the same
pub same-shape : {E X : Type 0} (old new : LinkState) (r : Result X E) → new.shape ≡ old.shape → OnErr r ((h : List Entry) → LinkStands old h → LinkStands new h) → OnErr r ((h : List Entry) → StandsFor old.shape (account_in old) h → StandsFor old.shape (account_in new) h)
same-shape old new (Ok x) shape same = tt
same-shape old new (Err e) shape same = λ h stands. subst (λ s. StandsFor s (account_in new) h) shape (same h stands)

pub stood-all : {E : Type 0} (link : Link) (k k' : Account) (ask : Ask) (r : Result Reply E) → IfOk r (GoesOn link k k' ask) → OnErr r ((h : List Entry) → StandsFor link.shape k h → StandsFor link.shape k' h) → IsLegallyStood link k → IsLegallyStood link k'
stood-all link k k' ask (Ok reply) goes same stood = stood-goes link k k' ask reply goes stood
stood-all link k k' ask (Err e) goes same stood = stood-same link k k' same stood

pub carried-all : {E : Type 0} (link : Link) (k k' : Account) (ask : Ask) (r : Result Reply E) (shares : List Share) → IfOk r (GoesOn link k k' ask) → OnErr r ((h : List Entry) → StandsFor link.shape k h → StandsFor link.shape k' h) → IsCarrying ask → IsLegallyStood link k → AreShares link (held_in k) shares → AreShares link (held_in k') shares
carried-all link k k' ask (Ok reply) shares goes same carries stood before = shares-carried link k k' ask reply shares goes carries stood before
carried-all link k k' ask (Err e) shares goes same carries stood before = shares-kept link k k' shares same stood before

pub ticked-all : {E : Type 0} (link : Link) (k k' : Account) (r : Result Reply E) (shares : List Share) → IfOk r (GoesOn link k k' Tick) → OnErr r ((h : List Entry) → StandsFor link.shape k h → StandsFor link.shape k' h) → length (held_in k) ≤ length (held_in k') → IsLegallyStood link k → AreShares link (held_in k) shares → AreShares link (held_in k') shares
ticked-all link k k' (Ok reply) shares goes same most stood before = shares-ticked link k k' reply shares goes most stood before
ticked-all link k k' (Err e) shares goes same most stood before = shares-kept link k k' shares same stood before

-- ---- the kinds of ask

pub carrying-other : (ask : Ask) → IsCarrying ask → IsNoReserve ask
carrying-other (Reserve chan contract kind delay up_reach first next) is = absurd is
carrying-other _ is = tt

pub settling-other : (chan : ChanNo) (ask : Ask) → IsSettling chan ask → IsNoReserve ask
settling-other chan (Reserve chan' contract kind delay up_reach first next) is = absurd is
settling-other chan _ is = tt

pub settling-setup : (chan : ChanNo) (ask : Ask) → IsSettling chan ask → IsSetupOf chan ask
settling-setup chan (Relax chan' level up_bound) is = is
settling-setup chan (Deny chan') is = is
settling-setup chan (Release chan' upstream) is = is
settling-setup chan _ is = absurd is

pub settling-new : (chan : ChanNo) (ask : Ask) (reply : Reply) (rows : List Row) → IsSettling chan ask → OffersNew ask reply rows
settling-new chan (Reserve chan' contract kind delay up_reach first next) reply rows is = absurd is
settling-new chan _ reply rows is = tt

-- ---- what the shares need

-- the part of the row before, if there is one
pub part-before : (link : Link) (held : List Reservation) (chan : ChanNo) (row : Option HeldRow) (shares : List Share) → row ≡ seen_of link.shape.bounds held chan → AreShares link held shares → IfSome row (λ r. HavePart link r shares)
part-before link held chan None shares seen are = tt
part-before link held chan (Some row) shares seen are = part-held link held chan row shares seen are

-- what the row after keeps is small
pub small-after : (link : Link) (k : Account) (chan : ChanNo) (row : Option HeldRow) → SplitFits link → is_split link.split ≡ true → IsLegallyStood link k → row ≡ seen_of link.shape.bounds (held_in k) chan → IfSome row (λ (r : HeldRow). r.kept < 2 ^ 61)
small-after link k chan None fits splits stood seen = tt
small-after link k chan (Some row) fits splits stood seen = (let small = kept-held link (held_in k) chan row fits (stood-within link k fits splits stood) seen in omega (arith, small))

-- and so are the shares
pub small-shares : (link : Link) (k : Account) (shares : List Share) → SplitFits link → is_split link.split ≡ true → IsLegallyStood link k → AreShares link (held_in k) shares → AreSmall link shares
small-shares link k shares fits splits stood are = shares-small link (held_in k) (held_in k) shares fits (few-held link (held_in k) (stood-within link k fits splits stood)) (λ f. omega arith) are

pub tick-other : (ask : Ask) → ask ≡ Tick → IsNoReserve ask
tick-other ask is = subst IsNoReserve (sym is) tt

-- ---- the clauses of a step

pub entered-all : {E : Type 0} (link : Link) (k k' : Account) (ask : Ask) (shape : LinkShape) (r : Result Reply E) → shape ≡ link.shape → IfOk r (GoesOn link k k' ask) → IfOk r (λ reply. (h : List Entry) → StandsFor link.shape k h → StandsFor shape k' (record { ask = ask; reply = reply } ∷ h))
entered-all link k k' ask shape (Ok reply) same goes = λ h stands. subst (λ s. StandsFor s k' (record { ask = ask; reply = reply } ∷ h)) (sym same) (goes.entered h stands)
entered-all link k k' ask shape (Err e) same goes = tt

pub guaranteed-all : {E : Type 0} (link : Link) (k k' : Account) (ask : Ask) (r : Result Reply E) → SplitFits link → IfOk r (GoesOn link k k' ask) → IfOk r (λ reply. (h : List Entry) → StandsFor link.shape k h → IsLegal link h → HopGuarantee link.shape (record { ask = ask; reply = reply } ∷ h))
unfolding IsLegal
guaranteed-all link k k' ask (Ok reply) fits goes = λ h stands legal. hop-guarantee link.shape (record { ask = ask; reply = reply } ∷ h) (legal-admissible link (record { ask = ask; reply = reply } ∷ h) fits (legal, record { fits = goes.fits; answered = goes.legal h stands }))
guaranteed-all link k k' ask (Err e) fits goes = tt

-- of a link that isn't split, a legal history is admissible
pub plain-guaranteed : {E : Type 0} (link : LinkState) (ask : Ask) (r : Result Reply E) → IfOk r (λ reply. (h : List Entry) → LinkStands link h → IsAdmissible link.shape h → HopGuarantee link.shape (record { ask = ask; reply = reply } ∷ h)) → IfOk r (λ reply. (h : List Entry) → LinkStands link h → IsLegal (whole link.shape) h → HopGuarantee link.shape (record { ask = ask; reply = reply } ∷ h))
plain-guaranteed link ask (Ok reply) holds = λ h stands legal. holds h stands (legal-admissible (whole link.shape) h (whole-fits link.shape) legal)
plain-guaranteed link ask (Err e) holds = tt
