-- There is at most one proof that a history is legal or admissible, and at most one that what is kept stands for it.
use Rattle.std.specs.Prelude.{ℕ, List, [], ◌∷◌}
use Rattle.std.specs.Coded.{×_prop, Unit-prop, le_prop}
use mathlib.Core.Sum.{⊎_set}
use mathlib.Core.List.{is_set as list_set}
use native.Mathlib.Nat.{ℕ_set}
use Rattle.link_steps.specs.declared.asks.Ask.{Ask}
use Rattle.link_steps.specs.declared.asks.Ask.TheVariants.{Reserve}
use Rattle.link_steps.specs.declared.replies.Entry.{Entry}
use Rattle.link_steps.specs.declared.replies.Reply.{Reply}
use Rattle.link_steps.specs.declared.replies.Reply.TheVariants as Is
use Rattle.link_steps.specs.declared.shape.LinkShape.{LinkShape}
use Rattle.link_steps.specs.Admissible.{MayReply, MayAnswer, IsAdmissible}
use Rattle.link_steps.specs.Account.{Account, StandsFor}
use Rattle.link_steps.specs.Legal.{AskFits, IsLegal}
use Rattle.link_steps.specs.Reservation.{Reservation}
use Rattle.net_units.specs.declared.numbers.ChanNo.{ChanNo}
use Rattle.traffic_contract.specs.Contract.{Traffic}
use Rattle.link_steps.specs.Scan.{Scan}
use Rattle.link_steps.specs.Split.{Link}

-- replies are equal in at most one way
pub Reply-set : IsSet Reply
Reply-set = Prim.hlevel (ℕ_set, le_prop, ⊎_set)

AskFits-prop : (shape : LinkShape) (ask : Ask) → IsProp (AskFits shape ask)
AskFits-prop shape (Reserve chan contract kind delay up_reach first next) = Prim.hlevel (ℕ_set, le_prop)
AskFits-prop shape _ = Prim.hlevel le_prop

pub IsLegal-prop : (link : Link) (h : List Entry) → IsProp (IsLegal link h)
unfolding IsLegal
IsLegal-prop link [] = Unit-prop
IsLegal-prop link (e ∷ past) = ×_prop (IsLegal-prop link past) (Prim.hlevel (AskFits-prop, Reply-set))

MayReply-prop : (shape : LinkShape) (held : List Reservation) (chan : ChanNo) (contract : Traffic) (delay up_reach : ℕ) (reply : Reply) → IsProp (MayReply shape held chan contract delay up_reach reply)
MayReply-prop shape held chan contract delay up_reach (Is.Offer level reach) = Prim.hlevel (ℕ_set, le_prop, ⊎_set)
MayReply-prop shape held chan contract delay up_reach (Is.Refused refusal) = Unit-prop
MayReply-prop shape held chan contract delay up_reach _ = λ a b. absurd a

MayAnswer-prop : (shape : LinkShape) (t : ℕ) (scan : Scan) (ask : Ask) (reply : Reply) → IsProp (MayAnswer shape t scan ask reply)
unfolding MayAnswer
MayAnswer-prop shape t scan (Reserve chan contract kind delay up_reach first next) reply = MayReply-prop shape _ chan contract delay up_reach reply
MayAnswer-prop shape t scan _ reply = Reply-set _ _

pub IsAdmissible-prop : (shape : LinkShape) (h : List Entry) → IsProp (IsAdmissible shape h)
unfolding IsAdmissible
IsAdmissible-prop shape [] = Unit-prop
IsAdmissible-prop shape (e ∷ past) = ×_prop (IsAdmissible-prop shape past) (Prim.hlevel (AskFits-prop, MayAnswer-prop))

-- so are accounts
Account-set : IsSet Account
Account-set = Prim.hlevel (ℕ_set, le_prop, ⊎_set, list_set)

pub StandsFor-prop : (shape : LinkShape) (k : Account) (h : List Entry) → IsProp (StandsFor shape k h)
StandsFor-prop shape k h = Account-set _ _
