-- Every state of a link stands for an admissible history: it begins with the empty one, and each step goes on with an entry
-- that is admissible. The state doesn't keep which one it is, so what is said here is that it can't be that there is none.
-- So what the rules promise of admissible histories, in whole numbers, holds of every state: its rows keep no more than the
-- buffer, and their eligible ticks are soon.
use Rattle.std.specs.Prelude.{List}
use Rattle.link_steps.specs.declared.replies.Entry.{Entry}
use Rattle.link_steps.specs.declared.shape.LinkShape.{LinkShape}
use Rattle.link_steps.specs.Admissible.{IsAdmissible}
use Rattle.link_steps.specs.Account.{Account, StandsFor}

-- no admissible history stands for the account
abbrev pub StandsForNone : LinkShape → Account → Type 0
StandsForNone shape k = (h : List Entry) → IsAdmissible shape h → StandsFor shape k h → ⊥

-- it can't be that none does
abbrev pub IsStood : LinkShape → Account → Type 0
IsStood shape k = StandsForNone shape k → ⊥

-- there is at most one proof of it
pub IsStood-prop : (shape : LinkShape) (k : Account) → IsProp (IsStood shape k)
IsStood-prop shape k = Prim.hlevel
