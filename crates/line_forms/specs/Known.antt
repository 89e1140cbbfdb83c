-- The names that are known where a line stands: the number of each in its set, and of which numbers there is a pair already. (A
-- group has at most one quota of a link, so a link and a group are a pair once there is one.)
use Rattle.std.specs.Prelude.{ℕ, Bool, Option, List}
use Rattle.line_forms.specs.declared.known.Set.{Set}

pub record KnownNames : Type 0 where
  pub number : Set → List ℕ → Option ℕ
  pub paired : ℕ → ℕ → Bool
