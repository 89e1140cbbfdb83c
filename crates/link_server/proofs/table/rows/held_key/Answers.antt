-- The index leads to the row, which is there.
use Rattle.std.proofs.Common.{Option, Some, None, IsSome, refl}
use Rattle.std.specs.Prelude.{IfNone}
use Rattle.link_server.proofs.table.rows.held_key.Goals as goal

some-unless : {X : Type 0} (found : Option X) (P : Type 0) → IfNone found P → (P → ⊥) → IsSome found
some-unless None P none not = absurd (not none)
some-unless (Some x) P none not = refl

pub unwrap-requires : goal.unwrap-requires
unwrap-requires c = some-unless _ _ c.key_of.ensures.none c.requires.held
