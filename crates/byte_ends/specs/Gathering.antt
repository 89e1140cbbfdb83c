-- Bytes that are gathered before they are written to a sink. What was written, and after it what is gathered now, is what
-- was gathered before and then the pieces pushed since, in their order. Before the last of it is written, whole blocks are. After a
-- fault a prefix of that was written.
use Rattle.std.specs.Prelude.{◌≡◌, ℕ, ◌*◌, List, ◌++◌, length, Option}
use Rattle.std.specs.Io.KnownBytes.{Appends}
use Rattle.byte_ends.specs.declared.block.TheConstants.{BLOCK}

-- a text was gathered: `written` is what the sink told before and after, `gathered` what was gathered before and after
pub record Gathers (written written' : Option (List ℕ)) (gathered gathered' text : List ℕ) : Type 0 where
  pub put : List ℕ
  pub appends : Appends written written' put
  pub joined : put ++ gathered' ≡ gathered ++ text

-- whole blocks were written, maybe none
pub record WritesBlocks (written written' : Option (List ℕ)) : Type 0 where
  pub put : List ℕ
  pub appends : Appends written written' put
  pub count : ℕ
  pub whole : length put ≡ count * BLOCK

-- a prefix of the text was written, maybe all of it
pub record WritesPart (written written' : Option (List ℕ)) (text : List ℕ) : Type 0 where
  pub front : List ℕ
  pub rest : List ℕ
  pub appends : Appends written written' front
  pub joined : front ++ rest ≡ text
