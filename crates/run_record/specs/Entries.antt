-- A record has the entries of a run in the order of time, and room for some more.
use Rattle.std.specs.Prelude.{ℕ, List}
use Rattle.run_record.specs.declared.done.Done.{Done}

-- what a contract sees of a record
pub record Entries : Type 0 where
  pub entries : List Done
  pub spare : ℕ
