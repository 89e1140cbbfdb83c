-- An audit's input: the rows of its table, the levels that it tells, and its end.
pub mod AuditEnd
pub mod CsvRows
pub mod TableReading
pub mod LevelFields
pub mod AuditKeeps
