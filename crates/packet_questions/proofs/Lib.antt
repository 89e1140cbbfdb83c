pub mod JudgedTables
