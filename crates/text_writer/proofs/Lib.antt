pub mod TextsTold
