use Rattle.base_tests.proofs.records.told_by.Goals as goal

pub row_of-requires : goal.row_of-requires
row_of-requires c = c.requires
