use Rattle.network_questions.proofs.table.table_of.Goals as goal

pub returns : goal.returns
returns c = record {
  asking = c.in_ok-asking.asking;
  stands = c.in_ok-asking.ensures;
  rows = c.in_ok-rows.rows.items;
  are = c.in_ok-rows.ensures;
  holds = c.all_accepted.ensures;
}
