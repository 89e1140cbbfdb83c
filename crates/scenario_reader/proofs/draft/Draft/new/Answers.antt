use Rattle.scenario_reader.proofs.Passing.DraftBecomesPlan.{draft-begins}
use Rattle.scenario_reader.proofs.Passing.KeptBesideDraft.{kept-begins}
use Rattle.scenario_reader.proofs.draft.Draft.new.Goals as goal

pub invariant_of-result : goal.invariant_of-result
invariant_of-result c =
    rw (c.new.ensures.items, c.new-2.ensures.items, c.new-3.ensures.items, c.new-4.ensures.items, c.new-5.ensures.items, c.new-9.ensures.items, c.in_ok-new.ensures, c.in_ok-new-2.ensures, c.in_ok-new-3.ensures)
    (draft-begins, kept-begins)
