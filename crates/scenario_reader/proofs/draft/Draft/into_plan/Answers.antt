use Rattle.std.proofs.Common.{◌∙◌, ap}
use Rattle.scenario_reader.specs.Drafts.{Said, is_complete}
use Rattle.scenario_reader.proofs.Passing.DraftBecomesPlan.{complete-draft}
use Rattle.scenario_reader.proofs.draft.Draft.into_plan.Goals as goal

pub of_kept-plan-requires : goal.of_kept-plan-requires
of_kept-plan-requires c =
    let complete = ap (λ (s : Said). is_complete s) c.self.view_is ∙ c.requires in
    rw (c.unwrap_or-version.ensures, c.unwrap_or-rounds.ensures, c.unwrap_or-tail.ensures) (complete-draft _ c.self.invariant.0 complete)
