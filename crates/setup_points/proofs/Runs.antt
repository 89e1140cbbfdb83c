-- What the actors of items are, and the run of items that are written.
use Rattle.std.proofs.Common.{◌≡◌, ℕ, ◌+◌, ◌<◌, ◌≤◌, true, List, [], ◌∷◌, ◌++◌, length, get_or, take, sym, ap, ◌∙◌, subst}
use Rattle.std.proofs.lemmas.List.{take_all, take_more}
use Rattle.link_steps.specs.Lists.{Each}
use Rattle.link_steps.proofs.ListParts.{Each-push}
use Rattle.net_units.specs.declared.numbers.ActorNo.{ActorNo}
use Rattle.call_script.specs.Parts.{PlanParts}
use Rattle.call_script.specs.Tasks.{Network}
use Rattle.call_script.specs.declared.schedule.Do.{Do}
use Rattle.call_script.specs.declared.schedule.Schedule.{Schedule}
use Rattle.run_engine.specs.schedules.Schedules.{FollowsTurns, IsActorOf, IsPlayed, PlayedBy, turns_of}
use Rattle.run_record.specs.declared.done.Done.{Done}

-- ---- the actors of items

pub none-yet : (parts : PlanParts) (items : List Do) → Each (IsActorOf parts) (take 0 items)
none-yet parts [] = tt
none-yet parts (item ∷ items) = tt

pub one-more-actor : (parts : PlanParts) (items : List Do) (i : ℕ) (item : Do) → i < length items → item ≡ get_or items i item → Each (IsActorOf parts) (take i items) → IsActorOf parts item → Each (IsActorOf parts) (take (i + 1) items)
one-more-actor parts items i item within is so_far one =
    subst (Each (IsActorOf parts)) (ap (λ x. take i items ++ x ∷ []) is ∙ sym (take_more items i item within)) (Each-push (IsActorOf parts) (take i items) item so_far one)

pub all-actors : (parts : PlanParts) (items : List Do) (i : ℕ) → length items ≤ i → Each (IsActorOf parts) (take i items) → Each (IsActorOf parts) items
all-actors parts items i past so_far = subst (Each (IsActorOf parts)) (take_all i items past) so_far

-- ---- a written schedule

pub written-run : (network : Network) (schedule : Schedule) (run : List Done) (turns : List ActorNo) → schedule.written ≡ true → turns_of schedule.items ≡ turns → IsPlayed network schedule run → FollowsTurns network [] turns run
written-run network schedule run turns written are played =
    subst (λ (own : List ActorNo). FollowsTurns network [] own run) are (subst (λ w. PlayedBy network w schedule.items run) written played)
