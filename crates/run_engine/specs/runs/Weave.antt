-- The merge of the links' journals by stamp. Each link has a journal of what it was asked and replied, newest first, and each
-- entry has a stamp that stands nowhere else. The merge has all entries of all journals, newest first. It is a run of the network
-- where each journal is a legal history of its link and each actor's own entries, in order of stamp, are what it asks next.
use Rattle.std.specs.Prelude.{◌≡◌, ◌≢◌, ℕ, suc, ◌<◌, nat_lt, if◌then◌else◌, Some, None, List, [], ◌∷◌, length, map}
use Rattle.std.specs.List.{slice_get}
use Rattle.net_units.specs.Numbers.{link_number, actor_number}
use Rattle.link_steps.specs.declared.replies.Entry.{Entry}
use Rattle.link_steps.specs.Legal.{IsLegal}
use Rattle.link_steps.specs.Lists.{Each, Among}
use Rattle.link_steps.specs.Split.{Link}
use Rattle.call_script.specs.Tasks.{Network}
use Rattle.run_record.specs.Runs.{entry_of, part_of}
use Rattle.run_record.specs.declared.done.Done.{Done}
use Rattle.run_engine.specs.runs.Parts.{reply_of, next_after, IsAsked}
use Rattle.run_engine.specs.runs.Runs.{next_for, IsRun}

-- ---- the merge by stamp

-- an entry with its stamp
pub record Stamped : Type 0 where
  pub stamp : ℕ
  pub done : Done

-- an entry stands before the first of a lower stamp
unfoldable pub put : Stamped → List Stamped → List Stamped
put x [] = x ∷ []
put x (y ∷ ys) = if nat_lt y.stamp x.stamp then x ∷ y ∷ ys else y ∷ put x ys

-- one journal into those woven
unfoldable pub put_all : List Stamped → List Stamped → List Stamped
put_all [] woven = woven
put_all (x ∷ xs) woven = put x (put_all xs woven)

-- the merge of all journals
unfoldable pub woven_of : List (List Stamped) → List Stamped
woven_of [] = []
woven_of (journal ∷ journals) = put_all journal (woven_of journals)

-- ---- stamps

abbrev pub IsUnder : ℕ → Stamped → Type 0
IsUnder stamp x = x.stamp < stamp

-- stamps fall, strictly
abbrev pub Falls : List Stamped → Type 0
Falls [] = Unit {0}
Falls (x ∷ xs) = Each (IsUnder x.stamp) xs × Falls xs

abbrev pub IsUnlike : Stamped → Stamped → Type 0
IsUnlike x y = x.stamp ≢ y.stamp

-- no stamp of one list stands in the other
abbrev pub AreStampedApart : List Stamped → List Stamped → Type 0
AreStampedApart [] ys = Unit {0}
AreStampedApart (x ∷ xs) ys = Each (IsUnlike x) ys × AreStampedApart xs ys

-- no stamp of one journal stands in a later one
abbrev pub PairsApart : List (List Stamped) → Type 0
PairsApart [] = Unit {0}
PairsApart (journal ∷ journals) = Each (AreStampedApart journal) journals × PairsApart journals

-- ---- journals

-- the journals are those of the links from number n on
abbrev pub AreOf : ℕ → List (List Stamped) → Type 0
AreOf n [] = Unit {0}
AreOf n (journal ∷ journals) = Each (λ x. link_number x.done.link ≡ n) journal × AreOf (suc n) journals

abbrev pub done_of : Stamped → Done
done_of x = x.done

abbrev pub entry_in : Stamped → Entry
entry_in x = entry_of x.done

-- the journals of the network's links, in their order. Each is a legal history of its link, its stamps fall, and no stamp stands
-- twice in all
pub record AreJournals (network : Network) (journals : List (List Stamped)) : Type 0 where
  pub whole : length journals ≡ length network.links
  pub of_links : AreOf 0 journals
  pub falls : Each Falls journals
  pub apart : PairsApart journals
  pub legal : (n : ℕ) (link : Link) (journal : List Stamped) → slice_get network.links n ≡ Some link → slice_get journals n ≡ Some journal → IsLegal link (map entry_in journal)

-- an entry that stands in one of the journals
pub data InOne (x : Stamped) (journals : List (List Stamped)) : Type 0 where
  StandsIn : (k : ℕ) (journal : List Stamped) → slice_get journals k ≡ Some journal → Among x journal → InOne x journals

-- the own entries of an actor are those that stand in a journal with it
pub record AreOwn (actor : ℕ) (own : List Stamped) (journals : List (List Stamped)) : Type 0 where
  pub stands : (x : Stamped) → Among x own → InOne x journals × (actor_number x.done.actor ≡ actor)
  pub all : (x : Stamped) → InOne x journals → actor_number x.done.actor ≡ actor → Among x own

-- ---- the law

-- the actors' own entries, each list by falling stamps, stand in the journals, are all that stand there, and are asked by the
-- actors' rules
pub record AreAsked (network : Network) (owns : ℕ → List Stamped) (journals : List (List Stamped)) : Type 0 where
  pub falls : (actor : ℕ) → Falls (owns actor)
  pub own : (actor : ℕ) → AreOwn actor (owns actor) journals
  pub asked : (actor : ℕ) → IsAsked network actor (map done_of (owns actor))

-- the run of the journals
abbrev pub run_of : List (List Stamped) → List Done
run_of journals = map done_of (woven_of journals)

pub record JournalsWeaveToARun : Type 0 where
  -- the merge is in order of stamp, has what stands in a journal and nothing else, and its part on each link is that link's journal
  pub falls : (network : Network) (journals : List (List Stamped)) → AreJournals network journals → Falls (woven_of journals)
  pub stands : (journals : List (List Stamped)) (x : Stamped) → Among x (woven_of journals) → InOne x journals
  pub all : (journals : List (List Stamped)) (x : Stamped) → InOne x journals → Among x (woven_of journals)
  pub parts : (network : Network) (journals : List (List Stamped)) (n : ℕ) (journal : List Stamped) → AreJournals network journals → slice_get journals n ≡ Some journal → part_of n (run_of journals) ≡ map entry_in journal
  -- it is a run
  pub run : (network : Network) (journals : List (List Stamped)) (owns : ℕ → List Stamped) → AreJournals network journals → AreAsked network owns journals → IsRun network (run_of journals)
  -- and an actor whose own entries leave it no ask has made all its steps
  pub ends : (network : Network) (journals : List (List Stamped)) (owns : ℕ → List Stamped) (actor : ℕ) → AreJournals network journals → AreAsked network owns journals → next_after network actor (map reply_of (map done_of (owns actor))) ≡ None → next_for network actor (run_of journals) ≡ None
