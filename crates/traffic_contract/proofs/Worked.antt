-- Worked values, found by computing with the definitions. The contract allows a packet every 5 ticks and two in any
-- 20, of 2 units each. The link sends a unit a tick, has levels of 10, 20 and 40 ticks, and is blocked for up to 4
-- ticks.
use Rattle.std.proofs.Common.{◌≡◌, true, false, List, [], ◌∷◌, Some, None, refl}
use Rattle.traffic_contract.specs.Contract.{Traffic, terms_of, burst_of, most_in}
use Rattle.traffic_contract.specs.Refusal.{first_bad}
use Rattle.traffic_contract.specs.Keeping.{are_spaced, keeps, may_follow, keeps_newest_first}
use Rattle.traffic_contract.specs.Eligible.{first_from, eligible}
use Rattle.traffic_contract.specs.Admission.{Server, Admitted, work_in, work_up_to, load, level_sum, some_upto, passes_up_to, passes, admits, first_level, best_level, refused_sum}
use Rattle.traffic_contract.specs.declared.admission.Test.TheVariants.{Whole, Least}
use Rattle.traffic_contract.specs.declared.contract.ContractField.TheVariants.{Xave, Interval}

abbrev paced : Traffic
paced = terms_of 5 10 20 2

paced-burst : burst_of paced ≡ 2
paced-burst = refl

-- ---- the most packets in a window of so many ticks

none-in-0 : most_in paced 0 ≡ 0
unfolding most_in
none-in-0 = refl

one-in-1 : most_in paced 1 ≡ 1
unfolding most_in
one-in-1 = refl

one-in-5 : most_in paced 5 ≡ 1
unfolding most_in
one-in-5 = refl

two-in-6 : most_in paced 6 ≡ 2
unfolding most_in
two-in-6 = refl

two-in-10 : most_in paced 10 ≡ 2
unfolding most_in
two-in-10 = refl

two-in-20 : most_in paced 20 ≡ 2
unfolding most_in
two-in-20 = refl

three-in-21 : most_in paced 21 ≡ 3
unfolding most_in
three-in-21 = refl

three-in-23 : most_in paced 23 ≡ 3
unfolding most_in
three-in-23 = refl

four-in-40 : most_in paced 40 ≡ 4
unfolding most_in
four-in-40 = refl

eight-in-80 : most_in paced 80 ≡ 8
unfolding most_in
eight-in-80 = refl

-- ---- numbers that aren't a contract

average-below-least : first_bad (terms_of 5 4 20 2) ≡ Some Xave
average-below-least = refl

burst-too-large : first_bad (terms_of 1 1 257 1) ≡ Some Interval
burst-too-large = refl

-- ---- lists that keep the contract, and lists that don't

empty-keeps : keeps paced [] ≡ true
unfolding keeps are_spaced
empty-keeps = refl

even-gaps-keep : keeps paced (0 ∷ 10 ∷ 20 ∷ []) ≡ true
unfolding keeps are_spaced
even-gaps-keep = refl

burst-then-pause-keeps : keeps paced (0 ∷ 5 ∷ 20 ∷ []) ≡ true
unfolding keeps are_spaced
burst-then-pause-keeps = refl

neighbours-too-near : keeps paced (0 ∷ 4 ∷ []) ≡ false
unfolding keeps are_spaced
neighbours-too-near = refl

third-too-early : keeps paced (0 ∷ 5 ∷ 19 ∷ []) ≡ false
unfolding keeps are_spaced
third-too-early = refl

newest-first-keeps : keeps_newest_first paced (20 ∷ 5 ∷ 0 ∷ []) ≡ true
unfolding keeps_newest_first may_follow
newest-first-keeps = refl

newest-first-too-early : keeps_newest_first paced (19 ∷ 5 ∷ 0 ∷ []) ≡ false
unfolding keeps_newest_first may_follow
newest-first-too-early = refl

-- ---- eligible ticks of packets that arrive at 0, 2, 4 and 50

first-is-eligible-at-0 : eligible paced [] 0 ≡ 0
unfolding eligible first_from may_follow
first-is-eligible-at-0 = refl

second-waits-for-least-gap : eligible paced (0 ∷ []) 2 ≡ 5
unfolding eligible first_from may_follow
second-waits-for-least-gap = refl

third-waits-for-interval : eligible paced (5 ∷ 0 ∷ []) 4 ≡ 20
unfolding eligible first_from may_follow
third-waits-for-interval = refl

fourth-needs-no-wait : eligible paced (20 ∷ 5 ∷ 0 ∷ []) 50 ≡ 50
unfolding eligible first_from may_follow
fourth-needs-no-wait = refl

-- ---- the sums of a link's levels

abbrev link : Server
link = record { bounds = 10 ∷ 20 ∷ 40 ∷ []; rate = 1; blocking = 4; test = Whole }

abbrev at_level_1 : Admitted
at_level_1 = record { contract = paced; level = 1 }

abbrev at_level_2 : Admitted
at_level_2 = record { contract = paced; level = 2 }

abbrev one_and_three : List Admitted
one_and_three = at_level_1 ∷ at_level_2 ∷ at_level_2 ∷ at_level_2 ∷ []

first-goes-to-level-1 : best_level link [] paced ≡ Some 1
unfolding best_level first_level admits passes passes_up_to load work_up_to work_in most_in
first-goes-to-level-1 = refl

second-goes-to-level-2 : best_level link (at_level_1 ∷ []) paced ≡ Some 2
unfolding best_level first_level admits passes passes_up_to load work_up_to work_in most_in
second-goes-to-level-2 = refl

level-1-comes-to-8 : level_sum link one_and_three 1 ≡ 8
unfolding load work_up_to work_in most_in
level-1-comes-to-8 = refl

level-2-comes-to-20 : level_sum link one_and_three 2 ≡ 20
unfolding load work_up_to work_in most_in
level-2-comes-to-20 = refl

level-3-comes-to-36 : level_sum link one_and_three 3 ≡ 36
unfolding load work_up_to work_in most_in
level-3-comes-to-36 = refl

four-rows-pass : passes link one_and_three ≡ true
unfolding passes passes_up_to load work_up_to work_in most_in
four-rows-pass = refl

no-level-for-a-fifth : best_level link one_and_three paced ≡ None
unfolding best_level first_level admits passes passes_up_to load work_up_to work_in most_in
no-level-for-a-fifth = refl

fifth-comes-to-44-over-40 : refused_sum link one_and_three paced ≡ 44
unfolding load work_up_to work_in most_in
fifth-comes-to-44-over-40 = refl

-- ---- a link of one level of 23 ticks, under both tests

abbrev whole_link : Server
whole_link = record { bounds = 23 ∷ []; rate = 1; blocking = 4; test = Whole }

abbrev least_link : Server
least_link = record { bounds = 23 ∷ []; rate = 1; blocking = 4; test = Least }

abbrev three_rows : List Admitted
three_rows = at_level_1 ∷ at_level_1 ∷ at_level_1 ∷ []

-- in 23 ticks four rows come to 28, and in 20 ticks to 20
no-fourth-in-the-whole-bound : best_level whole_link three_rows paced ≡ None
unfolding best_level first_level admits passes passes_up_to load work_up_to work_in most_in
no-fourth-in-the-whole-bound = refl

fourth-in-a-window-of-20 : best_level least_link three_rows paced ≡ Some 1
unfolding best_level first_level admits passes passes_up_to some_upto load work_up_to work_in most_in
fourth-in-a-window-of-20 = refl

no-fifth-in-any-window : best_level least_link (at_level_1 ∷ three_rows) paced ≡ None
unfolding best_level first_level admits passes passes_up_to some_upto load work_up_to work_in most_in
no-fifth-in-any-window = refl
