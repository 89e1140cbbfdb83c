-- What is kept of a source after one more entry of its first link, and with which packet it breaks its contract.
use Rattle.std.proofs.Common.{◌≡◌, ℕ, ◌+◌, ◌-◌, ◌<◌, ◌≤◌, ◌^◌, true, false, List, [], ◌∷◌, ◌++◌, length, take, reverse, get_or, refl, sym, ap, ◌∙◌, inl, inr, arith}
use Rattle.std.specs.Prelude.{Some, filter}
use Rattle.std.proofs.lemmas.Bool.{cases_Bool}
use Rattle.std.proofs.lemmas.List.{take_more, reverse-append}
use Rattle.std.proofs.lemmas.List.Elements.{filter-append}
use Rattle.traffic_contract.specs.Contract.{Traffic}
use Rattle.traffic_contract.specs.Keeping.{keeps_newest_first, may_follow}
use Rattle.link_steps.specs.Scan.{clock_of, clock_with}
use Rattle.link_steps.specs.declared.asks.Ask.{Ask}
use Rattle.link_steps.specs.declared.asks.Ask.TheVariants.{Submit, Release}
use Rattle.link_steps.specs.declared.replies.Entry.{Entry}
use Rattle.link_steps.specs.declared.replies.Reply.{Reply}
use Rattle.link_steps.specs.declared.replies.Reply.TheVariants.{Planned, Closing, Refused}
use Rattle.channel_report.specs.ChannelTallies.{never}
use Rattle.channel_report.specs.Sources.{act_of, is_channel, is_made, offered_in, planned_after, planned_in, refused_by, refused_in, ticks_from}
use Rattle.channel_report.proofs.PlannedTicks.{made-both, made-within}
use Rattle.link_steps.proofs.ClockAdvances.{clock_of-most}
use Rattle.packet_answers.specs.SourceTallies.{BreaksFrom, KeepsSource, act_for, planned_with, refused_with}
use Rattle.packet_answers.specs.declared.sources.Act.{Act}
use Rattle.packet_answers.specs.declared.sources.Source.{Source}

-- ---- what an entry does

planned-as : (n t : ℕ) (planned : List ℕ) (ask : Ask) (reply : Reply) → planned_after n t planned (act_of ask reply) ≡ planned_with t planned (act_for n ask reply)
planned-as n t planned (Submit chan count gap size) (Planned tick) = elim (cases_Bool (is_channel n chan)) [ inl own ↦ rw own refl | inr other ↦ rw other refl ]
planned-as n t planned (Submit chan count gap size) (Refused refusal) = elim (cases_Bool (is_channel n chan)) [ inl own ↦ rw own refl | inr other ↦ rw other refl ]
planned-as n t planned (Release chan upstream) (Closing count cancelled) = elim (cases_Bool (is_channel n chan)) [ inl own ↦ rw own refl | inr other ↦ rw other refl ]
planned-as n t planned _ _ = refl

refused-as : (n : ℕ) (ask : Ask) (reply : Reply) → refused_by n (act_of ask reply) ≡ refused_with (act_for n ask reply)
refused-as n (Submit chan count gap size) (Planned tick) = elim (cases_Bool (is_channel n chan)) [ inl own ↦ rw own refl | inr other ↦ rw other refl ]
refused-as n (Submit chan count gap size) (Refused refusal) = elim (cases_Bool (is_channel n chan)) [ inl own ↦ rw own refl | inr other ↦ rw other refl ]
refused-as n (Release chan upstream) (Closing count cancelled) = elim (cases_Bool (is_channel n chan)) [ inl own ↦ rw own refl | inr other ↦ rw other refl ]
refused-as n _ _ = refl

pub source-more : (n : ℕ) (h : List Entry) (ask : Ask) (reply : Reply) (act : Act) (old new : Source) → KeepsSource n h old → act ≡ act_for n ask reply
    → new.clock ≡ clock_with ask old.clock → new.ticks.items ≡ filter (is_made never) (planned_with old.clock (planned_in n h) act) → new.refused ≡ refused_with act + old.refused
    → KeepsSource n (record { ask = ask; reply = reply } ∷ h) new
unfolding clock_of planned_in refused_in
source-more n h ask reply act old new keeps is clock ticks refused = record {
  clock = clock ∙ ap (clock_with ask) keeps.clock;
  ticks = ticks ∙ ap (λ t. filter (is_made never) (planned_with t (planned_in n h) act)) keeps.clock ∙ ap (λ a. filter (is_made never) (planned_with (clock_of h) (planned_in n h) a)) is
      ∙ ap (filter (is_made never)) (sym (planned-as n (clock_of h) (planned_in n h) ask reply));
  refuses = refused ∙ ap (λ r. refused_with act + r) keeps.refuses ∙ ap (λ a. refused_with a + refused_in n h) is ∙ ap (λ r. r + refused_in n h) (sym (refused-as n ask reply));
}

pub kept-planned : (clock tick gap count : ℕ) (planned old new : List ℕ) → old ≡ filter (is_made never) planned → new ≡ old ++ filter (is_made never) (ticks_from tick gap count)
    → new ≡ filter (is_made never) (planned ++ ticks_from tick gap count)
kept-planned clock tick gap count planned old new keeps more =
    more ∙ ap (λ front. front ++ filter (is_made never) (ticks_from tick gap count)) keeps ∙ sym (filter-append (is_made never) planned (ticks_from tick gap count))

pub kept-cancelled : (clock : ℕ) (planned old new : List ℕ) → old ≡ filter (is_made never) planned → new ≡ filter (is_made clock) old → new ≡ filter (is_made never) (filter (is_made clock) planned)
kept-cancelled clock planned old new keeps less = less ∙ ap (filter (is_made clock)) keeps ∙ made-both clock never planned

-- ---- what a source has offered

pub source-offers : (n : ℕ) (h : List Entry) (source : Source) (offered : List ℕ) → KeepsSource n h source → length h < 2 ^ 60 → offered ≡ filter (is_made source.clock) source.ticks.items → offered ≡ offered_in n h
source-offers n h source offered keeps short is =
    let small : clock_of h ≤ never = omega (arith, clock_of-most h, short) in
    is ∙ ap (λ t. filter (is_made t) source.ticks.items) keeps.clock ∙ ap (filter (is_made (clock_of h))) keeps.ticks ∙ made-within (clock_of h) never (planned_in n h) small

-- ---- one packet more

ticks-more : (ticks : List ℕ) (i : ℕ) → i < length ticks → reverse (take (i + 1) ticks) ≡ get_or ticks i 0 ∷ reverse (take i ticks)
ticks-more ticks i inside = ap reverse (take_more ticks i 0 inside) ∙ reverse-append (take i ticks) (get_or ticks i 0 ∷ [])

pub kept-more : (contract : Traffic) (ticks : List ℕ) (n i : ℕ) → n ≡ i → i < length ticks → may_follow contract (reverse (take n ticks)) (get_or ticks i 0) ≡ true
    → keeps_newest_first contract (reverse (take i ticks)) ≡ true → keeps_newest_first contract (reverse (take (i + 1) ticks)) ≡ true
unfolding keeps_newest_first
kept-more contract ticks n i same inside may keeps =
    let here : may_follow contract (reverse (take i ticks)) (get_or ticks i 0) ≡ true = ap (λ k. may_follow contract (reverse (take k ticks)) (get_or ticks i 0)) (sym same) ∙ may in
    rw (ticks-more ticks i inside, here, keeps) refl

pub broken-at : (contract : Traffic) (ticks : List ℕ) (n i : ℕ) → n ≡ i → i < length ticks → may_follow contract (reverse (take n ticks)) (get_or ticks i 0) ≡ false
    → keeps_newest_first contract (reverse (take i ticks)) ≡ true → BreaksFrom contract ticks (Some (n + 1))
unfolding keeps_newest_first
broken-at contract ticks n i same inside not keeps =
    let here : may_follow contract (reverse (take i ticks)) (get_or ticks i 0) ≡ false = ap (λ k. may_follow contract (reverse (take k ticks)) (get_or ticks i 0)) (sym same) ∙ not in
    let before : n + 1 - 1 ≡ i = omega (arith, same) in
    let with_it : n + 1 ≡ i + 1 = omega (arith, same) in
    let breaks : keeps_newest_first contract (reverse (take (i + 1) ticks)) ≡ false = rw (ticks-more ticks i inside, here) refl in
    (ap (λ k. keeps_newest_first contract (reverse (take k ticks))) before ∙ keeps, ap (λ k. keeps_newest_first contract (reverse (take k ticks))) with_it ∙ breaks)
