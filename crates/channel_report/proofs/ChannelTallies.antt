-- What is kept of all sources after one more entry of a run.
use Rattle.std.proofs.Common.{◌≡◌, ℕ, ◌+◌, ◌^◌, ◌<◌, ◌≤◌, None, Some, List, [], ◌∷◌, ◌++◌, length, set, refl, sym, ap, ◌∙◌, subst, inl, inr, arith, length-set, zero-add}
use Rattle.std.proofs.lemmas.Bool.{cases_eq, eq-eqb, ne_eqb}
use Rattle.std.proofs.lemmas.Option.{same_Some}
use Rattle.std.specs.List.{slice_get}
use Rattle.net_units.specs.Numbers.{channel_number, link_number}
use Rattle.net_units.specs.declared.numbers.ChanNo.{ChanNo}
use Rattle.hop_reservation.specs.declared.route.Hop.{Hop}
use Rattle.link_steps.specs.declared.replies.Entry.{Entry}
use Rattle.link_steps.specs.Scan.{clock_of}
use Rattle.call_script.specs.declared.entries.RequestEntry.{RequestEntry}
use Rattle.run_engine.proofs.Keeping.Lookups.{get-set-same, get-set-other, get-push, held}
use Rattle.run_engine.proofs.Runs.RunLegal.{part-on, part-off}
use Rattle.run_record.specs.Runs.{part_of}
use Rattle.run_record.specs.declared.done.Done.{Done}
use Rattle.channel_report.proofs.LinkTallies.{part-short}
use Rattle.channel_report.specs.ChannelTallies.{AreChannelTallies, KeepsTally}
use Rattle.channel_report.specs.Sources.{act_of, chan_of, first_link, planned_after, planned_in, refused_by, refused_in}
use Rattle.channel_report.specs.declared.channel_tally.ChannelTally.{ChannelTally}
use Rattle.channel_report.specs.declared.source_act.Act.{Act}
use Rattle.channel_report.specs.declared.source_act.Act.TheVariants.{Plans, Refuses, Cancels, Nothing}

-- it is for another source, or for none
abbrev pub IsOff : ℕ → Act → Type 0
IsOff n act = (chan : ChanNo) → chan_of act ≡ Some chan → channel_number chan ≡ n → ⊥

planned-off : (n t : ℕ) (planned : List ℕ) (act : Act) → IsOff n act → planned_after n t planned act ≡ planned
planned-off n t planned (Plans chan tick gap count) off = rw (ne_eqb (channel_number chan) n (off chan refl)) refl
planned-off n t planned (Refuses chan) off = refl
planned-off n t planned (Cancels chan) off = rw (ne_eqb (channel_number chan) n (off chan refl)) refl
planned-off n t planned Nothing off = refl

refused-off : (n : ℕ) (act : Act) → IsOff n act → refused_by n act ≡ 0
refused-off n (Plans chan tick gap count) off = refl
refused-off n (Refuses chan) off = rw (ne_eqb (channel_number chan) n (off chan refl)) refl
refused-off n (Cancels chan) off = refl
refused-off n Nothing off = refl

-- an entry on another link, or for another source
pub same-source : (n first : ℕ) (done : Done) (past : List Done) (tally : ChannelTally) → (first ≡ link_number done.link → IsOff n (act_of done.ask done.reply)) → KeepsTally (planned_in n (part_of first past)) (refused_in n (part_of first past)) tally
    → KeepsTally (planned_in n (part_of first (done ∷ past))) (refused_in n (part_of first (done ∷ past))) tally
unfolding planned_in refused_in
same-source n first done past tally off keeps =
    elim (cases_eq first (link_number done.link)) [
      | inl on ↦
          (let act = act_of done.ask done.reply in
          rw (part-on first done past (sym on), planned-off n (clock_of (part_of first past)) (planned_in n (part_of first past)) act (off on), refused-off n act (off on), zero-add) keeps)
      | inr apart ↦ rw (part-off first done past (λ e. apart (sym e))) keeps
    ]

-- an entry for this source
pub own-source : (n first : ℕ) (done : Done) (past : List Done) (tally : ChannelTally) → first ≡ link_number done.link → KeepsTally (planned_after n (clock_of (part_of first past)) (planned_in n (part_of first past)) (act_of done.ask done.reply)) (refused_by n (act_of done.ask done.reply) + refused_in n (part_of first past)) tally
    → KeepsTally (planned_in n (part_of first (done ∷ past))) (refused_in n (part_of first (done ∷ past))) tally
unfolding planned_in refused_in
own-source n first done past tally on keeps = rw (part-on first done past (sym on)) keeps

-- no source is kept otherwise
pub sources-same : (requests : List RequestEntry) (past : List Done) (done : Done) (tallies : List ChannelTally) → AreChannelTallies requests past tallies
    → ((n : ℕ) (entry : RequestEntry) (chan : ChanNo) → slice_get requests n ≡ Some entry → first_link entry.request.route ≡ link_number done.link → chan_of (act_of done.ask done.reply) ≡ Some chan → channel_number chan ≡ n → ⊥)
    → AreChannelTallies requests (done ∷ past) tallies
sources-same requests past done tallies are off = record {
  all = are.all;
  tells = λ n entry tally found at. same-source n (first_link entry.request.route) done past tally (λ on chan of own. off n entry chan found on of own) (are.tells n entry tally found at);
}

-- it is for none
pub for-none : (act : Act) (chan : ChanNo) → act ≡ Nothing → chan_of act ≡ Some chan → ⊥
for-none act chan nothing of = (let clash : None ≡ Some chan = sym (ap chan_of nothing) ∙ of in cc)

-- one source is kept after the entry
pub sources-more : (requests : List RequestEntry) (past : List Done) (done : Done) (old : List ChannelTally) (place : ℕ) (was new : ChannelTally) (own : ChanNo) → AreChannelTallies requests past old → slice_get old place ≡ Some was
    → chan_of (act_of done.ask done.reply) ≡ Some own → channel_number own ≡ place
    → ((entry : RequestEntry) → slice_get requests place ≡ Some entry → first_link entry.request.route ≡ link_number done.link)
    → ((planned : List ℕ) (refused : ℕ) → KeepsTally planned refused was → KeepsTally (planned_after place (clock_of (part_of (link_number done.link) past)) planned (act_of done.ask done.reply)) (refused_by place (act_of done.ask done.reply) + refused) new)
    → AreChannelTallies requests (done ∷ past) (set old place new)
sources-more requests past done old place was new own are at of number first goes = record {
  all = length-set old place new ∙ are.all;
  tells = λ n entry tally found put. elim (cases_eq n place) [
    | inl here ↦
        (let here_entry : slice_get requests place ≡ Some entry = ap (slice_get requests) (sym here) ∙ found in
        let on = first entry here_entry in
        let is : tally ≡ new = get-set-same old place new tally (ap (slice_get (set old place new)) (sym here) ∙ put) in
        let kept = goes (planned_in place (part_of (link_number done.link) past)) (refused_in place (part_of (link_number done.link) past))
        (subst (λ l. KeepsTally (planned_in place (part_of l past)) (refused_in place (part_of l past)) was) on (are.tells place entry was here_entry at)) in
        subst (λ m. KeepsTally (planned_in m (part_of (first_link entry.request.route) (done ∷ past))) (refused_in m (part_of (first_link entry.request.route) (done ∷ past))) tally) (sym here)
        (subst (KeepsTally (planned_in place (part_of (first_link entry.request.route) (done ∷ past))) (refused_in place (part_of (first_link entry.request.route) (done ∷ past)))) (sym is)
        (own-source place (first_link entry.request.route) done past new on
        (subst (λ l. KeepsTally (planned_after place (clock_of (part_of l past)) (planned_in place (part_of l past)) (act_of done.ask done.reply)) (refused_by place (act_of done.ask done.reply) + refused_in place (part_of l past)) new) (sym on) kept))))
    | inr apart ↦
        same-source n (first_link entry.request.route) done past tally (λ on chan of' own'. apart (sym own' ∙ ap channel_number (same_Some chan own (sym of' ∙ of)) ∙ number))
        (are.tells n entry tally found (sym (get-set-other old place n new apart) ∙ put))
  ];
}

-- ---- before the first entry

pub fresh-sources : (requests : List RequestEntry) (tallies : List ChannelTally) → length tallies ≡ length requests → ((n : ℕ) (tally : ChannelTally) → slice_get tallies n ≡ Some tally → KeepsTally [] 0 tally) → AreChannelTallies requests [] tallies
unfolding part_of planned_in refused_in
fresh-sources requests tallies all bare = record { all = all; tells = λ n entry tally found at. bare n tally at }

pub fresh-more : (tallies : List ChannelTally) (new : ChannelTally) → ((n : ℕ) (tally : ChannelTally) → slice_get tallies n ≡ Some tally → KeepsTally [] 0 tally) → KeepsTally [] 0 new → (n : ℕ) (tally : ChannelTally) → slice_get (tallies ++ new ∷ []) n ≡ Some tally → KeepsTally [] 0 tally
fresh-more tallies new bare keeps n tally at =
    elim (get-push tallies new n tally at) [
      | inl before ↦ bare n tally before
      | inr last ↦ subst (KeepsTally [] 0) (sym last.1) keeps
    ]

-- few sends are refused
refused-few : (n : ℕ) (act : Act) → refused_by n act ≤ 1
refused-few n (Plans chan tick gap count) = omega arith
refused-few n (Refuses chan) = elim (cases_eq (channel_number chan) n) [ inl is ↦ rw (eq-eqb (channel_number chan) n is) (omega arith) | inr not ↦ rw (ne_eqb (channel_number chan) n not) (omega arith) ]
refused-few n (Cancels chan) = omega arith
refused-few n Nothing = omega arith

pub refused-most : (n : ℕ) (h : List Entry) → refused_in n h ≤ length h
unfolding refused_in
refused-most n [] = omega arith
refused-most n (e ∷ past) = omega (arith, refused-few n (act_of e.ask e.reply), refused-most n past)

-- ---- what is found of an entry

pub first-at : (route : List Hop) (hop : Hop) → slice_get route 0 ≡ Some hop → first_link route ≡ link_number hop.link
first-at [] hop none = cc
first-at (own ∷ hops) hop some = ap (λ (h : Hop). link_number h.link) (same_Some own hop some)

-- few sends were refused on a channel
pub tally-few : (requests : List RequestEntry) (past : List Done) (tallies : List ChannelTally) (place : ℕ) (tally : ChannelTally) → AreChannelTallies requests past tallies → place < length requests → slice_get tallies place ≡ Some tally → length past < 2 ^ 60 → tally.refused < 2 ^ 62
tally-few requests past tallies place tally are inside at short =
    let entry = held requests place inside in
    let keeps = are.tells place entry.item tally entry.found at in
    omega (arith, keeps.refuses, refused-most place (part_of (first_link entry.item.request.route) past), part-short (first_link entry.item.request.route) past, short)
