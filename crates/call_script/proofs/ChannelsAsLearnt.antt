-- What is kept of the channels is what was learnt: at the beginning, and with one more note, which changes what is kept of the
-- channels that it is about.
use Rattle.std.proofs.Common.{◌≡◌, ℕ, ◌<◌, ◌≤◌, Bool, true, false, List, [], ◌∷◌, ◌++◌, length, get_or, set, replicate, refl, sym, ap, ◌∙◌, subst, inl, inr}
use Rattle.std.specs.Prelude.{nat_eq, if◌then◌else◌, Some}
use Rattle.std.proofs.lemmas.Bool.{cases_Bool, cases_lt, eqb-true, eqb-false}
use Rattle.std.proofs.lemmas.List.{get_or-replicate, get_or_past, get_or-set_other, length-replicate}
use Rattle.std.proofs.lemmas.Grind.{get_or-set_at}
use Rattle.net_units.specs.Numbers.{channel_number}
use Rattle.net_units.specs.declared.numbers.ChanNo.{ChanNo}
use Rattle.channel_move.specs.declared.shifted.Shifted.{Shifted}
use Rattle.link_steps.specs.declared.replies.Reply.{Reply}
use Rattle.link_steps.specs.declared.replies.Reply.TheVariants as Is
use Rattle.setup_protocol.specs.Laws.{is_accepted}
use Rattle.setup_protocol.specs.Setup.{Outcome}
use Rattle.call_script.specs.Channels.{Told, told_of, told_in, blank, channel_in, AreTold, is_planned}
use Rattle.call_script.specs.Scripts.{Learnt, Settles, PlannedOn, MovedTo, is_that, newest, outcome_in, is_established, last_packets, moved_off, planned_as}
use Rattle.call_script.specs.declared.channels.Channel.{Channel}

-- ---- what one note changes

abbrev pub settled : Outcome → Told → Told
settled outcome told = record told { verdict = Some outcome; established = is_accepted outcome }

abbrev pub planned : ℕ → ℕ → Told → Told
planned gap size told = record told { packets = record { gap = gap; size = size } }

abbrev pub left : Shifted → Told → Told
left by told = record told { established = false; moved = Some by }

abbrev pub changed : Bool → (Told → Told) → Told → Told
changed test change told = if test then change told else told

settled-more : (chan own : ChanNo) (outcome : Outcome) (outcomes : List Learnt) → told_of chan (Settles own outcome ∷ outcomes) ≡ changed (is_that chan own) (settled outcome) (told_of chan outcomes)
unfolding newest outcome_in is_established last_packets moved_off
settled-more chan own outcome outcomes = elim (cases_Bool (is_that chan own)) [ inl is ↦ rw is refl | inr is ↦ rw is refl ]

planned-more : (chan own : ChanNo) (gap size : ℕ) (outcomes : List Learnt) → told_of chan (PlannedOn own gap size ∷ outcomes) ≡ changed (is_that chan own) (planned gap size) (told_of chan outcomes)
unfolding newest outcome_in is_established last_packets moved_off
planned-more chan own gap size outcomes = elim (cases_Bool (is_that chan own)) [ inl is ↦ rw is refl | inr is ↦ rw is refl ]

-- a move that has shifted packets
shifted-more : (chan old new : ChanNo) (told : Shifted) (gap size : ℕ) (outcomes : List Learnt) → nat_eq told.shifted 0 ≡ false
    → told_of chan (MovedTo old new told gap size ∷ outcomes) ≡ changed (is_that chan new) (planned gap size) (changed (is_that chan old) (left told) (told_of chan outcomes))
unfolding newest outcome_in is_established last_packets moved_off
shifted-more chan old new told gap size outcomes some =
    elim (cases_Bool (is_that chan old)) [
      | inl is ↦ elim (cases_Bool (is_that chan new)) [ inl joins ↦ rw is (rw joins (rw some refl)) | inr joins ↦ rw is (rw joins refl) ]
      | inr is ↦ elim (cases_Bool (is_that chan new)) [ inl joins ↦ rw is (rw joins (rw some refl)) | inr joins ↦ rw is (rw joins refl) ]
    ]

-- a move that has shifted none
left-more : (chan old new : ChanNo) (told : Shifted) (gap size : ℕ) (outcomes : List Learnt) → nat_eq told.shifted 0 ≡ true
    → told_of chan (MovedTo old new told gap size ∷ outcomes) ≡ changed (is_that chan old) (left told) (told_of chan outcomes)
unfolding newest outcome_in is_established last_packets moved_off
left-more chan old new told gap size outcomes none =
    elim (cases_Bool (is_that chan old)) [
      | inl is ↦ elim (cases_Bool (is_that chan new)) [ inl joins ↦ rw is (rw joins (rw none refl)) | inr joins ↦ rw is (rw joins refl) ]
      | inr is ↦ elim (cases_Bool (is_that chan new)) [ inl joins ↦ rw is (rw joins (rw none refl)) | inr joins ↦ rw is (rw joins refl) ]
    ]

-- ---- a channel that is replaced

-- each is this
abbrev Say : List Channel → (ChanNo → Told) → Type 0
Say channels told = (chan : ChanNo) → told_in (channel_in channels chan) ≡ told chan

put-says : (channels : List Channel) (own : ChanNo) (channel was : Channel) (change : Told → Told) (told : ChanNo → Told) → channel_number own < length channels → was ≡ channel_in channels own
    → told_in channel ≡ change (told_in was) → Say channels told → Say (set channels (channel_number own) channel) (λ chan. changed (is_that chan own) change (told chan))
put-says channels own channel was change told within is says before chan =
    elim (cases_Bool (is_that chan own)) [
      | inl own_is ↦ (let same : channel_number own ≡ channel_number chan = eqb-true (channel_number own) (channel_number chan) own_is in
          rw own_is (ap told_in (get_or-set_at channels (channel_number own) (channel_number chan) channel blank (sym same) within) ∙ says ∙ ap (λ (a : Channel). change (told_in a)) (is ∙ ap (λ n. get_or channels n blank) same) ∙ ap change (before chan)))
      | inr other ↦ rw other (ap told_in (get_or-set_other channels (channel_number own) (channel_number chan) channel blank (λ same. eqb-false (channel_number own) (channel_number chan) other (sym same))) ∙ before chan)
    ]

-- ---- with one note more

not-zero : (n : ℕ) → (n ≡ 0 → ⊥) → nat_eq n 0 ≡ false
not-zero n some = elim (cases_Bool (nat_eq n 0)) [ inl is ↦ absurd (some (eqb-true n 0 is)) | inr other ↦ other ]

pub with-settled : (channels : List Channel) (own : ChanNo) (outcome : Outcome) (channel was : Channel) (outcomes : List Learnt) → channel_number own < length channels → was ≡ channel_in channels own
    → told_in channel ≡ settled outcome (told_in was) → AreTold channels outcomes → AreTold (set channels (channel_number own) channel) (Settles own outcome ∷ outcomes)
with-settled channels own outcome channel was outcomes within is says before chan =
    put-says channels own channel was (settled outcome) (λ c. told_of c outcomes) within is says before chan ∙ sym (settled-more chan own outcome outcomes)

pub with-planned : (channels : List Channel) (own : ChanNo) (gap size : ℕ) (channel was : Channel) (outcomes : List Learnt) → channel_number own < length channels → was ≡ channel_in channels own
    → told_in channel ≡ planned gap size (told_in was) → AreTold channels outcomes → AreTold (set channels (channel_number own) channel) (PlannedOn own gap size ∷ outcomes)
with-planned channels own gap size channel was outcomes within is says before chan =
    put-says channels own channel was (planned gap size) (λ c. told_of c outcomes) within is says before chan ∙ sym (planned-more chan own gap size outcomes)

pub with-none-shifted : (channels : List Channel) (old new : ChanNo) (told : Shifted) (gap size : ℕ) (channel was : Channel) (outcomes : List Learnt) → channel_number old < length channels → was ≡ channel_in channels old
    → told_in channel ≡ left told (told_in was) → told.shifted ≡ 0 → AreTold channels outcomes
    → AreTold (set channels (channel_number old) channel) (MovedTo old new told gap size ∷ outcomes)
with-none-shifted channels old new told gap size channel was outcomes within is says none before chan =
    put-says channels old channel was (left told) (λ c. told_of c outcomes) within is says before chan ∙ sym (left-more chan old new told gap size outcomes (ap (λ n. nat_eq n 0) none))

pub with-some-shifted : (channels now : List Channel) (old new : ChanNo) (told : Shifted) (gap size : ℕ) (channel was joined joins : Channel) (outcomes : List Learnt) → channel_number old < length channels → was ≡ channel_in channels old
    → told_in channel ≡ left told (told_in was) → now ≡ set channels (channel_number old) channel → channel_number new < length now → joins ≡ channel_in now new → told_in joined ≡ planned gap size (told_in joins)
    → (told.shifted ≡ 0 → ⊥) → AreTold channels outcomes → AreTold (set now (channel_number new) joined) (MovedTo old new told gap size ∷ outcomes)
with-some-shifted channels now old new told gap size channel was joined joins outcomes within is says put inside found tells some before chan =
    put-says now new joined joins (planned gap size) (λ c. changed (is_that c old) (left told) (told_of c outcomes)) inside found tells
    (subst (λ xs. Say xs (λ c. changed (is_that c old) (left told) (told_of c outcomes))) (sym put) (put-says channels old channel was (left told) (λ c. told_of c outcomes) within is says before)) chan
    ∙ sym (shifted-more chan old new told gap size outcomes (not-zero told.shifted some))

-- a reply that plans packets, and another one
pub with-answered : (channels : List Channel) (own : ChanNo) (gap size : ℕ) (reply : Reply) (outcomes : List Learnt) → is_planned reply ≡ true → AreTold channels (PlannedOn own gap size ∷ outcomes) → AreTold channels (planned_as (Some own) gap size (reply ∷ []) ++ outcomes)
with-answered channels own gap size (Is.Planned clock) outcomes is are = are
with-answered channels own gap size _ outcomes is are = cc

pub with-unplanned : (channels : List Channel) (own : ChanNo) (gap size : ℕ) (reply : Reply) (outcomes : List Learnt) → is_planned reply ≡ false → AreTold channels outcomes → AreTold channels (planned_as (Some own) gap size (reply ∷ []) ++ outcomes)
with-unplanned channels own gap size (Is.Planned clock) outcomes is are = cc
with-unplanned channels own gap size (Is.Offer level reach) outcomes is are = are
with-unplanned channels own gap size (Is.Relaxed clock) outcomes is are = are
with-unplanned channels own gap size Is.Denied outcomes is are = are
with-unplanned channels own gap size (Is.Closing count cancelled) outcomes is are = are
with-unplanned channels own gap size (Is.Taken clock eligible) outcomes is are = are
with-unplanned channels own gap size (Is.Ticked clock full sent best_sent best_lost) outcomes is are = are
with-unplanned channels own gap size (Is.Refused refusal) outcomes is are = are

-- ---- where nothing was learnt

blank-everywhere : (n i : ℕ) → get_or (replicate n blank) i blank ≡ blank
blank-everywhere n i =
    elim (cases_lt i n) [
      | inl within ↦ get_or-replicate n i blank blank within
      | inr past ↦ get_or_past (replicate n blank) i blank (subst (λ k. k ≤ i) (sym (length-replicate n blank)) past)
    ]

pub none-told : (n : ℕ) → AreTold (replicate n blank) []
unfolding newest outcome_in is_established last_packets moved_off
none-told n chan = ap told_in (blank-everywhere n (channel_number chan))
