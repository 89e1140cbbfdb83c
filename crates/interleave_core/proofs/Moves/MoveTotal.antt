-- Once packets of a channel have moved off, those that its source has offered and those that were shifted are all that its submits
-- planned: the first hop's release has cancelled as many as were shifted, and none is left.
use Rattle.std.proofs.Common.{◌≡◌, ℕ, ◌+◌, Bool, true, false, List, [], ◌∷◌, ◌++◌, length, Option, Some, None, refl, sym, ap, ◌∙◌, subst, arith}
use Rattle.run_engine.proofs.Words.{eq-eqb, ne_eqb, same_Some, slice_get, find, nat_eq, if◌then◌else◌, link_number, channel_number, ChanNo, link_of, shifted_in, told_by, first_told, Shifted, Ask, Release, Entry, Reply, LinkShape, MayAnswer, release_to, reply_at, Reservation, is_phase, Row, left_at, clock_of, scan_of, is_row_at_hop, RequestFits, first_count, Request, MayReplyTo, IsOff, held_by, NetworkFits, OwnedFully, Learnt, Standing, standing, moved_off, Network, Task, replies_to, part_of, Done, IsNext, IsRun, terms_at, ChannelAsked, cancelled_with, cancelled_in, AMoveLeavesNoPacketBehind, HopAt}
use Rattle.link_steps.specs.declared.replies.Phase.TheVariants as Ph
use Rattle.link_steps.specs.declared.replies.Reply.TheVariants as Is
use Rattle.interleave_core.proofs.Moves.Emptied.{uncancelled, none-left-closing}
use Rattle.interleave_core.proofs.Channels.FarHolds.{Frozen}
use Rattle.interleave_core.proofs.Moves.MoveLaw.{MoveTold, Was, Now, move-own, no-moves, run-moved, move-told}
use Rattle.run_engine.proofs.Channels.RowsFollow.{held_at_hop, hop-may}
use Rattle.run_engine.proofs.Replies.RunCloses.{others-off, step-kind, fully-asked}
use Rattle.run_engine.proofs.Runs.RunLegal.{part-on, part-admissible, by-part}
use Rattle.interleave_core.proofs.Moves.TotalLaw.{none-lost, release-cancels}
use Rattle.run_engine.proofs.Runs.EachRun.{KeptBySteps, KeptByOthers, each-run, OwnStep}
use Rattle.run_engine.proofs.Tasks.OwnTasks.{own-task}
use Rattle.run_engine.proofs.Replies.OwnerKinds.{NoRelease, IsLeaving, OwnKind, OwnOff, OwnAside, OwnSetup, OwnSend, OwnClose, opens-stay}
use Rattle.run_engine.proofs.Keeping.Lookups.{head-same}

-- ---- what an entry cancels

off-cancelled : (c m : ℕ) (ask : Ask) (reply : Reply) → IsOff c ask → cancelled_with c m ask reply ≡ m
off-cancelled c m (Release chan upstream) (Is.Closing count cancelled) off = rw (ne_eqb (channel_number chan) c off) refl
off-cancelled c m _ _ off = refl

no-release : (c m : ℕ) (ask : Ask) (reply : Reply) → NoRelease ask → cancelled_with c m ask reply ≡ m
no-release c m (Release chan upstream) (Is.Closing count cancelled) none = absurd none
no-release c m _ _ none = refl

-- the release of the channel
pub own-release : (chan : ChanNo) (m : ℕ) (upstream : Option ℕ) (reply : Reply) → cancelled_with (channel_number chan) m (Release chan upstream) reply ≡ m + shifted_in reply
own-release chan m upstream (Is.Closing count cancelled) = rw (eq-eqb (channel_number chan) (channel_number chan) refl) refl
own-release chan m upstream _ = omega arith

-- a release past the first hop cancels none
later-cancelled : (shape : LinkShape) (h : List Entry) (chan : ChanNo) (kept : ℕ) (reply : Reply) (c m : ℕ) → MayReplyTo shape h (Release chan (Some kept)) reply → cancelled_with c m (Release chan (Some kept)) reply ≡ m
unfolding MayAnswer reply_at
later-cancelled shape h chan kept (Is.Closing count cancelled) c m may = by (find (is_row_at_hop chan false) (scan_of shape h).rows) may where
  added : (b : Bool) → cancelled ≡ 0 → (if b then m + cancelled else m) ≡ m
  added true none = omega (arith, none)
  added false none = refl

  by : (found : Option Row) → Is.Closing count cancelled ≡ release_to (clock_of h) (Some kept) found → (if nat_eq (channel_number chan) c then m + cancelled else m) ≡ m
  by None is = cc
  by (Some row) is = added (nat_eq (channel_number chan) c) (release-cancels (Some kept) row.terms (length row.ticks) (length (left_at (clock_of h) row.plan)) count cancelled is)
later-cancelled shape h chan kept _ c m may = refl

-- ---- at the first hop

-- how many packets of the request the first hop's releases have cancelled
abbrev pub cancelled_at : (network : Network) → (request : Request) → HopAt network request 0 → List Done → ℕ
cancelled_at network request first run = cancelled_in (channel_number request.chan) (part_of (link_number first.hop.link) run)

pub entry-cancels : (network : Network) (request : Request) (first : HopAt network request 0) (done : Done) (past : List Done) → link_number done.link ≡ link_number first.hop.link
    → cancelled_at network request first (done ∷ past) ≡ cancelled_with (channel_number request.chan) (cancelled_at network request first past) done.ask done.reply
unfolding cancelled_in
entry-cancels network request first done past on = ap (cancelled_in (channel_number request.chan)) (part-on (link_number first.hop.link) done past on)

entry-same : (network : Network) (request : Request) (first : HopAt network request 0) (done : Done) (past : List Done) → ((m : ℕ) → link_number done.link ≡ link_number first.hop.link → cancelled_with (channel_number request.chan) m done.ask done.reply ≡ m)
    → cancelled_at network request first (done ∷ past) ≡ cancelled_at network request first past
unfolding cancelled_in
entry-same network request first done past same =
    by-part (λ h. cancelled_in (channel_number request.chan) h ≡ cancelled_at network request first past) (link_number first.hop.link) done past (λ on. same (cancelled_at network request first past) on) (λ off. refl)

-- two hops at one place
same-place : (network : Network) (request : Request) (k : ℕ) (first : HopAt network request 0) (here : HopAt network request k) → k ≡ 0 → link_number first.hop.link ≡ link_number here.hop.link
same-place network request k first here zeroth = ap link_of (same_Some first.hop here.hop (sym first.stands ∙ ap (slice_get request.route) (sym zeroth) ∙ here.stands))

-- ---- one reply to the owner

pub record ShiftedAt (request : Request) (n : ℕ) (at : Standing) : Type 0 where
  pub told : (told : Shifted) → moved_off request.chan at.outcomes ≡ Some told → n ≡ told.shifted
  pub way : (task : Task) (rest : List Task) (reply : Reply) (replies : List Reply) → at.tasks ≡ task ∷ rest → IsLeaving request task → at.replies ≡ reply ∷ replies → n ≡ shifted_in reply

module _ (network : Network) (request : Request) (first : HopAt network request 0) (done : Done) (past : List Done) (task : Task) where
  -- the first release of a task that leaves the channel
  pub first-cancels : (replies : List Reply) → NetworkFits network → ChannelAsked request past → IsRun network past → IsNext network past done → IsLeaving request task → replies ≡ [] → OwnKind network request done past task replies
      → cancelled_at network request first (done ∷ past) ≡ shifted_in done.reply
  first-cancels replies fits asked run next leaving none (OwnOff own off) = absurd (own leaving)
  first-cancels replies fits asked run next leaving none (OwnAside reply one off) = absurd (let clash : [] ≡ reply ∷ [] = sym none ∙ one in cc)
  first-cancels replies fits asked run next leaving none (OwnSetup later made own rows setup) = absurd (opens-stay request task own leaving)
  first-cancels replies fits asked run next leaving none (OwnSend count gap size own is) = absurd (own leaving)
  first-cancels replies fits asked run next leaving none (OwnClose levels own k here on is zeroth comm) =
      let place = same-place network request k first here (zeroth none) in
      let before : cancelled_in (channel_number request.chan) (part_of (link_number here.hop.link) past) ≡ 0 =
      uncancelled here.link.shape (terms_at request 0) request.chan (part_of (link_number here.hop.link) past) comm.terms (part-admissible network past (link_number here.hop.link) here.link fits run here.linked) (asked.once (link_number here.hop.link)) comm.is (ap (λ p. is_phase p Ph.Closing) comm.phase) in
      let moved : cancelled_at network request first past ≡ 0 = ap (λ n. cancelled_in (channel_number request.chan) (part_of n past)) place ∙ before in
      let now : cancelled_at network request first (done ∷ past) ≡ cancelled_at network request first past + shifted_in done.reply =
      entry-cancels network request first done past (on ∙ sym place) ∙ ap (λ a. cancelled_with (channel_number request.chan) (cancelled_at network request first past) a done.reply) is ∙ own-release request.chan (cancelled_at network request first past) (first_count replies) done.reply in
      omega (arith, moved, now)

  -- any other entry of the owner cancels none
  later-cancels : (replies : List Reply) → NetworkFits network → IsRun network past → (next : IsNext network past done) → (IsLeaving request task → replies ≡ [] → ⊥) → OwnKind network request done past task replies
      → cancelled_at network request first (done ∷ past) ≡ cancelled_at network request first past
  later-cancels replies fits run next later (OwnOff own off) = entry-same network request first done past (λ m on. off-cancelled (channel_number request.chan) m done.ask done.reply off)
  later-cancels replies fits run next later (OwnAside reply one off) = entry-same network request first done past (λ m on. off-cancelled (channel_number request.chan) m done.ask done.reply off)
  later-cancels replies fits run next later (OwnSetup more made own rows setup) = entry-same network request first done past (λ m on. no-release (channel_number request.chan) m done.ask done.reply setup)
  later-cancels replies fits run next later (OwnSend count gap size own is) = entry-same network request first done past (λ m on. no-release (channel_number request.chan) m done.ask done.reply (subst NoRelease (sym is) tt))
  later-cancels [] fits run next later (OwnClose levels own k here on is zeroth comm) = absurd (later own refl)
  later-cancels (reply ∷ replies) fits run next later (OwnClose levels own k here on is zeroth comm) =
      let may = subst (λ a. MayReplyTo here.link.shape (part_of (link_number here.hop.link) past) a done.reply) is (hop-may network request k here done past fits run next on) in
      entry-same network request first done past (λ m at. ap (λ a. cancelled_with (channel_number request.chan) m a done.reply) is ∙ told (first_count (reply ∷ replies)) m refl may) where
        told : (count : Option ℕ) (m : ℕ) → count ≡ first_count (reply ∷ replies) → MayReplyTo here.link.shape (part_of (link_number here.hop.link) past) (Release request.chan count) done.reply → cancelled_with (channel_number request.chan) m (Release request.chan count) done.reply ≡ m
        told None m some may = cc
        told (Some kept) m some may = later-cancelled here.link.shape (part_of (link_number here.hop.link) past) request.chan kept done.reply (channel_number request.chan) m may

  -- what the first reply of a task that leaves tells, with one reply more
  way-now : (rest : List Task) (replies : List Reply) (outcomes : List Learnt) → NetworkFits network → ChannelAsked request past → IsRun network past → (next : IsNext network past done) → OwnKind network request done past task replies
      → ShiftedAt request (cancelled_at network request first past) (record { tasks = task ∷ rest; replies = replies; outcomes = outcomes }) → IsLeaving request task → (reply : Reply) (more : List Reply) → replies ++ done.reply ∷ [] ≡ reply ∷ more → cancelled_at network request first (done ∷ past) ≡ shifted_in reply
  way-now rest [] outcomes fits asked run next kind was leaving reply more same =
      first-cancels [] fits asked run next leaving refl kind ∙ ap shifted_in (head-same done.reply [] reply more same)
  way-now rest (one ∷ replies) outcomes fits asked run next kind was leaving reply more same =
      later-cancels (one ∷ replies) fits run next (λ own none. (let clash : one ∷ replies ≡ [] = none in cc)) kind
      ∙ was.way task rest one replies refl leaving refl ∙ ap shifted_in (head-same one (replies ++ done.reply ∷ []) reply more same)

-- what is held of the channel on a link
abbrev held_on : ChanNo → LinkShape → ℕ → List Done → Option Reservation
held_on chan shape n run = held_by chan (scan_of shape (part_of n run)).rows

module _ (network : Network) (request : Request) (first : HopAt network request 0) (done : Done) (past : List Done) (task : Task) (replies : List Reply) (kept : ℕ) where
  -- a task that leaves the channel doesn't begin once another has left it
  pub begins-not : Frozen network request first past kept → IsLeaving request task → replies ≡ [] → OwnKind network request done past task replies → ⊥
  begins-not frozen leaving none (OwnOff own off) = own leaving
  begins-not frozen leaving none (OwnAside reply one off) = (let clash : [] ≡ reply ∷ [] = sym none ∙ one in cc)
  begins-not frozen leaving none (OwnSetup later made own rows setup) = opens-stay request task own leaving
  begins-not frozen leaving none (OwnSend count gap size own is) = own leaving
  begins-not frozen leaving none (OwnClose levels own k here on is zeroth comm) =
      let place = same-place network request k first here (zeroth none) in
      let link : first.link ≡ here.link = same_Some first.link here.link (sym first.linked ∙ ap (slice_get network.links) place ∙ here.linked) in
      let held : held_at_hop network request 0 first past ≡ Some comm.terms = ap (λ l. held_on request.chan l.shape (link_number first.hop.link) past) link ∙ ap (λ n. held_on request.chan here.link.shape n past) place ∙ comm.is in
      let clash : Ph.Closing ≡ Ph.Committed = sym (frozen.closes comm.terms held) ∙ comm.phase in
      cc

  -- so nothing more is cancelled
  told-same : NetworkFits network → IsRun network past → (next : IsNext network past done) → Frozen network request first past kept → OwnKind network request done past task replies
      → cancelled_at network request first (done ∷ past) ≡ cancelled_at network request first past
  told-same fits run next frozen kind =
      later-cancels network request first done past task replies fits run next (λ leaving none. begins-not frozen leaving none kind) kind

-- the first reply of a move tells what it has come to
pub first-told-by : (replies : List Reply) (told : Shifted) → first_told replies ≡ Some told → (reply : Reply) × (more : List Reply) × (replies ≡ reply ∷ more) × (told_by reply ≡ told)
first-told-by [] told is = cc
first-told-by (reply ∷ replies) told is = (reply, replies, refl, same_Some (told_by reply) told is)

module _ (network : Network) (request : Request) (owner : ℕ) (first : HopAt network request 0) (fits : NetworkFits network) (sound : RequestFits network.links request) (full : OwnedFully network request owner) where
  asked : (run : List Done) → IsRun network run → ChannelAsked request run
  asked run is = fully-asked network request owner fits sound full run is

  abbrev ShiftedBy : List Done → Standing → Type 0
  ShiftedBy run at = ShiftedAt request (cancelled_at network request first run) at

  -- what is told of moves from the channel is what was cancelled
  abbrev TellsShifted : List Done → List Learnt → Type 0
  TellsShifted run outcomes = (told : Shifted) → moved_off request.chan outcomes ≡ Some told → cancelled_at network request first run ≡ told.shifted

  -- what the notes tell, with one reply more
  own-told : (script : List Task) (past : List Done) (done : Done) (task : Task) (rest : List Task) (replies : List Reply) (outcomes : List Learnt) → OwnStep network owner script past done task rest replies outcomes → ShiftedBy past (record { tasks = task ∷ rest; replies = replies; outcomes = outcomes })
      → (told : Shifted) → MoveTold request task (replies ++ done.reply ∷ []) outcomes told → cancelled_at network request first (done ∷ past) ≡ told.shifted
  own-told script past done task rest replies outcomes step was told (Was before) =
      let kind = step-kind network request owner script past done task rest replies outcomes fits sound full step in
      let frozen = run-moved network request owner first fits sound full past script step.run step.found told (ap (λ (s : Standing). moved_off request.chan s.outcomes) step.stands ∙ before) in
      told-same network request first done past task replies told.kept fits step.run step.next frozen kind ∙ was.told told before
  own-told script past done task rest replies outcomes step was told (Now old new gap size same chan tells) =
      let kind = step-kind network request owner script past done task rest replies outcomes fits sound full step in
      let leaving = move-own request old new gap size task (own-task network request owner script past done task rest replies outcomes full step) same chan in
      let by = first-told-by (replies ++ done.reply ∷ []) told tells in
      way-now network request first done past task rest replies outcomes fits (asked past step.run) step.run step.next kind was leaving by.0 by.1 by.2 ∙ ap (λ (t : Shifted). t.shifted) by.3

  off-shifted : KeptByOthers network owner ShiftedBy
  off-shifted past done at run next other was =
      let off = others-off network request owner past done full next other in
      subst (λ n. ShiftedAt request n at) (sym (entry-same network request first done past (λ m on. off-cancelled (channel_number request.chan) m done.ask done.reply off))) was

  none-shifted : TellsShifted [] []
  none-shifted told moved = absurd (no-moves request told moved)

  shifted-keeps : (script : List Task) → KeptBySteps network owner script (λ run outcomes tasks. TellsShifted run outcomes) ShiftedBy
  shifted-keeps script = record {
    first = none-shifted;
    begins = λ run outcomes tasks was. record { told = was; way = λ task rest reply replies same leaving made. (let clash : [] ≡ reply ∷ replies = made in cc) };
    off = off-shifted;
    goes = λ past done task rest replies outcomes to step more was. record {
      told = λ told moved. own-told script past done task rest replies outcomes step was told (Was moved);
      way = λ own others reply later same leaving made. way-now network request first done past task rest replies outcomes fits (asked past step.run) step.run step.next (step-kind network request owner script past done task rest replies outcomes fits sound full step) was (subst (IsLeaving request) (sym (head-same task rest own others same)) leaving) reply later made;
    };
    over = λ past done task rest replies outcomes step none was told moved. own-told script past done task rest replies outcomes step was told (move-told request task (replies ++ done.reply ∷ []) outcomes told moved);
  }

  pub run-shifted : (run : List Done) → IsRun network run → (script : List Task) → slice_get network.scripts owner ≡ Some script → ShiftedAt request (cancelled_at network request first run) (standing script (replies_to owner run))
  run-shifted run is script found = each-run network owner script found (λ past outcomes tasks. TellsShifted past outcomes) ShiftedBy (shifted-keeps script) run is

pub none-lost-in-moves : AMoveLeavesNoPacketBehind
none-lost-in-moves network request owner first run tasks told fits sound full is found moved =
    let legal = part-admissible network run (link_number first.hop.link) first.link fits is first.linked in
    let frozen = run-moved network request owner first fits sound full run tasks is found told moved in
    let all = none-lost first.link.shape (channel_number request.chan) (part_of (link_number first.hop.link) run) legal in
    let left = none-left-closing first.link.shape request.chan (part_of (link_number first.hop.link) run) legal frozen.closes in
    let cancelled = (run-shifted network request owner first fits sound full run is tasks found).told told moved in
    omega (arith, all, left, cancelled)
