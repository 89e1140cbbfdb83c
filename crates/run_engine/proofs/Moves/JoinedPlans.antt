-- The submit of a move is planned, and the plan of the channel that it joins then has exactly its packets.
use Rattle.std.proofs.Common.{◌++◌, Bool, arith, ◌≡◌, ℕ, true, List, [], ◌∷◌, length, Some, None, refl, sym, ap, ◌∙◌, subst, inl, inr}
use Rattle.run_engine.proofs.Words.{slice_get_within, same_Some, find, nat_le, nat_eq, link_of, held_by, Committed, LinkShape, change_first, submit_reply, submit_to, reply_at, reply_to, Reservation, is_phase, Row, left_at, planned_from, Scan, plan_row, after, is_row_at_hop, clock_of, scan_of, RequestFits, IsPlanned, ChanNo, AllOwned, move_between, Learnt, is_established, cases_Bool, slice_get, link_number, channel_number, Submit, Release, Reply, Link, asked, Request, NetworkFits, Network, Task, Opens, Sends, Closes, Moves, IsNext, IsRun, part_of, Done, plan_in, plan_at}
use Rattle.channel_move.proofs.AskByStage.{HopAsked, MoveAsks, AsksFirst, AsksSubmit, AsksRest, move-asks}
use Rattle.channel_laws.proofs.ChannelRows.{find-passes}
use Rattle.channel_laws.proofs.SendReplies.{found-at-hop}
use Rattle.setup_protocol.proofs.HopHolds.{IsComm}
use Rattle.run_engine.proofs.Channels.HopsAt.{hop-at}
use Rattle.channel_laws.proofs.UnsentPlans.{unsent-left}
use Rattle.run_engine.proofs.Replies.ClosingStands.{AllComm, Unsent, IsUnjoined, Closing, MovingFrom, MovingOnto, UnderWay, Aside, Opening, Sending}
use Rattle.run_engine.proofs.Runs.RunLegal.{part-on}
use Rattle.link_steps.specs.declared.replies.Reply.TheVariants as Is
use Rattle.run_engine.proofs.Replies.ClosingSteps.{IfPlanned}
use Rattle.run_engine.proofs.Replies.RunCloses.{step-under}
use Rattle.run_engine.proofs.Runs.EachRun.{OwnStep}
use Rattle.run_engine.proofs.Tasks.OwnTasks.{OwnerIs}
use Rattle.run_engine.proofs.Replies.Replying.{named-own, own-step, usual-reply, moved-small}

-- a move onto the request: it is established at all hops, and nothing was submitted on it
record IsJoined (network : Network) (new request : Request) (run : List Done) : Type 0 where
  same : new ≡ request
  levels : List ℕ
  comm : AllComm network request levels 0 run
  unsent : Unsent request run

moved-onto : (a b c d : Request) (g s h t : ℕ) → Moves a b g s ≡ Moves c d h t → b ≡ d
moved-onto a b c d g s h t is = cc

move-joins-unsent : (network : Network) (request old new : Request) (gap size : ℕ) (rest : List Task) (run : List Done) (replies : List Reply) (established : Bool) → channel_number new.chan ≡ channel_number request.chan → IsUnjoined replies → UnderWay network request run (Moves old new gap size) rest replies established → IsJoined network new request run
move-joins-unsent network request old new gap size rest run replies established chan early (Aside other left) = absurd (other.1 chan)
move-joins-unsent network request old new gap size rest run replies established chan early (Opening own used none unsent) = absurd (let clash : Moves old new gap size ≡ Opens request = own in cc)
move-joins-unsent network request old new gap size rest run replies established chan early (Sending levels own sends comm) = absurd (let clash : Moves old new gap size ≡ Sends own.hop.link (Some request.chan) own.count own.gap own.size = own.is in cc)
move-joins-unsent network request old new gap size rest run replies established chan early (Closing levels own others comm) = absurd (let clash : Moves old new gap size ≡ Closes request = own in cc)
move-joins-unsent network request old new gap size rest run replies established chan early (MovingFrom levels own closes comm) =
    absurd (own.other (ap (λ r. channel_number r.chan) (sym (moved-onto old new request own.new gap size own.gap own.size own.is)) ∙ chan))
move-joins-unsent network request old new gap size rest run replies established chan early (MovingOnto levels own sends comm unsent) = record {
  same = moved-onto old new own.old request gap size own.gap own.size own.is;
  levels = levels;
  comm = comm;
  unsent = unsent early;
}

-- a submit that is planned appends its packets to the plan
find-changed : (test : Row → Bool) (change : Row → Row) (rows : List Row) (row : Row) → test (change row) ≡ true → find test rows ≡ Some row → find test (change_first test change rows) ≡ Some (change row)
unfolding change_first
find-changed test change [] row holds found = cc
find-changed test change (r ∷ rows) row holds found =
    elim (cases_Bool (test r)) [
      | inl yes_it ↦ (let same : r ≡ row = same_Some r row (rw yes_it at found) in rw yes_it (rw (ap (λ x. test (change x)) same ∙ holds) (ap (λ x. Some (change x)) same)))
      | inr other ↦ (let rest = find-changed test change rows row holds (rw other at found) in rw (other, other) rest)
    ]

plan-planned : (shape : LinkShape) (t count gap size clock : ℕ) (chan : ChanNo) (scan : Scan) (row : Row) → find (is_row_at_hop chan true) scan.rows ≡ Some row → row.plan ≡ [] → plan_in (find (is_row_at_hop chan true) (after shape t scan (Submit chan count gap size) (Is.Planned clock)).rows) ≡ planned_from t gap size count
unfolding after
plan-planned shape t count gap size clock chan scan row found empty =
    ap plan_in (find-changed (is_row_at_hop chan true) (plan_row t count gap size) scan.rows row (find-passes (is_row_at_hop chan true) row scan.rows found) found) ∙ ap (λ plan. plan ++ planned_from t gap size count) empty

planned-clock : (t size : ℕ) (terms : Reservation) (left : ℕ) → IsPlanned (submit_reply t size terms left) → submit_reply t size terms left ≡ Is.Planned t
unfolding submit_reply
planned-clock t size terms left is =
    elim (cases_Bool (is_phase terms.phase Committed)) [
      | inl phase ↦ elim (cases_Bool (nat_eq left 0)) [
        | inl free ↦ elim (cases_Bool (nat_le size terms.contract.smax)) [
          | inl small ↦ rw (phase, free, small) refl
          | inr large ↦ absurd (rw (phase, free, large) at is)
        ]
        | inr busy ↦ absurd (rw (phase, busy) at is)
      ]
      | inr other ↦ absurd (rw other at is)
    ]

-- where the channel is committed at the first hop and nothing was submitted
joined-plans : (network : Network) (past : List Done) (done : Done) (new request : Request) (gap size count : ℕ) → NetworkFits network → RequestFits network.links request → IsRun network past → (next : IsNext network past done) → IsJoined network new request past → HopAsked request.route 0 done.link → done.ask ≡ Submit new.chan count gap size → IsPlanned done.reply
    → (done.reply ≡ Is.Planned (clock_of (part_of (link_number done.link) past))) × (plan_at new.chan next.link.shape (part_of (link_number done.link) (done ∷ past)) ≡ planned_from (clock_of (part_of (link_number done.link) past)) gap size count)
unfolding reply_to reply_at scan_of
joined-plans network past done new request gap size count fits sound run next joined at asked planned =
    let t = clock_of (part_of (link_number done.link) past) in
    let here = hop-at network request 0 sound (slice_get_within request.route 0 at.hop at.stands) in
    let on : link_number done.link ≡ link_number here.hop.link = ap link_number at.at ∙ ap link_of (same_Some at.hop here.hop (sym at.stands ∙ here.stands)) in
    let link : here.link ≡ next.link = same_Some here.link next.link (sym here.linked ∙ ap (slice_get network.links) (sym on) ∙ next.linked) in
    let comm : IsComm Some request joined.levels 0 (held_by request.chan (scan_of next.link.shape (part_of (link_number done.link) past)).rows) = subst (λ n. IsComm Some request joined.levels 0 (held_by request.chan (scan_of next.link.shape (part_of n past)).rows)) (sym on) (subst (λ (l : Link). IsComm Some request joined.levels 0 (held_by request.chan (scan_of l.shape (part_of (link_number here.hop.link) past)).rows)) link (joined.comm 0 here (omega arith))) in
    let found = found-at-hop request.chan true (scan_of next.link.shape (part_of (link_number done.link) past)).rows comm.terms comm.is comm.first in
    let empty = unsent-left next.link.shape request.chan (part_of (link_number done.link) past) found.0 (joined.unsent (link_number done.link)) found.1 in
    let own : done.ask ≡ Submit request.chan count gap size = asked ∙ ap (λ r. Submit r.chan count gap size) joined.same in
    let reply : done.reply ≡ submit_reply (clock_of (part_of (link_number done.link) past)) size found.0.terms (length (left_at (clock_of (part_of (link_number done.link) past)) found.0.plan)) = next.answered ∙ ap (reply_to next.link (part_of (link_number done.link) past)) own ∙ ap (submit_to (clock_of (part_of (link_number done.link) past)) size) found.1 in
    let clock : done.reply ≡ Is.Planned (clock_of (part_of (link_number done.link) past)) = reply ∙ planned-clock (clock_of (part_of (link_number done.link) past)) size found.0.terms _ (subst IsPlanned reply planned) in (
      clock,
      ap (λ r. plan_at r.chan next.link.shape (part_of (link_number done.link) (done ∷ past))) joined.same
          ∙ ap (plan_at request.chan next.link.shape) (part-on (link_number done.link) done past refl)
          ∙ ap (λ a. plan_in (find (is_row_at_hop request.chan true) (after next.link.shape (clock_of (part_of (link_number done.link) past)) (scan_of next.link.shape (part_of (link_number done.link) past)) a done.reply).rows)) own
          ∙ ap (λ r. plan_in (find (is_row_at_hop request.chan true) (after next.link.shape (clock_of (part_of (link_number done.link) past)) (scan_of next.link.shape (part_of (link_number done.link) past)) (Submit request.chan count gap size) r).rows)) clock
          ∙ plan-planned next.link.shape (clock_of (part_of (link_number done.link) past)) count gap size (clock_of (part_of (link_number done.link) past)) request.chan (scan_of next.link.shape (part_of (link_number done.link) past)) found.0 found.1 empty,
    )

-- the submit of a move is planned, and then its channel's plan has exactly its packets
pub moves-plan : (network : Network) (owner : ℕ) (script : List Task) (past : List Done) (done : Done) (fits : NetworkFits network) (all : AllOwned network) (old new : Request) (gap size : ℕ) (rest : List Task) (replies : List Reply) (outcomes : List Learnt) (count : ℕ) → (step : OwnStep network owner script past done (Moves old new gap size) rest replies outcomes) → done.ask ≡ Submit new.chan count gap size
    → (done.reply ≡ Is.Planned (clock_of (part_of (link_number done.link) past))) × (plan_at new.chan step.next.link.shape (part_of (link_number done.link) (done ∷ past)) ≡ planned_from (clock_of (part_of (link_number done.link) past)) gap size count)
moves-plan network owner script past done fits all old new gap size rest replies outcomes count step asked =
    let own = named-own network owner script past done fits all step (channel_number new.chan) (λ off. off.1 refl) in
    let under = step-under network own.own.request own.own.owner script past done (Moves old new gap size) rest replies outcomes fits own.own.sound own.own.full (own-step network owner script past done fits all step (channel_number new.chan) own) in
    let planned : IfPlanned done.ask done.reply = (usual-reply network owner script past done fits all step (channel_number new.chan) own).1 (sym own.own.chan) (moved-small network owner script past done fits all old new gap size rest replies outcomes step own) in
    by own under (subst (λ a. IfPlanned a done.reply) asked planned) (move-asks (move_between old new gap size) replies done.link done.ask step.asks) where
      by : (own : OwnerIs network (channel_number new.chan) owner) → UnderWay network own.own.request past (Moves old new gap size) rest replies (is_established own.own.request.chan outcomes) → IsPlanned done.reply → MoveAsks (move_between old new gap size) replies done.link done.ask
          → (done.reply ≡ Is.Planned (clock_of (part_of (link_number done.link) past))) × (plan_at new.chan step.next.link.shape (part_of (link_number done.link) (done ∷ past)) ≡ planned_from (clock_of (part_of (link_number done.link) past)) gap size count)
      by own under planned (AsksFirst none at is) = absurd (let clash : Release old.chan None ≡ Submit new.chan count gap size = sym is ∙ asked in cc)
      by own under planned (AsksRest told made stage at is) = absurd (let clash : Release old.chan (Some told.kept) ≡ Submit new.chan count gap size = sym is ∙ asked in cc)
      by own under planned (AsksSubmit reply one some at is) =
          (let joined = move-joins-unsent network own.own.request old new gap size rest past replies (is_established own.own.request.chan outcomes) (sym own.own.chan) (inr (reply, one)) under in
          joined-plans network past done new own.own.request gap size count fits own.own.sound step.run step.next joined (subst (λ r. HopAsked r.route 0 done.link) joined.same at) asked planned)
