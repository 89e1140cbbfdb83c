-- One reply to the owner of a request: where it stands after it, be it to a task of another channel, a submit, a release or a move.
use Rattle.channel_move.proofs.AskByStage.{HopAsked, MoveAsks, AsksFirst, AsksSubmit, AsksRest, move-asks, rest-length}
use Rattle.link_steps.proofs.SearchAndFilter.{Each-find}
use Rattle.channel_laws.proofs.SizeLaw.{NamesContract, legal-sizes}
use Rattle.channel_laws.proofs.SendReplies.{found-at-hop, submit-committed, release-committed}
use Rattle.channel_laws.proofs.UnsentPlans.{unsent-left, row-at-hop}
use Rattle.channel_laws.proofs.UnsentSubmits.{unplanned-submit}
use Rattle.run_engine.proofs.Runs.RunLegal.{part-admissible}
use Rattle.std.proofs.Common.{◌≡◌, ◌≢◌, suc, ℕ, ◌+◌, ◌≤◌, Bool, true, false, List, [], ◌∷◌, ◌++◌, length, Option, Some, None, refl, sym, ap, ◌∙◌, subst, inl, inr, arith}
use Rattle.run_engine.proofs.Words.{terms_at, nat_eq, shifted_in, told_by, first_told, stage_after, joining_after, Releasing, Shifted, is_row_at_hop, names_first_hop, clock_of, scan_of, UsedOnce, ClosesOnce, PacketsOff, TaskOff, SendsOnce, IsMoveFrom, IsMoveOnto, move_between, Learnt, is_established, IsPlanned, cases_Bool, ne_eqb, length_push, same_Some, slice_get_within, slice_get, link_number, channel_number, link_of, Hop, Ask, Submit, Release, Reply, Each, reply_at, RequestFits, first_count, Request, Done, NetworkFits, Task, Opens, Sends, Closes, Moves, Network, part_of, IsNext, IsSendReply, IsReleased, IsOff, progress_of, HopAt}
use Rattle.run_engine.proofs.Channels.HopsAt.{hop-at}
use Rattle.setup_protocol.proofs.HopHolds.{IsComm}
use Rattle.run_engine.proofs.Channels.RowsFollow.{held-elsewhere, hop-reply, other-hop, held_at_hop}
use Rattle.setup_protocol.proofs.HopAsks.{asked-at, first-named}
use Rattle.run_engine.proofs.Tasks.SingleAskTask.{once-asked}
use Rattle.run_engine.proofs.Replies.ClosingStands.{AllComm, Unsent, left_in, left_by, IsUnjoined, Closing, MovingFrom, MovingOnto, comm-later, unsent-later, send-later, Aside, Opening, Sending, UnderWay, between-later, setup-unsent, unsent-more, BetweenTasks}
use Rattle.run_engine.proofs.Tasks.TaskAsks.{task-off}
use Rattle.run_engine.proofs.Replies.OwnerKinds.{OwnKind, off-leaving, stage-told, onto-stays, send-stays, stage-some, OwnSend, OwnSetup, OwnAside, OwnOff, OwnClose, setup-keeps}
use Rattle.run_engine.proofs.Runs.EachRun.{OwnStep}
use Rattle.run_engine.proofs.Replies.RunGoes.{OwnedOnce, owned-asked, step-setup}

-- ---- one reply to the owner

-- where the ask is a release, and where it is a submit
abbrev pub IfReleased : Ask → Reply → Type 0
IfReleased (Release chan upstream) reply = IsReleased reply
IfReleased _ reply = Unit {0}

abbrev pub IfPlanned : Ask → Reply → Type 0
IfPlanned (Submit chan count gap size) reply = IsPlanned reply
IfPlanned _ reply = Unit {0}

-- the replies of sends, closes and moves are theirs; the submit of a move is planned where its packets are no larger than the
-- other channel's contract has them
abbrev pub IsUsualReply : Request → Task → Ask → Reply → Type 0
IsUsualReply request (Sends link chan count gap size) ask reply = (PacketsOff (channel_number request.chan) chan → ⊥) → IsSendReply reply
IsUsualReply request (Closes r) ask reply = channel_number r.chan ≡ channel_number request.chan → IsReleased reply
IsUsualReply request (Moves old new gap size) ask reply = (channel_number old.chan ≡ channel_number request.chan → IfReleased ask reply) × (channel_number new.chan ≡ channel_number request.chan → size ≤ request.contract.smax → IfPlanned ask reply)
IsUsualReply request _ ask reply = Unit {0}

off-usual : (request : Request) (task : Task) (ask : Ask) (reply : Reply) → TaskOff (channel_number request.chan) task → IsUsualReply request task ask reply
off-usual request (Sends link chan count gap size) ask reply off = λ named. absurd (named off)
off-usual request (Closes r) ask reply off = λ same. absurd (off same)
off-usual request (Moves old new gap size) ask reply off = (λ same. absurd (off.0 same), λ same. absurd (off.1 same))
off-usual request _ ask reply off = tt

pub record OneReply (network : Network) (request : Request) (done : Done) (past : List Done) (task : Task) (rest : List Task) (replies : List Reply) (established : Bool) : Type 0 where
  pub usual : IsUsualReply request task done.ask done.reply
  pub kind : OwnKind network request done past task replies
  pub later : UnderWay network request (done ∷ past) task rest (replies ++ done.reply ∷ []) established

-- ---- how many hops a move has left

rest-more : (replies : List Reply) (reply : Reply) (told : Shifted) (made : ℕ) → stage_after replies ≡ Releasing told made → stage_after (replies ++ reply ∷ []) ≡ Releasing told (suc made)
rest-more [] reply told made stage = cc
rest-more (first ∷ replies) reply told made stage =
    elim (cases_Bool (nat_eq (shifted_in first) 0)) [
      | inl none ↦ (let was : Releasing (told_by first) (suc (length replies)) ≡ Releasing told made = rw none at stage in rw none (ap (λ n. Releasing (told_by first) (suc n)) (length_push replies reply ∙ one-more (length replies)) ∙ grown (told_by first) told (suc (length replies)) made was))
      | inr some ↦ later replies (rw some at stage) some
    ] where
      one-more : (n : ℕ) → n + 1 ≡ suc n
      one-more n = omega arith

      grown : (a b : Shifted) (n m : ℕ) → Releasing a n ≡ Releasing b m → Releasing a (suc n) ≡ Releasing b (suc m)
      grown a b n m same = cc

      later : (rest : List Reply) → joining_after (told_by first) rest ≡ Releasing told made → nat_eq (shifted_in first) 0 ≡ false → stage_after (first ∷ (rest ++ reply ∷ [])) ≡ Releasing told (suc made)
      later [] is some = cc
      later (planned ∷ rest) is some = rw some (ap (λ n. Releasing (told_by first) (suc n)) (length_push rest reply ∙ one-more (length rest)) ∙ grown (told_by first) told (suc (length rest)) made is)

first-left : (reply : Reply) → left_by (reply ∷ []) ≡ 1
first-left reply =
    elim (cases_Bool (nat_eq (shifted_in reply) 0)) [
      | inl none ↦ rw none refl
      | inr some ↦ rw some refl
    ]

joined-left : (first reply : Reply) → nat_eq (shifted_in first) 0 ≡ false → left_by (first ∷ reply ∷ []) ≡ 1
joined-left first reply some = rw some refl

pub told-first : (replies : List Reply) (reply : Reply) → (told : Shifted) × (first_told (replies ++ reply ∷ []) ≡ Some told)
told-first [] reply = (told_by reply, refl)
told-first (first ∷ replies) reply = (told_by first, refl)

-- with one reply more it was unjoined before
unjoined-before : (replies : List Reply) (reply : Reply) → IsUnjoined (replies ++ reply ∷ []) → replies ≡ []
unjoined-before [] reply early = refl
unjoined-before (first ∷ []) reply (inl none) = cc
unjoined-before (first ∷ []) reply (inr one) = (let same : first ∷ reply ∷ [] ≡ one.0 ∷ [] = one.1 in cc)
unjoined-before (first ∷ second ∷ replies) reply (inl none) = cc
unjoined-before (first ∷ second ∷ replies) reply (inr one) = (let same : first ∷ second ∷ (replies ++ reply ∷ []) ≡ one.0 ∷ [] = one.1 in cc)

-- ---- an ask of a hop of the route

-- the hop that is asked, and its reply
pub record HopReplies (network : Network) (request : Request) (i : ℕ) (past : List Done) (done : Done) : Type 0 where
  pub here : HopAt network request i
  pub on : link_number done.link ≡ link_number here.hop.link
  pub reply : done.reply ≡ reply_at here.link (clock_of (part_of (link_number here.hop.link) past)) (scan_of here.link.shape (part_of (link_number here.hop.link) past)) done.ask

pub hop-replies : (network : Network) (request : Request) (i : ℕ) (past : List Done) (done : Done) → RequestFits network.links request → IsNext network past done → HopAsked request.route i done.link → HopReplies network request i past done
hop-replies network request i past done sound next own =
    let here = hop-at network request i sound (slice_get_within request.route i own.hop own.stands) in
    let on : link_number done.link ≡ link_number here.hop.link = ap link_number own.at ∙ ap link_of (same_Some own.hop here.hop (sym own.stands ∙ here.stands)) in
    record { here = here; on = on; reply = hop-reply network request i here done past next on }

-- a release where the channel is held is answered with a closing, and the hops behind hold it still
record IsLeft (network : Network) (request : Request) (levels : List ℕ) (i : ℕ) (past : List Done) (done : Done) : Type 0 where
  here : HopAt network request i
  on : link_number done.link ≡ link_number here.hop.link
  held : IsComm Some request levels i (held_at_hop network request i here past)
  reply : IsReleased done.reply
  later : AllComm network request levels (suc i) (done ∷ past)

is-left : (network : Network) (request : Request) (levels : List ℕ) (i : ℕ) (upstream : Option ℕ) (past : List Done) (done : Done) → RequestFits network.links request → IsNext network past done → AllComm network request levels i past → HopAsked request.route i done.link → done.ask ≡ Release request.chan upstream → nat_eq i 0 ≡ names_first_hop upstream → IsLeft network request levels i past done
unfolding reply_at
is-left network request levels i upstream past done sound next comm own is named =
    let at = hop-replies network request i past done sound next own in
    let t = clock_of (part_of (link_number at.here.hop.link) past) in
    let held = comm i at.here (omega arith) in
    let reply = at.reply ∙ ap (reply_at at.here.link t (scan_of at.here.link.shape (part_of (link_number at.here.hop.link) past))) is in
    record {
      here = at.here;
      on = at.on;
      held = held;
      reply = subst IsReleased (sym reply) (release-committed t upstream request.chan _ held.terms held.is (held.first ∙ named) held.phase);
      later = λ k there from. subst (IsComm Some request levels k) (sym (held-elsewhere network request k there done past (other-hop network request k i there at.here done sound.route at.on (λ e. omega (arith, e, from))))) (comm k there (omega (arith, from)));
    }

-- ---- one reply, by the task under way

module _ (network : Network) (request : Request) (owner : ℕ) (script : List Task) (past : List Done) (done : Done) (fits : NetworkFits network) (sound : RequestFits network.links request) (once : OwnedOnce network request owner) where
  abbrev pub Goes : Task → List Task → List Reply → List Learnt → Type 0
  Goes task rest replies outcomes = OwnStep network owner script past done task rest replies outcomes → OneReply network request done past task rest replies (is_established request.chan outcomes)

  aside : (task : Task) (rest : List Task) (replies : List Reply) (outcomes : List Learnt) → TaskOff (channel_number request.chan) task → BetweenTasks network request past (is_established request.chan outcomes) rest → Goes task rest replies outcomes
  aside task rest replies outcomes other left step =
      let off = task-off (channel_number request.chan) task replies done.link done.ask other step.asks in
      record {
        usual = off-usual request task done.ask done.reply other;
        kind = OwnOff (off-leaving request task other) off;
        later = Aside other (between-later network request done past fits step.run off (is_established request.chan outcomes) rest left);
      }

  opening : (rest : List Task) (replies : List Reply) (outcomes : List Learnt) → UsedOnce request rest → is_established request.chan outcomes ≡ false → Unsent request past → Goes (Opens request) rest replies outcomes
  opening rest replies outcomes used none unsent step = record {
    usual = tt;
    kind = OwnSetup (replies ++ done.reply ∷ []) refl refl (step-setup network request owner fits sound once script past done rest replies outcomes step).stands (setup-keeps request (progress_of request replies) done.link done.ask step.asks);
    later = Opening refl used none (unsent-more request done past (setup-unsent request replies done.link done.ask (channel_number request.chan) step.asks) unsent);
  }

  sending : (levels : List ℕ) (hop : Hop) (count gap size : ℕ) (rest : List Task) (replies : List Reply) (outcomes : List Learnt) → slice_get request.route 0 ≡ Some hop → SendsOnce request rest → AllComm network request levels 0 past → Goes (Sends hop.link (Some request.chan) count gap size) rest replies outcomes
  unfolding reply_at
  sending levels hop count gap size rest replies outcomes stands sends comm step =
      let once' = once-asked hop.link (Submit request.chan count gap size) replies done.link done.ask step.asks in
      let asked : done.ask ≡ Submit request.chan count gap size = sym once'.is in
      let at = hop-replies network request 0 past done sound step.next (record { hop = hop; stands = stands; at = sym once'.at }) in
      let t = clock_of (part_of (link_number at.here.hop.link) past) in
      let held = comm 0 at.here (omega arith) in
      let reply = at.reply ∙ ap (reply_at at.here.link t (scan_of at.here.link.shape (part_of (link_number at.here.hop.link) past))) asked in
      record {
        usual = λ named. subst IsSendReply (sym reply) (submit-committed t size request.chan _ held.terms held.is held.first held.phase);
        kind = OwnSend count gap size (send-stays request hop.link request.chan count gap size) asked;
        later = Sending levels (record { hop = hop; count = count; gap = gap; size = size; stands = stands; is = refl }) sends (send-later network request done past count gap size levels asked comm);
      }

  closing : (levels : List ℕ) (rest : List Task) (replies : List Reply) (outcomes : List Learnt) → Each (TaskOff (channel_number request.chan)) rest → AllComm network request levels (length replies) past → Goes (Closes request) rest replies outcomes
  closing levels rest replies outcomes others comm step =
      let own = asked-at request.route (length replies) (λ hop. Release request.chan (first_count replies)) done.link done.ask step.asks in
      let left = is-left network request levels (length replies) (first_count replies) past done sound step.next comm (record { hop = own.hop; stands = own.stands; at = own.at }) own.is (first-named replies) in
      let count : suc (length replies) ≡ length (replies ++ done.reply ∷ []) = omega (arith, length_push replies done.reply) in
      record {
        usual = λ same. left.reply;
        kind = OwnClose levels refl (length replies) left.here left.on own.is (λ none. ap length none) left.held;
        later = Closing levels refl others (subst (λ n. AllComm network request levels n (done ∷ past)) count left.later);
      }

  -- a move of the request's packets to another
  moving-from : (levels : List ℕ) (new : Request) (gap size : ℕ) (rest : List Task) (replies : List Reply) (outcomes : List Learnt) → channel_number new.chan ≢ channel_number request.chan → ClosesOnce request rest → AllComm network request levels (left_by replies) past → Goes (Moves request new gap size) rest replies outcomes
  moving-from levels new gap size rest replies outcomes other closes comm step = by (move-asks (move_between request new gap size) replies done.link done.ask step.asks) where
    own : IsMoveFrom request (Moves request new gap size)
    own = record { new = new; gap = gap; size = size; is = refl; other = other }

    released : (i : ℕ) (upstream : Option ℕ) → nat_eq i 0 ≡ names_first_hop upstream → first_count replies ≡ upstream → (replies ≡ [] → i ≡ 0) → left_by replies ≡ i → left_by (replies ++ done.reply ∷ []) ≡ suc i → HopAsked request.route i done.link → done.ask ≡ Release request.chan upstream → OneReply network request done past (Moves request new gap size) rest replies (is_established request.chan outcomes)
    released i upstream named count zeroth was now at is =
        let left = is-left network request levels i upstream past done sound step.next (subst (λ n. AllComm network request levels n past) was comm) at is named in
        record {
          usual = (λ same. subst (λ a. IfReleased a done.reply) (sym is) left.reply, λ same. absurd (other same));
          kind = OwnClose levels refl i left.here left.on (is ∙ ap (λ c. Release request.chan c) (sym count)) zeroth left.held;
          later = MovingFrom levels own closes (subst (λ n. AllComm network request levels n (done ∷ past)) (sym now) left.later);
        }

    by : MoveAsks (move_between request new gap size) replies done.link done.ask → OneReply network request done past (Moves request new gap size) rest replies (is_established request.chan outcomes)
    by (AsksFirst none at is) = released 0 None refl (ap first_count none) (λ _. refl) (ap left_by none) (ap (λ rs. left_by (rs ++ done.reply ∷ [])) none ∙ first-left done.reply) at is
    by (AsksRest told made stage at is) =
        (let some = rest-length replies told made stage in
        released made (Some told.kept) (ne_eqb made 0 (λ zero'. omega (arith, zero', some.1))) (stage-told replies told made stage) (λ none. absurd (stage-some told made (sym (ap stage_after none) ∙ stage))) (ap left_in stage) (ap left_in (rest-more replies done.reply told made stage)) at is)
    by (AsksSubmit first one some at is) =
        (let off : IsOff (channel_number request.chan) done.ask = subst (IsOff (channel_number request.chan)) (sym is) other in
        let same : left_by replies ≡ left_by (replies ++ done.reply ∷ []) = ap left_by one ∙ first-left first ∙ sym (ap (λ rs. left_by (rs ++ done.reply ∷ [])) one ∙ joined-left first done.reply some) in
        record {
          usual = (λ same'. subst (λ a. IfReleased a done.reply) (sym is) tt, λ same'. absurd (other same'));
          kind = OwnAside first one off;
          later = MovingFrom levels own closes (subst (λ n. AllComm network request levels n (done ∷ past)) same (comm-later network request levels (left_by replies) done past fits step.run off comm));
        })

  -- a move of another's packets to the request
  moving-onto : (levels : List ℕ) (old : Request) (gap size : ℕ) (rest : List Task) (replies : List Reply) (outcomes : List Learnt) → channel_number old.chan ≢ channel_number request.chan → SendsOnce request rest → AllComm network request levels 0 past → (IsUnjoined replies → Unsent request past) → Goes (Moves old request gap size) rest replies outcomes
  unfolding reply_at
  moving-onto levels old gap size rest replies outcomes other sends comm unsent step = by (move-asks (move_between old request gap size) replies done.link done.ask step.asks) where
    own : IsMoveOnto request (Moves old request gap size)
    own = record { old = old; gap = gap; size = size; is = refl; other = other }

    released : (upstream : Option ℕ) → done.ask ≡ Release old.chan upstream → OneReply network request done past (Moves old request gap size) rest replies (is_established request.chan outcomes)
    released upstream is =
        let off : IsOff (channel_number request.chan) done.ask = subst (IsOff (channel_number request.chan)) (sym is) other in
        record {
          usual = (λ same. absurd (other same), λ same small. subst (λ a. IfPlanned a done.reply) (sym is) tt);
          kind = OwnOff (onto-stays request old gap size other) off;
          later = MovingOnto levels own sends (comm-later network request levels 0 done past fits step.run off comm) (λ early. unsent-later request done past off (unsent (inl (unjoined-before replies done.reply early))));
        }

    -- nothing was submitted on it, so the submit is planned
    submitted : (first : Reply) → replies ≡ first ∷ [] → HopAsked request.route 0 done.link → done.ask ≡ Submit request.chan (shifted_in first) gap size → size ≤ request.contract.smax → IsPlanned done.reply
    submitted first one asked is small =
        let at = hop-replies network request 0 past done sound step.next asked in
        let h = part_of (link_number at.here.hop.link) past in
        let rows = (scan_of at.here.link.shape h).rows in
        let held = comm 0 at.here (omega arith) in
        let reply = at.reply ∙ ap (reply_at at.here.link (clock_of h) (scan_of at.here.link.shape h)) is in
        let sizes = (legal-sizes at.here.link.shape (terms_at request 0) (channel_number request.chan) h (part-admissible network past (link_number at.here.hop.link) at.here.link fits step.run at.here.linked) ((owned-asked network request owner fits sound once past step.run).names 0 at.here.hop at.here.stands)).rows in
        let row = found-at-hop request.chan true rows held.terms held.is held.first in
        let smax : held.terms.contract.smax ≡ request.contract.smax = ap (λ x. x.contract.smax) (sym row.2) ∙ ap (λ k. k.smax) (Each-find (NamesContract (terms_at request 0) (channel_number request.chan)) (is_row_at_hop request.chan true) rows row.0 sizes row.1 (row-at-hop request.chan row.0 _ row.1)) in
        subst IsPlanned (sym reply) (unplanned-submit (clock_of h) size request.chan rows held.terms held.is held.first held.phase (λ row' found. unsent-left at.here.link.shape request.chan h row' (unsent (inr (first, one)) (link_number at.here.hop.link)) found) (omega (arith, small, smax)))

    by : MoveAsks (move_between old request gap size) replies done.link done.ask → OneReply network request done past (Moves old request gap size) rest replies (is_established request.chan outcomes)
    by (AsksFirst none at is) = released None is
    by (AsksRest told made stage at is) = released (Some told.kept) is
    by (AsksSubmit first one some at is) = record {
      usual = (λ same. absurd (other same), λ same small. subst (λ a. IfPlanned a done.reply) (sym is) (submitted first one at is small));
      kind = OwnSend (shifted_in first) gap size (onto-stays request old gap size other) is;
      later = MovingOnto levels own sends (send-later network request done past (shifted_in first) gap size levels is comm) (λ early. absurd (let clash : [] ≡ first ∷ [] = sym (unjoined-before replies done.reply early) ∙ one in cc));
    }

  -- one reply to the owner
  pub one-reply : (task : Task) (rest : List Task) (replies : List Reply) (outcomes : List Learnt) → UnderWay network request past task rest replies (is_established request.chan outcomes) → Goes task rest replies outcomes
  one-reply task rest replies outcomes (Aside other left) = aside task rest replies outcomes other left
  one-reply task rest replies outcomes (Opening own used none unsent) = subst (λ t. Goes t rest replies outcomes) (sym own) (opening rest replies outcomes used none unsent)
  one-reply task rest replies outcomes (Sending levels own sends comm) = subst (λ t. Goes t rest replies outcomes) (sym own.is) (sending levels own.hop own.count own.gap own.size rest replies outcomes own.stands sends comm)
  one-reply task rest replies outcomes (Closing levels own others comm) = subst (λ t. Goes t rest replies outcomes) (sym own) (closing levels rest replies outcomes others comm)
  one-reply task rest replies outcomes (MovingFrom levels own closes comm) = subst (λ t. Goes t rest replies outcomes) (sym own.is) (moving-from levels own.new own.gap own.size rest replies outcomes own.other closes comm)
  one-reply task rest replies outcomes (MovingOnto levels own sends comm unsent) = subst (λ t. Goes t rest replies outcomes) (sym own.is) (moving-onto levels own.old own.gap own.size rest replies outcomes own.other sends comm unsent)
