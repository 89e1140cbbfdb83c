-- The fates of a channel's reservations in every run, by one induction with what its teardown was told.
use Rattle.std.proofs.Common.{◌≡◌, ℕ, zero, suc, ◌≤◌, ◌⊎◌, true, List, [], ◌∷◌, ◌++◌, length, Option, Some, None, refl, sym, ap, ◌∙◌, subst, inl, inr, arith}
use Rattle.run_engine.proofs.Words.{cases_lt, same_Some, slice_get, find, link_number, channel_number, link_of, Ask, Release, Tick, Phase, Reply, count_at_release, reply_at, release_to, Reservation, closing, clock_of, scan_of, is_row_at_hop, after, RequestFits, Progress, Relaxing, Settled, Accepts, first_count, told_count, Request, Done, channel_packets, channel_of, NetworkFits, Task, Network, part_of, replies_to, IsNext, IsRun, Learnt, Standing, standing, OwnedFully, IsReleased, held_by, IsOff, IsMild, packets_on, ChannelAsked, HopAt, count_at}
use Rattle.link_steps.specs.declared.replies.Phase.TheVariants as Ph
use Rattle.link_steps.specs.declared.replies.Reply.TheVariants as Is
use Rattle.channel_laws.proofs.ChannelRows.{own-count, find-passes}
use Rattle.channel_laws.proofs.HoldFates.{Fate, FateOpen, TellsAll, NotCommitted, held-released, released-count}
use Rattle.hop_reservation.proofs.DistinctLinks.{index-apart}
use Rattle.setup_protocol.proofs.HopHolds.{IsComm, IsTail, HopStands, reserved_of}
use Rattle.run_engine.proofs.Channels.RowsFollow.{held_at_hop, held-here, hop-reply, same-held}
use Rattle.run_engine.proofs.Replies.ClosingStands.{AllComm, comm-later, send-later}
use Rattle.run_engine.proofs.Replies.RunCloses.{others-off, step-kind, fully-asked}
use Rattle.run_engine.proofs.Replies.RunGoes.{hop-comes}
use Rattle.run_engine.proofs.Flights.FlightOrigins.{is-tick}
use Rattle.run_engine.proofs.Runs.EachRun.{OwnStep, KeptByOthers, KeptBySteps, each-run}
use Rattle.run_engine.proofs.Keeping.Lookups.{held, head-same}
use Rattle.channel_laws.proofs.SendReplies.{release-committed}
use Rattle.interleave_core.proofs.Channels.FarHolds.{hop-tells, hop-fate, first-same, committed-comes, Frozen, frozen-later}
use Rattle.run_engine.proofs.Tasks.TaskAsks.{off-mild}
use Rattle.run_engine.proofs.Replies.OwnerKinds.{NoRelease, IsLeaving, OwnKind, OwnOff, OwnAside, OwnSetup, OwnSend, OwnClose, opens-stay}

pub record Chain (network : Network) (request : Request) (first : HopAt network request 0) (run : List Done) : Type 0 where
  pub fates : 1 ≤ count_at network request 0 first run → (i : ℕ) (at : HopAt network request i) → Fate (count_at network request 0 first run) (count_at network request i at run) (held_at_hop network request i at run)
  pub whole : (terms : Reservation) → held_at_hop network request 0 first run ≡ Some terms → terms.phase ≡ Ph.Committed → (levels : List ℕ) × AllComm network request levels 0 run

-- with what the replies to a task that leaves the channel tell
record ChainAt (network : Network) (request : Request) (first : HopAt network request 0) (run : List Done) (at : Standing) : Type 0 where
  chain : Chain network request first run
  told : (task : Task) (rest : List Task) (told : ℕ) → at.tasks ≡ task ∷ rest → IsLeaving request task → first_count at.replies ≡ Some told → Frozen network request first run told

pub open-or-not : (held : Option Reservation) → ((terms : Reservation) × (held ≡ Some terms) × (terms.phase ≡ Ph.Committed)) ⊎ NotCommitted held
open-or-not None = inr (λ terms is phase. (let clash : None ≡ Some terms = is in cc))
open-or-not (Some terms) = by-phase terms.phase refl where
  by-phase : (phase : Phase) → terms.phase ≡ phase → ((own : Reservation) × (Some terms ≡ Some own) × (own.phase ≡ Ph.Committed)) ⊎ NotCommitted (Some terms)
  by-phase Ph.Committed is = inl (terms, refl, is)
  by-phase Ph.Tentative is = inr (λ own same phase. (let clash : Ph.Tentative ≡ Ph.Committed = sym is ∙ ap (λ k. k.phase) (same_Some terms own same) ∙ phase in cc))
  by-phase Ph.Closing is = inr (λ own same phase. (let clash : Ph.Closing ≡ Ph.Committed = sym is ∙ ap (λ k. k.phase) (same_Some terms own same) ∙ phase in cc))

-- ---- the fates after an entry that tells its count

tick-tells : (c least count : ℕ) (ask : Ask) → ask ≡ Tick → TellsAll c least count ask
tick-tells c least count ask is = subst (TellsAll c least count) (sym is) tt

off-tells : (c least count : ℕ) (ask : Ask) → IsOff c ask → TellsAll c least count ask
off-tells c least count (Release chan upstream) off = λ same. absurd (off same)
off-tells c least count _ off = tt

setup-tells : (c least count : ℕ) (ask : Ask) → NoRelease ask → TellsAll c least count ask
setup-tells c least count (Release chan upstream) off = absurd off
setup-tells c least count _ off = tt

pub same-count : (network : Network) (request : Request) (i : ℕ) (one other : HopAt network request i) (run : List Done) → count_at network request i one run ≡ count_at network request i other run
same-count network request i one other run =
    let hop : one.hop ≡ other.hop = same_Some one.hop other.hop (sym one.stands ∙ other.stands) in
    let link : one.link ≡ other.link = same_Some one.link other.link (sym one.linked ∙ ap (λ h. slice_get network.links (link_number h.link)) hop ∙ other.linked) in
    ap (λ l. length (channel_packets (channel_number request.chan) (packets_on l (link_number one.hop.link) run))) link ∙ ap (λ h. length (channel_packets (channel_number request.chan) (packets_on other.link (link_number h.link) run))) hop

first-hop-count : (network : Network) (request : Request) (first : HopAt network request 0) (i : ℕ) (at : HopAt network request i) (run : List Done) → i ≡ 0 → count_at network request i at run ≡ count_at network request 0 first run
first-hop-count network request first zero at run is = same-count network request 0 at first run
first-hop-count network request first (suc i) at run is = absurd (omega (arith, is))

first-none : (replies : List Reply) → first_count replies ≡ None → replies ≡ []
first-none [] is = refl
first-none (reply ∷ replies) is = cc

setup-whole : (network : Network) (request : Request) (first : HopAt network request 0) (run : List Done) (offers : List ℕ) (p : Progress) → ((i : ℕ) (at : HopAt network request i) → HopStands None Some request offers p i (held_at_hop network request i at run)) → (terms : Reservation) → held_at_hop network request 0 first run ≡ Some terms → terms.phase ≡ Ph.Committed → (levels : List ℕ) × AllComm network request levels 0 run
setup-whole network request first run offers p stands terms held phase =
    elim (cases_lt 0 (reserved_of offers p)) [
      | inl less ↦ absurd (let tent = (stands 0 first).tent less in let same : tent.terms ≡ terms = same_Some tent.terms terms (sym tent.is ∙ held) in let clash : Ph.Tentative ≡ Ph.Committed = sym tent.phase ∙ ap (λ k. k.phase) same ∙ phase in cc)
      | inr from ↦ by-progress p (λ i at. (stands i at).tail (omega (arith, from)))
    ] where
      by-progress : (q : Progress) → ((i : ℕ) (at : HopAt network request i) → IsTail None Some request q i (held_at_hop network request i at run)) → (levels : List ℕ) × AllComm network request levels 0 run
      by-progress (Relaxing left levels) tails = (levels, λ i at from. tails i at)
      by-progress (Settled (Accepts levels delay)) tails = (levels, λ i at from. tails i at)
      by-progress _ tails = absurd (let clash : None ≡ Some terms = sym (tails 0 first) ∙ held in cc)

-- what the release at the first hop leaves
record FirstReleased (network : Network) (request : Request) (first : HopAt network request 0) (done : Done) (past : List Done) : Type 0 where
  count : ℕ
  cancelled : ℕ
  reply : done.reply ≡ Is.Closing count cancelled
  counts : count ≡ count_at network request 0 first past
  terms : Reservation
  held : held_at_hop network request 0 first (done ∷ past) ≡ Some terms
  phase : terms.phase ≡ Ph.Closing

-- what the owner's entry leaves, by the task that asked
record OwnLeaves (network : Network) (request : Request) (first : HopAt network request 0) (run : List Done) (done : Done) (past : List Done) (task : Task) (replies : List Reply) : Type 0 where
  tells : (i : ℕ) (at : HopAt network request i) → link_number done.link ≡ link_number at.hop.link → TellsAll (channel_number request.chan) (count_at network request 0 first past) (count_at network request i at past) done.ask
  told : (given : ℕ) → IsLeaving request task → first_count (replies ++ done.reply ∷ []) ≡ Some given → Frozen network request first run given
  whole : (terms : Reservation) → held_at_hop network request 0 first run ≡ Some terms → terms.phase ≡ Ph.Committed → (levels : List ℕ) × AllComm network request levels 0 run

module _ (network : Network) (request : Request) (first : HopAt network request 0) (done : Done) (past : List Done) (fits : NetworkFits network) (sound : RequestFits network.links request) (asked : (run : List Done) → IsRun network run → ChannelAsked request run) (run : IsRun network past) (next : IsNext network past done) (was : Chain network request first past) where
  fates-next : ((i : ℕ) (at : HopAt network request i) → link_number done.link ≡ link_number at.hop.link → TellsAll (channel_number request.chan) (count_at network request 0 first past) (count_at network request i at past) done.ask) → 1 ≤ count_at network request 0 first (done ∷ past) → (i : ℕ) (at : HopAt network request i) → Fate (count_at network request 0 first (done ∷ past)) (count_at network request i at (done ∷ past)) (held_at_hop network request i at (done ∷ past))
  fates-next tells some i at =
      elim (is-tick done.ask) [
        | inl tick ↦ elim (open-or-not (held_at_hop network request 0 first past)) [
          | inl opened ↦
              (let comm = (was.whole opened.0 opened.1 opened.2).1 i at (omega arith) in
              hop-fate network request i at done past (count_at network request 0 first (done ∷ past)) fits sound asked run next some (λ on. tick-tells (channel_number request.chan) _ _ done.ask tick) (FateOpen comm.terms comm.is comm.phase))
          | inr quiet ↦ kept (first-same network request first done past fits (asked past run) run next (λ _. quiet))
        ]
        | inr other ↦ kept (first-same network request first done past fits (asked past run) run next (λ tick. absurd (other tick)))
      ] where
        kept : count_at network request 0 first (done ∷ past) ≡ count_at network request 0 first past → Fate (count_at network request 0 first (done ∷ past)) (count_at network request i at (done ∷ past)) (held_at_hop network request i at (done ∷ past))
        kept same =
            subst (λ n. Fate n (count_at network request i at (done ∷ past)) (held_at_hop network request i at (done ∷ past))) (sym same)
            (hop-fate network request i at done past (count_at network request 0 first past) fits sound asked run next (subst (λ n. 1 ≤ n) same some) (tells i at) (was.fates (subst (λ n. 1 ≤ n) same some) i at))

  -- a release tells all that the first hop has taken
  close-tells : (replies : List Reply) (k : ℕ) (here : HopAt network request k) → link_number done.link ≡ link_number here.hop.link → done.ask ≡ Release request.chan (first_count replies) → (replies ≡ [] → k ≡ 0) → ((told : ℕ) → first_count replies ≡ Some told → Frozen network request first past told) → (i : ℕ) (at : HopAt network request i) → link_number done.link ≡ link_number at.hop.link → TellsAll (channel_number request.chan) (count_at network request 0 first past) (count_at network request i at past) done.ask
  close-tells replies k here on is zeroth frozen i at at-link =
      subst (TellsAll (channel_number request.chan) (count_at network request 0 first past) (count_at network request i at past)) (sym is) (λ same. by-first (first_count replies) refl) where
        by-first : (upstream : Option ℕ) → first_count replies ≡ upstream → count_at network request 0 first past ≤ count_at_release upstream (count_at network request i at past)
        by-first None none =
            (let index : i ≡ k = index-apart request.route i k at.hop here.hop sound.route at.stands here.stands (sym at-link ∙ on) in
            let e = zeroth (first-none replies none) in
            let same = first-hop-count network request first i at past (omega (arith, index, e)) in omega (arith, same))
        by-first (Some told) some = (let upto = (frozen told some).upto in omega (arith, upto))

  mild-whole : IsMild (channel_number request.chan) done.ask → ((levels : List ℕ) → AllComm network request levels 0 past → AllComm network request levels 0 (done ∷ past)) → (terms : Reservation) → held_at_hop network request 0 first (done ∷ past) ≡ Some terms → terms.phase ≡ Ph.Committed → (levels : List ℕ) × AllComm network request levels 0 (done ∷ past)
  mild-whole mild later terms held phase =
      let before = committed-comes terms (held_at_hop network request 0 first past) phase (hop-comes network request done past fits run 0 first terms mild held) in
      let all = was.whole terms before phase in (all.0, later all.0 all.1)

  first-released : (levels : List ℕ) → link_number done.link ≡ link_number first.hop.link → done.ask ≡ Release request.chan None → IsComm Some request levels 0 (held_at_hop network request 0 first past) → FirstReleased network request first done past
  unfolding reply_at after
  first-released levels on is comm =
      let reply : done.reply ≡ release_to (clock_of (part_of (link_number first.hop.link) past)) None (find (is_row_at_hop request.chan true) (scan_of first.link.shape (part_of (link_number first.hop.link) past)).rows) = hop-reply network request 0 first done past next on ∙ ap (reply_at first.link (clock_of (part_of (link_number first.hop.link) past)) (scan_of first.link.shape (part_of (link_number first.hop.link) past))) is in
      by-reply done.reply refl reply (subst IsReleased (sym reply) (release-committed (clock_of (part_of (link_number first.hop.link) past)) None request.chan _ comm.terms comm.is comm.first comm.phase)) where
        by-reply : (r : Reply) → done.reply ≡ r → done.reply ≡ release_to (clock_of (part_of (link_number first.hop.link) past)) None (find (is_row_at_hop request.chan true) (scan_of first.link.shape (part_of (link_number first.hop.link) past)).rows) → IsReleased done.reply → FirstReleased network request first done past
        by-reply (Is.Closing count cancelled) same reply released =
            let from = released-count (clock_of (part_of (link_number first.hop.link) past)) None (find (is_row_at_hop request.chan true) (scan_of first.link.shape (part_of (link_number first.hop.link) past)).rows) count cancelled (sym same ∙ reply) in
            let chan : channel_of from.row ≡ channel_number request.chan = Rattle.channel_laws.proofs.ChannelRows.row-at-hop request.chan true from.row (find-passes (is_row_at_hop request.chan true) from.row _ from.is) in
            let tells = hop-tells network request 0 first past from.row (is_row_at_hop request.chan true) fits run (asked past run) from.is chan in
            record {
              count = count;
              cancelled = cancelled;
              reply = same;
              counts = from.count_is ∙ sym (own-count from.row.ticks _ tells.eligible);
              terms = closing count comm.terms;
              held = held-here network request 0 first done past on ∙ ap (λ a. held_by request.chan (after first.link.shape (clock_of (part_of (link_number first.hop.link) past)) (scan_of first.link.shape (part_of (link_number first.hop.link) past)) a done.reply).rows) is ∙ ap (λ r. held_by request.chan (after first.link.shape (clock_of (part_of (link_number first.hop.link) past)) (scan_of first.link.shape (part_of (link_number first.hop.link) past)) (Release request.chan None) r).rows) same ∙ held-released request.chan true (clock_of (part_of (link_number first.hop.link) past)) count _ comm.terms comm.is comm.first;
              phase = refl;
            }
        by-reply _ same reply released = absurd (subst IsReleased same released)

  -- the first hop is frozen after a release
  close-frozen : (levels : List ℕ) (replies : List Reply) (k : ℕ) (here : HopAt network request k) (told : ℕ) → link_number done.link ≡ link_number here.hop.link → done.ask ≡ Release request.chan (first_count replies) → (replies ≡ [] → k ≡ 0) → IsComm Some request levels k (held_at_hop network request k here past) → ((given : ℕ) → first_count replies ≡ Some given → Frozen network request first past given) → first_count (replies ++ done.reply ∷ []) ≡ Some told → Frozen network request first (done ∷ past) told
  close-frozen levels [] k here told on is zeroth comm frozen tells =
      let hop : here.hop ≡ first.hop = same_Some here.hop first.hop (sym here.stands ∙ ap (slice_get request.route) (zeroth refl) ∙ first.stands) in
      let own = first-released levels (on ∙ ap link_of hop) is (subst (λ n. IsComm Some request levels n (held_at_hop network request 0 first past)) (zeroth refl) (subst (IsComm Some request levels k) (same-held network request k 0 here first past (zeroth refl)) comm)) in
      let given : own.count ≡ told = same_Some own.count told (ap (λ r. Some (told_count r)) (sym own.reply) ∙ tells) in
      let same = first-same network request first done past fits (asked past run) run next (λ tick. absurd (let clash : Release request.chan None ≡ Tick = sym is ∙ tick in cc)) in
      record {
        upto = (let counts = own.counts in omega (arith, counts, given, same));
        closes = λ terms held. ap (λ k. k.phase) (sym (same_Some own.terms terms (sym own.held ∙ held))) ∙ own.phase;
      }
  close-frozen levels (reply ∷ replies) k here told on is zeroth comm frozen tells =
      frozen-later network request first done past told fits (asked past run) run next (subst (IsMild (channel_number request.chan)) (sym is) tt) (frozen told tells)

  close-whole : (levels : List ℕ) (replies : List Reply) (k : ℕ) (here : HopAt network request k) → link_number done.link ≡ link_number here.hop.link → done.ask ≡ Release request.chan (first_count replies) → (replies ≡ [] → k ≡ 0) → IsComm Some request levels k (held_at_hop network request k here past) → ((given : ℕ) → first_count replies ≡ Some given → Frozen network request first past given) → (terms : Reservation) → held_at_hop network request 0 first (done ∷ past) ≡ Some terms → terms.phase ≡ Ph.Committed → ⊥
  close-whole levels replies k here on is zeroth comm frozen terms held phase =
      by-first (first_count (replies ++ done.reply ∷ [])) refl where
        some-first : (rs : List Reply) → first_count (rs ++ done.reply ∷ []) ≡ None → ⊥
        some-first [] none = cc
        some-first (r ∷ rs) none = cc

        by-first : (found : Option ℕ) → first_count (replies ++ done.reply ∷ []) ≡ found → ⊥
        by-first None none = some-first replies none
        by-first (Some told) some =
            let closes = (close-frozen levels replies k here told on is zeroth comm frozen some).closes terms held in
            let clash : Ph.Committed ≡ Ph.Closing = sym phase ∙ closes in cc

  own-leaves : (task : Task) (replies : List Reply) → ((given : ℕ) → IsLeaving request task → first_count replies ≡ Some given → Frozen network request first past given) → OwnKind network request done past task replies → OwnLeaves network request first (done ∷ past) done past task replies
  own-leaves task replies frozen (OwnOff other off) = record {
    tells = λ i at on. off-tells (channel_number request.chan) _ _ done.ask off;
    told = λ given is some. absurd (other is);
    whole = mild-whole (off-mild (channel_number request.chan) done.ask off) (λ levels comm. comm-later network request levels 0 done past fits run off comm);
  }
  own-leaves task replies frozen (OwnSetup later made own rows setup) = record {
    tells = λ i at on. setup-tells (channel_number request.chan) _ _ done.ask setup;
    told = λ given is some. absurd (opens-stay request task own is);
    whole = setup-whole network request first (done ∷ past) _ _ rows.hops;
  }
  own-leaves task replies frozen (OwnSend count gap size own is) = record {
    tells = λ i at on. subst (TellsAll (channel_number request.chan) (count_at network request 0 first past) (count_at network request i at past)) (sym is) tt;
    told = λ given leaving some. absurd (own leaving);
    whole = mild-whole (subst (IsMild (channel_number request.chan)) (sym is) tt) (λ levels comm. send-later network request done past count gap size levels is comm);
  }
  own-leaves task replies frozen (OwnClose levels leaving k here on is zeroth comm) = record {
    tells = close-tells replies k here on is zeroth (λ given some. frozen given leaving some);
    told = λ given closes some. close-frozen levels replies k here given on is zeroth comm (λ g s. frozen g leaving s) some;
    whole = λ terms held phase. absurd (close-whole levels replies k here on is zeroth comm (λ g s. frozen g leaving s) terms held phase);
  }
  own-leaves task replies frozen (OwnAside reply one off) = record {
    tells = λ i at on. off-tells (channel_number request.chan) _ _ done.ask off;
    told = λ given leaving some. frozen-later network request first done past given fits (asked past run) run next (off-mild (channel_number request.chan) done.ask off) (frozen given leaving (ap first_count one ∙ sym (ap (λ rs. first_count (rs ++ done.reply ∷ [])) one) ∙ some));
    whole = mild-whole (off-mild (channel_number request.chan) done.ask off) (λ levels comm. comm-later network request levels 0 done past fits run off comm);
  }

-- ---- every run

module _ (network : Network) (request : Request) (owner : ℕ) (first : HopAt network request 0) (fits : NetworkFits network) (sound : RequestFits network.links request) (full : OwnedFully network request owner) where
  asked : (run : List Done) → IsRun network run → ChannelAsked request run
  asked run is = fully-asked network request owner fits sound full run is

  none-chain : Chain network request first []
  unfolding part_of scan_of
  none-chain = record { fates = λ some. absurd (omega (arith, some)); whole = λ terms held phase. absurd (let clash : None ≡ Some terms = held in cc) }

  off-chain : KeptByOthers network owner (ChainAt network request first)
  off-chain past done at run next other was =
      let off = others-off network request owner past done full next other in
      let mild = off-mild (channel_number request.chan) done.ask off in
      record {
        chain = record {
          fates = fates-next network request first done past fits sound asked run next was.chain (λ i here on. off-tells (channel_number request.chan) _ _ done.ask off);
          whole = mild-whole network request first done past fits sound asked run next was.chain mild (λ levels comm. comm-later network request levels 0 done past fits run off comm);
        };
        told = λ task rest told same leaving given. frozen-later network request first done past told fits (asked past run) run next mild (was.told task rest told same leaving given);
      }

  leaves : (script : List Task) (past : List Done) (done : Done) (task : Task) (rest : List Task) (replies : List Reply) (outcomes : List Learnt) → OwnStep network owner script past done task rest replies outcomes → ChainAt network request first past (record { tasks = task ∷ rest; replies = replies; outcomes = outcomes })
      → OwnLeaves network request first (done ∷ past) done past task replies
  leaves script past done task rest replies outcomes step was =
      own-leaves network request first done past fits sound asked step.run step.next was.chain task replies (λ given leaving some. was.told task rest given refl leaving some) (step-kind network request owner script past done task rest replies outcomes fits sound full step)

  own-chain : (script : List Task) (past : List Done) (done : Done) (task : Task) (rest : List Task) (replies : List Reply) (outcomes : List Learnt) → OwnStep network owner script past done task rest replies outcomes → ChainAt network request first past (record { tasks = task ∷ rest; replies = replies; outcomes = outcomes }) → Chain network request first (done ∷ past)
  own-chain script past done task rest replies outcomes step was =
      let left = leaves script past done task rest replies outcomes step was in
      record { fates = fates-next network request first done past fits sound asked step.run step.next was.chain left.tells; whole = left.whole }

  -- before a task begins nothing was told to it
  chain-keeps : (script : List Task) → KeptBySteps network owner script (λ run outcomes tasks. Chain network request first run) (ChainAt network request first)
  chain-keeps script = record {
    first = none-chain;
    begins = λ run outcomes tasks was. record { chain = was; told = λ task rest told same leaving given. absurd (let clash : None ≡ Some told = given in cc) };
    off = off-chain;
    goes = λ past done task rest replies outcomes to step more was. record {
      chain = own-chain script past done task rest replies outcomes step was;
      told = λ own others told same leaving given. (leaves script past done task rest replies outcomes step was).told told (subst (IsLeaving request) (sym (head-same task rest own others same)) leaving) given;
    };
    over = λ past done task rest replies outcomes step none was. own-chain script past done task rest replies outcomes step was;
  }

  chain-at : (run : List Done) (script : List Task) → IsRun network run → slice_get network.scripts owner ≡ Some script → ChainAt network request first run (standing script (replies_to owner run))
  chain-at run script is found = each-run network owner script found (λ past outcomes tasks. Chain network request first past) (ChainAt network request first) (chain-keeps script) run is

  -- the first hop after a release that the owner's task asks
  pub leaves-frozen : (script : List Task) (past : List Done) (done : Done) (task : Task) (rest : List Task) (replies : List Reply) (outcomes : List Learnt) (given : ℕ) → OwnStep network owner script past done task rest replies outcomes → IsLeaving request task → first_count (replies ++ done.reply ∷ []) ≡ Some given → Frozen network request first (done ∷ past) given
  leaves-frozen script past done task rest replies outcomes given step leaving some =
      (leaves script past done task rest replies outcomes step (subst (ChainAt network request first past) step.stands (chain-at past script step.run step.found))).told given leaving some

pub run-chain : (network : Network) (request : Request) (owner : ℕ) (first : HopAt network request 0) (run : List Done) → NetworkFits network → RequestFits network.links request → OwnedFully network request owner → IsRun network run → Chain network request first run
run-chain network request owner first run fits sound full is = (let script = held network.scripts owner full.inside in (chain-at network request owner first fits sound full run script.item is script.found).chain)
