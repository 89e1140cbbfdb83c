-- In every run: once a packet of a channel was taken at its first hop, the packets and the reservations of all hops have
-- the levels of one list.
use Rattle.std.proofs.Common.{◌≡◌, ℕ, ◌≤◌, List, [], ◌∷◌, Option, Some, None, sym, ap, ◌∙◌, subst, inl, inr, arith}
use Rattle.run_engine.proofs.Words.{cases_lt, same_Some, channel_number, Ask, Tick, Reservation, scan_of, RequestFits, Progress, Relaxing, Settled, Accepts, Request, Done, NetworkFits, Network, part_of, IsNext, IsRun, OwnedFully, IsOff, IsMild, ChannelAsked, HopAt, count_at}
use Rattle.link_steps.specs.declared.replies.Phase.TheVariants as Ph
use Rattle.interleave_core.proofs.Channels.ChainLaw.{open-or-not, run-chain}
use Rattle.run_engine.proofs.Flights.FlightOrigins.{is-tick}
use Rattle.interleave_core.proofs.Channels.FarHolds.{first-same}
use Rattle.channel_laws.proofs.HoldFates.{Fate, FateOpen, FateClosing, FateGone}
use Rattle.setup_protocol.proofs.HopHolds.{IsTail, HopStands, reserved_of}
use Rattle.run_engine.proofs.Channels.RowsFollow.{held_at_hop, AfterRows, comm-kept}
use Rattle.run_engine.proofs.Replies.ClosingStands.{AllComm, comm-later}
use Rattle.run_engine.proofs.Replies.RunCloses.{fully-asked}
use Rattle.run_engine.proofs.Replies.RunGoes.{HopLevels, levels-settled, levels-later, after-later}
use Rattle.interleave_core.proofs.Channels.OwnerEntries.{EntryIs, MildOne, SetupOne, entry-is}
use Rattle.run_engine.proofs.Runs.RunFronts.{run-more}

pub record Levelled (network : Network) (request : Request) (run : List Done) : Type 0 where
  pub levels : List ℕ
  pub rows : AfterRows network request levels run
  pub packets : HopLevels network request levels run

all-levelled : (network : Network) (request : Request) (run : List Done) (levels : List ℕ) → NetworkFits network → IsRun network run → ChannelAsked request run → AllComm network request levels 0 run → Levelled network request run
all-levelled network request run levels fits is asked comm = record {
  levels = levels;
  rows = record { kept = λ i at terms held. comm-kept request levels i (held_at_hop network request i at run) terms (comm i at (omega arith)) held };
  packets = levels-settled network request levels run fits is asked (λ i at. comm i at (omega arith));
}

never-tent : (least count : ℕ) (held : Option Reservation) (terms : Reservation) → held ≡ Some terms → terms.phase ≡ Ph.Tentative → Fate least count held → ⊥
never-tent least count held terms is tent (FateOpen own same phase) = (let e : terms ≡ own = same_Some terms own (sym is ∙ same) in let clash : Ph.Tentative ≡ Ph.Committed = sym tent ∙ ap (λ k. k.phase) e ∙ phase in cc)
never-tent least count held terms is tent (FateClosing own same phase upto) = (let e : terms ≡ own = same_Some terms own (sym is ∙ same) in let clash : Ph.Tentative ≡ Ph.Closing = sym tent ∙ ap (λ k. k.phase) e ∙ phase in cc)
never-tent least count held terms is tent (FateGone none upto) = (let clash : Some terms ≡ None = sym is ∙ none in cc)

off-tick : (c : ℕ) (ask : Ask) → ask ≡ Tick → IsOff c ask
off-tick c ask is = subst (IsOff c) (sym is) tt

module _ (network : Network) (request : Request) (done : Done) (past : List Done) (fits : NetworkFits network) (is : IsRun network (done ∷ past)) (asked : ChannelAsked request (done ∷ past)) (was : Levelled network request past) where
  none-levelled : ((i : ℕ) (at : HopAt network request i) → held_at_hop network request i at (done ∷ past) ≡ None) → Levelled network request (done ∷ past)
  none-levelled none =
      let rows : AfterRows network request was.levels (done ∷ past) = record { kept = λ i at terms held. absurd (let clash : None ≡ Some terms = sym (none i at) ∙ held in cc) } in
      record { levels = was.levels; rows = rows; packets = levels-later network request was.levels done past fits is asked rows was.packets }

  setup-levelled : (first : HopAt network request 0) (offers : List ℕ) (p : Progress) (least count : ℕ) → ((i : ℕ) (at : HopAt network request i) → HopStands None Some request offers p i (held_at_hop network request i at (done ∷ past))) → Fate least count (held_at_hop network request 0 first (done ∷ past)) → Levelled network request (done ∷ past)
  setup-levelled first offers p least count stands fate =
      elim (cases_lt 0 (reserved_of offers p)) [
        | inl less ↦ absurd (let tent = (stands 0 first).tent less in never-tent least count (held_at_hop network request 0 first (done ∷ past)) tent.terms tent.is tent.phase fate)
        | inr from ↦ by-progress p (λ i at. (stands i at).tail (omega (arith, from)))
      ] where
        by-progress : (q : Progress) → ((i : ℕ) (at : HopAt network request i) → IsTail None Some request q i (held_at_hop network request i at (done ∷ past))) → Levelled network request (done ∷ past)
        by-progress (Relaxing left levels) tails = all-levelled network request (done ∷ past) levels fits is asked (λ i at from. tails i at)
        by-progress (Settled (Accepts levels delay)) tails = all-levelled network request (done ∷ past) levels fits is asked (λ i at from. tails i at)
        by-progress _ tails = none-levelled tails

  mild-levelled : IsRun network past → IsMild (channel_number request.chan) done.ask → Levelled network request (done ∷ past)
  mild-levelled run mild =
      let rows = after-later network request done past fits run was.levels mild was.rows in
      record { levels = was.levels; rows = rows; packets = levels-later network request was.levels done past fits is asked rows was.packets }

  entry-levelled : (owner : ℕ) (first : HopAt network request 0) (least count : ℕ) → IsRun network past → Fate least count (held_at_hop network request 0 first (done ∷ past)) → EntryIs network request owner past done → Levelled network request (done ∷ past)
  entry-levelled owner first least count run fate (MildOne mild) = mild-levelled run mild
  entry-levelled owner first least count run fate (SetupOne later rows) = setup-levelled first _ _ least count rows.hops fate

next-levelled : (network : Network) (request : Request) (owner : ℕ) (first : HopAt network request 0) (done : Done) (past : List Done) → NetworkFits network → RequestFits network.links request → OwnedFully network request owner → IsRun network past → (next : IsNext network past done) → 1 ≤ count_at network request 0 first (done ∷ past) → (1 ≤ count_at network request 0 first past → Levelled network request past) → Levelled network request (done ∷ past)
next-levelled network request owner first done past fits sound full run next some was =
    let asked = fully-asked network request owner fits sound full in
    let is = run-more network past done run next in
    let kept : count_at network request 0 first (done ∷ past) ≡ count_at network request 0 first past → Levelled network request (done ∷ past) = λ same.
    entry-levelled network request done past fits is (asked (done ∷ past) is) (was (omega (arith, some, same))) owner first (count_at network request 0 first (done ∷ past)) (count_at network request 0 first (done ∷ past)) run ((run-chain network request owner first (done ∷ past) fits sound full is).fates some 0 first) (entry-is network request owner past done fits sound full run next) in
    elim (is-tick done.ask) [
      | inl tick ↦ elim (open-or-not (held_at_hop network request 0 first past)) [
        | inl opened ↦
            (let all = (run-chain network request owner first past fits sound full run).whole opened.0 opened.1 opened.2 in
            all-levelled network request (done ∷ past) all.0 fits is (asked (done ∷ past) is) (comm-later network request all.0 0 done past fits run (off-tick (channel_number request.chan) done.ask tick) all.1))
        | inr quiet ↦ kept (first-same network request first done past fits (asked past run) run next (λ _. quiet))
      ]
      | inr other ↦ kept (first-same network request first done past fits (asked past run) run next (λ tick. absurd (other tick)))
    ]

pub run-levelled : (network : Network) (request : Request) (owner : ℕ) (first : HopAt network request 0) (run : List Done) → NetworkFits network → RequestFits network.links request → OwnedFully network request owner → IsRun network run → 1 ≤ count_at network request 0 first run → Levelled network request run
unfolding IsRun part_of scan_of
run-levelled network request owner first [] fits sound full is some = absurd (omega (arith, some))
run-levelled network request owner first (done ∷ past) fits sound full is some =
    next-levelled network request owner first done past fits sound full is.0 is.1 some (λ before. run-levelled network request owner first past fits sound full is.0 before)
