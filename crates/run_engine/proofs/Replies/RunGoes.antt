-- In every run each reply to a setup is one of its ask's.
use Rattle.std.proofs.Common.{◌≡◌, ◌≢◌, ℕ, ◌<◌, ◌≤◌, Bool, true, false, List, [], ◌∷◌, length, get_or, Option, Some, None, refl, sym, ap, ◌∙◌, subst, inl, inr, arith}
use Rattle.run_engine.proofs.Words.{cases_lt, same_Some, slice_get, link_number, actor_number, channel_number, AreLevels, Tentative, Closing, Reply, Each, Reservation, is_phase, clock_of, scan_of, RequestFits, Outcome, Accepts, Denies, Progress, Relaxing, Settled, offers_in, reach_after, next_ask, progress_of, verdict_of, Request, IsOff, IsMild, channel_packets, held_by, IsOpen, ComesOf, Stays, Closed, NetworkFits, TaskOff, Learnt, outcome_in, standing, Standing, Network, Task, Opens, part_of, replies_to, Done, IsNext, IsRun, ChannelAsked, HopAt, packets_at}
use Rattle.link_steps.proofs.LegalChannels.{legal-channels}
use Rattle.link_steps.proofs.SearchAndFilter.{Each-if}
use Rattle.setup_protocol.proofs.HopHolds.{IsTent, IsComm, HopStands, reserved_of, IsTail}
use Rattle.setup_protocol.proofs.SetupAdvances.{progress-none}
use Rattle.channel_laws.proofs.TermsAfter.{held-off, comes-mild}
use Rattle.run_engine.proofs.Channels.HopsAt.{HaveLevelsAt}
use Rattle.run_engine.proofs.Channels.RowLevels.{levels-held, none-comes}
use Rattle.run_engine.proofs.Channels.RowsFollow.{held_at_hop, SetupRows, SetupGoes, setup-goes, KeptTerms, AfterRows, Settles, setup-settles, held-here}
use Rattle.run_engine.proofs.Runs.EachRun.{OwnStep}
use Rattle.run_engine.proofs.Runs.RunLegal.{run-stands, part-admissible, by-part}
use Rattle.run_engine.proofs.Tasks.CallerAsksFit.{StandingFits}
use Rattle.run_engine.proofs.Tasks.EachSetup.{OpenedOnce, OpensOnce, SetupAt, Before, Under, After, KeptBySetup, each-setup}
use Rattle.run_engine.proofs.Tasks.SetupOnce.{channel-asked}
use Rattle.run_engine.proofs.Tasks.TaskAsks.{IsNoOpeningOf, off-other, entry-off}
use Rattle.run_engine.proofs.Runs.RunFronts.{run-more}

-- ---- scripts

-- the caller of this number opens the request, once; no other names its channel
pub record OwnedOnce (network : Network) (request : Request) (owner : ℕ) : Type 0 where
  pub inside : owner < length network.scripts
  pub own : (tasks : List Task) → slice_get network.scripts owner ≡ Some tasks → OpenedOnce request tasks
  pub others : (actor : ℕ) (tasks : List Task) → actor ≢ owner → slice_get network.scripts actor ≡ Some tasks → Each (TaskOff (channel_number request.chan)) tasks

pub opens-once : (network : Network) (request : Request) (owner : ℕ) → OwnedOnce network request owner → OpensOnce network request owner
opens-once network request owner once = record {
  own = once.own;
  others = λ actor tasks other found. Each-if (TaskOff (channel_number request.chan)) (IsNoOpeningOf (channel_number request.chan)) tasks (off-other (channel_number request.chan)) (once.others actor tasks other found);
}

pub owned-asked : (network : Network) (request : Request) (owner : ℕ) → NetworkFits network → RequestFits network.links request → OwnedOnce network request owner → (run : List Done) → IsRun network run → ChannelAsked request run
owned-asked network request owner fits sound once run is = channel-asked network request owner run fits sound.route (opens-once network request owner once) once.inside is

-- ---- what entries leave

abbrev pub NoneHeld : Network → Request → List Done → Type 0
NoneHeld network request run = (i : ℕ) (at : HopAt network request i) → held_at_hop network request i at run ≡ None

open-none : (held : Option Reservation) → held ≡ None → IsOpen held
open-none held none terms is = absurd (let clash : None ≡ Some terms = sym none ∙ is in cc)

open-tent : (request : Request) (offers : List ℕ) (i : ℕ) (held : Option Reservation) → IsTent Some request offers i held → IsOpen held
open-tent request offers i held tent terms is = (let same : tent.terms ≡ terms = same_Some tent.terms terms (sym tent.is ∙ is) in ap (λ t. is_phase t.phase Closing) (sym same) ∙ ap (λ p. is_phase p Closing) tent.phase)

pub open-comm : (request : Request) (levels : List ℕ) (i : ℕ) (held : Option Reservation) → IsComm Some request levels i held → IsOpen held
open-comm request levels i held comm terms is = (let same : comm.terms ≡ terms = same_Some comm.terms terms (sym comm.is ∙ is) in ap (λ t. is_phase t.phase Closing) (sym same) ∙ ap (λ p. is_phase p Closing) comm.phase)

open-tail : (request : Request) (p : Progress) (i : ℕ) (held : Option Reservation) → IsTail None Some request p i held → IsOpen held
open-tail request (Relaxing left levels) i held comm = open-comm request levels i held comm
open-tail request (Settled (Accepts levels delay)) i held comm = open-comm request levels i held comm
open-tail request _ i held none = open-none held none

open-stands : (request : Request) (offers : List ℕ) (p : Progress) (i : ℕ) (held : Option Reservation) → HopStands None Some request offers p i held → IsOpen held
open-stands request offers p i held stands =
    elim (cases_lt i (reserved_of offers p)) [
      | inl less ↦ open-tent request offers i held (stands.tent less)
      | inr from ↦ open-tail request p i held (stands.tail from)
    ]

none-comes-of : (terms : Reservation) (before : Option Reservation) → before ≡ None → ComesOf terms before → ⊥
none-comes-of terms before none (Stays is) = (let clash : None ≡ Some terms = sym none ∙ is in cc)
none-comes-of terms before none (Closed old count is same) = (let clash : None ≡ Some old = sym none ∙ is in cc)

kept-comes : (request : Request) (levels : List ℕ) (i : ℕ) (terms : Reservation) (before : Option Reservation) → ComesOf terms before → ((old : Reservation) → before ≡ Some old → KeptTerms request levels i old) → KeptTerms request levels i terms
kept-comes request levels i terms before (Stays is) kept = kept terms is
kept-comes request levels i terms before (Closed old count is same) kept =
    (let was = kept old is in subst (KeptTerms request levels i) (sym same) (record { settled = λ tentative. (let clash : Closing ≡ Tentative = tentative in cc); level = was.level; up_bound = was.up_bound }))

pub rows-none : (network : Network) (request : Request) (run : List Done) → 1 ≤ length request.route → NoneHeld network request run → SetupRows network request [] run
unfolding offers_in reach_after
rows-none network request run some none = record {
  hops = λ i at. subst (λ p. HopStands None Some request [] p i (held_at_hop network request i at run)) (sym (progress-none request some)) (record { tent = λ less. absurd (omega (arith, less)); tail = λ from. none i at });
  up = λ alone. refl;
}

module _ (network : Network) (request : Request) (done : Done) (past : List Done) (fits : NetworkFits network) (run : IsRun network past) where
  pub held-later : (i : ℕ) (at : HopAt network request i) → IsOff (channel_number request.chan) done.ask → IsOpen (held_at_hop network request i at past) → held_at_hop network request i at (done ∷ past) ≡ held_at_hop network request i at past
  unfolding scan_of
  held-later i at off opened =
      by-part (λ h. held_by request.chan (scan_of at.link.shape h).rows ≡ held_at_hop network request i at past) (link_number at.hop.link) done past
      (λ on. held-off at.link.shape request.chan (clock_of (part_of (link_number at.hop.link) past)) (scan_of at.link.shape (part_of (link_number at.hop.link) past)) done.ask done.reply off opened (legal-channels at.link.shape (part_of (link_number at.hop.link) past) (part-admissible network past (link_number at.hop.link) at.link fits run at.linked)))
      (λ away. refl)

  -- a mild entry keeps or closes a reservation
  pub hop-comes : (i : ℕ) (at : HopAt network request i) (terms : Reservation) → IsMild (channel_number request.chan) done.ask → held_at_hop network request i at (done ∷ past) ≡ Some terms → ComesOf terms (held_at_hop network request i at past)
  unfolding scan_of
  hop-comes i at terms mild =
      by-part (λ h. held_by request.chan (scan_of at.link.shape h).rows ≡ Some terms → ComesOf terms (held_at_hop network request i at past)) (link_number at.hop.link) done past
      (λ on held. comes-mild at.link.shape request.chan (clock_of (part_of (link_number at.hop.link) past)) (scan_of at.link.shape (part_of (link_number at.hop.link) past)) done.ask done.reply terms mild (legal-channels at.link.shape (part_of (link_number at.hop.link) past) (part-admissible network past (link_number at.hop.link) at.link fits run at.linked)) held)
      (λ away held. Stays held)

  none-later : IsMild (channel_number request.chan) done.ask → NoneHeld network request past → NoneHeld network request (done ∷ past)
  none-later mild none i at = by (held_at_hop network request i at (done ∷ past)) refl where
    by : (held : Option Reservation) → held_at_hop network request i at (done ∷ past) ≡ held → held ≡ None
    by None is = refl
    by (Some terms) is = absurd (none-comes-of terms (held_at_hop network request i at past) (none i at) (hop-comes i at terms mild is))

  rows-later : (replies : List Reply) → IsOff (channel_number request.chan) done.ask → SetupRows network request replies past → SetupRows network request replies (done ∷ past)
  rows-later replies off rows = record {
    hops = λ i at. subst (HopStands None Some request (offers_in replies) (progress_of request replies) i) (sym (held-later i at off (open-stands request (offers_in replies) (progress_of request replies) i (held_at_hop network request i at past) (rows.hops i at)))) (rows.hops i at);
    up = rows.up;
  }

  pub after-later : (levels : List ℕ) → IsMild (channel_number request.chan) done.ask → AfterRows network request levels past → AfterRows network request levels (done ∷ past)
  after-later levels mild rows = record {
    kept = λ i at terms held. kept-comes request levels i terms (held_at_hop network request i at past) (hop-comes i at terms mild held) (rows.kept i at);
  }

-- ---- the levels of its packets

abbrev pub HopLevels : Network → Request → List ℕ → List Done → Type 0
HopLevels network request levels run = (i : ℕ) (at : HopAt network request i) → Each (λ p. p.level ≡ get_or levels i 0) (packets_at network request i at run)

pub levels-settled : (network : Network) (request : Request) (levels : List ℕ) (run : List Done) → NetworkFits network → IsRun network run → ChannelAsked request run → ((i : ℕ) (at : HopAt network request i) → IsComm Some request levels i (held_at_hop network request i at run)) → HopLevels network request levels run
levels-settled network request levels run fits is asked comm i at = (let own = comm i at in subst (λ l. Each (λ p. p.level ≡ l) (packets_at network request i at run)) own.level (levels-held network request i at run own.terms fits is asked own.is))

pub levels-later : (network : Network) (request : Request) (levels : List ℕ) (done : Done) (past : List Done) → NetworkFits network → IsRun network (done ∷ past) → ChannelAsked request (done ∷ past) → AfterRows network request levels (done ∷ past) → HopLevels network request levels past → HopLevels network request levels (done ∷ past)
unfolding scan_of
levels-later network request levels done past fits is asked rows before i at = by-held (held_at_hop network request i at (done ∷ past)) refl where
  by-held : (held : Option Reservation) → held_at_hop network request i at (done ∷ past) ≡ held → Each (λ p. p.level ≡ get_or levels i 0) (packets_at network request i at (done ∷ past))
  by-held (Some terms) held = subst (λ l. Each (λ p. p.level ≡ l) (packets_at network request i at (done ∷ past))) (rows.kept i at terms held).level (levels-held network request i at (done ∷ past) terms fits is asked held)
  by-held None none =
      by-part (λ h. Each (λ p. p.level ≡ get_or levels i 0) (channel_packets (channel_number request.chan) (scan_of at.link.shape h).packets)) (link_number at.hop.link) done past
      (λ on. subst (Each (λ p. p.level ≡ get_or levels i 0)) (sym (none-comes at.link.shape request.chan (clock_of (part_of (link_number at.hop.link) past)) (scan_of at.link.shape (part_of (link_number at.hop.link) past)) done.ask done.reply (sym (held-here network request i at done past on) ∙ none))) (before i at))
      (λ off. before i at)

-- ---- where the owner stands

-- what is recorded of it: the levels where it was accepted, and no others
pub record Recorded (levels : List ℕ) (accepted : Bool) (outcome : Option Outcome) : Type 0 where
  pub is : accepted ≡ true → (delay : ℕ) × (outcome ≡ Some (Accepts levels delay))
  pub only : (own : List ℕ) (delay : ℕ) → outcome ≡ Some (Accepts own delay) → (accepted ≡ true) × (own ≡ levels)

-- what stands after its setup
pub record IsAfter (network : Network) (request : Request) (run : List Done) (outcome : Option Outcome) : Type 0 where
  pub levels : List ℕ
  pub accepted : Bool
  pub rows : AfterRows network request levels run
  pub packets : accepted ≡ true → HaveLevelsAt network request levels run
  pub denied : accepted ≡ false → NoneHeld network request run
  pub recorded : Recorded levels accepted outcome

-- before its setup nothing is held; under way the rows are those that its replies say
abbrev pub GoesAt : Network → Request → List Done → List Task → List Reply → List Learnt → Type 0
GoesAt network request run tasks replies outcomes = SetupAt request (NoneHeld network request) (λ past rs. SetupRows network request rs past) (IsAfter network request) run (record { tasks = tasks; replies = replies; outcomes = outcomes })

pub goes-rows : (network : Network) (request : Request) (run : List Done) (tasks : List Task) (replies : List Reply) (outcomes : List Learnt) → 1 ≤ length request.route → GoesAt network request run (Opens request ∷ tasks) replies outcomes → SetupRows network request replies run
goes-rows network request run tasks replies outcomes some (Before opened begun quiet none) = subst (λ rs. SetupRows network request rs run) (sym (begun refl)) (rows-none network request run some none)
goes-rows network request run tasks replies outcomes some (Under rest is others quiet to more rows) = rows
goes-rows network request run tasks replies outcomes some (After others is) = absurd (others.0 refl)

recorded-settled : (network : Network) (request : Request) (replies : List Reply) (run : List Done) (settles : Settles network request replies run) → Recorded settles.levels settles.accepted (verdict_of request replies)
recorded-settled network request replies run settles = by-verdict settles.accepted refl where
  by-verdict : (b : Bool) → settles.accepted ≡ b → Recorded settles.levels settles.accepted (verdict_of request replies)
  by-verdict true ok = record { is = settles.verdict_is; only = λ own delay is. (ok, settles.verdict own delay is) }
  by-verdict false ok =
      let verdict = settles.denied_is ok in
      record {
        is = settles.verdict_is;
        only = λ own delay is. absurd (let clash : Some (Denies verdict.0) ≡ Some (Accepts own delay) = sym verdict.1 ∙ is in cc);
      }

-- what stands as the owner makes a step
pub step-stands : (network : Network) (owner : ℕ) (script : List Task) (past : List Done) (done : Done) (task : Task) (rest : List Task) (replies : List Reply) (outcomes : List Learnt) → NetworkFits network → OwnStep network owner script past done task rest replies outcomes → StandingFits network.links (record { tasks = task ∷ rest; replies = replies; outcomes = outcomes })
step-stands network owner script past done task rest replies outcomes fits step = subst (StandingFits network.links) step.stands ((run-stands network past fits step.run).callers owner script step.found)

pub record RunGoes (network : Network) (request : Request) (owner : ℕ) (run : List Done) : Type 0 where
  pub at : (tasks : List Task) → slice_get network.scripts owner ≡ Some tasks → GoesAt network request run (standing tasks (replies_to owner run)).tasks (standing tasks (replies_to owner run)).replies (standing tasks (replies_to owner run)).outcomes

-- ---- every run

module _ (network : Network) (request : Request) (owner : ℕ) (fits : NetworkFits network) (sound : RequestFits network.links request) (once : OwnedOnce network request owner) where
  asked : (run : List Done) → IsRun network run → ChannelAsked request run
  asked run is = owned-asked network request owner fits sound once run is

  none-held : NoneHeld network request []
  unfolding part_of scan_of
  none-held i at = refl

  -- the offers of the setup under way are levels of their hops
  setup-offers : (script : List Task) (past : List Done) (done : Done) (rest : List Task) (replies : List Reply) (outcomes : List Learnt) → OwnStep network owner script past done (Opens request) rest replies outcomes → AreLevels request.route (offers_in replies)
  setup-offers script past done rest replies outcomes step = (step-stands network owner script past done (Opens request) rest replies outcomes fits step).offers

  settled : (run : List Done) (replies : List Reply) → IsRun network run → next_ask request replies ≡ None → SetupRows network request replies run → IsAfter network request run (verdict_of request replies)
  settled run replies is none rows =
      let settles = setup-settles network request replies run rows none in
      record {
        levels = settles.levels;
        accepted = settles.accepted;
        rows = settles.rows;
        packets = λ ok. record { count = settles.whole ok; at = levels-settled network request settles.levels run fits is (asked run is) (settles.comm ok) };
        denied = settles.none;
        recorded = recorded-settled network request replies run settles;
      }

  later : (past : List Done) (done : Done) (outcome : Option Outcome) → IsRun network past → IsNext network past done → IsMild (channel_number request.chan) done.ask → IsAfter network request past outcome → IsAfter network request (done ∷ past) outcome
  later past done outcome run next mild was =
      let rows = after-later network request done past fits run was.levels mild was.rows in
      let is = run-more network past done run next in
      record {
        levels = was.levels;
        accepted = was.accepted;
        rows = rows;
        packets = λ ok. (let have = was.packets ok in record { count = have.count; at = levels-later network request was.levels done past fits is (asked (done ∷ past) is) rows have.at });
        denied = λ refused. none-later network request done past fits run mild (was.denied refused);
        recorded = was.recorded;
      }

  goes-keeps : (script : List Task) → KeptBySetup network request owner script (NoneHeld network request) (λ past rs. SetupRows network request rs past) (IsAfter network request)
  goes-keeps script = record {
    none = none-held;
    before = λ past done run next mild none. none-later network request done past fits run mild none;
    starts = λ run is none. rows-none network request run sound.route.least none;
    under = λ past done rest replies outcomes step rows. (setup-goes network request replies done past fits sound step.run step.next rows (setup-offers script past done rest replies outcomes step) step.asks).stands;
    aside = λ past done replies run next other mild rows. rows-later network request done past fits run replies (entry-off network (channel_number request.chan) past done next (λ tasks. once.others (actor_number done.actor) tasks other)) rows;
    settles = settled;
    after = later;
  }

  pub run-goes : (run : List Done) → IsRun network run → RunGoes network request owner run
  run-goes run is = record {
    at = λ tasks found. each-setup network request owner tasks found (opens-once network request owner once) (NoneHeld network request) (λ past rs. SetupRows network request rs past) (IsAfter network request) (goes-keeps tasks) run is;
  }

  pub step-goes : (script : List Task) (past : List Done) (done : Done) (task : Task) (rest : List Task) (replies : List Reply) (outcomes : List Learnt) → OwnStep network owner script past done task rest replies outcomes → GoesAt network request past (task ∷ rest) replies outcomes
  step-goes script past done task rest replies outcomes step =
      subst (λ (s : Standing). GoesAt network request past s.tasks s.replies s.outcomes) step.stands ((run-goes past step.run).at script step.found)

  -- one more reply to a setup
  pub step-setup : (script : List Task) (past : List Done) (done : Done) (rest : List Task) (replies : List Reply) (outcomes : List Learnt) → OwnStep network owner script past done (Opens request) rest replies outcomes → SetupGoes network request replies done past
  step-setup script past done rest replies outcomes step =
      let rows = goes-rows network request past rest replies outcomes sound.route.least (step-goes script past done (Opens request) rest replies outcomes step) in
      setup-goes network request replies done past fits sound step.run step.next rows (setup-offers script past done rest replies outcomes step) step.asks

-- the levels of an accepted request are those of its packets at each hop
pub accepted-levels : (network : Network) (request : Request) (owner : ℕ) (run : List Done) (tasks : List Task) (levels : List ℕ) (delay : ℕ) → NetworkFits network → RequestFits network.links request → OwnedOnce network request owner → IsRun network run → slice_get network.scripts owner ≡ Some tasks
    → outcome_in request.chan (standing tasks (replies_to owner run)).outcomes ≡ Some (Accepts levels delay) → HaveLevelsAt network request levels run × AfterRows network request levels run
accepted-levels network request owner run tasks levels delay fits sound once is found accepted = by-goes ((run-goes network request owner fits sound once run is).at tasks found) where
  by-goes : GoesAt network request run (standing tasks (replies_to owner run)).tasks (standing tasks (replies_to owner run)).replies (standing tasks (replies_to owner run)).outcomes → HaveLevelsAt network request levels run × AfterRows network request levels run
  by-goes (Before opened begun quiet none) = absurd (let clash : None ≡ Some (Accepts levels delay) = sym quiet ∙ accepted in cc)
  by-goes (Under rest same others quiet to more rows) = absurd (let clash : None ≡ Some (Accepts levels delay) = sym quiet ∙ accepted in cc)
  by-goes (After others after) =
      (let same = after.recorded.only levels delay accepted in
      (subst (λ l. HaveLevelsAt network request l run) (sym same.1) (after.packets same.0), subst (λ l. AfterRows network request l run) (sym same.1) after.rows))
