-- In every run whose channels each have one owner, the packets that a move shifts are no larger than the contracts of both its
-- channels allow.
use Rattle.std.proofs.Common.{◌≡◌, ◌⊎◌, ℕ, ◌≤◌, Bool, true, false, List, [], ◌∷◌, ◌++◌, length, Option, Some, None, refl, sym, ap, ◌∙◌, subst, inl, inr, arith}
use Rattle.run_engine.proofs.Words.{eqb-true, and_parts, same_Some, slice_get_within, slice_get, find, nat_eq, not, ◌&&◌, if◌then◌else◌, link_number, channel_number, link_of, Submit, Reply, Each, Among, reply_at, submit_to, Row, left_at, clock_of, scan_of, is_row_at_hop, RequestFits, Request, NetworkFits, TaskFits, IsSendOn, TaskOff, OwnedFully, AllOwned, Learnt, Settles, PlannedOn, MovedTo, Packets, Standing, is_that, newest, or_before, packets_by, packets_in, last_packets, task_ask, ready, from_step, begun, outcome_by, standing, once_next, Network, Task, Sends, Moves, part_of, replies_to, Done, IsNext, IsRun, ChanNo, LinkNo, terms_at, ChannelAsked}
use Rattle.link_steps.specs.declared.replies.Reply.TheVariants as Is
use Rattle.link_steps.proofs.SearchAndFilter.{Each-among, Each-find}
use Rattle.link_steps.proofs.FoundElements.{Each-from_among}
use Rattle.link_steps.proofs.ListParts.{Each-at}
use Rattle.link_steps.proofs.ReservationFound.{submit-tells}
use Rattle.channel_laws.proofs.SizeLaw.{NamesContract, legal-sizes}
use Rattle.run_engine.proofs.Channels.HopsAt.{hop-at}
use Rattle.run_engine.proofs.Tasks.SingleAskTask.{once-asked}
use Rattle.channel_laws.proofs.UnsentPlans.{row-at-hop}
use Rattle.run_engine.proofs.Channels.RowsFollow.{hop-reply}
use Rattle.run_engine.proofs.Replies.RunCloses.{fully-asked}
use Rattle.run_engine.proofs.Replies.RunGoes.{step-stands}
use Rattle.run_engine.proofs.Runs.RunLegal.{run-stands, part-admissible}
use Rattle.run_engine.proofs.Runs.EachRun.{each-left, from-step-by, KeptBySteps, each-run}
use Rattle.run_engine.proofs.Tasks.OwnTasks.{standing-is, script-own, OwnTask, own-task, owner-is}
use Rattle.call_script.proofs.TaskBegins.{ready-keeps}
use Rattle.run_engine.proofs.Tasks.TaskNotes.{once-over}
use Rattle.run_engine.proofs.Keeping.Lookups.{head-same}

-- ---- whom a script names

-- the caller owns the channels that its moves name
abbrev pub TaskOwned : Network → ℕ → Task → Type 0
TaskOwned network actor (Moves old new gap size) = OwnedFully network old actor × OwnedFully network new actor
TaskOwned network actor _ = Unit {0}

owns : (network : Network) (actor : ℕ) (tasks : List Task) (r : Request) → AllOwned network → slice_get network.scripts actor ≡ Some tasks → (Each (TaskOff (channel_number r.chan)) tasks → ⊥) → ((request : Request) → OwnedFully network request actor → channel_number r.chan ≡ channel_number request.chan → r ≡ request) → OwnedFully network r actor
owns network actor tasks r all found named same =
    let is = owner-is network (channel_number r.chan) actor tasks all found named in
    let full = subst (OwnedFully network is.own.request) (sym is.same) is.own.full in
    subst (λ q. OwnedFully network q actor) (sym (same is.own.request full (sym is.own.chan))) full

script-owned : (network : Network) (actor : ℕ) (tasks : List Task) → AllOwned network → slice_get network.scripts actor ≡ Some tasks → Each (TaskOwned network actor) tasks
script-owned network actor tasks all found = Each-from_among (TaskOwned network actor) tasks one where
  own : (task : Task) → Among task tasks → (request : Request) → OwnedFully network request actor → OwnTask request task
  own task among request full = Each-among (OwnTask request) task tasks (script-own request tasks (full.own tasks found)) among

  one : (task : Task) → Among task tasks → TaskOwned network actor task
  one (Moves old new gap size) among = (
    owns network actor tasks old all found (λ off. (Each-among (TaskOff (channel_number old.chan)) (Moves old new gap size) tasks off among).0 refl) (λ request full same. ((own (Moves old new gap size) among request full).leaves same).0),
    owns network actor tasks new all found (λ off. (Each-among (TaskOff (channel_number new.chan)) (Moves old new gap size) tasks off among).1 refl) (λ request full. (own (Moves old new gap size) among request full).joins),
  )
  one _ among = tt

-- ---- the packets that were planned last

abbrev pub IsSmall : Request → List Learnt → Type 0
IsSmall request outcomes = (last_packets request.chan outcomes).size ≤ request.contract.smax

abbrev SmallIf : Request → Option Packets → Type 0
SmallIf request found = (packets_in found).size ≤ request.contract.smax

-- one note more
note-small : (request : Request) (note : Learnt) (outcomes : List Learnt) → (packets_by request.chan note ≡ None) ⊎ SmallIf request (packets_by request.chan note) → IsSmall request outcomes → IsSmall request (note ∷ outcomes)
unfolding last_packets newest
note-small request note outcomes told small = by (packets_by request.chan note) told where
  by : (found : Option Packets) → (found ≡ None) ⊎ SmallIf request found → SmallIf request (or_before found (newest (packets_by request.chan) outcomes))
  by None told = small
  by (Some packets) (inl none) = cc
  by (Some packets) (inr fits) = fits

one-small : (request : Request) → 1 ≤ request.contract.smax → IsSmall request []
unfolding last_packets newest
one-small request least = least

-- a note of packets of this size on a channel
abbrev pub packets_if : Bool → ℕ → ℕ → Option Packets
packets_if b gap size = if b then Some (record { gap = gap; size = size }) else None

on-small : (request : Request) (b : Bool) (gap size : ℕ) → (b ≡ true → size ≤ request.contract.smax) → (packets_if b gap size ≡ None) ⊎ SmallIf request (packets_if b gap size)
on-small request true gap size fits = inr (fits refl)
on-small request false gap size fits = inl refl

-- ---- where a caller stands

abbrev pub FirstSmall : List Task → Type 0
FirstSmall (Moves old new gap size ∷ tasks) = size ≤ old.contract.smax
FirstSmall _ = Unit {0}

pub record SizedAt (network : Network) (actor : ℕ) (at : Standing) : Type 0 where
  pub owned : Each (TaskOwned network actor) at.tasks
  pub notes : (request : Request) → RequestFits network.links request → OwnedFully network request actor → IsSmall request at.outcomes
  pub first : FirstSmall at.tasks

first-from : (network : Network) (actor : ℕ) (outcomes : List Learnt) (tasks : List Task) → Each (TaskOwned network actor) tasks → Each (TaskFits network.links) tasks → ((request : Request) → RequestFits network.links request → OwnedFully network request actor → IsSmall request outcomes) → FirstSmall (from_step outcomes tasks)
first-from network actor outcomes tasks owned fits notes =
    from-step-by (λ ts. Each (TaskOwned network actor) ts × Each (TaskFits network.links) ts) FirstSmall outcomes (λ none. tt) (λ task rest takes both. one rest task both.0.0 both.1.0) (λ task rest over both. (both.0.1, both.1.1)) tasks (owned, fits) where
      one : (rest : List Task) (t : Task) → TaskOwned network actor t → TaskFits network.links t → FirstSmall (ready outcomes t ∷ rest)
      one rest (Moves old new gap size) own fit = notes old fit.of_old own.0
      one rest _ own fit = tt

sized-begun : (network : Network) (actor : ℕ) (outcomes : List Learnt) (tasks : List Task) → Each (TaskFits network.links) tasks → Each (TaskOwned network actor) tasks → ((request : Request) → RequestFits network.links request → OwnedFully network request actor → IsSmall request outcomes) → SizedAt network actor (begun outcomes tasks)
sized-begun network actor outcomes tasks fits owned notes = record {
  owned = each-left (TaskOwned network actor) (ready-keeps (TaskOwned network actor) (λ old new gap size other_gap other_size own. own)) outcomes tasks owned;
  notes = notes;
  first = first-from network actor outcomes tasks owned fits notes;
}

-- ---- what a task tells

-- the size of the packets of a send
abbrev size_of : Task → ℕ
size_of (Sends link chan count gap size) = size
size_of task = 0

-- a submit that is planned is no larger than the contract
sent-small : (network : Network) (r : Request) (task : Task) (send : IsSendOn r task) (done : Done) (past : List Done) → NetworkFits network → RequestFits network.links r → ChannelAsked r past → IsRun network past → (next : IsNext network past done) → task_ask task [] ≡ Some (done.link, done.ask) → (clock : ℕ) → done.reply ≡ Is.Planned clock → send.size ≤ r.contract.smax
unfolding reply_at
sent-small network r task send done past fits sound asked run next asks clock planned =
    let once = once-asked send.hop.link (Submit r.chan send.count send.gap send.size) [] done.link done.ask (subst (λ t. task_ask t [] ≡ Some (done.link, done.ask)) send.is asks) in
    let here = hop-at network r 0 sound (slice_get_within r.route 0 send.hop send.stands) in
    let on : link_number done.link ≡ link_number here.hop.link = ap link_number (sym once.at) ∙ ap link_of (same_Some send.hop here.hop (sym send.stands ∙ here.stands)) in
    let reply = hop-reply network r 0 here done past next on ∙ ap (reply_at here.link (clock_of (part_of (link_number here.hop.link) past)) (scan_of here.link.shape (part_of (link_number here.hop.link) past))) (sym once.is) in
    let rows = (legal-sizes here.link.shape (terms_at r 0) (channel_number r.chan) (part_of (link_number here.hop.link) past) (part-admissible network past (link_number here.hop.link) here.link fits run here.linked) (asked.names 0 here.hop here.stands)).rows in
    by (clock_of (part_of (link_number here.hop.link) past)) (scan_of here.link.shape (part_of (link_number here.hop.link) past)).rows rows (find (is_row_at_hop r.chan true) (scan_of here.link.shape (part_of (link_number here.hop.link) past)).rows) refl (sym planned ∙ reply) where
      by : (t : ℕ) (rows : List Row) → Each (NamesContract (terms_at r 0) (channel_number r.chan)) rows → (found : Option Row) → find (is_row_at_hop r.chan true) rows ≡ found → Is.Planned clock ≡ submit_to t send.size found → send.size ≤ r.contract.smax
      by t rows names None none told = cc
      by t rows names (Some row) some told =
          let small = (submit-tells t send.size row.terms (length (left_at t row.plan)) clock told).2 in
          let contract : row.terms.contract ≡ r.contract = Each-find (NamesContract (terms_at r 0) (channel_number r.chan)) (is_row_at_hop r.chan true) rows row names some (row-at-hop r.chan row rows some) in
          let same : row.terms.contract.smax ≡ r.contract.smax = ap (λ k. k.smax) contract in
          omega (arith, small, same)

-- what is told of an owned channel is small
told-small : (network : Network) (actor : ℕ) (task : Task) (tasks : List Task) (replies : List Reply) (outcomes : List Learnt) (done : Done) (past : List Done) (request : Request) → NetworkFits network → TaskFits network.links task → IsRun network past → (next : IsNext network past done) → RequestFits network.links request → OwnedFully network request actor → FirstSmall (task ∷ tasks) → OwnTask request task → task_ask task replies ≡ Some (done.link, done.ask) → IsSmall request outcomes → IsSmall request (outcome_by task (replies ++ done.reply ∷ []) ++ outcomes)
told-small network actor task tasks replies outcomes done past request fits fit run next sound full first names asks small =
    once-over (IsSmall request) task (replies ++ done.reply ∷ []) outcomes
    (λ r outcome is told. note-small request (Settles r.chan outcome) outcomes (inl refl) small)
    (λ link chan count gap size clock rest is told. note-small request (PlannedOn chan gap size) outcomes
    (on-small request (is_that request.chan chan) gap size (λ on. sent link chan count gap size clock rest is told (eqb-true (channel_number chan) (channel_number request.chan) on))) small)
    (λ old new gap size told is moved. note-small request (MovedTo old.chan new.chan told gap size) outcomes
    (on-small request (is_that request.chan new.chan && not (nat_eq told.shifted 0)) gap size (λ on. joined old new gap size is (eqb-true (channel_number new.chan) (channel_number request.chan) (and_parts (is_that request.chan new.chan) (not (nat_eq told.shifted 0)) on).0))) small)
    small where
      sent : (link : LinkNo) (chan : ChanNo) (count gap size clock : ℕ) (rest : List Reply) → task ≡ Sends link (Some chan) count gap size → replies ++ done.reply ∷ [] ≡ Is.Planned clock ∷ rest → channel_number chan ≡ channel_number request.chan → size ≤ request.contract.smax
      sent link chan count gap size clock rest is told on =
          let send = (subst (OwnTask request) is names) on in
          let own : once_next link (Submit chan count gap size) replies ≡ Some (done.link, done.ask) = subst (λ t. task_ask t replies ≡ Some (done.link, done.ask)) is asks in
          let once = once-asked link (Submit chan count gap size) replies done.link done.ask own in
          let planned : done.reply ≡ Is.Planned clock = head-same done.reply [] (Is.Planned clock) rest (ap (λ rs. rs ++ done.reply ∷ []) (sym once.fresh) ∙ told) in
          let within = sent-small network request (Sends link (Some chan) count gap size) send done past fits sound (fully-asked network request actor fits sound full past run) run next (subst (λ rs. once_next link (Submit chan count gap size) rs ≡ Some (done.link, done.ask)) once.fresh own) clock planned in
          let same : size ≡ send.size = ap size_of send.is in
          omega (arith, within, same)

      joined : (old new : Request) (gap size : ℕ) → task ≡ Moves old new gap size → channel_number new.chan ≡ channel_number request.chan → size ≤ request.contract.smax
      joined old new gap size is on =
          let is-new : new ≡ request = (subst (OwnTask request) is names).joins on in
          let same : old.contract.smax ≡ request.contract.smax = ap (λ k. k.smax) (subst (TaskFits network.links) is fit).same ∙ ap (λ q. q.contract.smax) is-new in
          let within : size ≤ old.contract.smax = subst (λ t. FirstSmall (t ∷ tasks)) is first in
          omega (arith, within, same)

-- ---- every run

pub record RunSized (network : Network) (run : List Done) : Type 0 where
  pub at : (actor : ℕ) (tasks : List Task) → slice_get network.scripts actor ≡ Some tasks → SizedAt network actor (standing tasks (replies_to actor run))

-- what is known of the tasks that are left, before one begins
record SizedLeft (network : Network) (actor : ℕ) (outcomes : List Learnt) (tasks : List Task) : Type 0 where
  fits : Each (TaskFits network.links) tasks
  owned : Each (TaskOwned network actor) tasks
  notes : (request : Request) → RequestFits network.links request → OwnedFully network request actor → IsSmall request outcomes

sized-keeps : (network : Network) (actor : ℕ) (script : List Task) → NetworkFits network → AllOwned network → slice_get network.scripts actor ≡ Some script → KeptBySteps network actor script (λ run outcomes tasks. SizedLeft network actor outcomes tasks) (λ run at. SizedAt network actor at)
sized-keeps network actor script fits all found = record {
  first = record {
    fits = Each-at (Each (TaskFits network.links)) network.scripts actor script fits.tasks found;
    owned = script-owned network actor script all found;
    notes = λ request sound full. one-small request sound.contract.smax_least;
  };
  begins = λ run outcomes tasks left. sized-begun network actor outcomes tasks left.fits left.owned left.notes;
  off = λ past done at run next other was. was;
  goes = λ past done task rest replies outcomes to step more was. record { owned = was.owned; notes = was.notes; first = was.first };
  over = λ past done task rest replies outcomes step none was. (let fit = (step-stands network actor script past done task rest replies outcomes fits step).tasks in
      record {
        fits = fit.1;
        owned = was.owned.1;
        notes = λ request sound full. told-small network actor task rest replies outcomes done past request fits fit.0 step.run step.next sound full was.first (own-task network request actor script past done task rest replies outcomes full step) step.asks (was.notes request sound full);
      });
}

pub run-sized : (network : Network) (run : List Done) → NetworkFits network → AllOwned network → IsRun network run → RunSized network run
run-sized network run fits all is = record {
  at = λ actor tasks found. each-run network actor tasks found (λ past outcomes left. SizedLeft network actor outcomes left) (λ past at. SizedAt network actor at) (sized-keeps network actor tasks fits all found) run is;
}

-- the packets of a move under way fit the contract of the channel that it joins
pub first-small : (network : Network) (run : List Done) (actor : ℕ) (tasks : List Task) (old new : Request) (gap size : ℕ) (rest : List Task) (request : Request) → NetworkFits network → AllOwned network → IsRun network run → slice_get network.scripts actor ≡ Some tasks → OwnedFully network request actor → channel_number new.chan ≡ channel_number request.chan → (standing tasks (replies_to actor run)).tasks ≡ Moves old new gap size ∷ rest
    → size ≤ request.contract.smax
first-small network run actor tasks old new gap size rest request fits all is found full chan first =
    let at = (run-sized network run fits all is).at actor tasks found in
    let stands = (run-stands network run fits is).callers actor tasks found in
    let fit : Each (TaskFits network.links) (Moves old new gap size ∷ rest) = subst (Each (TaskFits network.links)) first stands.tasks in
    let small : size ≤ old.contract.smax = subst FirstSmall first at.first in
    let own : Each (OwnTask request) (Moves old new gap size ∷ rest) = subst (Each (OwnTask request)) first (standing-is network request actor tasks (replies_to actor run) full found) in
    let e : new ≡ request = own.0.joins chan in
    let same : old.contract.smax ≡ request.contract.smax = ap (λ k. k.smax) fit.0.same ∙ ap (λ q. q.contract.smax) e in
    omega (arith, small, same)
