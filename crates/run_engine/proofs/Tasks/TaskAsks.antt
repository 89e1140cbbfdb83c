-- What is asked by tasks that name another channel, or that don't open it: an ask of another channel, or one that neither reserves,
-- relaxes nor denies it.
use Rattle.std.proofs.Common.{◌≡◌, ◌≢◌, ℕ, List, length, Some, subst}
use Rattle.run_engine.proofs.Words.{slice_get, actor_number, channel_number, LinkNo, Ask, Reserve, Relax, Deny, Release, Reply, Each, IsOff, IsMild, progress_of, TaskOff, Learnt, packets_ask, move_between, task_ask, ready, from_step, standing, first_ask, Network, Task, Opens, Sends, Closes, Moves, Done, IsNext}
use Rattle.channel_move.proofs.AskByStage.{move-ask-is}
use Rattle.setup_protocol.proofs.HopAsks.{of-hop, of-setup}
use Rattle.call_script.proofs.TaskBegins.{ready-keeps}
use Rattle.run_engine.proofs.Runs.EachRun.{each-left, each-standing, first-asks, entry-asks}
use Rattle.run_engine.proofs.Tasks.SingleAskTask.{once-asked, packets-hold, packets-off}

-- ---- tasks that name another channel

pub task-off : (c : ℕ) (task : Task) (replies : List Reply) (to : LinkNo) (ask : Ask) → TaskOff c task → task_ask task replies ≡ Some (to, ask) → IsOff c ask
task-off c (Opens request) replies to ask off same = of-setup (IsOff c) request (progress_of request replies) to ask (λ offers reach. off) off (λ levels place. off) same
task-off c (Sends link chan count gap size) replies to ask off same = subst (IsOff c) (once-asked link (packets_ask chan count gap size) replies to ask same).is (packets-off c chan count gap size off)
task-off c (Moves old new gap size) replies to ask off same = move-ask-is (IsOff c) (move_between old new gap size) replies to ask (λ upstream. off.0) (λ count. off.1) same
task-off c (Closes request) replies to ask off same = of-hop (IsOff c) (slice_get request.route (length replies)) (λ hop. Release request.chan _) to ask (λ hop. off) same

pub ready-off : (c : ℕ) (outcomes : List Learnt) (task : Task) → TaskOff c task → TaskOff c (ready outcomes task)
ready-off c outcomes task off = ready-keeps (TaskOff c) (λ old new gap size other_gap other_size same. same) outcomes task off

pub off-from : (c : ℕ) (outcomes : List Learnt) (tasks : List Task) → Each (TaskOff c) tasks → Each (TaskOff c) (from_step outcomes tasks)
off-from c outcomes tasks each = each-left (TaskOff c) (ready-off c) outcomes tasks each

pub off-standing : (c : ℕ) (tasks : List Task) (replies : List Reply) → Each (TaskOff c) tasks → Each (TaskOff c) (standing tasks replies).tasks
off-standing c tasks replies each = each-standing (TaskOff c) (ready-off c) tasks replies each

-- an entry of the plane, or of an actor whose tasks all do
pub entry-off : (network : Network) (c : ℕ) (past : List Done) (done : Done) → IsNext network past done → ((tasks : List Task) → slice_get network.scripts (actor_number done.actor) ≡ Some tasks → Each (TaskOff c) tasks) → IsOff c done.ask
entry-off network c past done next each = entry-asks (IsOff c) (TaskOff c) (ready-off c) tt (λ packet. tt) (task-off c) network past done next each

-- ---- tasks that don't open the channel

abbrev pub IsNoOpeningOf : ℕ → Task → Type 0
IsNoOpeningOf c (Opens request) = channel_number request.chan ≢ c
IsNoOpeningOf c _ = Unit {0}

pub ready-other : (c : ℕ) (outcomes : List Learnt) (task : Task) → IsNoOpeningOf c task → IsNoOpeningOf c (ready outcomes task)
ready-other c outcomes task other = ready-keeps (IsNoOpeningOf c) (λ old new gap size other_gap other_size same. same) outcomes task other

-- those that name another one don't
pub off-other : (c : ℕ) (task : Task) → TaskOff c task → IsNoOpeningOf c task
off-other c (Opens request) off = off
off-other c _ off = tt

pub off-mild : (c : ℕ) (ask : Ask) → IsOff c ask → IsMild c ask
off-mild c (Reserve chan contract kind delay up_reach first next) off = off
off-mild c (Relax chan level up_bound) off = off
off-mild c (Deny chan) off = off
off-mild c _ off = tt

pub task-mild : (c : ℕ) (task : Task) (replies : List Reply) (to : LinkNo) (ask : Ask) → IsNoOpeningOf c task → task_ask task replies ≡ Some (to, ask) → IsMild c ask
task-mild c (Opens request) replies to ask other same = of-setup (IsMild c) request (progress_of request replies) to ask (λ offers reach. other) other (λ levels place. other) same
task-mild c (Sends link chan count gap size) replies to ask other same =
    subst (IsMild c) (once-asked link (packets_ask chan count gap size) replies to ask same).is (packets-hold (IsMild c) chan count gap size (λ own. tt) tt)
task-mild c (Moves old new gap size) replies to ask other same = move-ask-is (IsMild c) (move_between old new gap size) replies to ask (λ upstream. tt) (λ count. tt) same
task-mild c (Closes request) replies to ask other same = of-hop (IsMild c) (slice_get request.route (length replies)) (λ hop. Release request.chan _) to ask (λ hop. tt) same

pub mild-tasks : (c : ℕ) (tasks : List Task) (replies : List Reply) (to : LinkNo) (ask : Ask) → Each (IsNoOpeningOf c) tasks → first_ask tasks replies ≡ Some (to, ask) → IsMild c ask
mild-tasks c tasks replies to ask others same = first-asks (IsMild c) (IsNoOpeningOf c) (task-mild c) tasks replies to ask others same

pub others-from : (c : ℕ) (outcomes : List Learnt) (tasks : List Task) → Each (IsNoOpeningOf c) tasks → Each (IsNoOpeningOf c) (from_step outcomes tasks)
others-from c outcomes tasks each = each-left (IsNoOpeningOf c) (ready-other c) outcomes tasks each

pub entry-mild : (network : Network) (c : ℕ) (past : List Done) (done : Done) → IsNext network past done → ((tasks : List Task) → slice_get network.scripts (actor_number done.actor) ≡ Some tasks → Each (IsNoOpeningOf c) tasks) → IsMild c done.ask
entry-mild network c past done next each = entry-asks (IsMild c) (IsNoOpeningOf c) (ready-other c) tt (λ packet. tt) (task-mild c) network past done next each
