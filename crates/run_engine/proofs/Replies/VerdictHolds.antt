-- In every run what a request has come to is the verdict over the replies to its setup.
use Rattle.std.proofs.Common.{◌≡◌, ℕ, ◌≤◌, true, false, List, [], ◌∷◌, ◌++◌, length, Option, Some, None, refl, sym, ap, ◌∙◌}
use Rattle.run_engine.proofs.Words.{eq-eqb, ne_eqb, slice_get, channel_number, LinkNo, Ask, Reserve, Relax, Deny, Reply, IsMild, Outcome, Progress, Settled, asked, progress_of, settled_in, verdict_of, Request, Standing, standing, outcome_in, Network, Task, replies_to, Done, IsRun}
use Rattle.setup_protocol.proofs.HopAsks.{of-setup}
use Rattle.setup_protocol.proofs.SetupAdvances.{none-settled}
use Rattle.run_engine.specs.runs.Laws.{VerdictsFollowTheReplies}
use Rattle.run_engine.specs.replies.Verdicts.{is_setup_ask, setup_replies}
use Rattle.run_engine.proofs.Replies.RunCloses.{owned-once}
use Rattle.run_engine.proofs.Replies.RunGoes.{OwnedOnce, opens-once}
use Rattle.run_engine.proofs.Tasks.EachSetup.{SetupAt, Before, Under, After, KeptBySetup, each-setup}

-- ---- which entries count

mild-ask : (c : ℕ) (ask : Ask) → IsMild c ask → is_setup_ask c ask ≡ false
mild-ask c (Reserve chan contract kind delay up_reach first next) mild = ne_eqb (channel_number chan) c mild
mild-ask c (Relax chan level up_bound) mild = ne_eqb (channel_number chan) c mild
mild-ask c (Deny chan) mild = ne_eqb (channel_number chan) c mild
mild-ask c _ mild = refl

setup-ask : (request : Request) (p : Progress) (to : LinkNo) (ask : Ask) → asked request p ≡ Some (to, ask) → is_setup_ask (channel_number request.chan) ask ≡ true
setup-ask request p to ask same = (let own = eq-eqb (channel_number request.chan) (channel_number request.chan) refl in of-setup (λ a. is_setup_ask (channel_number request.chan) a ≡ true) request p to ask (λ offers reach. own) own (λ levels place. own) same)

replies-kept : (c : ℕ) (done : Done) (past : List Done) → IsMild c done.ask → setup_replies c (done ∷ past) ≡ setup_replies c past
unfolding setup_replies
replies-kept c done past mild = rw (mild-ask c done.ask mild) refl

replies-more : (c : ℕ) (done : Done) (past : List Done) → is_setup_ask c done.ask ≡ true → setup_replies c (done ∷ past) ≡ setup_replies c past ++ done.reply ∷ []
unfolding setup_replies
replies-more c done past is = rw is refl

-- no verdict while an ask is left
unsettled : (request : Request) (p : Progress) (to : LinkNo × Ask) → asked request p ≡ Some to → settled_in p ≡ None
unsettled request (Settled outcome) to same = cc
unsettled request _ to same = refl

-- ---- where the owner stands

-- before its setup there are no replies to one; then they are those that the owner got, and the outcome is theirs
abbrev NoReplies : Request → List Done → Type 0
NoReplies request run = setup_replies (channel_number request.chan) run ≡ []

abbrev RepliesAre : Request → List Done → List Reply → Type 0
RepliesAre request run replies = setup_replies (channel_number request.chan) run ≡ replies

abbrev IsVerdict : Request → List Done → Option Outcome → Type 0
IsVerdict request run outcome = outcome ≡ verdict_of request (setup_replies (channel_number request.chan) run)

abbrev pub VerdictAt : Request → List Done → Standing → Type 0
VerdictAt request run at = SetupAt request (NoReplies request) (RepliesAre request) (IsVerdict request) run at

-- so the outcome is that of the replies
verdict-at : (request : Request) (run : List Done) (at : Standing) → 1 ≤ length request.route → VerdictAt request run at → outcome_in request.chan at.outcomes ≡ verdict_of request (setup_replies (channel_number request.chan) run)
verdict-at request run at some (Before opened begun quiet none) = quiet ∙ sym (ap (verdict_of request) none ∙ none-settled request some)
verdict-at request run at some (Under rest is others quiet to more same) = quiet ∙ sym (ap (verdict_of request) same ∙ unsettled request (progress_of request at.replies) to more)
verdict-at request run at some (After others same) = same

-- ---- every run

none-replied : (request : Request) → NoReplies request []
unfolding setup_replies
none-replied request = refl

verdict-keeps : (network : Network) (request : Request) (owner : ℕ) (script : List Task) → KeptBySetup network request owner script (NoReplies request) (RepliesAre request) (IsVerdict request)
verdict-keeps network request owner script = record {
  none = none-replied request;
  before = λ past done run next mild none. replies-kept (channel_number request.chan) done past mild ∙ none;
  starts = λ run is none. none;
  under = λ past done rest replies outcomes step same. replies-more (channel_number request.chan) done past (setup-ask request (progress_of request replies) done.link done.ask step.asks) ∙ ap (λ rs. rs ++ done.reply ∷ []) same;
  aside = λ past done replies run next other mild same. replies-kept (channel_number request.chan) done past mild ∙ same;
  settles = λ run replies is none same. ap (verdict_of request) (sym same);
  after = λ past done outcome run next mild same. same ∙ ap (verdict_of request) (sym (replies-kept (channel_number request.chan) done past mild));
}

pub verdict-run : (network : Network) (request : Request) (owner : ℕ) (tasks : List Task) (run : List Done) → OwnedOnce network request owner → slice_get network.scripts owner ≡ Some tasks → IsRun network run → VerdictAt request run (standing tasks (replies_to owner run))
verdict-run network request owner tasks run once found is =
    each-setup network request owner tasks found (opens-once network request owner once) (NoReplies request) (RepliesAre request) (IsVerdict request) (verdict-keeps network request owner tasks) run is

pub verdicts-follow : VerdictsFollowTheReplies
verdicts-follow network request owner tasks run sound full is found =
    verdict-at request run (standing tasks (replies_to owner run)) sound.route.least (verdict-run network request owner tasks run (owned-once network request owner full) found is)
