-- In every run the levels of an accepted request keep what it asks for, and its delay is the sum over its route.
use Rattle.std.proofs.Common.{◌≡◌, ℕ, zero, suc, ◌-◌, List, [], ◌∷◌, length, Option, Some, None, sym, ◌∙◌, subst, inl, inr}
use Rattle.run_engine.proofs.Words.{cases_lt, slice_get, link_number, AreLevels, delay_over, Hop, Reply, RequestFits, Outcome, Accepts, verdict_of, offers_in, after_offers, on_the_way, undoing, relaxing, after_test, settled_in, reach_after, Request, NetworkFits, OwnedFully, Standing, standing, outcome_in, Network, Task, part_of, replies_to, Done, IsRun}
use Rattle.relaxation.specs.declared.EndDenial.{EndDenial}
use Rattle.setup_protocol.specs.declared.verdict.Deny.{Deny}
use Rattle.setup_protocol.proofs.SettledRequest.{accepted-keep}
use Rattle.setup_protocol.proofs.SetupAdvances.{progress-on_the_way, progress-tested}
use Rattle.interleave_core.specs.channels.Kept.{VerdictSums}
use Rattle.run_engine.proofs.Replies.RunCloses.{owned-once}
use Rattle.run_engine.proofs.Replies.RunGoes.{opens-once}
use Rattle.run_engine.proofs.Runs.RunLegal.{answered-may}
use Rattle.run_engine.proofs.Tasks.CallerAsksFit.{offers-go-on}
use Rattle.run_engine.proofs.Tasks.EachSetup.{SetupAt, Before, Under, After, KeptBySetup, each-setup}

undone-sum : (left : ℕ) (deny : Deny) (levels : List ℕ) (delay : ℕ) → settled_in (undoing left deny) ≡ Some (Accepts levels delay) → ⊥
undone-sum zero deny levels delay same = cc
undone-sum (suc left) deny levels delay same = cc

way-sum : (offers : List ℕ) (reach : ℕ) (rest : List Reply) (levels : List ℕ) (delay : ℕ) → settled_in (on_the_way offers reach rest) ≡ Some (Accepts levels delay) → ⊥
way-sum offers reach [] levels delay same = cc
way-sum offers reach (first ∷ denied) levels delay same = undone-sum (length offers - length denied) _ levels delay same

relaxed-sum : (route : List Hop) (left : ℕ) (own levels : List ℕ) (delay : ℕ) → settled_in (relaxing route left own) ≡ Some (Accepts levels delay) → delay ≡ delay_over route levels
relaxed-sum route zero own levels delay same = cc
relaxed-sum route (suc left) own levels delay same = absurd (let clash : None ≡ Some (Accepts levels delay) = same in cc)

tested-sum : (request : Request) (offers : List ℕ) (n : ℕ) (denial : Option EndDenial) (levels : List ℕ) (delay : ℕ) → settled_in (after_test request offers n denial) ≡ Some (Accepts levels delay) → delay ≡ delay_over request.route levels
tested-sum request offers n (Some denial) levels delay same = absurd (undone-sum (length request.route - n) _ levels delay same)
tested-sum request offers n None levels delay same = relaxed-sum request.route (length request.route - n) _ levels delay same

sum-of : (request : Request) (replies : List Reply) (levels : List ℕ) (delay : ℕ) → verdict_of request replies ≡ Some (Accepts levels delay) → delay ≡ delay_over request.route levels
sum-of request replies levels delay verdict =
    elim (cases_lt (length (offers_in replies)) (length request.route)) [
      | inl fewer ↦ absurd (way-sum (offers_in replies) (reach_after 0 request.route replies) (after_offers replies) levels delay (subst (λ p. settled_in p ≡ Some (Accepts levels delay)) (progress-on_the_way request replies fewer) verdict))
      | inr whole ↦ tested-sum request (offers_in replies) (length (after_offers replies)) _ levels delay (subst (λ p. settled_in p ≡ Some (Accepts levels delay)) (progress-tested request replies whole) verdict)
    ]

-- ---- every run

-- under way the offers are levels of their hops; an acceptance keeps the request
abbrev OffersAre : Request → List Done → List Reply → Type 0
OffersAre request run replies = AreLevels request.route (offers_in replies)

abbrev OutcomeKeeps : Request → List Done → Option Outcome → Type 0
OutcomeKeeps request run outcome = (levels : List ℕ) (delay : ℕ) → outcome ≡ Some (Accepts levels delay) → VerdictSums request levels delay

none-offered : (request : Request) → OffersAre request [] []
unfolding offers_in AreLevels
none-offered request = tt

verdict-keeps : (network : Network) (request : Request) (owner : ℕ) (script : List Task) → NetworkFits network → RequestFits network.links request → KeptBySetup network request owner script (λ run. Unit {0}) (OffersAre request) (OutcomeKeeps request)
verdict-keeps network request owner script fits sound = record {
  none = tt;
  before = λ past done run next mild none. tt;
  starts = λ run is none. none-offered request;
  under = λ past done rest replies outcomes step are. offers-go-on network.links request replies done.reply done.link done.ask step.next.link (part_of (link_number done.link) past) sound are step.asks step.next.linked (answered-may network past done fits step.run step.next);
  aside = λ past done replies run next other mild are. are;
  settles = λ run replies is none are levels delay verdict. record { keeps = accepted-keep request replies levels delay sound.bounds are verdict; sum = sum-of request replies levels delay verdict };
  after = λ past done outcome run next mild was. was;
}

kept-at : (request : Request) (run : List Done) (at : Standing) → SetupAt request (λ past. Unit {0}) (OffersAre request) (OutcomeKeeps request) run at → OutcomeKeeps request run (outcome_in request.chan at.outcomes)
kept-at request run at (Before opened begun quiet none) levels delay accepted = absurd (let clash : None ≡ Some (Accepts levels delay) = sym quiet ∙ accepted in cc)
kept-at request run at (Under rest is others quiet to more are) levels delay accepted = absurd (let clash : None ≡ Some (Accepts levels delay) = sym quiet ∙ accepted in cc)
kept-at request run at (After others keeps) levels delay accepted = keeps levels delay accepted

pub accepted-kept : (network : Network) (request : Request) (owner : ℕ) (run : List Done) (tasks : List Task) (levels : List ℕ) (delay : ℕ) → NetworkFits network → RequestFits network.links request → OwnedFully network request owner → IsRun network run → slice_get network.scripts owner ≡ Some tasks
    → outcome_in request.chan (standing tasks (replies_to owner run)).outcomes ≡ Some (Accepts levels delay) → VerdictSums request levels delay
accepted-kept network request owner run tasks levels delay fits sound full is found accepted =
    kept-at request run (standing tasks (replies_to owner run))
    (each-setup network request owner tasks found (opens-once network request owner (owned-once network request owner full)) (λ past. Unit {0}) (OffersAre request) (OutcomeKeeps request) (verdict-keeps network request owner tasks fits sound) run is)
    levels delay accepted
