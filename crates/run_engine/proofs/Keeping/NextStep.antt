-- The next step of a run is made: what is asked meets the conditions of the link, the entry is the next of the run, and what is kept
-- stands for the run with it.
use Rattle.std.proofs.Common.{◌≡◌, ◌≢◌, ℕ, suc, ◌+◌, ◌<◌, ◌≤◌, Some, List, [], ◌∷◌, ◌++◌, length, take, get_or, reverse, refl, sym, ap, ◌∙◌, subst, nat_le, ◌&&◌, arith}
use Rattle.std.proofs.lemmas.Bool.{and_parts}
use Rattle.run_engine.proofs.Words.{leb-true, length-map, reverse-append, slice_get_within, slice_get, link_number, actor_number, ActorNo, LinkNo, any_rules, AnyStands, AnyLink, AskFits, reply_to, Ask, Entry, Reply, PlanParts, IsPlan, entry_link, groups_in, network_of, next_for, IsNext, IsRun, entry_of, part_of, replies_to, Done}
use Rattle.call_script.proofs.PlansFit.{plan-fits}
use Rattle.call_script.proofs.RulesAreKept.{keeps-rules}
use Rattle.call_script.proofs.Walks.{before-at}
use Rattle.call_script.specs.Rules.{are_few}
use Rattle.run_engine.specs.runs.Linked.{IsLinkThere}
use Rattle.run_engine.specs.schedules.Standing.{LinksStand}
use Rattle.run_engine.proofs.Tasks.LinksAsked.{asks-linked}
use Rattle.run_engine.proofs.Keeping.KeptLinks.{links-with}
use Rattle.run_engine.proofs.Keeping.Lookups.{held}
use Rattle.run_engine.proofs.Runs.RunLegal.{asked-fits, part-on, part-off, replies-by, replies-off}
use Rattle.run_record.specs.Entries.{Entries}

-- a plan has at most 64 callers
pub callers-few : (parts : PlanParts) → IsPlan parts → length parts.callers ≤ 64
unfolding are_few
callers-few parts plan =
    let rules = keeps-rules parts plan.kept in
    let counts = and_parts (nat_le (length parts.links) 32 && nat_le (length parts.callers) 64) (nat_le (length parts.requests) 1024) rules.few in
    let callers = and_parts (nat_le (length parts.links) 32) (nat_le (length parts.callers) 64) counts.0 in
    leb-true (length parts.callers) 64 callers.1

-- how many links and rounds a plan has
pub record HasFew (parts : PlanParts) : Type 0 where
  pub some : 1 ≤ length parts.links
  pub few : length parts.links ≤ 32
  pub rounds : parts.rounds + parts.tail ≤ 1048576

pub has-few : (parts : PlanParts) → IsPlan parts → HasFew parts
unfolding network_of
has-few parts plan =
    let fits = plan-fits parts plan in
    let same = length-map parts.links (entry_link (groups_in parts)) in
    record { some = omega (arith, fits.some, same); few = omega (arith, fits.few, same); rounds = fits.rounds }

-- ---- the link that is asked

pub asked-within : (parts : PlanParts) (links : List AnyLink) (past : List Done) (actor : ℕ) (to : LinkNo) (ask : Ask) → IsPlan parts → IsRun (network_of parts) past → LinksStand (network_of parts).links links past → next_for (network_of parts) actor past ≡ Some (to, ask) → link_number to < length links
asked-within parts links past actor to ask plan run stand asked =
    let there : IsLinkThere (network_of parts).links to = asks-linked (network_of parts) past actor to ask (plan-fits parts plan) run asked in
    let within = slice_get_within (network_of parts).links (link_number to) there.link there.found in
    omega (arith, within, stand.same)

-- the entry is the next step, where the reply is that of its link
pub next-of : (parts : PlanParts) (links : List AnyLink) (past : List Done) (actor : ActorNo) (to : LinkNo) (ask : Ask) (reply : Reply) (link : AnyLink) → LinksStand (network_of parts).links links past → next_for (network_of parts) (actor_number actor) past ≡ Some (to, ask)
    → slice_get links (link_number to) ≡ Some link → reply ≡ reply_to (any_rules link) (part_of (link_number to) past) ask → IsNext (network_of parts) past (record { actor = actor; link = to; ask = ask; reply = reply })
next-of parts links past actor to ask reply link stand asked found answered = record { link = any_rules link; linked = stand.linked (link_number to) link found; asked = asked; answered = answered }

pub fits-at : (parts : PlanParts) (links : List AnyLink) (past : List Done) (actor : ActorNo) (to : LinkNo) (ask : Ask) (link : AnyLink) → IsPlan parts → IsRun (network_of parts) past → LinksStand (network_of parts).links links past → next_for (network_of parts) (actor_number actor) past ≡ Some (to, ask)
    → slice_get links (link_number to) ≡ Some link → AskFits (any_rules link).shape ask
unfolding next-of
fits-at parts links past actor to ask link plan run stand asked found =
    let reply = reply_to (any_rules link) (part_of (link_number to) past) ask in
    asked-fits (network_of parts) past (record { actor = actor; link = to; ask = ask; reply = reply }) (plan-fits parts plan) run (next-of parts links past actor to ask reply link stand asked found refl)

-- so it is by what the link's step says
pub next-by : (parts : PlanParts) (links : List AnyLink) (past : List Done) (actor : ActorNo) (to : LinkNo) (ask : Ask) (reply : Reply) (number : ℕ) → IsPlan parts → IsRun (network_of parts) past → LinksStand (network_of parts).links links past → next_for (network_of parts) (actor_number actor) past ≡ Some (to, ask)
    → link_number to ≡ number → ((link : AnyLink) (h : List Entry) → slice_get links number ≡ Some link → AnyStands link h → reply ≡ reply_to (any_rules link) h ask) → IsNext (network_of parts) past (record { actor = actor; link = to; ask = ask; reply = reply })
next-by parts links past actor to ask reply number plan run stand asked is legal =
    let was = held links (link_number to) (asked-within parts links past (actor_number actor) to ask plan run stand asked) in
    next-of parts links past actor to ask reply was.item stand asked was.found
    (legal was.item (part_of (link_number to) past) (ap (slice_get links) (sym is) ∙ was.found) (stand.parts (link_number to) was.item was.found))

-- the links after it
pub links-stepped : (parts : PlanParts) (old new : List AnyLink) (past : List Done) (done : Done) (number : ℕ) → LinksStand (network_of parts).links old past → link_number done.link ≡ number → length new ≡ length old → ((n : ℕ) → n ≢ number → slice_get new n ≡ slice_get old n)
    → ((link next : AnyLink) → slice_get old number ≡ Some link → slice_get new number ≡ Some next → any_rules next ≡ any_rules link)
    → ((link next : AnyLink) (h : List Entry) → slice_get old number ≡ Some link → slice_get new number ≡ Some next → AnyStands link h → AnyStands next (entry_of done ∷ h)) → LinksStand (network_of parts).links new (done ∷ past)
links-stepped parts old new past done number stand is long others same entered =
    links-with (network_of parts).links old new number past (done ∷ past) long others same (λ n other. part-off n done past (λ on. other (sym on ∙ is)))
    (λ link next found after stands. subst (AnyStands next) (sym (part-on number done past is)) (entered link next (part_of number past) found after stands)) stand

-- ---- the ask

-- what is known where the link of this number is asked
pub record Asking (parts : PlanParts) (links : List AnyLink) (past : List Done) (actor : ActorNo) (to : LinkNo) (ask : Ask) (number : ℕ) : Type 0 where
  pub plan : IsPlan parts
  pub run : IsRun (network_of parts) past
  pub stand : LinksStand (network_of parts).links links past
  pub asked : next_for (network_of parts) (actor_number actor) past ≡ Some (to, ask)
  pub is : link_number to ≡ number

-- before any step
pub fresh-run : (parts : PlanParts) → IsRun (network_of parts) []
unfolding IsRun
fresh-run parts = tt

pub recorded : (old ready new : Entries) (done : Done) (spare left : ℕ) → ready ≡ record old { spare = spare } → new ≡ record { entries = ready.entries ++ done ∷ []; spare = left } → reverse new.entries ≡ done ∷ reverse old.entries
recorded old ready new done spare left kept pushed =
    ap (λ (e : Entries). reverse e.entries) pushed ∙ ap (λ (e : Entries). reverse (e.entries ++ done ∷ [])) kept ∙ reverse-append old.entries (done ∷ [])

-- ---- the steps of an actor

pub steps-same : (actor : ActorNo) (entries : List Done) (i made : ℕ) (done : Done) → i < length entries → done ≡ get_or entries i done → made ≡ length (replies_to (actor_number actor) (reverse (take i entries))) → actor_number done.actor ≡ actor_number actor
    → made + 1 ≡ length (replies_to (actor_number actor) (reverse (take (i + 1) entries)))
steps-same actor entries i made done within is so same =
    let more : reverse (take (i + 1) entries) ≡ done ∷ reverse (take i entries) = ap reverse (before-at entries i done within is) ∙ reverse-append (take i entries) (done ∷ []) in
    let one : suc made ≡ made + 1 = omega arith in
    sym one ∙ ap suc so ∙ ap length (sym (replies-by (actor_number actor) done (reverse (take i entries)) same)) ∙ ap (λ run. length (replies_to (actor_number actor) run)) (sym more)

pub steps-other : (actor : ActorNo) (entries : List Done) (i made : ℕ) (done : Done) → i < length entries → done ≡ get_or entries i done → made ≡ length (replies_to (actor_number actor) (reverse (take i entries))) → actor_number done.actor ≢ actor_number actor
    → made ≡ length (replies_to (actor_number actor) (reverse (take (i + 1) entries)))
steps-other actor entries i made done within is so other =
    let more : reverse (take (i + 1) entries) ≡ done ∷ reverse (take i entries) = ap reverse (before-at entries i done within is) ∙ reverse-append (take i entries) (done ∷ []) in
    so ∙ ap length (sym (replies-off (actor_number actor) done (reverse (take i entries)) other)) ∙ ap (λ run. length (replies_to (actor_number actor) run)) (sym more)
