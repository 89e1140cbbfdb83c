-- What is kept of a run after quiet rounds: the clocks and the step counts go on, and all else stays.
use Rattle.std.proofs.Common.{◌≡◌, ℕ, zero, suc, ◌+◌, ◌*◌, ◌^◌, ◌<◌, ◌≤◌, Bool, List, [], ◌∷◌, length, get_or, set, reverse, refl, sym, ap, ◌∙◌, subst, arith}
use Rattle.std.proofs.lemmas.List.{reverse-append}
use Rattle.net_units.specs.declared.numbers.ActorNo.{ActorNo}
use Rattle.link_steps.specs.declared.asks.Ask.TheVariants.{Tick}
use Rattle.link_steps.specs.declared.replies.Entry.{Entry}
use Rattle.link_steps.specs.Quiet.{quiet_reply, quiet_ticks}
use Rattle.call_script.proofs.PlansFit.{plan-fits, links-are}
use Rattle.call_script.specs.Parts.{PlanParts}
use Rattle.call_script.specs.Tasks.{Network, network_of}
use Rattle.call_script.specs.declared.entries.RequestEntry.{RequestEntry}
use Rattle.run_engine.specs.schedules.Quiet.{quiet_step, quiet_round, quiet_rounds, the_plane, rested, GoesOnAtRest}
use Rattle.run_engine.specs.runs.Runs.{plane_no, plane_at}
use Rattle.run_engine.specs.schedules.Watching.{IsRestSeen}
use Rattle.run_engine.proofs.Keeping.KeptActors.{plane-number}
use Rattle.run_engine.proofs.Watched.QuietRounds.{plane-is, quiet-rounds}
use Rattle.run_engine.proofs.Runs.RunLegal.{replies-by}
use Rattle.run_engine.proofs.Runs.RunLength.{run-short}
use Rattle.run_engine.proofs.Keeping.NextStep.{callers-few}
use Rattle.run_record.specs.Hops.{AreHops, AreOffered, hops_at}
use Rattle.run_record.specs.Rows.{departures_in, links_of}
use Rattle.run_record.specs.Runs.{part_of, replies_to}
use Rattle.run_record.specs.declared.done.Done.{Done}
use Rattle.run_record.specs.declared.hops.Hops.{Hops}
use Rattle.run_record.specs.declared.rows.HopRow.{HopRow}
use Rattle.run_record.proofs.OfferPlaces.{links-push}
use Rattle.channel_report.specs.ChannelTallies.{AreChannelTallies}
use Rattle.channel_report.specs.Flows.{AreFlows}
use Rattle.channel_report.specs.KeptRows.{AreKeptIf}
use Rattle.channel_report.specs.StepCounts.{AreStepCounts}
use Rattle.channel_report.specs.Tallied.{IsTallied}
use Rattle.channel_report.specs.Tallies.{AreLinkTallies, HaveRested, IsTally, ticks_later}
use Rattle.channel_report.specs.declared.channel_tally.ChannelTally.{ChannelTally}
use Rattle.channel_report.specs.declared.flow.Flow.{Flow}
use Rattle.channel_report.specs.declared.link_tally.LinkTally.{LinkTally}
use Rattle.channel_report.specs.declared.tally.Tally.{Tally}
use Rattle.channel_report.proofs.ChannelTallies.{sources-same}
use Rattle.channel_report.proofs.FlowsKept.{flows-stay}
use Rattle.channel_report.proofs.RowsStayKept.{row-none}
use Rattle.channel_report.proofs.CountsPerLink.{are-small, tally-more}
use Rattle.channel_report.proofs.LinkTallies.{part-short}
use Rattle.channel_report.proofs.StepTallies.{replies-few, steps-by}
use Rattle.std.proofs.lemmas.Option.{none-some}

-- ---- what no quiet tick changes

-- what holds of a run, and goes on with each quiet tick, holds after quiet rounds
module _ (P : List Done → Type 0) (plane : ActorNo) (more : (t n : ℕ) (past : List Done) → P past → P (quiet_step plane t n ∷ past)) where
  through-round : (t links : ℕ) (run : List Done) → P run → P (quiet_round plane t links run)
  unfolding quiet_round
  through-round t zero run holds = holds
  through-round t (suc links) run holds = more t links (quiet_round plane t links run) (through-round t links run holds)

  pub through-rounds : (links t n : ℕ) (run : List Done) → P run → P (quiet_rounds plane links t n run)
  unfolding quiet_rounds
  through-rounds links t zero run holds = holds
  through-rounds links t (suc n) run holds = through-round (t + n) links (quiet_rounds plane links t n run) (through-rounds links t n run holds)

-- the sources
sources-rest : (requests : List RequestEntry) (tallies : List ChannelTally) (plane : ActorNo) (t n : ℕ) (past : List Done) → AreChannelTallies requests past tallies → AreChannelTallies requests (quiet_step plane t n ∷ past) tallies
sources-rest requests tallies plane t n past are = sources-same requests past (quiet_step plane t n) tallies are (λ k entry chan found on of own. none-some _ of)

-- the hops
links-rest : (c : ℕ) (plane : ActorNo) (t n : ℕ) (past : List Done) → links_of c (reverse (quiet_step plane t n ∷ past)) ≡ links_of c (reverse past)
links-rest c plane t n past = ap (links_of c) (reverse-append (quiet_step plane t n ∷ []) past) ∙ links-push c (reverse past) (quiet_step plane t n)

hops-rest : (table : List Hops) (plane : ActorNo) (t n : ℕ) (past : List Done) → AreHops (reverse past) table → AreHops (reverse (quiet_step plane t n ∷ past)) table
hops-rest table plane t n past are c = subst (λ links. AreOffered links (hops_at table c)) (sym (links-rest c plane t n past)) (are c)

-- the flows
flows-rest : (requests : List RequestEntry) (flows : List Flow) (plane : ActorNo) (t n : ℕ) (past : List Done) → ((whole : List Done) → AreFlows requests (reverse (departures_in whole (reverse past))) flows) → (whole : List Done) → AreFlows requests (reverse (departures_in whole (reverse (quiet_step plane t n ∷ past)))) flows
flows-rest requests flows plane t n past are = flows-stay requests past (quiet_step plane t n) flows (λ run. refl) are

-- the rows
rows-rest : (packets : Bool) (rows : List HopRow) (plane : ActorNo) (t n : ℕ) (past : List Done) → AreKeptIf packets (reverse past) rows → AreKeptIf packets (reverse (quiet_step plane t n ∷ past)) rows
rows-rest packets rows plane t n past kept =
    subst (λ entries. AreKeptIf packets entries rows) (sym (reverse-append (quiet_step plane t n ∷ []) past)) (row-none packets (reverse past) (quiet_step plane t n) rows (λ run. refl) kept)

-- ---- how many steps there are

-- a count with one more each tick has all of them more
module _ (count : List Done → ℕ) (plane : ActorNo) (one : (t n : ℕ) (past : List Done) → count (quiet_step plane t n ∷ past) ≡ suc (count past)) where
  round-counts : (t links : ℕ) (run : List Done) → count (quiet_round plane t links run) ≡ links + count run
  unfolding quiet_round
  round-counts t zero run = omega arith
  round-counts t (suc links) run = (let more = one t links (quiet_round plane t links run) in let rest = round-counts t links run in omega (arith, more, rest))

  rounds-count : (links t n : ℕ) (run : List Done) → count (quiet_rounds plane links t n run) ≡ n * links + count run
  unfolding quiet_rounds
  rounds-count links t zero run = omega arith
  rounds-count links t (suc n) run =
      let more = round-counts (t + n) links (quiet_rounds plane links t n run) in
      let rest = rounds-count links t n run in
      omega (arith, more, rest)

rested-length : (network : Network) (n : ℕ) (run : List Done) → length (rested network n run) ≡ n * length network.links + length run
rested-length network n run = rounds-count length (the_plane network) (λ t k past. refl) (length network.links) (plane_at network run).round n run

rested-replies : (network : Network) (n : ℕ) (run : List Done) → plane_no network ≤ 64 → length (replies_to (plane_no network) (rested network n run)) ≡ n * length network.links + length (replies_to (plane_no network) run)
rested-replies network n run few =
    rounds-count (λ past. length (replies_to (plane_no network) past)) (the_plane network) (λ t k past. ap length (replies-by (plane_no network) (quiet_step (the_plane network) t k) past (plane-is network few)))
    (length network.links) (plane_at network run).round n run

steps-rest : (network : Network) (n : ℕ) (run : List Done) (old : List ℕ) (more : ℕ) → plane_no network ≤ 64 → GoesOnAtRest network n run → AreStepCounts run old → ((d : ℕ) → more ≡ get_or old (plane_no network) d + n * length network.links) → AreStepCounts (rested network n run) (set old (plane_no network) more)
steps-rest network n run old more few goes are is =
    let own = rested-replies network n run few in
    steps-by run (rested network n run) old (plane_no network) (n * length network.links) more (omega (arith, few)) are (omega (arith, own)) goes.callers is

-- ---- the counts of a link

tally-rests : (n t : ℕ) (h : List Entry) (tally : LinkTally) → IsTally h tally → IsTally (quiet_ticks n t h) (ticks_later n tally)
unfolding quiet_ticks
tally-rests zero t h tally is = subst (IsTally h) (let same : tally.clock ≡ tally.clock + 0 = omega arith in ap (λ clock. record tally { clock = clock }) same) is
tally-rests (suc n) t h tally is =
    tally-more (quiet_ticks n t h) Tick (quiet_reply (t + n)) (ticks_later n tally) (tally.clock + suc n) tally.sent tally.dropped tally.best_sent tally.best_lost tally.pours_refused (tally-rests n t h tally is)
    (omega arith) (omega arith) (omega arith) (omega arith) (omega arith) (omega arith) (omega arith)

-- one of them
pub tally-passed : (t : ℕ) (h : List Entry) (tally : LinkTally) → IsTally h tally → IsTally (record { ask = Tick; reply = quiet_reply t } ∷ h) (ticks_later 1 tally)
unfolding quiet_ticks
tally-passed t h tally is = (let same : t + 0 ≡ t = omega arith in subst (λ (n : ℕ). IsTally (record { ask = Tick; reply = quiet_reply n } ∷ h) (ticks_later 1 tally)) same (tally-rests 1 t h tally is))

links-rested : (network : Network) (n : ℕ) (run : List Done) (old new : List LinkTally) → GoesOnAtRest network n run → AreLinkTallies (length network.links) run old → HaveRested n old new → AreLinkTallies (length network.links) (rested network n run) new
links-rested network n run old new goes are have = record {
  all = have.same ∙ are.all;
  tells = λ k d inside.
      subst (λ h. IsTally h (get_or new k d)) (sym (goes.parts k inside))
      (subst (IsTally (quiet_ticks n (plane_at network run).round (part_of k run))) (sym (have.each k d (omega (arith, are.all, inside)))) (tally-rests n (plane_at network run).round (part_of k run) (get_or old k d) (are.tells k d inside)));
}

-- ---- a tally

module _ (parts : PlanParts) (tally : Tally) (past : List Done) (first n : ℕ) (next : IsRestSeen (λ (t : Tally) ps run. IsTallied ps run t) parts tally past first n) where
  abbrev network : Network
  network = network_of parts

  pub plane-few : plane_no network ≤ 64
  plane-few = (let same = plane-number parts in let few = callers-few parts next.plan in omega (arith, same, few))

  goes : GoesOnAtRest network n past
  goes = quiet-rounds network n past (plan-fits parts next.plan) plane-few next.run next.rests

  -- the run with the rounds is short too
  pub rested-short : n * length parts.links + length past < 2 ^ 60
  rested-short =
      let short = run-short parts (rested network n past) next.plan goes.is_run in
      let long = rested-length network n past in
      subst (λ links. n * links + length past < 2 ^ 60) (links-are parts) (omega (arith, short, long))

  -- and its clocks are small
  pub clocks-small : (k : ℕ) (d : LinkTally) → k < length tally.links.items → (get_or tally.links.items k d).clock + n < 2 ^ 62
  clocks-small k d within =
      let all = next.seen.links.all in
      let small = are-small (part_of k past) (get_or tally.links.items k d) (next.seen.links.tells k d (omega (arith, within, all))) (let short = run-short parts past next.plan next.run in let part = part-short k past in omega (arith, short, part)) in
      let clock = small.clock in
      let left = next.rests.plane.left in
      let few = (plan-fits parts next.plan).rounds in
      omega (arith, clock, left, few)

  -- so are the counts of steps
  pub counts-small : (place d : ℕ) → place < 65 → get_or tally.made.items place d + n * length parts.links < 2 ^ 60
  counts-small place d inside = (let told = next.seen.made.tells place d inside in let few = replies-few place past in let short = rested-short in omega (arith, told, few, short))

  pub tally-rested : (new : Tally) → HaveRested n tally.links.items new.links.items → new.channels.items ≡ tally.channels.items → new.flows.items ≡ tally.flows.items → new.hops.channels.items ≡ tally.hops.channels.items → new.rows.items ≡ tally.rows.items → new.packets ≡ tally.packets
      → AreStepCounts (rested network n past) new.made.items → new.steps ≡ tally.steps + n * length parts.links → IsTallied parts (rested network n past) new
  tally-rested new links channels flows hops rows packets made steps =
      let seen = next.seen in
      let plane = the_plane network in
      let count = length network.links in
      let at = (plane_at network past).round in
      record {
        links = subst (λ c. AreLinkTallies c (rested network n past) new.links.items) (links-are parts) (links-rested network n past tally.links.items new.links.items goes (subst (λ c. AreLinkTallies c past tally.links.items) (sym (links-are parts)) seen.links) links);
        channels = subst (AreChannelTallies parts.requests (rested network n past)) (sym channels) (through-rounds (λ run. AreChannelTallies parts.requests run tally.channels.items) plane (sources-rest parts.requests tally.channels.items plane) count at n past seen.channels);
        hops = subst (AreHops (reverse (rested network n past))) (sym hops) (through-rounds (λ run. AreHops (reverse run) tally.hops.channels.items) plane (hops-rest tally.hops.channels.items plane) count at n past seen.hops);
        flows = subst (λ fs. (whole : List Done) → AreFlows parts.requests (reverse (departures_in whole (reverse (rested network n past)))) fs) (sym flows)
            (through-rounds (λ run. (whole : List Done) → AreFlows parts.requests (reverse (departures_in whole (reverse run))) tally.flows.items) plane (flows-rest parts.requests tally.flows.items plane) count at n past seen.flows);
        rows = subst (λ p. AreKeptIf p (reverse (rested network n past)) new.rows.items) (sym packets)
            (subst (AreKeptIf tally.packets (reverse (rested network n past))) (sym rows) (through-rounds (λ run. AreKeptIf tally.packets (reverse run) tally.rows.items) plane (rows-rest tally.packets tally.rows.items plane) count at n past seen.rows));
        made = made;
        steps = (let was = seen.steps in let long : length (rested network n past) ≡ n * length parts.links + length past = rested-length network n past ∙ ap (λ links. n * links + length past) (links-are parts) in omega (arith, steps, was, long));
      }

  pub steps-rested : (made : List ℕ) (place more : ℕ) → place ≡ length parts.callers → ((d : ℕ) → more ≡ get_or tally.made.items place d + n * length parts.links) → made ≡ set tally.made.items place more → AreStepCounts (rested network n past) made
  steps-rested made place more there is put =
      let number : place ≡ plane_no network = there ∙ sym (plane-number parts) in
      subst (AreStepCounts (rested network n past)) (sym (put ∙ ap (λ at. set tally.made.items at more) number))
      (steps-rest network n past tally.made.items more plane-few goes next.seen.made (λ d. is d ∙ ap (λ at. get_or tally.made.items at d + n * length parts.links) number ∙ ap (λ links. get_or tally.made.items (plane_no network) d + n * links) (sym (links-are parts))))
