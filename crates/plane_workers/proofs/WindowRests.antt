-- In a window, the next rounds are quiet: no packet reaches a link in them, and each link has answered with quiet ticks. Then the run
-- goes on by as many quiet rounds, and links and plane stand for it.
use Rattle.std.proofs.Common.{◌≡◌, ℕ, zero, suc, ◌+◌, ◌*◌, ◌-◌, ◌<◌, ◌≤◌, List, ◌∷◌, ◌++◌, length, Some, refl, sym, ap, ◌∙◌, subst, arith}
use Rattle.std.proofs.Math.Nat.{mul-lt-mul_of_pos_right}
use Rattle.std.proofs.lemmas.Option.{same_Some, slice_get_within}
use Rattle.std.specs.List.{slice_get}
use Rattle.link_steps.specs.Quiet.{quiet_reply, quiet_ticks}
use Rattle.link_steps.specs.Replies.{reply_to}
use Rattle.link_steps.specs.Split.{Link}
use Rattle.link_steps.specs.declared.asks.Ask.{Ask}
use Rattle.link_steps.specs.declared.asks.Ask.TheVariants.{Tick}
use Rattle.link_steps.specs.declared.replies.Entry.{Entry}
use Rattle.link_steps.specs.declared.replies.Reply.{Reply}
use Rattle.call_script.proofs.PlansFit.{plan-fits}
use Rattle.call_script.specs.Fits.{NetworkFits}
use Rattle.call_script.specs.Parts.{PlanParts}
use Rattle.call_script.specs.Tasks.{Network, network_of}
use Rattle.tick_plane.specs.PlaneAccount.{PlaneAccount}
use Rattle.tick_plane.specs.Planes.{Plane}
use Rattle.tick_plane.specs.QuietRounds.{HasQuietRounds, rounds_later}
use Rattle.tick_plane.specs.Windows.{window_at}
use Rattle.run_record.specs.Runs.{part_of}
use Rattle.run_record.specs.declared.done.Done.{Done}
use Rattle.run_engine.specs.runs.Runs.{plane_no, plane_at}
use Rattle.run_engine.specs.runs.Turns.{plane_most}
use Rattle.run_engine.specs.schedules.Quiet.{rested, the_plane, IsQuietFor, RestsFor, GoesOnAtRest}
use Rattle.run_engine.specs.schedules.Schedules.{repeated}
use Rattle.run_engine.specs.schedules.Watching.{IsRestSeen}
use Rattle.run_engine.proofs.Keeping.KeptActors.{plane-number}
use Rattle.run_engine.proofs.Keeping.Lookups.{held}
use Rattle.run_engine.proofs.Keeping.NextStep.{callers-few}
use Rattle.run_engine.proofs.Runs.RunLength.{follows-longer, repeated-long}
use Rattle.run_engine.proofs.Watched.QuietRounds.{plane-is, quiet-rounds}
use Rattle.plane_workers.specs.Said.{quiets}
use Rattle.tick_plane.specs.AskedRuns.{ticks}
use Rattle.plane_workers.specs.Windows.{GoesOnBy, IsInWindow, LinkIsAhead}
use Rattle.plane_workers.proofs.QuietReplies.{no-quiets, no-ticks, quiet-front, quiets-first, ticks-first}
use Rattle.plane_workers.proofs.QuietWindow.{window-quiet}
use Rattle.plane_workers.proofs.RepliesAhead.{ahead-head, ahead-tail}

-- ---- a link that has answered with quiet ticks

no-entries : (t : ℕ) (h : List Entry) → quiet_ticks 0 t h ≡ h
unfolding quiet_ticks
no-entries t h = refl

-- the first of them is quiet, and so are the others
quiet-more : (link : Link) (t n : ℕ) (h : List Entry) → quiet_reply t ≡ reply_to link h Tick → IsQuietFor (suc t) n link (record { ask = Tick; reply = quiet_reply t } ∷ h) → IsQuietFor t (suc n) link h
quiet-more link t n h first others zero less = (let same : t + 0 ≡ t = omega arith in ap quiet_reply same ∙ first ∙ ap (λ k. reply_to link k Tick) (sym (no-entries t h)))
quiet-more link t n h first others (suc m) less =
    (let same : t + suc m ≡ suc t + m = omega arith in
    ap quiet_reply same ∙ others m (omega (arith, less)) ∙ ap (λ k. reply_to link k Tick) (quiet-front t m h))

pub record LinkRests (link : Link) (stands : List Entry → Type 0) (rest : List Reply) (t n : ℕ) (h : List Entry) (asks : List Ask) : Type 0 where
  pub quiet : IsQuietFor t n link h
  pub ahead : LinkIsAhead link stands rest (quiet_ticks n t h) asks

pub quiet-ahead : (link : Link) (stands : List Entry → Type 0) (rest : List Reply) (t n : ℕ) (h : List Entry) (asks : List Ask) → LinkIsAhead link stands (quiets t n ++ rest) h (ticks n ++ asks) → LinkRests link stands rest t n h asks
quiet-ahead link stands rest t zero h asks is = record {
  quiet = λ m less. absurd (omega (arith, less));
  ahead = subst (λ k. LinkIsAhead link stands rest k asks) (sym (no-entries t h)) (subst (λ (w : List Reply × List Ask). LinkIsAhead link stands w.0 h w.1) (λ i. (no-quiets t rest i, no-ticks asks i)) is);
}
quiet-ahead link stands rest t (suc n) h asks is =
    let left : List Reply = quiets t (suc n) ++ rest in
    let head = ahead-head link stands left (quiets (suc t) n ++ rest) h Tick (ticks (suc n) ++ asks) (ticks n ++ asks) (quiet_reply t) is (ticks-first n asks) (quiets-first t n rest) in
    let tail = ahead-tail link stands left (quiets (suc t) n ++ rest) h Tick (ticks (suc n) ++ asks) (ticks n ++ asks) (quiet_reply t) is (ticks-first n asks) (quiets-first t n rest) in
    let more = quiet-ahead link stands rest (suc t) n (record { ask = Tick; reply = quiet_reply t } ∷ h) asks tail in
    record {
      quiet = quiet-more link t n h head more.quiet;
      ahead = subst (λ k. LinkIsAhead link stands rest k asks) (quiet-front t n h) more.ahead;
    }

-- ---- all links

-- each link has so many quiet ticks more behind it
pub record HaveRestedOn {X : Type 0} (rules : X → Link) (stands : X → List Entry → Type 0) (left : X → List Reply) (t n : ℕ) (old new : List X) : Type 0 where
  pub same : length new ≡ length old
  pub rules_stay : (k : ℕ) (x y : X) → slice_get old k ≡ Some x → slice_get new k ≡ Some y → rules y ≡ rules x
  pub stands_stay : (k : ℕ) (x y : X) → slice_get old k ≡ Some x → slice_get new k ≡ Some y → (h : List Entry) → stands x h → stands y h
  pub told : (k : ℕ) (x y : X) → slice_get old k ≡ Some x → slice_get new k ≡ Some y → left x ≡ quiets t n ++ left y

module _ {X : Type 0} (rules : X → Link) (stands : X → List Entry → Type 0) (left : X → List Reply) (parts : PlanParts) (from until n : ℕ) (old new : List X) (plane plane' : PlaneAccount) (run : List Done) (is : IsInWindow rules stands left parts from until old plane run)
    (quiet : HasQuietRounds plane.rounds n plane.at) (within : plane.at.round + n ≤ until) (on : HaveRestedOn rules stands left plane.at.round n old new) where
  abbrev network : Network
  network = network_of parts

  abbrev at : Plane
  at = plane_at network run

  fits : NetworkFits network
  fits = plan-fits parts is.plan

  is-at : plane.at ≡ at
  is-at = is.plane_is.at

  is-round : plane.at.round ≡ at.round
  is-round = ap (λ (p : Plane). p.round) is-at

  quiet-in : HasQuietRounds network.rounds n at
  quiet-in = subst (HasQuietRounds network.rounds n) is-at (subst (λ rounds. HasQuietRounds rounds n plane.at) is.plane_is.rounds quiet)

  -- what it is asked until the window is over
  asked : (k : ℕ) → window_at k until at ≡ ticks n ++ window_at k until (rounds_later n at)
  asked k =
      let starts = quiet-in.starts in
      let here : at ≡ record { round = at.round; ticked = 0; flights = at.flights } = ap (λ t. record { round = at.round; ticked = t; flights = at.flights }) starts in
      let there : record { round = at.round + n; ticked = 0; flights = at.flights } ≡ rounds_later n at = ap (λ t. record { round = at.round + n; ticked = t; flights = at.flights }) (sym starts) in
      ap (window_at k until) here ∙ window-quiet k until at.round n at.flights (omega (arith, within, is-round)) quiet-in.none ∙ ap (λ p. ticks n ++ window_at k until p) there

  rests-at : (k : ℕ) (x y : X) → slice_get old k ≡ Some x → slice_get new k ≡ Some y → LinkRests (rules x) (stands x) (left y) at.round n (part_of k run) (window_at k until (rounds_later n at))
  rests-at k x y found after =
      quiet-ahead (rules x) (stands x) (left y) at.round n (part_of k run) (window_at k until (rounds_later n at))
      (subst (λ asks. LinkIsAhead (rules x) (stands x) (quiets at.round n ++ left y) (part_of k run) asks) (asked k)
      (subst (λ replies. LinkIsAhead (rules x) (stands x) replies (part_of k run) (window_at k until at)) (on.told k x y found after ∙ ap (λ t. quiets t n ++ left y) is-round)
      (is.ahead.ahead k x found)))

  pub rests-for : RestsFor network n run
  rests-for = record {
    plane = quiet-in;
    quiet = λ k link found.
        let inside = slice_get_within network.links k link found in
        let was = is.ahead.same in
        let long = on.same in
        let x = held old k (omega (arith, inside, was)) in
        let y = held new k (omega (arith, inside, was, long)) in
        let same : rules x.item ≡ link = same_Some (rules x.item) link (sym (is.ahead.linked k x.item x.found) ∙ found) in
        subst (λ l. IsQuietFor at.round n l (part_of k run)) same (rests-at k x.item y.item x.found y.found).quiet;
  }

  few : plane_no network ≤ 64
  few = (let same = plane-number parts in let most = callers-few parts is.plan in omega (arith, same, most))

  pub goes-at-rest : GoesOnAtRest network n run
  goes-at-rest = quiet-rounds network n run fits few is.run_is rests-for

  pub rest-seen : {W : Type 0} (saw : W → PlanParts → List Done → Type 0) (watch : W) → saw watch parts run → IsRestSeen saw parts watch run plane.at.round n
  rest-seen saw watch seen = record { plan = is.plan; run = is.run_is; rests = rests-for; at = sym is-round; seen = seen }

  pub rest-goes : GoesOnBy network (the_plane network) run (rested network n run)
  rest-goes = record {
    count = n * length network.links;
    follows = goes-at-rest.follows;
    long = (let long = follows-longer network run (rested network n run) (repeated (n * length network.links) (the_plane network)) fits is.run_is goes-at-rest.follows in let many = repeated-long (n * length network.links) (the_plane network) in omega (arith, long, many));
    others = λ k off. goes-at-rest.callers k (λ same. off (same ∙ sym (plane-is network few)));
  }

  module _ (stands-at : plane' ≡ record plane { at = rounds_later n plane.at }) where
    pub rest-fewer : 1 ≤ n → plane_most plane'.links plane'.rounds plane'.at < plane_most plane.links plane.rounds plane.at
    rest-fewer some =
        let left = quiet.left in
        let starts = quiet.starts in
        let linked = is.plane_is.links in
        let links = fits.some in
        let less : plane.rounds - (plane.at.round + n) < plane.rounds - plane.at.round = omega (arith, left, some) in
        let more = mul-lt-mul_of_pos_right less (let each : 0 < plane.links = omega (arith, linked, links) in each) in
        subst (λ (p : PlaneAccount). plane_most p.links p.rounds p.at < plane_most plane.links plane.rounds plane.at) (sym stands-at) (omega (arith, more, starts))

    pub rest-within : IsInWindow rules stands left parts from until new plane' (rested network n run)
    rest-within = record {
      plan = is.plan;
      run_is = goes-at-rest.is_run;
      ahead = record {
        same = on.same ∙ is.ahead.same;
        linked = λ k y after.
            let inside = slice_get_within new k y after in
            let long = on.same in
            let x = held old k (omega (arith, inside, long)) in
            is.ahead.linked k x.item x.found ∙ ap (λ (l : Link). Some l) (sym (on.rules_stay k x.item y x.found after));
        ahead = λ k y after.
            let inside = slice_get_within new k y after in
            let long = on.same in
            let was = is.ahead.same in
            let x = held old k (omega (arith, inside, long)) in
            let rests = rests-at k x.item y x.found after in
            let ahead = rests.ahead in
            subst (λ p. LinkIsAhead (rules y) (stands y) (left y) (part_of k (rested network n run)) (window_at k until p)) (sym goes-at-rest.plane)
            (subst (λ h. LinkIsAhead (rules y) (stands y) (left y) h (window_at k until (rounds_later n at))) (sym (goes-at-rest.parts k (omega (arith, inside, long, was))))
            (subst (λ r. LinkIsAhead r (stands y) (left y) (quiet_ticks n at.round (part_of k run)) (window_at k until (rounds_later n at))) (sym (on.rules_stay k x.item y x.found after))
            (record { stands_on = on.stands_stay k x.item y x.found after _ ahead.stands_on; replied = ahead.replied })));
      };
      plane_is = record {
        links = ap (λ (p : PlaneAccount). p.links) stands-at ∙ is.plane_is.links;
        rounds = ap (λ (p : PlaneAccount). p.rounds) stands-at ∙ is.plane_is.rounds;
        at = ap (λ (p : PlaneAccount). p.at) stands-at ∙ ap (rounds_later n) is-at ∙ sym goes-at-rest.plane;
      };
      keeps = is.keeps;
      past = (let past = is.past in let round = ap (λ (p : PlaneAccount). p.at.round) stands-at in omega (arith, past, round));
      within = (let round = ap (λ (p : PlaneAccount). p.at.round) stands-at in omega (arith, round, within));
      all = (let all = is.all in let rounds = ap (λ (p : PlaneAccount). p.rounds) stands-at in omega (arith, all, rounds));
    }
