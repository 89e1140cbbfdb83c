-- The links of a run, as they are kept: before any step, and with one more step. Their clocks are small.
use Rattle.std.proofs.Common.{◌≡◌, ◌≢◌, ℕ, ◌+◌, ◌<◌, ◌≤◌, ◌^◌, Some, List, [], ◌∷◌, length, map, sym, ap, ◌∙◌, subst, inl, inr, option_map, nat_lt, arith}
use Rattle.run_engine.proofs.Words.{cases_Bool, eqb-true, eqb-false, length-map, slice_get_within, slice_get-map, slice_get, nat_eq, actor_number, any_rules, any_clock, AnyStands, any-clock-is, AnyLink, clock_of, Link, NetworkFits, Network, plane_no, plane_at, IsRun, replies_to, part_of, Done, Plane, plane_of}
use Rattle.link_steps.proofs.ListParts.{Each-at}
use Rattle.link_steps.specs.Lists.{Each}
use Rattle.tick_plane.proofs.AskedInWindow.{window-holds}
use Rattle.run_engine.specs.schedules.Standing.{LinksStand}
use Rattle.run_engine.proofs.Keeping.Lookups.{held}
use Rattle.run_engine.proofs.Runs.PartLaws.{clocks-follow}
use Rattle.run_engine.proofs.Runs.RunLegal.{plane-next, plane-by, plane-off}

-- ---- clocks

-- the plane makes no more rounds than it has
rounds-most : (network : Network) (run : List Done) → IsRun network run → (plane_at network run).round ≤ network.rounds
unfolding IsRun plane_of replies_to
rounds-most network [] run = omega arith
rounds-most network (done ∷ past) run =
    elim (cases_Bool (nat_eq (actor_number done.actor) (plane_no network))) [
      | inl plane ↦
          (let same = eqb-true (actor_number done.actor) (plane_no network) plane in
          let asks = plane-next network past done run.1 same in
          subst (λ (p : Plane). p.round ≤ network.rounds) (sym (plane-by network done past same)) (window-holds (length network.links) network.rounds (plane_at network past) done.reply asks.early))
      | inr caller ↦ subst (λ (p : Plane). p.round ≤ network.rounds) (sym (plane-off network done past (eqb-false (actor_number done.actor) (plane_no network) caller))) (rounds-most network past run.0)
    ]

pub clock-small : (network : Network) (links : List AnyLink) (run : List Done) (n : ℕ) (link : AnyLink) → NetworkFits network → IsRun network run → LinksStand network.links links run → slice_get links n ≡ Some link → any_clock link < 2 ^ 61
clock-small network links run n link fits is stand found =
    let within : n < length network.links = slice_get_within network.links n (any_rules link) (stand.linked n link found) in
    let clock : any_clock link ≡ clock_of (part_of n run) = any-clock-is link (part_of n run) (stand.parts n link found) in
    let follows = clock ∙ clocks-follow network run n fits is within in
    let most = rounds-most network run is in
    let few = fits.rounds in
    elim (cases_Bool (nat_lt n (plane_at network run).ticked)) [
      | inl made ↦ (let at : any_clock link ≡ (plane_at network run).round + 1 = rw made at follows in omega (arith, at, most, few))
      | inr left ↦ (let at : any_clock link ≡ (plane_at network run).round + 0 = rw left at follows in omega (arith, at, most, few))
    ]

-- ---- with one step more

-- one link may have another state, which stands for its part; the parts of the others are the same
pub links-with : (network : List Link) (old new : List AnyLink) (number : ℕ) (run more : List Done) → length new ≡ length old → ((n : ℕ) → n ≢ number → slice_get new n ≡ slice_get old n)
    → ((link next : AnyLink) → slice_get old number ≡ Some link → slice_get new number ≡ Some next → any_rules next ≡ any_rules link)
    → ((n : ℕ) → n ≢ number → part_of n more ≡ part_of n run)
    → ((link next : AnyLink) → slice_get old number ≡ Some link → slice_get new number ≡ Some next → AnyStands link (part_of number run) → AnyStands next (part_of number more))
    → LinksStand network old run → LinksStand network new more
links-with network old new number run more long others same parts at stand = record {
  same = long ∙ stand.same;
  linked = λ n next found.
      elim (cases_Bool (nat_eq n number)) [
        | inl on ↦ linked-on n next (eqb-true n number on) found
        | inr off ↦ stand.linked n next (sym (others n (eqb-false n number off)) ∙ found)
      ];
  parts = λ n next found.
      elim (cases_Bool (nat_eq n number)) [
        | inl on ↦ parts-on n next (eqb-true n number on) found
        | inr off ↦ (let other = eqb-false n number off in subst (AnyStands next) (sym (parts n other)) (stand.parts n next (sym (others n other) ∙ found)))
      ];
} where
  linked-on : (n : ℕ) (next : AnyLink) → n ≡ number → slice_get new n ≡ Some next → slice_get network n ≡ Some (any_rules next)
  linked-on n next on found =
      let there : slice_get new number ≡ Some next = ap (slice_get new) (sym on) ∙ found in
      let was = held old number (let within = slice_get_within new number next there in omega (arith, within, long)) in
      ap (slice_get network) on ∙ stand.linked number was.item was.found ∙ ap (λ link. Some link) (sym (same was.item next was.found there))

  parts-on : (n : ℕ) (next : AnyLink) → n ≡ number → slice_get new n ≡ Some next → AnyStands next (part_of n more)
  parts-on n next on found =
      let there : slice_get new number ≡ Some next = ap (slice_get new) (sym on) ∙ found in
      let was = held old number (let within = slice_get_within new number next there in omega (arith, within, long)) in
      subst (λ m. AnyStands next (part_of m more)) (sym on) (at was.item next was.found there (stand.parts number was.item was.found))

-- ---- before any step

pub links-new : (network : List Link) (links : List AnyLink) → map any_rules links ≡ network → Each (λ (link : AnyLink). AnyStands link []) links → LinksStand network links []
unfolding part_of
links-new network links rules stand = record {
  same = sym (length-map links any_rules) ∙ ap length rules;
  linked = λ n link found. ap (λ (ls : List Link). slice_get ls n) (sym rules) ∙ slice_get-map any_rules links n ∙ ap (option_map any_rules) found;
  parts = λ n link found. Each-at (λ (l : AnyLink). AnyStands l []) links n link stand found;
}
