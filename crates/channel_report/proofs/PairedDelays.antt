-- In every run of a plan the delays that are paired as the packets leave are those of the packets, by their numbers: the packets of a
-- channel leave the first and the last link of its route in the order of their numbers, from 1.
use Rattle.std.proofs.Common.{◌≡◌, ◌≢◌, ℕ, zero, suc, ◌+◌, ◌-◌, true, List, [], ◌∷◌, ◌++◌, length, map, Some, refl, sym, ap, ◌∙◌, subst, inl, inr, arith, append-nil}
use Rattle.std.proofs.lemmas.Bool.{cases_Bool, cases_eq, eq-eqb, ne_eqb}
use Rattle.std.proofs.lemmas.List.{length-map, map-append, reverse-append, reverse-reverse}
use Rattle.std.proofs.lemmas.List.Elements.{filter-append}
use Rattle.std.proofs.lemmas.Option.{slice_get_past}
use Rattle.std.specs.List.{slice_get}
use Rattle.std.specs.Prelude.{filter, reverse}
use Rattle.net_units.specs.Numbers.{channel_number, link_number}
use Rattle.setup_protocol.specs.declared.request.Request.{Request}
use Rattle.call_script.specs.Parts.{PlanParts}
use Rattle.call_script.specs.Plans.{IsPlan}
use Rattle.call_script.specs.Tasks.{network_of}
use Rattle.call_script.specs.declared.entries.RequestEntry.{RequestEntry}
use Rattle.run_record.specs.declared.done.Done.{Done}
use Rattle.run_record.specs.declared.rows.HopRow.{HopRow}
use Rattle.run_engine.proofs.Channels.HopsAt.{hop-at}
use Rattle.run_engine.specs.channels.Departures.{AreCounted, is_over}
use Rattle.run_engine.specs.channels.Paths.{HopAt}
use Rattle.run_engine.specs.runs.Runs.{IsRun}
use Rattle.channel_report.proofs.ChannelTallies.{first-at}
use Rattle.channel_report.specs.Delays.{arrived_at, delay_if, delays_of, departures_of, last_link, last_prop, link_at}
use Rattle.channel_report.specs.Pairing.{arrival_if, arrivals_of, paired_of}
use Rattle.channel_report.specs.Sources.{first_link}
use Rattle.run_engine.proofs.Channels.PlanChannels.{hop-leaves, request-sound}

-- ---- rows over a link, listed from the last one

abbrev numbered_over : ℕ → ℕ → List HopRow → List HopRow
numbered_over c link rows = filter (is_over c link) (reverse rows)

-- each has the number of its place
abbrev AreNumbered : ℕ → ℕ → List HopRow → Type 0
AreNumbered c link [] = Unit {0}
AreNumbered c link (row ∷ rows) = (is_over c link row ≡ true → row.number ≡ suc (length (numbered_over c link rows))) × AreNumbered c link rows

counted-last : (n : ℕ) (rows : List HopRow) (row : HopRow) → AreCounted n (rows ++ row ∷ []) → AreCounted n rows × (row.number ≡ suc (length rows + n))
counted-last n [] row are = (tt, (let number = are.0 in omega (arith, number)))
counted-last n (first ∷ rows) row are = (let rest = counted-last (suc n) rows row are.1 in ((are.0, rest.0), (let number = rest.1 in omega (arith, number))))

over-more : (c link : ℕ) (row : HopRow) (rows : List HopRow) → numbered_over c link (row ∷ rows) ≡ numbered_over c link rows ++ filter (is_over c link) (row ∷ [])
over-more c link row rows = ap (filter (is_over c link)) (reverse-append (row ∷ []) rows) ∙ filter-append (is_over c link) (reverse rows) (row ∷ [])

are-numbered : (c link : ℕ) (rows : List HopRow) → AreCounted 0 (numbered_over c link rows) → AreNumbered c link rows
are-numbered c link [] are = tt
are-numbered c link (row ∷ rows) are =
    elim (cases_Bool (is_over c link row)) [
      | inl on ↦
          (let kept : filter (is_over c link) (row ∷ []) ≡ row ∷ [] = rw on refl in
          let parts = counted-last 0 (numbered_over c link rows) row (subst (AreCounted 0) (over-more c link row rows ∙ ap (λ rs. numbered_over c link rows ++ rs) kept) are) in
          ((λ _. (let number = parts.1 in omega (arith, number))), are-numbered c link rows parts.0))
      | inr off ↦
          (let none : filter (is_over c link) (row ∷ []) ≡ [] = rw off refl in
          let before = subst (AreCounted 0) (over-more c link row rows ∙ ap (λ rs. numbered_over c link rows ++ rs) none ∙ append-nil (numbered_over c link rows)) are in
          ((λ on. (let clash = sym on ∙ off in cc)), are-numbered c link rows before))
    ]

-- ---- arrivals by their places

abbrev at_of : HopRow → ℕ
at_of row = row.at

-- the arrivals are those of the rows over the first link
pub arrivals-are : (c : ℕ) (request : Request) (rows : List HopRow) → arrivals_of c request rows ≡ map at_of (numbered_over c (first_link request.route) rows)
unfolding arrivals_of
arrivals-are c request [] = refl
arrivals-are c request (row ∷ rows) =
    let first = first_link request.route in
    let one : arrival_if (is_over c first row) row.at ≡ map at_of (filter (is_over c first) (row ∷ [])) = elim (cases_Bool (is_over c first row)) [ inl on ↦ rw on refl | inr off ↦ rw off refl ] in
    ap (λ front. front ++ arrival_if (is_over c first row) row.at) (arrivals-are c request rows)
    ∙ ap (λ end. map at_of (numbered_over c first rows) ++ end) one
    ∙ sym (map-append at_of (numbered_over c first rows) (filter (is_over c first) (row ∷ [])))
    ∙ ap (map at_of) (sym (over-more c first row rows))

get-last : (xs : List ℕ) (x k : ℕ) → k ≡ length xs → slice_get (xs ++ x ∷ []) k ≡ Some x
get-last [] x zero is = refl
get-last [] x (suc k) is = absurd (omega (arith, is))
get-last (y ∷ xs) x zero is = absurd (omega (arith, is))
get-last (y ∷ xs) x (suc k) is = get-last xs x k (omega (arith, is))

get-other : (xs : List ℕ) (x k : ℕ) → k ≢ length xs → slice_get (xs ++ x ∷ []) k ≡ slice_get xs k
get-other [] x zero other = absurd (other refl)
get-other [] x (suc k) other = slice_get_past (x ∷ []) (suc k) (omega arith) ∙ sym (slice_get_past [] (suc k) (omega arith))
get-other (y ∷ xs) x zero other = refl
get-other (y ∷ xs) x (suc k) other = get-other xs x k (λ same. other (omega (arith, same)))

-- the arrival at a place is that of the packet of its number
found-by : (c : ℕ) (request : Request) (rows : List HopRow) (k : ℕ) → AreNumbered c (first_link request.route) rows → slice_get (arrivals_of c request rows) k ≡ arrived_at c (first_link request.route) (suc k) rows
unfolding arrivals_of arrived_at
found-by c request [] k are = slice_get_past [] k (omega arith)
found-by c request (row ∷ rows) k are =
    let rest = found-by c request rows k are.1 in
    elim (cases_Bool (is_over c (first_link request.route) row)) [
      | inr off ↦ rw off (ap (λ xs. slice_get xs k) (append-nil (arrivals_of c request rows)) ∙ rest)
      | inl on ↦
          (let long : length (arrivals_of c request rows) ≡ length (numbered_over c (first_link request.route) rows) = ap length (arrivals-are c request rows) ∙ length-map (numbered_over c (first_link request.route) rows) at_of in
          let number = are.0 on in
          elim (cases_eq k (length (arrivals_of c request rows))) [
            | inl here ↦ (let same = eq-eqb row.number (suc k) (omega (arith, number, long, here)) in rw (on, same) (get-last (arrivals_of c request rows) row.at k here))
            | inr apart ↦ (let other = ne_eqb row.number (suc k) (λ e. apart (omega (arith, number, long, e))) in rw (on, other) (get-other (arrivals_of c request rows) row.at k apart ∙ rest))
          ])
    ]

-- ---- so the pairs are the delays

pairs-are : (request : Request) (rows : List HopRow) → AreNumbered (channel_number request.chan) (first_link request.route) rows → AreNumbered (channel_number request.chan) (last_link request.route) rows → paired_of (channel_number request.chan) request rows ≡ delays_of request rows
unfolding paired_of delays_of
pairs-are request [] first last = refl
pairs-are request (row ∷ rows) first last =
    let c = channel_number request.chan in
    let rest = pairs-are request rows first.1 last.1 in
    elim (cases_Bool (is_over c (last_link request.route) row)) [
      | inr off ↦ rw off rest
      | inl on ↦
          (let number = last.0 on in
          let next : suc (row.number - 1) ≡ row.number = omega (arith, number) in
          let arrival = found-by c request (row ∷ rows) (row.number - 1) first ∙ ap (λ n. arrived_at c (first_link request.route) n (row ∷ rows)) next in
          rw on (ap (λ a. delay_if true (last_prop request.route) row.departed a ++ paired_of c request rows) arrival
          ∙ ap (λ ds. delay_if true (last_prop request.route) row.departed (arrived_at c (first_link request.route) row.number (row ∷ rows)) ++ ds) rest))
    ]

-- ---- the rows of a request

module _ (plan : PlanParts) (c : ℕ) (entry : RequestEntry) (is : IsPlan plan) (requested : slice_get plan.requests c ≡ Some entry) where
  -- the rows over a hop's link are numbered
  over-hop : (i : ℕ) (at : HopAt (network_of plan) entry.request i) (run : List Done) → IsRun (network_of plan) run → AreNumbered (channel_number entry.request.chan) (link_number at.hop.link) (reverse (departures_of (reverse run)))
  over-hop i at run run_is =
      let rows = departures_of (reverse run) in
      are-numbered (channel_number entry.request.chan) (link_number at.hop.link) (reverse rows)
      (subst (λ rs. AreCounted 0 (filter (is_over (channel_number entry.request.chan) (link_number at.hop.link)) rs)) (sym (reverse-reverse rows)) (hop-leaves plan c entry i at (reverse run) run is requested run_is).counted)

  pub paired-are : (run : List Done) → IsRun (network_of plan) run → paired_of (channel_number entry.request.chan) entry.request (reverse (departures_of (reverse run))) ≡ delays_of entry.request (reverse (departures_of (reverse run)))
  paired-are run run_is =
      let rows = reverse (departures_of (reverse run)) in
      let sound = request-sound plan c entry is requested in
      let some = sound.route.least in
      let first = hop-at (network_of plan) entry.request 0 sound some in
      let last = hop-at (network_of plan) entry.request (length entry.request.route - 1) sound (omega (arith, some)) in
      pairs-are entry.request rows
      (subst (λ n. AreNumbered (channel_number entry.request.chan) n rows) (sym (first-at entry.request.route first.hop first.stands)) (over-hop 0 first run run_is))
      (subst (λ n. AreNumbered (channel_number entry.request.chan) n rows) (sym (ap link_at last.stands)) (over-hop (length entry.request.route - 1) last run run_is))
