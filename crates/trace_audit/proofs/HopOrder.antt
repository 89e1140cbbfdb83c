-- In every run the hops of a channel make their offers in the order of its route, so the number of a row's hop is its place there.
use Rattle.std.proofs.Common.{◌≡◌, ℕ, zero, suc, ◌<◌, true, false, List, [], ◌∷◌, ◌++◌, length, map, take, Some, refl, sym, ap, ◌∙◌, subst, inl, inr, arith, append-nil}
use Rattle.std.proofs.lemmas.Bool.{cases_Bool, false≢true, eqb-true, eqb-false, eq-eqb, ne_eqb}
use Rattle.std.proofs.lemmas.List.{map-append, reverse-append, length_push}
use Rattle.std.proofs.lemmas.Option.{same_Some, slice_get_within, get_or_from_slice_get}
use Rattle.std.proofs.Math.Seq.{take-suc}
use Rattle.std.specs.List.{slice_get}
use Rattle.std.specs.Prelude.{nat_eq, reverse}
use Rattle.net_units.specs.Numbers.{link_number, actor_number, channel_number}
use Rattle.hop_reservation.specs.Routes.{IsRoute, link_of}
use Rattle.hop_reservation.specs.declared.route.Hop.{Hop}
use Rattle.hop_reservation.proofs.DistinctLinks.{index-apart}
use Rattle.link_steps.specs.declared.asks.Ask.{Ask}
use Rattle.link_steps.specs.declared.asks.Ask.TheVariants.{Reserve, Relax, Deny}
use Rattle.link_steps.specs.declared.replies.Reply.{Reply}
use Rattle.link_steps.specs.declared.replies.Reply.TheVariants as Is
use Rattle.setup_protocol.specs.Setup.{is_offer, level_in, offers_in, next_ask}
use Rattle.setup_protocol.specs.declared.request.Request.{Request}
use Rattle.setup_protocol.proofs.SetupAdvances.{offers-more, offers-other}
use Rattle.channel_laws.specs.Asks.{IsReserve, IsOff, IsMild}
use Rattle.call_script.specs.Fits.{NetworkFits}
use Rattle.call_script.specs.Owners.{OwnedFully, AllOwned}
use Rattle.call_script.specs.Scripts.{Standing, standing, first_ask}
use Rattle.call_script.specs.Tasks.{Network}
use Rattle.call_script.specs.declared.tasks.Task.{Task}
use Rattle.run_record.specs.Rows.{offer_by, is_to, links_of, place_in, hop_among}
use Rattle.run_record.specs.Runs.{replies_to}
use Rattle.run_record.specs.declared.done.Done.{Done}
use Rattle.run_record.proofs.KeptRows.{links-more}
use Rattle.run_engine.specs.replies.Answers.{IsReplyOf}
use Rattle.run_engine.specs.runs.Runs.{IsNext, IsRun}
use Rattle.run_engine.specs.replies.Verdicts.{is_setup_ask, setup_replies}
use Rattle.run_engine.proofs.Replies.Replying.{asks-answered}
use Rattle.run_engine.proofs.Replies.RunCloses.{owned-once, others-off}
use Rattle.run_engine.proofs.Replies.VerdictHolds.{VerdictAt, verdict-run}
use Rattle.run_engine.proofs.Runs.RunLegal.{owner-asks}
use Rattle.run_engine.proofs.Tasks.EachSetup.{Before, Under, After, OpenedOnce, IsBegun}
use Rattle.run_engine.proofs.Tasks.SetupOnce.{reserves}
use Rattle.run_engine.proofs.Tasks.TaskAsks.{task-mild, mild-tasks}

-- ---- an offer to the channel

pub record OfferIs (c : ℕ) (ask : Ask) (reply : Reply) : Type 0 where
  pub reserve : IsReserve ask
  pub own : is_setup_ask c ask ≡ true
  pub offer : is_offer reply ≡ true
  pub off : IsOff c ask → ⊥
  pub mild : IsMild c ask → ⊥

offer-is : (c : ℕ) (ask : Ask) (reply : Reply) → is_to c (offer_by ask reply) ≡ true → OfferIs c ask reply
offer-is c (Reserve chan contract kind delay up_reach first next) (Is.Offer level reach) is = (let e = eqb-true (channel_number chan) c is in record { reserve = tt; own = is; offer = refl; off = λ other. other e; mild = λ other. other e })
offer-is c _ _ is = absurd (false≢true is)

-- ---- who asks for it

-- at the owner's own standing
setup-asks : (request : Request) (past : List Done) (done : Done) (at : Standing) → OfferIs (channel_number request.chan) done.ask done.reply → VerdictAt request past at → first_ask at.tasks at.replies ≡ Some (done.link, done.ask) → next_ask request (setup_replies (channel_number request.chan) past) ≡ Some (done.link, done.ask)
setup-asks request past done at offer (Before opened begun quiet none) asks = by-tasks at.tasks opened begun asks where
  by-tasks : (tasks : List Task) → OpenedOnce request tasks → IsBegun request tasks at.replies → first_ask tasks at.replies ≡ Some (done.link, done.ask) → next_ask request (setup_replies (channel_number request.chan) past) ≡ Some (done.link, done.ask)
  by-tasks [] opened begun asks = cc
  by-tasks (task ∷ tasks) (inl other) begun asks = absurd (offer.mild (task-mild (channel_number request.chan) task at.replies done.link done.ask other.0 asks))
  by-tasks (task ∷ tasks) (inr own) begun asks =
      let empty : at.replies ≡ [] = begun own.0 in
      let asks' : next_ask request at.replies ≡ Some (done.link, done.ask) = subst (λ t. first_ask (t ∷ tasks) at.replies ≡ Some (done.link, done.ask)) own.0 asks in
      ap (next_ask request) (none ∙ sym empty) ∙ asks'
setup-asks request past done at offer (Under rest is others quiet to more same) asks =
    ap (next_ask request) same ∙ subst (λ ts. first_ask ts at.replies ≡ Some (done.link, done.ask)) is asks
setup-asks request past done at offer (After others same) asks = absurd (offer.mild (mild-tasks (channel_number request.chan) at.tasks at.replies done.link done.ask others asks))

offer-asked : (network : Network) (request : Request) (owner : ℕ) (tasks : List Task) (past : List Done) (done : Done) → OwnedFully network request owner → slice_get network.scripts owner ≡ Some tasks → IsRun network past → (next : IsNext network past done) → OfferIs (channel_number request.chan) done.ask done.reply
    → next_ask request (setup_replies (channel_number request.chan) past) ≡ Some (done.link, done.ask)
offer-asked network request owner tasks past done full found is next offer =
    elim (cases_Bool (nat_eq (actor_number done.actor) owner)) [
      | inl own ↦
          (let by = eqb-true (actor_number done.actor) owner own in
          setup-asks request past done (standing tasks (replies_to owner past)) offer (verdict-run network request owner tasks past (owned-once network request owner full) found is) (owner-asks network past done owner tasks next by found))
      | inr others ↦ (let other = eqb-false (actor_number done.actor) owner others in absurd (offer.off (others-off network request owner past done full next other)))
    ]

-- ---- the links that have made offers

links-one : (c : ℕ) (past : List Done) (done : Done) → is_to c (offer_by done.ask done.reply) ≡ true → links_of c (reverse (done ∷ past)) ≡ links_of c (reverse past) ++ link_number done.link ∷ []
unfolding links_of
links-one c past done on =
    let one : links_of c (done ∷ []) ≡ link_number done.link ∷ [] = rw on refl in
    ap (links_of c) (reverse-append (done ∷ []) past) ∙ links-more c (reverse past) (done ∷ []) ∙ ap (λ ls. links_of c (reverse past) ++ ls) one

links-kept : (c : ℕ) (past : List Done) (done : Done) → is_to c (offer_by done.ask done.reply) ≡ false → links_of c (reverse (done ∷ past)) ≡ links_of c (reverse past)
unfolding links_of
links-kept c past done off =
    let none : links_of c (done ∷ []) ≡ [] = rw off refl in
    ap (links_of c) (reverse-append (done ∷ []) past) ∙ links-more c (reverse past) (done ∷ []) ∙ ap (λ ls. links_of c (reverse past) ++ ls) none ∙ append-nil _

-- ---- the replies to the setup

replies-one : (c : ℕ) (past : List Done) (done : Done) → is_setup_ask c done.ask ≡ true → setup_replies c (done ∷ past) ≡ setup_replies c past ++ done.reply ∷ []
unfolding setup_replies
replies-one c past done on = rw on refl

replies-same : (c : ℕ) (past : List Done) (done : Done) → is_setup_ask c done.ask ≡ false → setup_replies c (done ∷ past) ≡ setup_replies c past
unfolding setup_replies
replies-same c past done off = rw off refl

-- a setup's ask that is answered with an offer is to the channel
offer-to : (c : ℕ) (ask : Ask) (reply : Reply) → is_setup_ask c ask ≡ true → is_offer reply ≡ true → IsReplyOf ask reply → is_to c (offer_by ask reply) ≡ true
offer-to c (Reserve chan contract kind delay up_reach first next) (Is.Offer level reach) own offer answers = own
offer-to c (Relax chan level up_bound) (Is.Offer l reach) own offer answers = absurd answers
offer-to c (Deny chan) (Is.Offer l reach) own offer answers = cc
offer-to c _ (Is.Offer level reach) own offer answers = absurd (false≢true own)
offer-to c _ _ own offer answers = absurd (false≢true offer)

offers-same : (c : ℕ) (past : List Done) (done : Done) → IsReplyOf done.ask done.reply → is_to c (offer_by done.ask done.reply) ≡ false → offers_in (setup_replies c (done ∷ past)) ≡ offers_in (setup_replies c past)
offers-same c past done answers off =
    elim (cases_Bool (is_setup_ask c done.ask)) [
      | inr other ↦ ap offers_in (replies-same c past done other)
      | inl own ↦ elim (cases_Bool (is_offer done.reply)) [
        | inr none ↦ ap offers_in (replies-one c past done own) ∙ offers-other (setup_replies c past) done.reply none
        | inl offer ↦ absurd (false≢true (sym off ∙ offer-to c done.ask done.reply own offer answers))
      ]
    ]

-- ---- the law

-- the links that have made an offer to the channel are the first ones of its route, in its order
pub offers-in-order : (network : Network) (request : Request) (owner : ℕ) (tasks : List Task) (run : List Done) → NetworkFits network → AllOwned network → IsRoute request.route → OwnedFully network request owner → slice_get network.scripts owner ≡ Some tasks → IsRun network run
    → links_of (channel_number request.chan) (reverse run) ≡ map link_of (take (length (offers_in (setup_replies (channel_number request.chan) run))) request.route)
unfolding IsRun links_of setup_replies offers_in
offers-in-order network request owner tasks [] fits owned route full found is = refl
offers-in-order network request owner tasks (done ∷ past) fits owned route full found is =
    let c : ℕ = channel_number request.chan in
    let rest = offers-in-order network request owner tasks past fits owned route full found is.0 in
    elim (cases_Bool (is_to (channel_number request.chan) (offer_by done.ask done.reply))) [
      | inr off ↦
          links-kept (channel_number request.chan) past done off ∙ rest
          ∙ ap (λ ls. map link_of (take (length ls) request.route)) (sym (offers-same (channel_number request.chan) past done (asks-answered network past done fits owned is.0 is.1) off))
      | inl on ↦
          (let offer = offer-is (channel_number request.chan) done.ask done.reply on in
          let asks = offer-asked network request owner tasks past done full found is.0 is.1 offer in
          let own = reserves request (setup_replies (channel_number request.chan) past) done.link done.ask asks offer.reserve in
          let n : ℕ = length (offers_in (setup_replies (channel_number request.chan) past)) in
          let more : offers_in (setup_replies (channel_number request.chan) (done ∷ past)) ≡ offers_in (setup_replies (channel_number request.chan) past) ++ _ ∷ [] = ap offers_in (replies-one (channel_number request.chan) past done offer.own) ∙ offers-more (setup_replies (channel_number request.chan) past) done.reply own.alone offer.offer in
          let count : length (offers_in (setup_replies (channel_number request.chan) (done ∷ past))) ≡ suc (length (offers_in (setup_replies (channel_number request.chan) past))) = ap length more ∙ (omega (arith, length_push (offers_in (setup_replies (channel_number request.chan) past)) (level_in done.reply))) in
          let within = slice_get_within request.route (length (offers_in (setup_replies (channel_number request.chan) past))) own.hop own.stands in
          let longer : take (suc (length (offers_in (setup_replies (channel_number request.chan) past)))) request.route ≡ take (length (offers_in (setup_replies (channel_number request.chan) past))) request.route ++ own.hop ∷ [] =
          take-suc request.route (length (offers_in (setup_replies (channel_number request.chan) past))) own.hop within ∙ ap (λ h. take (length (offers_in (setup_replies (channel_number request.chan) past))) request.route ++ h ∷ []) (get_or_from_slice_get request.route (length (offers_in (setup_replies (channel_number request.chan) past))) own.hop own.hop own.stands) in
          links-one (channel_number request.chan) past done on ∙ ap (λ ls. ls ++ link_number done.link ∷ []) rest
          ∙ ap (λ l. map link_of (take (length (offers_in (setup_replies (channel_number request.chan) past))) request.route) ++ link_number l ∷ []) own.at
          ∙ sym (map-append link_of (take (length (offers_in (setup_replies (channel_number request.chan) past))) request.route) (own.hop ∷ []))
          ∙ ap (map link_of) (sym longer) ∙ ap (λ k. map link_of (take k request.route)) (sym count))
    ]

-- ---- the number of a hop

place-at : (route : List Hop) (m i n : ℕ) → ((j : ℕ) (x : Hop) → slice_get route j ≡ Some x → link_of x ≡ n → j ≡ i) → (hop : Hop) → slice_get route i ≡ Some hop → link_of hop ≡ n → i < m → place_in n (map link_of (take m route)) ≡ suc i
unfolding place_in
place-at [] m i n only hop found same within = cc
place-at (first ∷ route) zero i n only hop found same within = absurd (omega (arith, within))
place-at (first ∷ route) (suc m) zero n only hop found same within = (let e = eq-eqb (link_of first) n (ap link_of (same_Some first hop found) ∙ same) in rw e refl)
place-at (first ∷ route) (suc m) (suc i) n only hop found same within =
    let rest : place_in n (map link_of (take m route)) ≡ suc i = place-at route m i n (λ j x there equal. (let e = only (suc j) x there equal in omega (arith, e))) hop found same (omega (arith, within)) in
    let other = ne_eqb (link_of first) n (λ equal. (let e = only 0 first refl equal in absurd (omega (arith, e)))) in
    rw (other, rest) refl

-- the number of the hop over the link at an index of the route, once that has made its offer
pub hop-number : (route : List Hop) (m i : ℕ) (hop : Hop) → IsRoute route → slice_get route i ≡ Some hop → i < m → hop_among (link_of hop) (map link_of (take m route)) ≡ suc i
hop-number route m i hop is found within =
    let place = place-at route m i (link_of hop) (λ j x there equal. index-apart route j i x hop is there found equal) hop found refl within in
    let inside = slice_get_within route i hop found in
    let most = is.most in
    omega (arith, place, inside, most)
