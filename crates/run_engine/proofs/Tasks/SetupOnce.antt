-- A request that is opened once is offered at most once at each link of its route, and nowhere else.
use Rattle.std.proofs.Common.{◌≡◌, ◌≢◌, ℕ, suc, ◌+◌, ◌<◌, ◌≤◌, true, false, List, [], ◌∷◌, ◌++◌, length, Option, Some, refl, sym, ap, ◌∙◌, subst, inl, inr, arith}
use Rattle.run_engine.proofs.Words.{cases_Bool, cases_lt, cond_both, eqb-true, eqb-false, ne_eqb, length_push, slice_get, nat_eq, link_number, channel_number, LinkNo, IsRoute, Hop, Ask, Reserve, Entry, Reply, LinkShape, MayReplyTo, IsReserve, IsMild, Outcome, is_offer, level_in, offers_in, after_offers, reach_after, on_the_way, asked, reserve_of, next_ask, Request, Done, HopTerms, offers_with, offers_to, OffersTerms, AllOfferTerms, NetworkFits, Standing, standing, Task, Network, part_of, replies_to, IsRun, terms_at, ChannelAsked}
use Rattle.link_steps.specs.declared.replies.Reply.TheVariants as Is
use Rattle.setup_protocol.proofs.SetupAdvances.{after-other, offers-more, progress-on_the_way, progress-tested}
use Rattle.channel_laws.proofs.OfferAnswers.{offer-answers}
use Rattle.run_engine.proofs.Keeping.Lookups.{held}
use Rattle.run_engine.proofs.Tasks.CallerAsksFit.{undone-asks, tested-asks}
use Rattle.run_engine.proofs.Tasks.EachSetup.{OpensOnce, SetupAt, Before, Under, After, KeptBySetup, each-setup}
use Rattle.hop_reservation.proofs.DistinctLinks.{index-apart}
use Rattle.run_engine.proofs.Runs.RunLegal.{answered-may, part-on, part-off, by-part}
use Rattle.setup_protocol.proofs.HopAsks.{asked-at}

-- ---- a reserve among the asks

pub record Reserves (request : Request) (replies : List Reply) (to : LinkNo) (ask : Ask) : Type 0 where
  pub alone : after_offers replies ≡ []
  pub hop : Hop
  pub stands : slice_get request.route (length (offers_in replies)) ≡ Some hop
  pub at : to ≡ hop.link
  pub reach : ℕ
  pub is : ask ≡ reserve_of request (offers_in replies) reach

way-reserves : (request : Request) (replies : List Reply) (rest : List Reply) (to : LinkNo) (ask : Ask) → after_offers replies ≡ rest → asked request (on_the_way (offers_in replies) (reach_after 0 request.route replies) rest) ≡ Some (to, ask) → IsReserve ask → Reserves request replies to ask
way-reserves request replies [] to ask after same is =
    let found = asked-at request.route (length (offers_in replies)) (λ hop. reserve_of request (offers_in replies) (reach_after 0 request.route replies)) to ask same in
    record { alone = after; hop = found.hop; stands = found.stands; at = found.at; reach = reach_after 0 request.route replies; is = found.is }
way-reserves request replies (first ∷ denied) to ask after same is = absurd (undone-asks request _ _ to ask same is)

pub reserves : (request : Request) (replies : List Reply) (to : LinkNo) (ask : Ask) → next_ask request replies ≡ Some (to, ask) → IsReserve ask → Reserves request replies to ask
reserves request replies to ask same is =
    elim (cases_lt (length (offers_in replies)) (length request.route)) [
      | inl fewer ↦ way-reserves request replies (after_offers replies) to ask refl (subst (λ p. asked request p ≡ Some (to, ask)) (progress-on_the_way request replies fewer) same) is
      | inr whole ↦ absurd (tested-asks request (offers_in replies) _ _ to ask (subst (λ p. asked request p ≡ Some (to, ask)) (progress-tested request replies whole) same) is)
    ]

-- ---- entries that offer nothing to the channel

record IsUntouched (c : ℕ) (ask : Ask) (reply : Reply) : Type 0 where
  count : (n : ℕ) → offers_with c n ask reply ≡ n
  names : (terms : HopTerms) → OffersTerms terms c ask reply

untouched : (c : ℕ) (ask : Ask) (reply : Reply) → IsMild c ask → IsUntouched c ask reply
untouched c (Reserve chan contract kind delay up_reach first next) (Is.Offer level reach) apart = record { count = λ n. rw (ne_eqb (channel_number chan) c apart) refl; names = λ terms same. absurd (apart same) }
untouched c _ _ mild = record { count = λ n. refl; names = λ terms. tt }

refused-untouched : (c : ℕ) (ask : Ask) (reply : Reply) → is_offer reply ≡ false → IsUntouched c ask reply
refused-untouched c ask (Is.Offer level reach) plain = cc
refused-untouched c (Reserve chan contract kind delay up_reach first next) _ plain = record { count = λ n. refl; names = λ terms. tt }
refused-untouched c _ _ plain = record { count = λ n. refl; names = λ terms. tt }

offer-reserves : (shape : LinkShape) (h : List Entry) (ask : Ask) (reply : Reply) → MayReplyTo shape h ask reply → is_offer reply ≡ true → IsReserve ask
offer-reserves shape h ask (Is.Offer level reach) same offer = (offer-answers shape h ask level reach same).reserve
offer-reserves shape h ask _ same offer = cc

-- what an untouched entry leaves
part-untouched : (c n : ℕ) (done : Done) (past : List Done) → IsUntouched c done.ask done.reply → offers_to c (part_of n (done ∷ past)) ≡ offers_to c (part_of n past)
unfolding offers_to
part-untouched c n done past un = by-part (λ h. offers_to c h ≡ offers_to c (part_of n past)) n done past (λ on. un.count (offers_to c (part_of n past))) (λ off. refl)

names-more : (terms : HopTerms) (c n : ℕ) (done : Done) (past : List Done) → (link_number done.link ≡ n → OffersTerms terms c done.ask done.reply) → AllOfferTerms terms c (part_of n past) → AllOfferTerms terms c (part_of n (done ∷ past))
names-more terms c n done past one all = by-part (AllOfferTerms terms c) n done past (λ on. (one on, all)) (λ off. all)

asked-untouched : (request : Request) (done : Done) (past : List Done) → IsUntouched (channel_number request.chan) done.ask done.reply → ChannelAsked request past → ChannelAsked request (done ∷ past)
asked-untouched request done past un was = record {
  names = λ i hop stands. names-more (terms_at request i) (channel_number request.chan) (link_number hop.link) done past (λ on. un.names (terms_at request i)) (was.names i hop stands);
  once = λ n. (let same = part-untouched (channel_number request.chan) n done past un in let h = was.once n in omega (arith, same, h));
  on = λ n some. was.on n (let same = part-untouched (channel_number request.chan) n done past un in omega (arith, same, some));
}

-- ---- how far the setup has come

-- nothing was offered at the hops that are still to be asked
pub record IsUpTo (request : Request) (replies : List Reply) (run : List Done) : Type 0 where
  pub none : after_offers replies ≡ [] → (i : ℕ) (hop : Hop) → slice_get request.route i ≡ Some hop → length (offers_in replies) ≤ i → offers_to (channel_number request.chan) (part_of (link_number hop.link) run) ≡ 0

upto-untouched : (request : Request) (replies : List Reply) (done : Done) (past : List Done) → IsUntouched (channel_number request.chan) done.ask done.reply → IsUpTo request replies past → IsUpTo request replies (done ∷ past)
upto-untouched request replies done past un was = record { none = λ alone i hop stands from. part-untouched (channel_number request.chan) (link_number hop.link) done past un ∙ was.none alone i hop stands from }

-- an offer to the owner's own setup
record IsOffered (request : Request) (replies : List Reply) (done : Done) (past : List Done) : Type 0 where
  asked : ChannelAsked request (done ∷ past)
  upto : IsUpTo request (replies ++ done.reply ∷ []) (done ∷ past)

offers-once : (c n : ℕ) (ask : Ask) (reply : Reply) → offers_with c n ask reply ≤ suc n
offers-once c n (Reserve chan contract kind delay up_reach first next) (Is.Offer level reach) = cond_both (nat_eq (channel_number chan) c) (suc n) n (λ m. m ≤ suc n) (λ _. omega arith) (λ _. omega arith)
offers-once c n _ _ = omega arith

offer-names : (request : Request) (replies : List Reply) (reach : ℕ) (ask : Ask) (reply : Reply) → ask ≡ reserve_of request (offers_in replies) reach → OffersTerms (terms_at request (length (offers_in replies))) (channel_number request.chan) ask reply
offer-names request replies reach ask reply is = subst (λ a. OffersTerms (terms_at request (length (offers_in replies))) (channel_number request.chan) a reply) (sym is) (named reply) where
  named : (r : Reply) → OffersTerms (terms_at request (length (offers_in replies))) (channel_number request.chan) (reserve_of request (offers_in replies) reach) r
  named (Is.Offer level far) = λ same. record { contract_is = refl; kind_is = refl; first_is = refl; next_is = refl }
  named _ = tt

own-offered : (request : Request) (replies : List Reply) (done : Done) (past : List Done) → IsRoute request.route → ChannelAsked request past → IsUpTo request replies past → Reserves request replies done.link done.ask → is_offer done.reply ≡ true → IsOffered request replies done past
unfolding offers_to
own-offered request replies done past route was upto own offer =
    let c : ℕ = channel_number request.chan in
    let at : link_number done.link ≡ link_number own.hop.link = ap link_number own.at in
    let zeroth = upto.none own.alone (length (offers_in replies)) own.hop own.stands (omega arith) in
    let off : (n : ℕ) → link_number own.hop.link ≢ n → offers_to (channel_number request.chan) (part_of n (done ∷ past)) ≡ offers_to (channel_number request.chan) (part_of n past) = λ n other. ap (offers_to (channel_number request.chan)) (part-off n done past (λ same. other (sym at ∙ same))) in
    let here : offers_to (channel_number request.chan) (part_of (link_number own.hop.link) (done ∷ past)) ≡ offers_with (channel_number request.chan) (offers_to (channel_number request.chan) (part_of (link_number own.hop.link) past)) done.ask done.reply = ap (offers_to (channel_number request.chan)) (part-on (link_number own.hop.link) done past at) in
    let more = offers-once (channel_number request.chan) (offers_to (channel_number request.chan) (part_of (link_number own.hop.link) past)) done.ask done.reply in
    record {
      asked = record {
        names = λ i hop stands. names-more (terms_at request i) (channel_number request.chan) (link_number hop.link) done past
            (λ on. subst (λ j. OffersTerms (terms_at request j) (channel_number request.chan) done.ask done.reply) (index-apart request.route (length (offers_in replies)) i own.hop hop route own.stands stands (sym at ∙ on)) (offer-names request replies own.reach done.ask done.reply own.is))
            (was.names i hop stands);
        once = λ n. elim (cases_Bool (nat_eq (link_number own.hop.link) n)) [
          | inl on ↦ subst (λ m. offers_to (channel_number request.chan) (part_of m (done ∷ past)) ≤ 1) (eqb-true (link_number own.hop.link) n on) (omega (arith, here, more, zeroth))
          | inr other ↦ (let same = off n (eqb-false (link_number own.hop.link) n other) in let h = was.once n in omega (arith, same, h))
        ];
        on = λ n some. elim (cases_Bool (nat_eq (link_number own.hop.link) n)) [
          | inl on ↦ record { index = length (offers_in replies); hop = own.hop; stands = own.stands; number = eqb-true (link_number own.hop.link) n on }
          | inr other ↦ was.on n (let same = off n (eqb-false (link_number own.hop.link) n other) in omega (arith, same, some))
        ];
      };
      upto = record {
        none = λ alone i hop stands from.
            let count : length (offers_in (replies ++ done.reply ∷ [])) ≡ length (offers_in replies) + 1 = ap length (offers-more replies done.reply own.alone offer) ∙ length_push (offers_in replies) (level_in done.reply) in
            off (link_number hop.link) (λ same. absurd (let e = index-apart request.route (length (offers_in replies)) i own.hop hop route own.stands stands same in omega (arith, e, count, from)))
            ∙ upto.none own.alone i hop stands (omega (arith, count, from));
      };
    }

-- a reply that is no offer leaves nothing to reserve
plain-upto : (request : Request) (replies : List Reply) (reply : Reply) (run : List Done) → is_offer reply ≡ false → IsUpTo request (replies ++ reply ∷ []) run
plain-upto request replies reply run plain = record {
  none = λ alone i hop stands from. absurd (not-empty (after_offers replies) (sym (after-other replies reply plain) ∙ alone));
} where
  not-empty : (xs : List Reply) → xs ++ reply ∷ [] ≡ [] → ⊥
  not-empty [] same = cc
  not-empty (x ∷ xs) same = cc

-- ---- every run

-- before the setup nothing is offered; under way nothing is at the hops that are still to be asked
abbrev NoneOffered : Request → List Done → Type 0
NoneOffered request run = (n : ℕ) → offers_to (channel_number request.chan) (part_of n run) ≡ 0

own-more : (request : Request) (shape : LinkShape) (h : List Entry) (done : Done) (past : List Done) (replies : List Reply) → IsRoute request.route → ChannelAsked request past → IsUpTo request replies past → next_ask request replies ≡ Some (done.link, done.ask) → MayReplyTo shape h done.ask done.reply → IsOffered request replies done past
own-more request shape h done past replies route was upto asks answered =
    elim (cases_Bool (is_offer done.reply)) [
      | inl offer ↦ own-offered request replies done past route was upto (reserves request replies done.link done.ask asks (offer-reserves shape h done.ask done.reply answered offer)) offer
      | inr plain ↦ record { asked = asked-untouched request done past (refused-untouched (channel_number request.chan) done.ask done.reply plain) was; upto = plain-upto request replies done.reply (done ∷ past) plain }
    ]

abbrev AskedBefore : Request → List Done → Type 0
AskedBefore request run = ChannelAsked request run × NoneOffered request run

abbrev AskedUnder : Request → List Done → List Reply → Type 0
AskedUnder request run replies = ChannelAsked request run × IsUpTo request replies run

abbrev AskedAfter : Request → List Done → Option Outcome → Type 0
AskedAfter request run outcome = ChannelAsked request run

none-asked : (request : Request) → AskedBefore request []
unfolding part_of offers_to
none-asked request = (record { names = λ i hop stands. tt; once = λ n. omega arith; on = λ n some. absurd (omega (arith, some)) }, λ n. refl)

setup-keeps : (network : Network) (request : Request) (owner : ℕ) (script : List Task) → NetworkFits network → IsRoute request.route → KeptBySetup network request owner script (AskedBefore request) (AskedUnder request) (AskedAfter request)
setup-keeps network request owner script fits route = record {
  none = none-asked request;
  before = λ past done run next mild was. (let un = untouched (channel_number request.chan) done.ask done.reply mild in (asked-untouched request done past un was.0, λ n. part-untouched (channel_number request.chan) n done past un ∙ was.1 n));
  starts = λ run is was. (was.0, record { none = λ alone i hop stands from. was.1 (link_number hop.link) });
  under = λ past done rest replies outcomes step was. (let more = own-more request step.next.link.shape (part_of (link_number done.link) past) done past replies route was.0 was.1 step.asks (answered-may network past done fits step.run step.next) in (more.asked, more.upto));
  aside = λ past done replies run next other mild was. (let un = untouched (channel_number request.chan) done.ask done.reply mild in (asked-untouched request done past un was.0, upto-untouched request replies done past un was.1));
  settles = λ run replies is none was. was.0;
  after = λ past done outcome run next mild was. asked-untouched request done past (untouched (channel_number request.chan) done.ask done.reply mild) was;
}

asked-at-all : (request : Request) (run : List Done) (at : Standing) → SetupAt request (AskedBefore request) (AskedUnder request) (AskedAfter request) run at → ChannelAsked request run
asked-at-all request run at (Before opened begun quiet is) = is.0
asked-at-all request run at (Under rest same others quiet to more is) = is.0
asked-at-all request run at (After others is) = is

-- what a run asks for a request that is opened once
pub channel-asked : (network : Network) (request : Request) (owner : ℕ) (run : List Done) → NetworkFits network → IsRoute request.route → OpensOnce network request owner → owner < length network.scripts → IsRun network run → ChannelAsked request run
channel-asked network request owner run fits route once inside is =
    let script = held network.scripts owner inside in
    asked-at-all request run (standing script.item (replies_to owner run))
    (each-setup network request owner script.item script.found once (AskedBefore request) (AskedUnder request) (AskedAfter request) (setup-keeps network request owner script.item fits route) run is)
