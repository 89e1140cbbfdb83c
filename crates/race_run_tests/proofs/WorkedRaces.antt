-- The parts of the worked plans may be planned, and the asks of whole journals meet the conditions of their links.
use Rattle.std.proofs.Common.{◌≡◌, ℕ, zero, suc, ◌+◌, Some, None, List, [], ◌∷◌, ◌++◌, length, map, refl, sym, ap, ◌∙◌, subst, arith}
use Rattle.std.proofs.lemmas.List.{length-map}
use Rattle.std.proofs.lemmas.Option.{same_Some, slice_get-map}
use Rattle.std.specs.List.{slice_get}
use Rattle.std.specs.Prelude.{option_map}
use Rattle.net_units.specs.Numbers.{channel_number, link_number}
use Rattle.hop_reservation.specs.declared.route.Hop.{Hop}
use Rattle.link_steps.specs.Journals.{JournalGoesOn}
use Rattle.link_steps.specs.Legal.{AskFits}
use Rattle.link_steps.specs.Lists.{Each}
use Rattle.link_steps.specs.Split.{Link}
use Rattle.link_steps.specs.declared.replies.Entry.{Entry as Done}
use Rattle.link_steps.proofs.SearchAndFilter.{Each-if}
use Rattle.link_ledger.specs.Journals.{done_in}
use Rattle.link_ledger.specs.Tokens.{Token}
use Rattle.link_ledger.specs.declared.entries.Entry.{Entry}
use Rattle.link_ledger.specs.declared.entries.Journal.{Journal}
use Rattle.call_script.specs.Splits.{entry_link, groups_in}
use Rattle.call_script.specs.Tasks.{network_of}
use Rattle.call_script.specs.Parts.{PlanParts, ArePlanned, FollowsLink, opening_of, openings_of, parts_of}
use Rattle.call_script.specs.declared.entries.LinkEntry.{LinkEntry}
use Rattle.call_script.specs.declared.entries.RequestEntry.{RequestEntry}
use Rattle.call_script.specs.declared.entries.CallerEntry.{CallerEntry}
use Rattle.call_script.specs.declared.version.Version.{Version}
use Rattle.call_script.proofs.GroupRulesStay.{none-unused}
use Rattle.race_run.specs.Whole.{IsWhole}
use Rattle.race_run.proofs.Weave.WeaveIsRun.{whole-length}
use Rattle.race_run_tests.specs.Worked.{AreMovers, EachWithNumber, IsMovedRequest, IsWorkedCaller, IsWorkedHop, IsWorkedLink, IsWorkedRequest}

pub numbered-more : {X : Type 0} (P : ℕ → X → Type 0) (n : ℕ) (xs : List X) (x : X) → EachWithNumber P n xs → P (n + length xs) x → EachWithNumber P n (xs ++ x ∷ [])
numbered-more P n [] x all last = (subst (λ k. P k x) (omega arith) last, tt)
numbered-more P n (y ∷ ys) x all last = (all.0, numbered-more P (suc n) ys x all.1 (subst (λ k. P k x) (omega arith) last))

numbered-get : {X : Type 0} (P : ℕ → X → Type 0) (n : ℕ) (xs : List X) (k : ℕ) (x : X) → EachWithNumber P n xs → slice_get xs k ≡ Some x → P (n + k) x
numbered-get P n [] k x all found = absurd (let clash : None ≡ Some x = found in cc)
numbered-get P n (y ∷ ys) zero x all found = subst (λ m. P m x) (omega arith) (subst (P n) (same_Some y x found) all.0)
numbered-get P n (y ∷ ys) (suc k) x all found = subst (λ m. P m x) (omega arith) (numbered-get P (suc n) ys k x all.1 found)

-- from 0 on
first-get : {X : Type 0} (P : ℕ → X → Type 0) (xs : List X) (k : ℕ) (x : X) → EachWithNumber P 0 xs → slice_get xs k ≡ Some x → P k x
first-get P xs k x all found = subst (λ m. P m x) (omega arith) (numbered-get P 0 xs k x all found)

openings-told : (n : ℕ) (callers : List CallerEntry) (requests : List RequestEntry) → length callers ≡ length requests → EachWithNumber IsWorkedCaller n callers → EachWithNumber IsWorkedRequest n requests → openings_of n callers ≡ map opening_of requests
unfolding openings_of
openings-told n [] [] long callers requests = refl
openings-told n [] (r ∷ rs) long callers requests = absurd (omega (arith, long))
openings-told n (c ∷ cs) [] long callers requests = absurd (omega (arith, long))
openings-told n (c ∷ cs) (r ∷ rs) long callers requests =
    let rest = openings-told (suc n) cs rs (omega (arith, long)) callers.1 requests.1 in
    ap (λ os. os ++ openings_of (suc n) cs) callers.0.opens ∙ (λ i. record { caller = sym requests.0.caller i; chan = sym requests.0.chan i } ∷ rest i)

follows : (links : List LinkEntry) (hop : Hop) → EachWithNumber IsWorkedLink 0 links → IsWorkedHop hop → FollowsLink links hop
follows links hop all over = record {
  bounds = λ entry found. over.bounds ∙ sym (first-get IsWorkedLink links (link_number hop.link) entry all found).bounds;
  prop = λ entry found. over.prop ∙ sym (first-get IsWorkedLink links (link_number hop.link) entry all found).prop;
}

-- the request of a number asks for its channel, over hops of the links
record IsOver (n : ℕ) (entry : RequestEntry) : Type 0 where
  chan : channel_number entry.request.chan ≡ n
  hops : Each IsWorkedHop entry.request.route

planned-over : (version : Version) (links : List LinkEntry) (requests : List RequestEntry) (callers : List CallerEntry) (rounds tail : ℕ) → EachWithNumber IsWorkedLink 0 links → EachWithNumber IsOver 0 requests → openings_of 0 callers ≡ map opening_of requests → ArePlanned (parts_of version links requests callers rounds tail)
planned-over version links requests callers rounds tail are over opened = record {
  links = λ n entry found. (first-get IsWorkedLink links n entry are found).number;
  unused = λ n entry found. none-unused entry (first-get IsWorkedLink links n entry are found).unsplit;
  requests = λ n entry found. (first-get IsOver requests n entry over found).chan;
  openings = opened;
  hops = λ n entry found. Each-if IsWorkedHop (FollowsLink links) entry.request.route (λ hop on. follows links hop are on) (first-get IsOver requests n entry over found).hops;
}

over-all : (n : ℕ) (requests : List RequestEntry) → EachWithNumber IsWorkedRequest n requests → EachWithNumber IsOver n requests
over-all n [] all = tt
over-all n (r ∷ requests) all = (record { chan = all.0.chan; hops = all.0.hops }, over-all (suc n) requests all.1)

pub worked-planned : (version : Version) (links : List LinkEntry) (requests : List RequestEntry) (callers : List CallerEntry) (rounds tail : ℕ) → EachWithNumber IsWorkedLink 0 links → EachWithNumber IsWorkedRequest 0 requests → EachWithNumber IsWorkedCaller 0 callers → length callers ≡ length requests → ArePlanned (parts_of version links requests callers rounds tail)
worked-planned version links requests callers rounds tail are asks open_all long = planned-over version links requests callers rounds tail are (over-all 0 requests asks) (openings-told 0 callers requests long open_all asks)

moved-over : (n : ℕ) (requests : List RequestEntry) → EachWithNumber IsMovedRequest n requests → EachWithNumber IsOver n requests
moved-over n [] all = tt
moved-over n (r ∷ requests) all = (record { chan = all.0.chan; hops = all.0.hops }, moved-over (suc n) requests all.1)

moved-openings : (callers : List CallerEntry) (requests : List RequestEntry) → AreMovers callers → EachWithNumber IsMovedRequest 0 requests → length requests ≡ 2 → openings_of 0 callers ≡ map opening_of requests
unfolding openings_of
moved-openings (c ∷ []) (old ∷ new ∷ []) opens asks long =
    ap (λ os. os ++ []) opens.opens ∙ (λ i. record { caller = sym asks.0.caller i; chan = sym asks.0.chan i } ∷ record { caller = sym asks.1.0.caller i; chan = sym asks.1.0.chan i } ∷ [])
moved-openings [] requests opens asks long = absurd opens
moved-openings (c ∷ d ∷ callers) requests opens asks long = absurd opens
moved-openings (c ∷ []) [] opens asks long = absurd (omega (arith, long))
moved-openings (c ∷ []) (old ∷ []) opens asks long = absurd (omega (arith, long))
moved-openings (c ∷ []) (old ∷ new ∷ r ∷ requests) opens asks long = absurd (omega (arith, long))

-- a caller that opens two channels
pub moving-planned : (version : Version) (links : List LinkEntry) (requests : List RequestEntry) (callers : List CallerEntry) (rounds tail : ℕ) → EachWithNumber IsWorkedLink 0 links → EachWithNumber IsMovedRequest 0 requests → length requests ≡ 2 → AreMovers callers → ArePlanned (parts_of version links requests callers rounds tail)
moving-planned version links requests callers rounds tail are asks long opens = planned-over version links requests callers rounds tail are (moved-over 0 requests asks) (moved-openings callers requests opens asks long)

-- ---- the asks of a journal

goes-fits : (link : Link) (past : List Done) (entries : List Entry) → JournalGoesOn link past (map done_in entries) → Each (λ (e : Entry). AskFits link.shape e.ask) entries
unfolding JournalGoesOn
goes-fits link past [] goes = tt
goes-fits link past (e ∷ entries) goes = (goes.0.fits, goes-fits link (done_in e ∷ past) entries goes.1)

pub journal-fits : (parts : PlanParts) (passes : List Token) (journals : List Journal) (k : ℕ) (journal : Journal) (entry : LinkEntry) → IsWhole (network_of parts) passes journals → slice_get journals k ≡ Some journal → slice_get parts.links k ≡ Some entry → Each (λ (e : Entry). AskFits entry.shape e.ask) journal.entries
unfolding network_of
journal-fits parts passes journals k journal entry whole_is found linked =
    goes-fits (entry_link (groups_in parts) entry) [] journal.entries (whole_is.closed.legal k (entry_link (groups_in parts) entry) journal (slice_get-map (entry_link (groups_in parts)) parts.links k ∙ ap (option_map (entry_link (groups_in parts))) linked) found)

-- as many journals as links
pub journals-many : (parts : PlanParts) (passes : List Token) (journals : List Journal) → IsWhole (network_of parts) passes journals → length journals ≡ length parts.links
unfolding network_of
journals-many parts passes journals whole_is = whole-length (network_of parts) passes journals whole_is ∙ length-map parts.links (entry_link (groups_in parts))
