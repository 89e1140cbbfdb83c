-- Passes that have given their seats up keep their actors and their own entries, so what is told of the passes of a closed
-- network is told of them.
use Rattle.std.proofs.Common.{◌≡◌, ℕ, suc, Some, None, List, [], ◌∷◌, map, reverse, refl, sym, ap, ◌∙◌, subst}
use Rattle.std.specs.List.{slice_get}
use Rattle.net_units.specs.Numbers.{actor_number}
use Rattle.link_steps.specs.Lists.{Each}
use Rattle.link_steps.specs.Split.{Link}
use Rattle.link_steps.proofs.SearchAndFilter.{Each-if, Each-map, Each-mapped}
use Rattle.step_stamp.specs.Lists.{Has, up_to}
use Rattle.step_stamp.specs.Marks.{StampsRise}
use Rattle.link_ledger.specs.Own.{own_entry, own_mark}
use Rattle.link_ledger.specs.Tokens.{Token}
use Rattle.link_ledger.specs.declared.entries.Entry.{Entry}
use Rattle.link_ledger.specs.declared.entries.Journal.{Journal}
use Rattle.shared_network.specs.Calls.{reply_in}
use Rattle.shared_network.specs.Closing.{IsClosed, IsOfOne, HaveGivenUp, KeptPass, StandsIn, kept_pass}
use Rattle.shared_network.specs.Gathering.{token_actor}
use Rattle.call_script.specs.Tasks.{Network}
use Rattle.run_engine.specs.runs.Parts.{IsAsked, next_after}
use Rattle.run_engine.specs.runs.Runs.{plane_no}
use Rattle.race_run.specs.Whole.{HasMadeAll, IsWhole, own_done}
use Rattle.link_steps.proofs.ListParts.{ComesFrom, comes-from, mapped-at}

module _ (passes closed : List Token) (same : map kept_pass closed ≡ map kept_pass passes) where
  -- what is said of the actor and the own entries alone
  kept-each : (P : KeptPass → Type 0) → Each (λ (p : Token). P (kept_pass p)) passes → Each (λ (p : Token). P (kept_pass p)) closed
  kept-each P each = Each-mapped P kept_pass closed (subst (Each P) (sym same) (Each-map P kept_pass passes each))

  kept-actors : map token_actor closed ≡ map token_actor passes
  kept-actors = by-kept closed ∙ ap (map (λ (k : KeptPass). actor_number k.actor)) same ∙ sym (by-kept passes) where
    by-kept : (ps : List Token) → map token_actor ps ≡ map (λ (k : KeptPass). actor_number k.actor) (map kept_pass ps)
    by-kept [] = refl
    by-kept (p ∷ ps) = ap (λ ns. actor_number p.actor ∷ ns) (by-kept ps)

kept-at : (xs ys : List Token) (k : ℕ) (x : Token) → map kept_pass ys ≡ map kept_pass xs → slice_get xs k ≡ Some x → ComesFrom kept_pass ys k (kept_pass x)
kept-at xs ys k x same found = comes-from kept_pass ys k (kept_pass x) (ap (λ ks. slice_get ks k) same ∙ mapped-at kept_pass xs k x found)

kept-one : (passes closed : List Token) (l k : ℕ) (x : Entry) → map kept_pass closed ≡ map kept_pass passes → IsOfOne passes l k x → IsOfOne closed l k x
kept-one passes closed l k x same one =
    let it = kept-at passes closed one.index one.pass same one.found in
    record {
      index = one.index;
      pass = it.from;
      found = it.found;
      entry = one.entry;
      own = subst (λ (p : KeptPass). Has one.entry p.own) (sym it.is) one.own;
      link = one.link;
      place = one.place;
      same = ap (λ (p : KeptPass). own_entry p.actor one.entry) it.is ∙ one.same;
      only = λ j other e found has link place.
          (let back = kept-at closed passes j other (sym same) found in
          one.only j back.from e back.found (subst (λ (p : KeptPass). Has e p.own) (sym back.is) has) link place);
    }

pub closed-kept : (links : List Link) (passes closed : List Token) (journals : List Journal) → HaveGivenUp passes closed → IsClosed links passes journals → IsClosed links closed journals
closed-kept links passes closed journals given is = record {
  numbers = is.numbers;
  legal = is.legal;
  rises = is.rises;
  apart = is.apart;
  stands = kept-each passes closed given.kept (λ (p : KeptPass). Each (StandsIn journals p.actor) p.own) is.stands;
  of_one = λ l k journal x found here. kept-one passes closed l k x given.kept (is.of_one l k journal x found here);
  in_order = kept-each passes closed given.kept (λ (p : KeptPass). StampsRise (map (own_mark p.actor) p.own)) is.in_order;
}

-- what its actor asks, and then nothing
abbrev MadeAll : Network → KeptPass → Type 0
MadeAll network p = IsAsked network (actor_number p.actor) (reverse (map (own_done p.actor) p.own)) × (next_after network (actor_number p.actor) (reverse (map reply_in p.own)) ≡ None)

pub kept-whole : (network : Network) (passes closed : List Token) (journals : List Journal) → HaveGivenUp passes closed → IsClosed network.links passes journals → map token_actor passes ≡ up_to (suc (plane_no network)) → Each (HasMadeAll network) passes → IsWhole network closed journals
kept-whole network passes closed journals given is actors made = record {
  closed = closed-kept network.links passes closed journals given is;
  actors = kept-actors passes closed given.kept ∙ actors;
  made_all = Each-if (λ (p : Token). MadeAll network (kept_pass p)) (HasMadeAll network) closed (λ p all. record { asked = all.0; over = all.1 })
      (kept-each passes closed given.kept (MadeAll network) (Each-if (HasMadeAll network) (λ (p : Token). MadeAll network (kept_pass p)) passes (λ p all. (all.asked, all.over)) made));
}
