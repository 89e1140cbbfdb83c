-- The offers of a setup as its replies come: one more offer counts where only offers have come, and after another reply none does.
use Rattle.std.proofs.Common.{◌≡◌, ◌≢◌, ◌+◌, ◌<◌, ◌⊎◌, ℕ, inl, inr, true, false, List, [], ◌∷◌, ◌++◌, length, get_or, take, map, reverse, refl, sym, ap, ◌∙◌, subst}
use Rattle.std.proofs.lemmas.Bool.{cases_Bool}
use Rattle.std.proofs.lemmas.List.{map-append}
use Rattle.net_units.specs.Numbers.{level_number}
use Rattle.net_units.specs.declared.numbers.Level.{Level}
use Rattle.link_steps.specs.declared.replies.Reply.{Reply}
use Rattle.link_steps.specs.declared.replies.Reply.TheVariants.{Offer}
use Rattle.run_engine.specs.replies.Verdicts.{is_setup_ask, setup_replies}
use Rattle.run_engine.proofs.Runs.RunFronts.{front-more}
use Rattle.run_record.specs.declared.done.Done.{Done}
use Rattle.setup_protocol.specs.Setup.{is_offer, level_in, offers_in, after_offers}
use Rattle.setup_protocol.proofs.SetupAdvances.{offers-other, after-other, offers-more, after-none}
use Rattle.plan_answers.specs.Offers.{AreOffersOf}
use Rattle.plan_answers.specs.declared.offers.Offers.{Offers}

-- a list with one more is not empty
one-more : {X : Type 0} (xs : List X) (x : X) → xs ++ x ∷ [] ≢ []
one-more [] x none = cc
one-more (first ∷ xs) x none = cc

-- after a reply that is no offer the offers stay the same
offers-closed : (replies : List Reply) (reply : Reply) → after_offers replies ≢ [] → (offers_in (replies ++ reply ∷ []) ≡ offers_in replies) × (after_offers (replies ++ reply ∷ []) ≢ [])
unfolding offers_in after_offers
offers-closed [] reply over = absurd (over refl)
offers-closed (first ∷ replies) reply over =
    elim (cases_Bool (is_offer first)) [
      | inl offer ↦ let rest = offers-closed replies reply (λ none. over (rw offer none)) in
          (rw offer (ap (λ levels. level_in first ∷ levels) rest.0), λ none. rest.1 (rw offer at none))
      | inr plain ↦ (rw plain refl, λ none. absurd (let clash : first ∷ (replies ++ reply ∷ []) ≡ [] = rw plain at none in cc))
    ]

-- a reply that is no offer
pub not-offer : (reply : Reply) → ((level reach : Level) → reply ≢ Offer level reach) → is_offer reply ≡ false
not-offer (Offer level reach) other = absurd (other level reach refl)
not-offer _ other = refl

-- ---- one reply more

pub offered-more : (old new : Offers) (replies : List Reply) (reply : Reply) (level : Level) → old.are_over ≡ false → is_offer reply ≡ true → level_in reply ≡ level_number level
    → new.levels.items ≡ old.levels.items ++ level ∷ [] → new.are_over ≡ old.are_over → AreOffersOf old replies → AreOffersOf new (replies ++ reply ∷ [])
offered-more old new replies reply level before offer is more same kept = record {
  levels =
      ap (map level_number) more ∙ map-append level_number old.levels.items (level ∷ []) ∙ ap (λ front. front ++ level_number level ∷ []) kept.levels
      ∙ ap (λ n. offers_in replies ++ n ∷ []) (sym is) ∙ sym (offers-more replies reply (kept.going before) offer);
  going = λ still. after-none replies reply (kept.going before) offer;
  over = λ ended. absurd (let clash : true ≡ false = sym ended ∙ same ∙ before in cc);
}

-- once the offers are over, or with a reply that is no offer
pub offered-over : (old new : Offers) (replies : List Reply) (reply : Reply) → (old.are_over ≡ true) ⊎ (is_offer reply ≡ false) → new.levels.items ≡ old.levels.items → new.are_over ≡ true
    → AreOffersOf old replies → AreOffersOf new (replies ++ reply ∷ [])
offered-over old new replies reply why same ends kept = by (cases_Bool old.are_over) where
  given : (offers_in (replies ++ reply ∷ []) ≡ offers_in replies) × (after_offers (replies ++ reply ∷ []) ≢ []) → AreOffersOf new (replies ++ reply ∷ [])
  given stays = record {
    levels = ap (map level_number) same ∙ kept.levels ∙ sym stays.0;
    going = λ still. absurd (let clash : true ≡ false = sym ends ∙ still in cc);
    over = λ ended. stays.1;
  }

  first-other : old.are_over ≡ false → (old.are_over ≡ true) ⊎ (is_offer reply ≡ false) → AreOffersOf new (replies ++ reply ∷ [])
  first-other before (inl ended) = absurd (let clash : true ≡ false = sym ended ∙ before in cc)
  first-other before (inr other) = given (
    offers-other replies reply other,
    λ none. one-more (after_offers replies) reply (sym (after-other replies reply other) ∙ none),
  )

  by : (old.are_over ≡ true) ⊎ (old.are_over ≡ false) → AreOffersOf new (replies ++ reply ∷ [])
  by (inl ended) = given (offers-closed replies reply (kept.over ended))
  by (inr before) = first-other before why

-- ---- one entry more

pub seen-of-setup : (old new : Offers) (c : ℕ) (past : List Done) (done : Done) → is_setup_ask c done.ask ≡ true → ((replies : List Reply) → AreOffersOf old replies → AreOffersOf new (replies ++ done.reply ∷ []))
    → AreOffersOf old (setup_replies c past) → AreOffersOf new (setup_replies c (done ∷ past))
unfolding setup_replies
seen-of-setup old new c past done asks takes kept = rw asks (takes (setup_replies c past) kept)

pub seen-other : (kept : Offers) (c : ℕ) (past : List Done) (done : Done) → is_setup_ask c done.ask ≡ false → AreOffersOf kept (setup_replies c past) → AreOffersOf kept (setup_replies c (done ∷ past))
unfolding setup_replies
seen-other kept c past done other are = rw other are

pub none-seen : (kept : Offers) (c : ℕ) → kept.levels.items ≡ [] → kept.are_over ≡ false → AreOffersOf kept (setup_replies c [])
unfolding setup_replies offers_in after_offers
none-seen kept c none before = record { levels = ap (map level_number) none; going = λ still. refl; over = λ ended. absurd (let clash : true ≡ false = sym ended ∙ before in cc) }

pub seen-more : (old new : Offers) (c : ℕ) (entries : List Done) (i : ℕ) (done : Done) → i < length entries → done ≡ get_or entries i done
    → ((past : List Done) → AreOffersOf old (setup_replies c past) → AreOffersOf new (setup_replies c (done ∷ past)))
    → AreOffersOf old (setup_replies c (reverse (take i entries))) → AreOffersOf new (setup_replies c (reverse (take (i + 1) entries)))
seen-more old new c entries i done inside is sees kept =
    subst (λ (past : List Done). AreOffersOf new (setup_replies c past)) (sym (front-more entries i done inside is)) (sees (reverse (take i entries)) kept)
