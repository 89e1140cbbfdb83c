-- The steps of the actors after one more entry of a run, and after more steps of one of them.
use Rattle.std.proofs.Common.{◌≡◌, ◌≢◌, ℕ, ◌+◌, ◌<◌, ◌≤◌, List, [], ◌∷◌, length, get_or, set, replicate, sym, ap, ◌∙◌, inl, inr, arith, get_or-set_same, get_or-set_other, length-set}
use Rattle.std.proofs.lemmas.Bool.{cases_Bool, cases_eq}
use Rattle.std.proofs.lemmas.List.{get_or-replicate, length-replicate}
use Rattle.net_units.specs.Numbers.{actor_number}
use Rattle.run_engine.proofs.Runs.RunLegal.{replies-by, replies-off}
use Rattle.run_record.specs.Runs.{is_by, replies_to}
use Rattle.run_record.specs.declared.done.Done.{Done}
use Rattle.channel_report.specs.StepCounts.{AreStepCounts}

pub no-steps : (counts : List ℕ) → counts ≡ replicate 65 0 → AreStepCounts [] counts
unfolding replies_to
no-steps counts are = record {
  all = ap length are ∙ length-replicate {A = ℕ} 65 0;
  tells = λ n d within. rw are (get_or-replicate 65 n 0 d within);
}

pub steps-more : (past : List Done) (done : Done) (old : List ℕ) (at more : ℕ) → AreStepCounts past old → actor_number done.actor ≡ at → at < 65 → more ≡ get_or old at more + 1 → AreStepCounts (done ∷ past) (set old at more)
steps-more past done old at more are same within is = record {
  all = length-set old at more ∙ are.all;
  tells = λ n d inside. elim (cases_eq n at) [
    | inl here ↦
        (let put : get_or (set old at more) at d ≡ more = get_or-set_same old at more d (omega (arith, are.all, within)) in
        let own = ap length (replies-by at done past same) in
        let was = are.tells at more within in
        rw here (put ∙ omega (arith, own, was, is)))
    | inr apart ↦
        (let kept : get_or (set old at more) n d ≡ get_or old n d = get_or-set_other old at n more d apart in
        kept ∙ are.tells n d inside ∙ ap length (sym (replies-off n done past (λ e. apart (sym e ∙ same)))))
  ];
}

-- so many more steps of one actor
pub steps-by : (past run : List Done) (old : List ℕ) (at steps more : ℕ) → at < 65 → AreStepCounts past old → length (replies_to at run) ≡ length (replies_to at past) + steps → ((n : ℕ) → n ≢ at → replies_to n run ≡ replies_to n past) → ((d : ℕ) → more ≡ get_or old at d + steps)
    → AreStepCounts run (set old at more)
steps-by past run old at steps more within are own others is = record {
  all = length-set old at more ∙ are.all;
  tells = λ n d inside. elim (cases_eq n at) [
    | inl here ↦
        (let put : get_or (set old at more) at d ≡ more = get_or-set_same old at more d (omega (arith, are.all, within)) in
        let was = are.tells at d within in
        rw here (omega (arith, put, own, was, is d)))
    | inr apart ↦
        (let kept : get_or (set old at more) n d ≡ get_or old n d = get_or-set_other old at n more d apart in
        kept ∙ are.tells n d inside ∙ ap length (sym (others n apart)))
  ];
}

-- an actor makes at most all steps
pub replies-few : (actor : ℕ) (run : List Done) → length (replies_to actor run) ≤ length run
unfolding replies_to
replies-few actor [] = omega arith
replies-few actor (done ∷ past) =
    elim (cases_Bool (is_by actor done)) [
      | inl own ↦ rw own (omega (arith, replies-few actor past))
      | inr other ↦ rw other (omega (arith, replies-few actor past))
    ]
