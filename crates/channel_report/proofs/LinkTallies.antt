-- The counts of all links after one more entry of a run, and while links change one after the other.
use Rattle.std.proofs.Common.{◌≡◌, ℕ, ◌+◌, ◌<◌, ◌≤◌, List, [], ◌∷◌, length, get_or, set, take, reverse, refl, sym, ap, ◌∙◌, inl, inr, arith, get_or-set_same, get_or-set_other, length-set, length-take}
use Rattle.std.proofs.lemmas.Bool.{cases_Bool, cases_eq}
use Rattle.std.proofs.lemmas.List.{get_or_default, length-map, length-reverse}
use Rattle.std.proofs.lemmas.Option.{slice_get_within}
use Rattle.net_units.specs.Numbers.{link_number}
use Rattle.link_steps.specs.Scan.{clock_of}
use Rattle.link_steps.specs.declared.replies.Entry.{Entry}
use Rattle.call_script.specs.Parts.{PlanParts}
use Rattle.call_script.specs.Splits.{entry_link, groups_in}
use Rattle.call_script.specs.Tasks.{network_of}
use Rattle.run_engine.specs.runs.Runs.{IsNext}
use Rattle.run_engine.proofs.Runs.RunLegal.{part-on, part-off}
use Rattle.run_record.specs.Runs.{entry_of, is_on, part_of}
use Rattle.run_record.specs.declared.done.Done.{Done}
use Rattle.channel_report.specs.Links.{total_in}
use Rattle.channel_report.specs.Tallies.{AreLinkTallies, AreToldTallies, IsTally, IsToldTally}
use Rattle.channel_report.specs.declared.link_tally.LinkTally.{LinkTally}

pub part-short : (n : ℕ) (run : List Done) → length (part_of n run) ≤ length run
unfolding part_of
part-short n [] = omega arith
part-short n (done ∷ past) =
    elim (cases_Bool (is_on n done)) [
      | inl on ↦ rw on (omega (arith, part-short n past))
      | inr off ↦ rw off (omega (arith, part-short n past))
    ]

pub past-short : (entries : List Done) (i : ℕ) → length (reverse (take i entries)) ≤ length entries
past-short entries i = omega (arith, length-reverse (take i entries), length-take i entries)

pub front-short : (n : ℕ) (entries : List Done) (i : ℕ) → length (part_of n (reverse (take i entries))) ≤ length entries
front-short n entries i = omega (arith, part-short n (reverse (take i entries)), length-reverse (take i entries), length-take i entries)

-- before the first entry
abbrev pub nothing : LinkTally
nothing = record { clock = 0; sent = 0; dropped = 0; best_sent = 0; best_lost = 0; pours_refused = 0 }

pub none-counted : (count : ℕ) (tallies : List LinkTally) → length tallies ≡ count → ((n : ℕ) (d : LinkTally) → n < count → get_or tallies n d ≡ nothing) → AreLinkTallies count [] tallies
unfolding part_of total_in clock_of
none-counted count tallies all bare = record { all = all; tells = λ n d within. rw (bare n d within) (record { is = refl; few = omega arith }) }

-- the link of an entry is one of the plan's
pub link-within : (parts : PlanParts) (past : List Done) (done : Done) → IsNext (network_of parts) past done → link_number done.link < length parts.links
unfolding network_of
link-within parts past done next = omega (arith, slice_get_within (network_of parts).links (link_number done.link) next.link next.linked, length-map parts.links (entry_link (groups_in parts)))

-- ---- one entry more

-- what is so of each link's history and counts is so with the entry
each-more : (P : List Entry → LinkTally → Type 0) (count : ℕ) (past : List Done) (done : Done) (old : List LinkTally) (at : ℕ) (new : LinkTally) → length old ≡ count → ((n : ℕ) (d : LinkTally) → n < count → P (part_of n past) (get_or old n d)) → link_number done.link ≡ at → at < count → P (entry_of done ∷ part_of at past) new
    → (n : ℕ) (d : LinkTally) → n < count → P (part_of n (done ∷ past)) (get_or (set old at new) n d)
each-more P count past done old at new all tells same within is n d inside = elim (cases_eq n at) [
  | inl here ↦
      (let put : get_or (set old at new) at d ≡ new = get_or-set_same old at new d (omega (arith, all, within)) in
      let mine : part_of at (done ∷ past) ≡ entry_of done ∷ part_of at past = part-on at done past same in
      rw (here, put, mine) is)
  | inr apart ↦
      (let kept : get_or (set old at new) n d ≡ get_or old n d = get_or-set_other old at n new d apart in
      let mine : part_of n (done ∷ past) ≡ part_of n past = part-off n done past (λ e. apart (sym e ∙ same)) in
      rw (kept, mine) (tells n d inside))
]

pub tallies-more : (count : ℕ) (past : List Done) (done : Done) (old : List LinkTally) (at : ℕ) (new : LinkTally) → AreLinkTallies count past old → link_number done.link ≡ at → at < count → IsTally (entry_of done ∷ part_of at past) new → AreLinkTallies count (done ∷ past) (set old at new)
tallies-more count past done old at new are same within is = record {
  all = length-set old at new ∙ are.all;
  tells = each-more IsTally count past done old at new are.all are.tells same within is;
}

pub told-more : (count : ℕ) (past : List Done) (done : Done) (old : List LinkTally) (at : ℕ) (new : LinkTally) → AreToldTallies count past old → link_number done.link ≡ at → at < count → IsToldTally (entry_of done ∷ part_of at past) new → AreToldTallies count (done ∷ past) (set old at new)
told-more count past done old at new are same within is = record {
  all = length-set old at new ∙ are.all;
  tells = each-more IsToldTally count past done old at new are.all are.tells same within is;
}

-- ---- and one that changes no counts

each-same : (P : List Entry → LinkTally → Type 0) (count : ℕ) (past : List Done) (done : Done) (tallies : List LinkTally) → ((n : ℕ) (d : LinkTally) → n < count → P (part_of n past) (get_or tallies n d)) → ((h : List Entry) (tally : LinkTally) → P h tally → P (entry_of done ∷ h) tally)
    → (n : ℕ) (d : LinkTally) → n < count → P (part_of n (done ∷ past)) (get_or tallies n d)
each-same P count past done tallies tells same n d inside = elim (cases_eq (link_number done.link) n) [
  | inl here ↦ rw (part-on n done past here) (same (part_of n past) (get_or tallies n d) (tells n d inside))
  | inr apart ↦ rw (part-off n done past apart) (tells n d inside)
]

pub tallies-same : (count : ℕ) (past : List Done) (done : Done) (tallies : List LinkTally) → AreLinkTallies count past tallies → ((h : List Entry) (tally : LinkTally) → IsTally h tally → IsTally (entry_of done ∷ h) tally) → AreLinkTallies count (done ∷ past) tallies
tallies-same count past done tallies are same = record { all = are.all; tells = each-same IsTally count past done tallies are.tells same }

pub told-same : (count : ℕ) (past : List Done) (done : Done) (tallies : List LinkTally) → AreToldTallies count past tallies → ((h : List Entry) (tally : LinkTally) → IsToldTally h tally → IsToldTally (entry_of done ∷ h) tally) → AreToldTallies count (done ∷ past) tallies
told-same count past done tallies are same = record { all = are.all; tells = each-same IsToldTally count past done tallies are.tells same }

-- ---- links that change one after the other

-- those so far have changed so
pub record HaveChangedTo (change : LinkTally → LinkTally) (old new : List LinkTally) (i : ℕ) : Type 0 where
  pub same : length new ≡ length old
  pub made : (k : ℕ) (d : LinkTally) → k < i → k < length old → get_or new k d ≡ change (get_or old k d)
  pub left : (k : ℕ) (d : LinkTally) → i ≤ k → get_or new k d ≡ get_or old k d

pub none-changed : (change : LinkTally → LinkTally) (old : List LinkTally) → HaveChangedTo change old old 0
none-changed change old = record { same = refl; made = λ k d less inside. absurd (omega (arith, less)); left = λ k d from. refl }

pub changed-more : (change : LinkTally → LinkTally) (old mid : List LinkTally) (i : ℕ) (none : LinkTally) → i < length mid → HaveChangedTo change old mid i → HaveChangedTo change old (set mid i (change (get_or mid i none))) (i + 1)
changed-more change old mid i none within before = let new = change (get_or mid i none) in record {
  same = length-set mid i new ∙ before.same;
  made = λ k d less inside. elim (cases_eq k i) [
    | inl here ↦
        (let put : get_or (set mid i new) i d ≡ new = get_or-set_same mid i new d within in
        let own : get_or mid i none ≡ get_or old i d = get_or_default mid i none d within ∙ before.left i d (omega arith) in
        rw here (put ∙ ap change own))
    | inr apart ↦
        (let kept : get_or (set mid i new) k d ≡ get_or mid k d = get_or-set_other mid i k new d apart in
        kept ∙ before.made k d (omega (arith, less, apart)) inside)
  ];
  left = λ k d from.
      let kept : get_or (set mid i new) k d ≡ get_or mid k d = get_or-set_other mid i k new d (λ same. absurd (omega (arith, same, from))) in
      kept ∙ before.left k d (omega (arith, from));
}
