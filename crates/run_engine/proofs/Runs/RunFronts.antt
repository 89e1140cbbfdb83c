-- A prefix of a run's entries, in the order of time, is a run, and the entry after it is its next step; with that step it is a run again.
use Rattle.std.proofs.Common.{◌≡◌, ℕ, ◌+◌, ◌<◌, List, [], ◌∷◌, ◌++◌, length, get_or, take, drop, reverse, sym, ap, ◌∙◌, subst}
use Rattle.run_engine.proofs.Words.{reverse-append, take-append-drop, take_more, Network, IsNext, IsRun, Done}

-- what was done before is a run
later-run : (network : Network) (later past : List Done) → IsRun network (later ++ past) → IsRun network past
unfolding IsRun
later-run network [] past run = run
later-run network (done ∷ later) past run = later-run network later past run.0

-- and with the next step more
pub run-more : (network : Network) (past : List Done) (done : Done) → IsRun network past → IsNext network past done → IsRun network (done ∷ past)
unfolding IsRun
run-more network past done run next = (run, next)

-- ---- fronts

front-joined : (entries : List Done) (i : ℕ) → reverse entries ≡ reverse (drop i entries) ++ reverse (take i entries)
front-joined entries i = ap reverse (sym (take-append-drop i entries)) ∙ reverse-append (take i entries) (drop i entries)

pub front-run : (network : Network) (entries : List Done) (i : ℕ) → IsRun network (reverse entries) → IsRun network (reverse (take i entries))
front-run network entries i run = later-run network (reverse (drop i entries)) (reverse (take i entries)) (subst (IsRun network) (front-joined entries i) run)

-- one entry more
pub front-more : (entries : List Done) (i : ℕ) (done : Done) → i < length entries → done ≡ get_or entries i done → reverse (take (i + 1) entries) ≡ done ∷ reverse (take i entries)
front-more entries i done inside is =
    let more : take (i + 1) entries ≡ take i entries ++ done ∷ [] = take_more entries i done inside ∙ ap (λ (d : Done). take i entries ++ d ∷ []) (sym is) in
    ap reverse more ∙ reverse-append (take i entries) (done ∷ [])

pub next-head : (network : Network) (done : Done) (past : List Done) → IsRun network (done ∷ past) → IsNext network past done
unfolding IsRun
next-head network done past run = run.1

pub front-next : (network : Network) (entries : List Done) (i : ℕ) (done : Done) → i < length entries → done ≡ get_or entries i done → IsRun network (reverse entries) → IsNext network (reverse (take i entries)) done
front-next network entries i done inside is run =
    next-head network done (reverse (take i entries)) (subst (IsRun network) (front-more entries i done inside is) (front-run network entries (i + 1) run))
