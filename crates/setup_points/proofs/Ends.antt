-- The end of a setup, found an entry after another, and the latest of several ends.
use Rattle.std.proofs.Common.{◌≡◌, ℕ, ◌+◌, ◌<◌, ◌≤◌, Option, None, List, [], ◌∷◌, ◌++◌, length, get_or, max, take, reverse, refl, sym, ap, ◌∙◌, arith}
use Rattle.std.proofs.lemmas.List.{length-reverse, length-take-le, reverse-append, take_all, take_more}
use Rattle.call_script.specs.declared.entries.RequestEntry.{RequestEntry}
use Rattle.run_record.specs.declared.done.Done.{Done}
use Rattle.setup_points.specs.Starts.{end_in, end_of_all, later_end, setup_end}

-- ---- of one setup

pub none-ends : (chan : ℕ) (entries : List Done) → None ≡ setup_end chan (reverse (take 0 entries))
unfolding setup_end
none-ends chan [] = refl
none-ends chan (done ∷ entries) = refl

seen-one : (chan : ℕ) (done : Done) (past : List Done) → setup_end chan (done ∷ past) ≡ later_end chan done (length past) (setup_end chan past)
unfolding setup_end
seen-one chan done past = refl

pub end-more : (chan : ℕ) (entries : List Done) (i : ℕ) (done : Done) (end : Option ℕ) → i < length entries → done ≡ get_or entries i done → end ≡ setup_end chan (reverse (take i entries))
    → later_end chan done i end ≡ setup_end chan (reverse (take (i + 1) entries))
end-more chan entries i done end inside is so_far =
    let past = reverse (take i entries) in
    let count : i ≡ length past = sym (length-reverse (take i entries) ∙ length-take-le i entries (let before : i ≤ length entries = omega (arith, inside) in before)) in
    ap (λ (n : ℕ). later_end chan done n end) count ∙ ap (later_end chan done (length past)) so_far ∙ sym (seen-one chan done past)
    ∙ ap (λ (x : Done). setup_end chan (x ∷ past)) is ∙ ap (setup_end chan) (sym (ap reverse (take_more entries i done inside) ∙ reverse-append (take i entries) (get_or entries i done ∷ [])))

pub end-all : (chan : ℕ) (entries : List Done) (i : ℕ) (end : Option ℕ) → length entries ≤ i → end ≡ setup_end chan (reverse (take i entries)) → end ≡ setup_end chan (reverse entries)
end-all chan entries i end past so_far = so_far ∙ ap (λ (own : List Done). setup_end chan (reverse own)) (take_all i entries past)

-- ---- of several

pub none-latest : (requests : List RequestEntry) (run : List Done) (numbers : List ℕ) → 0 ≡ end_of_all requests run (take 0 numbers)
unfolding end_of_all
none-latest requests run [] = refl
none-latest requests run (number ∷ numbers) = refl

later-of : (a b c : ℕ) → max a (max b c) ≡ max (max a b) c
later-of a b c = omega arith

one-behind : (requests : List RequestEntry) (run : List Done) (numbers : List ℕ) (number : ℕ) → max (end_of_all requests run numbers) (end_in requests run number) ≡ end_of_all requests run (numbers ++ number ∷ [])
unfolding end_of_all
one-behind requests run [] number = turned (end_in requests run number) where
  turned : (n : ℕ) → max 0 n ≡ max n 0
  turned n = omega arith
one-behind requests run (first ∷ numbers) number =
    sym (later-of (end_in requests run first) (end_of_all requests run numbers) (end_in requests run number)) ∙ ap (max (end_in requests run first)) (one-behind requests run numbers number)

pub latest-more : (requests : List RequestEntry) (run : List Done) (numbers : List ℕ) (i latest : ℕ) → i < length numbers → latest ≡ end_of_all requests run (take i numbers)
    → max latest (end_in requests run (get_or numbers i 0)) ≡ end_of_all requests run (take (i + 1) numbers)
latest-more requests run numbers i latest inside so_far =
    ap (λ (n : ℕ). max n (end_in requests run (get_or numbers i 0))) so_far ∙ one-behind requests run (take i numbers) (get_or numbers i 0) ∙ ap (end_of_all requests run) (sym (take_more numbers i 0 inside))

pub latest-all : (requests : List RequestEntry) (run : List Done) (numbers : List ℕ) (i latest : ℕ) → length numbers ≤ i → latest ≡ end_of_all requests run (take i numbers) → latest ≡ end_of_all requests run numbers
latest-all requests run numbers i latest past so_far = so_far ∙ ap (end_of_all requests run) (take_all i numbers past)
