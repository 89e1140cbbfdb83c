-- Texts that are told one after another are one text, and so are the texts of a list's items. What was told before a fault is a
-- prefix of it.
use Rattle.std.proofs.Common.{◌≡◌, ℕ, ◌+◌, ◌<◌, ◌≤◌, Option, Result, Ok, Err, List, [], ◌∷◌, ◌++◌, length, get_or, take, drop, refl, sym, ap, ◌∙◌, subst, append_assoc, append-nil, arith}
use Rattle.std.proofs.lemmas.Grind.{flat_map-append}
use Rattle.std.proofs.lemmas.List.{take_more, take_all, take-append-drop}
use Rattle.std.specs.List.{flat_map}
use Rattle.std.proofs.KnownBytes.{Appends-nil}
use Rattle.std.specs.Io.KnownBytes.{Appends}
use Rattle.std.specs.Result.{IsErrAnd}
use Rattle.byte_ends.specs.Faults.{FaultsRise}
use Rattle.byte_ends.specs.Gathering.{WritesPart}
use Rattle.byte_ends.proofs.Gathering.{gathers-nothing, gathers-on, gathers-then-part, part-of-longer, rises-later}
use Rattle.text_writer.specs.Telling.{IsWhy, Tells, Told, WritesText}
use Rattle.text_writer.specs.declared.fault.ReportFault.{ReportFault}
use Rattle.text_writer.specs.declared.fault.ReportFault.TheVariants.{Memory, WriteFault}

pub why-later : (why : ReportFault) (f f' f'' : ℕ) → f ≤ f' → IsWhy why f' f'' → IsWhy why f f''
why-later Memory f f' f'' first later = omega (arith, first, later)
why-later WriteFault f f' f'' first later = rises-later f f' f'' first later

-- nothing is told at first
pub told-nothing : (w : Option (List ℕ)) (g : List ℕ) (f : ℕ) → Told w w g g f f []
told-nothing w g f = record { gathers = gathers-nothing w g; counts = omega arith }

-- a fault that a call hands on
failed : (result : Result (Unit {0}) ReportFault) (why : ReportFault) (a b : Option (List ℕ)) (g g' : List ℕ) (f f' : ℕ) (text : List ℕ) → IsErrAnd result (λ fault. fault ≡ why) → WritesPart a b (g ++ text) × IsWhy why f f' → Tells result a b g g' f f' text
failed (Ok done) why a b g g' f f' text is failing = absurd is
failed (Err fault) why a b g g' f f' text is failing = (failing.0, subst (λ (e : ReportFault). IsWhy e f f') (sym is) failing.1)

-- the sink failed in what wants no memory
pub write-failed : (result : Result (Unit {0}) ReportFault) (a b : Option (List ℕ)) (g g' : List ℕ) (f f' : ℕ) (text : List ℕ) → IsErrAnd result (λ fault. fault ≡ WriteFault) → WritesPart a b (g ++ text) × FaultsRise f f' → Tells result a b g g' f f' text
write-failed result a b g g' f f' text is failing = failed result WriteFault a b g g' f f' text is failing

-- out of memory before anything is told
pub nothing-told : (result : Result (Unit {0}) ReportFault) (a : Option (List ℕ)) (g : List ℕ) (f : ℕ) (text : List ℕ) → IsErrAnd result (λ fault. fault ≡ Memory) → Tells result a a g g f f text
nothing-told result a g f text is =
    failed result Memory a a g g f f text is (part-of-longer a a g text (record { front = []; rest = g; appends = Appends-nil a; joined = refl }), omega arith)

-- ---- two texts, one after the other

-- the first one fails
pub first-failed : (result : Result (Unit {0}) ReportFault) (why : ReportFault) (a b : Option (List ℕ)) (g g' : List ℕ) (f f' : ℕ) (text more : List ℕ) → IsErrAnd result (λ fault. fault ≡ why) → WritesPart a b (g ++ text) × IsWhy why f f' → Tells result a b g g' f f' (text ++ more)
first-failed result why a b g g' f f' text more fault failing =
    failed result why a b g g' f f' (text ++ more) fault (subst (WritesPart a b) (append_assoc g text more) (part-of-longer a b (g ++ text) more failing.0), failing.1)

-- the second one is told, or fails
pub both-told : (result : Result (Unit {0}) ReportFault) (a b c : Option (List ℕ)) (g g' g'' : List ℕ) (f f' f'' : ℕ) (text more : List ℕ) → Told a b g g' f f' text → Tells result b c g' g'' f' f'' more → Tells result a c g g'' f f'' (text ++ more)
both-told (Ok done) a b c g g' g'' f f' f'' text more first second = record { gathers = gathers-on a b c g g' g'' text more first.gathers second.gathers; counts = omega (arith, first.counts, second.counts) }
both-told (Err why) a b c g g' g'' f f' f'' text more first second = (gathers-then-part a b c g g' text more first.gathers second.0, why-later why f f' f'' first.counts second.1)

-- ---- the items of a list

-- one item more
pub flat-more : {X : Type 0} (line : X → List ℕ) (xs : List X) (i : ℕ) (x : X) → i < length xs → x ≡ get_or xs i x → flat_map line (take (i + 1) xs) ≡ flat_map line (take i xs) ++ line x
flat-more line xs i x inside is =
    ap (flat_map line) (take_more xs i x inside ∙ ap (λ y. take i xs ++ y ∷ []) (sym is)) ∙ flat_map-append line (take i xs) (x ∷ [])
    ∙ ap (λ rest. flat_map line (take i xs) ++ rest) (append-nil (line x))

-- the items told, and those after them, are all
flat-split : {X : Type 0} (line : X → List ℕ) (xs : List X) (i : ℕ) → flat_map line (take i xs) ++ flat_map line (drop i xs) ≡ flat_map line xs
flat-split line xs i = sym (flat_map-append line (take i xs) (drop i xs)) ∙ ap (flat_map line) (take-append-drop i xs)

-- an item more is told
pub item-told : {X : Type 0} (line : X → List ℕ) (xs : List X) (i : ℕ) (x : X) (text : List ℕ) (a b c : Option (List ℕ)) (g g' g'' : List ℕ) (f f' f'' : ℕ) → i < length xs → x ≡ get_or xs i x → text ≡ line x → Told a b g g' f f' (flat_map line (take i xs)) → Told b c g' g'' f' f'' text
    → Told a c g g'' f f'' (flat_map line (take (i + 1) xs))
item-told line xs i x text a b c g g' g'' f f' f'' inside is tells so_far next =
    subst (Told a c g g'' f f'') (ap (λ t. flat_map line (take i xs) ++ t) tells ∙ sym (flat-more line xs i x inside is)) (both-told (Ok tt) a b c g g' g'' f f' f'' (flat_map line (take i xs)) text so_far next)

-- a fault at an item
pub item-failed : {X : Type 0} (line : X → List ℕ) (xs : List X) (i : ℕ) (x : X) (text : List ℕ) (a b c : Option (List ℕ)) (g g' g'' : List ℕ) (f f' f'' : ℕ) (result : Result (Unit {0}) ReportFault) (why : ReportFault) → IsErrAnd result (λ fault. fault ≡ why) → i < length xs → x ≡ get_or xs i x → text ≡ line x
    → Told a b g g' f f' (flat_map line (take i xs)) → WritesPart b c (g' ++ text) × IsWhy why f' f'' → Tells result a c g g'' f f'' (flat_map line xs)
item-failed line xs i x text a b c g g' g'' f f' f'' result why fault inside is tells so_far failing =
    let here = both-told (Err why) a b c g g' g'' f f' f'' (flat_map line (take i xs)) text so_far failing in
    subst (Tells result a c g g'' f f'') (ap (λ t. (flat_map line (take i xs) ++ t) ++ flat_map line (drop (i + 1) xs)) tells ∙ ap (λ t. t ++ flat_map line (drop (i + 1) xs)) (sym (flat-more line xs i x inside is)) ∙ flat-split line xs (i + 1))
    (first-failed result why a c g g'' f f'' (flat_map line (take i xs) ++ text) (flat_map line (drop (i + 1) xs)) fault here)

-- no item is left
pub all-told : {X : Type 0} (line : X → List ℕ) (xs : List X) (i : ℕ) (a b : Option (List ℕ)) (g g' : List ℕ) (f f' : ℕ) → length xs ≤ i → Told a b g g' f f' (flat_map line (take i xs)) → Told a b g g' f f' (flat_map line xs)
all-told line xs i a b g g' f f' past so_far = subst (λ ys. Told a b g g' f f' (flat_map line ys)) (take_all i xs past) so_far

-- ---- the end of a text

-- nothing was gathered before, and nothing is left
with-none-left : (result : Result (Unit {0}) ReportFault) (a b : Option (List ℕ)) (f f' : ℕ) (text : List ℕ) → Tells result a b [] [] f f' text → WritesText result a b f f' text
with-none-left (Ok done) a b f f' text told = (subst (Appends a b) (sym (append-nil _) ∙ told.gathers.joined) told.gathers.appends, told.counts)
with-none-left (Err why) a b f f' text part = part

-- all of a text is written, or a prefix of it
pub ended : (a b c : Option (List ℕ)) (g : List ℕ) (f f' f'' : ℕ) (text : List ℕ) (result : Result (Unit {0}) ReportFault) → Told a b [] g f f' text → Tells result b c g [] f' f'' [] → WritesText result a c f f'' text
ended a b c g f f' f'' text result told last = with-none-left result a c f f'' text (subst (Tells result a c [] [] f f'') (append-nil text) (both-told result a b c [] g [] f f' f'' text [] told last))

-- what is left isn't written
pub end-failed : (result : Result (Unit {0}) ReportFault) (a b c : Option (List ℕ)) (g : List ℕ) (f f' f'' : ℕ) (text : List ℕ) → IsErrAnd result (λ fault. fault ≡ WriteFault) → Told a b [] g f f' text → WritesPart b c (g ++ []) × FaultsRise f' f'' → WritesText result a c f f'' text
end-failed result a b c g f f' f'' text is told failing = ended a b c g f f' f'' text result told (write-failed result b c g [] f' f'' [] is failing)

-- out of memory before anything is written
pub nothing-written : (result : Result (Unit {0}) ReportFault) (a : Option (List ℕ)) (f : ℕ) (text : List ℕ) → IsErrAnd result (λ fault. fault ≡ Memory) → WritesText result a a f f text
nothing-written result a f text is = with-none-left result a a f f text (nothing-told result a [] f text is)

-- a prefix is written
pub broken-off : (result : Result (Unit {0}) ReportFault) (why : ReportFault) (a b : Option (List ℕ)) (g : List ℕ) (f f' : ℕ) (text : List ℕ) → IsErrAnd result (λ fault. fault ≡ why) → g ≡ [] → WritesPart a b (g ++ text) × IsWhy why f f' → WritesText result a b f f' text
broken-off (Ok done) why a b g f f' text is none failing = absurd is
broken-off (Err fault) why a b g f f' text is none failing = (subst (λ before. WritesPart a b (before ++ text)) none failing.0, subst (λ (e : ReportFault). IsWhy e f f') (sym is) failing.1)

-- the sink failed in a line by itself
pub unwritten : (result : Result (Unit {0}) ReportFault) (a b : Option (List ℕ)) (f f' : ℕ) (text : List ℕ) → IsErrAnd result (λ fault. fault ≡ WriteFault) → WritesPart a b text × FaultsRise f f' → WritesText result a b f f' text
unwritten result a b f f' text is failing = broken-off result WriteFault a b [] f f' text is refl failing
