-- Texts that are gathered one after another are one text.
use Rattle.std.proofs.Common.{◌≡◌, ℕ, ◌+◌, ◌-◌, ◌<◌, ◌≤◌, List, [], ◌++◌, length, take, drop, refl, sym, ap, ◌∙◌, subst, append_assoc, arith}
use Rattle.std.proofs.lemmas.List.{append-nil, length-append, length-drop, length-take, take-append-drop}
use Rattle.std.proofs.Math.Seq.{take-add}
use Rattle.std.specs.Prelude.{Option}
use Rattle.std.specs.Io.KnownBytes.{Appends}
use Rattle.std.proofs.KnownBytes.{Appends-nil, Appends-trans}
use Rattle.byte_ends.specs.Faults.{FaultsRise}
use Rattle.byte_ends.specs.Gathering.{Gathers, WritesBlocks, WritesPart}
use Rattle.byte_ends.specs.declared.block.TheConstants.{BLOCK}
use Rattle.byte_ends.specs.Writing.{WritesFront}

-- nothing is gathered at first
pub gathers-nothing : (w : Option (List ℕ)) (gathered : List ℕ) → Gathers w w gathered gathered []
gathers-nothing w gathered = record { put = []; appends = Appends-nil w; joined = sym (append-nil gathered) }

-- bytes that are added to those gathered, with nothing written
pub gathers-more : (w : Option (List ℕ)) (gathered piece : List ℕ) → Gathers w w gathered (gathered ++ piece) piece
gathers-more w gathered piece = record { put = []; appends = Appends-nil w; joined = refl }

-- all that is gathered is written
pub gathers-put : (w w' : Option (List ℕ)) (gathered : List ℕ) → Appends w w' gathered → Gathers w w' gathered [] []
gathers-put w w' gathered appends = record { put = gathered; appends = appends; joined = refl }

joined-on : (put put' gathered gathered' gathered'' text text' : List ℕ) → put ++ gathered' ≡ gathered ++ text → put' ++ gathered'' ≡ gathered' ++ text' → (put ++ put') ++ gathered'' ≡ gathered ++ (text ++ text')
joined-on put put' gathered gathered' gathered'' text text' first second =
    append_assoc put put' gathered'' ∙ ap (λ (rest : List ℕ). put ++ rest) second ∙ sym (append_assoc put gathered' text')
    ∙ ap (λ (front : List ℕ). front ++ text') first ∙ append_assoc gathered text text'

-- one text after another
pub gathers-on : (a b c : Option (List ℕ)) (gathered gathered' gathered'' text text' : List ℕ) → Gathers a b gathered gathered' text → Gathers b c gathered' gathered'' text' → Gathers a c gathered gathered'' (text ++ text')
gathers-on a b c gathered gathered' gathered'' text text' first second = record {
  put = first.put ++ second.put;
  appends = Appends-trans a b c first.put second.put first.appends second.appends;
  joined = joined-on first.put second.put gathered gathered' gathered'' text text' first.joined second.joined;
}

-- the end of a text is written
pub gathers-all : (a b c : Option (List ℕ)) (gathered text : List ℕ) → Gathers a b [] gathered text → Appends b c gathered → Appends a c text
gathers-all a b c gathered text first last = subst (λ (all : List ℕ). Appends a c all) first.joined (Appends-trans a b c first.put gathered first.appends last)

-- the next bytes of a piece are gathered, once there is room
pub gathers-next : (done count : ℕ) (piece next : List ℕ) (a b c : Option (List ℕ)) (gathered gathered' gathered'' : List ℕ) → next ≡ take count (drop done piece) → Gathers a b gathered gathered' (take done piece) → Gathers b c gathered' gathered'' []
    → Gathers a c gathered (gathered'' ++ next) (take (done + count) piece)
gathers-next done count piece next a b c gathered gathered' gathered'' is so_far room =
    let emptied = gathers-on a b c gathered gathered' gathered'' (take done piece) [] so_far room in
    let added = gathers-on a c c gathered gathered'' (gathered'' ++ next) (take done piece ++ []) next emptied (gathers-more c gathered'' next) in
    subst (λ (text : List ℕ). Gathers a c gathered (gathered'' ++ next) text) (ap (λ (front : List ℕ). front ++ next) (append-nil (take done piece)) ∙ ap (λ (rest : List ℕ). take done piece ++ rest) is ∙ sym (take-add done count piece)) added

-- what was written of a text that was gathered is a prefix of it
pub gathers-part : (a b : Option (List ℕ)) (gathered gathered' text : List ℕ) → Gathers a b gathered gathered' text → WritesPart a b (gathered ++ text)
gathers-part a b gathered gathered' text g = record { front = g.put; rest = gathered'; appends = g.appends; joined = g.joined }

-- a prefix of a text after what was gathered
pub gathers-then-part : (a b c : Option (List ℕ)) (gathered gathered' text text' : List ℕ) → Gathers a b gathered gathered' text → WritesPart b c (gathered' ++ text') → WritesPart a c (gathered ++ (text ++ text'))
gathers-then-part a b c gathered gathered' text text' first part = record {
  front = first.put ++ part.front;
  rest = part.rest;
  appends = Appends-trans a b c first.put part.front first.appends part.appends;
  joined = append_assoc first.put part.front part.rest ∙ ap (λ (rest : List ℕ). first.put ++ rest) part.joined ∙ sym (append_assoc first.put gathered' text')
      ∙ ap (λ (front : List ℕ). front ++ text') first.joined ∙ append_assoc gathered text text';
}

-- a prefix of what was gathered, with the first bytes of a piece, is one of what was gathered before and the piece
pub part-of-piece : (done : ℕ) (piece : List ℕ) (a b c : Option (List ℕ)) (gathered gathered' : List ℕ) → Gathers a b gathered gathered' (take done piece) → WritesPart b c gathered' → WritesPart a c (gathered ++ piece)
part-of-piece done piece a b c gathered gathered' so_far part = record {
  front = so_far.put ++ part.front;
  rest = part.rest ++ drop done piece;
  appends = Appends-trans a b c so_far.put part.front so_far.appends part.appends;
  joined = append_assoc so_far.put part.front (part.rest ++ drop done piece) ∙ ap (λ (rest : List ℕ). so_far.put ++ rest) (sym (append_assoc part.front part.rest (drop done piece)) ∙ ap (λ (t : List ℕ). t ++ drop done piece) part.joined)
      ∙ sym (append_assoc so_far.put gathered' (drop done piece)) ∙ ap (λ (t : List ℕ). t ++ drop done piece) so_far.joined ∙ append_assoc gathered (take done piece) (drop done piece) ∙ ap (λ (t : List ℕ). gathered ++ t) (take-append-drop done piece);
}

-- a prefix of a text is one of a longer text
pub part-of-longer : (a b : Option (List ℕ)) (text more : List ℕ) → WritesPart a b text → WritesPart a b (text ++ more)
part-of-longer a b text more part = record { front = part.front; rest = part.rest ++ more; appends = part.appends; joined = sym (append_assoc part.front part.rest more) ∙ ap (λ (t : List ℕ). t ++ more) part.joined }

-- what a piece that failed has written
pub front-is-part : (a b : Option (List ℕ)) (piece : List ℕ) → WritesFront a b piece → WritesPart a b piece
front-is-part a b piece front = record { front = take front.count piece; rest = drop front.count piece; appends = front.appends; joined = take-append-drop front.count piece }

-- ---- blocks

pub no-block : (w : Option (List ℕ)) → WritesBlocks w w
no-block w = record { put = []; appends = Appends-nil w; count = 0; whole = refl }

pub one-block : (w w' : Option (List ℕ)) (gathered : List ℕ) → length gathered ≡ BLOCK → Appends w w' gathered → WritesBlocks w w'
one-block w w' gathered full appends = record { put = gathered; appends = appends; count = 1; whole = full }

pub more-blocks : (a b c : Option (List ℕ)) → WritesBlocks a b → WritesBlocks b c → WritesBlocks a c
more-blocks a b c first second = record {
  put = first.put ++ second.put;
  appends = Appends-trans a b c first.put second.put first.appends second.appends;
  count = first.count + second.count;
  whole = length-append first.put second.put ∙ omega (arith, first.whole, second.whole);
}

-- there is room for the next byte of a piece that fits whole
pub room-left : (gathered piece done now : ℕ) → done < piece → gathered + piece ≤ BLOCK → now ≡ gathered + done → now < BLOCK
room-left gathered piece done now less fits is = omega (arith, less, fits, is)

-- and as many bytes are gathered then as were before, and as the piece had so far
pub added-length : (gathered done count : ℕ) (held now after piece : List ℕ) → done + count ≤ length piece → now ≡ held → now ++ take ((done + count) - done) (drop done piece) ≡ after → length held ≡ gathered + done → length after ≡ gathered + (done + count)
added-length gathered done count held now after piece within kept is so_far =
    omega (arith, within, ap length kept, ap length is, length-append now (take ((done + count) - done) (drop done piece)), length-take ((done + count) - done) (drop done piece), length-drop done piece, so_far)

pub ruleset parts = (front-is-part, gathers-nothing, gathers-put, no-block)

-- a count that rose in a later call rose in all of them
pub rises-later : (a b c : ℕ) → a ≤ b → FaultsRise b c → FaultsRise a c
rises-later a b c first later = record { keeps = omega (arith, first, later.keeps); more = omega (arith, first, later.more) }
