-- A reader of CSV that stands at the line of a row reads it as the row's fields, and then stands at what comes after the line.
use Rattle.std.proofs.Common.{◌≡◌, ◌==◌, zero, suc, ◌<◌, ◌≤◌, ◌+◌, ◌++◌, ◌∷◌, ◌∙◌, append_assoc, [], ℕ, List, Bool, Option, Some, None, length, drop, not, nat_eq, nat_le, refl, ap, sym, true, false, arith, inl, inr}
use Rattle.std.specs.Prelude.{◌⊎◌, Result, Ok, Err, IfOk, OnOk, Vec, slice_index_or}
use Rattle.std.specs.Global.{Global}
use Rattle.std.specs.Result.{is_ok}
use Rattle.std.specs.declared.io.impls.Cursor.{Cursor}
use Rattle.std.proofs.Math.Seq.{drop-append-add, drop-append_seam}
use Rattle.std.proofs.lemmas.Bool.{and_parts, leb-true, ne_eqb}
use Rattle.std.proofs.lemmas.Option.{same_Some}
use Rattle.std.proofs.lemmas.List.{append-nil, drop-drop, drop_more, length-append, length-drop}
use Rattle.std.specs.List.{list_all}
use Rattle.csv.specs.Records.{field_at as record_field}
use Rattle.csv.specs.Reading.{ReadRecord, ReadsNext, Ready, default_config, pending_of, reader_trim, source_of, strip_bom, took_first}
use Rattle.csv.specs.declared.error.Error.{Error}
use Rattle.csv.specs.declared.parser.State.{State}
use Rattle.csv.specs.declared.parser.State.TheVariants.{StartRecord}
use Rattle.csv.specs.declared.reader.Reader.{Reader}
use Rattle.csv.specs.declared.reader.Trim.TheVariants as trim
use Rattle.scenario_reader.specs.AuditRows.{is_plain, is_row_text, row_fields}
use Rattle.scenario_reader.specs.Fields.{field_at, is_graphic}
use Rattle.scenario_reader.specs.TableReading.{BeginsWithLine, ReadsLine, StandsAt, held_bytes}
use Rattle.scenario_reader.proofs.Auditing.CsvRows.{csv-reads-rows}

-- bytes of which the first one is below 0xEF begin with no byte order mark
no-mark : (b : ℕ) (more : List ℕ) → (b == 0xEF) ≡ false → strip_bom (b ∷ more) ≡ b ∷ more
unfolding strip_bom
no-mark b [] low = refl
no-mark b (c ∷ []) low = refl
no-mark b (c ∷ d ∷ more) low = rw low refl

-- no row begins with one
pub row-without-mark : (line rest : List ℕ) → is_row_text line ≡ true → strip_bom (line ++ 10 ∷ rest) ≡ line ++ 10 ∷ rest
row-without-mark [] rest text = cc
row-without-mark (b ∷ line) rest text =
    let plain = (and_parts (not (nat_eq (length (b ∷ line)) 0)) (list_all is_plain (b ∷ line)) text).1 in
    let first = (and_parts (is_plain b) (list_all is_plain line) plain).0 in
    let graphic = (and_parts (is_graphic b) (not (nat_eq b 34)) first).0 in
    let high = leb-true b 126 (and_parts (nat_le 33 b) (nat_le b 126) graphic).1 in
    no-mark b (line ++ 10 ∷ rest) (ne_eqb b 0xEF (λ e. omega arith))

-- what the next record is, where a row's line comes next
pub row-next : (line rest : List ℕ) (left : Option (List ℕ)) (found : Bool) (fields : List (List ℕ)) (state : State) → is_row_text line ≡ true
    → ReadsNext default_config StartRecord (Some (line ++ 10 ∷ rest)) left found fields state
    → (fields ≡ row_fields line) × (state ≡ StartRecord) × (left ≡ Some rest)
row-next line rest None found fields state text reads = absurd reads
row-next line rest (Some more) found fields state text reads =
    let next = rw (csv-reads-rows line rest text) at reads in
    (next.1, next.2, ap Some next.3)

-- once it has begun, a reader reads on from what it has left
pub left-after : {R : Type 0} (remaining : R → Option (List ℕ)) (reader : Reader R) → reader.bom_checked ≡ true
    → source_of remaining reader ≡ pending_of (remaining reader.rdr) reader
left-after remaining reader begun = rw begun refl

-- whether it has begun or not, a reader that stands at a row's line has that line left
pub row-left : (reader : Reader (Cursor (Vec ℕ Global))) (line rest : List ℕ) → is_row_text line ≡ true → StandsAt reader (line ++ 10 ∷ rest) → source_of held_bytes reader ≡ Some (line ++ 10 ∷ rest)
row-left reader line rest text stands = elim stands.left [
  | inl is ↦ is
  | inr is ↦ is ∙ ap Some (row-without-mark line rest text)
]

-- a read that succeeds reads the line at which the reader stands
pub line-read : (old new : Reader (Cursor (Vec ℕ Global))) (answer : Result Bool Error) (line : List ℕ) (fields : List (List ℕ)) → is_row_text line ≡ true
    → IfOk answer (λ found. reader_trim old ≡ trim.None → Ready old → ReadRecord held_bytes old new found fields)
    → (reader_trim old ≡ trim.None → OnOk answer (took_first new ≡ true))
    → is_ok answer ≡ true → ReadsLine line old new fields
line-read old new (Err why) line fields text reads begun ok = cc
line-read old new (Ok found) line fields text reads begun ok = λ rest stands.
    let read = reads stands.plain stands.ready in
    let left = row-left old line rest text stands in
    let next = row-next line rest _ found fields _ text (rw (stands.config, stands.between, left) at read.0) in (
      next.0,
      record {
        plain = read.3 ∙ stands.plain;
        config = read.2 ∙ stands.config;
        ready = inl (begun stands.plain);
        between = next.1;
        left = inl (left-after held_bytes new read.1 ∙ next.2);
      },
    )

-- ---- the bytes in hand

-- bytes and a line that begin with the same bytes, before what is left of each
abbrev pub AgreeUpTo : (bytes line rest more : List ℕ) → Type 0
AgreeUpTo bytes line rest more = (same : List ℕ) × (bytes ≡ same ++ rest) × (line ≡ same ++ more)

-- they do so one byte further, where the next ones are the same
pub agree-more : (bytes line rest more after later : List ℕ) (mine theirs : ℕ) → AgreeUpTo bytes line rest more → rest ≡ mine ∷ after → more ≡ theirs ∷ later → mine ≡ theirs
    → AgreeUpTo bytes line after later
agree-more bytes line rest more after later mine theirs agree next other same = (
  agree.0 ++ mine ∷ [],
  agree.1 ∙ ap (λ (back : List ℕ). agree.0 ++ back) next ∙ sym (append_assoc agree.0 (mine ∷ []) after),
  agree.2 ∙ ap (λ (back : List ℕ). agree.0 ++ back) (other ∙ ap (λ (b : ℕ). b ∷ later) (sym same)) ∙ sym (append_assoc agree.0 (mine ∷ []) later),
)

-- longer bytes that agree with a line until one of the two has ended, and have a line feed next, begin with that line
pub line-begins : (bytes line rest more : List ℕ) → AgreeUpTo bytes line rest more → (length rest ≡ 0) ⊎ (length more ≡ 0) → length line < length bytes
    → slice_index_or bytes (length line) 0 ≡ 10 → BeginsWithLine bytes line
line-begins bytes line rest (b ∷ more) agree ended longer feed =
    let a = ap length agree.1 ∙ length-append agree.0 rest in
    let l = ap length agree.2 ∙ length-append agree.0 (b ∷ more) in
    elim ended [
      | inl none ↦ absurd (omega arith)
      | inr none ↦ cc
    ]
line-begins bytes line rest [] agree ended longer feed =
    let whole : line ≡ agree.0 = agree.2 ∙ append-nil agree.0 in
    let begun : bytes ≡ line ++ rest = agree.1 ∙ ap (λ (front : List ℕ). front ++ rest) (sym whole) in
    record {
      rest = drop (length line + 1) bytes;
      is =
          begun ∙ ap (λ (back : List ℕ). line ++ back) (
          sym (drop-append_seam line rest) ∙ ap (drop (length line)) (sym begun)
          ∙ drop_more bytes (length line) 0 longer ∙ ap (λ (b : ℕ). b ∷ drop (length line + 1) bytes) feed);
    }

-- how many bytes are read with a line, and what is left then
pub after-line : (bytes line rest : List ℕ) (read size : ℕ) → size ≡ length bytes → drop read bytes ≡ line ++ 10 ∷ rest
    → (read < size) × (read + (length line + 1) ≤ size) × (rest ≡ drop (read + (length line + 1)) bytes)
after-line bytes line rest read size whole is =
    let left = length-drop read bytes in
    let parts = length-append line (10 ∷ rest) in
    let same = ap length is in (
      omega arith,
      omega arith,
      sym (drop-append-add line (10 ∷ rest) 1) ∙ ap (drop (length line + 1)) (sym is) ∙ drop-drop (length line + 1) read bytes,
    )

-- ---- the fields of a row

-- the field that a record has at a place, and none where the record has none there
pub field-is : (fields : List (List ℕ)) (place : ℕ) (field : List ℕ) → record_field fields place ≡ Some field → field ≡ field_at fields place
unfolding record_field
field-is [] place field is = cc
field-is (f ∷ fields) zero field is = same_Some field f (sym is)
field-is (f ∷ fields) (suc place) field is = field-is fields place field is

pub field-missing : (fields : List (List ℕ)) (place : ℕ) → record_field fields place ≡ None → ◌≡◌ {A = List ℕ} [] (field_at fields place)
unfolding record_field
field-missing [] place is = refl
field-missing (f ∷ fields) zero is = cc
field-missing (f ∷ fields) (suc place) is = field-missing fields place is
