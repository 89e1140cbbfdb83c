-- A text in markup. Five bytes have a meaning of their own there: the less-than and the greater-than sign, both quotes, and the ampersand.
-- So a text is written with an entity for each of these, and with any other byte as it is. What is written holds no sign and no quote,
-- whatever the text is: it can't end a tag, an attribute, or the place between two tags. A reader who takes each entity for the byte that
-- it stands for has the text back; one who comes to an ampersand that begins no entity, or to a sign or a quote, gives up.
use Rattle.std.specs.Prelude.{◌≡◌, ◌==◌, ◌||◌, ◌++◌, [], ◌∷◌, ℕ, nat_eq, Bool, false, if◌then◌else◌, List, codes, Option, Some, None, option_map}
use Rattle.std.specs.List.{All, flat_map}
use Rattle.std.specs.Cmp.Lexicographic.{pointwise}

-- the byte is a less-than sign, a greater-than sign, or a quote
abbrev pub is_mark : ℕ → Bool
is_mark byte = (byte == 60) || (byte == 62) || (byte == 34) || (byte == 39)

-- what stands for a byte
abbrev pub escaped_byte : ℕ → List ℕ
escaped_byte byte =
    if byte == 60 then codes "&lt;" else
    if byte == 62 then codes "&gt;" else
    if byte == 34 then codes "&quot;" else
    if byte == 39 then codes "&#39;" else
    if byte == 38 then codes "&amp;" else
    byte ∷ []

-- what stands for a text
abbrev pub escaped : List ℕ → List ℕ
escaped text = flat_map escaped_byte text

-- ---- the reader

-- the byte that an entity stands for, by what stands between its ampersand and its semicolon
abbrev pub byte_of : List ℕ → Option ℕ
byte_of name =
    if pointwise nat_eq name (codes "lt") then Some 60 else
    if pointwise nat_eq name (codes "gt") then Some 62 else
    if pointwise nat_eq name (codes "quot") then Some 34 else
    if pointwise nat_eq name (codes "#39") then Some 39 else
    if pointwise nat_eq name (codes "amp") then Some 38 else
    None

-- a byte, and then what is read of the rest
abbrev pub before : ℕ → Option (List ℕ) → Option (List ℕ)
before byte rest = option_map (λ text. byte ∷ text) rest

-- the same, where there is a byte
abbrev pub before_rest : Option ℕ → Option (List ℕ) → Option (List ℕ)
before_rest (Some byte) rest = before byte rest
before_rest None _ = None

-- what is read of markup: behind an ampersand with the bytes since, or outside an entity
unfoldable pub read_on : Option (List ℕ) → List ℕ → Option (List ℕ)
read_on None [] = Some []
read_on (Some _) [] = None
read_on None (byte ∷ rest) =
    if byte == 38 then read_on (Some []) rest else
    if is_mark byte then None else
    before byte (read_on None rest)
read_on (Some name) (byte ∷ rest) =
    if byte == 59 then before_rest (byte_of name) (read_on None rest) else
    read_on (Some (name ++ byte ∷ [])) rest

-- what a reader takes markup for that holds no tag
abbrev pub text_read : List ℕ → Option (List ℕ)
text_read markup = read_on None markup

-- ---- laws

-- nothing that is written for a text is a sign or a quote
abbrev pub ATextStaysInItsPlace : Type 0
ATextStaysInItsPlace = (text : List ℕ) → All (λ byte. is_mark byte ≡ false) (escaped text)

-- what is written for a text is read as that text
abbrev pub ATextIsReadBack : Type 0
ATextIsReadBack = (text : List ℕ) → text_read (escaped text) ≡ Some text
