-- The fixed words of the language of scenarios, and the actor `plane`, which no name is.
use Rattle.std.specs.Prelude.{ℕ, Bool, nat_eq, List, codes}
use Rattle.std.specs.Cmp.Lexicographic.{pointwise}
use Rattle.line_forms.specs.declared.word.Keyword.{Keyword}
use Rattle.line_forms.specs.declared.word.Keyword.TheVariants as word

-- the bytes of a fixed word
abbrev pub text_of : Keyword → List ℕ
text_of word.Link = codes "link"
text_of word.Group = codes "group"
text_of word.Quota = codes "quota"
text_of word.Caller = codes "caller"
text_of word.Open = codes "open"
text_of word.Send = codes "send"
text_of word.Close = codes "close"
text_of word.Pour = codes "pour"
text_of word.Move = codes "move"
text_of word.Rounds = codes "rounds"
text_of word.Tail = codes "tail"
text_of word.Schedule = codes "schedule"
text_of word.Do = codes "do"
text_of word.Rate = codes "rate"
text_of word.Cap = codes "cap"
text_of word.Prop = codes "prop"
text_of word.Buffer = codes "buffer"
text_of word.Best = codes "best"
text_of word.Levels = codes "levels"
text_of word.Route = codes "route"
text_of word.Contract = codes "contract"
text_of word.Delay = codes "delay"
text_of word.Jitter = codes "jitter"
text_of word.From = codes "from"
text_of word.To = codes "to"

-- whether a field is this word
abbrev pub is_word : Keyword → List ℕ → Bool
is_word keyword field = pointwise nat_eq field (text_of keyword)

-- the word that stands for the plane
abbrev pub plane_text : List ℕ
plane_text = codes "plane"

-- whether a field is that word
abbrev pub is_plane : List ℕ → Bool
is_plane field = pointwise nat_eq field plane_text
