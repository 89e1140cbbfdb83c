-- The line of a request shows what it has come to: the delay and the levels of an accepted one; of a denied one which hop
-- refused it, and for what, or what the destination found; or that its setup hasn't ended.
use Rattle.std.specs.Prelude.{ℕ, Option, Some, None, List, [], ◌∷◌, map, codes}
use Rattle.std.specs.Fmt.{decimal}
use Rattle.net_units.specs.Numbers.{channel_number}
use Rattle.link_steps.specs.declared.replies.Refusal.{Refusal}
use Rattle.link_steps.specs.declared.replies.Refusal.TheVariants.{NoLevel, NoBuffer, TooWide}
use Rattle.relaxation.specs.declared.EndDenial.{EndDenial}
use Rattle.relaxation.specs.declared.EndDenial.TheVariants.{Delay, Jitter}
use Rattle.setup_protocol.specs.Setup.{Outcome, Accepts, Denies, verdict_of}
use Rattle.setup_protocol.specs.declared.verdict.Deny.{Deny}
use Rattle.setup_protocol.specs.declared.verdict.Deny.TheVariants.{Hop, End}
use Rattle.call_script.specs.declared.entries.RequestEntry.{RequestEntry}
use Rattle.run_engine.specs.replies.Verdicts.{setup_replies}
use Rattle.run_record.specs.declared.done.Done.{Done}
use Rattle.text_writer.specs.Lines.{whole_line}

-- schedule SUM BOUND, buffer NEED FREE or wide SMAX CAP; a setup is refused for nothing else
abbrev pub refusal_words : Refusal → List (List ℕ)
refusal_words (NoLevel sum bound) = codes "schedule" ∷ decimal sum ∷ decimal bound ∷ []
refusal_words (NoBuffer need free) = codes "buffer" ∷ decimal need ∷ decimal free ∷ []
refusal_words (TooWide smax cap) = codes "wide" ∷ decimal smax ∷ decimal cap ∷ []
refusal_words _ = []

-- delay SUM BOUND or jitter LAST BOUND
abbrev pub denial_words : EndDenial → List (List ℕ)
denial_words (Delay sum bound) = codes "delay" ∷ decimal sum ∷ decimal bound ∷ []
denial_words (Jitter last bound) = codes "jitter" ∷ decimal last ∷ decimal bound ∷ []

-- hop H and why it refused, or end and what the destination found
abbrev pub deny_words : Deny → List (List ℕ)
deny_words (Hop hop refusal) = codes "hop" ∷ decimal hop ∷ refusal_words refusal
deny_words (End denial) = codes "end" ∷ denial_words denial

-- accept NAME delay SUM levels L1 .. Lh; deny NAME and why; pending NAME
abbrev pub verdict_line : List ℕ → Option Outcome → List ℕ
verdict_line name (Some (Accepts levels delay)) = whole_line (codes "accept" ∷ name ∷ codes "delay" ∷ decimal delay ∷ codes "levels" ∷ map decimal levels)
verdict_line name (Some (Denies deny)) = whole_line (codes "deny" ∷ name ∷ deny_words deny)
verdict_line name None = whole_line (codes "pending" ∷ name ∷ [])

-- what a request has come to in a run, which is listed newest first
abbrev pub verdict_in : List Done → RequestEntry → Option Outcome
verdict_in run entry = verdict_of entry.request (setup_replies (channel_number entry.request.chan) run)

abbrev pub request_line : List Done → RequestEntry → List ℕ
request_line run entry = verdict_line entry.name (verdict_in run entry)
