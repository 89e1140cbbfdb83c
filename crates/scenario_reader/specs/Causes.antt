-- Each line of a scenario is judged by rules, one after another. A rule refuses the line by a cause, or lets it
-- pass. The first rule that refuses gives the line's cause.
use Rattle.std.specs.Prelude.{◌≡◌, Bool, if◌then◌else◌, Option, Some, None, Result, Ok, Err, List, [], ◌∷◌}
use Rattle.scenario_reader.specs.declared.cause.LineCause.{LineCause}
use Rattle.scenario_reader.specs.declared.cause.LineCause.TheVariants as cause
use Rattle.scenario_reader.specs.declared.cause.LineFault.{LineFault}
use Rattle.scenario_reader.specs.declared.cause.LineFault.TheVariants.{Memory, Refused}

-- the cause by which a rule refuses, if it does
abbrev pub Rule : Type 0
Rule = Option LineCause

-- refuses by this cause where the condition doesn't hold
abbrev pub unless : Bool → LineCause → Rule
unless holds cause = if holds then None else Some cause

-- the first rule, or else the second
abbrev pub or_else : Rule → Rule → Rule
or_else None second = second
or_else (Some cause) second = Some cause

-- the first cause of a list of rules
abbrev pub first_cause : List Rule → Rule
first_cause [] = None
first_cause (rule ∷ rules) = or_else rule (first_cause rules)

-- what a line or a field says, where no rule refuses it
abbrev pub judged : {X : Type 0} → Rule → X → Result X LineCause
judged None said = Ok said
judged (Some cause) said = Err cause

-- the same of what a line may say. (A line that no rule refuses says something.)
abbrev pub stated : {X : Type 0} → Rule → Option X → Result X LineCause
stated None (Some said) = Ok said
stated None None = Err cause.Shape
stated (Some cause) said = Err cause

-- the result says this where the rule lets it pass, or else has the rule's cause
abbrev pub Judges : {X : Type 0} → Result X LineCause → Rule → X → Type 0
Judges (Ok x) rule said = (rule ≡ None) × (x ≡ said)
Judges (Err cause) rule said = rule ≡ Some cause

-- the same where judging may run out of memory, which tells nothing of the line
abbrev pub JudgesWithRoom : {X : Type 0} → Result X LineFault → Rule → X → Type 0
JudgesWithRoom (Ok x) rule said = (rule ≡ None) × (x ≡ said)
JudgesWithRoom (Err (Refused cause)) rule said = rule ≡ Some cause
JudgesWithRoom (Err Memory) rule said = Unit {0}

-- the answer is what is said or the cause, but where judging runs out of memory
abbrev pub AnswersWithRoom : {X : Type 0} → Result X LineFault → Result X LineCause → Type 0
AnswersWithRoom (Ok x) said = said ≡ Ok x
AnswersWithRoom (Err (Refused cause)) said = said ≡ Err cause
AnswersWithRoom (Err Memory) said = Unit {0}

-- the same of what a line may say
abbrev pub States : {X : Type 0} → Result X LineCause → Rule → Option X → Type 0
States (Ok x) rule said = (rule ≡ None) × (said ≡ Some x)
States (Err cause) rule said = rule ≡ Some cause
