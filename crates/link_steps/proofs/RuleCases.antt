-- A fact of each refusal of a list of rules, and of the reply where none applies, is a fact of the reply that they give.
use Rattle.std.proofs.Common.{◌≡◌, Bool, true, false, List, [], ◌∷◌, Some, None, refl}
use Rattle.link_steps.specs.declared.replies.Refusal.{Refusal}
use Rattle.link_steps.specs.declared.replies.Reply.{Reply}
use Rattle.link_steps.specs.declared.replies.Reply.TheVariants as Is
use Rattle.link_steps.specs.Refusals.{RefusalRule, refused_unless, refused_or, first_refusal}

abbrev pub EachRule : (Reply → Type 0) → List RefusalRule → Type 0
EachRule P [] = Unit {0}
EachRule P (rule ∷ rules) = ((refusal : Refusal) → rule ≡ Some refusal → P (Is.Refused refusal)) × EachRule P rules

rule-fact : (P : Reply → Type 0) (rule : RefusalRule) (reply : Reply) → ((refusal : Refusal) → rule ≡ Some refusal → P (Is.Refused refusal)) → P reply → P (refused_or rule reply)
rule-fact P None reply each fact = fact
rule-fact P (Some refusal) reply each fact = each refusal refl

pub rules-fact : (P : Reply → Type 0) (rules : List RefusalRule) (reply : Reply) → EachRule P rules → P reply → P (first_refusal rules reply)
rules-fact P [] reply each fact = fact
rules-fact P (rule ∷ rules) reply each fact = rule-fact P rule (first_refusal rules reply) each.0 (rules-fact P rules reply each.1 fact)

pub unless-some : (holds : Bool) (own refusal : Refusal) → refused_unless holds own ≡ Some refusal → refusal ≡ own
unless-some true own refusal same = cc
unless-some false own refusal same = cc
