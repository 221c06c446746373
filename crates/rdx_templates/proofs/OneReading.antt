-- A datum is one template or host expression at most, or it has one refusal.
use Rattle.std.proofs.Common.{◌≡◌, Option, Some, None, refl, sym, ◌∙◌, ◌⊎◌, inl, inr}
use Rattle.std.specs.Prelude.{IsSome}
use Rattle.rdx_patterns.specs.Refusal.{refusal_of}
use Rattle.rdx_templates.specs.Laws.{OneTemplate, OneTemplateRefusal, NeverBothTemplate, NeverNeitherTemplate, OneHost, OneHostRefusal, NeverBothHost, NeverNeitherHost}
use Rattle.rdx_templates.specs.TemplateRefusal.{template_refusal, host_refusal}

-- what is some value is one
pub same_some : {A : Type 0} (o : Option A) (x y : A) → o ≡ Some x → o ≡ Some y → x ≡ y
same_some o x y e f = cc

-- nothing is both some value and none
pub not_some : {A : Type 0} (o : Option A) (x : A) → o ≡ None → o ≡ Some x → ⊥
not_some o x e f = absurd cc

-- a refusal, or none
none_or_some : {A : Type 0} (o : Option A) → (o ≡ None) ⊎ IsSome o
none_or_some None = inl refl
none_or_some (Some x) = inr refl

-- ---- templates

pub one_template : OneTemplate
one_template S bs d t u a b = a.1 ∙ sym b.1

pub one_template_refusal : OneTemplateRefusal
one_template_refusal S bs d r q e f = same_some (template_refusal S bs d) (refusal_of r) (refusal_of q) e f

pub never_both_template : NeverBothTemplate
never_both_template S bs d t r a e = not_some (template_refusal S bs d) (refusal_of r) a.0 e

pub never_neither_template : NeverNeitherTemplate
never_neither_template S bs d = none_or_some (template_refusal S bs d)

-- ---- host expressions

pub one_host : OneHost
one_host S bs d h g a b = a.1 ∙ sym b.1

pub one_host_refusal : OneHostRefusal
one_host_refusal S bs d r q e f = same_some (host_refusal S bs d) (refusal_of r) (refusal_of q) e f

pub never_both_host : NeverBothHost
never_both_host S bs d h r a e = not_some (host_refusal S bs d) (refusal_of r) a.0 e

pub never_neither_host : NeverNeitherHost
never_neither_host S bs d = none_or_some (host_refusal S bs d)
