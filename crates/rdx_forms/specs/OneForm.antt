-- When one form is accepted, and with what, and when it is refused.
use Rattle.std.specs.Prelude.{◌≡◌, Some, None, IsTrue}
use Rattle.rdx_sexp.specs.Sexp.{Sexp}
use Rattle.rdx_lang.specs.Edges.{IsFirstRecursive}
use Rattle.rdx_lang.specs.Patterns.{Language}
use Rattle.rdx_lang.specs.declared.pattern.Ref.{Ref}
use Rattle.rdx_patterns.specs.Refusal.{Refusal}
use Rattle.rdx_grammar.specs.Refused.{recursion_at}
use Rattle.rdx_forms.specs.BindingParts.{grammar_part}
use Rattle.rdx_forms.specs.Definitions.{Defined, language, IsSound}
use Rattle.rdx_forms.specs.Forms.{form_refusal, late_refusal, form_definition, form_query, is_passed}
use Rattle.rdx_forms.specs.Known.{Known}
use Rattle.rdx_answer.specs.Queries.{Query}

-- the form is accepted, and defines x
pub record Defines (K : Known) (d : Sexp) (x : Defined) : Type 0 where
  pub passes : form_refusal K d ≡ None
  pub means : form_definition K d ≡ Some x
  pub sound : IsSound x
  pub passes_late : late_refusal d ≡ None

-- the form is accepted, and asks q
pub record Asks (K : Known) (d : Sexp) (q : Query) : Type 0 where
  pub passes : form_refusal K d ≡ None
  pub means : form_query K d ≡ Some q

-- the form is accepted, and passed over
pub record IsPassedOver (K : Known) (d : Sexp) : Type 0 where
  pub passes : form_refusal K d ≡ None
  pub means : IsTrue (is_passed d)

-- the form is refused, by a check that looks at its data; by S7, since its language is left-recursive; or, where that is not, by the check behind it
pub data IsRefusedForm (K : Known) (d : Sexp) (r : Refusal) : Type 0 where
  by_check : form_refusal K d ≡ Some r → IsRefusedForm K d r
  by_recursion : (L : Language) (x : Ref) → form_refusal K d ≡ None → form_definition K d ≡ Some (language L) → IsFirstRecursive L x → r ≡ recursion_at (grammar_part d) x → IsRefusedForm K d r
  by_late_check : (x : Defined) → form_refusal K d ≡ None → form_definition K d ≡ Some x → IsSound x → late_refusal d ≡ Some r → IsRefusedForm K d r
