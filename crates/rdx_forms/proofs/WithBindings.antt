-- What is said of a form without its binding forms is said of the form, with what refuses these.
use Rattle.std.proofs.Common.{◌≡◌, ◌≤◌, ◌<◌, [], Option, Some, None, Result, Ok, Err, refl, sym, subst, ap, ◌∙◌, arith}
use Rattle.std.specs.Prelude.{option_map, OnOk, IfOk, IfErr}
use Rattle.rdx_sexp.specs.Sexp.{Sexp}
use Rattle.rdx_alpha.specs.Checks.{misshapen, duplicate}
use Rattle.rdx_alpha.specs.Checks as alpha
use Rattle.rdx_alpha.specs.Written.{written_forms}
use Rattle.rdx_grammar.specs.Forms.{language_form, extension_form}
use Rattle.rdx_grammar.specs.Refused.{recursion_at}
use Rattle.rdx_lang.specs.declared.checked.CheckedLang.{CheckedLang}
use Rattle.rdx_lang.specs.Checked.{language_in}
use Rattle.rdx_patterns.specs.Refusal.{Refusal, refusal_of, unnamed, named, or_else}
use Rattle.rdx_patterns.specs.declared.shape.fault.DefFault.{DefFault}
use Rattle.rdx_patterns.specs.declared.shape.fault.DefFault.TheVariants.{Refused, NoMemory}
use Rattle.rdx_patterns.specs.declared.shape.fault.DefKind.TheVariants.{Shape, Duplicate, RacketEscape}
use Rattle.rdx_patterns.specs.declared.shape.fault.DefRefusal.{DefRefusal}
use Rattle.rdx_forms.specs.Answers.{DefinesBy}
use Rattle.rdx_forms.specs.BindingParts.{grammar_part, binding_refusal}
use Rattle.rdx_forms.specs.Definitions.{Defined, language}
use Rattle.rdx_forms.specs.Faults.{IsFaultAt, IsRefusedBy}
use Rattle.rdx_forms.specs.FormKinds as kind
use Rattle.rdx_forms.specs.FormKinds.{defines, form_kind}
use Rattle.rdx_forms.specs.Forms.{form_refusal, refusal_by_kind, late_refusal, late_refusal_by_kind, form_definition, definition_by_kind, definition_refusal, definition_late_refusal, definition_of}
use Rattle.rdx_forms.specs.Known.{Known}
use Rattle.rdx_forms.specs.LanguageForms.{plain_refusal, extension_refusal, plain_language, extended_language, language_escape}
use Rattle.rdx_forms.specs.OneForm.{IsRefusedForm, by_check, by_recursion, by_late_check}
use Rattle.rdx_forms.specs.Reported.{number, earlier}
use Rattle.rdx_forms.proofs.CheckNumbers.{HasNumber, earlier_none, earlier_of-second, unnamed-number, named-number}
use Rattle.rdx_forms.proofs.GrammarParts.{part-again, part-kind, part-unrefused}

-- ---- the number of a refusal of binding forms

one_of : (o p : Option Sexp) (q : Refusal) → or_else (option_map (unnamed Shape) o) (option_map (named Duplicate) p) ≡ Some q → number q.kind ≤ 3
one_of (Some d) p q e = let h : number q.kind ≡ 1 = unnamed-number Shape (Some d) q e in omega (arith, h)
one_of None p q e = let h : number q.kind ≡ 3 = named-number Duplicate p q e in omega (arith, h)

binding-number : (d : Sexp) (q : Refusal) → binding_refusal d ≡ Some q → number q.kind ≤ 3
binding-number d q e = one_of (misshapen (written_forms d)) (duplicate [] (written_forms d)) q e

-- ---- what was read of them

-- binding forms are refused so
pub forms-refused : {A : Type 0} (o : Option Refusal) (x : Result A DefFault) → OnOk x (o ≡ None) → IfErr x (λ f. alpha.IsRefusedBy f o) → IsRefusedBy o x
forms-refused o (Ok v) p e = p
forms-refused o (Err (Refused r)) p e = e
forms-refused o (Err NoMemory) p e = tt

-- ---- forms that define languages

-- the form d says what it says without its binding forms, but for what refuses these
pub record IsBound (K : Known) (d : Sexp) : Type 0 where
  pub refusal : form_refusal K d ≡ earlier (form_refusal K (grammar_part d)) (binding_refusal d)
  pub definition : form_definition K d ≡ form_definition K (grammar_part d)
  pub late : late_refusal d ≡ late_refusal (grammar_part d)
  pub late_number : HasNumber 10 (late_refusal (grammar_part d))

-- a refusal of its part, as that of the form
part_refusal : (f : Sexp → Option Refusal) (d : Sexp) → f (grammar_part d) ≡ earlier (f (grammar_part (grammar_part d))) (binding_refusal (grammar_part d))
part_refusal f d = ap f (sym (part-again d)) ∙ sym (earlier_none (f (grammar_part (grammar_part d)))) ∙ ap (earlier (f (grammar_part (grammar_part d)))) (sym (part-unrefused d))

escape_number : (o : Option Refusal) (d : Sexp) (k : late_refusal d ≡ o) → HasNumber 10 o → HasNumber 10 (late_refusal d)
escape_number o d k h r e = h r (sym k ∙ e)

pub language-bound : (K : Known) (d : Sexp) → form_kind d ≡ defines kind.language → IsBound K d
language-bound K d e =
    let c = grammar_part d in
    let k : form_kind c ≡ defines kind.language = part-kind d ∙ e in
    let late : late_refusal c ≡ language_escape (grammar_part c) (language_form (grammar_part c)) = ap (late_refusal_by_kind c) k in
    record {
      refusal = ap (refusal_by_kind K d) e
          ∙ ap (λ o. earlier o (binding_refusal d)) (part_refusal (plain_refusal K) d ∙ sym (ap (refusal_by_kind K c) k));
      definition = ap (definition_by_kind K d) e ∙ ap (λ x. option_map language (plain_language x)) (sym (part-again d)) ∙ sym (ap (definition_by_kind K c) k);
      late = ap (late_refusal_by_kind d) e ∙ ap (λ x. language_escape x (language_form x)) (sym (part-again d)) ∙ sym late;
      late_number = escape_number (language_escape (grammar_part c) (language_form (grammar_part c))) c late (unnamed-number RacketEscape _);
    }

pub extension-bound : (K : Known) (d : Sexp) → form_kind d ≡ defines kind.extension → IsBound K d
extension-bound K d e =
    let c = grammar_part d in
    let k : form_kind c ≡ defines kind.extension = part-kind d ∙ e in
    let late : late_refusal c ≡ language_escape (grammar_part c) (extension_form (grammar_part c)) = ap (late_refusal_by_kind c) k in
    record {
      refusal = ap (refusal_by_kind K d) e
          ∙ ap (λ o. earlier o (binding_refusal d)) (part_refusal (extension_refusal K) d ∙ sym (ap (refusal_by_kind K c) k));
      definition = ap (definition_by_kind K d) e ∙ ap (λ x. option_map language (extended_language K x)) (sym (part-again d))
          ∙ sym (ap (definition_by_kind K c) k);
      late = ap (late_refusal_by_kind d) e ∙ ap (λ x. language_escape x (extension_form x)) (sym (part-again d)) ∙ sym late;
      late_number = escape_number (language_escape (grammar_part c) (extension_form (grammar_part c))) c late (unnamed-number RacketEscape _);
    }

-- ---- what is answered

module _ (K : Known) (d : Sexp) (b : IsBound K d) where
  -- a refusal of binding forms is reported before one of a greater number
  before_late : (p r q : Refusal) → 3 < number p.kind → form_refusal K (grammar_part d) ≡ None → binding_refusal d ≡ Some q
      → earlier (Some p) (Some q) ≡ Some r → IsRefusedForm K d r
  before_late p r q l f e h =
      let m : number q.kind ≤ 3 = binding-number d q e in
      by_check (b.refusal ∙ (λ i. earlier (f i) (e i)) ∙ sym (ap Some (earlier_of-second p q (omega (arith, l, m)))) ∙ h)

  same : (p r : Refusal) → earlier (Some p) None ≡ Some r → r ≡ p
  same p r e = let f : p ≡ r = cc in sym f

  -- where the form is refused without them
  refused_part : (p r : Refusal) → IsRefusedForm K (grammar_part d) p → (o : Option Refusal) → binding_refusal d ≡ o
      → ((n : Option Refusal) → n ≡ Some p → earlier n o ≡ Some r) → IsRefusedForm K d r
  refused_part p r (by_check f) o e h = by_check (b.refusal ∙ ap (earlier (form_refusal K (grammar_part d))) e ∙ h (form_refusal K (grammar_part d)) f)
  refused_part p r (by_recursion L x f g i j) None e h =
      by_recursion L x (b.refusal ∙ λ t. earlier (f t) (e t)) (b.definition ∙ g) i
      (same p r (h (Some p) refl) ∙ j ∙ ap (λ c. recursion_at c x) (part-again d))
  refused_part p r (by_recursion L x f g i j) (Some q) e h =
      let seven : number p.kind ≡ 7 = ap (λ (s : Refusal). number s.kind) j in
      before_late p r q (omega (arith, seven)) f e (h (Some p) refl)
  refused_part p r (by_late_check x f g i j) None e h =
      by_late_check x (b.refusal ∙ λ t. earlier (f t) (e t)) (b.definition ∙ g) i (b.late ∙ j ∙ sym (ap Some (same p r (h (Some p) refl))))
  refused_part p r (by_late_check x f g i j) (Some q) e h =
      let ten : number p.kind ≡ 10 = b.late_number p j in
      before_late p r q (omega (arith, ten)) f e (h (Some p) refl)

  -- the answer to the form, by the one to its part
  pub with-bindings : (x y : Result CheckedLang DefFault) → DefinesBy K (grammar_part d) x
      → ((o : Option Refusal) → IsRefusedBy o x → IsRefusedBy (earlier o (binding_refusal d)) y) → IfOk y (λ l. x ≡ Ok l) → DefinesBy K d y
  with-bindings x (Ok l) a h e =
      let c : DefinesBy K (grammar_part d) (Ok l) = subst (DefinesBy K (grammar_part d)) e a in
      let n : binding_refusal d ≡ None = h None (subst (λ (z : Result CheckedLang DefFault). IsRefusedBy None z) (sym e) refl) in
      record {
        passes = b.refusal ∙ (λ i. earlier (c.passes i) (n i));
        means = b.definition ∙ c.means;
        sound = c.sound;
        passes_late = b.late ∙ c.passes_late;
      }
  with-bindings x (Err NoMemory) a h e = tt
  with-bindings (Ok l) (Err (Refused r)) a h e = by_check (b.refusal ∙ ap (λ o. earlier o (binding_refusal d)) a.passes ∙ h None refl)
  with-bindings (Err NoMemory) (Err (Refused r)) a h e = by_check (b.refusal ∙ h (form_refusal K (grammar_part d)) tt)
  with-bindings (Err (Refused p)) (Err (Refused r)) a h e = refused_part (refusal_of p) (refusal_of r) a (binding_refusal d) refl h
