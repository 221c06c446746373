-- Forms that the checks pass.
use Rattle.std.proofs.Common.{◌≡◌, Option, Some, None, Result, Ok, Err, refl, sym, subst}
use Rattle.std.specs.Prelude.{IsErrAnd}
use Rattle.rdx_sexp.specs.Sexp.{Sexp}
use Rattle.rdx_lang.specs.Patterns.{Language}
use Rattle.rdx_lang.specs.WellFormed.{IsWellFormed}
use Rattle.rdx_lang.specs.declared.checked.CheckedLang.{CheckedLang}
use Rattle.rdx_grammar.specs.Answers.{IsFaultOf, ReadsForm}
use Rattle.rdx_grammar.specs.Inside.BaseView.{base_in}
use Rattle.rdx_grammar.specs.Inside.CheckedForms.{AreNamedIn, AreSpelledIn, ChecksRecursion}
use Rattle.rdx_grammar.specs.Forms.{GrammarForm}
use Rattle.rdx_grammar.specs.Languages.{language_over}
use Rattle.rdx_patterns.specs.Refusal.{or_else, unnamed, refusal_of}
use Rattle.rdx_grammar.specs.Refused.{refusal_over, shape_at, duplicate_at, bad_name_at, escape_at, by_recursion, by_escape}
use Rattle.rdx_grammar.specs.Stands.{form_stands}
use Rattle.rdx_patterns.specs.declared.shape.fault.DefFault.{DefFault}
use Rattle.rdx_patterns.specs.declared.shape.fault.DefFault.TheVariants.{Refused, NoMemory}
use Rattle.rdx_patterns.specs.declared.shape.fault.DefKind.TheVariants.{Shape}
use Rattle.rdx_patterns.specs.declared.shape.fault.DefRefusal.{DefRefusal}
use Rattle.rdx_patterns.proofs.Firsts.{none_or}
use Rattle.rdx_grammar.proofs.NamedForms.{AreNamedIn-passed}

-- a base is well formed
pub IsWellFormed-base : (o : Option CheckedLang) → IsWellFormed (base_in o)
IsWellFormed-base None = record { distinct = refl; well_formed = refl }
IsWellFormed-base (Some c) = c.well_formed

-- what a form that passes defines has names
pub AreNamedIn-refusal : (base : Language) (d : Sexp) (g : Option GrammarForm) → AreSpelledIn g → refusal_over base d g ≡ None → AreNamedIn g
AreNamedIn-refusal base d g h e =
    let k = (none_or (shape_at (form_stands d g)) _ e).1 in
    let l = (none_or (duplicate_at (form_stands d g)) _ k).1 in
    AreNamedIn-passed d g h (none_or (bad_name_at (form_stands d g)) _ l).0

-- a form that passes has parts
pub has_parts : (base : Language) (d : Sexp) → refusal_over base d None ≡ None → ⊥
has_parts base d e = let f : Some (unnamed Shape d) ≡ None = e in cc

-- a form that passes, and whose language is free of left recursion, is refused for a list that would ask Racket
pub ReadsForm-escape : (base : Language) (d : Sexp) (g : Option GrammarForm) (p : GrammarForm) (c : CheckedLang) (r : DefRefusal) → refusal_over base d g ≡ None → g ≡ Some p → ChecksRecursion (language_over base p) d (Ok c) → escape_at (form_stands d g) ≡ Some (refusal_of r) → ReadsForm base d g (Err (Refused r))
ReadsForm-escape base d g p c r e f h k = by_escape p e f h.1 k

-- one whose language is left-recursive is refused for that
pub ReadsForm-recursion : (base : Language) (d : Sexp) (g : Option GrammarForm) (p : GrammarForm) (t : DefFault) → refusal_over base d g ≡ None → g ≡ Some p → ChecksRecursion (language_over base p) d (Err t) → ReadsForm base d g (Err t)
ReadsForm-recursion base d g p (Refused r) e f h = by_recursion p h.nonterminal e f h.recursive h.refused
ReadsForm-recursion base d g p NoMemory e f h = tt

-- what is handed on from that check
pub ReadsForm-handed_on : (base : Language) (d : Sexp) (g : Option GrammarForm) (r : Result CheckedLang DefFault) (t : DefFault) → IsErrAnd r (λ q. q ≡ t) → ReadsForm base d g (Err t) → ReadsForm base d g r
ReadsForm-handed_on base d g (Ok c) t e h = absurd e
ReadsForm-handed_on base d g (Err q) t e h = subst (IsFaultOf base d g) (sym e) h
