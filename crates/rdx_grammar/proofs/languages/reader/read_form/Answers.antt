use Rattle.std.proofs.Common.{◌≡◌, Option, Some, None, Result, Ok, Err, option_map, ap, sym, ◌∙◌, subst}
use Rattle.rdx_sexp.specs.Sexp.{Sexp}
use Rattle.rdx_lang.specs.PatternView.{language_of}
use Rattle.rdx_lang.specs.Patterns.{Language}
use Rattle.rdx_lang.specs.WellFormed.{IsWellFormed}
use Rattle.rdx_lang.specs.declared.checked.CheckedLang.{CheckedLang}
use Rattle.rdx_grammar.specs.Forms.{GrammarForm}
use Rattle.rdx_grammar.specs.Inside.BaseView.{base_in}
use Rattle.rdx_grammar.specs.Inside.CheckedForms.{AreNamedIn, AreSpelledIn, AreShallowIn, ChecksRecursion}
use Rattle.rdx_grammar.specs.Inside.PartViews.{parts_of}
use Rattle.rdx_grammar.specs.Inside.StandView.{stands_of}
use Rattle.rdx_grammar.specs.Languages.{language_over}
use Rattle.rdx_patterns.specs.Refusal.{refusal_of}
use Rattle.rdx_grammar.specs.Refused.{refusal_over, escape_at}
use Rattle.rdx_grammar.specs.Stands.{form_stands}
use Rattle.rdx_patterns.specs.declared.shape.fault.DefFault.{DefFault}
use Rattle.rdx_patterns.specs.declared.shape.fault.DefRefusal.{DefRefusal}
use Rattle.rdx_grammar.proofs.PassedForms.{IsWellFormed-base, AreNamedIn-refusal, has_parts, ReadsForm-escape, ReadsForm-recursion, ReadsForm-handed_on}
use Rattle.rdx_grammar.proofs.WellFormedForms.{IsWellFormed-language_over}
use Rattle.rdx_grammar.proofs.languages.reader.read_form.Goals as goal

-- no early check refuses
passes : (base : Language) (d : Sexp) (g : Option GrammarForm) (o : Option DefRefusal) → option_map refusal_of o ≡ refusal_over base d g → o ≡ None → refusal_over base d g ≡ None
passes base d g o e f = sym e ∙ ap (option_map refusal_of) f

-- what the check for left recursion answered is about the language of the form
checks : (base : Language) (d : Sexp) (L : Language) (p : GrammarForm) (r : Result CheckedLang DefFault) → L ≡ language_over base p → ChecksRecursion L d r → ChecksRecursion (language_over base p) d r
checks base d L p r e h = subst (λ (M : Language). ChecksRecursion M d r) e h

pub unreachable-requires : goal.unreachable-requires
unreachable-requires c =
    let B = base_in (option_map (λ b. b.now) c.args.base) in
    let g = option_map parts_of c.args.parts in
    let e = passes B c.args.form.now g c.in_ok-refusal.field-0 c.in_ok-refusal.ensures c.in_default.is in
    let p : g ≡ None = ap (option_map parts_of) c.in_default-parts.is in
    has_parts B c.args.form.now (ap (refusal_over B c.args.form.now) (sym p) ∙ e)

pub read_parts-requires : goal.read_parts-requires
read_parts-requires c =
    let B = base_in (option_map (λ b. b.now) c.args.base) in
    let g = option_map parts_of c.args.parts in
    let e = passes B c.args.form.now g c.in_ok-refusal.field-0 c.in_ok-refusal.ensures c.in_default.is in
    subst AreNamedIn (ap (option_map parts_of) c.in-Some-parts.is) (AreNamedIn-refusal B c.args.form.now g c.requires.spelled e)

pub checked-requires : goal.checked-requires
checked-requires c =
    let B = base_in (option_map (λ b. b.now) c.args.base) in
    let g = option_map parts_of c.args.parts in
    let q = parts_of c.in-Some-parts.parts in
    let e = passes B c.args.form.now g c.in_ok-refusal.field-0 c.in_ok-refusal.ensures c.in_default.is in
    let p : g ≡ Some q = ap (option_map parts_of) c.in-Some-parts.is in
    let l : language_of c.in_ok-read_parts.field-0 ≡ language_over B q = c.in_ok-read_parts.ensures in
    subst IsWellFormed (sym l)
    (IsWellFormed-language_over B c.args.form.now q (IsWellFormed-base (option_map (λ b. b.now) c.args.base)) (subst AreSpelledIn p c.requires.spelled) (subst AreShallowIn p c.requires.shallow)
    (ap (refusal_over B c.args.form.now) (sym p) ∙ e))

pub returns-in_err-language : goal.returns-in_err-language
returns-in_err-language c =
    let B = base_in (option_map (λ b. b.now) c.args.base) in
    let d = c.args.form.now in
    let g = option_map parts_of c.args.parts in
    let q = parts_of c.in-Some-parts.parts in
    let t = c.in_err-language.field-0.0 in
    let e = passes B d g c.in_ok-refusal.field-0 c.in_ok-refusal.ensures c.in_default.is in
    let h = checks B d (language_of c.in_ok-read_parts.field-0) q (Err t) c.in_ok-read_parts.ensures c.in_err-language.ensures in
    ReadsForm-handed_on B d g c.from_residual-in_err-language.result t c.from_residual-in_err-language.ensures.1
    (ReadsForm-recursion B d g q t e (ap (option_map parts_of) c.in-Some-parts.is) h)

pub returns-in-Some-refuse_escape : goal.returns-in-Some-refuse_escape
returns-in-Some-refuse_escape c =
    let B = base_in (option_map (λ b. b.now) c.args.base) in
    let d = c.args.form.now in
    let g = option_map parts_of c.args.parts in
    let q = parts_of c.in-Some-parts.parts in
    let r = c.in-Some-refuse_escape.refusal in
    let e = passes B d g c.in_ok-refusal.field-0 c.in_ok-refusal.ensures c.in_default.is in
    let h = checks B d (language_of c.in_ok-read_parts.field-0) q (Ok c.in_ok-language.language) c.in_ok-read_parts.ensures c.in_ok-language.ensures in
    let s0 : stands_of c.in_ok-found.found.items ≡ form_stands d g = c.in_ok-found.ensures in
    let s : stands_of c.deref-2.result.now ≡ form_stands d g = cc in
    let k : escape_at (form_stands d g) ≡ Some (refusal_of r) =
    ap escape_at (sym s) ∙ sym c.refuse_escape.ensures ∙ ap (option_map refusal_of) c.in-Some-refuse_escape.is in
    ReadsForm-escape B d g q c.in_ok-language.language r e (ap (option_map parts_of) c.in-Some-parts.is) h k
