-- Which check refuses a form that defines a language.
use Rattle.std.proofs.Common.{◌≡◌, ◌<◌, Bool, true, false, [], ◌∷◌, Option, Some, None, Result, Ok, Err, refl, sym, ◌∙◌, ap, subst, arith, if◌then◌else◌}
use Rattle.std.specs.Prelude.{option_map}
use Rattle.rdx_sexp.specs.Sexp.{Sexp}
use Rattle.rdx_lang.specs.Patterns.{Language}
use Rattle.rdx_lang.specs.Programs.{language_named}
use Rattle.rdx_lang.specs.declared.checked.CheckedLang.{CheckedLang}
use Rattle.rdx_grammar.specs.Answers.{ReadsForm}
use Rattle.rdx_grammar.specs.Forms.{GrammarForm}
use Rattle.rdx_grammar.specs.Languages.{language_over}
use Rattle.rdx_patterns.specs.Parts.{text_of}
use Rattle.rdx_patterns.specs.Refusal.{Refusal, refusal_of, named, or_else, first_refusal}
use Rattle.rdx_grammar.specs.Refused.{by_check, by_recursion, by_escape, shape_at, duplicate_at, bad_name_at, bad_pattern_at, depth_clash_at, names_over, refusal_over}
use Rattle.rdx_grammar.specs.Stands.{form_stands}
use Rattle.rdx_patterns.specs.declared.shape.fault.DefFault.{DefFault}
use Rattle.rdx_patterns.specs.declared.shape.fault.DefFault.TheVariants.{Refused, NoMemory}
use Rattle.rdx_patterns.specs.declared.shape.fault.DefKind.TheVariants.{Shape, UnknownLanguage, Duplicate, BadName, BadPattern, EllipsisDepth, RacketEscape}
use Rattle.rdx_patterns.specs.declared.shape.fault.DefRefusal.{DefRefusal}
use Rattle.rdx_forms.specs.Inside.Defining.{IsLanguageFault, language_by_check, language_by_recursion, language_by_escape, DefinesOver, IsNamed, taken_at_item}
use Rattle.rdx_forms.specs.Reported.{number, earlier}
use Rattle.rdx_forms.specs.Inside.Earlier.{IsFirstFault, IsUnless}
use Rattle.rdx_forms.specs.Inside.PartViews.{second_item}
use Rattle.rdx_forms.specs.Known.{Known, is_taken}
use Rattle.rdx_forms.specs.MetafunctionForms.{function_taken_at}
use Rattle.rdx_forms.specs.LanguageForms.{unknown_at, unknown_by, taken_at, name_taken_at, language_refusal}
use Rattle.rdx_forms.proofs.CheckNumbers.{HasNumber, Checks, AreChecks, refused, merge, merged, or_none, unnamed-number, named-number, earlier_of-first}

-- ---- numbers

-- of the check of a language's name
unknown_by-number : (o : Option Language) (l : Sexp) → HasNumber 2 (unknown_by o l)
unknown_by-number None l r e = named-number UnknownLanguage (Some l) r e
unknown_by-number (Some L) l r e = absurd cc

pub unknown-number : (K : Known) (o : Option Sexp) → HasNumber 2 (unknown_at K o)
unknown-number K None r e = absurd cc
unknown-number K (Some l) r e = unknown_by-number (language_named K.program (text_of l)) l r e

-- of that of a name that is taken
taken_by-number : (b : Bool) (x : Sexp) → HasNumber 3 (if b then Some (named Duplicate x) else None)
taken_by-number true x r e = named-number Duplicate (Some x) r e
taken_by-number false x r e = absurd cc

pub taken-number : (K : Known) (x : Sexp) → HasNumber 3 (name_taken_at K x)
taken-number K x = taken_by-number (is_taken K (text_of x)) x

pub item-number : (K : Known) (o : Option Sexp) → HasNumber 3 (taken_at_item K o)
item-number K None r e = absurd cc
item-number K (Some x) r e = taken-number K x r e

-- the name is taken by either name of that check
pub taken-same : (K : Known) (o : Option Sexp) → function_taken_at K o ≡ taken_at_item K o
taken-same K None = refl
taken-same K (Some f) = refl

-- ---- the checks

-- those of a form by itself, but for left recursion
abbrev form_checks : Language → Sexp → Option GrammarForm → Checks
form_checks base d g =
    (1, shape_at (form_stands d g))
    ∷ (3, duplicate_at (form_stands d g))
    ∷ (4, bad_name_at (form_stands d g))
    ∷ (5, bad_pattern_at base (names_over base g) (form_stands d g))
    ∷ (6, depth_clash_at (names_over base g) (form_stands d g))
    ∷ []

form-checks : (base : Language) (d : Sexp) (g : Option GrammarForm) → AreChecks 0 (form_checks base d g)
form-checks base d g = (
  omega arith,
  (
    unnamed-number Shape _,
    (
      omega arith,
      (
        named-number Duplicate _,
        (
          omega arith,
          (
            named-number BadName _,
            (omega arith, (unnamed-number BadPattern _, (omega arith, (named-number EllipsisDepth _, tt)))),
          ),
        ),
      ),
    ),
  ),
)

-- those of names
abbrev name_checks : Known → Option Sexp → Option Sexp → Checks
name_checks K l0 x = (2, unknown_at K l0) ∷ (3, taken_at_item K x) ∷ []

name-checks : (K : Known) (l0 x : Option Sexp) → AreChecks 0 (name_checks K l0 x)
name-checks K l0 x = (omega arith, (unknown-number K l0, (omega arith, (item-number K x, tt))))

-- a form is refused by all of them
chain : (K : Known) (base : Language) (l0 : Option Sexp) (d : Sexp) (g : Option GrammarForm) → IsNamed d g → language_refusal K base l0 d g ≡ refused (merge (name_checks K l0 (second_item d)) (form_checks base d g))
chain K base l0 d None n = refl
chain K base l0 d (Some g) n =
    let ss = form_stands d (Some g) in
    let last = or_else (duplicate_at ss) (or_else (bad_name_at ss) (or_else (bad_pattern_at base (names_over base (Some g)) ss) (or_else (depth_clash_at (names_over base (Some g)) ss) None))) in
    λ i. or_else (shape_at ss) (or_else (unknown_at K l0) (or_else (taken_at_item K (sym (n g refl) i)) last))

-- ---- a form over a base that is known

-- the refusal of its name, or of what else stands in it
known-refusal : (K : Known) (base : Language) (l0 : Option Sexp) (d : Sexp) (g : Option GrammarForm) → IsNamed d g → unknown_at K l0 ≡ None → language_refusal K base l0 d g ≡ earlier (taken_at_item K (second_item d)) (refusal_over base d g)
known-refusal K base l0 d g n u =
    chain K base l0 d g n
    ∙ merged 0 (name_checks K l0 (second_item d)) (form_checks base d g) (name-checks K l0 (second_item d)) (form-checks base d g)
    ∙ (λ i. earlier (or_else (u i) (or_else (taken_at_item K (second_item d)) None)) (refusal_over base d g))
    ∙ ap (λ (o : Option Refusal). earlier o (refusal_over base d g)) (or_none (taken_at_item K (second_item d)))

-- ---- over one that is unknown

-- the checks behind that of the base's name
abbrev behind_name : Known → Language → Sexp → Option GrammarForm → Option Refusal
behind_name K base d g =
    first_refusal
    (taken_at K g ∷ duplicate_at (form_stands d g) ∷ bad_name_at (form_stands d g) ∷ bad_pattern_at base (names_over base g) (form_stands d g)
    ∷ depth_clash_at (names_over base g) (form_stands d g) ∷ [])

-- the refusal of its base's name comes before those of the base, whatever that is
unknown-refusal : (K : Known) (base other : Language) (l : Sexp) (d : Sexp) (g : Option GrammarForm) → language_named K.program (text_of l) ≡ None → language_refusal K base (Some l) d g ≡ earlier (Some (named UnknownLanguage l)) (refusal_over other d g)
unknown-refusal K base other l d g u =
    let names : AreChecks 0 ((2, Some (named UnknownLanguage l)) ∷ []) = (omega arith, (named-number UnknownLanguage (Some l), tt)) in
    (λ i. or_else (shape_at (form_stands d g)) (or_else (unknown_by (u i) l) (behind_name K base d g)))
    ∙ merged 0 ((2, Some (named UnknownLanguage l)) ∷ []) (form_checks other d g) names (form-checks other d g)

-- ---- what is answered

-- a refusal of names is reported, or an earlier one of the form
first-fault : (K : Known) (base other : Language) (l0 : Option Sexp) (d : Sexp) (g : Option GrammarForm) (r : DefRefusal) (x : Result CheckedLang DefFault) (e : DefFault) → number r.kind < 7 → ReadsForm other d g x
    → language_refusal K base l0 d g ≡ earlier (Some (refusal_of r)) (refusal_over other d g) → IsFirstFault r x e → IsLanguageFault K base l0 d g e
first-fault K base other l0 d g r x NoMemory h a f k = tt
first-fault K base other l0 d g r (Ok c) (Refused q) h a f k = language_by_check (f ∙ ap (earlier (Some (refusal_of r))) a.passes ∙ k None refl)
first-fault K base other l0 d g r (Err NoMemory) (Refused q) h a f k = language_by_check (f ∙ k (refusal_over other d g) tt)
first-fault K base other l0 d g r (Err (Refused p)) (Refused q) h (by_check b) f k = language_by_check (f ∙ k (refusal_over other d g) b)
first-fault K base other l0 d g r (Err (Refused p)) (Refused q) h (by_recursion ps y b c m i) f k =
    let seven : number (refusal_of p).kind ≡ 7 = ap (λ (s : Refusal). number s.kind) i in
    let none : earlier (Some (refusal_of r)) (Some (refusal_of p)) ≡ Some (refusal_of r) = ap Some (earlier_of-first (refusal_of r) (refusal_of p) (omega (arith, h, seven))) in
    language_by_check (f ∙ ap (earlier (Some (refusal_of r))) b ∙ sym none ∙ k (Some (refusal_of p)) refl)
first-fault K base other l0 d g r (Err (Refused p)) (Refused q) h (by_escape ps b c m i) f k =
    let ten : number (refusal_of p).kind ≡ 10 = unnamed-number RacketEscape _ (refusal_of p) i in
    let none : earlier (Some (refusal_of r)) (Some (refusal_of p)) ≡ Some (refusal_of r) = ap Some (earlier_of-first (refusal_of r) (refusal_of p) (omega (arith, h, ten))) in
    language_by_check (f ∙ ap (earlier (Some (refusal_of r))) b ∙ sym none ∙ k (Some (refusal_of p)) refl)

-- where the checks are the same, so is what they say
as_read : (K : Known) (base : Language) (l0 : Option Sexp) (d : Sexp) (g : Option GrammarForm) (x : Result CheckedLang DefFault) → language_refusal K base l0 d g ≡ refusal_over base d g → ReadsForm base d g x → DefinesOver K base l0 d g x
as_read K base l0 d g (Ok c) e a = record {
  passes = e ∙ a.passes;
  means = ap (option_map (language_over base)) a.are ∙ ap Some (sym a.reads);
  free = a.free;
  passes_late = a.asks_nothing;
}
as_read K base l0 d g (Err NoMemory) e a = tt
as_read K base l0 d g (Err (Refused r)) e (by_check f) = language_by_check (e ∙ f)
as_read K base l0 d g (Err (Refused r)) e (by_recursion ps x f h k i) =
    language_by_recursion (language_over base ps) x (e ∙ f) (ap (option_map (language_over base)) h) k i
as_read K base l0 d g (Err (Refused r)) e (by_escape ps f h k i) =
    language_by_escape (language_over base ps) (e ∙ f) (ap (option_map (language_over base)) h) k i

-- the answer where the base is known, by what is said of the name
pub known-answer : (K : Known) (base : Language) (l0 : Option Sexp) (d : Sexp) (g : Option GrammarForm) (t : Option DefRefusal) (x y : Result CheckedLang DefFault) → IsNamed d g → unknown_at K l0 ≡ None
    → option_map refusal_of t ≡ taken_at_item K (second_item d) → ReadsForm base d g x → IsUnless t x y → DefinesOver K base l0 d g y
known-answer K base l0 d g None x y n u t a k =
    subst (DefinesOver K base l0 d g) (sym k) (as_read K base l0 d g x (known-refusal K base l0 d g n u ∙ ap (λ (o : Option Refusal). earlier o (refusal_over base d g)) (sym t)) a)
known-answer K base l0 d g (Some r) x (Ok c) n u t a k = absurd k
known-answer K base l0 d g (Some r) x (Err e) n u t a k =
    let three : number (refusal_of r).kind ≡ 3 = item-number K (second_item d) (refusal_of r) (sym t) in
    first-fault K base base l0 d g r x e (omega (arith, three)) a
    (known-refusal K base l0 d g n u ∙ ap (λ (o : Option Refusal). earlier o (refusal_over base d g)) (sym t)) k

-- the answer where it is unknown
pub unknown-answer : (K : Known) (base other : Language) (l : Sexp) (d : Sexp) (g : Option GrammarForm) (r : DefRefusal) (x : Result CheckedLang DefFault) (e : DefFault) → language_named K.program (text_of l) ≡ None
    → refusal_of r ≡ named UnknownLanguage l → ReadsForm other d g x → IsFirstFault r x e → DefinesOver K base (Some l) d g (Err e)
unknown-answer K base other l d g r x e u m a k =
    let two : number (refusal_of r).kind ≡ 2 = ap (λ (s : Refusal). number s.kind) m in
    first-fault K base other (Some l) d g r x e (omega (arith, two)) a
    (unknown-refusal K base other l d g u ∙ ap (λ (s : Refusal). earlier (Some s) (refusal_over other d g)) (sym m)) k
