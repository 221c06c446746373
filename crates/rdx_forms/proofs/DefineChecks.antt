-- Forms that define a relation: their parts as the code has them, the names of relations, and what is said of a form by its parts.
use Rattle.std.proofs.Common.{◌≡◌, Bool, true, false, List, [], ◌∷◌, Option, Some, None, Result, Ok, Err, sym, ◌∙◌, ap, subst, refl, if◌then◌else◌}
use Rattle.std.specs.Prelude.{◌&&◌, ◌||◌, not, codes, bytes_eq, option_map}
use Rattle.rdx_sexp.specs.Sexp.{integer, truth, text, symbol, keyword, Sexp, leaf, list}
use Rattle.rdx_sexp.specs.Size.{IsSpelledSexp}
use Rattle.rdx_lang.specs.Programs as model
use Rattle.rdx_lang.specs.declared.program.Relation.{Relation}
use Rattle.rdx_term.specs.Spelling.{is_name, is_symbol_spelling}
use Rattle.rdx_patterns.specs.Names.{begins_with_dots, is_bad_name}
use Rattle.rdx_patterns.specs.Parts.{is_symbol, text_of}
use Rattle.rdx_patterns.specs.Readable.{IsReadable}
use Rattle.rdx_patterns.specs.Refusal.{Refusal, named}
use Rattle.rdx_patterns.specs.declared.shape.fault.DefFault.{DefFault}
use Rattle.rdx_patterns.specs.declared.shape.fault.DefFault.TheVariants.{Refused, NoMemory}
use Rattle.rdx_patterns.specs.declared.shape.fault.DefKind.TheVariants.{BadName}
use Rattle.rdx_forms.specs.DefineForms.{define_refusal, defined_relation}
use Rattle.rdx_forms.specs.DefineParts.{DefineKind, DefineParts, define_parts}
use Rattle.rdx_forms.specs.Definitions as defined
use Rattle.rdx_forms.specs.OneForm.{by_check}
use Rattle.rdx_forms.specs.FormKinds as kind
use Rattle.rdx_forms.specs.FormKinds.{defines, form_kind}
use Rattle.rdx_forms.specs.Forms.{refusal_by_kind, late_refusal_by_kind, definition_by_kind}
use Rattle.rdx_forms.specs.Known.{Known}
use Rattle.rdx_forms.specs.Inside.Defining.{AnswersBy}
use Rattle.rdx_forms.specs.Answers.{RelatesBy}
use Rattle.rdx_forms.specs.Inside.PartViews.{Defining, defining_by, is_more}
use Rattle.rdx_forms.proofs.CheckNumbers.{HasNumber, named-number}
use Rattle.rdx_forms.proofs.FormParts.{define-items, parts-readable}

-- ---- names

-- the number of the check of a name
pub bad-number : (b : Bool) (x : Sexp) → HasNumber 4 (if b then Some (named BadName x) else None)
bad-number true x r e = named-number BadName (Some x) r e
bad-number false x r e = absurd cc

-- a name that is not refused may be one
pub good_name : (b : Bool) (x : Sexp) → (let o : Option Refusal = if b then Some (named BadName x) else None in o) ≡ None → b ≡ false
good_name true x e = absurd cc
good_name false x e = refl

-- a symbol that is no name is `hole`
no_name : (b c x y : Bool) → b ≡ true → (b && not c) ≡ false → (c || x || y) ≡ true
no_name b true x y e f = refl
no_name true false x y e f = absurd cc
no_name false false x y e f = absurd cc

-- so it may not be that of a relation
pub no_name-bad : (d : Sexp) → IsSpelledSexp d → is_symbol d ≡ true → is_name (text_of d) ≡ false → is_bad_name (text_of d) ≡ true
no_name-bad (leaf (integer n) s) z y e = absurd cc
no_name-bad (leaf (truth b) s) z y e = absurd cc
no_name-bad (leaf (text t) s) z y e = absurd cc
no_name-bad (leaf (symbol x) s) z y e = no_name (is_symbol_spelling x) (bytes_eq x (codes "hole")) (bytes_eq x (codes "_")) (begins_with_dots x) z e
no_name-bad (leaf (keyword k) s) z y e = absurd cc
no_name-bad (list ds s) z y e = absurd cc

-- ---- what is said of the form

-- it is answered by its refusal, where it has one, and its relation
relates : (K : Known) (d : Sexp) (y : Result Relation DefFault) → form_kind d ≡ defines kind.relation → AnswersBy (define_refusal K d) (defined_relation K d) y → RelatesBy K d y
relates K d (Ok r) f a = record {
  passes = ap (refusal_by_kind K d) f ∙ a.0;
  means = ap (definition_by_kind K d) f ∙ ap (option_map defined.relation) a.1;
  sound = tt;
  passes_late = ap (late_refusal_by_kind d) f;
}
relates K d (Err (Refused r)) f a = by_check (ap (refusal_by_kind K d) f ∙ a)
relates K d (Err NoMemory) f a = tt

pub relates-by : (K : Known) (d : Sexp) (o : Option Refusal) (m : Option model.Relation) (y : Result Relation DefFault) → form_kind d ≡ defines kind.relation → define_refusal K d ≡ o → defined_relation K d ≡ m
    → AnswersBy o m y → RelatesBy K d y
relates-by K d o m y f e g a =
    relates K d y f
    (subst (λ (p : Option Refusal). AnswersBy p (defined_relation K d) y) (sym e) (subst (λ (n : Option model.Relation). AnswersBy o n y) (sym g) a))

-- ---- parts behind which nothing stands

-- the parts
abbrev pub sole_parts : DefineKind → Sexp → Sexp → DefineParts
sole_parts k x body = record { kind = k; name = x; body = body; rest = [] }

by_rest : (k : DefineKind) (x body : Sexp) (ds : List Sexp) (p : Defining) → p ≡ record { kind = k; name = x; body = body; more = is_more ds } → p.more ≡ false
    → (let o : Option DefineParts = Some (record { kind = k; name = x; body = body; rest = ds }) in o) ≡ Some (sole_parts p.kind p.name p.body)
by_rest k x body [] p e f = ap (λ (q : Defining). let o : Option DefineParts = Some (sole_parts q.kind q.name q.body) in o) (sym e)
by_rest k x body (d ∷ ds) p e f =
    let h : p.more ≡ true = ap (λ (q : Defining). q.more) e in
    absurd cc

by_parts : (o : Option DefineParts) (p : Defining) → (let q : Option Defining = Some p in q) ≡ option_map defining_by o → p.more ≡ false → o ≡ Some (sole_parts p.kind p.name p.body)
by_parts None p e f = absurd cc
by_parts (Some q) p e f = let g : p ≡ defining_by q = cc in by_rest q.kind q.name q.body q.rest p g f

-- those of the code are those of the form
pub parts-shown : (d : Sexp) (p : Defining) → (let q : Option Defining = Some p in q) ≡ option_map defining_by (define_parts d) → p.more ≡ false → define_parts d ≡ Some (sole_parts p.kind p.name p.body)
parts-shown d p e f = by_parts (define_parts d) p e f

module _ (d : Sexp) (k : DefineKind) (x body : Sexp) (e : define_parts d ≡ Some (sole_parts k x body)) where
  -- the list can be read
  pub body-readable : IsReadable d → IsReadable body
  body-readable z = let i = define-items d (sole_parts k x body) e in (parts-readable d (i.head ∷ x ∷ body ∷ []) i.are z).1.1.0

  -- the name is spelled as a symbol is
  pub name-spelled : IsReadable d → IsSpelledSexp x
  name-spelled z = let i = define-items d (sole_parts k x body) e in (parts-readable d (i.head ∷ x ∷ body ∷ []) i.are z).1.0.spelled
