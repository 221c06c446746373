-- Worked examples: data that are metafunctions, and data that are refused as ones.
use Rattle.std.specs.Prelude.{◌≡◌, ℕ, List, [], ◌∷◌, Some, None, codes}
use Rattle.rdx_base.specs.declared.place.Span.{Span}
use Rattle.rdx_sexp.specs.Sexp.{Sexp}
use Rattle.rdx_lang.specs.Patterns as patterns
use Rattle.rdx_lang.specs.Patterns.{Pattern, of_kind, nt, named, closed}
use Rattle.rdx_lang.specs.Programs.{Metafunction}
use Rattle.rdx_lang.specs.Templates.{var, call, one, nil}
use Rattle.rdx_lang.specs.declared.pattern.Kind.TheVariants.{Any}
use Rattle.rdx_lang.specs.declared.pattern.Ref.TheVariants.{Nt}
use Rattle.rdx_patterns.specs.Examples.{word, group, columns}
use Rattle.rdx_patterns.specs.declared.shape.fault.DefKind.TheVariants.{Shape, UnknownLanguage}
use Rattle.rdx_defs.specs.MetafunctionForms.{MetafunctionForm, metafunction_form}
use Rattle.rdx_defs.specs.MetafunctionReading.{metafunction_reading}
use Rattle.rdx_defs.specs.MetafunctionRefusal.{metafunction_refusal}
use Rattle.rdx_relations.specs.RelationExamples.{no_scope, number}
use Rattle.rdx_templates.specs.Scope.{Scope}

-- over a language with the nonterminal `n`, the datum has these parts, passes the checks, and is this metafunction
pub record MeansMetafunction (S : Scope) (d : Sexp) (M : Metafunction) : Type 0 where
  pub passes : metafunction_refusal S (codes "n" ∷ []) d ≡ None
  pub parts : MetafunctionForm
  pub is_form : metafunction_form d ≡ Some parts
  pub is_read : metafunction_reading S (codes "n" ∷ []) parts ≡ M

-- the datum is refused by its shape, in this column of the first line
abbrev pub IsMisshapenAt : Sexp → ℕ → Type 0
IsMisshapenAt d n = metafunction_refusal no_scope [] d ≡ Some (record { kind = Shape; place = record { line = 1; column = n }; name = None })

-- ---- metafunctions

-- the pattern `n`, and the same with a suffix
abbrev a_number : Pattern
a_number = named (codes "n") (nt (Nt (codes "n")))

abbrev number_named : List ℕ → Pattern
number_named x = named x (nt (Nt (codes "n")))

-- `(define-metafunction L first : n n -> n ((first n_1 n_2) n_1))`: each pattern of the contract is closed, so that the arguments need not be equal
abbrev pub ClosesContract : Type 0
ClosesContract =
    (s : Span)
    → MeansMetafunction no_scope
    (group s (word s (codes "define-metafunction") ∷ word s (codes "L")
    ∷ word s (codes "first") ∷ word s (codes ":") ∷ word s (codes "n") ∷ word s (codes "n") ∷ word s (codes "->") ∷ word s (codes "n")
    ∷ group s (group s (word s (codes "first") ∷ word s (codes "n_1") ∷ word s (codes "n_2") ∷ []) ∷ word s (codes "n_1") ∷ []) ∷ []))
    (record {
      name = codes "first";
      language = codes "L";
      contract = Some (patterns.seq (patterns.one (closed a_number) (patterns.one (closed a_number) patterns.nil)), closed a_number);
      clauses = record {
        arguments = patterns.seq (patterns.one (number_named (codes "n_1")) (patterns.one (number_named (codes "n_2")) patterns.nil));
        extras = [];
        result = var (codes "n_1") 0;
      } ∷ [];
    })

-- `(define-metafunction L ((f any_1) (g any_1)))` in a file that defines `g`: its result is a call
abbrev pub CallsAnother : Type 0
CallsAnother =
    (s : Span)
    → MeansMetafunction (record { metafunctions = codes "g" ∷ []; judgements = [] })
    (group s (word s (codes "define-metafunction") ∷ word s (codes "L")
    ∷ group s (group s (word s (codes "f") ∷ word s (codes "any_1") ∷ []) ∷ group s (word s (codes "g") ∷ word s (codes "any_1") ∷ []) ∷ []) ∷ []))
    (record {
      name = codes "f";
      language = codes "L";
      contract = None;
      clauses = record {
        arguments = patterns.seq (patterns.one (named (codes "any_1") (of_kind Any)) patterns.nil);
        extras = [];
        result = call (codes "g") (one (var (codes "any_1") 0) nil);
      } ∷ [];
    })

-- ---- refusals

-- `(define-metafunction L clause ...)`, from the first column on
abbrev metafunction : ℕ → List Sexp → Sexp
metafunction behind clauses = group (columns 1 behind) (word (columns 2 21) (codes "define-metafunction") ∷ word (columns 22 23) (codes "L") ∷ clauses)

-- `(define-metafunction L ((f 1) 2) ((g 1) 2))`: the second clause, which has another name than the first
abbrev pub OtherNameRefused : Type 0
OtherNameRefused =
    IsMisshapenAt
    (metafunction 44
    (group (columns 24 33) (group (columns 25 30) (word (columns 26 27) (codes "f") ∷ number (columns 28 29) 1 ∷ []) ∷ number (columns 31 32) 2 ∷ [])
    ∷ group (columns 34 43) (group (columns 35 40) (word (columns 36 37) (codes "g") ∷ number (columns 38 39) 1 ∷ []) ∷ number (columns 41 42) 2 ∷ []) ∷ []))
    34

-- `(define-metafunction L ((f 1) 2 a))`: the name, since clauses have none
abbrev pub NamedClauseRefused : Type 0
NamedClauseRefused =
    IsMisshapenAt
    (metafunction 36
    (group (columns 24 35)
    (group (columns 25 30) (word (columns 26 27) (codes "f") ∷ number (columns 28 29) 1 ∷ []) ∷ number (columns 31 32) 2 ∷ word (columns 33 34) (codes "a") ∷ []) ∷ []))
    33

-- `(metafunction L ((f) 1))`: the form, which has another head
abbrev pub HeadRefused : Type 0
HeadRefused =
    IsMisshapenAt
    (group (columns 1 25) (word (columns 2 14) (codes "metafunction") ∷ word (columns 15 16) (codes "L")
    ∷ group (columns 17 24) (group (columns 18 21) (word (columns 19 20) (codes "f") ∷ []) ∷ number (columns 22 23) 1 ∷ []) ∷ []))
    1

-- `(define-metafunction hole ((f) 1) ((g) 2))`: the clause of another metafunction, before the language's name
abbrev pub ShapeRefused : Type 0
ShapeRefused =
    IsMisshapenAt
    (group (columns 1 43) (word (columns 2 21) (codes "define-metafunction") ∷ word (columns 22 26) (codes "hole")
    ∷ group (columns 27 34) (group (columns 28 31) (word (columns 29 30) (codes "f") ∷ []) ∷ number (columns 32 33) 1 ∷ [])
    ∷ group (columns 35 42) (group (columns 36 39) (word (columns 37 38) (codes "g") ∷ []) ∷ number (columns 40 41) 2 ∷ []) ∷ []))
    35

-- `(define-metafunction hole ((hole) 1))`: the language's name, before that of the metafunction, which no metafunction may have
abbrev pub LanguageRefused : Type 0
LanguageRefused =
    metafunction_refusal no_scope []
    (group (columns 1 38) (word (columns 2 21) (codes "define-metafunction") ∷ word (columns 22 26) (codes "hole")
    ∷ group (columns 27 37) (group (columns 28 34) (word (columns 29 33) (codes "hole") ∷ []) ∷ number (columns 35 36) 1 ∷ []) ∷ []))
    ≡ Some (record { kind = UnknownLanguage; place = record { line = 1; column = 22 }; name = Some (codes "hole") })
