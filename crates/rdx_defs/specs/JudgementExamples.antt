-- Worked examples: data that are judgements, and data that are refused as ones.
use Rattle.std.specs.Prelude.{◌≡◌, ℕ, true, false, List, [], ◌∷◌, Option, Some, None, codes}
use Rattle.rdx_base.specs.declared.place.Span.{Span}
use Rattle.rdx_sexp.specs.Sexp.{keyword, text, Sexp, leaf}
use Rattle.rdx_term.specs.Tree.{symbol}
use Rattle.rdx_lang.specs.Patterns as patterns
use Rattle.rdx_lang.specs.Patterns.{Pattern, nt, named, closed}
use Rattle.rdx_lang.specs.Programs.{Extra, provided, holds, Judgement}
use Rattle.rdx_lang.specs.Templates.{Template, lit, var, term}
use Rattle.rdx_lang.specs.declared.pattern.Ref.TheVariants.{Nt}
use Rattle.rdx_patterns.specs.Examples.{word, group, columns}
use Rattle.rdx_patterns.specs.declared.shape.fault.DefKind.{DefKind}
use Rattle.rdx_patterns.specs.declared.shape.fault.DefKind.TheVariants.{Shape, UnknownLanguage, Mode, UnknownName}
use Rattle.rdx_defs.specs.JudgementForms.{JudgementForm, judgement_form}
use Rattle.rdx_defs.specs.JudgementReading.{judgement_reading}
use Rattle.rdx_defs.specs.JudgementRefusal.{judgement_refusal}
use Rattle.rdx_relations.specs.RelationExamples.{no_scope, number}
use Rattle.rdx_templates.specs.Scope.{Scope}

-- in a file that has the judgements J and K, both of an input and an output
abbrev two_judgements : Scope
two_judgements = record { metafunctions = []; judgements = (codes "J", true ∷ false ∷ []) ∷ (codes "K", true ∷ false ∷ []) ∷ [] }

-- there, over a language with the nonterminal `n`, the datum has these parts, passes the checks, and is this judgement
pub record MeansJudgement (d : Sexp) (J : Judgement) : Type 0 where
  pub passes : judgement_refusal two_judgements (codes "n" ∷ []) d ≡ None
  pub parts : JudgementForm
  pub is_form : judgement_form d ≡ Some parts
  pub is_read : judgement_reading two_judgements (codes "n" ∷ []) parts ≡ J

-- in a file without judgements the datum is refused so, in this column of the first line
abbrev pub IsRefusedAt : Sexp → DefKind → ℕ → Option (List ℕ) → Type 0
IsRefusedAt d k n x = judgement_refusal no_scope [] d ≡ Some (record { kind = k; place = record { line = 1; column = n }; name = x })

-- ---- judgements

-- a symbol, wherever it stands, and a list of such a symbol and two more
abbrev asks : Span → List ℕ → List ℕ → List ℕ → Sexp
asks s j x y = group s (word s j ∷ word s x ∷ word s y ∷ [])

-- `(define-judgment-form L #:mode (J I O) rule)`
abbrev judgement : Span → Sexp → Sexp
judgement s r =
    group s (word s (codes "define-judgment-form") ∷ word s (codes "L") ∷ leaf (keyword (codes "mode")) s ∷ asks s (codes "J") (codes "I") (codes "O") ∷ r ∷ [])

-- a list pattern of one number of this name
abbrev a_number : List ℕ → Pattern
a_number x = patterns.seq (patterns.one (named x (nt (Nt (codes "n")))) patterns.nil)

-- the judgement J with one rule, from `n_1`, with these extras, to what this template makes
abbrev from_number : Option (List ℕ) → List Extra → Template → Judgement
from_number x es t = record {
  name = codes "J";
  language = codes "L";
  mode = true ∷ false ∷ [];
  contract = None;
  rules = record { name = x; inputs = a_number (codes "n_1"); extras = es; outputs = t ∷ [] } ∷ [];
}

-- what `(K t n_2)` asks
abbrev asking : Template → Extra
asking t = holds (record { judgement = codes "K"; inputs = t ∷ []; outputs = a_number (codes "n_2") })

-- `((J n_1 n_2) (K n_1 n_2) "step")`, where the conclusion comes first
abbrev pub AheadMeans : Type 0
AheadMeans =
    (s : Span)
    → MeansJudgement
    (judgement s
    (group s (asks s (codes "J") (codes "n_1") (codes "n_2") ∷ asks s (codes "K") (codes "n_1") (codes "n_2") ∷ leaf (text (codes "step")) s ∷ [])))
    (from_number (Some (codes "step")) (asking (var (codes "n_1") 0) ∷ []) (var (codes "n_2") 0))

-- `((K n_1 n_2) --- "step" (J n_1 n_2))`, where it comes behind a line, means the same
abbrev pub BehindMeans : Type 0
BehindMeans =
    (s : Span)
    → MeansJudgement
    (judgement s
    (group s
    (asks s (codes "K") (codes "n_1") (codes "n_2") ∷ word s (codes "---") ∷ leaf (text (codes "step")) s
    ∷ asks s (codes "J") (codes "n_1") (codes "n_2") ∷ [])))
    (from_number (Some (codes "step")) (asking (var (codes "n_1") 0) ∷ []) (var (codes "n_2") 0))

-- `((J n_1 n_2) (K n_2 n_2))`: the input of the premise does not see its output, so that `n_2` stands for itself there
abbrev pub SeesNoOutput : Type 0
SeesNoOutput =
    (s : Span)
    → MeansJudgement
    (judgement s (group s (asks s (codes "J") (codes "n_1") (codes "n_2") ∷ asks s (codes "K") (codes "n_2") (codes "n_2") ∷ [])))
    (from_number None (asking (lit (symbol (codes "n_2"))) ∷ []) (var (codes "n_2") 0))

-- `((J n_1 n_1) (side-condition n_1))`: the condition is the host expression `(term n_1)`
abbrev pub ConfirmsTerm : Type 0
ConfirmsTerm =
    (s : Span)
    → MeansJudgement
    (judgement s
    (group s (asks s (codes "J") (codes "n_1") (codes "n_1") ∷ group s (word s (codes "side-condition") ∷ word s (codes "n_1") ∷ []) ∷ [])))
    (from_number None (provided (term (var (codes "n_1") 0)) ∷ []) (var (codes "n_1") 0))

-- a list pattern of one number of this name, closed
abbrev closed_number : List ℕ → Pattern
closed_number x = patterns.seq (patterns.one (closed (named x (nt (Nt (codes "n"))))) patterns.nil)

-- `(define-judgment-form L #:contract (J n_1 n_2) #:mode (J I O))`: the contract is one of the list of inputs and one of the list of outputs
abbrev pub DividesContract : Type 0
DividesContract =
    (s : Span)
    → MeansJudgement
    (group s (word s (codes "define-judgment-form") ∷ word s (codes "L")
    ∷ leaf (keyword (codes "contract")) s ∷ asks s (codes "J") (codes "n_1") (codes "n_2")
    ∷ leaf (keyword (codes "mode")) s ∷ asks s (codes "J") (codes "I") (codes "O") ∷ []))
    (record {
      name = codes "J";
      language = codes "L";
      mode = true ∷ false ∷ [];
      contract = Some (closed_number (codes "n_1"), closed_number (codes "n_2"));
      rules = [];
    })

-- ---- refusals

-- `(define-judgment-form L`, from the first column on, and what stands behind that
abbrev begun : ℕ → List Sexp → Sexp
begun behind ds = group (columns 1 behind) (word (columns 2 22) (codes "define-judgment-form") ∷ word (columns 23 24) (codes "L") ∷ ds)

-- `#:mode (J I)` behind that, and a rule
abbrev with_input : ℕ → Sexp → Sexp
with_input behind r =
    begun behind
    (leaf (keyword (codes "mode")) (columns 25 31)
    ∷ group (columns 32 37) (word (columns 33 34) (codes "J") ∷ word (columns 35 36) (codes "I") ∷ []) ∷ r ∷ [])

-- `(J 1 2)`
abbrev two_arguments : Sexp
two_arguments = group (columns 39 46) (word (columns 40 41) (codes "J") ∷ number (columns 42 43) 1 ∷ number (columns 44 45) 2 ∷ [])

-- `(define-judgment-form L #:mode (J I) ((J 1 2)))`: the conclusion, which has more arguments than the mode
abbrev pub ConclusionRefused : Type 0
ConclusionRefused = IsRefusedAt (with_input 48 (group (columns 38 47) (two_arguments ∷ []))) Mode 39 (Some (codes "J"))

-- `(define-judgment-form L)`: the form, which has no mode
abbrev pub NoModeRefused : Type 0
NoModeRefused = IsRefusedAt (begun 25 []) Mode 1 None

-- `(define-judgment-form L #:mode (J I) ((J 1 2) (K 3)))`: the judgement of the premise, which is unknown, before the conclusion
abbrev pub UnknownRefused : Type 0
UnknownRefused =
    IsRefusedAt
    (with_input 54
    (group (columns 38 53)
    (two_arguments ∷ group (columns 47 52) (word (columns 48 49) (codes "K") ∷ number (columns 50 51) 3 ∷ []) ∷ [])))
    UnknownName 48 (Some (codes "K"))

-- `(judgment-form L #:mode (J I))`: the form, which has another head
abbrev pub HeadRefused : Type 0
HeadRefused =
    IsRefusedAt
    (group (columns 1 31) (word (columns 2 15) (codes "judgment-form") ∷ word (columns 16 17) (codes "L") ∷ leaf (keyword (codes "mode")) (columns 18 24)
    ∷ group (columns 25 30) (word (columns 26 27) (codes "J") ∷ word (columns 28 29) (codes "I") ∷ []) ∷ []))
    Shape 1 None

-- `(define-judgment-form hole)`: the language's name, before the form, which has no mode
abbrev pub LanguageRefused : Type 0
LanguageRefused =
    IsRefusedAt (group (columns 1 28) (word (columns 2 22) (codes "define-judgment-form") ∷ word (columns 23 27) (codes "hole") ∷ []))
    UnknownLanguage 23 (Some (codes "hole"))

-- `(define-judgment-form hole 1)`: the rule, which has not its shape, before the language's name
abbrev pub ShapeRefused : Type 0
ShapeRefused =
    IsRefusedAt
    (group (columns 1 30) (word (columns 2 22) (codes "define-judgment-form") ∷ word (columns 23 27) (codes "hole") ∷ number (columns 28 29) 1 ∷ []))
    Shape 28 None
