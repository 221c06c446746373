-- What a form does, by its head: it defines something, it asks something, or it is passed over. A form of another kind has to be a host expression.
use Rattle.std.specs.Prelude.{ℕ, List, [], ◌∷◌, Option, Some, None, bytes_eq, codes, if◌then◌else◌}
use Rattle.rdx_sexp.specs.Sexp.{symbol, Sexp, leaf}
use Rattle.rdx_patterns.specs.Parts.{parts}

-- what a form defines: a language by itself, one that extends another, a metafunction, a judgement, or a relation
pub data DefinitionKind : Type 0 where
  language : DefinitionKind
  extension : DefinitionKind
  metafunction : DefinitionKind
  judgement : DefinitionKind
  relation : DefinitionKind

-- what a form asks: the bindings by which a pattern matches a term, whether there are some, or what the pattern splits the term into; what a
-- host expression makes; whether a premise is met, or what a template makes of the bindings that meet it; the terms to which a relation leads from
-- a term, the steps with the names of their rules, or a walk of them; a term generated of a pattern, or whether a host expression makes #f for one of
-- many; under the binding forms of a language, whether two terms are alpha equivalent, or a term with another put for a symbol in it; and the kinds
-- of tests, with how many of them passed and failed
pub data QueryKind : Type 0 where
  matches : QueryKind
  whether : QueryKind
  splits : QueryKind
  value : QueryKind
  holds : QueryKind
  reducts : QueryKind
  tagged : QueryKind
  stepper : QueryKind
  generate : QueryKind
  check : QueryKind
  alike : QueryKind
  put : QueryKind
  test_equal : QueryKind
  test_step : QueryKind
  test_run : QueryKind
  test_match : QueryKind
  test_no_match : QueryKind
  test_holds : QueryKind
  test_results : QueryKind

-- what is passed over: the modules that a file wants, and what it offers
pub data PassedKind : Type 0 where
  wants : PassedKind
  offers : PassedKind

-- what a form does
pub data FormKind : Type 0 where
  defines : DefinitionKind → FormKind
  asks : QueryKind → FormKind
  passes : PassedKind → FormKind

-- the heads of forms
abbrev pub heads : List (List ℕ × FormKind)
heads =
    (codes "define-language", defines language)
    ∷ (codes "define-extended-language", defines extension)
    ∷ (codes "define-metafunction", defines metafunction)
    ∷ (codes "define-judgment-form", defines judgement)
    ∷ (codes "define", defines relation)
    ∷ (codes "redex-match", asks matches)
    ∷ (codes "redex-match?", asks whether)
    ∷ (codes "redex-decompose", asks splits)
    ∷ (codes "judgment-holds", asks holds)
    ∷ (codes "apply-reduction-relation", asks reducts)
    ∷ (codes "apply-reduction-relation/tag-with-names", asks tagged)
    ∷ (codes "stepper", asks stepper)
    ∷ (codes "generate-term", asks generate)
    ∷ (codes "redex-check", asks check)
    ∷ (codes "alpha-equivalent?", asks alike)
    ∷ (codes "substitute", asks put)
    ∷ (codes "test-equal", asks test_equal)
    ∷ (codes "test-->", asks test_step)
    ∷ (codes "test-->>", asks test_run)
    ∷ (codes "test-match", asks test_match)
    ∷ (codes "test-no-match", asks test_no_match)
    ∷ (codes "test-judgment-holds", asks test_holds)
    ∷ (codes "test-results", asks test_results)
    ∷ (codes "require", passes wants)
    ∷ (codes "provide", passes offers)
    ∷ []

-- what a form with a head of this text does, by such a table; a head that does not stand in it is that of a host expression
abbrev pub kind_in : List (List ℕ × FormKind) → List ℕ → FormKind
kind_in [] x = asks value
kind_in (row ∷ rows) x = if bytes_eq x row.0 then row.1 else kind_in rows x

-- what a form with this head does
abbrev pub kind_by_head : Sexp → FormKind
kind_by_head (leaf (symbol x) s) = kind_in heads x
kind_by_head h = asks value

-- what a list of these parts does
abbrev pub kind_among : Option (List Sexp) → FormKind
kind_among None = asks value
kind_among (Some []) = asks value
kind_among (Some (h ∷ ds)) = kind_by_head h

-- what a form does
abbrev pub form_kind : Sexp → FormKind
form_kind d = kind_among (parts d)
