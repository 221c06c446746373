-- Worked examples: data that are relations, and data that are refused as ones, over a language without nonterminals.
use Rattle.std.specs.Prelude.{◌≡◌, ℕ, pos, List, [], ◌∷◌, Option, Some, None, codes}
use Rattle.rdx_base.specs.declared.place.Span.{Span}
use Rattle.rdx_sexp.specs.Sexp.{integer, text, Sexp, leaf}
use Rattle.rdx_lang.specs.Patterns.{of_kind, named}
use Rattle.rdx_lang.specs.Programs.{such_as, fresh, Relation}
use Rattle.rdx_lang.specs.Templates.{var, seq, nil, one}
use Rattle.rdx_lang.specs.declared.pattern.Kind.TheVariants.{Any, Number}
use Rattle.rdx_patterns.specs.Examples.{word, group, columns}
use Rattle.rdx_patterns.specs.declared.shape.fault.DefKind.{DefKind}
use Rattle.rdx_patterns.specs.declared.shape.fault.DefKind.TheVariants.{Shape, UnknownLanguage, Duplicate, EllipsisDepth, UnknownName}
use Rattle.rdx_relations.specs.RelationForms.{RelationForm, relation_form}
use Rattle.rdx_relations.specs.RelationReading.{relation_reading}
use Rattle.rdx_relations.specs.RelationRefusal.{relation_refusal}
use Rattle.rdx_templates.specs.Scope.{Scope}

-- without a metafunction
abbrev pub no_scope : Scope
no_scope = record { metafunctions = []; judgements = [] }

-- a number, wherever it stands
abbrev pub number : Span → ℕ → Sexp
number s n = leaf (integer (pos n)) s

-- `(reduction-relation L case ...)`, from the first column on
abbrev relation : ℕ → List Sexp → Sexp
relation behind cases = group (columns 1 behind) (word (columns 2 20) (codes "reduction-relation") ∷ word (columns 21 22) (codes "L") ∷ cases)

-- the datum has these parts, passes the checks, and is this relation
pub record MeansRelation (d : Sexp) (x : List ℕ) (R : Relation) : Type 0 where
  pub passes : relation_refusal no_scope [] d ≡ None
  pub parts : RelationForm
  pub is_form : relation_form d ≡ Some parts
  pub is_read : relation_reading no_scope [] x parts ≡ R

-- the datum is refused so, in this column of the first line
abbrev pub IsRefusedAt : Sexp → DefKind → ℕ → Option (List ℕ) → Type 0
IsRefusedAt d k n x = relation_refusal no_scope [] d ≡ Some (record { kind = k; place = record { line = 1; column = n }; name = x })

-- ---- relations

-- `(reduction-relation L (--> any_1 (any_1 number_1) dup (where number_1 any_1)))`: what `where` binds counts in the template of the case
abbrev pub BindsBehind : Type 0
BindsBehind =
    (s : Span)
    → MeansRelation
    (group s (word s (codes "reduction-relation") ∷ word s (codes "L")
    ∷ group s (word s (codes "-->") ∷ word s (codes "any_1") ∷ group s (word s (codes "any_1") ∷ word s (codes "number_1") ∷ []) ∷ word s (codes "dup")
    ∷ group s (word s (codes "where") ∷ word s (codes "number_1") ∷ word s (codes "any_1") ∷ []) ∷ []) ∷ []))
    (codes "r")
    (record {
      name = codes "r";
      language = codes "L";
      domain = None;
      rules = record {
        name = Some (codes "dup");
        pattern = named (codes "any_1") (of_kind Any);
        extras = such_as (named (codes "number_1") (of_kind Number)) (var (codes "any_1") 0) ∷ [];
        result = seq (one (var (codes "any_1") 0) (one (var (codes "number_1") 0) nil));
      } ∷ [];
    })

-- `(reduction-relation L (--> any_1 x (fresh x)))`: what `fresh` makes counts in the template of the case
abbrev pub MakesFresh : Type 0
MakesFresh =
    (s : Span)
    → MeansRelation
    (group s (word s (codes "reduction-relation") ∷ word s (codes "L")
    ∷ group s (word s (codes "-->") ∷ word s (codes "any_1") ∷ word s (codes "x")
    ∷ group s (word s (codes "fresh") ∷ word s (codes "x") ∷ []) ∷ []) ∷ []))
    (codes "r")
    (record {
      name = codes "r";
      language = codes "L";
      domain = None;
      rules = record {
        name = None;
        pattern = named (codes "any_1") (of_kind Any);
        extras = fresh (codes "x") ∷ [];
        result = var (codes "x") 0;
      } ∷ [];
    })

-- ---- refusals

-- `(relation L)`: the form, which has another head
abbrev pub HeadRefused : Type 0
HeadRefused = IsRefusedAt (group (columns 1 13) (word (columns 2 10) (codes "relation") ∷ word (columns 11 12) (codes "L") ∷ [])) Shape 1 None

-- `(reduction-relation hole (--> 1 2 x) (--> 3 4 x))`: the language's name, before the second name of a case
abbrev pub LanguageRefused : Type 0
LanguageRefused =
    IsRefusedAt
    (group (columns 1 50) (word (columns 2 20) (codes "reduction-relation") ∷ word (columns 21 25) (codes "hole")
    ∷ group (columns 26 37) (word (columns 27 30) (codes "-->") ∷ number (columns 31 32) 1 ∷ number (columns 33 34) 2 ∷ word (columns 35 36) (codes "x") ∷ [])
    ∷ group (columns 38 49) (word (columns 39 42) (codes "-->") ∷ number (columns 43 44) 3 ∷ number (columns 45 46) 4 ∷ word (columns 47 48) (codes "x") ∷ []) ∷ []))
    UnknownLanguage 21 (Some (codes "hole"))

-- `(reduction-relation hole 1)`: the case, which has not its shape
abbrev pub ShapeRefused : Type 0
ShapeRefused =
    IsRefusedAt (group (columns 1 28) (word (columns 2 20) (codes "reduction-relation") ∷ word (columns 21 25) (codes "hole") ∷ number (columns 26 27) 1 ∷ []))
    Shape 26 None

-- `(reduction-relation L (--> 1 2 a) (--> 3 4 "a"))`: the string, which is the name of the first case too
abbrev pub NameRefused : Type 0
NameRefused =
    IsRefusedAt
    (relation 49
    (group (columns 23 34) (word (columns 24 27) (codes "-->") ∷ number (columns 28 29) 1 ∷ number (columns 30 31) 2 ∷ word (columns 32 33) (codes "a") ∷ [])
    ∷ group (columns 35 48) (word (columns 36 39) (codes "-->") ∷ number (columns 40 41) 3 ∷ number (columns 42 43) 4 ∷ leaf (text (codes "a")) (columns 44 47) ∷ []) ∷ []))
    Duplicate 44 (Some (codes "a"))

-- `(reduction-relation L (==> 1 2))`: the symbol, which is no arrow
abbrev pub ArrowRefused : Type 0
ArrowRefused =
    IsRefusedAt (relation 33 (group (columns 23 32) (word (columns 24 27) (codes "==>") ∷ number (columns 28 29) 1 ∷ number (columns 30 31) 2 ∷ []) ∷ []))
    UnknownName 24 (Some (codes "==>"))

-- `(reduction-relation L (--> 1 2 (where x)))`: the extra
abbrev pub ExtraRefused : Type 0
ExtraRefused =
    IsRefusedAt
    (relation 43
    (group (columns 23 42) (word (columns 24 27) (codes "-->") ∷ number (columns 28 29) 1 ∷ number (columns 30 31) 2
    ∷ group (columns 32 41) (word (columns 33 38) (codes "where") ∷ word (columns 39 40) (codes "x") ∷ []) ∷ []) ∷ []))
    Shape 32 None

-- `(reduction-relation L (--> (any_1 ...) any_1))`: the name in the template, which stands under no ellipsis
abbrev pub ResultRefused : Type 0
ResultRefused =
    IsRefusedAt
    (relation 47
    (group (columns 23 46) (word (columns 24 27) (codes "-->") ∷ group (columns 28 39) (word (columns 29 34) (codes "any_1") ∷ word (columns 35 38) (codes "...") ∷ [])
    ∷ word (columns 40 45) (codes "any_1") ∷ []) ∷ []))
    EllipsisDepth 40 (Some (codes "any_1"))

-- `(reduction-relation L (--> (any_1 ...) 2 (where any_1 3)))`: the name in `where`, which is bound under an ellipsis before
abbrev pub ClashRefused : Type 0
ClashRefused =
    IsRefusedAt
    (relation 59
    (group (columns 23 58) (word (columns 24 27) (codes "-->") ∷ group (columns 28 39) (word (columns 29 34) (codes "any_1") ∷ word (columns 35 38) (codes "...") ∷ [])
    ∷ number (columns 40 41) 2
    ∷ group (columns 42 57) (word (columns 43 48) (codes "where") ∷ word (columns 49 54) (codes "any_1") ∷ number (columns 55 56) 3 ∷ []) ∷ []) ∷ []))
    EllipsisDepth 49 (Some (codes "any_1"))

-- `(reduction-relation L (--> any_1 2 (fresh any_1)))`: the name in `fresh`, which is bound before
abbrev pub FreshRefused : Type 0
FreshRefused =
    IsRefusedAt
    (relation 51
    (group (columns 23 50) (word (columns 24 27) (codes "-->") ∷ word (columns 28 33) (codes "any_1") ∷ number (columns 34 35) 2
    ∷ group (columns 36 49) (word (columns 37 42) (codes "fresh") ∷ word (columns 43 48) (codes "any_1") ∷ []) ∷ []) ∷ []))
    Duplicate 43 (Some (codes "any_1"))
