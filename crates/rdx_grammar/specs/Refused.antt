-- When a form that defines a language is refused, and which language it is else.
use Rattle.std.specs.Prelude.{◌≡◌, ℕ, List, [], ◌∷◌, Option, Some, None, option_map}
use Rattle.rdx_sexp.specs.Sexp.{Sexp}
use Rattle.rdx_lang.specs.Edges.{IsFree, IsFirstRecursive}
use Rattle.rdx_lang.specs.Patterns.{Language}
use Rattle.rdx_lang.specs.declared.pattern.Ref.{Ref}
use Rattle.rdx_grammar.specs.Checks.{shape_faults, repeats, bad_names, bad_patterns, all_depth_clashes, all_escapes}
use Rattle.rdx_grammar.specs.Forms.{GrammarForm}
use Rattle.rdx_grammar.specs.Languages.{language_over}
use Rattle.rdx_grammar.specs.Nonterminals.{all_names}
use Rattle.rdx_patterns.specs.Nonterminals.{called}
use Rattle.rdx_patterns.specs.Refusal.{Refusal, unnamed, named, named_at, first, first_refusal}
use Rattle.rdx_grammar.specs.Stands.{Stand, form_stands}
use Rattle.rdx_patterns.specs.declared.shape.fault.DefKind.TheVariants.{Shape, Duplicate, BadName, BadPattern, EllipsisDepth, LeftRecursive, RacketEscape}

-- ---- check by check: the first place at which each refuses

-- S1: a form or a definition has not its shape, or a keyword stands in a pattern
abbrev pub shape_at : List Stand → Option Refusal
shape_at ss = option_map (unnamed Shape) (first (shape_faults ss))

-- S3: a nonterminal is defined twice
abbrev pub duplicate_at : List Stand → Option Refusal
duplicate_at ss = option_map (named Duplicate) (first (repeats [] ss))

-- S4: a name is defined or bound that may not be
abbrev pub bad_name_at : List Stand → Option Refusal
bad_name_at ss = option_map (named BadName) (first (bad_names ss))

-- S5: a pattern means nothing
abbrev pub bad_pattern_at : Language → List (List ℕ) → List Stand → Option Refusal
bad_pattern_at base ns ss = option_map (unnamed BadPattern) (first (bad_patterns base ns ss))

-- S6: a name is bound at two depths
abbrev pub depth_clash_at : List (List ℕ) → List Stand → Option Refusal
depth_clash_at ns ss = option_map (named EllipsisDepth) (first (all_depth_clashes ns ss))

-- S10: a list in a pattern would ask Racket
abbrev pub escape_at : List Stand → Option Refusal
escape_at ss = option_map (unnamed RacketEscape) (first (all_escapes ss))

-- ---- forms

-- the nonterminals that patterns in such a form may name
abbrev pub names_over : Language → Option GrammarForm → List (List ℕ)
names_over base None = []
names_over base (Some g) = all_names base g.definitions

-- the check with the least number that refuses a form with these parts over a base, but for left recursion and for
-- what comes behind that
abbrev pub refusal_over : Language → Sexp → Option GrammarForm → Option Refusal
refusal_over base d g =
    first_refusal
    (shape_at (form_stands d g)  -- S1
    ∷ duplicate_at (form_stands d g)  -- S3
    ∷ bad_name_at (form_stands d g)  -- S4
    ∷ bad_pattern_at base (names_over base g) (form_stands d g)  -- S5
    ∷ depth_clash_at (names_over base g) (form_stands d g)  -- S6
    ∷ [])

-- S7, LeftRecursive: the language of the form d is left-recursive at x; the place is that of the form
abbrev pub recursion_at : Sexp → Ref → Refusal
recursion_at d x = named_at LeftRecursive d (called x)

-- a form is the language L
pub record IsLanguage (base : Language) (d : Sexp) (g : Option GrammarForm) (L : Language) : Type 0 where
  pub passes : refusal_over base d g ≡ None
  pub parts : GrammarForm
  pub are : g ≡ Some parts
  pub reads : L ≡ language_over base parts
  pub free : IsFree L
  pub asks_nothing : escape_at (form_stands d g) ≡ None

-- a form is refused so: by a check before left recursion, by that, or, where its language is free of it, by the check behind it
pub data IsRefused (base : Language) (d : Sexp) (g : Option GrammarForm) (r : Refusal) : Type 0 where
  by_check : refusal_over base d g ≡ Some r → IsRefused base d g r
  by_recursion : (parts : GrammarForm) (x : Ref) → refusal_over base d g ≡ None → g ≡ Some parts → IsFirstRecursive (language_over base parts) x → r ≡ recursion_at d x → IsRefused base d g r
  by_escape : (parts : GrammarForm) → refusal_over base d g ≡ None → g ≡ Some parts → IsFree (language_over base parts) → escape_at (form_stands d g) ≡ Some r → IsRefused base d g r
