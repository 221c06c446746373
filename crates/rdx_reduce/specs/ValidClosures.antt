-- Which closures are valid, stated for the contracts of the module of laws: those of valid relations, where the closing pattern is well formed and each
-- rule leaves the name of a context free. It does where it binds few names; and in a context it binds one more, so closures of closures are valid too.
use Rattle.std.specs.Prelude.{◌<◌, ◌≤◌, ◌^◌, ℕ, suc, IsTrue, List, Some, length}
use Rattle.rdx_lang.specs.Closures.{rule_names, context_closure, compatible_closure}
use Rattle.rdx_lang.specs.Members.{In}
use Rattle.rdx_lang.specs.Modes.{Callable}
use Rattle.rdx_lang.specs.Patterns.{Pattern, Language}
use Rattle.rdx_lang.specs.Programs.{Relation, Rule}
use Rattle.rdx_lang.specs.References.{is_among}
use Rattle.rdx_lang.specs.Valid.{is_valid_over}
use Rattle.rdx_lang.specs.WellFormed.{defined, is_well_formed_in}
use Rattle.rdx_lang.specs.declared.pattern.Ref.TheVariants.{Cross}
use Rattle.rdx_reduce.specs.ClosureLaws.{LeaveNames}

-- ---- closures of valid relations

-- where a relation is valid over a language, and its rules leave the names of contexts free, its closure by a pattern that is well formed there is valid
-- over it, beside what the relation may call
abbrev pub ClosureIsValid : Type 0
ClosureIsValid =
    (F : Callable) (L : Language) (q : Pattern) (x : List ℕ) (R : Relation) → IsTrue (is_well_formed_in L q) → LeaveNames R.rules
    → IsTrue (is_valid_over F (Some L) R) → IsTrue (is_valid_over F (Some L) (context_closure q x R))

-- and so is its closure by the contexts of an e in an e, where the language has these
abbrev pub CompatibleIsValid : Type 0
CompatibleIsValid =
    (F : Callable) (L : Language) (e x : List ℕ) (R : Relation) → IsTrue (is_among (Cross e e) (defined L)) → LeaveNames R.rules
    → IsTrue (is_valid_over F (Some L) R) → IsTrue (is_valid_over F (Some L) (compatible_closure e x R))

-- ---- names that stay free

-- the names that the rule binds are at most n texts, however often it binds each
pub record BindsFew (n : ℕ) (r : Rule) : Type 0 where
  pub texts : List (List ℕ)
  pub few : length texts ≤ n
  pub among : (y : List ℕ) → In y (rule_names r) → In y texts

-- those of each of these rules are
abbrev pub BindFew : ℕ → List Rule → Type 0
BindFew n rs = (r : Rule) → In r rs → BindsFew n r

-- rules that bind fewer than 10 ^ 64 names leave those of contexts free: a decimal has 64 digits at most, so that names without end could be all the
-- variants of `context`
abbrev pub FewLeaveNames : Type 0
FewLeaveNames = (n : ℕ) (rs : List Rule) → n < 10 ^ 64 → BindFew n rs → LeaveNames rs

-- the rules of a closure bind one name more, that of the context
abbrev pub ClosureBindsOneMore : Type 0
ClosureBindsOneMore = (n : ℕ) (q : Pattern) (x : List ℕ) (R : Relation) → BindFew n R.rules → BindFew (suc n) (context_closure q x R).rules
