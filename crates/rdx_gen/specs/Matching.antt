-- That what is generated of a pattern matches it.
use Rattle.std.specs.Prelude.{◌≡◌, ◌<◌, ◌^◌, ℕ, length, None, IsTrue}
use Rattle.std.specs.Str.{IsUtf8}
use Rattle.rand_pcg.specs.Lcg.{Lcg}
use Rattle.rdx_lang.specs.Bindings.{Binding}
use Rattle.rdx_lang.specs.Patterns.{Pattern, wild, of_kind, except, prefix, hole, lit, nt, named, differ, in_hole, hide_hole, closed, seq, Items, nil, one, many, Language}
use Rattle.rdx_lang.specs.Rules.{Match, Split, IsAlternative}
use Rattle.rdx_lang.specs.WellFormed.{is_well_formed_in}
use Rattle.rdx_lang.specs.declared.pattern.Ref.{Ref}
use Rattle.rdx_term.specs.Context.{is_context}
use Rattle.rdx_term.specs.Fill.{fill_of}
use Rattle.rdx_term.specs.Spelling.{is_name}
use Rattle.rdx_term.specs.Tree.{Tree}
use Rattle.rdx_gen.specs.Generated.{Generates, generated}
use Rattle.rdx_gen.specs.Generation.{term, context, inner_at, setting_of, no_notes}
use Rattle.rdx_gen.specs.Laws.{Reaches}
use Rattle.rdx_gen.specs.Literals.{language_literals}
use Rattle.rdx_gen.specs.NameRules.{places_of, first_in_alternative}
use Rattle.rdx_gen.specs.Outcomes.{State, made}

abbrev mutual
  -- the prefix of each `variable-prefix` in the pattern is a name, as in all patterns of the code, and each `variable-except` has fewer symbols
  -- than a machine counts
  pub HasSymbols : Pattern → Type 0
  HasSymbols wild = Unit {0}
  HasSymbols (of_kind k) = Unit {0}
  HasSymbols (except rs) = length rs < 2 ^ 64
  HasSymbols (prefix r) = IsUtf8 r × IsTrue (is_name r)
  HasSymbols hole = Unit {0}
  HasSymbols (lit u) = Unit {0}
  HasSymbols (nt x) = Unit {0}
  HasSymbols (named x q) = HasSymbols q
  HasSymbols (differ x q) = HasSymbols q
  HasSymbols (in_hole q r) = HasSymbols q × HasSymbols r
  HasSymbols (hide_hole q) = HasSymbols q
  HasSymbols (closed q) = HasSymbols q
  HasSymbols (seq ps) = HaveSymbols ps

  -- so it is in the items
  pub HaveSymbols : Items → Type 0
  HaveSymbols nil = Unit {0}
  HaveSymbols (one p ps) = HasSymbols p × HaveSymbols ps
  HaveSymbols (many p x ps) = HasSymbols p × HaveSymbols ps

-- so it is in all alternatives of the language, and it has fewer literals than a machine counts
pub record IsCounted (L : Language) : Type 0 where
  pub alternatives : (x : Ref) (p : Pattern) → IsAlternative L x p → HasSymbols p
  pub literals : length (language_literals L) < 2 ^ 64

-- p matches t with some binding
pub record HasMatch (L : Language) (p : Pattern) (t : Tree) : Type 0 where
  pub binding : Binding
  pub match : Match L p t binding

-- C is a context, and with some binding p splits whatever it is filled with into C and this
pub record IsContextOf (L : Language) (p : Pattern) (C : Tree) : Type 0 where
  pub context : IsTrue (is_context C)
  pub binding : Binding
  pub splits : (u : Tree) → Split L p (fill_of C u) C u binding

-- no name stands twice in the pattern, nor in an alternative of a nonterminal that it reaches, and no mismatch name stands in one of them
pub record HasNamesOnce (L : Language) (p : Pattern) : Type 0 where
  pub pattern : first_in_alternative (places_of p) (places_of p) ≡ None
  pub alternatives : (x : Ref) (q : Pattern) → Reaches L p x → IsAlternative L x q → first_in_alternative (places_of q) (places_of q) ≡ None

-- What is made of such a pattern matches it.
abbrev pub TermsMatch : Type 0
TermsMatch = (L : Language) (n size : ℕ) (p : Pattern) (s z : State) (t : Tree) → IsCounted L → HasSymbols p → HasNamesOnce L p
    → term (setting_of L) (inner_at L (setting_of L) n) no_notes size p s ≡ made t z → HasMatch L p t

-- A context that is made of it is a context, and the pattern splits whatever it is filled with so.
abbrev pub ContextsSplit : Type 0
ContextsSplit = (L : Language) (n size : ℕ) (p : Pattern) (s z : State) (C : Tree) → IsCounted L → HasSymbols p → HasNamesOnce L p
    → context (setting_of L) (inner_at L (setting_of L) n) no_notes size p s ≡ made C z → IsContextOf L p C

-- What is generated of a well-formed pattern, whatever its names, matches it.
abbrev pub GeneratedMatches : Type 0
GeneratedMatches = (L : Language) (p : Pattern) (size : ℕ) (w v : Lcg) (t : Tree) → IsCounted L → HasSymbols p → IsTrue (is_well_formed_in L p)
    → Generates L p size w (generated t) v → HasMatch L p t
