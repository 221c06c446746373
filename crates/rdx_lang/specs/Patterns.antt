-- Patterns and languages, as plain data (after the Redex reference manual, "Patterns").
use Rattle.std.specs.Prelude.{ℕ, List, Option}
use Rattle.rdx_term.specs.Tree.{Tree}
use Rattle.rdx_lang.specs.declared.pattern.Kind.{Kind}
use Rattle.rdx_lang.specs.declared.pattern.Ref.{Ref}

mutual
  -- `_`, a built-in name, the symbols but these, the symbols that begin so, the hole, a literal term, a nonterminal, a pattern with a name,
  -- a pattern for contexts with one for what stands in their hole, a pattern whose contexts are hidden, one whose names are, or a list
  pub data Pattern : Type 0 where
    wild : Pattern
    of_kind : Kind → Pattern
    except : List (List ℕ) → Pattern
    prefix : List ℕ → Pattern
    hole : Pattern
    lit : Tree → Pattern
    nt : Ref → Pattern
    named : List ℕ → Pattern → Pattern
    differ : List ℕ → Pattern → Pattern
    in_hole : Pattern → Pattern → Pattern
    hide_hole : Pattern → Pattern
    closed : Pattern → Pattern
    seq : Items → Pattern

  -- the items of a list pattern: one by its pattern, or a repetition of any number of items by its pattern, an ellipsis `...` behind it or,
  -- with a name for their number, `..._a`
  pub data Items : Type 0 where
    nil : Items
    one : Pattern → Items → Items
    many : Pattern → Option (List ℕ) → Items → Items

-- a nonterminal with its alternatives
abbrev pub Definition : Type 0
Definition = Ref × List Pattern

-- a name, and the definitions of nonterminals in their order
pub record Language : Type 0 where
  pub name : List ℕ
  pub nonterminals : List Definition
