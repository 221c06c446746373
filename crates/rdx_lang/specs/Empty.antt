-- Patterns that split terms with nothing of the term in the context (after Klein, McCarthy, Jaconette and Findler, APLAS 2011).
use Rattle.std.specs.Prelude.{◌↔◌, Bool, true, false, ◌&&◌, IsTrue}
use Rattle.rdx_lang.specs.Patterns.{Pattern, wild, of_kind, except, prefix, hole, lit, nt, named, differ, in_hole, hide_hole, closed, seq, Language}
use Rattle.rdx_lang.specs.Rules.{IsAlternative}
use Rattle.rdx_lang.specs.declared.pattern.Ref.{Ref}

-- The pattern is Empty: the least property with these rules. What splits some term with the hole itself as context is Empty; and what is
-- Empty splits each term so, where no mismatch names are met.
pub data IsEmpty (L : Language) : Pattern → Type 0 where
  empty_hole : IsEmpty L hole
  empty_nt : {x : Ref} {p : Pattern} → IsAlternative L x p → IsEmpty L p → IsEmpty L (nt x)
  empty_named : {x : _} {q : Pattern} → IsEmpty L q → IsEmpty L (named x q)
  empty_differ : {x : _} {q : Pattern} → IsEmpty L q → IsEmpty L (differ x q)
  empty_closed : {q : Pattern} → IsEmpty L q → IsEmpty L (closed q)
  empty_in_hole : {q r : Pattern} → IsEmpty L q → IsEmpty L r → IsEmpty L (in_hole q r)

-- the same as a test, where E tells it of nonterminals
abbrev pub is_empty : (Ref → Bool) → Pattern → Bool
is_empty E wild = false
is_empty E (of_kind k) = false
is_empty E (except rs) = false
is_empty E (prefix r) = false
is_empty E hole = true
is_empty E (lit u) = false
is_empty E (nt x) = E x
is_empty E (named x q) = is_empty E q
is_empty E (differ x q) = is_empty E q
is_empty E (in_hole q r) = is_empty E q && is_empty E r
is_empty E (hide_hole q) = false
is_empty E (closed q) = is_empty E q
is_empty E (seq ps) = false

-- E tells which nonterminals of the language are Empty
abbrev pub TellsEmpty : Language → (Ref → Bool) → Type 0
TellsEmpty L E = (x : Ref) → (IsTrue (E x) ↔ IsEmpty L (nt x))
