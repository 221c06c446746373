-- Forms of patterns that fit by themselves, and forms that split no term. No public contract cites it.
use Rattle.rdx_lang.specs.Patterns.{Pattern, wild, of_kind, except, prefix, hole, lit, nt, named, differ, in_hole, hide_hole, closed, seq}

-- the pattern fits by itself
abbrev pub IsAtom : Pattern → Type 0
IsAtom wild = Unit {0}
IsAtom (of_kind k) = Unit {0}
IsAtom (except rs) = Unit {0}
IsAtom (prefix r) = Unit {0}
IsAtom hole = Unit {0}
IsAtom (lit u) = Unit {0}
IsAtom (nt x) = ⊥
IsAtom (named x q) = ⊥
IsAtom (differ x q) = ⊥
IsAtom (in_hole q r) = ⊥
IsAtom (hide_hole q) = ⊥
IsAtom (closed q) = ⊥
IsAtom (seq ps) = ⊥

-- the pattern splits no term
abbrev pub IsWhole : Pattern → Type 0
IsWhole wild = Unit {0}
IsWhole (of_kind k) = Unit {0}
IsWhole (except rs) = Unit {0}
IsWhole (prefix r) = Unit {0}
IsWhole hole = ⊥
IsWhole (lit u) = Unit {0}
IsWhole (nt x) = ⊥
IsWhole (named x q) = ⊥
IsWhole (differ x q) = ⊥
IsWhole (in_hole q r) = ⊥
IsWhole (hide_hole q) = Unit {0}
IsWhole (closed q) = ⊥
IsWhole (seq ps) = ⊥
