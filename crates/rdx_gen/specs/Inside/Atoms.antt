-- Patterns of which a term is generated without others.
use Rattle.std.specs.Prelude.{Bool, true, false}
use Rattle.rdx_lang.specs.Patterns.{Pattern, wild, of_kind, except, prefix, hole, lit, nt, named, differ, in_hole, hide_hole, closed, seq}

-- it is one
abbrev pub is_atom : Pattern → Bool
is_atom wild = true
is_atom (of_kind k) = true
is_atom (except rs) = true
is_atom (prefix r) = true
is_atom hole = true
is_atom (lit u) = true
is_atom (nt x) = false
is_atom (named x q) = false
is_atom (differ x q) = false
is_atom (in_hole q r) = false
is_atom (hide_hole q) = false
is_atom (closed q) = false
is_atom (seq ps) = false
