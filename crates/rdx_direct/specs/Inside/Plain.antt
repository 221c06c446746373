-- Patterns that bind nothing, as their form tells: neither a name nor a mismatch name stands in them, but in closed patterns, as what is bound
-- there, and in nonterminals, is not seen outside.
use Rattle.std.specs.Prelude.{Bool, true, false, not, ◌&&◌, is_some}
use Rattle.rdx_lang.specs.Patterns.{Pattern, wild, of_kind, except, prefix, hole, lit, nt, named, differ, in_hole, hide_hole, closed, seq, Items, nil, one, many}

abbrev mutual
  -- the pattern binds nothing
  pub is_plain : Pattern → Bool
  is_plain wild = true
  is_plain (of_kind k) = true
  is_plain (except rs) = true
  is_plain (prefix r) = true
  is_plain hole = true
  is_plain (lit u) = true
  is_plain (nt x) = true
  is_plain (named x q) = false
  is_plain (differ x q) = false
  is_plain (in_hole q r) = is_plain q && is_plain r
  is_plain (hide_hole q) = is_plain q
  is_plain (closed q) = true
  is_plain (seq ps) = are_plain ps

  -- the items bind nothing
  pub are_plain : Items → Bool
  are_plain nil = true
  are_plain (one p ps) = is_plain p && are_plain ps
  are_plain (many p n ps) = (not (is_some n) && is_plain p) && are_plain ps
