-- Patterns with mismatch names.
use Rattle.std.specs.Prelude.{Bool, true, false, ◌||◌, IsFalse}
use Rattle.rdx_lang.specs.Edges.{Reaches}
use Rattle.rdx_lang.specs.Patterns.{Pattern, wild, of_kind, except, prefix, hole, lit, nt, named, differ, in_hole, hide_hole, closed, seq, Items, nil, one, many, Language}
use Rattle.rdx_lang.specs.Rules.{IsAlternative}
use Rattle.rdx_lang.specs.declared.pattern.Ref.{Ref}

abbrev mutual
  -- a mismatch name stands in the pattern
  pub has_differ : Pattern → Bool
  has_differ wild = false
  has_differ (of_kind k) = false
  has_differ (except rs) = false
  has_differ (prefix r) = false
  has_differ hole = false
  has_differ (lit u) = false
  has_differ (nt x) = false
  has_differ (named x q) = has_differ q
  has_differ (differ x q) = true
  has_differ (in_hole q r) = has_differ q || has_differ r
  has_differ (hide_hole q) = has_differ q
  has_differ (closed q) = has_differ q
  has_differ (seq ps) = have_differ ps

  -- one stands in the items
  pub have_differ : Items → Bool
  have_differ nil = false
  have_differ (one p ps) = has_differ p || have_differ ps
  have_differ (many p n ps) = has_differ p || have_differ ps

-- no mismatch name stands in the pattern, or in an alternative that left edges lead to from it
pub record HasNoDifferAhead (L : Language) (p : Pattern) : Type 0 where
  pub itself : IsFalse (has_differ p)
  pub reached : (x : Ref) (q : Pattern) → IsAlternative L x q → Reaches L p q → IsFalse (has_differ q)
