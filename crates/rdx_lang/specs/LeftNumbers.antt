-- Numbers of patterns that fall along left edges, from the ranks of a language. A search may count by them.
use Rattle.std.specs.Prelude.{ℕ, suc, ◌+◌, max, Bool, List, [], ◌∷◌, if◌then◌else◌}
use Rattle.rdx_lang.specs.Empty.{is_empty}
use Rattle.rdx_lang.specs.Patterns.{Pattern, wild, of_kind, except, prefix, hole, lit, nt, named, differ, in_hole, hide_hole, closed, seq, Language}
use Rattle.rdx_lang.specs.Ranks.{roots_among}
use Rattle.rdx_lang.specs.declared.pattern.Ref.{Ref}

-- more than all these
abbrev pub above : List ℕ → ℕ
above [] = 0
above (n ∷ ns) = max (suc n) (above ns)

-- a number for each nonterminal, above the ranks of its alternatives' roots
abbrev pub rank_of : Language → List ℕ → Ref → ℕ
rank_of L ns x = above (roots_among L.nonterminals ns x)

-- A number for each pattern, where E tells which nonterminals are Empty and R gives a number for each: that of the nonterminal to which it
-- leads, and one more for each pattern on the way; where two parts of a pattern lead on, the greater one counts.
abbrev pub left_number : (Ref → Bool) → (Ref → ℕ) → Pattern → ℕ
left_number E R wild = 0
left_number E R (of_kind k) = 0
left_number E R (except rs) = 0
left_number E R (prefix r) = 0
left_number E R hole = 0
left_number E R (lit u) = 0
left_number E R (nt x) = R x
left_number E R (named x q) = left_number E R q + 1
left_number E R (differ x q) = left_number E R q + 1
left_number E R (in_hole q r) = max (left_number E R q) (if is_empty E q then left_number E R r else 0) + 1
left_number E R (hide_hole q) = left_number E R q + 1
left_number E R (closed q) = left_number E R q + 1
left_number E R (seq ps) = 0
