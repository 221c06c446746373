-- The test whether two trees are equal with their marks forgotten. No public contract cites it: they speak of `bare`.
use Rattle.std.specs.Prelude.{Bool, true, false, ◌&&◌, nat_eq}
use Rattle.std.specs.Ordering.{int_eq}
use Rattle.std.specs.Bool.{beq}
use Rattle.std.specs.Cmp.Lexicographic.{pointwise}
use Rattle.rdx_term.specs.Tree.{Tree, hole, integer, truth, text, symbol, list, Trees, nil, cons}

-- the two are of one kind and hold the same, whatever their marks
abbrev mutual
  pub is_alike : Tree → Tree → Bool
  is_alike hole hole = true
  is_alike (integer n) (integer k) = int_eq n k
  is_alike (truth b) (truth c) = beq b c
  is_alike (text s) (text r) = pointwise nat_eq s r
  is_alike (symbol s) (symbol r) = pointwise nat_eq s r
  is_alike (list m ts) (list n us) = are_alike ts us
  is_alike t u = false

  -- the two have equally many items, each like the other's at its place
  pub are_alike : Trees → Trees → Bool
  are_alike nil nil = true
  are_alike nil (cons u us) = false
  are_alike (cons t ts) nil = false
  are_alike (cons t ts) (cons u us) = is_alike t u && are_alike ts us
