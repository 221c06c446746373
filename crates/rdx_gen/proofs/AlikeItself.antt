-- A pattern is alike itself.
use Rattle.std.proofs.Common.{◌≡◌, ℕ, true, ◌&&◌, List, [], ◌∷◌, Option, Some, None, refl, ap}
use Rattle.std.specs.Cmp.Lexicographic.{bytes_decides}
use Rattle.std.specs.Ordering.{is_eq}
use Rattle.std.specs.Prelude.{bytes_eq, nat_eq}
use Rattle.rdx_lang.proofs.LookupLaws.{equal-is_same, both_so}
use Rattle.rdx_lang.specs.Patterns.{Pattern, wild, of_kind, except, prefix, hole, lit, nt, named, differ, in_hole, hide_hole, closed, seq, Items, nil, one, many}
use Rattle.rdx_lang.specs.declared.pattern.Kind.{Kind}
use Rattle.rdx_lang.specs.declared.pattern.Kind.TheVariants.{Any, Number, Natural, Integer, Real, Text, Boolean, Variable, Unmentioned}
use Rattle.rdx_term.proofs.OrderLaws.{tree_cmp-itself}
use Rattle.rdx_gen.specs.Alike.{kind_number, same_names, same_length, is_alike, are_alike}

same_bytes : (r : List ℕ) → bytes_eq r r ≡ true
same_bytes r = (bytes_decides r r).1 refl

same_kind : (k : Kind) → nat_eq (kind_number k) (kind_number k) ≡ true
same_kind Any = refl
same_kind Number = refl
same_kind Natural = refl
same_kind Integer = refl
same_kind Real = refl
same_kind Text = refl
same_kind Boolean = refl
same_kind Variable = refl
same_kind Unmentioned = refl

names-itself : (rs : List (List ℕ)) → same_names rs rs ≡ true
names-itself [] = refl
names-itself (r ∷ rs) = both_so (bytes_eq r r) (same_names rs rs) (same_bytes r) (names-itself rs)

length-itself : (x : Option (List ℕ)) → same_length x x ≡ true
length-itself None = refl
length-itself (Some x) = same_bytes x

mutual
  pub alike-itself : (p : Pattern) → is_alike p p ≡ true
  alike-itself wild = refl
  alike-itself (of_kind k) = same_kind k
  alike-itself (except rs) = names-itself rs
  alike-itself (prefix r) = same_bytes r
  alike-itself hole = refl
  alike-itself (lit t) = ap is_eq (tree_cmp-itself t t refl)
  alike-itself (nt x) = equal-is_same x x refl
  alike-itself (named x p) = both_so (bytes_eq x x) (is_alike p p) (same_bytes x) (alike-itself p)
  alike-itself (differ x p) = both_so (bytes_eq x x) (is_alike p p) (same_bytes x) (alike-itself p)
  alike-itself (in_hole p q) = both_so (is_alike p p) (is_alike q q) (alike-itself p) (alike-itself q)
  alike-itself (hide_hole p) = alike-itself p
  alike-itself (closed p) = alike-itself p
  alike-itself (seq ps) = all-alike-itself ps

  all-alike-itself : (ps : Items) → are_alike ps ps ≡ true
  all-alike-itself nil = refl
  all-alike-itself (one p ps) = both_so (is_alike p p) (are_alike ps ps) (alike-itself p) (all-alike-itself ps)
  all-alike-itself (many p x ps) =
      both_so (is_alike p p) (same_length x x && are_alike ps ps) (alike-itself p) (both_so (same_length x x) (are_alike ps ps) (length-itself x) (all-alike-itself ps))
