-- Each element of a pool has one node.
use Rattle.std.proofs.Common.{◌≡◌, ◌⊎◌, inl, inr, pos, true, false, List, [], ◌∷◌, ◌++◌, refl, ◌∙◌, ap}
use Rattle.rdx_term.specs.Tree.{Tree, integer, truth, text, symbol, list, Trees, cons, tree_nodes}
use Rattle.rdx_term.specs.Tree.{hole as the_hole, nil as no_trees}
use Rattle.rdx_lang.specs.Members.{In, here, there}
use Rattle.rdx_lang.specs.Patterns.{Pattern, wild, of_kind, except, prefix, hole, lit, nt, named, differ, in_hole, hide_hole, closed, seq, Items, nil, one, many, Definition, Language}
use Rattle.rdx_lang.proofs.Collecting.{no_member}
use Rattle.rdx_lang.proofs.MemberLaws.{in-append}
use Rattle.rdx_enum.specs.Pool.{tree_atoms, trees_atoms, literals, items_literals, patterns_literals, definitions_literals, common_atoms, pool}
use Rattle.rdx_enum.specs.Inside.Rows.{HaveNodes}

ones_nil : HaveNodes 1 []
ones_nil t h = no_member h

ones_cons : (t : Tree) (ts : List Tree) → tree_nodes t ≡ 1 → HaveNodes 1 ts → HaveNodes 1 (t ∷ ts)
ones_cons t ts e f u (here d) = ap tree_nodes d ∙ e
ones_cons t ts e f u (there h) = f u h

ones_both : (ts us : List Tree) → HaveNodes 1 ts → HaveNodes 1 us → HaveNodes 1 (ts ++ us)
ones_both ts us e f u h = go (in-append ts us u h)
  where
    go : In u ts ⊎ In u us → tree_nodes u ≡ 1
    go (inl k) = e u k
    go (inr k) = f u k

mutual
  tree_atoms-ones : (t : Tree) → HaveNodes 1 (tree_atoms t)
  tree_atoms-ones the_hole = ones_cons the_hole [] refl ones_nil
  tree_atoms-ones (integer n) = ones_cons (integer n) [] refl ones_nil
  tree_atoms-ones (truth b) = ones_cons (truth b) [] refl ones_nil
  tree_atoms-ones (text s) = ones_cons (text s) [] refl ones_nil
  tree_atoms-ones (symbol s) = ones_cons (symbol s) [] refl ones_nil
  tree_atoms-ones (list m ts) = trees_atoms-ones ts

  trees_atoms-ones : (ts : Trees) → HaveNodes 1 (trees_atoms ts)
  trees_atoms-ones no_trees = ones_nil
  trees_atoms-ones (cons t ts) = ones_both (tree_atoms t) (trees_atoms ts) (tree_atoms-ones t) (trees_atoms-ones ts)

mutual
  literals-ones : (p : Pattern) → HaveNodes 1 (literals p)
  literals-ones wild = ones_nil
  literals-ones (of_kind k) = ones_nil
  literals-ones (except rs) = ones_nil
  literals-ones (prefix r) = ones_nil
  literals-ones hole = ones_nil
  literals-ones (lit u) = tree_atoms-ones u
  literals-ones (nt x) = ones_nil
  literals-ones (named x q) = literals-ones q
  literals-ones (differ x q) = literals-ones q
  literals-ones (in_hole q r) = ones_both (literals q) (literals r) (literals-ones q) (literals-ones r)
  literals-ones (hide_hole q) = literals-ones q
  literals-ones (closed q) = literals-ones q
  literals-ones (seq ps) = items_literals-ones ps

  items_literals-ones : (ps : Items) → HaveNodes 1 (items_literals ps)
  items_literals-ones nil = ones_nil
  items_literals-ones (one p ps) = ones_both (literals p) (items_literals ps) (literals-ones p) (items_literals-ones ps)
  items_literals-ones (many p n ps) = ones_both (literals p) (items_literals ps) (literals-ones p) (items_literals-ones ps)

patterns_literals-ones : (ps : List Pattern) → HaveNodes 1 (patterns_literals ps)
patterns_literals-ones [] = ones_nil
patterns_literals-ones (p ∷ ps) = ones_both (literals p) (patterns_literals ps) (literals-ones p) (patterns_literals-ones ps)

definitions_literals-ones : (ds : List Definition) → HaveNodes 1 (definitions_literals ds)
definitions_literals-ones [] = ones_nil
definitions_literals-ones (d ∷ ds) = ones_both (patterns_literals d.1) (definitions_literals ds) (patterns_literals-ones d.1) (definitions_literals-ones ds)

common_atoms-ones : HaveNodes 1 common_atoms
common_atoms-ones =
    ones_cons the_hole _ refl (ones_cons (integer (pos 0)) _ refl (ones_cons (integer (pos 1)) _ refl (ones_cons (truth false) _ refl (ones_cons (truth true) _ refl
    (ones_cons (text []) _ refl (ones_cons (symbol (97 ∷ [])) _ refl (ones_cons (symbol (98 ∷ [])) _ refl ones_nil)))))))

pub pool-ones : (L : Language) → HaveNodes 1 (pool L)
pool-ones L = ones_both common_atoms (definitions_literals L.nonterminals) common_atoms-ones (definitions_literals-ones L.nonterminals)
