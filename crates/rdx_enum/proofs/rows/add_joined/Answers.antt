use Rattle.std.proofs.Common.{◌≡◌, ◌++◌, inl, inr, List, [], ◌∷◌, Option, Some, None, sym, arith}
use Rattle.std.proofs.lemmas.Grind.{common_steps}
use Rattle.rdx_term.specs.Tree.{Tree}
use Rattle.rdx_term.specs.View.{tree_of}
use Rattle.rdx_lang.specs.Collecting.{Adds}
use Rattle.rdx_lang.proofs.Collecting.{adds_one}
use Rattle.rdx_enum.specs.Inside.Rows.{row_of}
use Rattle.rdx_enum.specs.Inside.Ways.{joined, found_tree}
use Rattle.rdx_enum.proofs.rows.add_joined.Goals as goal

-- of one tree only one comes
same_tree : (o : Option Tree) (x y : Tree) → o ≡ Some x → o ≡ Some y → y ≡ x
same_tree o x y e f = cc

-- where nothing comes, nothing is added
adds_nothing : (o : Option Tree) (old : List Tree) → o ≡ None → Adds (λ (x : Tree). o ≡ Some x) old old
adds_nothing o old e x = (λ h. inl h, elim [ inl h ↦ h | inr r ↦ absurd (cc) ])

pub returns-in_ok-push : goal.returns-in_ok-push
returns-in_ok-push c =
    let e : row_of c.push.new.self ≡ row_of c.args.out.now ++ tree_of c.in-Some.made ∷ [] = grind (arith, common_steps) in
    let j : found_tree (Some c.in-Some.made) ≡ joined c.args.way (tree_of c.args.t.now) (tree_of c.args.u.now) = rw c.in-Some.is at c.in_ok-made.ensures in
    adds_one (λ x. joined c.args.way (tree_of c.args.t.now) (tree_of c.args.u.now) ≡ Some x) _ _ (tree_of c.in-Some.made) e (sym j)
    (λ y k. same_tree _ (tree_of c.in-Some.made) y (sym j) k)
