use Rattle.std.proofs.Common.{◌≡◌, ◌+◌, List, ◌∷◌, Bool, false, IsTrue, true≢false, refl, sym, ◌∙◌, subst, drop, map, arith}
use Rattle.rdx_term.specs.Tree.{Tree}
use Rattle.rdx_lang.specs.Members.{In, here, there}
use Rattle.rdx_term.specs.View.{tree_of}
use Rattle.rdx_lang.proofs.Collecting.{In_along, no_member}
use Rattle.rdx_lang.proofs.MemberLaws.{map-in}
use Rattle.rdx_lang.proofs.Rest.{rest_at, rest_none}
use Rattle.rdx_enum.proofs.Filters.{member_at}
use Rattle.rdx_enum.proofs.over.is_one_of.Goals as goal

-- a member that is not the first is one of the others
behind_first : (t a : Tree) (more : List Tree) (same : Bool) → same ≡ false → (t ≡ a → IsTrue same) → In t (a ∷ more) → In t more
behind_first t a more same e f (here s) = absurd (true≢false (sym (f s) ∙ e))
behind_first t a more same e f (there h) = h

pub loop-atom-preserved : goal.loop-atom-preserved
loop-atom-preserved c = λ h.
    let xs = c.args.pool.now in
    let e : map tree_of (drop c.loop-atom.atom-index xs) ≡ tree_of c.atom-item.result ∷ map tree_of (drop (c.loop-atom.atom-index + 1) xs) =
    rest_at tree_of xs c.loop-atom.atom-index c.atom-item.result c.loop-atom-test.true c.atom-item.is in
    behind_first (tree_of c.args.t.now) (tree_of c.atom-item.result) _ c.same.result c.if-same.false c.same.ensures.1 (In_along _ _ e (c.loop-atom.invariant h))

pub returns-then-same : goal.returns-then-same
returns-then-same c =
    let xs = c.args.pool.now in
    (λ h. subst (λ u. In u (map tree_of xs)) (sym (c.same.ensures.0 c.if-same.true)) (map-in tree_of xs c.atom-item.result (member_at xs c.loop-atom.atom-index c.atom-item.result c.loop-atom-test.true c.atom-item.is)), λ h. refl)

pub returns : goal.returns
returns c = (λ h. absurd (true≢false (sym h)), λ h. no_member (In_along _ _ (rest_none tree_of c.args.pool.now c.loop-atom.atom-index (omega arith)) (c.loop-atom.invariant h)))
