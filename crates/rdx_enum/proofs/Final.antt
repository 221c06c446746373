-- What is left of what was grown, and put in order, are the terms that are asked for.
use Rattle.std.proofs.Common.{◌≡◌, ℕ, ◌≤◌, List, sym, subst, arith}
use Rattle.std.specs.Prelude.{◌↔◌}
use Rattle.rdx_term.specs.Order.{tree_cmp}
use Rattle.rdx_term.specs.Tree.{Tree, tree_depth, tree_nodes}
use Rattle.rdx_lang.specs.Listing.{IsListing}
use Rattle.rdx_lang.specs.Members.{In}
use Rattle.rdx_lang.specs.Patterns.{nt, Language}
use Rattle.rdx_lang.specs.declared.pattern.Ref.{Ref}
use Rattle.rdx_lang.proofs.Collecting.{listing_of}
use Rattle.rdx_enum.specs.Pool.{IsOver}
use Rattle.rdx_enum.specs.Pool.{pool as pool_of}
use Rattle.rdx_enum.specs.UpTo.{MatchesSome, IsUpTo, TermsUpTo}
use Rattle.rdx_enum.proofs.Sizes.{depth_within}

module _ (L : Language) (x : Ref) (k : ℕ) (P known found listed : List Tree) (small : k ≤ 40) (e : P ≡ pool_of L)
    (all : (t : Tree) → IsOver P t → tree_nodes t ≤ k → MatchesSome L (nt x) t → In t known) (only : (t : Tree) → In t known → (tree_nodes t ≤ k) × MatchesSome L (nt x) t)
    (exact : (t : Tree) → (In t found ↔ (In t known × IsOver P t))) where
  sound : (t : Tree) → In t found → IsUpTo L x k t
  sound t h =
      let b = (exact t).0 h in
      let o = only t b.0 in
      let n : tree_nodes t ≤ k = o.0 in
      let d : tree_depth t ≤ tree_nodes t = depth_within t in
      record { over = subst (λ (Q : List Tree). IsOver Q t) e b.1; small = n; shallow = omega arith; matched = o.1 }

  complete : (t : Tree) → IsUpTo L x k t → In t found
  complete t u = let o : IsOver P t = subst (λ (Q : List Tree). IsOver Q t) (sym e) u.over in (exact t).1 (all t o u.small u.matched, o)

  pub all_listed : IsListing tree_cmp listed (λ t. In t found) → TermsUpTo L x k listed
  all_listed l = listing_of sound complete l
