use Rattle.std.proofs.Common.{◌≡◌, ◌++◌, ℕ, ◌+◌, List, [], ◌∷◌, Vec, drop, refl, sym, ◌∙◌, arith}
use Rattle.std.specs.declared.alloc.Global.{Global}
use Rattle.std.proofs.lemmas.Grind.{common_steps}
use Rattle.rdx_term.specs.Tree.{Tree}
use Rattle.rdx_term.specs.View.{tree_of}
use Rattle.rdx_lang.proofs.Collecting.{In_along, adds_one, collects-next, collects-end}
use Rattle.rdx_lang.proofs.Rest.{rest_at, rest_none}
use Rattle.rdx_lang.specs.Collecting.{Adds, Arises}
use Rattle.rdx_lang.specs.Decompositions.{Decomposition}
use Rattle.rdx_lang.specs.Members.{In, here}
use Rattle.rdx_lang.specs.Shown.{decomposition_of, decompositions_of}
use Rattle.rdx_bind.proofs.Gathering.{exactly_added}
use Rattle.rdx_direct.specs.Inside.Paths.{paths_in}
use Rattle.rdx_direct.specs.Inside.Splits.{IsPlainSplit, plain_split}
use Rattle.rdx_direct.proofs.splitting.plain_splits.Goals as goal

pub plain_split-requires : goal.plain_split-requires
plain_split-requires c =
    let xs = c.args.paths.now in
    let i : ℕ = c.loop-path.path-index in
    let w : List ℕ = c.path-item.result.items in
    let e : paths_in (drop i xs) ≡ w ∷ paths_in (drop (i + 1) xs) =
    rest_at (λ (p : Vec ℕ Global). p.items) xs i c.path-item.result c.loop-path-test.true c.path-item.is in
    let a : In w (paths_in xs) = c.loop-path.invariant.part w (In_along (w ∷ paths_in (drop (i + 1) xs)) (paths_in (drop i xs)) (sym e) (here refl)) in
    rw c.deref.ensures.value (c.requires w a)

pub loop-path-preserved : goal.loop-path-preserved
loop-path-preserved c =
    let nothing : List Decomposition = [] in
    let t : Tree = tree_of c.args.t.now in
    let xs = c.args.paths.now in
    let i : ℕ = c.loop-path.path-index in
    let w : List ℕ = c.path-item.result.items in
    let d : Decomposition = decomposition_of c.in_ok-split.split in
    let old : List Decomposition = decompositions_of c.loop-path.found.items in
    let new : List Decomposition = decompositions_of c.push.new.self.items in
    let e : paths_in (drop i xs) ≡ w ∷ paths_in (drop (i + 1) xs) =
    rest_at (λ (p : Vec ℕ Global). p.items) xs i c.path-item.result c.loop-path-test.true c.path-item.is in
    let f : new ≡ old ++ d ∷ [] = grind (arith, common_steps) in
    let g : d ≡ plain_split t w = rw c.deref.ensures.value at c.in_ok-split.ensures in
    let a : Adds (IsPlainSplit t w) old new = adds_one (IsPlainSplit t w) old new d f g (λ y h. h ∙ sym g) in
    collects-next (IsPlainSplit t) (paths_in xs) nothing w _ _ old new e c.loop-path.invariant a

pub returns : goal.returns
returns c =
    let nothing : List Decomposition = [] in
    let t : Tree = tree_of c.args.t.now in
    let xs = c.args.paths.now in
    let i : ℕ = c.loop-path.path-index in
    exactly_added (Arises (IsPlainSplit t) (paths_in xs))
    (collects-end (IsPlainSplit t) (paths_in xs) (paths_in (drop i xs)) nothing _ (rest_none (λ (p : Vec ℕ Global). p.items) xs i (omega arith)) c.loop-path.invariant)
