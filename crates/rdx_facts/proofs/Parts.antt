-- What stands in the hole of a context into which a pattern splits a term.
use Rattle.std.proofs.Common.{◌≡◌, ℕ, false, List, refl, ◌∙◌, ap, arith}
use Rattle.rdx_term.specs.Tree.{Tree, Trees, tree_holes, trees_holes}
use Rattle.rdx_lang.specs.Bindings.{Binding}
use Rattle.rdx_lang.specs.Facts.{is_list}
use Rattle.rdx_lang.specs.Patterns.{Pattern, Items, Language}
use Rattle.rdx_lang.specs.Rules.{Split, SplitItems, SplitRun, split_hole, split_nt, split_named, split_differ, split_in_hole, split_closed, split_seq, split_here, split_behind, split_many, run_here, run_there, run_behind}

module _ {L : Language} where
  mutual
    -- in a part of a term without a hole there is none
    pub part-solid : {p : Pattern} {t C s : Tree} {b : Binding} → Split L p t C s b → tree_holes t ≡ 0 → tree_holes s ≡ 0
    part-solid split_hole z = z
    part-solid (split_nt a h) z = part-solid h z
    part-solid (split_named h j) z = part-solid h z
    part-solid (split_differ h j) z = part-solid h z
    part-solid (split_in_hole h g e j) z = part-solid g (part-solid h z)
    part-solid (split_closed h) z = part-solid h z
    part-solid (split_seq h e) z = item-solid h z

    -- nor in a part of one of some terms
    item-solid : {ps : Items} {ts : Trees} {k : ℕ} {D s : Tree} {b : Binding} → SplitItems L ps ts k D s b → trees_holes ts ≡ 0 → tree_holes s ≡ 0
    item-solid (split_here {t = t} {ts = ts} h g j) z = let y : tree_holes t ≡ 0 = omega arith in part-solid h y
    item-solid (split_behind {t = t} {ts = ts} h g j) z = let y : trees_holes ts ≡ 0 = omega arith in item-solid g y
    item-solid (split_many h r j) z = turn-solid h z

    turn-solid : {p : Pattern} {ps : Items} {ts : Trees} {k : ℕ} {D s : Tree} {cs : List Binding} {d : Binding} →
        SplitRun L p ps ts k D s cs d → trees_holes ts ≡ 0 → tree_holes s ≡ 0
    turn-solid (run_here {t = t} {ts = ts} h r) z = let y : tree_holes t ≡ 0 = omega arith in part-solid h y
    turn-solid (run_there {t = t} {ts = ts} h r) z = let y : trees_holes ts ≡ 0 = omega arith in turn-solid r y
    turn-solid (run_behind h) z = item-solid h z

  -- a part of what is no list is all of it
  pub part-same : {p : Pattern} {t C s : Tree} {b : Binding} → Split L p t C s b → is_list t ≡ false → s ≡ t
  part-same split_hole f = refl
  part-same (split_nt a h) f = part-same h f
  part-same (split_named h j) f = part-same h f
  part-same (split_differ h j) f = part-same h f
  part-same (split_in_hole h g e j) f =
      let u = part-same h f in part-same g (ap is_list u ∙ f) ∙ u
  part-same (split_closed h) f = part-same h f
  part-same (split_seq h e) f = absurd cc
