-- What is grown for the items of a list is grown for the list, item by item.
use Rattle.std.proofs.Common.{◌≡◌, ℕ, zero, suc, ◌+◌, ◌-◌, ◌≤◌, IsTrue, List, [], Option, Some, None, refl, sym, ap, subst, arith}
use Rattle.rdx_term.specs.Building.{list_of}
use Rattle.rdx_term.specs.Context.{is_context}
use Rattle.rdx_term.specs.Items.{put_at}
use Rattle.rdx_term.specs.Tree.{Tree, list, Trees, cons, tree_nodes, trees_nodes}
use Rattle.rdx_term.specs.Tree.{nil as no_trees}
use Rattle.rdx_term.proofs.AtPaths.{one_le-nodes}
use Rattle.rdx_lang.specs.Bindings.{Binding}
use Rattle.rdx_lang.specs.Members.{In}
use Rattle.rdx_lang.specs.Patterns.{Pattern, Items, nil, one, many, Language}
use Rattle.rdx_lang.specs.Rules.{MatchItems, MatchRun, match_none, match_one, match_many, run_end, run_more, SplitItems, SplitRun, split_here, split_behind, split_many, run_here, run_there, run_behind}
use Rattle.rdx_lang.proofs.Collecting.{In_along, no_member}
use Rattle.rdx_lang.proofs.RuleSteps.{none_splits}
use Rattle.rdx_lang.proofs.SplitLaws.{split-fills}
use Rattle.rdx_enum.specs.Inside.Growing.{IsGrown, AreGrown}
use Rattle.rdx_enum.specs.Inside.Rows.{Rows, row_at, AreSized, AreCombined, AreRepeated}
use Rattle.rdx_enum.specs.Pool.{AreOver}
use Rattle.rdx_enum.specs.declared.way.Way.TheVariants.{Item, Context, Behind}
use Rattle.rdx_enum.proofs.GrownPatterns.{chosen}
use Rattle.rdx_enum.proofs.Sizes.{sized_nil, only_old}

module _ (L : Language) (P : List Tree) where
  -- no items match no terms
  no_items : (ts : Trees) (b : Binding) → MatchItems L nil ts b → ts ≡ no_trees
  no_items _ b match_none = refl

  pub grown_none : (n : ℕ) (ts cs : Rows) → AreSized ts → cs ≡ [] → In (list_of no_trees) (row_at ts 1) → AreGrown L P nil n ts cs
  grown_none n ts cs a e i = record {
    matched = λ us b h o l. subst (λ (vs : Trees). In (list_of vs) (row_at ts (trees_nodes vs + 1))) (sym (no_items us b h)) i;
    split = λ us k D s b h o l. absurd (none_splits h);
    sized_terms = a;
    sized_contexts = sized_nil cs e;
    none = λ C h. no_member (In_along (row_at cs 1) [] (ap (λ (rows : Rows). row_at rows 1) e) h);
  }

  module _ (p : Pattern) (ps : Items) (n : ℕ) (tp cp tr cr ts hs cs : Rows) (g : IsGrown L P p (n - 1) tp cp) (f : AreGrown L P ps n tr cr) where
    -- ---- one item

    module _ (m : AreCombined Item 0 [] tp tr n ts) (x : AreCombined Context 0 [] cp tr n hs) (y : AreCombined Behind 0 hs tp cr n cs) where
      one_matched : (us : Trees) (b : Binding) → MatchItems L (one p ps) us b → AreOver P us → trees_nodes us + 1 ≤ n → In (list_of us) (row_at ts (trees_nodes us + 1))
      one_matched _ b (match_one {t = t} {ts = us} {c = c} {d = d} h k j) o l =
          let o1 : 1 ≤ tree_nodes t = one_le-nodes t in
          m.made (tree_nodes t + trees_nodes us + 1) l (tree_nodes t) (omega arith) (trees_nodes us + 1) t (list_of us) (list_of (cons t us)) (omega arith)
          (g.matched t c h o.0 (omega arith)) (f.matched us d k o.1 (omega arith)) refl

      one_split : (us : Trees) (k : ℕ) (D s : Tree) (b : Binding) → SplitItems L (one p ps) us k D s b → AreOver P us → trees_nodes (put_at us k D) + 1 ≤ n
          → In (list (Some k) (put_at us k D)) (row_at cs (trees_nodes (put_at us k D) + 1))
      one_split _ _ D s b (split_here {t = t} {ts = us} {c = c} {d = d} h k j) o l =
          let o1 : 1 ≤ tree_nodes D = one_le-nodes D in
          let is : IsTrue (is_context D) = (split-fills h).context in
          y.kept (tree_nodes D + trees_nodes us + 1) l (list (Some zero) (cons D us))
          (x.made (tree_nodes D + trees_nodes us + 1) l (tree_nodes D) (omega arith) (trees_nodes us + 1) D (list_of us) (list (Some zero) (cons D us)) (omega arith)
          (g.split t D s c h o.0 (omega arith)) (f.matched us d k o.1 (omega arith)) (chosen (is_context D) (Some (list (Some zero) (cons D us))) None is))
      one_split _ _ D s b (split_behind {t = t} {ts = us} {k = k} {c = c} {d = d} h r j) o l =
          let o1 : 1 ≤ tree_nodes t = one_le-nodes t in
          let vs : Trees = put_at us k D in
          y.made (tree_nodes t + trees_nodes vs + 1) l (tree_nodes t) (omega arith) (trees_nodes vs + 1) t (list (Some k) vs) (list (Some (suc k)) (cons t vs)) (omega arith)
          (g.matched t c h o.0 (omega arith)) (f.split us k D s d r o.1 (omega arith)) refl

      pub grown_one : AreGrown L P (one p ps) n ts cs
      grown_one = record {
        matched = one_matched;
        split = one_split;
        sized_terms = m.sized;
        sized_contexts = y.sized;
        none = λ C h. no_member (only_old Context cp tr g.sized_contexts f.sized_terms 1 [] (row_at hs 1) (omega arith) (x.only 1) C
            (only_old Behind tp cr g.sized_terms f.sized_contexts 1 (row_at hs 1) (row_at cs 1) (omega arith) (y.only 1) C h));
      }

    -- ---- a repetition

    module _ (v : Option (List ℕ)) (m : AreRepeated Item tr tp n ts) (x : AreCombined Context 0 cr cp ts n hs) (y : AreRepeated Behind hs tp n cs) where
      run_matched : (us : Trees) (ds : List Binding) (d : Binding) → MatchRun L p ps us ds d → AreOver P us → trees_nodes us + 1 ≤ n → In (list_of us) (row_at ts (trees_nodes us + 1))
      run_matched us _ d (run_end h) o l = m.kept (trees_nodes us + 1) l (list_of us) (f.matched us d h o l)
      run_matched _ _ d (run_more {t = t} {ts = us} {c = c} {cs = ds} h r) o l =
          let o1 : 1 ≤ tree_nodes t = one_le-nodes t in
          m.made (tree_nodes t + trees_nodes us + 1) l (tree_nodes t) o1 (trees_nodes us + 1) t (list_of us) (list_of (cons t us)) (omega arith)
          (g.matched t c h o.0 (omega arith)) (run_matched us ds d r o.1 (omega arith)) refl

      many_matched : (us : Trees) (b : Binding) → MatchItems L (many p v ps) us b → AreOver P us → trees_nodes us + 1 ≤ n → In (list_of us) (row_at ts (trees_nodes us + 1))
      many_matched us b (match_many {cs = ds} {d = d} h r j) o l = run_matched us ds d h o l

      run_split : (us : Trees) (k : ℕ) (D s : Tree) (ds : List Binding) (d : Binding) → SplitRun L p ps us k D s ds d → AreOver P us → trees_nodes (put_at us k D) + 1 ≤ n
          → In (list (Some k) (put_at us k D)) (row_at cs (trees_nodes (put_at us k D) + 1))
      run_split _ _ D s _ d (run_here {t = t} {ts = us} {c = c} {cs = ds} h r) o l =
          let o1 : 1 ≤ tree_nodes D = one_le-nodes D in
          let is : IsTrue (is_context D) = (split-fills h).context in
          y.kept (tree_nodes D + trees_nodes us + 1) l (list (Some zero) (cons D us))
          (x.made (tree_nodes D + trees_nodes us + 1) l (tree_nodes D) (omega arith) (trees_nodes us + 1) D (list_of us) (list (Some zero) (cons D us)) (omega arith)
          (g.split t D s c h o.0 (omega arith)) (run_matched us ds d r o.1 (omega arith)) (chosen (is_context D) (Some (list (Some zero) (cons D us))) None is))
      run_split _ _ D s _ d (run_there {t = t} {ts = us} {k = k} {c = c} {cs = ds} h r) o l =
          let o1 : 1 ≤ tree_nodes t = one_le-nodes t in
          let vs : Trees = put_at us k D in
          y.made (tree_nodes t + trees_nodes vs + 1) l (tree_nodes t) o1 (trees_nodes vs + 1) t (list (Some k) vs) (list (Some (suc k)) (cons t vs)) (omega arith)
          (g.matched t c h o.0 (omega arith)) (run_split us k D s ds d r o.1 (omega arith)) refl
      run_split us k D s _ d (run_behind h) o l =
          y.kept (trees_nodes (put_at us k D) + 1) l (list (Some k) (put_at us k D))
          (x.kept (trees_nodes (put_at us k D) + 1) l (list (Some k) (put_at us k D)) (f.split us k D s d h o l))

      many_split : (us : Trees) (k : ℕ) (D s : Tree) (b : Binding) → SplitItems L (many p v ps) us k D s b → AreOver P us → trees_nodes (put_at us k D) + 1 ≤ n
          → In (list (Some k) (put_at us k D)) (row_at cs (trees_nodes (put_at us k D) + 1))
      many_split us k D s b (split_many {cs = ds} {d = d} h r j) o l = run_split us k D s ds d h o l

      pub grown_many : AreGrown L P (many p v ps) n ts cs
      grown_many = record {
        matched = many_matched;
        split = many_split;
        sized_terms = m.sized;
        sized_contexts = y.sized;
        none = λ C h. f.none C (only_old Context cp ts g.sized_contexts m.sized 1 (row_at cr 1) (row_at hs 1) (omega arith) (x.only 1) C (y.ones C h));
      }
