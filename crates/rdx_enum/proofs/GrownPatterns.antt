-- What is grown for the parts of a pattern is grown for the pattern.
use Rattle.std.proofs.Common.{◌≡◌, ℕ, ◌+◌, ◌-◌, ◌≤◌, ◌⊎◌, inl, inr, Bool, true, true≢false, IsTrue, List, [], ◌∷◌, Option, Some, None, refl, sym, ◌∙◌, ap, subst, if◌then◌else◌, arith}
use Rattle.rdx_term.specs.AtPaths.{context_at}
use Rattle.rdx_term.specs.Context.{is_context}
use Rattle.rdx_term.specs.Fill.{fill_of}
use Rattle.rdx_term.specs.Path.{path}
use Rattle.rdx_term.specs.Tree.{Tree, list, tree_nodes, trees_nodes}
use Rattle.rdx_term.specs.Tree.{hole as the_hole}
use Rattle.rdx_term.proofs.AtPaths.{tree_nodes-at, one_le-nodes}
use Rattle.rdx_term.proofs.Measures.{tree_nodes-fill_of}
use Rattle.rdx_lang.specs.Bindings.{Binding, no_names}
use Rattle.rdx_lang.specs.Empty.{IsEmpty, empty_hole, empty_named, empty_differ, empty_closed, empty_in_hole}
use Rattle.rdx_lang.specs.Laws.{IsAlongPath, IsSplitOf}
use Rattle.rdx_lang.specs.Members.{In}
use Rattle.rdx_lang.specs.Patterns.{Pattern, wild, of_kind, except, prefix, hole, nt, named, differ, in_hole, hide_hole, closed, seq, Items, Language}
use Rattle.rdx_lang.specs.Rules.{Match, Split, match_kind, match_seq, split_seq}
use Rattle.rdx_lang.specs.declared.pattern.Kind.{Kind}
use Rattle.rdx_lang.specs.declared.pattern.Kind.TheVariants.{Any, Variable}
use Rattle.rdx_lang.specs.declared.pattern.Ref.{Ref}
use Rattle.rdx_lang.proofs.Collecting.{In_along, no_member}
use Rattle.rdx_lang.proofs.Emptiness.{is_empty-exact, empty_is_decided}
use Rattle.rdx_lang.proofs.RuleSteps.{IsSymbol, InHoleParts, InHoleSplit, except_inside, prefix_inside, hole_inside, named_inside, differ_inside, in_hole_inside, hide_hole_inside, closed_inside, wild_splits, except_splits, prefix_splits, hide_hole_splits, hole_splits, named_splits, differ_splits, in_hole_splits, closed_splits}
use Rattle.rdx_lang.proofs.SplitLaws.{split-along, split-fills}
use Rattle.rdx_enum.specs.Inside.Growing.{IsGrown, AreGrown, IsRow}
use Rattle.rdx_enum.specs.Inside.Rows.{Rows, row_at, AreSized, Comes, AreCombined}
use Rattle.rdx_enum.specs.Inside.Sizes.{inner_bound, bound_by}
use Rattle.rdx_enum.specs.Inside.Ways.{joined, relisted}
use Rattle.rdx_enum.specs.Pool.{IsOver}
use Rattle.rdx_enum.specs.declared.way.Way.TheVariants.{Filled, Put}
use Rattle.rdx_enum.proofs.OverParts.{part_is_over}
use Rattle.rdx_enum.proofs.Relisted.{relisted-over}
use Rattle.rdx_enum.proofs.Sizes.{sized_nil}

-- ---- sizes

-- a split divides the nodes of a term
pub split_nodes : (t C s : Tree) → IsAlongPath t C s → tree_nodes t + 1 ≡ tree_nodes C + tree_nodes s
split_nodes t C s a =
    subst (λ (c : Tree). tree_nodes t + 1 ≡ tree_nodes c + tree_nodes s) (sym a.context)
    (subst (λ (u : Tree). tree_nodes t + 1 ≡ tree_nodes (context_at t (path C)) + tree_nodes u) (sym a.part) (tree_nodes-at t (path C) a.inside))

-- what stands in the hole of one of the contexts has the nodes that are left for it
pub inner_fits : (contexts : Rows) (n c s m : ℕ) (C : Tree) → c ≡ tree_nodes C → In C (row_at contexts c) → 1 ≤ c → c + s ≡ m + 1 → m ≤ n → s ≤ inner_bound contexts n
inner_fits contexts n c s m C e h o f l = go (row_at contexts 1) refl
  where
    not_one : row_at contexts 1 ≡ [] → c ≡ 1 → ⊥
    not_one none one = no_member (In_along (row_at contexts c) [] (ap (row_at contexts) one ∙ none) h)

    fits : row_at contexts 1 ≡ [] → s ≤ n - 1
    fits none = let k : c ≡ 1 → ⊥ = not_one none in omega arith

    go : (row : List Tree) → row_at contexts 1 ≡ row → s ≤ bound_by (row_at contexts 1) n
    go [] none = subst (λ (r : List Tree). s ≤ bound_by r n) (sym none) (fits none)
    go (t ∷ ts) some = subst (λ (r : List Tree). s ≤ bound_by r n) (sym some) (omega arith)

-- where the test holds, the first is chosen
pub chosen : (b : Bool) (x y : Option Tree) → b ≡ true → (if b then x else y) ≡ x
chosen b x y e = ap (λ (c : Bool). if c then x else y) e

-- where there are no contexts, there is none of one node
pub no_ones : (p : Pattern) (cs : Rows) (A : Type 0) (C : Tree) → cs ≡ [] → In C (row_at cs 1) → A
no_ones p cs A C e h = no_member (In_along (row_at cs 1) [] (ap (λ (rows : Rows). row_at rows 1) e) h)

module _ (L : Language) (P : List Tree) where
  -- no built-in name is Empty
  kind_not_empty : {k : Kind} → IsEmpty L (of_kind k) → ⊥
  kind_not_empty {k} h = let d = empty_is_decided L in true≢false (sym ((is_empty-exact L d.test d.tells (of_kind k)).1 h))

  -- no term has no nodes
  pub grown_zero : (p : Pattern) (ts cs : Rows) → ts ≡ [] → cs ≡ [] → IsGrown L P p 0 ts cs
  grown_zero p ts cs e f = record {
    matched = λ t b h o l. absurd (let k : 1 ≤ tree_nodes t = one_le-nodes t in omega arith);
    split = λ t C s b h o l. absurd (let k : 1 ≤ tree_nodes C = one_le-nodes C in omega arith);
    sized_terms = sized_nil ts e;
    sized_contexts = sized_nil cs f;
    empty = λ C h. no_ones p cs (IsEmpty L p) C f h;
  }

  -- ---- patterns of one part

  pub grown_named : (x : List ℕ) (q : Pattern) (n : ℕ) (ts cs : Rows) → IsGrown L P q n ts cs → IsGrown L P (named x q) n ts cs
  grown_named x q n ts cs g = record {
    matched = λ t b h o l. let k = named_inside h in g.matched t k.inside k.matched o l;
    split = λ t C s b h o l. let k = named_splits h in g.split t C s k.inside k.split o l;
    sized_terms = g.sized_terms;
    sized_contexts = g.sized_contexts;
    empty = λ C h. empty_named (g.empty C h);
  }

  pub grown_differ : (x : List ℕ) (q : Pattern) (n : ℕ) (ts cs : Rows) → IsGrown L P q n ts cs → IsGrown L P (differ x q) n ts cs
  grown_differ x q n ts cs g = record {
    matched = λ t b h o l. let k = differ_inside h in g.matched t k.inside k.matched o l;
    split = λ t C s b h o l. let k = differ_splits h in g.split t C s k.inside k.split o l;
    sized_terms = g.sized_terms;
    sized_contexts = g.sized_contexts;
    empty = λ C h. empty_differ (g.empty C h);
  }

  pub grown_closed : (q : Pattern) (n : ℕ) (ts cs : Rows) → IsGrown L P q n ts cs → IsGrown L P (closed q) n ts cs
  grown_closed q n ts cs g = record {
    matched = λ t b h o l. let k = closed_inside h in g.matched t k.0.binding k.0.matched o l;
    split = λ t C s b h o l. let k = closed_splits h in g.split t C s k.0.binding k.0.split o l;
    sized_terms = g.sized_terms;
    sized_contexts = g.sized_contexts;
    empty = λ C h. empty_closed (g.empty C h);
  }

  pub grown_hidden : (q : Pattern) (n : ℕ) (ts cs ds : Rows) → ds ≡ [] → IsGrown L P q n ts cs → IsGrown L P (hide_hole q) n ts ds
  grown_hidden q n ts cs ds e g = record {
    matched = λ t b h o l. g.matched t b (hide_hole_inside h) o l;
    split = λ t C s b h o l. absurd (hide_hole_splits h);
    sized_terms = g.sized_terms;
    sized_contexts = sized_nil ds e;
    empty = λ C h. no_ones (hide_hole q) ds (IsEmpty L (hide_hole q)) C e h;
  }

  pub grown_wild : (n : ℕ) (ts cs : Rows) → IsGrown L P (of_kind Any) n ts cs → IsGrown L P wild n ts cs
  grown_wild n ts cs g = record {
    matched = λ t b h o l. g.matched t no_names (match_kind refl) o l;
    split = λ t C s b h o l. absurd (wild_splits h);
    sized_terms = g.sized_terms;
    sized_contexts = g.sized_contexts;
    empty = λ C h. absurd (kind_not_empty (g.empty C h));
  }

  -- a term that is some symbol
  of_symbol : (n : ℕ) (ts cs : Rows) (test : List ℕ → Type 0) (t : Tree) → IsGrown L P (of_kind Variable) n ts cs → IsSymbol test t → IsOver P t → tree_nodes t ≤ n → In t (row_at ts (tree_nodes t))
  of_symbol n ts cs test t g s o l = g.matched t no_names (subst (λ u. Match L (of_kind Variable) u no_names) (sym s.same) (match_kind refl)) o l

  pub grown_except : (rs : List (List ℕ)) (n : ℕ) (ts cs : Rows) → IsGrown L P (of_kind Variable) n ts cs → IsGrown L P (except rs) n ts cs
  grown_except rs n ts cs g = record {
    matched = λ t b h o l. of_symbol n ts cs _ t g (except_inside h).0 o l;
    split = λ t C s b h o l. absurd (except_splits h);
    sized_terms = g.sized_terms;
    sized_contexts = g.sized_contexts;
    empty = λ C h. absurd (kind_not_empty (g.empty C h));
  }

  pub grown_prefix : (r : List ℕ) (n : ℕ) (ts cs : Rows) → IsGrown L P (of_kind Variable) n ts cs → IsGrown L P (prefix r) n ts cs
  grown_prefix r n ts cs g = record {
    matched = λ t b h o l. of_symbol n ts cs _ t g (prefix_inside h).0 o l;
    split = λ t C s b h o l. absurd (prefix_splits h);
    sized_terms = g.sized_terms;
    sized_contexts = g.sized_contexts;
    empty = λ C h. absurd (kind_not_empty (g.empty C h));
  }

  pub grown_hole : (n : ℕ) (ts cs : Rows) → AreSized ts → AreSized cs → In the_hole (row_at ts 1) → In the_hole (row_at cs 1) → IsGrown L P hole n ts cs
  grown_hole n ts cs a d i j = record {
    matched = λ t b h o l. subst (λ u. In u (row_at ts (tree_nodes u))) (sym (hole_inside h).0) i;
    split = λ t C s b h o l. subst (λ u. In u (row_at cs (tree_nodes u))) (sym (hole_splits h).0) j;
    sized_terms = a;
    sized_contexts = d;
    empty = λ C h. empty_hole;
  }

  -- ---- nonterminals

  pub grown_nt : (x : Ref) (n : ℕ) (ts cs : Rows) → ((m : ℕ) → m ≤ n → IsRow L P x m (row_at ts m) (row_at cs m)) → AreSized ts → AreSized cs
      → ((C : Tree) → In C (row_at cs 1) → IsEmpty L (nt x)) → IsGrown L P (nt x) n ts cs
  grown_nt x n ts cs f a d e = record {
    matched = λ t b h o l. (f (tree_nodes t) l).matched t b h o refl;
    split = λ t C s b h o l. (f (tree_nodes C) l).split t C s b h o refl;
    sized_terms = a;
    sized_contexts = d;
    empty = e;
  }

  -- ---- a pattern in the hole of another

  module _ (q r : Pattern) (n : ℕ) (tq cq tr cr ts cs : Rows) (g : IsGrown L P q n tq cq) (f : IsGrown L P r (inner_bound cq n) tr cr)
      (m : AreCombined Filled 1 [] cq tr n ts) (p : AreCombined Put 1 [] cq cr n cs) where
    in_hole_matched : (t : Tree) (b : Binding) → Match L (in_hole q r) t b → IsOver P t → tree_nodes t ≤ n → In t (row_at ts (tree_nodes t))
    in_hole_matched t b h o l =
        let k : InHoleParts L q r t b = in_hole_inside h in
        let C : Tree = k.context in
        let u : Tree = k.part in
        let a : IsAlongPath t C u = split-along k.split in
        let s : IsSplitOf t C u = split-fills k.split in
        let e : tree_nodes t + 1 ≡ tree_nodes C + tree_nodes u = split_nodes t C u a in
        let c1 : 1 ≤ tree_nodes C = one_le-nodes C in
        let u1 : 1 ≤ tree_nodes u = one_le-nodes u in
        let i : In C (row_at cq (tree_nodes C)) = g.split t C u k.outer k.split o (omega arith) in
        let j : In u (row_at tr (tree_nodes u)) = f.matched u k.inner k.matched (part_is_over P t C u a o) (inner_fits cq n (tree_nodes C) (tree_nodes u) (tree_nodes t) C refl i c1 (sym e) l) in
        let made : joined Filled C u ≡ Some t = chosen (is_context C) (Some (relisted (fill_of C u))) None s.context ∙ ap (λ (x : Tree). Some x) (relisted-over P t (fill_of C u) o s.same) in
        m.made (tree_nodes t) l (tree_nodes C) (omega arith) (tree_nodes u) C u t (sym e) i j made

    in_hole_split : (t C s : Tree) (b : Binding) → Split L (in_hole q r) t C s b → IsOver P t → tree_nodes C ≤ n → In C (row_at cs (tree_nodes C))
    in_hole_split t C s b h o l =
        let k : InHoleSplit L q r t C s b = in_hole_splits h in
        let D : Tree = k.first in
        let E : Tree = k.second in
        let u : Tree = k.part in
        let a : IsAlongPath t D u = split-along k.split in
        let x : IsTrue (is_context D) = (split-fills k.split).context in
        let d : tree_nodes (fill_of D E) + 1 ≡ tree_nodes D + tree_nodes E = tree_nodes-fill_of D E x in
        let c : tree_nodes C ≡ tree_nodes (fill_of D E) = ap tree_nodes k.filled in
        let e : tree_nodes D + tree_nodes E ≡ tree_nodes C + 1 = omega arith in
        let d1 : 1 ≤ tree_nodes D = one_le-nodes D in
        let e1 : 1 ≤ tree_nodes E = one_le-nodes E in
        let i : In D (row_at cq (tree_nodes D)) = g.split t D u k.outer k.split o (omega arith) in
        let j : In E (row_at cr (tree_nodes E)) = f.split u E s k.inner k.again (part_is_over P t D u a o) (inner_fits cq n (tree_nodes D) (tree_nodes E) (tree_nodes C) D refl i d1 e l) in
        let made : joined Put D E ≡ Some C = chosen (is_context D) (Some (fill_of D E)) None x ∙ ap (λ (y : Tree). Some y) (sym k.filled) in
        p.made (tree_nodes C) l (tree_nodes D) (omega arith) (tree_nodes E) D E C e i j made

    -- a context of one node comes of two of one node
    in_hole_empty : (C : Tree) → In C (row_at cs 1) → IsEmpty L (in_hole q r)
    in_hole_empty C h = go (p.only 1 C h)
      where
        both : Comes Put cq cr 2 C → IsEmpty L (in_hole q r)
        both k =
            let a : tree_nodes k.first ≡ k.before = g.sized_contexts k.before k.first k.head in
            let b : tree_nodes k.second ≡ k.behind = f.sized_contexts k.behind k.second k.tail in
            let a1 : 1 ≤ tree_nodes k.first = one_le-nodes k.first in
            let b1 : 1 ≤ tree_nodes k.second = one_le-nodes k.second in
            let t : k.before + k.behind ≡ 2 = k.together in
            let e : k.before ≡ 1 = omega arith in
            let d : k.behind ≡ 1 = omega arith in
            empty_in_hole (g.empty k.first (subst (λ (i : ℕ). In k.first (row_at cq i)) e k.head)) (f.empty k.second (subst (λ (i : ℕ). In k.second (row_at cr i)) d k.tail))

        go : In C [] ⊎ Comes Put cq cr 2 C → IsEmpty L (in_hole q r)
        go (inl k) = no_member k
        go (inr k) = both k

    pub grown_in_hole : IsGrown L P (in_hole q r) n ts cs
    grown_in_hole = record { matched = in_hole_matched; split = in_hole_split; sized_terms = m.sized; sized_contexts = p.sized; empty = in_hole_empty }

  -- ---- lists

  module _ (ps : Items) (n : ℕ) (ts cs : Rows) (g : AreGrown L P ps n ts cs) where
    seq_matched : (t : Tree) (b : Binding) → Match L (seq ps) t b → IsOver P t → tree_nodes t ≤ n → In t (row_at ts (tree_nodes t))
    seq_matched _ b (match_seq {m = m} {ts = us} h) o l =
        subst (λ (k : Option ℕ). In (list k us) (row_at ts (trees_nodes us + 1))) (sym o.0) (g.matched us b h o.1 l)

    seq_split : (t C s : Tree) (b : Binding) → Split L (seq ps) t C s b → IsOver P t → tree_nodes C ≤ n → In C (row_at cs (tree_nodes C))
    seq_split _ C s b (split_seq {m = m} {ts = us} {k = k} {D = D} h e) o l =
        subst (λ (c : Tree). In c (row_at cs (tree_nodes c))) (sym e)
        (g.split us k D s b h o.1 (subst (λ (c : Tree). tree_nodes c ≤ n) e l))

    pub grown_seq : IsGrown L P (seq ps) n ts cs
    grown_seq = record { matched = seq_matched; split = seq_split; sized_terms = g.sized_terms; sized_contexts = g.sized_contexts; empty = λ C h. absurd (g.none C h) }
