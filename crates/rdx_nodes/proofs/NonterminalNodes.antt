-- The nodes of nonterminals: their alternatives, their numbers, and the nodes that are made for alternatives.
use Rattle.std.proofs.Common.{◌≡◌, ◌⊎◌, inl, inr, ℕ, ◌+◌, ◌<◌, Bool, true, false, cond, not, List, [], ◌∷◌, length, get_or, set, map, Some, Vec, Global, refl, sym, ◌∙◌, ap, subst, arith, length-set}
use Rattle.std.proofs.lemmas.List.{get_or_append_left, get_or_default}
use Rattle.std.specs.Cmp.{first_so, second_so}
use Rattle.rdx_lang.specs.Members.{In, here, there}
use Rattle.rdx_lang.specs.Patterns.{Pattern, nt, Definition, Language}
use Rattle.rdx_lang.specs.References.{is_same, is_among, are_distinct}
use Rattle.rdx_lang.specs.Rules.{AreAlternatives, IsAlternative}
use Rattle.rdx_lang.specs.WellFormed.{defined}
use Rattle.rdx_lang.specs.declared.pattern.Ref.{Ref}
use Rattle.rdx_lang.proofs.LookupLaws.{is_same-equal, not_true, is_among-defined}
use Rattle.rdx_nodes.specs.Doors.{doors_left}
use Rattle.rdx_nodes.specs.Index.{number_of, IsIndex}
use Rattle.rdx_nodes.specs.Nodes.{pattern_at, patterns_at, pattern_by, patterns_in, AreBelow, IsForm, AreNodes, DoAsWell}
use Rattle.rdx_nodes.specs.Settings.{language_at, patterns_at_hand, trees_at_hand, doors_of, doors_in, closed_doors, IsReady, Grows}
use Rattle.rdx_nodes.specs.Inside.Numbering.{alternatives_by, opened_by, Adds}
use Rattle.rdx_nodes.specs.declared.index.Index.{Index}
use Rattle.rdx_nodes.specs.declared.node.Form.{Form}
use Rattle.rdx_nodes.specs.declared.node.Form.TheVariants as form
use Rattle.rdx_nodes.specs.declared.node.Node.{Node}
use Rattle.rdx_nodes.specs.declared.setting.Setting.{Setting}
use Rattle.rdx_nodes.proofs.Adding.{adds-length, adds-patterns}
use Rattle.rdx_nodes.proofs.DoorsLeft.{doors_left-adds, one_fewer}
use Rattle.rdx_nodes.proofs.NodePatterns.{form-at, patterns_in-set, nodes-set, doors_in-set}

-- ---- definitions

-- where no nonterminal is defined twice, it has one list of alternatives
distinct-same : (ds : List Definition) (x : Ref) (ps qs : List Pattern) → are_distinct (map (λ d. d.0) ds) ≡ true → In (x, ps) ds → In (x, qs) ds
    → ps ≡ qs
distinct-same [] x ps qs h i j = elim i [ ]
distinct-same (d ∷ ds) x ps qs h i j =
    by_places i j (distinct-same ds x ps qs (second_so (not (is_among d.0 (map (λ c. c.0) ds))) (are_distinct (map (λ c. c.0) ds)) h))
  where
    first : not (is_among d.0 (map (λ c. c.0) ds)) ≡ true
    first = first_so (not (is_among d.0 (map (λ c. c.0) ds))) (are_distinct (map (λ c. c.0) ds)) h

    alone : (rs : List Pattern) → x ≡ d.0 → In (x, rs) ds → ⊥
    alone rs e k =
        let f : is_among d.0 (map (λ c. c.0) ds) ≡ true = subst (λ (y : Ref). is_among y (map (λ c. c.0) ds) ≡ true) e (is_among-defined x rs ds k) in
        not_true (is_among d.0 (map (λ c. c.0) ds)) first f

    by_places : In (x, ps) (d ∷ ds) → In (x, qs) (d ∷ ds) → (In (x, ps) ds → In (x, qs) ds → ps ≡ qs) → ps ≡ qs
    by_places (here e) (here f) g = ap (λ (c : Definition). c.1) e ∙ sym (ap (λ (c : Definition). c.1) f)
    by_places (here e) (there k) g = absurd (alone qs (ap (λ (c : Definition). c.0) e) k)
    by_places (there k) (here f) g = absurd (alone ps (ap (λ (c : Definition). c.0) f) k)
    by_places (there k) (there l) g = g k l

-- these are all its alternatives
pub alternatives-defined : (L : Language) (x : Ref) (ps : List Pattern) → are_distinct (defined L) ≡ true → In (x, ps) L.nonterminals
    → AreAlternatives L x ps
alternatives-defined L x ps h i p = (
  λ k. record { all = ps; defined = i; among = k },
  λ (a : IsAlternative L x p). subst (λ (qs : List Pattern). In p qs) (distinct-same L.nonterminals x a.all ps h a.defined i) a.among,
)

-- ---- the numbers of nonterminals

module _ (ps : List Pattern) (i j : Index) (y : Ref) (n : ℕ) (u : (x : Ref) → number_of j x ≡ cond (is_same y x) (Some n) (number_of i x)) where
  -- a number is the new one, or one of those before
  number-either : (x : Ref) (k : ℕ) → number_of j x ≡ Some k → ((y ≡ x) × (n ≡ k)) ⊎ (number_of i x ≡ Some k)
  number-either x k f = by_test (is_same y x) refl
    where
      by_test : (b : Bool) → is_same y x ≡ b → ((y ≡ x) × (n ≡ k)) ⊎ (number_of i x ≡ Some k)
      by_test true g = let h : Some n ≡ Some k = ap (λ b. cond b (Some n) (number_of i x)) (sym g) ∙ sym (u x)
          ∙ f in inl (is_same-equal y x g, cc)
      by_test false g = inr (ap (λ b. cond b (Some n) (number_of i x)) (sym g) ∙ sym (u x) ∙ f)

  -- the new number is one of a node of its nonterminal
  pub index-insert : IsIndex ps i → n < length ps → pattern_at ps n ≡ nt y → IsIndex ps j
  index-insert a h e = record { below = below_all; pattern = pattern_all }
    where
      below_all : (x : Ref) (k : ℕ) → number_of j x ≡ Some k → k < length ps
      below_all x k f = by_side (number-either x k f)
        where
          by_side : ((y ≡ x) × (n ≡ k)) ⊎ (number_of i x ≡ Some k) → k < length ps
          by_side (inl g) = subst (λ m. m < length ps) g.1 h
          by_side (inr g) = a.below x k g

      pattern_all : (x : Ref) (k : ℕ) → number_of j x ≡ Some k → pattern_at ps k ≡ nt x
      pattern_all x k f = by_side (number-either x k f)
        where
          by_side : ((y ≡ x) × (n ≡ k)) ⊎ (number_of i x ≡ Some k) → pattern_at ps k ≡ nt x
          by_side (inl g) = ap (pattern_at ps) (sym g.1) ∙ e ∙ ap nt g.0
          by_side (inr g) = a.pattern x k g

-- the same nodes with another index
pub adds-index : (s t : Setting) → Adds s t → (j : Index) → IsIndex (patterns_at_hand t) j
    → Adds s (record { alloc = t.alloc; language = t.language; places = t.places; nodes = t.nodes; index = j; store = t.store })
adds-index s t a j h = record {
  language = a.language;
  terms = a.terms;
  more = a.more;
  nodes = a.nodes;
  ready = record { nodes = a.ready.nodes; index = h };
}

-- ---- alternatives that get nodes

-- the form stands for the same
opened-pattern : (v : Vec ℕ Global) (f : Form) (qs : List Pattern) → pattern_by qs (opened_by v f) ≡ pattern_by qs f
opened-pattern v form.Wild qs = refl
opened-pattern v (form.Kind k) qs = refl
opened-pattern v (form.Except rs) qs = refl
opened-pattern v (form.Prefix r) qs = refl
opened-pattern v form.Hole qs = refl
opened-pattern v (form.Lit u) qs = refl
opened-pattern v (form.Nt x) qs = refl
opened-pattern v (form.Named x k) qs = refl
opened-pattern v (form.InHole j k) qs = refl
opened-pattern v (form.HideHole k) qs = refl
opened-pattern v (form.Closed k) qs = refl
opened-pattern v (form.Seq es) qs = refl

-- it is right where the nodes do as well as its alternatives
opened-form : (L : Language) (ps : List Pattern) (n m : ℕ) (v : Vec ℕ Global) (f : Form) → AreBelow v.items m
    → DoAsWell L (patterns_at ps v.items) (alternatives_by f)
    → IsForm L ps n m f → IsForm L ps n m (opened_by v f)
opened-form L ps n m v form.Wild b d a = a
opened-form L ps n m v (form.Kind k) b d a = a
opened-form L ps n m v (form.Except rs) b d a = a
opened-form L ps n m v (form.Prefix r) b d a = a
opened-form L ps n m v form.Hole b d a = a
opened-form L ps n m v (form.Lit u) b d a = a
opened-form L ps n m v (form.Nt x) b d a = (a.0, (b, d))
opened-form L ps n m v (form.Named x k) b d a = a
opened-form L ps n m v (form.InHole j k) b d a = a
opened-form L ps n m v (form.HideHole k) b d a = a
opened-form L ps n m v (form.Closed k) b d a = a
opened-form L ps n m v (form.Seq es) b d a = a

-- it is no door any more
opened-doors : (v : Vec ℕ Global) (f : Form) → doors_of (opened_by v f) ≡ 0
opened-doors v form.Wild = refl
opened-doors v (form.Kind k) = refl
opened-doors v (form.Except rs) = refl
opened-doors v (form.Prefix r) = refl
opened-doors v form.Hole = refl
opened-doors v (form.Lit u) = refl
opened-doors v (form.Nt x) = refl
opened-doors v (form.Named x k) = refl
opened-doors v (form.InHole j k) = refl
opened-doors v (form.HideHole k) = refl
opened-doors v (form.Closed k) = refl
opened-doors v (form.Seq es) = refl

-- a node keeps its number where nodes are added
pub node-kept : (s t : Setting) (a : Adds s t) (k : ℕ) (x : Node) → k < length s.nodes.items → x ≡ get_or s.nodes.items k x
    → x ≡ get_or t.nodes.items k x
node-kept s t a k x h e = e ∙ sym (ap (λ ns. get_or ns k x) a.nodes ∙ get_or_append_left s.nodes.items a.more x k h)

-- a number stays one of all nodes
pub there_still : (s t : Setting) (k : ℕ) → Adds s t → k < length s.nodes.items → k < length t.nodes.items
there_still s t k a h = let l = adds-length s t a in omega (arith, h, l)

module _ (s t u : Setting) (k : ℕ) (x y : Node) (v : Vec ℕ Global) (a : Adds s t) (h : k < length s.nodes.items) (e : x ≡ get_or s.nodes.items k x)
    (g : y.form ≡ opened_by v x.form) (n : u.nodes.items ≡ set t.nodes.items k y) where
  still : k < length t.nodes.items
  still = there_still s t k a h

  -- the node is the one that was there
  was_there : get_or t.nodes.items k y ≡ x
  was_there =
      let f = node-kept s t a k x h e in
      get_or_default t.nodes.items k y x still ∙ sym f

  same_pattern : (qs : List Pattern) → pattern_by qs y.form ≡ pattern_by qs (get_or t.nodes.items k y).form
  same_pattern qs = ap (pattern_by qs) g ∙ opened-pattern v x.form qs ∙ ap (λ (z : Node). pattern_by qs z.form) (sym was_there)

  same_patterns : patterns_at_hand u ≡ patterns_at_hand t
  same_patterns = ap patterns_in n ∙ patterns_in-set t.nodes.items k y same_pattern

  -- the setting with that node in place of the one that was there is ready
  pub opened-ready : language_at u ≡ language_at t → u.index ≡ t.index → AreBelow v.items (length t.nodes.items)
      → DoAsWell (language_at t) (patterns_at (patterns_at_hand t) v.items) (alternatives_by x.form) → IsReady u
  opened-ready l i b d =
      let L = language_at t in
      let ns = t.nodes.items in
      let old : IsForm L (patterns_in ns) k (length ns) x.form = form-at L ns k x a.ready.nodes still (node-kept s t a k x h e) in
      let new : IsForm L (patterns_in ns) k (length ns) y.form =
      subst (λ (f : Form). IsForm L (patterns_in ns) k (length ns) f) (sym g) (opened-form L (patterns_in ns) k (length ns) v x.form b d old) in
      record {
        nodes = subst (λ (M : Language). AreNodes M u.nodes.items) (sym l)
            (subst (λ (ms : List Node). AreNodes L ms) (sym n) (nodes-set L ns k y same_pattern a.ready.nodes new));
        index = subst (λ (j : Index). IsIndex (patterns_at_hand u) j) (sym i)
            (subst (λ (ps : List Pattern). IsIndex ps t.index) (sym same_patterns) a.ready.index);
      }

  -- it has grown
  pub opened-grows : language_at u ≡ language_at t → trees_at_hand u ≡ trees_at_hand t → Grows s u
  opened-grows l i = record {
    language = l ∙ a.language;
    terms = i ∙ a.terms;
    more = (adds-patterns s t a).0;
    patterns = same_patterns
        ∙ (adds-patterns s t a).1;
  }

  -- and there is less to open
  pub opened-fewer : doors_of x.form ≡ 1 → doors_left u < doors_left s
  opened-fewer d =
      let f = doors_in-set t.nodes.items k x y still (node-kept s t a k x h e) in
      let o : doors_of y.form ≡ 0 = ap doors_of g ∙ opened-doors v x.form in
      let c : closed_doors u ≡ doors_in (set t.nodes.items k y) = ap doors_in n in
      let m : length u.nodes.items ≡ length t.nodes.items = ap length n ∙ length-set t.nodes.items k y in
      let b : closed_doors u + 1 ≡ closed_doors t = omega (arith, d, f, o, c) in
      let l : doors_left u + 1 ≡ doors_left t = one_fewer (closed_doors u) (closed_doors t) (length u.nodes.items) (length t.nodes.items) b m in
      let r = doors_left-adds s t a in
      omega (arith, l, r)
