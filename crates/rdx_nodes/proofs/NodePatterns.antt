-- What nodes stand for, and that they stay right, where patterns and nodes are added behind them and where a node is replaced.
use Rattle.std.proofs.Common.{◌≡◌, ℕ, zero, suc, ◌+◌, ◌<◌, ◌≤◌, List, [], ◌∷◌, ◌++◌, length, get_or, set, Option, Some, None, refl, sym, ◌∙◌, ap, subst, arith, append_assoc, append-nil, length-set}
use Rattle.std.proofs.lemmas.List.{length_push, get_or_append_left, get_or_at}
use Rattle.rdx_lang.specs.Names.{names}
use Rattle.rdx_lang.specs.Patterns.{Pattern, wild, in_hole, seq, Language}
use Rattle.rdx_lang.specs.PatternView.{just, items_of, patterns_of}
use Rattle.rdx_nodes.specs.Nodes.{pattern_at, patterns_at, slot_at, slots_at, pattern_by, patterns_from, patterns_in, AreBelow, IsEntry, AreEntries, AreOpened, IsForm, AreForms, AreNodes, DoAsWell, opened_in}
use Rattle.rdx_nodes.specs.Settings.{doors_of, doors_in}
use Rattle.rdx_nodes.specs.declared.node.Entry.{Entry}
use Rattle.rdx_nodes.specs.declared.node.Entry.TheVariants as entry
use Rattle.rdx_nodes.specs.declared.node.Form.{Form}
use Rattle.rdx_nodes.specs.declared.node.Form.TheVariants as form
use Rattle.rdx_nodes.specs.declared.node.Node.{Node}

-- ---- numbers

-- numbers stay below
pub below-more : (ns : List ℕ) (k m : ℕ) → k ≤ m → AreBelow ns k → AreBelow ns m
below-more [] k m h a = tt
below-more (n ∷ ns) k m h a = (omega (arith, a.0), below-more ns k m h a.1)

-- so do they with one more
pub below-push : (ns : List ℕ) (n k : ℕ) → AreBelow ns k → n < k → AreBelow (ns ++ n ∷ []) k
below-push [] n k a h = (h, tt)
below-push (m ∷ ns) n k a h = (a.0, below-push ns n k a.1 h)

-- ---- more patterns

-- a number keeps its pattern
pub pattern_at-append : (ps qs : List Pattern) (n : ℕ) → n < length ps → pattern_at (ps ++ qs) n ≡ pattern_at ps n
pattern_at-append ps qs n h = get_or_append_left ps qs wild n h

-- so do numbers
pub patterns_at-append : (ps qs : List Pattern) (ns : List ℕ) → AreBelow ns (length ps) → patterns_at (ps ++ qs) ns ≡ patterns_at ps ns
patterns_at-append ps qs [] a = refl
patterns_at-append ps qs (n ∷ ns) a = λ i. pattern_at-append ps qs n a.0 i ∷ patterns_at-append ps qs ns a.1 i

-- an entry stands for the same item
pub slot_at-append : (ps qs rs : List Pattern) (n : ℕ) (e : Entry) → n ≤ length ps → IsEntry rs n e → slot_at (ps ++ qs) e ≡ slot_at ps e
slot_at-append ps qs rs n (entry.One k) h a = ap just (pattern_at-append ps qs k (omega (arith, a)))
slot_at-append ps qs rs n (entry.Many u) h a =
    ap (λ (p : Pattern). slot_at (p ∷ []) (entry.Many (record { number = 0; names = u.names; length = u.length })))
    (pattern_at-append ps qs u.number (omega (arith, a.0)))

-- so do entries
pub slots_at-append : (ps qs rs : List Pattern) (n : ℕ) (es : List Entry) → n ≤ length ps → AreEntries rs n es
    → slots_at (ps ++ qs) es ≡ slots_at ps es
slots_at-append ps qs rs n [] h a = refl
slots_at-append ps qs rs n (e ∷ es) h a = λ i. slot_at-append ps qs rs n e h a.0 i ∷ slots_at-append ps qs rs n es h a.1 i

-- a form stands for the same pattern
pub pattern_by-append : (L : Language) (ps qs rs : List Pattern) (n m : ℕ) (f : Form) → n ≤ length ps → IsForm L rs n m f
    → pattern_by (ps ++ qs) f ≡ pattern_by ps f
pattern_by-append L ps qs rs n m form.Wild h a = refl
pattern_by-append L ps qs rs n m (form.Kind k) h a = refl
pattern_by-append L ps qs rs n m (form.Except ys) h a = refl
pattern_by-append L ps qs rs n m (form.Prefix r) h a = refl
pattern_by-append L ps qs rs n m form.Hole h a = refl
pattern_by-append L ps qs rs n m (form.Lit u) h a = refl
pattern_by-append L ps qs rs n m (form.Nt x) h a = refl
pattern_by-append L ps qs rs n m (form.Named x k) h a = ap (λ p. pattern_by (p ∷ []) (form.Named x 0)) (pattern_at-append ps qs k (omega (arith, a)))
pattern_by-append L ps qs rs n m (form.InHole j k) h a =
    λ i. in_hole (pattern_at-append ps qs j (omega (arith, a.0)) i) (pattern_at-append ps qs k (omega (arith, a.1)) i)
pattern_by-append L ps qs rs n m (form.HideHole k) h a =
    ap (λ p. pattern_by (p ∷ []) (form.HideHole 0)) (pattern_at-append ps qs k (omega (arith, a)))
pattern_by-append L ps qs rs n m (form.Closed k) h a = ap (λ p. pattern_by (p ∷ []) (form.Closed 0)) (pattern_at-append ps qs k (omega (arith, a)))
pattern_by-append L ps qs rs n m (form.Seq es) h a = ap (λ xs. seq (items_of xs)) (slots_at-append ps qs rs n es.items h a)

-- an entry stays right
pub entry-append : (ps qs : List Pattern) (n k : ℕ) (e : Entry) → n ≤ length ps → n ≤ k → IsEntry ps n e → IsEntry (ps ++ qs) k e
entry-append ps qs n k (entry.One j) h l a = omega (arith, a)
entry-append ps qs n k (entry.Many u) h l a = (omega (arith, a.0), a.1 ∙ sym (ap names (pattern_at-append ps qs u.number (omega (arith, a.0)))))

-- entries stay right
pub entries-append : (ps qs : List Pattern) (n k : ℕ) (es : List Entry) → n ≤ length ps → n ≤ k → AreEntries ps n es → AreEntries (ps ++ qs) k es
entries-append ps qs n k [] h l a = tt
entries-append ps qs n k (e ∷ es) h l a = (entry-append ps qs n k e h l a.0, entries-append ps qs n k es h l a.1)

-- entries stay right with one more
pub entries-push : (ps : List Pattern) (n : ℕ) (es : List Entry) (e : Entry) → AreEntries ps n es → IsEntry ps n e → AreEntries ps n (es ++ e ∷ [])
entries-push ps n [] e a b = (b, tt)
entries-push ps n (d ∷ es) e a b = (a.0, entries-push ps n es e a.1 b)

-- the nodes that are made for alternatives stay right
opened-append : (L : Language) (ps qs : List Pattern) (m k : ℕ) (rs : List Pattern) (o : Option (List ℕ)) → m ≤ length ps → m ≤ k
    → AreOpened L ps m rs o
    → AreOpened L (ps ++ qs) k rs o
opened-append L ps qs m k rs None h l a = tt
opened-append L ps qs m k rs (Some ns) h l a = (
  below-more ns m k l a.0,
  subst (λ (xs : List Pattern). DoAsWell L xs rs) (sym (patterns_at-append ps qs ns (below-more ns m (length ps) h a.0))) a.1,
)

-- a form stays right
pub form-append : (L : Language) (ps qs : List Pattern) (n m k : ℕ) (f : Form) → n ≤ length ps → m ≤ length ps → m ≤ k → IsForm L ps n m f
    → IsForm L (ps ++ qs) n k f
form-append L ps qs n m k form.Wild h l g a = tt
form-append L ps qs n m k (form.Kind x) h l g a = tt
form-append L ps qs n m k (form.Except rs) h l g a = tt
form-append L ps qs n m k (form.Prefix r) h l g a = tt
form-append L ps qs n m k form.Hole h l g a = tt
form-append L ps qs n m k (form.Lit u) h l g a = tt
form-append L ps qs n m k (form.Nt x) h l g a = (a.0, opened-append L ps qs m k (patterns_of x.alternatives.now) (opened_in x) l g a.1)
form-append L ps qs n m k (form.Named x j) h l g a = a
form-append L ps qs n m k (form.InHole i j) h l g a = a
form-append L ps qs n m k (form.HideHole j) h l g a = a
form-append L ps qs n m k (form.Closed j) h l g a = a
form-append L ps qs n m k (form.Seq es) h l g a = entries-append ps qs n n es.items h (omega arith) a

-- so do all
forms-append : (L : Language) (ps qs : List Pattern) (n m k : ℕ) (ns : List Node) → n + length ns ≤ length ps → m ≤ length ps → m ≤ k
    → AreForms L ps n m ns → AreForms L (ps ++ qs) n k ns
forms-append L ps qs n m k [] h l g a = tt
forms-append L ps qs n m k (x ∷ ns) h l g a =
    (form-append L ps qs n m k x.form (omega arith) l g a.0, forms-append L ps qs (n + 1) m k ns (omega arith) l g a.1)

-- ---- the patterns of nodes

-- those of nodes in two parts
pub patterns_from-append : (ps : List Pattern) (ns ms : List Node) → patterns_from ps (ns ++ ms) ≡ patterns_from (patterns_from ps ns) ms
patterns_from-append ps [] ms = refl
patterns_from-append ps (n ∷ ns) ms = patterns_from-append (ps ++ pattern_by ps n.form ∷ []) ns ms

-- one node more has one pattern more
pub patterns_in-push : (ns : List Node) (n : Node) → patterns_in (ns ++ n ∷ []) ≡ patterns_in ns ++ pattern_by (patterns_in ns) n.form ∷ []
patterns_in-push ns n = patterns_from-append [] ns (n ∷ [])

-- there are as many patterns as nodes besides those before
patterns_from-length : (ps : List Pattern) (ns : List Node) → length (patterns_from ps ns) ≡ length ps + length ns
patterns_from-length ps [] = sym (omega arith)
patterns_from-length ps (n ∷ ns) =
    let q : Pattern = pattern_by ps n.form in
    let e = patterns_from-length (ps ++ q ∷ []) ns in let f = length_push ps q in omega (arith, e, f)

-- there are as many patterns as nodes
pub patterns_in-length : (ns : List Node) → length (patterns_in ns) ≡ length ns
patterns_in-length ns = let e = patterns_from-length [] ns in omega (arith, e)

-- the patterns before stay, and others come behind them
pub patterns_from-more : (ps : List Pattern) (ns : List Node) → (more : List Pattern) × (patterns_from ps ns ≡ ps ++ more)
patterns_from-more ps [] = ([], sym (append-nil ps))
patterns_from-more ps (n ∷ ns) =
    let q : Pattern = pattern_by ps n.form in
    let k = patterns_from-more (ps ++ q ∷ []) ns in (q ∷ k.0, k.1 ∙ append_assoc ps (q ∷ []) k.0)

-- the pattern of a node is that of its form
pattern_from-form : (L : Language) (m : ℕ) (ps all : List Pattern) (ns : List Node) (k : ℕ) (x : Node) → patterns_from ps ns ≡ all
    → AreForms L all (length ps) m ns → k < length ns → x ≡ get_or ns k x → pattern_at all (length ps + k) ≡ pattern_by all x.form
pattern_from-form L m ps all [] k x e a h g = absurd (omega arith)
pattern_from-form L m ps all (n ∷ ns) zero x e a h g =
    let q : Pattern = pattern_by ps n.form in
    let more = patterns_from-more (ps ++ q ∷ []) ns in
    let f : all ≡ ps ++ (q ∷ more.0) = sym e ∙ more.1 ∙ append_assoc ps (q ∷ []) more.0 in
    let z : length ps ≡ length ps + 0 = omega arith in
    (λ i. pattern_at (f i) (sym z i))
    ∙ get_or_at ps q more.0 wild (length ps) refl
    ∙ sym (pattern_by-append L ps (q ∷ more.0) all (length ps) m n.form (omega arith) a.0)
    ∙ (λ i. pattern_by (sym f i) (sym g i).form)
pattern_from-form L m ps all (n ∷ ns) (suc k) x e a h g =
    let q : Pattern = pattern_by ps n.form in
    let l = length_push ps q in
    let z : length ps + suc k ≡ length (ps ++ q ∷ []) + k = omega (arith, l) in
    ap (pattern_at all) z
    ∙ pattern_from-form L m (ps ++ q ∷ []) all ns k x e (subst (λ j. AreForms L all j m ns) (sym l) a.1) (omega arith) g

module _ (L : Language) (ns : List Node) (k : ℕ) (x : Node) where
  -- so it is where all nodes are right
  pub pattern_in-form : AreNodes L ns → k < length ns → x ≡ get_or ns k x → pattern_at (patterns_in ns) k ≡ pattern_by (patterns_in ns) x.form
  pattern_in-form a h e =
      let z : k ≡ 0 + k = omega arith in ap (pattern_at (patterns_in ns)) z ∙ pattern_from-form L (length ns) [] (patterns_in ns) ns k x refl a h e

-- each form is right where all are
form-among : (L : Language) (ps : List Pattern) (n m : ℕ) (ns : List Node) (k : ℕ) (x : Node) → AreForms L ps n m ns → k < length ns
    → x ≡ get_or ns k x
    → IsForm L ps (n + k) m x.form
form-among L ps n m [] k x a h e = absurd (omega arith)
form-among L ps n m (y ∷ ns) zero x a h e =
    let z : n ≡ n + 0 = omega arith in
    subst (λ j. IsForm L ps j m x.form) z (subst (λ (w : Node). IsForm L ps n m w.form) (sym e) a.0)
form-among L ps n m (y ∷ ns) (suc k) x a h e =
    let z : n + 1 + k ≡ n + suc k = omega arith in
    subst (λ j. IsForm L ps j m x.form) z (form-among L ps (n + 1) m ns k x a.1 (omega arith) e)

-- so is that of each node
pub form-at : (L : Language) (ns : List Node) (k : ℕ) (x : Node) → AreNodes L ns → k < length ns → x ≡ get_or ns k x
    → IsForm L (patterns_in ns) k (length ns) x.form
form-at L ns k x a h e =
    let z : 0 + k ≡ k = omega arith in
    subst (λ j. IsForm L (patterns_in ns) j (length ns) x.form) z (form-among L (patterns_in ns) 0 (length ns) ns k x a h e)

-- ---- one node more

forms-push : (L : Language) (ps : List Pattern) (n m : ℕ) (ns : List Node) (x : Node) → AreForms L ps n m ns → IsForm L ps (n + length ns) m x.form
    → AreForms L ps n m (ns ++ x ∷ [])
forms-push L ps n m [] x a b = let z : n + 0 ≡ n = omega arith in (subst (λ j. IsForm L ps j m x.form) z b, tt)
forms-push L ps n m (y ∷ ns) x a b =
    let z : n + suc (length ns) ≡ n + 1 + length ns = omega arith in
    (a.0, forms-push L ps (n + 1) m ns x a.1 (subst (λ j. IsForm L ps j m x.form) z b))

-- nodes stay right with one more whose parts are there
pub nodes-push : (L : Language) (ns : List Node) (x : Node) → AreNodes L ns → IsForm L (patterns_in ns) (length ns) (length ns) x.form
    → AreNodes L (ns ++ x ∷ [])
nodes-push L ns x a b =
    let ps = patterns_in ns in
    let qs : List Pattern = pattern_by ps x.form ∷ [] in
    let m = length (ns ++ x ∷ []) in
    let l = patterns_in-length ns in
    let k = length_push ns x in
    let z : length ns ≡ 0 + length ns = omega arith in
    let c : IsForm L (ps ++ qs) (length ns) m x.form =
    form-append L ps qs (length ns) (length ns) m x.form (omega (arith, l)) (omega (arith, l)) (omega (arith, k)) b in
    subst (λ (rs : List Pattern). AreForms L rs 0 m (ns ++ x ∷ [])) (sym (patterns_in-push ns x))
    (forms-push L (ps ++ qs) 0 m ns x
    (forms-append L ps qs 0 (length ns) m ns (omega (arith, l)) (omega (arith, l)) (omega (arith, k)) a)
    (subst (λ j. IsForm L (ps ++ qs) j m x.form) z c))

-- its number has its pattern
pub pattern_in-last : (ns : List Node) (x : Node) → pattern_at (patterns_in (ns ++ x ∷ [])) (length ns) ≡ pattern_by (patterns_in ns) x.form
pattern_in-last ns x =
    ap (λ ps. pattern_at ps (length ns)) (patterns_in-push ns x)
    ∙ get_or_at (patterns_in ns) (pattern_by (patterns_in ns) x.form) [] wild (length ns) (patterns_in-length ns)

-- ---- a node in place of another

-- patterns stay where it stands for the same
patterns_from-set : (ps : List Pattern) (ns : List Node) (k : ℕ) (y : Node)
    → ((qs : List Pattern) → pattern_by qs y.form ≡ pattern_by qs (get_or ns k y).form)
    → patterns_from ps (set ns k y) ≡ patterns_from ps ns
patterns_from-set ps [] k y f = refl
patterns_from-set ps (n ∷ ns) zero y f = ap (λ q. patterns_from (ps ++ q ∷ []) ns) (f ps)
patterns_from-set ps (n ∷ ns) (suc k) y f = patterns_from-set (ps ++ pattern_by ps n.form ∷ []) ns k y f

pub patterns_in-set : (ns : List Node) (k : ℕ) (y : Node) → ((qs : List Pattern) → pattern_by qs y.form ≡ pattern_by qs (get_or ns k y).form)
    → patterns_in (set ns k y) ≡ patterns_in ns
patterns_in-set ns k y f = patterns_from-set [] ns k y f

-- forms stay right where it is right
forms-set : (L : Language) (ps : List Pattern) (n m : ℕ) (ns : List Node) (k : ℕ) (y : Node) → AreForms L ps n m ns → IsForm L ps (n + k) m y.form
    → AreForms L ps n m (set ns k y)
forms-set L ps n m [] k y a b = tt
forms-set L ps n m (x ∷ ns) zero y a b = let z : n + 0 ≡ n = omega arith in (subst (λ j. IsForm L ps j m y.form) z b, a.1)
forms-set L ps n m (x ∷ ns) (suc k) y a b =
    let z : n + suc k ≡ n + 1 + k = omega arith in (a.0, forms-set L ps (n + 1) m ns k y a.1 (subst (λ j. IsForm L ps j m y.form) z b))

-- nodes stay right
pub nodes-set : (L : Language) (ns : List Node) (k : ℕ) (y : Node) → ((qs : List Pattern) → pattern_by qs y.form ≡ pattern_by qs (get_or ns k y).form)
    → AreNodes L ns → IsForm L (patterns_in ns) k (length ns) y.form → AreNodes L (set ns k y)
nodes-set L ns k y f a b =
    let z : k ≡ 0 + k = omega arith in
    let c : AreForms L (patterns_in ns) 0 (length ns) (set ns k y) =
    forms-set L (patterns_in ns) 0 (length ns) ns k y a (subst (λ j. IsForm L (patterns_in ns) j (length ns) y.form) z b) in
    subst (λ j. AreForms L (patterns_in (set ns k y)) 0 j (set ns k y)) (sym (length-set ns k y))
    (subst (λ (ps : List Pattern). AreForms L ps 0 (length ns) (set ns k y)) (sym (patterns_in-set ns k y f)) c)

-- ---- nonterminals whose alternatives have no nodes yet

-- they add up
pub doors_in-append : (ns ms : List Node) → doors_in (ns ++ ms) ≡ doors_in ns + doors_in ms
doors_in-append [] ms = omega arith
doors_in-append (n ∷ ns) ms = let e = doors_in-append ns ms in omega (arith, e)

-- a node in place of another
pub doors_in-set : (ns : List Node) (k : ℕ) (x y : Node) → k < length ns → x ≡ get_or ns k x
    → doors_in (set ns k y) + doors_of x.form ≡ doors_in ns + doors_of y.form
doors_in-set [] k x y h e = absurd (omega arith)
doors_in-set (n ∷ ns) zero x y h e = let f : doors_of x.form ≡ doors_of n.form = ap (λ (w : Node). doors_of w.form) e in omega (arith, f)
doors_in-set (n ∷ ns) (suc k) x y h e = let f = doors_in-set ns k x y (omega arith) e in omega (arith, f)
