-- What is looked up where a nonterminal is found at a place: its alternatives, and what is known of it; and how many items terms have.
use Rattle.std.proofs.Common.{◌≡◌, ℕ, zero, suc, ◌+◌, ◌<◌, ◌≤◌, Bool, true, false, List, [], ◌∷◌, length, get_or, map, Some, refl, sym, ap, ◌∙◌, subst, arith, if◌then◌else◌}
use Rattle.std.specs.Prelude.{Option, IfSome, Vec, not}
use Rattle.std.specs.Cmp.{first_so, second_so}
use Rattle.std.specs.declared.alloc.Global.{Global}
use Rattle.rdx_term.proofs.AtPaths.{one_le-nodes}
use Rattle.rdx_term.proofs.PutItems.{trees_count-trees_of}
use Rattle.rdx_term.specs.Bare.{bare, bare_all}
use Rattle.rdx_term.specs.Items.{trees_count}
use Rattle.rdx_term.specs.Terms.{IsTerm}
use Rattle.rdx_term.specs.Tree.{Tree, hole, integer, truth, text, symbol, list, Trees, nil, cons, trees, trees_nodes, Contents, contents_tree}
use Rattle.rdx_term.specs.View.{tree_of}
use Rattle.rdx_term.specs.declared.term.Term.{Term}
use Rattle.rdx_lang.specs.Facts.{item_count, AreFacts, IsKnown, AreKnown}
use Rattle.rdx_lang.specs.Lookup.{alternatives_among}
use Rattle.rdx_lang.specs.Members.{In, here, there}
use Rattle.rdx_lang.specs.Patterns.{Pattern, Definition, Language}
use Rattle.rdx_lang.specs.PatternView.{definition_of}
use Rattle.rdx_lang.specs.References.{is_same, is_among, are_distinct}
use Rattle.rdx_lang.specs.declared.facts.Facts.{Facts}
use Rattle.rdx_lang.specs.declared.facts.Known.{Known}
use Rattle.rdx_lang.specs.declared.pattern.Pat.{Pat}
use Rattle.rdx_lang.specs.declared.pattern.Ref.{Ref}
use Rattle.rdx_lang.proofs.LookupLaws.{equal-is_same, is_same-equal, is_among-defined, not_true}

-- the image of what stands at a place is a member of the images
pub member-at : {A B : Type 0} (f : A → B) (xs : List A) (i : ℕ) (x : A) → i < length xs → x ≡ get_or xs i x → In (f x) (map f xs)
member-at f [] i x h e = absurd (omega arith)
member-at f (y ∷ ys) zero x h e = here (ap f e)
member-at f (y ∷ ys) (suc i) x h e = there (member-at f ys i x (omega arith) e)

-- where no two definitions are of the same nonterminal, the alternatives of one are what is looked up
pub alternatives-in : (x : Ref) (ps : List Pattern) (ds : List Definition) → are_distinct (map (λ d. d.0) ds) ≡ true → In (x, ps) ds → alternatives_among ds x ≡ ps
alternatives-in x ps [] h i = elim i [ ]
alternatives-in x ps (d ∷ ds) h (here e) =
    ap (λ (b : Bool). if b then d.1 else alternatives_among ds x) (equal-is_same x d.0 (ap (λ (c : Definition). c.0) e))
    ∙ sym (ap (λ (c : Definition). c.1) e)
alternatives-in x ps (d ∷ ds) h (there i) = by_test (is_same x d.0) refl (alternatives-in x ps ds rest i)
  where
    rest : are_distinct (map (λ c. c.0) ds) ≡ true
    rest = second_so (not (is_among d.0 (map (λ c. c.0) ds))) (are_distinct (map (λ c. c.0) ds)) h

    -- x is not defined twice
    alone : is_same x d.0 ≡ true → ⊥
    alone s =
        let k : is_among d.0 (map (λ c. c.0) ds) ≡ true =
        subst (λ (y : Ref). is_among y (map (λ c. c.0) ds) ≡ true) (is_same-equal x d.0 s) (is_among-defined x ps ds i) in
        not_true (is_among d.0 (map (λ c. c.0) ds)) (first_so (not (is_among d.0 (map (λ c. c.0) ds))) (are_distinct (map (λ c. c.0) ds)) h) k

    by_test : (b : Bool) → is_same x d.0 ≡ b → alternatives_among ds x ≡ ps → (if b then d.1 else alternatives_among ds x) ≡ ps
    by_test true s f = absurd (alone s)
    by_test false s f = f

-- what is known of a language is known of each of its nonterminals
pub known-at : (L : Language) (nts : List (Ref × Vec Pat Global)) (ks : List Known) (i : ℕ) (d : Ref × Vec Pat Global) (k : Known)
    → AreKnown L (map definition_of nts) ks → i < length nts → d ≡ get_or nts i d → i < length ks → k ≡ get_or ks i k → IsKnown L (definition_of d) k
known-at L [] ks i d k a h e g f = absurd (omega arith)
known-at L (c ∷ nts) [] i d k a h e g f = absurd (omega arith)
known-at L (c ∷ nts) (j ∷ ks) zero d k a h e g f =
    subst (λ (m : Known). IsKnown L (definition_of d) m) (sym f) (subst (λ (m : Ref × Vec Pat Global). IsKnown L (definition_of m) j) (sym e) a.0)
known-at L (c ∷ nts) (j ∷ ks) (suc i) d k a h e g f = known-at L nts ks i d k a.1 (omega arith) e (omega arith) f

-- where there are facts, these are facts
pub facts-in : (L : Language) (o : Option Facts) (f : Facts) → o ≡ Some f → IfSome o (λ g. AreFacts L g) → AreFacts L f
facts-in L o f e h = subst (λ (p : Option Facts). IfSome p (λ g. AreFacts L g)) e h

-- ---- how many items a term has

-- as many as the list is long that it holds
pub item_count-items : (l : Contents) (xs : List Term) → map tree_of xs ≡ l.items → item_count (contents_tree l) ≡ length xs
item_count-items l xs e = ap (λ ts. trees_count (trees ts)) (sym e) ∙ trees_count-trees_of xs

-- no more than nodes
count_le-nodes : (ts : Trees) → trees_count ts ≤ trees_nodes ts
count_le-nodes nil = omega arith
count_le-nodes (cons t ts) = omega (arith, one_le-nodes t, count_le-nodes ts)

-- so there are not many
pub item_count-small : (t : Tree) → IsTerm t → item_count t ≤ 4_000_000
item_count-small hole h = omega arith
item_count-small (integer z) h = omega arith
item_count-small (truth b) h = omega arith
item_count-small (text s) h = omega arith
item_count-small (symbol s) h = omega arith
item_count-small (list m ts) h = omega (arith, h.small, count_le-nodes ts)

-- marks change nothing
trees_count-bare_all : (ts : Trees) → trees_count (bare_all ts) ≡ trees_count ts
trees_count-bare_all nil = refl
trees_count-bare_all (cons t ts) = ap (λ n. n + 1) (trees_count-bare_all ts)

item_count-bare : (t : Tree) → item_count (bare t) ≡ item_count t
item_count-bare hole = refl
item_count-bare (integer z) = refl
item_count-bare (truth b) = refl
item_count-bare (text s) = refl
item_count-bare (symbol s) = refl
item_count-bare (list m ts) = trees_count-bare_all ts

-- so terms that are equal but for marks have equally many
pub item_count-same_bare : (t u : Tree) → bare t ≡ bare u → item_count t ≡ item_count u
item_count-same_bare t u e = sym (item_count-bare t) ∙ ap item_count e ∙ item_count-bare u
