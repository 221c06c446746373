-- The ends of a rule: those that are found are the only ones, and what is kept of them tells which outputs the rule has.
use Rattle.std.proofs.Common.{◌≡◌, ◌⊎◌, inl, inr, ℕ, List, [], ◌∷◌, ◌++◌, append-nil, map, refl, Option, Some, None, sym, ◌∙◌, ap, subst}
use Rattle.std.proofs.lemmas.Cmp.{tied_itself}
use Rattle.std.specs.Cmp.Lexicographic.{lists_total, slice_cmp}
use Rattle.std.specs.Prelude.{IfOk, Result, Ok, Err, slice_get}
use Rattle.std.specs.declared.cmp.Ordering.TheVariants.{Equal}
use Rattle.rdx_term.proofs.OrderLaws.{tree_cmp-equal}
use Rattle.rdx_term.specs.Model.TotalOrder.{tree_cmp-total}
use Rattle.rdx_term.specs.Order.{tree_cmp}
use Rattle.rdx_term.specs.Tree.{Tree}
use Rattle.rdx_term.specs.View.{tree_of}
use Rattle.rdx_term.specs.declared.term.Term.{Term}
use Rattle.rdx_lang.specs.Bindings.{Binding}
use Rattle.rdx_lang.specs.Listing.{IsSeen, Matches}
use Rattle.rdx_lang.specs.Members.{In}
use Rattle.rdx_lang.specs.Model.TotalOrders.{binding_cmp-total}
use Rattle.rdx_lang.specs.Order.{binding_cmp}
use Rattle.rdx_lang.specs.Patterns.{Language}
use Rattle.rdx_lang.specs.Programs.{Judgement, JudgementRule, Program, language_named}
use Rattle.rdx_lang.specs.Rules.{Match}
use Rattle.rdx_lang.specs.Templates.{Template}
use Rattle.rdx_lang.proofs.Collecting.{no_member}
use Rattle.rdx_lang.proofs.OrderLaws.{binding_cmp-tells, lists_tell}
use Rattle.rdx_eval.specs.Answers.{Lists, goes, lists, value}
use Rattle.rdx_eval.specs.Extending.{Extend, Survivors}
use Rattle.rdx_eval.specs.Fresh.{avoiding}
use Rattle.rdx_eval.specs.Heights.{height}
use Rattle.rdx_eval.specs.Instantiation.{MakeList}
use Rattle.rdx_eval.specs.Laws.{Once}
use Rattle.rdx_eval.proofs.MemoLaws.{in-put}
use Rattle.rdx_eval.proofs.OneAnswer.{once-call, once-outputs, once-survivors, same_value}
use Rattle.rdx_eval.proofs.Reached.{reached}
use Rattle.rdx_deriv.specs.Finding.{Finds}
use Rattle.rdx_deriv.specs.Judged.{calls}
use Rattle.rdx_deriv.proofs.OneExtra.{listing_in}
use Rattle.rdx_why.specs.Inside.Keeping.{AreRulesOf, IsKept}
use Rattle.rdx_why.specs.Inside.Ways.{HasSurvivors, RuleHas, RuleMakes}
use Rattle.rdx_why.specs.Model.Ends.{AreEnds, AreEndsAt, HasOnly, IsRuleAt, IsSame, KeepsEnds, bound}
use Rattle.rdx_why.specs.declared.kept.End.{End}
use Rattle.rdx_why.specs.declared.kept.Kept.{Kept}
use Rattle.rdx_why.specs.declared.kept.Store.{Store}
use Rattle.rdx_why.proofs.WaysLaws.{final_none, final_some}

-- ---- outputs

-- what is found of the outputs is all that is made
pub only_found : (P : Program) (ms : List Template) (e : End) (c : Binding) (x : Option Term) → bound e ≡ c → e.outputs ≡ x
    → Finds tree_of (λ o. MakeList (calls P) c ms (value o)) x → HasOnly P ms e
only_found P ms e c x b d h o m = subst (λ (y : Option Term). IsSame y o) (sym d) (by_found x h)
  where
    made : MakeList (calls P) c ms (value o)
    made = subst (λ (z : Binding). MakeList (calls P) z ms (value o)) b m

    by_found : (y : Option Term) → Finds tree_of (λ u. MakeList (calls P) c ms (value u)) y → IsSame y o
    by_found None f = f o made
    by_found (Some t) f = subst (λ (z : Tree). tree_cmp z (tree_of t) ≡ Equal) (sym ((f o).0 made)) (tied_itself tree_cmp-total (tree_of t))

-- outputs that do not tie with others are not these
pub same_found : (t : Term) (o : Tree) → tree_cmp o (tree_of t) ≡ Equal → tree_of t ≡ o
same_found t o h = sym (tree_cmp-equal o (tree_of t) h)

-- ---- ends of a rule

module _ (P : Program) (L : Language) (r : JudgementRule) (a : Tree) where
  once-left : Once (Survivors L (calls P) a r.inputs r.extras)
  once-left = once-survivors L (calls P) (once-call P height) (once-outputs P height) a r.inputs r.extras

  -- those that end with all bindings to which the extras lead
  pub found_ends : (es : List End) (bs cs : List Binding) → Matches L r.inputs a bs → Extend L (calls P) (avoiding a) r.extras bs (value cs)
      → map bound es ≡ cs → ((e : End) → In e es → HasOnly P r.outputs e) → AreEnds P L r a es
  found_ends es bs cs m x d f = record { left = left; made = f }
    where
      left : (ds : List Binding) → Survivors L (calls P) a r.inputs r.extras (value ds) → slice_cmp binding_cmp ds (map bound es) ≡ Equal
      left ds h =
          let e : ds ≡ map bound es = same_value cs ds (once-left (value cs) (value ds) (goes (lists m) x) h) ∙ sym d in
          subst (λ (z : List Binding). slice_cmp binding_cmp z (map bound es) ≡ Equal) (sym e)
          (tied_itself (lists_total binding_cmp-total) (map bound es))

  module _ (es : List End) (h : AreEnds P L r a es) (s : HasSurvivors P L r a) where
    these : Survivors L (calls P) a r.inputs r.extras (value (map bound es))
    these = subst (λ (cs : List Binding). Survivors L (calls P) a r.inputs r.extras (value cs))
        (lists_tell binding_cmp binding_cmp-tells s.left (map bound es) (h.left s.left s.survives)) s.survives

    -- a binding among them that makes the outputs is a last one
    pub ended_some : (o : Tree) (c : Binding) → In c (map bound es) × MakeList (calls P) c r.outputs (value o) → RuleMakes P L r a o c
    ended_some o c k =
        let u = reached (Lists binding_cmp (IsSeen (Match L r.inputs a))) (Extend L (calls P) (avoiding a) r.extras) (map bound es) these in
        final_some P L r a o u.between (map bound es) (listing_in binding_cmp (IsSeen (Match L r.inputs a)) u.between u.before) u.behind c k

    -- where none does, the rule does not have them
    pub ended_none : (o : Tree) → ((c : Binding) → In c (map bound es) → MakeList (calls P) c r.outputs (value o) → ⊥) → ¬ RuleHas P L r a o
    ended_none o none =
        let u = reached (Lists binding_cmp (IsSeen (Match L r.inputs a))) (Extend L (calls P) (avoiding a) r.extras) (map bound es) these in
        final_none P L r a o u.between (map bound es) (listing_in binding_cmp (IsSeen (Match L r.inputs a)) u.between u.before) u.behind none

-- ---- places

-- what two rules at one place are
some_same : {A : Type 0} {x y : A} (o : Option A) → o ≡ Some x → o ≡ Some y → x ≡ y
some_same {x = x} {y = y} o d e = let f : Some x ≡ Some y = sym d ∙ e in cc

-- a place has one rule, and its judgement one language
one_rule : (P : Program) (j : List ℕ) (i : ℕ) (L M : Language) (r q : JudgementRule) → IsRuleAt P j L i r → IsRuleAt P j M i q → (L ≡ M) × (r ≡ q)
one_rule P j i L M r q h k =
    let e : h.judgement ≡ k.judgement = some_same _ h.named k.named in (
      some_same _ (ap (λ (J : Judgement). language_named P J.language) (sym e) ∙ h.spoken) k.spoken,
      some_same _ (ap (λ (J : Judgement). slice_get J.rules i) (sym e) ∙ h.there) k.there,
    )

-- so the ends of a rule are those of its place
pub ends_there : (P : Program) (j : List ℕ) (i : ℕ) (L : Language) (r : JudgementRule) (a : Tree) (es : List End) → IsRuleAt P j L i r
    → AreEnds P L r a es → AreEndsAt P j i a es
ends_there P j i L r a es h k M q g =
    let e = one_rule P j i L M r q h g in
    subst (λ (N : Language). AreEnds P N q a es) e.0 (subst (λ (x : JudgementRule). AreEnds P L x a es) e.1 k)

-- the rule at a place
pub rule_there : (P : Program) (j : List ℕ) (L : Language) (rs : List JudgementRule) (i : ℕ) (r : JudgementRule) → AreRulesOf P j L rs
    → slice_get rs i ≡ Some r → IsRuleAt P j L i r
rule_there P j L rs i r h e = record {
  judgement = h.judgement;
  named = h.named;
  spoken = h.spoken;
  there = subst (λ (xs : List JudgementRule). slice_get xs i ≡ Some r) (sym h.rules) e;
}

-- ---- what is kept

-- what is found among what is kept
pub kept_ends : (P : Program) (s : Store) (j : List ℕ) (i : ℕ) (a : Tree) (es : List End) → KeepsEnds P s → IsKept s.kept.items j i a es
    → AreEndsAt P j i a es
kept_ends P s j i a es h k =
    subst (λ (xs : List End). AreEndsAt P j i a xs) k.ends
    (subst (λ (t : Tree). AreEndsAt P j i t k.kept.ends.items) k.inputs
    (subst (λ (n : ℕ). AreEndsAt P j n (tree_of k.kept.inputs) k.kept.ends.items) k.place
    (subst (λ (x : List ℕ). AreEndsAt P x k.kept.place (tree_of k.kept.inputs) k.kept.ends.items) k.judgement (h.all k.kept k.member))))

-- nothing is kept
pub keeps_none : (P : Program) (s : Store) → s.kept.items ≡ [] → KeepsEnds P s
keeps_none P s e = record { all = λ k i. nothing k (subst (In k) e i) }
  where
    nothing : (k : Kept) → In k [] → AreEndsAt P k.judgement k.place (tree_of k.inputs) k.ends.items
    nothing k z = elim z [ ]

-- one more is kept
pub keeps_more : (P : Program) (s o : Store) (n : Kept) (j : List ℕ) (a : Tree) (es : List End) → KeepsEnds P s
    → ((k : Kept) → In k o.kept.items → In k s.kept.items ⊎ (k ≡ n)) → n.judgement ≡ j → tree_of n.inputs ≡ a
    → n.ends.items ≡ es → AreEndsAt P j n.place a es → KeepsEnds P o
keeps_more P s o n j a es h f d e c g = record {
  all = λ k i. elim (f k i) [
    | inl z ↦ h.all k z
    | inr z ↦ subst (λ (x : Kept). AreEndsAt P x.judgement x.place (tree_of x.inputs) x.ends.items) (sym z) this
  ];
}
  where
    this : AreEndsAt P n.judgement n.place (tree_of n.inputs) n.ends.items
    this = subst (λ (xs : List End). AreEndsAt P n.judgement n.place (tree_of n.inputs) xs) (sym c)
        (subst (λ (t : Tree). AreEndsAt P n.judgement n.place t es) (sym e)
        (subst (λ (x : List ℕ). AreEndsAt P x n.place a es) (sym d) g))

-- ---- results

-- what follows of two clauses on one result
pub ok_both : {A E : Type 0} (r : Result A E) (X Y Z : A → Type 0) → ((x : A) → X x → Y x → Z x) → IfOk r X → IfOk r Y → IfOk r Z
ok_both (Ok x) X Y Z f h k = f x h k
ok_both (Err e) X Y Z f h k = h

-- ---- ends that are collected

-- before the first
pub bound-none : (es : List End) (bs : List Binding) → es ≡ [] → map bound es ++ bs ≡ bs
bound-none es bs e = ap (λ (xs : List End). map bound xs ++ bs) e

pub only-none : (R : End → Type 0) (es : List End) → es ≡ [] → (x : End) → In x es → R x
only-none R es e x i = no_member (subst (In x) e i)

-- one more
pub bound-more : (es fs : List End) (e : End) (b : Binding) (cs ds bs : List Binding) → fs ≡ es ++ e ∷ [] → bound e ≡ b → cs ≡ b ∷ ds
    → map bound es ++ cs ≡ bs → map bound fs ++ ds ≡ bs
bound-more es fs e b cs ds bs f h k i =
    ap (λ (xs : List End). map bound xs ++ ds) f ∙ one_more es ∙ ap (λ (x : Binding). map bound es ++ x ∷ ds) h
    ∙ ap (λ (xs : List Binding). map bound es ++ xs) (sym k) ∙ i
  where
    one_more : (xs : List End) → map bound (xs ++ e ∷ []) ++ ds ≡ map bound xs ++ bound e ∷ ds
    one_more [] = refl
    one_more (x ∷ xs) = ap (λ (ys : List Binding). bound x ∷ ys) (one_more xs)

-- behind the last
pub bound-all : (es : List End) (cs bs : List Binding) → cs ≡ [] → map bound es ++ cs ≡ bs → map bound es ≡ bs
bound-all es cs bs e i = sym (append-nil (map bound es)) ∙ ap (λ (xs : List Binding). map bound es ++ xs) (sym e) ∙ i

-- what holds of all of them holds of one more
pub only-more : (R : End → Type 0) (es fs : List End) (e : End) → fs ≡ es ++ e ∷ [] → R e → ((x : End) → In x es → R x)
    → (x : End) → In x fs → R x
only-more R es fs e f h k x i = elim (in-put es fs e x f i) [
  | inl z ↦ k x z
  | inr z ↦ subst R (sym z) h
]

-- ---- what is put

-- of no more than before, and one more
pub put-more : (xs ys zs : List Kept) (n k : Kept) → ((q : Kept) → In q ys → In q xs) → zs ≡ ys ++ n ∷ [] → In k zs → In k xs ⊎ (k ≡ n)
put-more xs ys zs n k f e h = elim (in-put ys zs n k e h) [
  | inl z ↦ inl (f k z)
  | inr z ↦ inr z
]
