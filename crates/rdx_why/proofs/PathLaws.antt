-- The way that alternatives share, and what the list around the hole says of their splits.
use Rattle.std.proofs.Common.{◌≡◌, ℕ, zero, suc, ◌<◌, Some, List, refl, sym, ◌∙◌, ap, subst, inl, inr}
use Rattle.rdx_term.specs.Items.{trees_count, item_at, put_at}
use Rattle.rdx_term.specs.Tree.{Tree, list, Trees, cons}
use Rattle.rdx_term.specs.Tree.{nil as no_trees}
use Rattle.rdx_term.specs.Tree.{hole as the_hole}
use Rattle.rdx_term.proofs.PutItems.{item_at-put, put_at-put}
use Rattle.rdx_lang.specs.Bindings.{Binding, no_names}
use Rattle.rdx_lang.specs.Members.{In}
use Rattle.rdx_lang.specs.Patterns.{Pattern, nt, seq, Language}
use Rattle.rdx_lang.specs.PatternView.{Slot, items_of}
use Rattle.rdx_lang.specs.Rules.{Match, match_seq, Split, SplitItems, split_seq}
use Rattle.rdx_lang.specs.declared.pattern.Ref.{Ref}
use Rattle.rdx_lang.proofs.RuleSteps.{SomeMatch, ListSplit, list_inside, seq_splits, nt_splits}
use Rattle.rdx_lang.proofs.SplitLaws.{items-along}
use Rattle.rdx_bind.proofs.NoSets.{split-nothing}
use Rattle.rdx_why.specs.Inside.Around.{IsGoing, IsWay, with_hole, NoOtherIsHole, IsHoleList, IsShared, IsPath}
use Rattle.rdx_why.specs.Inside.Forms.{BindsNothing}
use Rattle.rdx_why.proofs.AskedLengths.{split-used}
use Rattle.rdx_why.proofs.HoleLists.{split-round, round-split}

-- what is put at the place does not matter
only-put : (ts : Trees) (k : ℕ) (u : Tree) → NoOtherIsHole (put_at ts k u) k → NoOtherIsHole ts k
only-put no_trees k u o = tt
only-put (cons t ts) zero u o = o
only-put (cons t ts) (suc k) u o = (o.0, only-put ts k u o.1)

-- a nonterminal binds nothing
nt_nothing : (x : Ref) → BindsNothing (nt x)
nt_nothing x = record { names = refl; no_differ = refl }

-- a list around a hole, where the terms are these with something put at the place
hole_list-put : (us ts : Trees) (l k : ℕ) (E U : Tree) → us ≡ put_at ts k E → l ≡ k → IsHoleList us l U → IsHoleList ts k U
hole_list-put us ts l k E U e f a = (
  a.0,
  a.1 ∙ ap (list a.0) (ap (λ (j : ℕ). put_at us j the_hole) f ∙ ap (λ (ws : Trees). put_at ws k the_hole) e ∙ put_at-put ts k E the_hole),
)

-- one that splits so splits by the way
pub shared-path : {L : Language} {qs : List Pattern} {t C s : Tree} {x : Ref} {D U : Tree} {q : Pattern} {b : Binding} → IsShared L qs C x D U
    → In q qs → Split L q t C s b → IsPath L t C s x D U
shared-path {L = L} {t = t} {C = C} {s = s} {x = x} {D = D} {U = U} {q = q} {b = b} w i h = elim (w.all q i) [
  | inl n ↦ absurd (n t s b h)
  | inr g ↦ by_way g.0 g.1 g.2 (seq_splits (subst (λ (p : Pattern). Split L p t C s b) g.2.items h))
]
  where
    by_way : (rs : List Slot) (j : ℕ) → IsWay L D q rs j (nt x) → ListSplit L (items_of rs) t C s b → IsPath L t C s x D U
    by_way rs j y p =
        let both : list (Some w.place) w.items ≡ list (Some p.place) (put_at p.items p.place p.inner) = sym w.context ∙ p.around in
        let k : w.place ≡ p.place = (cc) in
        let us : w.items ≡ put_at p.items p.place p.inner = (cc) in
        let there : p.place < trees_count p.items = (items-along p.split).inside in
        let inner : p.inner ≡ D =
        sym (item_at-put p.items p.place p.inner the_hole there) ∙ ap (λ (ws : Trees). item_at ws p.place the_hole) (sym us)
        ∙ ap (λ (l : ℕ). item_at w.items l the_hole) (sym k) ∙ w.inner in
        let items : SplitItems L (items_of rs) p.items p.place D s b =
        subst (λ (E : Tree). SplitItems L (items_of rs) p.items p.place E s b) inner p.split in
        let round = split-round L (nt x) (nt_nothing x) rs j y.goes y.alone items in
        let c : Binding = round.1.binding in
        let alone : NoOtherIsHole (put_at p.items p.place p.inner) p.place =
        subst (λ (l : ℕ). NoOtherIsHole (put_at p.items p.place p.inner) l) k (subst (λ (ws : Trees). NoOtherIsHole ws w.place) us w.only) in
        record {
          mark = p.mark;
          items = p.items;
          place = p.place;
          same = p.same;
          context = p.around ∙ ap (λ (E : Tree). list (Some p.place) (put_at p.items p.place E)) inner;
          there = there;
          splits =
              subst (λ (c : Binding). Split L (nt x) (item_at p.items p.place the_hole) D s c) (nt_splits {b = c} round.1.split).1 round.1.split;
          only = only-put p.items p.place p.inner alone;
          around = hole_list-put w.items p.items w.place p.place p.inner U us k w.around;
        }

module _ {L : Language} {t C s : Tree} {x : Ref} {D U : Tree} {q p r : Pattern} {rs : List Slot} {i : ℕ} (w : IsPath L t C s x D U)
    (y : IsWay L D q rs i p) (e : p ≡ nt x) (a : r ≡ seq (items_of (with_hole i rs)))
  where
    -- a pattern that binds nothing, whose way is this one, splits so where it is answered around the hole
    pub path-split : BindsNothing q → SomeMatch L r U → Split L q t C s no_names
    path-split n m =
        let z : Match L (seq (items_of (with_hole i rs))) (list w.around.0 (put_at w.items w.place the_hole)) m.binding =
        subst (λ (u : Tree). Match L (seq (items_of (with_hole i rs))) u m.binding) w.around.1
        (subst (λ (v : Pattern). Match L v U m.binding) a m.matched) in
        let h =
        round-split L (nt x) (nt_nothing x) rs i w.items w.place (subst (λ (v : Pattern). IsGoing rs i v) e y.goes) w.only
        (record { binding = no_names; split = w.splits }) (list_inside z) in
        let g : Split L q t C s m.binding =
        subst (λ (v : Pattern). Split L v t C s m.binding) (sym y.items)
        (subst (λ (u : Tree). Split L (seq (items_of rs)) u C s m.binding) (sym w.same) (split_seq h w.context)) in
        subst (λ (b : Binding). Split L q t C s b) (split-nothing n.names n.no_differ g) g

    -- and where it splits so it is answered
    pub split-path : {b : Binding} → Split L q t C s b → Match L r U b
    split-path {b = b} h =
        let g : Split L (seq (items_of rs)) (list w.mark w.items) C s b =
        subst (λ (u : Tree). Split L (seq (items_of rs)) u C s b) w.same (subst (λ (v : Pattern). Split L v t C s b) y.items h) in
        let items = split-used g (record { mark = w.mark; same = refl; there = w.there; around = w.context }) in
        let round = split-round L (nt x) (nt_nothing x) rs i (subst (λ (v : Pattern). IsGoing rs i v) e y.goes) y.alone items in
        subst (λ (v : Pattern). Match L v U b) (sym a)
        (subst (λ (u : Tree). Match L (seq (items_of (with_hole i rs))) u b) (sym w.around.1) (match_seq round.0))
