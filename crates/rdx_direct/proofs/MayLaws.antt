-- Patterns that do not match a term, as their form tells.
use Rattle.std.proofs.Common.{◌≡◌, Bool as Truth, IsFalse, Option, ℕ, List, [], ◌∷◌, refl, subst}
use Rattle.rdx_term.specs.Tree.{Tree, Trees, cons, list, trees}
use Rattle.rdx_term.specs.Tree.{nil as no_trees}
use Rattle.rdx_term.specs.AtPaths.{tree_at, context_at}
use Rattle.rdx_term.specs.Bare.{bare}
use Rattle.rdx_lang.proofs.RuleSteps.{ItemSplit, at_first, at_later, item_inside, item_splits, kind_inside, list_inside, lit_inside, lit_splits, seq_inside, seq_splits}
use Rattle.rdx_lang.specs.Bindings.{Binding}
use Rattle.rdx_lang.specs.Patterns.{Pattern, Items, nil, one, lit, seq, of_kind, Language}
use Rattle.rdx_lang.specs.Rules.{Match, MatchItems, Split, SplitItems, split_seq, is_of_kind}
use Rattle.rdx_lang.specs.declared.pattern.Kind.{Kind}
use Rattle.rdx_bind.proofs.SplitRules.{at_its_path}
use Rattle.rdx_bind.specs.Searching.{MatchesNone}
use Rattle.rdx_direct.proofs.ItemLaws.{no_term}
use Rattle.rdx_direct.specs.Inside.Reaching.{AreApart, IsApart, ItemsMatchNone}

module _ {L : Language} where
  -- a kind that the term is not of
  pub kind_never : {k : Kind} {p : Pattern} (t : Tree) (so : Truth) → p ≡ of_kind k → (IsFalse so → IsFalse (is_of_kind L k t)) → IsFalse so → MatchesNone L p t
  kind_never {k} t so e f h b m =
      let i = kind_inside (subst (λ q. Match L q t b) e m) in
      let z : IsFalse (is_of_kind L k t) = f h in
      absurd cc

  -- a list pattern whose items do not match
  pub seq_never : {ps : Items} {ts : Trees} {p : Pattern} {t : Tree} {m : Option ℕ} (so : Truth) → p ≡ seq ps → t ≡ list m ts → (IsFalse so → ItemsMatchNone L ps ts) → IsFalse so → MatchesNone L p t
  seq_never {ps} {ts} {p} {t} {m} so e f n h b k = n h b (list_inside (subst (λ u. Match L (seq ps) u b) f (subst (λ q. Match L q t b) e k)))

  -- an item with no term
  pub never_short : {p : Pattern} {ps qs : Items} {us : Trees} → qs ≡ one p ps → us ≡ no_trees → ItemsMatchNone L qs us
  never_short {p} {ps} {qs} {us} e f b m = no_term (subst (λ x. MatchItems L (one p ps) x b) f (subst (λ x. MatchItems L x us b) e m))

  -- an item that does not match
  pub never_first : {p : Pattern} {ps qs : Items} {t : Tree} {ts us : Trees} → qs ≡ one p ps → us ≡ cons t ts → MatchesNone L p t → ItemsMatchNone L qs us
  never_first {p} {ps} {qs} {t} {ts} {us} e f n b m = let i = item_inside (subst (λ x. MatchItems L (one p ps) x b) f (subst (λ x. MatchItems L x us b) e m)) in n i.first i.first_matched

  -- items behind it that do not
  pub never_next : {p : Pattern} {ps qs : Items} {t : Tree} {ts us : Trees} → qs ≡ one p ps → us ≡ cons t ts → ItemsMatchNone L ps ts → ItemsMatchNone L qs us
  never_next {p} {ps} {qs} {t} {ts} {us} e f n b m = let i = item_inside (subst (λ x. MatchItems L (one p ps) x b) f (subst (λ x. MatchItems L x us b) e m)) in n i.rest i.rest_matched

  -- terms behind the last item
  pub never_end : {qs : Items} (ts : List Tree) → qs ≡ nil → (ts ≡ [] → ⊥) → ItemsMatchNone L qs (trees ts)
  never_end {qs} ts e f b m = ended ts f (subst (λ x. MatchItems L x (trees ts) b) e m)
    where
      ended : (us : List Tree) → (us ≡ [] → ⊥) → MatchItems L nil (trees us) b → ⊥
      ended [] g k = g refl
      ended (u ∷ us) g k = elim k [ ]

  -- a literal that the term is not
  pub lit_apart : {u : Tree} {p : Pattern} {t : Tree} → p ≡ lit u → (bare t ≡ bare u → ⊥) → IsApart L p t
  lit_apart {u} {p} {t} e f = record {
    match_none = λ b m. f (lit_inside (subst (λ q. Match L q t b) e m)).0;
    split_none = λ s k. lit_splits (subst (λ q. Split L q t (context_at t s.path) (tree_at t s.path) s.binding) e k.split);
  }

  -- an item with no term
  pub apart_short : {p : Pattern} {ps qs : Items} {us : Trees} → qs ≡ one p ps → us ≡ no_trees → AreApart L qs us
  apart_short {p} {ps} {qs} {us} e f = record {
    match_none = never_short e f;
    split_none = λ k D s b m. no_split (subst (λ x. SplitItems L (one p ps) x k D s b) f (subst (λ x. SplitItems L x us k D s b) e m));
  }
    where
      no_split : {k : ℕ} {D s : Tree} {b : Binding} → SplitItems L (one p ps) no_trees k D s b → ⊥
      no_split m = elim m [ ]

  -- an item that neither matches nor splits its term
  pub apart_first : {p : Pattern} {ps qs : Items} {t : Tree} {ts us : Trees} → qs ≡ one p ps → us ≡ cons t ts → IsApart L p t → AreApart L qs us
  apart_first {p} {ps} {qs} {t} {ts} {us} e f a = record {
    match_none = never_first e f a.match_none;
    split_none = λ k D s b m. no_split (item_splits (subst (λ x. SplitItems L (one p ps) x k D s b) f (subst (λ x. SplitItems L x us k D s b) e m)));
  }
    where
      no_split : {k : ℕ} {D s : Tree} {b : Binding} → ItemSplit L p ps t ts k D s b → ⊥
      no_split (at_first {D = D} {s = s} {c = c} h g j) = a.split_none _ (at_its_path h)
      no_split (at_later {c = c} h g j) = a.match_none c h

  -- a list pattern whose items neither match nor split
  pub seq_apart : {ps : Items} {ts : Trees} {p : Pattern} {t : Tree} {m : Option ℕ} → p ≡ seq ps → t ≡ list m ts → AreApart L ps ts → IsApart L p t
  seq_apart {ps} {ts} {p} {t} {m} e f a = record {
    match_none = λ b k. a.match_none b (list_inside (subst (λ u. Match L (seq ps) u b) f (subst (λ q. Match L q t b) e k)));
    split_none = λ s k. no_split (subst (λ u. Split L (seq ps) u (context_at t s.path) (tree_at t s.path) s.binding) f (subst (λ q. Split L q t (context_at t s.path) (tree_at t s.path) s.binding) e k.split));
  }
    where
      no_split : {C s : Tree} {b : Binding} → Split L (seq ps) (list m ts) C s b → ⊥
      no_split (split_seq {k = k} {D = D} h g) = a.split_none k D _ _ h

  -- a list pattern and what is no list
  pub atom_apart : {ps : Items} {p : Pattern} {t : Tree} → p ≡ seq ps → ((m : Option ℕ) (ts : Trees) → t ≡ list m ts → ⊥) → IsApart L p t
  atom_apart {ps} {p} {t} e n = record {
    match_none = λ b k. let i = seq_inside (subst (λ q. Match L q t b) e k) in n i.mark i.items i.same;
    split_none = λ s k. let i = seq_splits (subst (λ q. Split L q t (context_at t s.path) (tree_at t s.path) s.binding) e k.split) in n i.mark i.items i.same;
  }
