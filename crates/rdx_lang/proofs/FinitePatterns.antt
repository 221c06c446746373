-- A pattern has finitely many bindings and splits at a term where those that it is made of have, for each form of pattern.
use Rattle.std.proofs.Common.{◌≡◌, ℕ, zero, suc, Bool, true, false, ◌⊎◌, inl, inr, List, Option, Some, refl, sym, subst}
use Rattle.std.specs.Prelude.{eqb}
use Rattle.std.specs.List.{starts_with}
use Rattle.rdx_term.specs.Bare.{bare}
use Rattle.rdx_term.specs.Fill.{fill_of}
use Rattle.rdx_term.specs.Items.{put_at}
use Rattle.rdx_term.specs.Tree as tree
use Rattle.rdx_term.specs.Tree.{Tree, Trees}
use Rattle.rdx_lang.specs.Bindings.{Binding, no_names, one_name, one_differs, HasAscendingNames}
use Rattle.rdx_lang.specs.Bindings.{one as one_term}
use Rattle.rdx_lang.specs.Decompositions.{Decomposition}
use Rattle.rdx_lang.specs.Inside.Alternatives.{AnyAlternative, AnySplit}
use Rattle.rdx_lang.specs.Join.{IsJoin}
use Rattle.rdx_lang.specs.Listing.{SplitsInto}
use Rattle.rdx_lang.specs.Members.{In}
use Rattle.rdx_lang.specs.Patterns.{Pattern, wild, of_kind, except, prefix, hole, lit, nt, named, differ, in_hole, hide_hole, closed, seq, Items, nil, one, Definition, Language}
use Rattle.rdx_lang.specs.References.{is_same}
use Rattle.rdx_lang.specs.Rules.{Match, MatchItems, IsAlternative, is_of_kind, is_one_of, match_wild, match_kind, match_except, match_prefix, match_hole, match_lit, match_nt, match_named, match_differ, match_in_hole, match_hide_hole, match_closed, match_seq, match_none, match_one}
use Rattle.rdx_lang.specs.Rules.{Split, SplitItems, split_hole, split_nt, split_named, split_differ, split_in_hole, split_closed, split_seq, split_here, split_behind}
use Rattle.rdx_lang.specs.declared.pattern.Kind.{Kind}
use Rattle.rdx_lang.specs.declared.pattern.Ref.{Ref}
use Rattle.rdx_lang.proofs.Finite.{Finite, Comes, IsImage, finite_none, finite_one, finite_as, finite_either, finite_comes, finite_by, finite_images}
use Rattle.rdx_lang.proofs.FiniteJoins.{same_terms, finite_joins, finite_made}
use Rattle.rdx_lang.proofs.NameLaws.{match-ascends, items-ascends, split-ascends, split_items-ascends}
use Rattle.rdx_lang.proofs.Recursion.{Decided, same-by}
use Rattle.rdx_lang.proofs.RuleSteps.{wild_inside, kind_inside, hole_inside, lit_inside, nt_inside, named_inside, differ_inside, in_hole_inside, hide_hole_inside, closed_inside, seq_inside, list_inside, none_inside, item_inside}
use Rattle.rdx_lang.proofs.RuleSteps.{wild_splits, kind_splits, except_splits, prefix_splits, lit_splits, hide_hole_splits, hole_splits, nt_splits, named_splits, differ_splits, in_hole_splits, closed_splits, seq_splits, item_splits, none_splits}
use Rattle.rdx_lang.proofs.RuleSteps.{NamedParts, DifferParts, ItemParts, InHoleParts, NamedSplit, DifferSplit, InHoleSplit, ItemSplit, at_first, at_later}

-- p matches t with finitely many bindings, and splits it in finitely many ways
pub record FinitelyMany (L : Language) (p : Pattern) (t : Tree) : Type 0 where
  pub matches : Finite (Match L p t)
  pub splits : Finite (SplitsInto L p t)

-- what one item of a list is split into, with the place of the item
pub record ItemDecomposition : Type 0 where
  pub place : ℕ
  pub inner : Decomposition

-- one item splits so, and the others match
abbrev pub ItemSplitsInto : Language → Items → Trees → ItemDecomposition → Type 0
ItemSplitsInto L ps ts x = SplitItems L ps ts x.place x.inner.context x.inner.part x.inner.binding

-- the items ps match ts with finitely many bindings, and one of them splits in finitely many ways
pub record FinitelyManyItems (L : Language) (ps : Items) (ts : Trees) : Type 0 where
  pub matches : Finite (MatchItems L ps ts)
  pub splits : Finite (ItemSplitsInto L ps ts)

-- ---- decompositions made of others

-- the same context and part, with this binding
abbrev with_binding : Decomposition → Binding → Decomposition
with_binding d b = record { context = d.context; part = d.part; binding = b }

-- no names, whatever was bound
abbrev no_names_of : Binding → Binding
no_names_of c = no_names

-- the same context and part, with no names
abbrev nameless : Decomposition → Decomposition
nameless d = with_binding d no_names

-- the second context in the hole of the first, with the second part and this binding
abbrev inside_of : Decomposition → Decomposition → Binding → Decomposition
inside_of d e b = record { context = fill_of d.context e.context; part = e.part; binding = b }

-- the list around the context of an item
abbrev around : Trees → ItemDecomposition → Decomposition
around ts x = record {
  context = tree.list (Some x.place) (put_at ts x.place x.inner.context);
  part = x.inner.part;
  binding = x.inner.binding;
}

-- the first item is split so
abbrev as_first : Decomposition → Binding → ItemDecomposition
as_first d b = record { place = zero; inner = with_binding d b }

-- the same, one item later
abbrev as_later : ItemDecomposition → Binding → ItemDecomposition
as_later x b = record { place = suc x.place; inner = with_binding x.inner b }

-- ---- patterns without parts

-- one binding or none, by a test
finite_when : (R : Binding → Type 0) (b : Bool) → (b ≡ true → R no_names) → ((c : Binding) → R c → (b ≡ true) × (c ≡ no_names)) → Finite R
finite_when R true f g = finite_one R no_names (f refl) (λ c r. (g c r).1)
finite_when R false f g = finite_none R (λ c r. let e = (g c r).0 in absurd cc)

module _ (L : Language) where
  -- where nothing is split, only the bindings count
  no_splits : (p : Pattern) (t : Tree) → Finite (Match L p t) → ((C s : Tree) (b : Binding) → Split L p t C s b → ⊥) → FinitelyMany L p t
  no_splits p t f n = record { matches = f; splits = finite_none (SplitsInto L p t) (λ d h. n d.context d.part d.binding h) }

  -- `_`
  pub finite_wild : (t : Tree) → FinitelyMany L wild t
  finite_wild t = no_splits wild t (finite_one (Match L wild t) no_names match_wild (λ b m. wild_inside m)) (λ C s b h. wild_splits h)

  -- a built-in name
  pub finite_kind : (k : Kind) (t : Tree) → FinitelyMany L (of_kind k) t
  finite_kind k t = no_splits (of_kind k) t matches (λ C s b h. kind_splits h)
    where
      matches : Finite (Match L (of_kind k) t)
      matches = finite_when (Match L (of_kind k) t) (is_of_kind L k t) (λ e. match_kind e) (λ b m. kind_inside m)

  -- the matches of `variable-except`
  excepted : (rs : List (List ℕ)) (t : Tree) → Finite (Match L (except rs) t)
  excepted rs tree.hole = finite_none (Match L (except rs) tree.hole) (λ b m. elim m [ ])
  excepted rs (tree.integer z) = finite_none (Match L (except rs) (tree.integer z)) (λ b m. elim m [ ])
  excepted rs (tree.truth h) = finite_none (Match L (except rs) (tree.truth h)) (λ b m. elim m [ ])
  excepted rs (tree.text x) = finite_none (Match L (except rs) (tree.text x)) (λ b m. elim m [ ])
  excepted rs (tree.symbol x) = by_test (is_one_of rs x) refl
    where
      by_test : (b : Bool) → is_one_of rs x ≡ b → Finite (Match L (except rs) (tree.symbol x))
      by_test true e = finite_none (Match L (except rs) (tree.symbol x)) excluded
        where
          excluded : (c : Binding) → Match L (except rs) (tree.symbol x) c → ⊥
          excluded c (match_except f) = absurd cc
      by_test false e = finite_one (Match L (except rs) (tree.symbol x)) no_names (match_except e) one_way
        where
          one_way : (c : Binding) → Match L (except rs) (tree.symbol x) c → c ≡ no_names
          one_way c (match_except f) = refl
  excepted rs (tree.list m ts) = finite_none (Match L (except rs) (tree.list m ts)) (λ b k. elim k [ ])

  -- `variable-except`
  pub finite_except : (rs : List (List ℕ)) (t : Tree) → FinitelyMany L (except rs) t
  finite_except rs t = no_splits (except rs) t (excepted rs t) (λ C s b h. except_splits h)

  -- the matches of `variable-prefix`
  prefixed : (r : List ℕ) (t : Tree) → Finite (Match L (prefix r) t)
  prefixed r tree.hole = finite_none (Match L (prefix r) tree.hole) (λ b m. elim m [ ])
  prefixed r (tree.integer z) = finite_none (Match L (prefix r) (tree.integer z)) (λ b m. elim m [ ])
  prefixed r (tree.truth h) = finite_none (Match L (prefix r) (tree.truth h)) (λ b m. elim m [ ])
  prefixed r (tree.text x) = finite_none (Match L (prefix r) (tree.text x)) (λ b m. elim m [ ])
  prefixed r (tree.symbol x) = finite_when (Match L (prefix r) (tree.symbol x)) (starts_with eqb x r) (λ e. match_prefix e) one_way
    where
      one_way : (c : Binding) → Match L (prefix r) (tree.symbol x) c → (starts_with eqb x r ≡ true) × (c ≡ no_names)
      one_way c (match_prefix f) = (f, refl)
  prefixed r (tree.list m ts) = finite_none (Match L (prefix r) (tree.list m ts)) (λ b k. elim k [ ])

  -- `variable-prefix`
  pub finite_prefix : (r : List ℕ) (t : Tree) → FinitelyMany L (prefix r) t
  finite_prefix r t = no_splits (prefix r) t (prefixed r t) (λ C s b h. prefix_splits h)

  -- a literal
  pub finite_lit : (u t : Tree) → FinitelyMany L (lit u) t
  finite_lit u t = no_splits (lit u) t (by_test (same_terms (bare t) (bare u))) (λ C s b h. lit_splits h)
    where
      by_test : Decided (bare t ≡ bare u) → Finite (Match L (lit u) t)
      by_test (inl e) = finite_one (Match L (lit u) t) no_names (match_lit e) (λ b m. (lit_inside m).1)
      by_test (inr n) = finite_none (Match L (lit u) t) (λ b m. n (lit_inside m).0)

  -- `hole` matches the hole, and splits each term in one way
  pub finite_hole : (t : Tree) → FinitelyMany L hole t
  finite_hole t = record {
    matches = by_test (same_terms t tree.hole);
    splits = finite_one (SplitsInto L hole t) whole split_hole one_way;
  }
    where
      by_test : Decided (t ≡ tree.hole) → Finite (Match L hole t)
      by_test (inl e) = finite_one (Match L hole t) no_names (subst (λ (u : Tree). Match L hole u no_names) (sym e) match_hole) (λ b m. (hole_inside m).1)
      by_test (inr n) = finite_none (Match L hole t) (λ b m. n (hole_inside m).0)

      whole : Decomposition
      whole = record { context = tree.hole; part = t; binding = no_names }

      one_way : (d : Decomposition) → SplitsInto L hole t d → d ≡ whole
      one_way d h = let e = hole_splits h in λ i. record { context = e.0 i; part = e.1 i; binding = e.2 i }

  -- ---- patterns with a name, or with a mismatch name

  module _ (added : Tree → Binding) (maps : (u : Tree) → HasAscendingNames (added u)) where
    -- b is c joined with what is added for the term
    abbrev AddedTo : Tree → Binding → Binding → Type 0
    AddedTo t c b = IsJoin c (added t) b

    -- e is d with what is added for the context
    abbrev AddedInto : Decomposition → Decomposition → Type 0
    AddedInto d e = IsImage (AddedTo d.context d.binding) (with_binding d) e

    -- p matches and splits as q does, with something added
    finite_added : (p q : Pattern) (t : Tree)
        → ((b : Binding) → Comes (Match L q t) (AddedTo t) b → Match L p t b)
        → ((b : Binding) → Match L p t b → Comes (Match L q t) (AddedTo t) b)
        → ((e : Decomposition) → Comes (SplitsInto L q t) AddedInto e → SplitsInto L p t e)
        → ((e : Decomposition) → SplitsInto L p t e → Comes (SplitsInto L q t) AddedInto e)
        → FinitelyMany L q t → FinitelyMany L p t
    finite_added p q t to_match from_match to_split from_split f = record {
      matches = finite_by (Match L q t) (AddedTo t) (Match L p t) to_match from_match f.matches joined;
      splits = finite_by (SplitsInto L q t) AddedInto (SplitsInto L p t) to_split from_split f.splits made;
    }
      where
        joined : (c : Binding) → Match L q t c → Finite (AddedTo t c)
        joined c m = finite_joins c (added t) (match-ascends m) (maps t)

        made : (d : Decomposition) → SplitsInto L q t d → Finite (AddedInto d)
        made d h = finite_made (with_binding d) d.binding (added d.context) (split-ascends h) (maps d.context)

  -- a pattern with a name, where there are finitely many for its part
  pub finite_named : (x : List ℕ) (q : Pattern) (t : Tree) → FinitelyMany L q t → FinitelyMany L (named x q) t
  finite_named x q t f =
      finite_added (λ u. one_name x (one_term u)) (λ u. ((tt, tt), (tt, tt))) (named x q) q t (λ b c. match_named c.has c.by) from_match to_split from_split f
    where
      from_match : (b : Binding) → Match L (named x q) t b → Comes (Match L q t) (λ c. IsJoin c (one_name x (one_term t))) b
      from_match b m = let n : NamedParts L x q t b = named_inside m in record { from = n.inside; has = n.matched; by = n.joined }

      to_split : (e : Decomposition)
          → Comes (SplitsInto L q t) (λ d. IsImage (λ b. IsJoin d.binding (one_name x (one_term d.context)) b) (with_binding d)) e
          → SplitsInto L (named x q) t e
      to_split e c = subst (SplitsInto L (named x q) t) (sym c.by.by) (split_named c.has c.by.has)

      from_split : (e : Decomposition) → SplitsInto L (named x q) t e
          → Comes (SplitsInto L q t) (λ d. IsImage (λ b. IsJoin d.binding (one_name x (one_term d.context)) b) (with_binding d)) e
      from_split e h =
          let n : NamedSplit L x q t e.context e.part e.binding = named_splits h in
          record { from = with_binding e n.inside; has = n.split; by = record { from = e.binding; has = n.joined; by = refl } }

  -- and one with a mismatch name
  pub finite_differ : (x : List ℕ) (q : Pattern) (t : Tree) → FinitelyMany L q t → FinitelyMany L (differ x q) t
  finite_differ x q t f =
      finite_added (one_differs x) (λ u. (tt, ((tt, tt), ((tt, tt), tt)))) (differ x q) q t (λ b c. match_differ c.has c.by) from_match to_split from_split f
    where
      from_match : (b : Binding) → Match L (differ x q) t b → Comes (Match L q t) (λ c. IsJoin c (one_differs x t)) b
      from_match b m = let n : DifferParts L x q t b = differ_inside m in record { from = n.inside; has = n.matched; by = n.joined }

      to_split : (e : Decomposition)
          → Comes (SplitsInto L q t) (λ d. IsImage (λ b. IsJoin d.binding (one_differs x d.context) b) (with_binding d)) e
          → SplitsInto L (differ x q) t e
      to_split e c = subst (SplitsInto L (differ x q) t) (sym c.by.by) (split_differ c.has c.by.has)

      from_split : (e : Decomposition) → SplitsInto L (differ x q) t e
          → Comes (SplitsInto L q t) (λ d. IsImage (λ b. IsJoin d.binding (one_differs x d.context) b) (with_binding d)) e
      from_split e h =
          let n : DifferSplit L x q t e.context e.part e.binding = differ_splits h in
          record { from = with_binding e n.inside; has = n.split; by = record { from = e.binding; has = n.joined; by = refl } }

  -- ---- patterns whose names are forgotten

  -- q matches with names that are forgotten: b is none
  abbrev Forgetful : Pattern → Tree → Binding → Type 0
  Forgetful q t b = IsImage (Match L q t) no_names_of b

  -- q splits so, with names that are forgotten
  abbrev SplitsForgetful : Pattern → Tree → Decomposition → Type 0
  SplitsForgetful q t d = IsImage (SplitsInto L q t) nameless d

  -- a closed pattern, where there are finitely many for its part
  pub finite_closed : (q : Pattern) (t : Tree) → FinitelyMany L q t → FinitelyMany L (closed q) t
  finite_closed q t f = record {
    matches = finite_as (Forgetful q t) (Match L (closed q) t) to_match from_match (finite_images (Match L q t) no_names_of f.matches);
    splits = finite_as (SplitsForgetful q t) (SplitsInto L (closed q) t) to_split from_split (finite_images (SplitsInto L q t) nameless f.splits);
  }
    where
      to_match : (b : Binding) → Forgetful q t b → Match L (closed q) t b
      to_match b c = subst (Match L (closed q) t) (sym c.by) (match_closed c.has)

      from_match : (b : Binding) → Match L (closed q) t b → Forgetful q t b
      from_match b m = let n = closed_inside m in record { from = n.0.binding; has = n.0.matched; by = n.1 }

      to_split : (e : Decomposition) → SplitsForgetful q t e → SplitsInto L (closed q) t e
      to_split e c = subst (SplitsInto L (closed q) t) (sym c.by) (split_closed c.has)

      from_split : (e : Decomposition) → SplitsInto L (closed q) t e → SplitsForgetful q t e
      from_split e h =
          let n = closed_splits h in
          record { from = with_binding e n.0.binding; has = n.0.split; by = λ i. with_binding e (n.1 i) }

  -- a hidden pattern splits nothing
  pub finite_hide_hole : (q : Pattern) (t : Tree) → FinitelyMany L q t → FinitelyMany L (hide_hole q) t
  finite_hide_hole q t f = no_splits (hide_hole q) t matches (λ C s b h. hide_hole_splits h)
    where
      matches : Finite (Match L (hide_hole q) t)
      matches = finite_as (Match L q t) (Match L (hide_hole q) t) (λ b m. match_hide_hole m) (λ b m. hide_hole_inside m) f.matches

  -- ---- nonterminals

  -- the definition is one of x, and has the alternative p
  abbrev Gives : Ref → Definition → Pattern → Type 0
  Gives x d p = (x ≡ d.0) × In p d.1

  -- the definition is one of the language
  abbrev Defines : Definition → Type 0
  Defines d = In d L.nonterminals

  -- finitely many alternatives
  finite_alternatives : (x : Ref) → Finite (IsAlternative L x)
  finite_alternatives x =
      finite_by Defines (Gives x) (IsAlternative L x) forth back definitions (λ d i. one_definition d (same-by x d.0 (is_same x d.0) refl))
    where
      definitions : Finite Defines
      definitions = record { members = L.nonterminals; sound = λ d i. i; complete = λ d i. i }

      one_definition : (d : Definition) → Decided (x ≡ d.0) → Finite (Gives x d)
      one_definition d (inl e) = record { members = d.1; sound = λ p i. (e, i); complete = λ p h. h.1 }
      one_definition d (inr n) = finite_none (Gives x d) (λ p h. n h.0)

      forth : (p : Pattern) → Comes Defines (Gives x) p → IsAlternative L x p
      forth p c = record { all = c.from.1; defined = subst Defines (λ i. ((sym c.by.0) i, c.from.1)) c.has; among = c.by.1 }

      back : (p : Pattern) → IsAlternative L x p → Comes Defines (Gives x) p
      back p a = record { from = (x, a.all); has = a.defined; by = (refl, a.among) }

  -- an alternative matches with names that are forgotten
  abbrev MatchesAlternative : Tree → Pattern → Binding → Type 0
  MatchesAlternative t p b = Forgetful p t b

  -- an alternative splits so, with names that are forgotten
  abbrev SplitsAlternative : Tree → Pattern → Decomposition → Type 0
  SplitsAlternative t p d = SplitsForgetful p t d

  -- a nonterminal, where there are finitely many for each of its alternatives
  pub finite_nt : (x : Ref) (t : Tree) → ((p : Pattern) → IsAlternative L x p → FinitelyMany L p t) → FinitelyMany L (nt x) t
  finite_nt x t f = record {
    matches = finite_by (IsAlternative L x) (MatchesAlternative t) (Match L (nt x) t) to_match from_match (finite_alternatives x) matched;
    splits = finite_by (IsAlternative L x) (SplitsAlternative t) (SplitsInto L (nt x) t) to_split from_split (finite_alternatives x) split;
  }
    where
      matched : (p : Pattern) → IsAlternative L x p → Finite (MatchesAlternative t p)
      matched p a = let g = f p a in finite_images (Match L p t) no_names_of g.matches

      split : (p : Pattern) → IsAlternative L x p → Finite (SplitsAlternative t p)
      split p a = let g = f p a in finite_images (SplitsInto L p t) nameless g.splits

      to_match : (b : Binding) → Comes (IsAlternative L x) (MatchesAlternative t) b → Match L (nt x) t b
      to_match b c = subst (Match L (nt x) t) (sym c.by.by) (match_nt c.has c.by.has)

      from_match : (b : Binding) → Match L (nt x) t b → Comes (IsAlternative L x) (MatchesAlternative t) b
      from_match b m =
          let n : AnyAlternative L x t × (b ≡ no_names) = nt_inside m in
          record { from = n.0.pattern; has = n.0.alternative; by = record { from = n.0.binding; has = n.0.matched; by = n.1 } }

      to_split : (e : Decomposition) → Comes (IsAlternative L x) (SplitsAlternative t) e → SplitsInto L (nt x) t e
      to_split e c = subst (SplitsInto L (nt x) t) (sym c.by.by) (split_nt c.has c.by.has)

      from_split : (e : Decomposition) → SplitsInto L (nt x) t e → Comes (IsAlternative L x) (SplitsAlternative t) e
      from_split e h =
          let n : AnySplit L x t e.context e.part × (e.binding ≡ no_names) = nt_splits h in
          record {
            from = n.0.pattern;
            has = n.0.alternative;
            by = record { from = with_binding e n.0.binding; has = n.0.split; by = λ i. with_binding e (n.1 i) };
          }

  -- ---- a pattern in the hole of another

  -- r matches the part, and b is what both bind
  abbrev ThenMatches : Pattern → Decomposition → Binding → Type 0
  ThenMatches r d b = Comes (Match L r d.part) (IsJoin d.binding) b

  -- x is e inside of d, with what both bind
  abbrev Inside : Decomposition → Decomposition → Decomposition → Type 0
  Inside d e x = IsImage (IsJoin d.binding e.binding) (inside_of d e) x

  -- r splits the part, and x is what comes of both
  abbrev ThenSplits : Pattern → Decomposition → Decomposition → Type 0
  ThenSplits r d x = Comes (SplitsInto L r d.part) (Inside d) x

  -- `in-hole`, where there are finitely many for its left part, and for its right part at all that this leaves in the hole
  pub finite_in_hole : (q r : Pattern) (t : Tree) → FinitelyMany L q t → ((d : Decomposition) → SplitsInto L q t d → FinitelyMany L r d.part)
      → FinitelyMany L (in_hole q r) t
  finite_in_hole q r t f g = record {
    matches = finite_by (SplitsInto L q t) (ThenMatches r) (Match L (in_hole q r) t) to_match from_match f.splits matched;
    splits = finite_by (SplitsInto L q t) (ThenSplits r) (SplitsInto L (in_hole q r) t) to_split from_split f.splits split;
  }
    where
      matched : (d : Decomposition) → SplitsInto L q t d → Finite (ThenMatches r d)
      matched d h =
          let k = g d h in
          finite_comes (Match L r d.part) (IsJoin d.binding) k.matches (λ c m. finite_joins d.binding c (split-ascends h) (match-ascends m))

      inside : (d : Decomposition) → SplitsInto L q t d → (e : Decomposition) → SplitsInto L r d.part e → Finite (Inside d e)
      inside d h e l = finite_made (inside_of d e) d.binding e.binding (split-ascends h) (split-ascends l)

      split : (d : Decomposition) → SplitsInto L q t d → Finite (ThenSplits r d)
      split d h = let k = g d h in finite_comes (SplitsInto L r d.part) (Inside d) k.splits (inside d h)

      to_match : (b : Binding) → Comes (SplitsInto L q t) (ThenMatches r) b → Match L (in_hole q r) t b
      to_match b c = match_in_hole c.has c.by.has c.by.by

      from_match : (b : Binding) → Match L (in_hole q r) t b → Comes (SplitsInto L q t) (ThenMatches r) b
      from_match b m =
          let n : InHoleParts L q r t b = in_hole_inside m in
          record {
            from = record { context = n.context; part = n.part; binding = n.outer };
            has = n.split;
            by = record { from = n.inner; has = n.matched; by = n.joined };
          }

      to_split : (x : Decomposition) → Comes (SplitsInto L q t) (ThenSplits r) x → SplitsInto L (in_hole q r) t x
      to_split x c = subst (SplitsInto L (in_hole q r) t) (sym c.by.by.by) (split_in_hole c.has c.by.has refl c.by.by.has)

      from_split : (x : Decomposition) → SplitsInto L (in_hole q r) t x → Comes (SplitsInto L q t) (ThenSplits r) x
      from_split x h =
          let n : InHoleSplit L q r t x.context x.part x.binding = in_hole_splits h in
          record {
            from = record { context = n.first; part = n.part; binding = n.outer };
            has = n.split;
            by = record {
              from = record { context = n.second; part = x.part; binding = n.inner };
              has = n.again;
              by = record { from = x.binding; has = n.joined; by = λ i. record { context = n.filled i; part = x.part; binding = x.binding } };
            };
          }

  -- ---- lists

  -- a list pattern at what is no list
  pub finite_no_list : (ps : Items) (t : Tree) → ((m : Option ℕ) (ts : Trees) → t ≡ tree.list m ts → ⊥) → FinitelyMany L (seq ps) t
  finite_no_list ps t n = no_splits (seq ps) t matches splits
    where
      matches : Finite (Match L (seq ps) t)
      matches = finite_none (Match L (seq ps) t) (λ b m. let l = seq_inside m in n l.mark l.items l.same)

      splits : (C s : Tree) (b : Binding) → Split L (seq ps) t C s b → ⊥
      splits C s b h = let l = seq_splits h in n l.mark l.items l.same

  -- one item splits, and d is the list around its context
  abbrev AroundItem : Items → Trees → Decomposition → Type 0
  AroundItem ps ts d = IsImage (ItemSplitsInto L ps ts) (around ts) d

  -- a list pattern at a list, where there are finitely many for its items
  pub finite_seq : (ps : Items) (m : Option ℕ) (ts : Trees) → FinitelyManyItems L ps ts → FinitelyMany L (seq ps) (tree.list m ts)
  finite_seq ps m ts f = record {
    matches = finite_as (MatchItems L ps ts) (Match L (seq ps) (tree.list m ts)) (λ b k. match_seq k) (λ b k. list_inside k) f.matches;
    splits = finite_as (AroundItem ps ts) (SplitsInto L (seq ps) (tree.list m ts)) to_split from_split around_items;
  }
    where
      around_items : Finite (AroundItem ps ts)
      around_items = finite_images (ItemSplitsInto L ps ts) (around ts) f.splits

      to_split : (d : Decomposition) → AroundItem ps ts d → SplitsInto L (seq ps) (tree.list m ts) d
      to_split d c = subst (SplitsInto L (seq ps) (tree.list m ts)) (sym c.by) (split_seq c.has refl)

      from_list : (C s : Tree) (b : Binding) → Split L (seq ps) (tree.list m ts) C s b
          → AroundItem ps ts (record { context = C; part = s; binding = b })
      from_list C s b (split_seq {k = k} {D = D} h e) = record {
        from = record { place = k; inner = record { context = D; part = s; binding = b } };
        has = h;
        by = λ i. record { context = e i; part = s; binding = b };
      }

      from_split : (d : Decomposition) → SplitsInto L (seq ps) (tree.list m ts) d → AroundItem ps ts d
      from_split d h = from_list d.context d.part d.binding h

  -- no items match no terms
  pub finite_none_left : FinitelyManyItems L nil tree.nil
  finite_none_left = record {
    matches = finite_one (MatchItems L nil tree.nil) no_names match_none (λ b m. none_inside m);
    splits = finite_none (ItemSplitsInto L nil tree.nil) (λ x h. none_splits h);
  }

  -- items without terms
  pub finite_no_term : (p : Pattern) (ps : Items) → FinitelyManyItems L (one p ps) tree.nil
  finite_no_term p ps = record {
    matches = finite_none (MatchItems L (one p ps) tree.nil) (λ b m. elim m [ ]);
    splits = finite_none (ItemSplitsInto L (one p ps) tree.nil) (λ x h. elim h [ ]);
  }

  -- terms without items
  pub finite_no_item : (t : Tree) (ts : Trees) → FinitelyManyItems L nil (tree.cons t ts)
  finite_no_item t ts = record {
    matches = finite_none (MatchItems L nil (tree.cons t ts)) (λ b m. elim m [ ]);
    splits = finite_none (ItemSplitsInto L nil (tree.cons t ts)) (λ x h. none_splits h);
  }

  -- the other items match, and b is what all bind
  abbrev OthersMatch : Items → Trees → Binding → Binding → Type 0
  OthersMatch ps ts c b = Comes (MatchItems L ps ts) (IsJoin c) b

  -- x is d at the first item, with what all bind
  abbrev FirstMade : Decomposition → Binding → ItemDecomposition → Type 0
  FirstMade d c x = IsImage (IsJoin d.binding c) (as_first d) x

  -- the first item splits into d, and the others match
  abbrev FirstSplits : Items → Trees → Decomposition → ItemDecomposition → Type 0
  FirstSplits ps ts d x = Comes (MatchItems L ps ts) (FirstMade d) x

  -- x is y, one item later, with what all bind
  abbrev LaterMade : Binding → ItemDecomposition → ItemDecomposition → Type 0
  LaterMade c y x = IsImage (IsJoin c y.inner.binding) (as_later y) x

  -- the first item matches, and one of the others splits
  abbrev LaterSplits : Items → Trees → Binding → ItemDecomposition → Type 0
  LaterSplits ps ts c x = Comes (ItemSplitsInto L ps ts) (LaterMade c) x

  -- one or the other
  abbrev EitherSplits : Pattern → Items → Tree → Trees → ItemDecomposition → Type 0
  EitherSplits p ps t ts x = Comes (SplitsInto L p t) (FirstSplits ps ts) x ⊎ Comes (Match L p t) (LaterSplits ps ts) x

  -- an item and a term more
  pub finite_one_more : (p : Pattern) (ps : Items) (t : Tree) (ts : Trees) → FinitelyMany L p t → FinitelyManyItems L ps ts
      → FinitelyManyItems L (one p ps) (tree.cons t ts)
  finite_one_more p ps t ts f g = record {
    matches = finite_by (Match L p t) (OthersMatch ps ts) (MatchItems L (one p ps) (tree.cons t ts)) to_match from_match f.matches others;
    splits = finite_as (EitherSplits p ps t ts) (ItemSplitsInto L (one p ps) (tree.cons t ts)) to_split from_split either;
  }
    where
      others : (c : Binding) → Match L p t c → Finite (OthersMatch ps ts c)
      others c m = finite_comes (MatchItems L ps ts) (IsJoin c) g.matches (λ d k. finite_joins c d (match-ascends m) (items-ascends k))

      first : (d : Decomposition) → SplitsInto L p t d → Finite (FirstSplits ps ts d)
      first d h =
          finite_comes (MatchItems L ps ts) (FirstMade d) g.matches
          (λ c k. finite_made (as_first d) d.binding c (split-ascends h) (items-ascends k))

      later : (c : Binding) → Match L p t c → Finite (LaterSplits ps ts c)
      later c m =
          finite_comes (ItemSplitsInto L ps ts) (LaterMade c) g.splits
          (λ y h. finite_made (as_later y) c y.inner.binding (match-ascends m) (split_items-ascends h))

      either : Finite (EitherSplits p ps t ts)
      either =
          finite_either (Comes (SplitsInto L p t) (FirstSplits ps ts)) (Comes (Match L p t) (LaterSplits ps ts))
          (finite_comes (SplitsInto L p t) (FirstSplits ps ts) f.splits first)
          (finite_comes (Match L p t) (LaterSplits ps ts) f.matches later)

      to_match : (b : Binding) → Comes (Match L p t) (OthersMatch ps ts) b → MatchItems L (one p ps) (tree.cons t ts) b
      to_match b c = match_one c.has c.by.has c.by.by

      from_match : (b : Binding) → MatchItems L (one p ps) (tree.cons t ts) b → Comes (Match L p t) (OthersMatch ps ts) b
      from_match b m =
          let n : ItemParts L p ps t ts b = item_inside m in
          record { from = n.first; has = n.first_matched; by = record { from = n.rest; has = n.rest_matched; by = n.joined } }

      to_split : (x : ItemDecomposition) → EitherSplits p ps t ts x → ItemSplitsInto L (one p ps) (tree.cons t ts) x
      to_split x (inl c) = subst (ItemSplitsInto L (one p ps) (tree.cons t ts)) (sym c.by.by.by) (split_here c.has c.by.has c.by.by.has)
      to_split x (inr c) = subst (ItemSplitsInto L (one p ps) (tree.cons t ts)) (sym c.by.by.by) (split_behind c.has c.by.has c.by.by.has)

      from_item : (k : ℕ) (D s : Tree) (b : Binding) → ItemSplit L p ps t ts k D s b
          → EitherSplits p ps t ts (record { place = k; inner = record { context = D; part = s; binding = b } })
      from_item k D s b (at_first {c = c} {d = d} h l j) = inl (record {
        from = record { context = D; part = s; binding = c };
        has = h;
        by = record { from = d; has = l; by = record { from = b; has = j; by = refl } };
      })
      from_item k D s b (at_later {k = i} {c = c} {d = d} m h j) = inr (record {
        from = c;
        has = m;
        by = record {
          from = record { place = i; inner = record { context = D; part = s; binding = d } };
          has = h;
          by = record { from = b; has = j; by = refl };
        };
      })

      from_split : (x : ItemDecomposition) → ItemSplitsInto L (one p ps) (tree.cons t ts) x → EitherSplits p ps t ts x
      from_split x h = from_item x.place x.inner.context x.inner.part x.inner.binding (item_splits h)
