-- The row of a nonterminal has what its alternatives give.
use Rattle.std.proofs.Common.{◌≡◌, ℕ, ◌⊎◌, inl, inr, List, [], ◌∷◌, ◌++◌, length, map, refl, sym, subst, arith}
use Rattle.std.specs.declared.cmp.Ordering.{Ordering}
use Rattle.rdx_term.specs.Order.{tree_cmp}
use Rattle.rdx_term.specs.Tree.{Tree, tree_nodes}
use Rattle.rdx_lang.specs.Bindings.{Binding}
use Rattle.rdx_lang.specs.Empty.{IsEmpty, empty_nt}
use Rattle.rdx_lang.specs.Listing.{IsListing}
use Rattle.rdx_lang.specs.Members.{In, here, there}
use Rattle.rdx_lang.specs.Patterns.{Pattern, nt, Language}
use Rattle.rdx_lang.specs.Rules.{Match, Split, AreAlternatives}
use Rattle.rdx_lang.specs.declared.pattern.Ref.{Ref}
use Rattle.rdx_lang.proofs.Collecting.{In_along, no_member}
use Rattle.rdx_lang.proofs.MemberLaws.{in-append, append-left, append-right}
use Rattle.rdx_lang.proofs.RuleSteps.{nt_inside, nt_splits}
use Rattle.rdx_enum.specs.Inside.Growing.{IsGrown, IsRow}
use Rattle.rdx_enum.specs.Inside.Rows.{Rows, row_at, HaveNodes, Keeps}
use Rattle.rdx_enum.specs.Pool.{IsOver}

module _ (L : Language) (P : List Tree) (n : ℕ) where
  -- the lists have each term of n nodes that p matches, and each context of n nodes into which it splits one
  pub record Has (p : Pattern) (terms contexts : List Tree) : Type 0 where
    pub matched : (t : Tree) (b : Binding) → Match L p t b → IsOver P t → tree_nodes t ≡ n → In t terms
    pub split : (t C s : Tree) (b : Binding) → Split L p t C s b → IsOver P t → tree_nodes C ≡ n → In C contexts

  -- so do lists that have more
  has_more : (p : Pattern) (terms more contexts others : List Tree) → Has p terms contexts → Keeps terms more → Keeps contexts others → Has p more others
  has_more p terms more contexts others h f g = record {
    matched = λ t b m o e. f t (h.matched t b m o e);
    split = λ t C s b m o e. g C (h.split t C s b m o e);
  }

  -- so do lists with all of the row of n of what was grown
  pub has_row : (p : Pattern) (ts cs : Rows) (terms contexts : List Tree) → IsGrown L P p n ts cs → Keeps (row_at ts n) terms → Keeps (row_at cs n) contexts → Has p terms contexts
  has_row p ts cs terms contexts g f h = record {
    matched = λ t b m o e. f t (subst (λ k. In t (row_at ts k)) e (g.matched t b m o (omega arith)));
    split = λ t C s b m o e. h C (subst (λ k. In C (row_at cs k)) e (g.split t C s b m o (omega arith)));
  }

  -- of each of these patterns, but of those that have still to come
  abbrev pub HasBut : List Pattern → List Pattern → List Tree → List Tree → Type 0
  HasBut all rest terms contexts = (p : Pattern) → In p all → Has p terms contexts ⊎ In p rest

  but_next : (all rest behind : List Pattern) (p : Pattern) (terms more contexts others : List Tree) → rest ≡ p ∷ behind → Has p more others → Keeps terms more → Keeps contexts others
      → HasBut all rest terms contexts → HasBut all behind more others
  but_next all rest behind p terms more contexts others e h f g b q i = go (b q i)
    where
      at_rest : In q (p ∷ behind) → Has q more others ⊎ In q behind
      at_rest (here s) = inl (subst (λ r. Has r more others) (sym s) h)
      at_rest (there k) = inr k

      go : Has q terms contexts ⊎ In q rest → Has q more others ⊎ In q behind
      go (inl k) = inl (has_more q terms more contexts others k f g)
      go (inr k) = at_rest (In_along rest (p ∷ behind) e k)

  -- The lists have what these patterns give, but for those that have still to come. All of it has n nodes, and a context of one node is there
  -- only where the nonterminal x is Empty.
  pub record SoFar (x : Ref) (all rest : List Pattern) (terms contexts : List Tree) : Type 0 where
    pub has : HasBut all rest terms contexts
    pub sized_terms : HaveNodes n terms
    pub sized_contexts : HaveNodes n contexts
    pub empty : (C : Tree) → n ≡ 1 → In C contexts → IsEmpty L (nt x)

  pub so_far_start : (x : Ref) (ps : List Pattern) (terms contexts : List Tree) → terms ≡ [] → contexts ≡ [] → SoFar x ps ps terms contexts
  so_far_start x ps terms contexts e f = record {
    has = λ p h. inr h;
    sized_terms = λ t h. no_member (In_along terms [] e h);
    sized_contexts = λ t h. no_member (In_along contexts [] f h);
    empty = λ C d h. no_member (In_along contexts [] f h);
  }

  -- one pattern more
  module _ (x : Ref) (all rest behind : List Pattern) (p : Pattern) (ts cs : Rows) (terms more contexts others : List Tree) (a : AreAlternatives L x all) (i : In p all)
      (r : rest ≡ p ∷ behind) (g : IsGrown L P p n ts cs) (e : more ≡ terms ++ row_at ts n) (f : others ≡ contexts ++ row_at cs n) (s : SoFar x all rest terms contexts) where
    sized : (old row new : List Tree) → HaveNodes n old → HaveNodes n row → new ≡ old ++ row → HaveNodes n new
    sized old row new h k d t j = go (in-append old row t (In_along new (old ++ row) d j))
      where
        go : In t old ⊎ In t row → tree_nodes t ≡ n
        go (inl l) = h t l
        go (inr l) = k t l

    empty_next : (C : Tree) → n ≡ 1 → In C others → IsEmpty L (nt x)
    empty_next C d j = go (in-append contexts (row_at cs n) C (In_along others (contexts ++ row_at cs n) f j))
      where
        go : In C contexts ⊎ In C (row_at cs n) → IsEmpty L (nt x)
        go (inl l) = s.empty C d l
        go (inr l) = empty_nt ((a p).0 i) (g.empty C (subst (λ (k : ℕ). In C (row_at cs k)) d l))

    first_kept : (xs ys zs : List Tree) → zs ≡ xs ++ ys → Keeps xs zs
    first_kept xs ys zs d y h = In_along (xs ++ ys) zs (sym d) (append-left xs ys y h)

    second_kept : (xs ys zs : List Tree) → zs ≡ xs ++ ys → Keeps ys zs
    second_kept xs ys zs d y h = In_along (xs ++ ys) zs (sym d) (append-right xs ys y h)

    pub so_far_next : SoFar x all behind more others
    so_far_next = record {
      has = but_next all rest behind p terms more contexts others r
          (has_row p ts cs more others g (second_kept terms (row_at ts n) more e) (second_kept contexts (row_at cs n) others f))
          (first_kept terms (row_at ts n) more e) (first_kept contexts (row_at cs n) others f) s.has;
      sized_terms = sized terms (row_at ts n) more s.sized_terms (g.sized_terms n) e;
      sized_contexts = sized contexts (row_at cs n) others s.sized_contexts (g.sized_contexts n) f;
      empty = empty_next;
    }

  -- at the end of all, the listings of the lists are the row of the nonterminal
  pub so_far_end : (x : Ref) (all rest : List Pattern) (terms more contexts others : List Tree) → AreAlternatives L x all → rest ≡ [] → SoFar x all rest terms contexts
      → IsListing tree_cmp more (λ t. In t terms) → IsListing tree_cmp others (λ t. In t contexts) → IsRow L P x n more others
  so_far_end x all rest terms more contexts others a e b f g = record {
    matched = λ t c m o l. let k = (nt_inside m).0 in f.complete t ((has k.pattern ((a k.pattern).1 k.alternative)).matched t k.binding k.matched o l);
    split = λ t C s c m o l. let k = (nt_splits m).0 in g.complete C ((has k.pattern ((a k.pattern).1 k.alternative)).split t C s k.binding k.split o l);
    sized_terms = λ t h. b.sized_terms t (f.sound t h);
    sized_contexts = λ t h. b.sized_contexts t (g.sound t h);
    empty = λ C d h. b.empty C d (g.sound C h);
  }
    where
      has : (p : Pattern) → In p all → Has p terms contexts
      has p i = go (b.has p i)
        where
          go : Has p terms contexts ⊎ In p rest → Has p terms contexts
          go (inl h) = h
          go (inr h) = no_member (In_along rest [] e h)

-- ---- listings

-- of what has an empty listing nothing holds
pub none_listed : {A B : Type 0} {cmp : B → B → Ordering} (f : A → B) (xs : List A) (R : B → Type 0) (y : B) → length xs ≡ 0 → IsListing cmp (map f xs) R → R y → ⊥
none_listed f [] R y e l r = no_member (l.complete y r)
none_listed f (x ∷ xs) R y e l r = absurd (omega arith)

-- of what has another it holds of something
pub some_listed : {A B : Type 0} {cmp : B → B → Ordering} (f : A → B) (xs : List A) (R : B → Type 0) → (length xs ≡ 0 → ⊥) → IsListing cmp (map f xs) R → (y : B) × R y
some_listed f [] R e l = absurd (e refl)
some_listed f (x ∷ xs) R e l = (f x, l.sound (f x) (here refl))
