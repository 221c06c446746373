-- What comes of a pattern matches it, and binds what the state has.
use Rattle.std.proofs.Common.{arith, inl, inr, ◌≡◌, ◌^◌, ℕ, zero, suc, ◌+◌, ◌<◌, ◌++◌, length, Bool, true, false, List, [], ◌∷◌, refl, sym, ap, ◌∙◌, subst, Option, Some, None, true≢false}
use Rattle.std.proofs.lemmas.List.{append-nil, append_assoc}
use Rattle.std.specs.Prelude.{nat_eq, IsTrue, if◌then◌else◌, slice_index_or, codes}
use Rattle.std.specs.List.{starts_with}
use Rattle.std.specs.Str.{IsUtf8}
use Rattle.rdx_term.specs.Building.{list_of, mark_for}
use Rattle.rdx_term.specs.Context.{is_context_at}
use Rattle.rdx_term.specs.Fill.{fill_of, fill_at}
use Rattle.rdx_term.specs.Items.{put_at}
use Rattle.rdx_term.specs.Spelling.{is_name}
use Rattle.rdx_term.specs.Tree.{Tree, Trees, cons, trees, list}
use Rattle.rdx_term.specs.Tree.{hole as the_hole}
use Rattle.rdx_term.proofs.Associates.{fill_of-fill_of}
use Rattle.rdx_term.proofs.Contexts.{is_context-fill_of}
use Rattle.rdx_lang.specs.Bindings.{Value, Binding, Pair, Mismatch, no_names, one_name, bound_names}
use Rattle.rdx_lang.specs.Bindings.{one as one_term, len}
use Rattle.rdx_lang.specs.Collections.{AreSetsOf, sets_of_none, sets_of_more, IsCollection, IsRepetition, without_length, with_length}
use Rattle.rdx_lang.specs.Join.{JoinsSets}
use Rattle.rdx_lang.specs.Literals.{is_mentioned}
use Rattle.rdx_lang.specs.Members.{In, here, there}
use Rattle.rdx_lang.specs.Names.{names, item_names}
use Rattle.rdx_lang.specs.Patterns.{Pattern, wild, of_kind, except, prefix, hole, lit, nt, named, differ, in_hole, hide_hole, closed, seq, Items, nil, one, many, Language}
use Rattle.rdx_lang.specs.Rules.{Match, MatchItems, MatchRun, match_wild, match_kind, match_hole, match_lit, match_named, match_hide_hole, match_in_hole, match_except, match_prefix, is_one_of, match_seq, match_none, match_one, match_many, run_end, run_more, Split, SplitItems, SplitRun, split_hole, split_named, split_in_hole, split_seq, split_here, split_behind, split_many, run_here, run_there, run_behind}
use Rattle.rdx_lang.specs.declared.pattern.Ref.{Ref}
use Rattle.rdx_lang.proofs.CollectionLaws.{BindNames, one_sets_of, some_collection, collection-ascends, repetition-ascends, repetition-names}
use Rattle.rdx_lang.proofs.JoinLaws.{one_name-ascends}
use Rattle.rdx_lang.proofs.MemberLaws.{in-append}
use Rattle.rdx_lang.proofs.NameLaws.{names-ascend, match-ascends, items-ascends, match-names, items-names, split-ascends, split-names, split_items-ascends, split_items-names}
use Rattle.rdx_lang.proofs.SeenListings.{ArePlain}
use Rattle.rdx_lang.proofs.SetJoins.{no_sets_left}
use Rattle.rdx_gen.specs.Generation.{Setting, Inner, Notes, term, items, turns, length_of, context, around, choices, is_hollow, new_length, with_term, for_name, had_or_made}
use Rattle.rdx_gen.specs.Heights.{term_height, place_heights}
use Rattle.rdx_gen.specs.Matching.{IsContextOf}
use Rattle.rdx_gen.specs.NameRules.{Place, places, item_places, length_place, times}
use Rattle.rdx_gen.specs.Outcomes.{Outcome, State, made, after, listed, filled, marked, one_of, found_for}
use Rattle.rdx_gen.specs.Variables.{first_five, behind_prefix, in_sequence}
use Rattle.rdx_gen.specs.Words.{pick}
use Rattle.rdx_gen.proofs.AtomsFit.{Steady, steady, atoms, of_kinds, symbols, free_chosen, begins, free_not}
use Rattle.rdx_gen.proofs.FiveSymbols.{five}
use Rattle.rdx_gen.proofs.NamesKept.{IsStated, Stated, nothing_stated, Later, later_steady, later_wider, later_both, later_parts, stated_on, alone_stated, join_stated, Rules, Part, part_left, part_right, common, Alone, alone_left, alone_right, alone_repeated, alone_before, Kept, kept_on, kept_steady, later_named, stated_named, kept_named, Measured, measured, new_steady}
use Rattle.rdx_gen.proofs.NamesStand.{name_place, mismatch_place, name_counts, item_name_counts, repeated_counts, counted_left, counted_right, some_place, not_inside_itself}
use Rattle.rdx_gen.proofs.SequenceNames.{no_prefix, a_name}
use Rattle.rdx_gen.proofs.WhatCame.{came, moved, limited_moved, filled_moved}

-- ---- what is asked of patterns, and of nonterminals

abbrev mutual
  -- there are five symbols for each pattern of some, and R holds of all nonterminals
  pub IsMakeable : (Ref → Type 0) → Pattern → Type 0
  IsMakeable R wild = Unit {0}
  IsMakeable R (of_kind k) = Unit {0}
  IsMakeable R (except rs) = length rs < 2 ^ 64
  IsMakeable R (prefix r) = IsUtf8 r × IsTrue (is_name r)
  IsMakeable R hole = Unit {0}
  IsMakeable R (lit u) = Unit {0}
  IsMakeable R (nt x) = R x
  IsMakeable R (named x q) = IsMakeable R q
  IsMakeable R (differ x q) = IsMakeable R q
  IsMakeable R (in_hole q r) = IsMakeable R q × IsMakeable R r
  IsMakeable R (hide_hole q) = IsMakeable R q
  IsMakeable R (closed q) = Unit {0}
  IsMakeable R (seq ps) = AreMakeable R ps

  pub AreMakeable : (Ref → Type 0) → Items → Type 0
  AreMakeable R nil = Unit {0}
  AreMakeable R (one p ps) = IsMakeable R p × AreMakeable R ps
  AreMakeable R (many p x ps) = IsMakeable R p × AreMakeable R ps

-- names and length names have what they had, but for length names that had nothing
pub record Unchanged (s z : State) : Type 0 where
  pub terms : (x : List ℕ) → found_for x z.terms ≡ found_for x s.terms
  pub lengths : (x : List ℕ) (k : ℕ) → found_for x s.lengths ≡ Some k → found_for x z.lengths ≡ Some k

-- The symbols are none of the language's literals; what nonterminals give of which R holds matches them, and contexts split what they are filled
-- with, and bind no mismatch names
pub record GivesFitting (L : Language) (us : List (List ℕ)) (N : Inner) (R : Ref → Type 0) : Type 0 where
  pub symbols : (s : State) → is_mentioned L (slice_index_or us (pick 5 s.words).0 (codes "a")) ≡ false
  pub terms : (x : Ref) → R x → (size : ℕ) (s z : State) (t : Tree) → N.as_term x size s ≡ made t z → Match L (nt x) t no_names × Unchanged s z
  pub contexts : (x : Ref) → R x → (size : ℕ) (s z : State) (C : Tree) → N.as_context x size s ≡ made C z
      → (c : IsContextOf L (nt x) C) × (c.binding.differs ≡ []) × Unchanged s z

-- one of some numbers
pub one_steady : (ks : List ℕ) (k : ℕ) (s z : State) → one_of ks s ≡ made k z → Steady s z
one_steady [] k s z e = absurd cc
one_steady (j ∷ ks) k s z e = moved (λ i y. Steady s y) _ k _ z e (record { terms = refl; lengths = refl })

-- ---- lists of terms

seam : (xs : List Tree) (t : Tree) (ys : List Tree) → (xs ++ t ∷ []) ++ ys ≡ xs ++ t ∷ ys
seam [] t ys = refl
seam (x ∷ xs) t ys = ap (λ z. x ∷ z) (seam xs t ys)

-- the place behind these terms
abbrev further : List Tree → ℕ → ℕ
further [] j = j
further (t ∷ ts) j = suc (further ts j)

further_is : (found runs : List Tree) (j : ℕ) → length (found ++ runs) + j ≡ length found + further runs j
further_is [] [] j = refl
further_is [] (t ∷ runs) j = let k = further_is [] runs j in omega (arith, k)
further_is (x ∷ found) runs j = let k = further_is found runs j in omega (arith, k)

put_further : (runs more : List Tree) (j : ℕ) (D u : Tree) → put_at (fill_at (trees more) j u) j D ≡ trees more
    → put_at (fill_at (trees (runs ++ more)) (further runs j) u) (further runs j) D ≡ trees (runs ++ more)
put_further [] more j D u e = e
put_further (t ∷ runs) more j D u e = ap (λ z. cons t z) (put_further runs more j D u e)

there_further : (runs more : List Tree) (j : ℕ) → IsTrue (is_context_at (trees more) j) → IsTrue (is_context_at (trees (runs ++ more)) (further runs j))
there_further [] more j e = e
there_further (t ∷ runs) more j e = there_further runs more j e

-- a filled list, whatever its mark
marked_or : (b : Bool) (k : ℕ) (ts : Trees) → list (if b then Some k else mark_for ts) ts ≡ (if b then list (Some k) ts else list_of ts)
marked_or true k ts = refl
marked_or false k ts = refl

-- ---- bindings

-- all bind these names, where the first does and the others do
first_binds : (xs : List (List ℕ)) (c : Binding) (cs : List Binding) → bound_names c ≡ xs → BindNames xs cs → BindNames xs (c ∷ cs)
first_binds xs c cs h f b (here e) = ap bound_names e ∙ h
first_binds xs c cs h f b (there i) = f b i

all_bind : (xs : List (List ℕ)) (cs ds : List Binding) → BindNames xs cs → BindNames xs ds → BindNames xs (cs ++ ds)
all_bind xs cs ds f g b i = elim (in-append cs ds b i) [ inl j ↦ f b j | inr j ↦ g b j ]

-- all have no mismatch names, where the first have none and the others have none
all_plain : (cs ds : List Binding) → ArePlain cs → ArePlain ds → ArePlain (cs ++ ds)
all_plain [] ds h k = k
all_plain (c ∷ cs) ds h k = (h.0, all_plain cs ds h.1 k)

-- so they have no sets together
no_sets_of : (cs : List Binding) → ArePlain cs → AreSetsOf cs []
no_sets_of [] h = sets_of_none
no_sets_of (c ∷ cs) h = sets_of_more (no_sets_of cs h.1) (subst (λ (ms : List Mismatch). JoinsSets ms [] []) (sym h.0) (no_sets_left [] (tt, tt)))

-- and a collection of them has no mismatch names
record PlainCollection (xs : List (List ℕ)) (cs : List Binding) : Type 0 where
  binding : Binding
  is : IsCollection xs cs binding
  plain : binding.differs ≡ []

plain_collection : (xs : List (List ℕ)) (cs : List Binding) → BindNames xs cs → ArePlain cs → PlainCollection xs cs
plain_collection xs cs b h =
    let c = some_collection xs cs b [] (no_sets_of cs h) in record { binding = c.0; is = c.1; plain = one_sets_of c.1.differs (no_sets_of cs h) }

-- a name alone
one_stated : (K : List ℕ → Bool) (o : Notes) (s : State) (x : List ℕ) (v : Value) → (is_one_of o.again x ≡ true → IsStated K s x v) → Stated K o s (one_name x v)
one_stated K o s x v f = record { plain = refl; names = names }
  where
    names : (y : List ℕ) (w : Value) → In (y, w) (one_name x v).pairs → is_one_of o.again y ≡ true → IsStated K s y w
    names y w (here e) a = subst (λ (p : Pair). IsStated K s p.0 p.1) (sym e) (f (ap (λ (p : Pair). is_one_of o.again p.0) (sym e) ∙ a))
    names y w (there i) a = elim i [ ]

one_only : (x y : List ℕ) (v : Value) → In y (bound_names (one_name x v)) → y ≡ x
one_only x y v (here e) = e
one_only x y v (there i) = elim i [ ]

module _ (L : Language) (K : List ℕ → Bool) (o : Notes) (all : List Place) (rules : Rules K o all) where
  -- ---- what is shown of what came

  -- t came of p: it matches with a binding that says what the state has, and what names have still fits
  pub record Made (us : List Place) (p : Pattern) (t : Tree) (s z : State) : Type 0 where
    pub binding : Binding
    pub fit : Match L p t binding
    pub stated : Stated K o z binding
    pub kept : Kept L K o all z
    pub later : Later o us s z

  -- behind what there was stand terms that match the items
  record Found (us : List Place) (ps : Items) (found ts : List Tree) (s z : State) : Type 0 where
    more : List Tree
    same : ts ≡ found ++ more
    binding : Binding
    fit : MatchItems L ps (trees more) binding
    stated : Stated K o z binding
    kept : Kept L K o all z
    later : Later o us s z

  -- behind what there was stand n terms that match the turns of a repetition
  record Turned (us : List Place) (p : Pattern) (n : ℕ) (found ts : List Tree) (s z : State) : Type 0 where
    runs : List Tree
    same : ts ≡ found ++ runs
    bindings : List Binding
    count : length bindings ≡ n
    binds : BindNames (names p) bindings
    plain : ArePlain bindings
    fit : (ps : Items) (more : List Tree) (d : Binding) → MatchItems L ps (trees more) d → MatchRun L p ps (trees (runs ++ more)) bindings d
    ahead : (ps : Items) (more : List Tree) (j : ℕ) (D u : Tree) (cs : List Binding) (d : Binding) → SplitRun L p ps (fill_at (trees more) j u) j D u cs d
        → SplitRun L p ps (fill_at (trees (runs ++ more)) (further runs j) u) (further runs j) D u (bindings ++ cs) d
    kept : Kept L K o all z
    later : Later o us s z

  -- a context came of p
  pub record MadeContext (us : List Place) (p : Pattern) (C : Tree) (s z : State) : Type 0 where
    pub fit : IsContextOf L p C
    pub plain : fit.binding.differs ≡ []
    pub kept : Kept L K o all z
    pub later : Later o us s z

  -- what came of a list with a context in it
  record Around (us : List Place) (ps : Items) (found : List Tree) (C : Tree) (s z : State) : Type 0 where
    spot : ℕ
    inner : Tree
    more : List Tree
    same : list (Some (length found + spot)) (trees (found ++ more)) ≡ C
    there : IsTrue (is_context_at (trees more) spot)
    put : (u : Tree) → put_at (fill_at (trees more) spot u) spot inner ≡ trees more
    binding : Binding
    fit : (u : Tree) → SplitItems L ps (fill_at (trees more) spot u) spot inner u binding
    plain : binding.differs ≡ []
    kept : Kept L K o all z
    later : Later o us s z

  -- ---- atoms and names

  plain : (us : List Place) (p : Pattern) (t : Tree) (s z : State) → Kept L K o all s → Match L p t no_names → Steady s z → Made us p t s z
  plain us p t s z k m h = record { binding = no_names; fit = m; stated = nothing_stated K o z; kept = kept_steady L K o all s z h k; later = later_steady o us s z h }

  later_unchanged : (us : List Place) (s z : State) → Unchanged s z → Later o us s z
  later_unchanged us s z h = record { terms = λ x t e. h.terms x ∙ e; lengths = h.lengths; changed = λ x. inl (h.terms x) }

  kept_unchanged : (s z : State) → Unchanged s z → Kept L K o all s → Kept L K o all z
  kept_unchanged s z h k = kept_on L K o all [] s z (later_unchanged [] s z h) h.terms k

  module _ (x : List ℕ) (q : Pattern) (r l : Bool) (P : Part o all (name_place x q r l ∷ places r l q)) where
    place_in : In (name_place x q r l) all
    place_in = P.within (name_place x q r l) (here refl)

    -- the name and those inside its pattern: one of both comes again
    both_again : (c : Binding) (v : Value) → bound_names c ≡ names q → (y : List ℕ) → In y (bound_names c) → In y (bound_names (one_name x v)) → is_one_of o.again y ≡ true
    both_again c v e y i j = common o all (name_place x q r l ∷ []) (places r l q) P y
        (name_counts r l (named x wild) y (here (one_only x y v j)))
        (name_counts r l q y (subst (λ (xs : List (List ℕ)). In y xs) e i))

    -- with the name, where it says what the state has
    with_name : (t : Tree) (s z : State) (m : Made (name_place x q r l ∷ places r l q) q t s z) → (is_one_of o.again x ≡ true → IsStated K z x (one_term t))
        → Made (name_place x q r l ∷ places r l q) (named x q) t s z
    with_name t s z m f =
        let j = join_stated K o z m.binding (one_name x (one_term t)) (match-ascends m.fit) (one_name-ascends x (one_term t)) (both_again m.binding (one_term t) (match-names m.fit)) m.stated
        (one_stated K o z x (one_term t) f) in
        record { binding = j.binding; fit = match_named {b = j.binding} m.fit j.is_join; stated = j.stated; kept = m.kept; later = m.later }

    wider : (t : Tree) (s z : State) → Made (places r l q) q t s z → Made (name_place x q r l ∷ places r l q) q t s z
    wider t s z m = record {
      binding = m.binding;
      fit = m.fit;
      stated = m.stated;
      kept = m.kept;
      later = later_wider o (places r l q) (name_place x q r l ∷ places r l q) s z (λ y h. counted_right y (name_place x q r l ∷ []) (places r l q) h) m.later;
    }

    -- the name isn't inside its own pattern, so it has nothing yet
    still_free : (s y : State) → is_one_of o.again x ≡ true → Later o (places r l q) s y → found_for x s.terms ≡ None → found_for x y.terms ≡ None
    still_free s y a h e = elim (h.changed x) [
      | inl d ↦ d ∙ e
      | inr k ↦ let v = some_place x (places r l q) k.1 in
          absurd (not_inside_itself r l q v.0 v.1
          (rules.same (name_place x q r l) v.0 place_in (P.within v.0 (there v.1)) (sym v.2) a refl))
    ]

    new_name : (t : Tree) (s y : State) → is_one_of o.again x ≡ true → found_for x s.terms ≡ None → Made (places r l q) q t s y
        → Made (name_place x q r l ∷ places r l q) (named x q) t s (with_term x t y)
    new_name t s y a e m =
        let f = still_free s y a m.later e in
        let h = later_named L K o all rules (name_place x q r l) place_in a refl t y f (places r l q) in
        let g = kept_named L K o all rules (name_place x q r l) place_in a refl t y f (record { binding = m.binding; fit = m.fit; stated = m.stated }) m.kept in
        with_name t s (with_term x t y) (record {
          binding = m.binding;
          fit = m.fit;
          stated = stated_on K o (name_place x q r l ∷ places r l q) y (with_term x t y) m.binding h m.stated;
          kept = g;
          later = later_both o (name_place x q r l ∷ places r l q) s y (with_term x t y) (wider t s y m).later h;
        })
        (λ b. stated_named L K o all rules (name_place x q r l) place_in a refl t y f)

    by_found : (b : Option Tree) (G : State → Outcome Tree) (s z : State) (t : Tree) → is_one_of o.again x ≡ true → found_for x s.terms ≡ b → Kept L K o all s
        → ((y : State) (u : Tree) → G s ≡ made u y → Made (places r l q) q u s y) → had_or_made b x (G s) s ≡ made t z
        → Made (name_place x q r l ∷ places r l q) (named x q) t s z
    by_found (Some w) G s z t a d k f e = moved (λ u y. Made (name_place x q r l ∷ places r l q) (named x q) u s y) w t s z e
        (let F = k x w a d (name_place x q r l) place_in refl in
        with_name w s s (record { binding = F.binding; fit = F.fit; stated = F.stated; kept = k; later = later_steady o (name_place x q r l ∷ places r l q) s s (steady s) })
        (λ b. (rules.kind (name_place x q r l) place_in a, d)))
    by_found None G s z t a d k f e =
        let w = came (G s) (λ u y. made u (with_term x u y)) t z e in
        moved (λ u y. Made (name_place x q r l ∷ places r l q) (named x q) u s y) w.value t (with_term x w.value w.state) z w.second
        (new_name w.value s w.state a d (f w.state w.value w.first))

    by_again : (b : Bool) (G : State → Outcome Tree) (s z : State) (t : Tree) → is_one_of o.again x ≡ b → Kept L K o all s
        → ((y : State) (u : Tree) → G s ≡ made u y → Made (places r l q) q u s y) → for_name b x (G s) s ≡ made t z
        → Made (name_place x q r l ∷ places r l q) (named x q) t s z
    by_again true G s z t a k f e = by_found (found_for x s.terms) G s z t a refl k f e
    by_again false G s z t a k f e = with_name t s z (wider t s z (f z t e)) (λ b. absurd (true≢false (sym b ∙ a)))

  -- ---- repetitions

  turned : (us : List Place) (p : Pattern) (G : State → Outcome Tree) → ((s z : State) (t : Tree) → Kept L K o all s → G s ≡ made t z → Made us p t s z)
      → (n : ℕ) (found ts : List Tree) (s z : State) → Kept L K o all s → turns G n found s ≡ made ts z → Turned us p n found ts s z
  turned us p G g zero found ts s z k e = moved (λ x y. Turned us p 0 found x s y) found ts s z e
      (record {
        runs = [];
        same = sym (append-nil found);
        bindings = [];
        count = refl;
        binds = λ b i. elim i [ ];
        plain = tt;
        fit = λ ps more d h. run_end h;
        ahead = λ ps more j D u cs d h. h;
        kept = k;
        later = later_steady o us s s (steady s);
      })
  turned us p G g (suc n) found ts s z k e =
      let w = came (G s) (λ t y. turns G n (found ++ t ∷ []) y) ts z e in
      let m = g s w.state w.value k w.first in
      let r = turned us p G g n (found ++ w.value ∷ []) ts w.state z m.kept w.second in
      record {
        runs = w.value ∷ r.runs;
        same = r.same ∙ seam found w.value r.runs;
        bindings = m.binding ∷ r.bindings;
        count = ap suc r.count;
        binds = first_binds (names p) m.binding r.bindings (match-names m.fit) r.binds;
        plain = (m.stated.plain, r.plain);
        fit = λ ps more d h. run_more m.fit (r.fit ps more d h);
        ahead = λ ps more j D u cs d h. run_there m.fit (r.ahead ps more j D u cs d h);
        kept = r.kept;
        later = later_both o us s w.state z m.later r.later;
      }

  -- what a repetition binds says what the state has
  record Repeated (p : Pattern) (x : Option (List ℕ)) (cs : List Binding) (z : State) : Type 0 where
    binding : Binding
    is : IsRepetition (names p) cs x binding
    stated : Stated K o z binding

  repeated : (r l : Bool) (p : Pattern) (x : Option (List ℕ)) (cs : List Binding) (z : State) → BindNames (names p) cs → ArePlain cs
      → Part o all (places true l p ++ length_place x p r l) → Alone o (places true l p)
      → ((n : List ℕ) → x ≡ Some n → is_one_of o.again n ≡ true → found_for n z.lengths ≡ Some (length cs)) → Repeated p x cs z
  repeated r l p None cs z b h P A f =
      let c = plain_collection (names p) cs b h in
      record {
        binding = c.binding;
        is = without_length c.is;
        stated = alone_stated K o z c.binding c.plain (λ y i. A y (name_counts true l p y (subst (λ (xs : List (List ℕ)). In y xs) c.is.names i)));
      }
  repeated r l p (Some n) cs z b h P A f =
      let c = plain_collection (names p) cs b h in
      let u : Place = record { name = n; part = p; is_length = true; is_mismatch = false; repeated = r; left = l } in
      let here_in : In u all = (part_right o all (places true l p) (u ∷ []) P).within u (here refl) in
      let j = join_stated K o z c.binding (one_name n (len (length cs))) (collection-ascends (names p) cs c.binding (names-ascend p) c.is)
      (one_name-ascends n (len (length cs)))
      (λ y i k. common o all (places true l p) (u ∷ []) P y (name_counts true l p y (subst (λ (xs : List (List ℕ)). In y xs) c.is.names i))
      (name_counts r l (named n wild) y (here (one_only n y (len (length cs)) k))))
      (alone_stated K o z c.binding c.plain (λ y i. A y (name_counts true l p y (subst (λ (xs : List (List ℕ)). In y xs) c.is.names i))))
      (one_stated K o z n (len (length cs)) (λ a. (rules.kind u here_in a, f n refl a))) in
      record { binding = j.binding; is = with_length {b = j.binding} c.is j.is_join; stated = j.stated }

  -- ---- contexts in lists

  -- the context of a list
  around_whole : (us : List Place) (ps : Items) (C : Tree) (s z : State) → Around us ps [] C s z → MadeContext us (seq ps) C s z
  around_whole us ps C s z r =
      let q : list (Some r.spot) (trees r.more) ≡ C = ap (λ (k : ℕ). list (Some k) (trees r.more)) (omega arith) ∙ r.same in
      subst (λ (D : Tree). MadeContext us (seq ps) D s z) q (record {
        kept = r.kept;
        later = r.later;
        plain = r.plain;
        fit = record {
          context = r.there;
          binding = r.binding;
          splits = λ u. subst (λ (t : Tree). Split L (seq ps) t (list (Some r.spot) (trees r.more)) u r.binding)
              (marked_or (is_context_at (fill_at (trees r.more) r.spot u) r.spot) r.spot (fill_at (trees r.more) r.spot u))
              (split_seq (r.fit u) (ap (λ (ts : Trees). list (Some r.spot) ts) (sym (r.put u))));
        };
      })

  -- the names of a context come once
  context_stated : (r l : Bool) (p : Pattern) (C : Tree) (z : State) (c : IsContextOf L p C) → c.binding.differs ≡ [] → Alone o (places r l p)
      → Stated K o z c.binding
  context_stated r l p C z c e A =
      alone_stated K o z c.binding e (λ y i. A y (name_counts r l p y (subst (λ (xs : List (List ℕ)). In y xs) (split-names (c.splits the_hole)) i)))

  module _ (r l : Bool) (p : Pattern) (ps : Items) (x : Option (List ℕ)) (P : Part o all ((places true l p ++ length_place x p r l) ++ item_places r l ps)) where
    first_part : Part o all (places true l p ++ length_place x p r l)
    first_part = part_left o all (places true l p ++ length_place x p r l) (item_places r l ps) P

    turns_alone : Alone o (places true l p)
    turns_alone = alone_repeated K o all l p rules (part_left o all (places true l p) (length_place x p r l) first_part)

    -- the names of both come again
    repeated_again : (cs : List Binding) (c d : Binding) → IsRepetition (names p) cs x c → bound_names d ≡ item_names ps → (y : List ℕ) → In y (bound_names c) → In y (bound_names d)
        → is_one_of o.again y ≡ true
    repeated_again cs c d h e y i j = common o all (places true l p ++ length_place x p r l) (item_places r l ps) P y
        (repeated_counts x p r l y (subst (λ (xs : List (List ℕ)). In y xs) (repetition-names h) i))
        (item_name_counts r l ps y (subst (λ (xs : List (List ℕ)). In y xs) e j))

    -- what turns change, the repetition and the items behind it change
    of_turns : (s z : State) → Later o (places true l p) s z → Later o (places true l p ++ length_place x p r l) s z
    of_turns s z h = later_wider o (places true l p) (places true l p ++ length_place x p r l) s z (λ y k. counted_left y (places true l p) (length_place x p r l) k) h

    of_length : (s z : State) → Later o (length_place x p r l) s z → Later o (places true l p ++ length_place x p r l) s z
    of_length s z h = later_wider o (length_place x p r l) (places true l p ++ length_place x p r l) s z (λ y k. counted_right y (places true l p) (length_place x p r l) k) h

    -- a repetition and what stands behind it
    found_behind : (found before ts : List Tree) (n : ℕ) (s y v z : State) → Measured L K o all (length_place x p r l) x n s y
        → Turned (places true l p) p n found before y v → Found (item_places r l ps) ps before ts v z
        → Found ((places true l p ++ length_place x p r l) ++ item_places r l ps) (many p x ps) found ts s z
    found_behind found before ts n s y v z m a d =
        let c = repeated r l p x a.bindings z a.binds a.plain first_part turns_alone
        (λ w e g. d.later.lengths w (length a.bindings) (a.later.lengths w (length a.bindings) (m.value w e g ∙ ap (λ (k : ℕ). Some k) (sym a.count)))) in
        let j = join_stated K o z c.binding d.binding (repetition-ascends (names-ascend p) c.is) (items-ascends d.fit)
        (repeated_again a.bindings c.binding d.binding c.is (items-names d.fit)) c.stated d.stated in
        record {
          more = a.runs ++ d.more;
          same = d.same ∙ ap (λ w. w ++ d.more) a.same ∙ append_assoc found a.runs d.more;
          binding = j.binding;
          fit = match_many {b = j.binding} (a.fit ps d.more d.binding d.fit) c.is j.is_join;
          stated = j.stated;
          kept = d.kept;
          later = later_parts o (places true l p ++ length_place x p r l) (item_places r l ps) s v z
              (later_both o (places true l p ++ length_place x p r l) s y v (of_length s y m.later) (of_turns y v a.later)) d.later;
        }

    -- a context in one of the turns
    around_turns : Alone o ((places true l p ++ length_place x p r l) ++ item_places r l ps) → (found before behind ts : List Tree) (D : Tree) (m n : ℕ)
        (s s1 s2 s3 s4 s5 z : State) → Steady s s1 → Turned (places true l p) p m found before s1 s2 → MadeContext (places true l p) p D s2 s3
        → Steady s3 s4 → Turned (places true l p) p n (before ++ D ∷ []) behind s4 s5 → Found (item_places r l ps) ps behind ts s5 z
        → Around ((places true l p ++ length_place x p r l) ++ item_places r l ps) (many p x ps) found (list (Some (length before)) (trees ts)) s z
    around_turns A found before behind ts D m n s s1 s2 s3 s4 s5 z h1 a c h2 d f =
        let rest : List Tree = d.runs ++ f.more in
        let cs : List Binding = a.bindings ++ c.fit.binding ∷ d.bindings in
        let names_alone : Alone o (places true l p ++ length_place x p r l) = alone_left o (places true l p ++ length_place x p r l) (item_places r l ps) A in
        let e = repeated r l p x cs z
        (all_bind (names p) a.bindings (c.fit.binding ∷ d.bindings) a.binds (first_binds (names p) c.fit.binding d.bindings (split-names (c.fit.splits the_hole)) d.binds))
        (all_plain a.bindings (c.fit.binding ∷ d.bindings) a.plain (c.plain, d.plain)) first_part turns_alone
        (λ w g b. absurd (true≢false (sym b ∙ alone_right o (places true l p) (length_place x p r l) names_alone w
        (subst (λ (i : Option (List ℕ)). 0 < times w (length_place i p r l)) (sym g) (name_counts r l (named w wild) w (here refl)))))) in
        let j = join_stated K o z e.binding f.binding (repetition-ascends (names-ascend p) e.is) (items-ascends f.fit)
        (repeated_again cs e.binding f.binding e.is (items-names f.fit)) e.stated f.stated in
        let k : length found + further a.runs 0 ≡ length before = sym (further_is found a.runs 0) ∙ omega arith ∙ ap length (sym a.same) in
        let g : ts ≡ found ++ (a.runs ++ D ∷ rest) = f.same ∙ ap (λ w. w ++ f.more) d.same ∙ append_assoc (before ++ D ∷ []) d.runs f.more ∙ seam before D rest
        ∙ ap (λ w. w ++ D ∷ rest) a.same ∙ append_assoc found a.runs (D ∷ rest) in
        let to2 = later_both o (places true l p) s s1 s2 (later_steady o (places true l p) s s1 h1) a.later in
        let to3 = later_both o (places true l p) s s2 s3 to2 c.later in
        let to4 = later_both o (places true l p) s s3 s4 to3 (later_steady o (places true l p) s3 s4 h2) in
        let to5 = later_both o (places true l p) s s4 s5 to4 d.later in
        record {
          spot = further a.runs 0;
          inner = D;
          more = a.runs ++ D ∷ rest;
          same = ap (λ (i : ℕ). list (Some i) (trees (found ++ (a.runs ++ D ∷ rest)))) k ∙ ap (λ (y : List Tree). list (Some (length before)) (trees y)) (sym g);
          there = there_further a.runs (D ∷ rest) 0 c.fit.context;
          put = λ u. put_further a.runs (D ∷ rest) 0 D u refl;
          binding = j.binding;
          fit = λ u. split_many {b = j.binding} (a.ahead ps (D ∷ rest) 0 D u (c.fit.binding ∷ d.bindings) f.binding (run_here (c.fit.splits u) (d.fit ps f.more f.binding f.fit))) e.is j.is_join;
          plain = j.stated.plain;
          kept = f.kept;
          later = later_parts o (places true l p ++ length_place x p r l) (item_places r l ps) s s5 z (of_turns s s5 to5) f.later;
        }

    -- a context behind the repetition
    around_behind : (found before : List Tree) (C : Tree) (n : ℕ) (s y v z : State) → Measured L K o all (length_place x p r l) x n s y
        → Turned (places true l p) p n found before y v → Alone o (item_places r l ps) → Around (item_places r l ps) ps before C v z
        → Around ((places true l p ++ length_place x p r l) ++ item_places r l ps) (many p x ps) found C s z
    around_behind found before C n s y v z m a A d =
        let e = repeated r l p x (a.bindings ++ []) z (all_bind (names p) a.bindings [] a.binds (λ b i. elim i [ ])) (all_plain a.bindings [] a.plain tt)
        first_part turns_alone
        (λ w e g. d.later.lengths w (length (a.bindings ++ [])) (a.later.lengths w (length (a.bindings ++ []))
        (m.value w e g ∙ ap (λ (k : ℕ). Some k) (sym (ap length (append-nil a.bindings) ∙ a.count))))) in
        let f = alone_stated K o z d.binding d.plain (λ w i. A w (item_name_counts r l ps w (subst (λ (xs : List (List ℕ)). In w xs) (split_items-names (d.fit the_hole)) i))) in
        let j = join_stated K o z e.binding d.binding (repetition-ascends (names-ascend p) e.is) (split_items-ascends (d.fit the_hole))
        (repeated_again (a.bindings ++ []) e.binding d.binding e.is (split_items-names (d.fit the_hole))) e.stated f in
        record {
          spot = further a.runs d.spot;
          inner = d.inner;
          more = a.runs ++ d.more;
          same = ap (λ (i : ℕ). list (Some i) (trees (found ++ (a.runs ++ d.more)))) (sym (further_is found a.runs d.spot) ∙ ap (λ (w : List Tree). length w + d.spot) (sym a.same))
              ∙ ap (λ (w : List Tree). list (Some (length before + d.spot)) (trees w)) (sym (ap (λ w. w ++ d.more) a.same ∙ append_assoc found a.runs d.more)) ∙ d.same;
          there = there_further a.runs d.more d.spot d.there;
          put = λ u. put_further a.runs d.more d.spot d.inner u (d.put u);
          binding = j.binding;
          fit = λ u. split_many {b = j.binding} (a.ahead ps d.more d.spot d.inner u [] d.binding (run_behind (d.fit u))) e.is j.is_join;
          plain = j.stated.plain;
          kept = d.kept;
          later = later_parts o (places true l p ++ length_place x p r l) (item_places r l ps) s v z
              (later_both o (places true l p ++ length_place x p r l) s y v (of_length s y m.later) (of_turns y v a.later)) d.later;
        }

  -- ---- contexts at items

  module _ (r l : Bool) (p : Pattern) (ps : Items) (P : Part o all (places r l p ++ item_places r l ps)) (A : Alone o (places r l p ++ item_places r l ps)) where
    -- the names of both come again
    items_again : (c d : Binding) → bound_names c ≡ names p → bound_names d ≡ item_names ps → (y : List ℕ) → In y (bound_names c) → In y (bound_names d)
        → is_one_of o.again y ≡ true
    items_again c d e f y i j = common o all (places r l p) (item_places r l ps) P y
        (name_counts r l p y (subst (λ (xs : List (List ℕ)). In y xs) e i)) (item_name_counts r l ps y (subst (λ (xs : List (List ℕ)). In y xs) f j))

    -- a context at an item
    around_here : (found ts : List Tree) (D : Tree) (s y z : State) → MadeContext (places r l p) p D s y → Found (item_places r l ps) ps (found ++ D ∷ []) ts y z
        → Around (places r l p ++ item_places r l ps) (one p ps) found (list (Some (length found)) (trees ts)) s z
    around_here found ts D s y z c d =
        let j = join_stated K o z c.fit.binding d.binding (split-ascends (c.fit.splits the_hole)) (items-ascends d.fit)
        (items_again c.fit.binding d.binding (split-names (c.fit.splits the_hole)) (items-names d.fit))
        (context_stated r l p D z c.fit c.plain (alone_left o (places r l p) (item_places r l ps) A)) d.stated in
        record {
          spot = 0;
          inner = D;
          more = D ∷ d.more;
          same = ap (λ (i : ℕ). list (Some i) (trees (found ++ D ∷ d.more))) (omega arith)
              ∙ ap (λ (w : List Tree). list (Some (length found)) (trees w)) (sym (d.same ∙ seam found D d.more));
          there = c.fit.context;
          put = λ u. refl;
          binding = j.binding;
          fit = λ u. split_here {b = j.binding} (c.fit.splits u) d.fit j.is_join;
          plain = j.stated.plain;
          kept = d.kept;
          later = later_parts o (places r l p) (item_places r l ps) s y z c.later d.later;
        }

    -- a context behind an item
    around_after : (found : List Tree) (t C : Tree) (s y z : State) → Made (places r l p) p t s y → Around (item_places r l ps) ps (found ++ t ∷ []) C y z
        → Around (places r l p ++ item_places r l ps) (one p ps) found C s z
    around_after found t C s y z m d =
        let f = alone_stated K o z d.binding d.plain (λ w i. alone_right o (places r l p) (item_places r l ps) A w
        (item_name_counts r l ps w (subst (λ (xs : List (List ℕ)). In w xs) (split_items-names (d.fit the_hole)) i))) in
        let j = join_stated K o z m.binding d.binding (match-ascends m.fit) (split_items-ascends (d.fit the_hole))
        (items_again m.binding d.binding (match-names m.fit) (split_items-names (d.fit the_hole)))
        (stated_on K o (item_places r l ps) y z m.binding d.later m.stated) f in
        record {
          spot = suc d.spot;
          inner = d.inner;
          more = t ∷ d.more;
          same = ap (λ (i : ℕ). list (Some i) (trees (found ++ t ∷ d.more))) (sym (further_is found (t ∷ []) d.spot))
              ∙ ap (λ (w : List Tree). list (Some (length (found ++ t ∷ []) + d.spot)) (trees w)) (sym (seam found t d.more)) ∙ d.same;
          there = d.there;
          put = λ u. ap (λ w. cons t w) (d.put u);
          binding = j.binding;
          fit = λ u. split_behind {b = j.binding} m.fit (d.fit u) j.is_join;
          plain = j.stated.plain;
          kept = d.kept;
          later = later_parts o (places r l p) (item_places r l ps) s y z m.later d.later;
        }

  -- ---- patterns

  module _ (S : Setting) (N : Inner) (size : ℕ) (R : Ref → Type 0) (F : GivesFitting L S.unmentioned N R) where
    mutual
      pub terms_fit : (p : Pattern) (r l : Bool) (s z : State) (t : Tree) → IsMakeable R p → Part o all (places r l p) → Kept L K o all s
          → term S N o size p s ≡ made t z → Made (places r l p) p t s z
      terms_fit wild r l s z t h P k e = plain [] wild t s z k match_wild (atoms s z t e)
      terms_fit (of_kind a) r l s z t h P k e = let m = of_kinds L S.unmentioned a s z t (F.symbols s) e in plain [] (of_kind a) t s z k (match_kind m.0) m.1
      terms_fit (except rs) r l s z t h P k e =
          let m = symbols (λ u. Match L (except rs) u no_names) (first_five [] rs) s z t e
          (match_except (free_chosen (λ x. is_one_of rs x ≡ false) [] rs s (λ j f. free_not rs (behind_prefix [] j) f) (five [] rs no_prefix h))) in
          plain [] (except rs) t s z k m.0 m.1
      terms_fit (prefix a) r l s z t h P k e =
          let m = symbols (λ u. Match L (prefix a) u no_names) (first_five a []) s z t e
          (match_prefix (free_chosen (λ x. starts_with nat_eq x a ≡ true) a [] s (λ j f. begins a (in_sequence j)) (five a [] (a_name h.0 h.1) (omega arith)))) in
          plain [] (prefix a) t s z k m.0 m.1
      terms_fit hole r l s z t h P k e = moved (λ u y. Made [] hole u s y) the_hole t s z e (plain [] hole the_hole s s k match_hole (steady s))
      terms_fit (lit u) r l s z t h P k e = moved (λ v y. Made [] (lit u) v s y) u t s z e (plain [] (lit u) u s s k (match_lit refl) (steady s))
      terms_fit (nt x) r l s z t h P k e =
          let m = F.terms x h size s z t e in
          record { binding = no_names; fit = m.0; stated = nothing_stated K o z; kept = kept_unchanged s z m.1 k; later = later_unchanged [] s z m.1 }
      terms_fit (named x q) r l s z t h P k e =
          by_again x q r l P (is_one_of o.again x) (λ y. term S N o size q y) s z t refl k
          (λ y u d. terms_fit q r l s y u h (part_right o all (name_place x q r l ∷ []) (places r l q) P) k d) e
      terms_fit (differ x q) r l s z t h P k e = absurd (true≢false (rules.no_mismatch (mismatch_place x q r l) (P.within (mismatch_place x q r l) (here refl))))
      terms_fit (in_hole p q) r l s z t h P k e =
          let w = came (context S N o size p s) (λ C y. after (term S N o size q y) (λ u y'. filled C u y')) t z e in
          let v = came (term S N o size q w.state) (λ u y'. filled w.value u y') t z w.second in
          let PL = part_left o all (places r true p) (places r l q) P in
          let A = alone_before K o all r p rules PL in
          let c = contexts_fit p r true s w.state w.value h.0 PL A k w.first in
          let m = terms_fit q r l w.state v.state v.value h.1 (part_right o all (places r true p) (places r l q) P) c.kept v.first in
          let j = join_stated K o v.state c.fit.binding m.binding (split-ascends (c.fit.splits v.value)) (match-ascends m.fit)
          (λ y i i'. common o all (places r true p) (places r l q) P y
          (name_counts r true p y (subst (λ (xs : List (List ℕ)). In y xs) (split-names (c.fit.splits v.value)) i))
          (name_counts r l q y (subst (λ (xs : List (List ℕ)). In y xs) (match-names m.fit) i')))
          (context_stated r true p w.value v.state c.fit c.plain A) m.stated in
          filled_moved (λ u y. Made (places r true p ++ places r l q) (in_hole p q) u s y) w.value v.value t v.state z v.second
          (record {
            binding = j.binding;
            fit = match_in_hole {b = j.binding} (c.fit.splits v.value) m.fit j.is_join;
            stated = j.stated;
            kept = m.kept;
            later = later_parts o (places r true p) (places r l q) s w.state v.state c.later m.later;
          })
      terms_fit (hide_hole q) r l s z t h P k e =
          let m = terms_fit q r l s z t h P k e in
          record { binding = m.binding; fit = match_hide_hole m.fit; stated = m.stated; kept = m.kept; later = m.later }
      terms_fit (closed q) r l s z t h P k e = absurd cc
      terms_fit (seq ps) r l s z t h P k e =
          let w = came (items S N o size ps [] s) listed t z e in
          let m = items_fit ps r l [] w.value s w.state h P k w.first in
          limited_moved (λ u y. Made (item_places r l ps) (seq ps) u s y) (list_of (trees w.value)) t w.state z w.second
          (record {
            binding = m.binding;
            fit = subst (λ (ts : List Tree). Match L (seq ps) (list_of (trees ts)) m.binding) (sym m.same) (match_seq m.fit);
            stated = m.stated;
            kept = m.kept;
            later = m.later;
          })

      items_fit : (ps : Items) (r l : Bool) (found ts : List Tree) (s z : State) → AreMakeable R ps → Part o all (item_places r l ps) → Kept L K o all s
          → items S N o size ps found s ≡ made ts z → Found (item_places r l ps) ps found ts s z
      items_fit nil r l found ts s z h P k e = moved (λ xs y. Found [] nil found xs s y) found ts s z e
          (record {
            more = [];
            same = sym (append-nil found);
            binding = no_names;
            fit = match_none;
            stated = nothing_stated K o s;
            kept = k;
            later = later_steady o [] s s (steady s);
          })
      items_fit (one p ps) r l found ts s z h P k e =
          let w = came (term S N o size p s) (λ t y. items S N o size ps (found ++ t ∷ []) y) ts z e in
          let m = terms_fit p r l s w.state w.value h.0 (part_left o all (places r l p) (item_places r l ps) P) k w.first in
          let d = items_fit ps r l (found ++ w.value ∷ []) ts w.state z h.1 (part_right o all (places r l p) (item_places r l ps) P) m.kept w.second in
          let j = join_stated K o z m.binding d.binding (match-ascends m.fit) (items-ascends d.fit)
          (λ y i i'. common o all (places r l p) (item_places r l ps) P y
          (name_counts r l p y (subst (λ (xs : List (List ℕ)). In y xs) (match-names m.fit) i))
          (item_name_counts r l ps y (subst (λ (xs : List (List ℕ)). In y xs) (items-names d.fit) i')))
          (stated_on K o (item_places r l ps) w.state z m.binding d.later m.stated) d.stated in
          record {
            more = w.value ∷ d.more;
            same = d.same ∙ seam found w.value d.more;
            binding = j.binding;
            fit = match_one {b = j.binding} m.fit d.fit j.is_join;
            stated = j.stated;
            kept = d.kept;
            later = later_parts o (places r l p) (item_places r l ps) s w.state z m.later d.later;
          }
      items_fit (many p x ps) r l found ts s z h P k e =
          let G : State → Outcome Tree = λ y. term S N o size p y in
          let w = came (length_of o (term_height S.known p) x size s) (λ n y. after (turns G n found y) (λ more y'. items S N o size ps more y')) ts z e in
          let v = came (turns G w.value found w.state) (λ more y'. items S N o size ps more y') ts z w.second in
          let m = measured L K o all (length_place x p r l) (term_height S.known p) x size w.value s w.state w.first in
          let PT = part_left o all (places true l p) (length_place x p r l) (first_part r l p ps x P) in
          let a = turned (places true l p) p G (λ y y' t k' e'. terms_fit p true l y y' t h.0 PT k' e') w.value found v.value w.state v.state (m.kept k) v.first in
          let d = items_fit ps r l v.value ts v.state z h.1 (part_right o all (places true l p ++ length_place x p r l) (item_places r l ps) P) a.kept v.second in
          found_behind r l p ps x P found v.value ts w.value s w.state v.state z m a d

      pub contexts_fit : (p : Pattern) (r l : Bool) (s z : State) (C : Tree) → IsMakeable R p → Part o all (places r l p) → Alone o (places r l p) → Kept L K o all s
          → context S N o size p s ≡ made C z → MadeContext (places r l p) p C s z
      contexts_fit wild r l s z C h P A k e = absurd cc
      contexts_fit (of_kind a) r l s z C h P A k e = absurd cc
      contexts_fit (except rs) r l s z C h P A k e = absurd cc
      contexts_fit (prefix a) r l s z C h P A k e = absurd cc
      contexts_fit hole r l s z C h P A k e = moved (λ D y. MadeContext [] hole D s y) the_hole C s z e
          (record { fit = record { context = refl; binding = no_names; splits = λ u. split_hole }; plain = refl; kept = k; later = later_steady o [] s s (steady s) })
      contexts_fit (lit u) r l s z C h P A k e = absurd cc
      contexts_fit (nt x) r l s z C h P A k e =
          let m = F.contexts x h size s z C e in record { fit = m.0; plain = m.1; kept = kept_unchanged s z m.2 k; later = later_unchanged [] s z m.2 }
      contexts_fit (named x q) r l s z C h P A k e =
          let c = contexts_fit q r l s z C h (part_right o all (name_place x q r l ∷ []) (places r l q) P) (alone_right o (name_place x q r l ∷ []) (places r l q) A) k e in
          let j = join_stated K o z c.fit.binding (one_name x (one_term C)) (split-ascends (c.fit.splits the_hole)) (one_name-ascends x (one_term C))
          (both_again x q r l P c.fit.binding (one_term C) (split-names (c.fit.splits the_hole)))
          (context_stated r l q C z c.fit c.plain (alone_right o (name_place x q r l ∷ []) (places r l q) A))
          (one_stated K o z x (one_term C) (λ b. absurd (true≢false (sym b ∙ A x (counted_left x (name_place x q r l ∷ []) (places r l q) (name_counts r l (named x wild) x (here refl))))))) in
          record {
            fit = record { context = c.fit.context; binding = j.binding; splits = λ u. split_named {b = j.binding} (c.fit.splits u) j.is_join };
            plain = j.stated.plain;
            kept = c.kept;
            later = later_wider o (places r l q) (name_place x q r l ∷ places r l q) s z (λ y i. counted_right y (name_place x q r l ∷ []) (places r l q) i) c.later;
          }
      contexts_fit (differ x q) r l s z C h P A k e = absurd (true≢false (rules.no_mismatch (mismatch_place x q r l) (P.within (mismatch_place x q r l) (here refl))))
      contexts_fit (in_hole p q) r l s z C h P A k e =
          let w = came (context S N o size p s) (λ D y. after (context S N o size q y) (λ E y'. filled D E y')) C z e in
          let v = came (context S N o size q w.state) (λ E y'. filled w.value E y') C z w.second in
          let AL = alone_left o (places r true p) (places r l q) A in
          let AR = alone_right o (places r true p) (places r l q) A in
          let c = contexts_fit p r true s w.state w.value h.0 (part_left o all (places r true p) (places r l q) P) AL k w.first in
          let d = contexts_fit q r l w.state v.state v.value h.1 (part_right o all (places r true p) (places r l q) P) AR c.kept v.first in
          let j = join_stated K o v.state c.fit.binding d.fit.binding (split-ascends (c.fit.splits the_hole)) (split-ascends (d.fit.splits the_hole))
          (λ y i i'. common o all (places r true p) (places r l q) P y
          (name_counts r true p y (subst (λ (xs : List (List ℕ)). In y xs) (split-names (c.fit.splits the_hole)) i))
          (name_counts r l q y (subst (λ (xs : List (List ℕ)). In y xs) (split-names (d.fit.splits the_hole)) i')))
          (context_stated r true p w.value v.state c.fit c.plain AL) (context_stated r l q v.value v.state d.fit d.plain AR) in
          filled_moved (λ D y. MadeContext (places r true p ++ places r l q) (in_hole p q) D s y) w.value v.value C v.state z v.second
          (record {
            kept = d.kept;
            later = later_parts o (places r true p) (places r l q) s w.state v.state c.later d.later;
            plain = j.stated.plain;
            fit = record {
              context = is_context-fill_of w.value v.value c.fit.context d.fit.context;
              binding = j.binding;
              splits = λ u. subst (λ (t : Tree). Split L (in_hole p q) t (fill_of w.value v.value) u j.binding)
                  (sym (fill_of-fill_of w.value v.value u c.fit.context d.fit.context))
                  (split_in_hole {b = j.binding} (c.fit.splits (fill_of v.value u)) (d.fit.splits u) refl j.is_join);
            };
          })
      contexts_fit (hide_hole q) r l s z C h P A k e = absurd cc
      contexts_fit (closed q) r l s z C h P A k e = absurd cc
      contexts_fit (seq ps) r l s z C h P A k e =
          let w = came (one_of (choices size (place_heights S.known (Some 0) ps)) s) (λ i y. around S N o size ps i [] y) C z e in
          let g = one_steady (choices size (place_heights S.known (Some 0) ps)) w.value s w.state w.first in
          let c = around_whole (item_places r l ps) ps C w.state z (around_fit ps w.value r l [] w.state z C h P A (kept_steady L K o all s w.state g k) w.second) in
          record { fit = c.fit; plain = c.plain; kept = c.kept; later = later_both o (item_places r l ps) s w.state z (later_steady o (item_places r l ps) s w.state g) c.later }

      around_fit : (ps : Items) (i : ℕ) (r l : Bool) (found : List Tree) (s z : State) (C : Tree) → AreMakeable R ps → Part o all (item_places r l ps)
          → Alone o (item_places r l ps) → Kept L K o all s → around S N o size ps i found s ≡ made C z → Around (item_places r l ps) ps found C s z
      around_fit nil i r l found s z C h P A k e = absurd cc
      around_fit (one p ps) zero r l found s z C h P A k e =
          let w = came (context S N o size p s) (λ D y. after (items S N o size ps (found ++ D ∷ []) y) (λ ts y'. marked (length found) ts y')) C z e in
          let v = came (items S N o size ps (found ++ w.value ∷ []) w.state) (λ ts y'. marked (length found) ts y') C z w.second in
          let c = contexts_fit p r l s w.state w.value h.0 (part_left o all (places r l p) (item_places r l ps) P) (alone_left o (places r l p) (item_places r l ps) A) k w.first in
          let d = items_fit ps r l (found ++ w.value ∷ []) v.value w.state v.state h.1 (part_right o all (places r l p) (item_places r l ps) P) c.kept v.first in
          limited_moved (λ D y. Around (places r l p ++ item_places r l ps) (one p ps) found D s y) (list (Some (length found)) (trees v.value)) C v.state z v.second
          (around_here r l p ps P A found v.value w.value s w.state v.state c d)
      around_fit (one p ps) (suc i) r l found s z C h P A k e =
          let w = came (term S N o size p s) (λ t y. around S N o size ps i (found ++ t ∷ []) y) C z e in
          let m = terms_fit p r l s w.state w.value h.0 (part_left o all (places r l p) (item_places r l ps) P) k w.first in
          let d = around_fit ps i r l (found ++ w.value ∷ []) w.state z C h.1 (part_right o all (places r l p) (item_places r l ps) P)
          (alone_right o (places r l p) (item_places r l ps) A) m.kept w.second in
          around_after r l p ps P A found w.value C s w.state z m d
      around_fit (many p x ps) zero r l found s z C h P A k e =
          let b = is_hollow o (term_height S.known p) x in
          let G : State → Outcome Tree = λ y. term S N o size p y in
          let w1 = came (new_length b size s) (λ n y. after (turns G n found y) (λ before y2. after (context S N o size p y2) (λ D y3. after (new_length b size y3) (λ m y4.
          after (turns G m (before ++ D ∷ []) y4) (λ behind y5. after (items S N o size ps behind y5) (λ ts y6. marked (length before) ts y6)))))) C z e in
          let w2 = came (turns G w1.value found w1.state) (λ before y2. after (context S N o size p y2) (λ D y3. after (new_length b size y3) (λ m y4.
          after (turns G m (before ++ D ∷ []) y4) (λ behind y5. after (items S N o size ps behind y5) (λ ts y6. marked (length before) ts y6))))) C z w1.second in
          let w3 = came (context S N o size p w2.state) (λ D y3. after (new_length b size y3) (λ m y4.
          after (turns G m (w2.value ++ D ∷ []) y4) (λ behind y5. after (items S N o size ps behind y5) (λ ts y6. marked (length w2.value) ts y6)))) C z w2.second in
          let w4 = came (new_length b size w3.state) (λ m y4.
          after (turns G m (w2.value ++ w3.value ∷ []) y4) (λ behind y5. after (items S N o size ps behind y5) (λ ts y6. marked (length w2.value) ts y6))) C z w3.second in
          let w5 = came (turns G w4.value (w2.value ++ w3.value ∷ []) w4.state) (λ behind y5. after (items S N o size ps behind y5) (λ ts y6. marked (length w2.value) ts y6)) C z w4.second in
          let w6 = came (items S N o size ps w5.value w5.state) (λ ts y6. marked (length w2.value) ts y6) C z w5.second in
          let P1 = first_part r l p ps x P in
          let PT = part_left o all (places true l p) (length_place x p r l) P1 in
          let h1 = new_steady b size w1.value s w1.state w1.first in
          let a = turned (places true l p) p G (λ y y' t k' e'. terms_fit p true l y y' t h.0 PT k' e') w1.value found w2.value w1.state w2.state
          (kept_steady L K o all s w1.state h1 k) w2.first in
          let c = contexts_fit p true l w2.state w3.state w3.value h.0 PT (turns_alone r l p ps x P) a.kept w3.first in
          let h2 = new_steady b size w4.value w3.state w4.state w4.first in
          let d = turned (places true l p) p G (λ y y' t k' e'. terms_fit p true l y y' t h.0 PT k' e') w4.value (w2.value ++ w3.value ∷ []) w5.value w4.state w5.state
          (kept_steady L K o all w3.state w4.state h2 c.kept) w5.first in
          let f = items_fit ps r l w5.value w6.value w5.state w6.state h.1 (part_right o all (places true l p ++ length_place x p r l) (item_places r l ps) P) d.kept w6.first in
          limited_moved (λ D y. Around ((places true l p ++ length_place x p r l) ++ item_places r l ps) (many p x ps) found D s y)
          (list (Some (length w2.value)) (trees w6.value)) C w6.state z w6.second
          (around_turns r l p ps x P A found w2.value w5.value w6.value w3.value w1.value w4.value
          s w1.state w2.state w3.state w4.state w5.state w6.state h1 a c h2 d f)
      around_fit (many p x ps) (suc i) r l found s z C h P A k e =
          let G : State → Outcome Tree = λ y. term S N o size p y in
          let w = came (length_of o (term_height S.known p) x size s) (λ n y. after (turns G n found y) (λ more y'. around S N o size ps i more y')) C z e in
          let v = came (turns G w.value found w.state) (λ more y'. around S N o size ps i more y') C z w.second in
          let m = measured L K o all (length_place x p r l) (term_height S.known p) x size w.value s w.state w.first in
          let PT = part_left o all (places true l p) (length_place x p r l) (first_part r l p ps x P) in
          let a = turned (places true l p) p G (λ y y' t k' e'. terms_fit p true l y y' t h.0 PT k' e') w.value found v.value w.state v.state (m.kept k) v.first in
          let A2 = alone_right o (places true l p ++ length_place x p r l) (item_places r l ps) A in
          let d = around_fit ps i r l v.value v.state z C h.1 (part_right o all (places true l p ++ length_place x p r l) (item_places r l ps) P) A2 a.kept v.second in
          around_behind r l p ps x P found v.value C w.value s w.state v.state z m a A2 d
