-- What a pattern matches and splits in one language it does in another one, where this has the same alternatives of all nonterminals to which
-- the pattern leads, and the same symbols as literals.
use Rattle.std.proofs.Common.{◌≡◌, ℕ, true, List, refl, ap, sym, ◌∙◌}
use Rattle.std.specs.Prelude.{not}
use Rattle.rdx_term.specs.Tree.{Tree, integer, truth, text, symbol, list, Trees}
use Rattle.rdx_term.specs.Tree.{hole as the_hole}
use Rattle.rdx_lang.specs.Bindings.{Binding}
use Rattle.rdx_lang.specs.Literals.{is_mentioned}
use Rattle.rdx_lang.specs.Patterns.{Pattern, Items, Language}
use Rattle.rdx_lang.specs.References.{is_among}
use Rattle.rdx_lang.specs.Rules.{Match, MatchItems, MatchRun, match_wild, match_kind, match_except, match_prefix, match_hole, match_lit, match_nt, match_named, match_differ, match_in_hole, match_hide_hole, match_closed, match_seq, match_none, match_one, match_many, run_end, run_more, is_unmentioned, is_of_kind, IsAlternative}
use Rattle.rdx_lang.specs.Rules.{Split, SplitItems, SplitRun, split_hole, split_nt, split_named, split_differ, split_in_hole, split_closed, split_seq, split_here, split_behind, split_many, run_here, run_there, run_behind}
use Rattle.rdx_lang.specs.WellFormed.{has_known_nonterminals, have_known_nonterminals}
use Rattle.rdx_lang.specs.declared.pattern.Kind.{Kind}
use Rattle.rdx_lang.specs.declared.pattern.Kind.TheVariants.{Any, Number, Natural, Integer, Real, Text, Boolean, Variable, Unmentioned}
use Rattle.rdx_lang.specs.declared.pattern.Ref.{Ref}
use Rattle.rdx_lang.proofs.KnownNonterminals.{known-parts, item-parts}

-- M has each alternative that L has of the nonterminals xs, these alternatives speak of xs alone, and both mention the same symbols
pub record Keeps (xs : List Ref) (L M : Language) : Type 0 where
  pub alternative : (x : Ref) (p : Pattern) → is_among x xs ≡ true → IsAlternative L x p → IsAlternative M x p
  pub known : (x : Ref) (p : Pattern) → is_among x xs ≡ true → IsAlternative L x p → has_known_nonterminals xs p ≡ true
  pub mentioned : (s : List ℕ) → is_mentioned L s ≡ is_mentioned M s

module _ {xs : List Ref} {L M : Language} (keeps : Keeps xs L M) where
  -- ---- built-in names

  -- the same terms are symbols that are not mentioned
  unmentioned-kept : (t : Tree) → is_unmentioned L t ≡ is_unmentioned M t
  unmentioned-kept the_hole = refl
  unmentioned-kept (integer z) = refl
  unmentioned-kept (truth b) = refl
  unmentioned-kept (text s) = refl
  unmentioned-kept (symbol s) = ap not (keeps.mentioned s)
  unmentioned-kept (list m ts) = refl

  -- a built-in name stands for the same terms
  kind-kept : (k : Kind) (t : Tree) → is_of_kind L k t ≡ is_of_kind M k t
  kind-kept Any t = refl
  kind-kept Number t = refl
  kind-kept Natural t = refl
  kind-kept Integer t = refl
  kind-kept Real t = refl
  kind-kept Text t = refl
  kind-kept Boolean t = refl
  kind-kept Variable t = refl
  kind-kept Unmentioned t = unmentioned-kept t

  -- ---- derivations

  mutual
    -- what a pattern matches in L it matches in M
    pub match-kept : {p : Pattern} {t : Tree} {b : Binding} → Match L p t b → has_known_nonterminals xs p ≡ true → Match M p t b
    match-kept match_wild h = match_wild
    match-kept (match_kind {k = k} {t = t} c) h = match_kind (sym (kind-kept k t) ∙ c)
    match-kept (match_except c) h = match_except c
    match-kept (match_prefix c) h = match_prefix c
    match-kept match_hole h = match_hole
    match-kept (match_lit e) h = match_lit e
    match-kept (match_nt {x = x} {p = p} a m) h = match_nt (keeps.alternative x p h a) (match-kept m (keeps.known x p h a))
    match-kept (match_named m j) h = match_named (match-kept m h) j
    match-kept (match_differ m j) h = match_differ (match-kept m h) j
    match-kept (match_in_hole {q = q} {r = r} s m j) h =
        let k = known-parts xs q r h in match_in_hole (split-kept s k.0) (match-kept m k.1) j
    match-kept (match_hide_hole m) h = match_hide_hole (match-kept m h)
    match-kept (match_closed m) h = match_closed (match-kept m h)
    match-kept (match_seq m) h = match_seq (items-kept m h)

    -- so do items
    items-kept : {ps : Items} {ts : Trees} {b : Binding} → MatchItems L ps ts b → have_known_nonterminals xs ps ≡ true → MatchItems M ps ts b
    items-kept match_none h = match_none
    items-kept (match_one {p = p} {ps = ps} m n j) h = let k = item-parts xs p ps h in match_one (match-kept m k.0) (items-kept n k.1) j
    items-kept (match_many {p = p} {ps = ps} m r j) h = let k = item-parts xs p ps h in match_many (run-kept m k.0 k.1) r j

    -- and runs
    run-kept : {p : Pattern} {ps : Items} {ts : Trees} {cs : List Binding} {d : Binding} → MatchRun L p ps ts cs d
        → has_known_nonterminals xs p ≡ true → have_known_nonterminals xs ps ≡ true → MatchRun M p ps ts cs d
    run-kept (run_end m) h k = run_end (items-kept m k)
    run-kept (run_more m r) h k = run_more (match-kept m h) (run-kept r h k)

    -- as it splits a term in L it does in M
    pub split-kept : {p : Pattern} {t C s : Tree} {b : Binding} → Split L p t C s b → has_known_nonterminals xs p ≡ true → Split M p t C s b
    split-kept split_hole h = split_hole
    split-kept (split_nt {x = x} {p = p} a d) h = split_nt (keeps.alternative x p h a) (split-kept d (keeps.known x p h a))
    split-kept (split_named d j) h = split_named (split-kept d h) j
    split-kept (split_differ d j) h = split_differ (split-kept d h) j
    split-kept (split_in_hole {q = q} {r = r} d f e j) h =
        let k = known-parts xs q r h in split_in_hole (split-kept d k.0) (split-kept f k.1) e j
    split-kept (split_closed d) h = split_closed (split-kept d h)
    split-kept (split_seq d e) h = split_seq (split_items-kept d h) e

    -- so do items
    split_items-kept : {ps : Items} {ts : Trees} {k : ℕ} {D s : Tree} {b : Binding} → SplitItems L ps ts k D s b
        → have_known_nonterminals xs ps ≡ true → SplitItems M ps ts k D s b
    split_items-kept (split_here {p = p} {ps = ps} d m j) h =
        let k = item-parts xs p ps h in split_here (split-kept d k.0) (items-kept m k.1) j
    split_items-kept (split_behind {p = p} {ps = ps} m d j) h =
        let k = item-parts xs p ps h in split_behind (match-kept m k.0) (split_items-kept d k.1) j
    split_items-kept (split_many {p = p} {ps = ps} d r j) h =
        let k = item-parts xs p ps h in split_many (split_run-kept d k.0 k.1) r j

    -- and runs
    split_run-kept : {p : Pattern} {ps : Items} {ts : Trees} {k : ℕ} {D s : Tree} {cs : List Binding} {d : Binding} → SplitRun L p ps ts k D s cs d
        → has_known_nonterminals xs p ≡ true → have_known_nonterminals xs ps ≡ true → SplitRun M p ps ts k D s cs d
    split_run-kept (run_here d r) h k = run_here (split-kept d h) (run-kept r h k)
    split_run-kept (run_there m r) h k = run_there (match-kept m h) (split_run-kept r h k)
    split_run-kept (run_behind d) h k = run_behind (split_items-kept d k)

-- ---- one language after another

module _ (xs ys : List Ref) (more : (x : Ref) → is_among x xs ≡ true → is_among x ys ≡ true) (L M N : Language) where
  -- what M keeps of L and N of M, which knows more, N keeps of L
  pub kept-further : Keeps xs L M → Keeps ys M N → Keeps xs L N
  kept-further f g = record {
    alternative = λ x p h a. g.alternative x p (more x h) (f.alternative x p h a);
    known = f.known;
    mentioned = λ s. f.mentioned s ∙ g.mentioned s;
  }

  -- and what M keeps of N, which knows more, and L of M, L keeps of N
  pub kept-back : Keeps ys N M → Keeps xs M L → Keeps xs N L
  kept-back f g = record {
    alternative = λ x p h a. g.alternative x p h (f.alternative x p (more x h) a);
    known = λ x p h a. g.known x p h (f.alternative x p (more x h) a);
    mentioned = λ s. f.mentioned s ∙ g.mentioned s;
  }
