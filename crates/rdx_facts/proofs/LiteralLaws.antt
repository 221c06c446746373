-- The literals in a list are those that the language mentions, also where each is listed once.
use Rattle.std.proofs.Common.{◌≡◌, ◌+◌, ◌<◌, ℕ, Bool, true, false, List, [], ◌∷◌, ◌++◌, drop, length, get_or, refl, sym, ap, ◌∙◌}
use Rattle.std.proofs.lemmas.List.{drop_more}
use Rattle.std.proofs.lemmas.List.Folds.{list_any-append}
use Rattle.std.specs.Prelude.{◌||◌, bytes_eq}
use Rattle.std.specs.Cmp.Lexicographic.{bytes_decides}
use Rattle.rdx_term.specs.Tree.{Tree, hole, integer, truth, text, symbol, list}
use Rattle.rdx_lang.specs.Literals.{is_symbol, mentions, items_mention, any_mentions, definitions_mention, is_mentioned}
use Rattle.rdx_lang.specs.Patterns.{Pattern, wild, of_kind, except, prefix, lit, nt, named, differ, in_hole, hide_hole, closed, seq, Items, nil, one, many, Definition, Language}
use Rattle.rdx_lang.specs.Patterns.{hole as the_hole}
use Rattle.rdx_lang.specs.Rules.{is_one_of}
use Rattle.rdx_facts.specs.Inside.Literals.{symbol_in, literals, items_literals, all_literals, definitions_literals}

-- one of both is one of either
pub one-append : (rs qs : List (List ℕ)) (s : List ℕ) → is_one_of (rs ++ qs) s ≡ (is_one_of rs s || is_one_of qs s)
one-append rs qs s = list_any-append (λ r. bytes_eq r s) rs qs

or-false : (b : Bool) → (b || false) ≡ b
or-false true = refl
or-false false = refl

or-assoc : (a b c : Bool) → ((a || b) || c) ≡ (a || (b || c))
or-assoc true b c = refl
or-assoc false b c = refl

-- what is one already adds nothing
or-again : (a b c : Bool) → (b ≡ true → a ≡ true) → (a || (b || c)) ≡ (a || c)
or-again true b c h = refl
or-again false true c h = let e : false ≡ true = h refl in absurd cc
or-again false false c h = refl

-- ---- literals

module _ (s : List ℕ) where
  symbol-listed : (u : Tree) → is_one_of (symbol_in u) s ≡ is_symbol s u
  symbol-listed hole = refl
  symbol-listed (integer z) = refl
  symbol-listed (truth b) = refl
  symbol-listed (text r) = refl
  symbol-listed (symbol r) = or-false (bytes_eq r s)
  symbol-listed (list m ts) = refl

  mutual
    -- those of a pattern
    pattern-listed : (p : Pattern) → is_one_of (literals p) s ≡ mentions s p
    pattern-listed wild = refl
    pattern-listed (of_kind k) = refl
    pattern-listed (except rs) = refl
    pattern-listed (prefix r) = refl
    pattern-listed the_hole = refl
    pattern-listed (lit u) = symbol-listed u
    pattern-listed (nt x) = refl
    pattern-listed (named x q) = pattern-listed q
    pattern-listed (differ x q) = pattern-listed q
    pattern-listed (in_hole q r) = one-append (literals q) (literals r) s ∙ (λ i. pattern-listed q i || pattern-listed r i)
    pattern-listed (hide_hole q) = pattern-listed q
    pattern-listed (closed q) = pattern-listed q
    pattern-listed (seq ps) = items-listed ps

    items-listed : (ps : Items) → is_one_of (items_literals ps) s ≡ items_mention s ps
    items-listed nil = refl
    items-listed (one p ps) = one-append (literals p) (items_literals ps) s ∙ (λ i. pattern-listed p i || items-listed ps i)
    items-listed (many p n ps) = one-append (literals p) (items_literals ps) s ∙ (λ i. pattern-listed p i || items-listed ps i)

  all-listed : (ps : List Pattern) → is_one_of (all_literals ps) s ≡ any_mentions s ps
  all-listed [] = refl
  all-listed (p ∷ ps) = one-append (literals p) (all_literals ps) s ∙ (λ i. pattern-listed p i || all-listed ps i)

  definitions-listed : (ds : List Definition) → is_one_of (definitions_literals ds) s ≡ definitions_mention s ds
  definitions-listed [] = refl
  definitions-listed (d ∷ ds) = one-append (all_literals d.1) (definitions_literals ds) s ∙ (λ i. all-listed d.1 i || definitions-listed ds i)

  -- those of a language
  pub language-listed : (L : Language) → is_one_of (definitions_literals L.nonterminals) s ≡ is_mentioned L s
  language-listed L = definitions-listed L.nonterminals

-- ---- each once

-- the rest of a list begins with what stands at its place
rest : (ns : List (List ℕ)) (i : ℕ) (r s : List ℕ) → i < length ns → r ≡ get_or ns i r
    → is_one_of (drop i ns) s ≡ (bytes_eq r s || is_one_of (drop (i + 1) ns) s)
rest ns i r s h e = ap (λ ms. is_one_of ms s) (drop_more ns i r h ∙ ap (λ q. q ∷ drop (i + 1) ns) (sym e))

-- a name that is put behind the others
pub added : (found ns all : List (List ℕ)) (i : ℕ) (r : List ℕ) → i < length ns → r ≡ get_or ns i r
    → ((s : List ℕ) → (is_one_of found s || is_one_of (drop i ns) s) ≡ is_one_of all s)
    → (s : List ℕ) → (is_one_of (found ++ r ∷ []) s || is_one_of (drop (i + 1) ns) s) ≡ is_one_of all s
added found ns all i r h e k s =
    ap (λ b. b || is_one_of (drop (i + 1) ns) s) (one-append found (r ∷ []) s ∙ ap (λ b. is_one_of found s || b) (or-false (bytes_eq r s)))
    ∙ or-assoc (is_one_of found s) (bytes_eq r s) (is_one_of (drop (i + 1) ns) s)
    ∙ ap (λ b. is_one_of found s || b) (sym (rest ns i r s h e))
    ∙ k s

-- one that is among them already
pub known : (found ns all : List (List ℕ)) (i : ℕ) (r : List ℕ) → i < length ns → r ≡ get_or ns i r → is_one_of found r ≡ true
    → ((s : List ℕ) → (is_one_of found s || is_one_of (drop i ns) s) ≡ is_one_of all s)
    → (s : List ℕ) → (is_one_of found s || is_one_of (drop (i + 1) ns) s) ≡ is_one_of all s
known found ns all i r h e g k s =
    sym (or-again (is_one_of found s) (bytes_eq r s) (is_one_of (drop (i + 1) ns) s) same)
    ∙ ap (λ b. is_one_of found s || b) (sym (rest ns i r s h e))
    ∙ k s
  where
    same : bytes_eq r s ≡ true → is_one_of found s ≡ true
    same f = sym (ap (is_one_of found) ((bytes_decides r s).0 f)) ∙ g
