-- The names that are kept for each language are those of its nonterminals.
use Rattle.std.proofs.Common.{◌≡◌, ◌<◌, ◌∙◌, ℕ, zero, suc, List, [], ◌∷◌, length, get_or, map, refl, sym, ap, subst, arith}
use Rattle.std.proofs.lemmas.List.{length-map}
use Rattle.rdx_lang.specs.Checked.{language_in}
use Rattle.rdx_lang.specs.declared.checked.CheckedLang.{CheckedLang}
use Rattle.rdx_patterns.specs.Nonterminals.{names_of}

-- so it is at each place
at-place : (ls : List CheckedLang) (i : ℕ) (ns : List (List ℕ)) (l : CheckedLang)
    → i < length ls → ns ≡ get_or (map names_of (map language_in ls)) i ns → l ≡ get_or ls i l → ns ≡ names_of (language_in l)
at-place [] i ns l h e f = absurd (omega (arith, h))
at-place (k ∷ ls) zero ns l h e f = e ∙ ap (λ m. names_of (language_in m)) (sym f)
at-place (k ∷ ls) (suc i) ns l h e f = at-place ls i ns l (omega (arith, h)) e f

module _ (nss : List (List (List ℕ))) (ls : List CheckedLang) (kept : nss ≡ map names_of (map language_in ls)) where
  -- the names at the place of a language
  pub kept-at : (i : ℕ) (ns : List (List ℕ)) (l : CheckedLang) → i < length ls → ns ≡ get_or nss i ns → l ≡ get_or ls i l → ns ≡ names_of (language_in l)
  kept-at i ns l h e f = at-place ls i ns l h (subst (λ (mss : List (List (List ℕ))). ns ≡ get_or mss i ns) kept e) f

  -- each place of a language has names
  pub kept-within : (i : ℕ) → i < length ls → i < length nss
  kept-within i h =
      let n : length nss ≡ length ls = ap length kept ∙ length-map (map language_in ls) names_of ∙ length-map ls language_in in
      omega (arith, h, n)

-- at a place of languages stands one
pub some-at : (ls : List CheckedLang) (i : ℕ) → i < length ls → (l : CheckedLang) × (l ≡ get_or ls i l)
some-at [] i h = absurd (omega (arith, h))
some-at (k ∷ ls) zero h = (k, refl)
some-at (k ∷ ls) (suc i) h = some-at ls i (omega (arith, h))
