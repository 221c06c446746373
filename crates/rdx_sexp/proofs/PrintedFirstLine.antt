-- No printed term begins with a line that names the language.
use Rattle.std.proofs.Common.{◌≡◌, ◌==◌, ℕ, true, false, List, [], ◌∷◌, ◌++◌, chars, codes, None, refl, sym, ap, ◌∙◌, subst, eq-eqb, eqb-true, true≢false}
use Rattle.std.proofs.lemmas.Str.{encodes-chars}
use Rattle.std.specs.Fmt.{signed_decimal}
use Rattle.rdx_term.specs.Spelling.{begins_with_hash}
use Rattle.rdx_term.specs.Tree.{Tree, hole, integer, truth, text, symbol, list}
use Rattle.rdx_term.specs.Terms.{IsSpelled}
use Rattle.rdx_sexp.specs.Begin.{behind, is_line_end, has_lang_line, body}
use Rattle.rdx_sexp.specs.Text.{at, start}
use Rattle.rdx_sexp.proofs.PrintedTests.{if-false, false_from_not, or_false}
use Rattle.rdx_sexp.proofs.PrintedIntegers.{IsInteger-signed_decimal}
use Rattle.rdx_sexp.proofs.PrintedChars.{tree_chars}
use Rattle.rdx_sexp.proofs.PrintedAtoms.{begins_with_hash-integer, begins_with_hash-encodes, IsSymbol-is_name}

-- what does not begin with `#` begins with no such line
pub has_lang_line-no_hash : (cs : List ℕ) → begins_with_hash cs ≡ false → has_lang_line cs ≡ false
has_lang_line-no_hash [] h = refl
has_lang_line-no_hash (c ∷ cs) h =
    let hash : (35 == c) ≡ false = false_from_not (35 == c) (λ t. true≢false (sym (eq-eqb c 35 (sym (eqb-true 35 c t))) ∙ h)) in
    let alone : is_line_end (behind (codes "#lang racket") (c ∷ cs)) ≡ false = ap is_line_end (if-false (35 == c) (behind (codes "lang racket") cs) None hash) in
    let base : is_line_end (behind (codes "#lang racket/base") (c ∷ cs)) ≡ false = ap is_line_end (if-false (35 == c) (behind (codes "lang racket/base") cs) None hash) in
    or_false (is_line_end (behind (codes "#lang racket") (c ∷ cs))) (is_line_end (behind (codes "#lang racket/base") (c ∷ cs))) alone base

-- the same in front of nothing
begins_with_hash-alone : (cs : List ℕ) → begins_with_hash cs ≡ false → begins_with_hash (cs ++ []) ≡ false
begins_with_hash-alone [] h = refl
begins_with_hash-alone (c ∷ cs) h = h

-- nor does a printed tree
has_lang_line-tree : (t : Tree) → IsSpelled t → has_lang_line (tree_chars t []) ≡ false
has_lang_line-tree hole s = refl
has_lang_line-tree (integer n) s =
    has_lang_line-no_hash (signed_decimal n ++ []) (begins_with_hash-alone (signed_decimal n) (begins_with_hash-integer (signed_decimal n) (IsInteger-signed_decimal n s).integral))
has_lang_line-tree (truth true) s = refl
has_lang_line-tree (truth false) s = refl
has_lang_line-tree (text t) s = refl
has_lang_line-tree (symbol t) s =
    let hash = subst (λ (l : List ℕ). begins_with_hash l ≡ false) (sym (encodes-chars t s.0)) (IsSymbol-is_name t s.1).hash in
    has_lang_line-no_hash (chars t ++ []) (begins_with_hash-alone (chars t) (begins_with_hash-encodes (chars t) hash))
has_lang_line-tree (list m ts) s = refl

-- so the data begin at its start
pub body-tree : (t : Tree) → IsSpelled t → body (tree_chars t []) ≡ at start (tree_chars t [])
body-tree t s = if-false (has_lang_line (tree_chars t [])) _ _ (has_lang_line-tree t s)
