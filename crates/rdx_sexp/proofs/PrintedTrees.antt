-- The printed text of a term is one datum, which stands for the term with its marks forgotten.
use Rattle.std.proofs.Common.{◌≡◌, ◌≤◌, ◌<◌, ◌+◌, ℕ, suc, true, List, [], ◌∷◌, chars, Option, Some, None, refl, sym, ap, ap₂, ◌∙◌, subst, append-nil, arith}
use Rattle.std.specs.Prelude.{option_map}
use Rattle.rdx_base.specs.declared.place.Place.{Place}
use Rattle.rdx_term.specs.Bare.{bare, bare_all}
use Rattle.rdx_term.specs.Text.{tree_text}
use Rattle.rdx_term.specs.Tree.{Tree, Trees, hole, integer, truth, text, symbol, list, nil, cons, tree_depth, trees_depth}
use Rattle.rdx_term.specs.Terms.{IsTerm, IsSpelled, AreSpelled}
use Rattle.rdx_term.specs.Building.{list_of}
use Rattle.rdx_sexp.specs.Begin.{body}
use Rattle.rdx_sexp.specs.Grammar.{One, one_leaf, one_list, Many, many_none, many_more, listed}
use Rattle.rdx_sexp.specs.Laws.{ReadsBack}
use Rattle.rdx_sexp.specs.Lex.{span}
use Rattle.rdx_sexp.specs.Lexeme.{round, Lexeme, opening, closing, word}
use Rattle.rdx_sexp.specs.Meaning.{meaning, meanings, one_more}
use Rattle.rdx_sexp.specs.Reads.{Lexes, lexes_end, lexes_more}
use Rattle.rdx_sexp.specs.Sexp.{Sexp, sexps}
use Rattle.rdx_sexp.specs.Sexp as sexp
use Rattle.rdx_sexp.specs.Text.{Text, at, start, after}
use Rattle.rdx_sexp.proofs.PrintedChars.{Encodes, Encodes-tree, IsUtf8-Encodes, chars-Encodes, tree_chars, trees_chars, spaced_chars}
use Rattle.rdx_sexp.proofs.PrintedTokens.{is_delimited, first_lexeme-open, first_lexeme-close, first_lexeme-end, Lexes-space}
use Rattle.rdx_sexp.proofs.PrintedAtoms.{IsAtom, IsAtom-hole, IsAtom-integer, IsAtom-truth, IsAtom-text, IsAtom-symbol}
use Rattle.rdx_sexp.proofs.PrintedFirstLine.{body-tree}

-- With n brackets open, the characters of t in front of `rest`, from p on, are the lexemes of one datum, which stands for t with its marks
-- forgotten; then the lexemes of `rest` follow.
record IsDatum (n : ℕ) (p : Place) (t : Tree) (rest : List ℕ) : Type 0 where
  datum : Sexp
  term : Tree
  stands : meaning datum ≡ Some term
  same : bare term ≡ bare t
  end : Place
  before : List Lexeme → List Lexeme
  lexed : (ls : List Lexeme) → Lexes (at end rest) ls → Lexes (at p (tree_chars t rest)) (before ls)
  one : (ls : List Lexeme) → One n (before ls) datum ls

-- the same of these characters and the items of a list
record AreData (n : ℕ) (p : Place) (ts : Trees) (cs rest : List ℕ) : Type 0 where
  data_read : List Sexp
  terms : Trees
  stands : meanings (sexps data_read) ≡ Some terms
  same : bare_all terms ≡ bare_all ts
  end : Place
  before : List Lexeme → List Lexeme
  lexed : (ls : List Lexeme) → Lexes (at end rest) ls → Lexes (at p cs) (before ls)
  many : (ls : List Lexeme) → Many n (before ls) data_read ls

-- an atom
IsDatum-atom : (n : ℕ) (p : Place) (t : Tree) (rest : List ℕ) → IsAtom p t rest → IsDatum n p t rest
IsDatum-atom n p t rest a = record {
  datum = sexp.leaf a.atom (span p a.read.end);
  term = t;
  stands = a.stands;
  same = refl;
  end = a.read.end;
  before = λ ls. word a.atom (span p a.read.end) ∷ ls;
  lexed = λ ls l. lexes_more a.read.first l;
  one = λ ls. one_leaf;
}

-- a list, by its items
IsDatum-list : (n : ℕ) (p : Place) (m : Option ℕ) (ts : Trees) (rest : List ℕ) → n < 500
    → AreData (suc n) (after p 40) ts (trees_chars ts (41 ∷ rest)) (41 ∷ rest) → IsDatum n p (list m ts) rest
IsDatum-list n p m ts rest h b = record {
  datum = listed b.data_read (span p (after p 40)) (span b.end (after b.end 41));
  term = list_of b.terms;
  stands = ap (option_map list_of) b.stands;
  same = ap (list None) b.same;
  end = after b.end 41;
  before = λ ls. opening round (span p (after p 40)) ∷ b.before (closing round (span b.end (after b.end 41)) ∷ ls);
  lexed = λ ls l. lexes_more (first_lexeme-open p (trees_chars ts (41 ∷ rest))) (b.lexed (closing round (span b.end (after b.end 41)) ∷ ls) (lexes_more (first_lexeme-close b.end rest) l));
  one = λ ls. one_list h (b.many (closing round (span b.end (after b.end 41)) ∷ ls)) refl;
}

-- no items
AreData-nil : (n : ℕ) (p : Place) (rest : List ℕ) → AreData n p nil rest rest
AreData-nil n p rest = record {
  data_read = [];
  terms = nil;
  stands = refl;
  same = refl;
  end = p;
  before = λ ls. ls;
  lexed = λ ls l. l;
  many = λ ls. many_none;
}

-- one item and others
AreData-cons : (n : ℕ) (p : Place) (t : Tree) (ts : Trees) (rest : List ℕ) (a : IsDatum n p t (spaced_chars ts rest))
    → AreData n a.end ts (spaced_chars ts rest) rest → AreData n p (cons t ts) (tree_chars t (spaced_chars ts rest)) rest
AreData-cons n p t ts rest a b = record {
  data_read = a.datum ∷ b.data_read;
  terms = cons a.term b.terms;
  stands = ap₂ one_more a.stands b.stands;
  same = ap₂ cons a.same b.same;
  end = b.end;
  before = λ ls. a.before (b.before ls);
  lexed = λ ls l. a.lexed (b.before ls) (b.lexed ls l);
  many = λ ls. many_more (a.one (b.before ls)) (b.many ls);
}

-- a space before them
AreData-space : (n : ℕ) (p : Place) (ts : Trees) (cs rest : List ℕ) → AreData n (after p 32) ts cs rest → AreData n p ts (32 ∷ cs) rest
AreData-space n p ts cs rest b = record {
  data_read = b.data_read;
  terms = b.terms;
  stands = b.stands;
  same = b.same;
  end = b.end;
  before = b.before;
  lexed = λ ls l. Lexes-space p cs (b.before ls) (b.lexed ls l);
  many = b.many;
}

-- a token ends before more items
is_delimited-spaced : (ts : Trees) (rest : List ℕ) → is_delimited rest ≡ true → is_delimited (spaced_chars ts rest) ≡ true
is_delimited-spaced nil rest d = d
is_delimited-spaced (cons t ts) rest d = refl

-- each spelled tree of which no list is too deep
mutual
  IsDatum-tree : (n : ℕ) (p : Place) (t : Tree) (rest : List ℕ) → tree_depth t + n ≤ 500 → IsSpelled t → is_delimited rest ≡ true → IsDatum n p t rest
  IsDatum-tree n p hole rest h s d = IsDatum-atom n p hole rest (IsAtom-hole p rest d)
  IsDatum-tree n p (integer k) rest h s d = IsDatum-atom n p (integer k) rest (IsAtom-integer p k rest s d)
  IsDatum-tree n p (truth b) rest h s d = IsDatum-atom n p (truth b) rest (IsAtom-truth p b rest d)
  IsDatum-tree n p (text t) rest h s d = IsDatum-atom n p (text t) rest (IsAtom-text p t rest s)
  IsDatum-tree n p (symbol t) rest h s d = IsDatum-atom n p (symbol t) rest (IsAtom-symbol p t rest s d)
  IsDatum-tree n p (list m ts) rest h s d = IsDatum-list n p m ts rest (omega arith) (AreData-trees (suc n) (after p 40) ts (41 ∷ rest) (omega arith) s refl)

  -- the items of a list
  AreData-trees : (n : ℕ) (p : Place) (ts : Trees) (rest : List ℕ) → trees_depth ts + n ≤ 500 → AreSpelled ts → is_delimited rest ≡ true → AreData n p ts (trees_chars ts rest) rest
  AreData-trees n p nil rest h s d = AreData-nil n p rest
  AreData-trees n p (cons t ts) rest h s d =
      let a = IsDatum-tree n p t (spaced_chars ts rest) (omega arith) s.0 (is_delimited-spaced ts rest d) in
      AreData-cons n p t ts rest a (AreData-spaced n a.end ts rest (omega arith) s.1 d)

  -- with a space before each
  AreData-spaced : (n : ℕ) (p : Place) (ts : Trees) (rest : List ℕ) → trees_depth ts + n ≤ 500 → AreSpelled ts → is_delimited rest ≡ true → AreData n p ts (spaced_chars ts rest) rest
  AreData-spaced n p nil rest h s d = AreData-nil n p rest
  AreData-spaced n p (cons t ts) rest h s d =
      let a = IsDatum-tree n (after p 32) t (spaced_chars ts rest) (omega arith) s.0 (is_delimited-spaced ts rest d) in
      let b = AreData-cons n (after p 32) t ts rest a (AreData-spaced n a.end ts rest (omega arith) s.1 d) in
      AreData-space n p (cons t ts) (tree_chars t (spaced_chars ts rest)) rest b

-- each term is read back
pub ReadsBack-term : (t : Tree) → IsTerm t → ReadsBack t
ReadsBack-term t v =
    let d = IsDatum-tree 0 start t [] (let h = v.shallow in omega arith) v.spelled refl in
    let e : Encodes (tree_chars t []) (tree_text t) =
    subst (λ (l : List ℕ). Encodes (tree_chars t []) l) (append-nil (tree_text t)) (Encodes-tree t [] [] v.spelled (record { valid = refl; same = refl })) in
    let text_is : body (chars (tree_text t)) ≡ at start (tree_chars t []) = ap body (chars-Encodes (tree_chars t []) (tree_text t) e) ∙ body-tree t v.spelled in
    record {
      datum = d.datum;
      read = record {
        utf8 = IsUtf8-Encodes (tree_chars t []) (tree_text t) e;
        lexemes = d.before [];
        lexed = subst (λ (x : Text). Lexes x (d.before [])) (sym text_is) (d.lexed [] (lexes_end (first_lexeme-end d.end)));
        data_are = many_more (d.one []) many_none;
      };
      term = d.term;
      stands = d.stands;
      same = d.same;
    }
