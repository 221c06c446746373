-- A tree as a list of tokens, from which it is made again; by it trees are told apart and put in order. Nothing here is of the subject.
use Rattle.std.specs.Prelude.{◌≡◌, ℕ, zero, suc, ℤ, pos, Bool, false, List, [], ◌∷◌, Option, None, refl}
use Rattle.std.proofs.Common.{◌∙◌, ap}
use Rattle.std.specs.Coded.{Coded, code_by, coded×, coded_ℕ, coded_ℤ, coded_bool, coded_list, coded_option}
use Rattle.rdx_term.specs.Tree.{Tree, hole, integer, truth, text, symbol, list, Trees, nil, cons, Contents, trees}

-- A kind, a number, a truth value, bytes and a mark. The kinds are in the order of trees, with the end of a list before all of them.
abbrev pub Token : Type 0
Token = ℕ × ℤ × Bool × List ℕ × Option ℕ

-- the end of a list with this mark
abbrev pub end : Option ℕ → Token
end m = (0, pos 0, false, [], m)

-- the tokens of a tree, and then these
abbrev mutual
  pub tokens : Tree → List Token → List Token
  tokens hole rest = (1, pos 0, false, [], None) ∷ rest
  tokens (integer n) rest = (2, n, false, [], None) ∷ rest
  tokens (truth b) rest = (3, pos 0, b, [], None) ∷ rest
  tokens (text s) rest = (4, pos 0, false, s, None) ∷ rest
  tokens (symbol s) rest = (5, pos 0, false, s, None) ∷ rest
  tokens (list m ts) rest = (6, pos 0, false, [], None) ∷ tokens_all ts (end m ∷ rest)

  pub tokens_all : Trees → List Token → List Token
  tokens_all nil rest = rest
  tokens_all (cons t ts) rest = tokens t (tokens_all ts rest)

-- The tokens are read from the last to the first. These are the lists whose end was read and whose beginning was not, innermost first,
-- each with its mark and the items that were read.
abbrev Ended : Type 0
Ended = List (Option ℕ × Trees)

-- one more item in the innermost list
abbrev put : Tree → Ended → Ended
put t [] = []
put t (l ∷ outer) = (l.0, cons t l.1) ∷ outer

-- the innermost list begins, and is an item of the next one
abbrev begin : Ended → Ended
begin [] = []
begin (l ∷ outer) = put (list l.0 l.1) outer

-- one token, by its kind
abbrev read : ℕ → ℤ → Bool → List ℕ → Option ℕ → Ended → Ended
read zero n b s m lists = (m, nil) ∷ lists
read (suc zero) n b s m lists = put hole lists
read (suc (suc zero)) n b s m lists = put (integer n) lists
read (suc (suc (suc zero))) n b s m lists = put (truth b) lists
read (suc (suc (suc (suc zero)))) n b s m lists = put (text s) lists
read (suc (suc (suc (suc (suc zero))))) n b s m lists = put (symbol s) lists
read (suc (suc (suc (suc (suc (suc k)))))) n b s m lists = begin lists

-- all tokens, from the last to the first
abbrev read_all : List Token → Ended
read_all [] = []
read_all (t ∷ ts) = read t.0 t.1 t.2 t.3 t.4 (read_all ts)

-- the tokens of a tree put it into the innermost list
mutual
  read_all-tokens : (t : Tree) (rest : List Token) → read_all (tokens t rest) ≡ put t (read_all rest)
  read_all-tokens hole rest = refl
  read_all-tokens (integer n) rest = refl
  read_all-tokens (truth b) rest = refl
  read_all-tokens (text s) rest = refl
  read_all-tokens (symbol s) rest = refl
  read_all-tokens (list m ts) rest = ap begin (read_all-tokens_all ts m rest)

  read_all-tokens_all : (ts : Trees) (m : Option ℕ) (rest : List Token) → read_all (tokens_all ts (end m ∷ rest)) ≡ (m, ts) ∷ read_all rest
  read_all-tokens_all nil m rest = refl
  read_all-tokens_all (cons t ts) m rest = read_all-tokens t (tokens_all ts (end m ∷ rest)) ∙ ap (put t) (read_all-tokens_all ts m rest)

-- the mark and the items of the innermost list
abbrev innermost : Ended → Option ℕ × Trees
innermost [] = (None, nil)
innermost (l ∷ outer) = l

-- the code of a token
abbrev coded_token : Coded Token
coded_token = code_by (ℕ × (ℤ × (Bool × (List ℕ × Option ℕ)))) (coded× coded_ℕ (coded× coded_ℤ (coded× coded_bool (coded× (coded_list coded_ℕ) (coded_option coded_ℕ)))))
    (λ t. (t.0, (t.1, (t.2, (t.3, t.4))))) (λ p. (p.0, p.1.0, p.1.1.0, p.1.1.1.0, p.1.1.1.1)) (λ _. refl)

-- the items of a list as a list
abbrev items_of : Trees → List Tree
items_of nil = []
items_of (cons t ts) = t ∷ items_of ts

-- a list is made again from the items that it gave
items_of-trees : (ts : List Tree) → items_of (trees ts) ≡ ts
items_of-trees [] = refl
items_of-trees (t ∷ ts) = ap (λ us. t ∷ us) (items_of-trees ts)

-- the tokens of what a list holds, with its end
abbrev to_tokens : Contents → List Token
to_tokens l = tokens_all (trees l.items) (end l.mark ∷ [])

-- what a list holds, from these tokens
abbrev from_tokens : List Token → Contents
from_tokens ts = record { mark = (innermost (read_all ts)).0; items = items_of (innermost (read_all ts)).1 }

-- what a list holds is made again from its tokens
pub from-to_tokens : (l : Contents) → from_tokens (to_tokens l) ≡ l
from-to_tokens l =
    ap (λ (e : Ended). record { mark = (innermost e).0; items = items_of (innermost e).1 }) (read_all-tokens_all (trees l.items) l.mark [])
    ∙ ap (λ (ts : List Tree). record { mark = l.mark; items = ts }) (items_of-trees l.items)

-- the code of what a list holds
abbrev pub coded_contents : Coded Contents
coded_contents = code_by (List Token) (coded_list coded_token) to_tokens from_tokens from-to_tokens
