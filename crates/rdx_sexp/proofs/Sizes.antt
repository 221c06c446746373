-- The data of a text are of file size.
use Rattle.std.proofs.Common.{◌≤◌, ◌+◌, ◌*◌, ℕ, suc, List, [], ◌∷◌, length, subst, arith}
use Rattle.std.specs.Str.{chars}
use Rattle.std.proofs.lemmas.Str.{length-le-encodes, encodes-chars}
use Rattle.rdx_sexp.specs.Sexp.{Sexp, sexps, sexp_nodes, sexps_nodes}
use Rattle.rdx_sexp.specs.Size.{sexp_depth, sexps_depth, AreFileData}
use Rattle.rdx_sexp.specs.Lexeme.{Lexeme}
use Rattle.rdx_sexp.specs.Begin.{body}
use Rattle.rdx_sexp.specs.Text.{Text}
use Rattle.rdx_sexp.specs.Grammar.{One, one_leaf, one_list, one_quoted, one_skipped, Many, many_none, many_more, many_skipped}
use Rattle.rdx_sexp.specs.Reads.{Lexes, lexes_end, lexes_more, Reads}
use Rattle.rdx_sexp.proofs.Behind.{first_lexeme_is_shorter, body_is_no_longer}
use Rattle.rdx_sexp.proofs.Spelled.{data_are_spelled}

-- a lexeme has a character at least
lexemes_are_no_more : (ls : List Lexeme) (t : Text) → Lexes t ls → length ls ≤ length t.chars
lexemes_are_no_more [] t (lexes_end e) = omega arith
lexemes_are_no_more (l ∷ ls) t (lexes_more {rest} e more) = omega (arith, lexemes_are_no_more ls rest more, first_lexeme_is_shorter t (l, rest) e)

-- What is this deep and has so many nodes stands in n open things, and each lexeme makes two nodes at most: a quote mark is a list and a
-- symbol.
record Fine (depth nodes n : ℕ) (ls rest : List Lexeme) : Type 0 where
  shallow : depth + n ≤ 500
  few : nodes + 2 * length rest ≤ 2 * length ls

-- data are so
mutual
  one_is_fine : (n : ℕ) (ls rest : List Lexeme) (d : Sexp) → n ≤ 500 → One n ls d rest → Fine (sexp_depth d) (sexp_nodes d) n ls rest
  one_is_fine n ls rest d h one_leaf = record { shallow = omega arith; few = omega arith }
  one_is_fine n ls rest d h (one_list {s} {t} {ds} {ls = inner} lt many is) =
      let f = many_are_fine (suc n) inner _ ds (omega arith) many in
      subst (λ (x : Sexp). Fine (sexp_depth x) (sexp_nodes x) n ls rest) is (record { shallow = omega (arith, f.shallow); few = omega (arith, f.few) })
  one_is_fine n ls rest d h (one_quoted {m} {s} {e} {ls = inner} lt one is) =
      let f = one_is_fine (suc n) inner rest e (omega arith) one in
      subst (λ (x : Sexp). Fine (sexp_depth x) (sexp_nodes x) n ls rest) is (record { shallow = omega (arith, f.shallow); few = omega (arith, f.few) })
  one_is_fine n ls rest d h (one_skipped {d = x} {ls = inner} {mid} lt one then) =
      let f = one_is_fine (suc n) inner mid x (omega arith) one in
      let g = one_is_fine n mid rest d h then in
      record { shallow = g.shallow; few = omega (arith, f.few, g.few) }

  many_are_fine : (n : ℕ) (ls rest : List Lexeme) (ds : List Sexp) → n ≤ 500 → Many n ls ds rest → Fine (sexps_depth (sexps ds)) (sexps_nodes (sexps ds)) n ls rest
  many_are_fine n ls rest ds h many_none = record { shallow = omega arith; few = omega arith }
  many_are_fine n ls rest ds h (many_more {d} {ds = es} {mid} one many) =
      let f = one_is_fine n ls mid d h one in
      let g = many_are_fine n mid rest es h many in
      record { shallow = omega (arith, f.shallow, g.shallow); few = omega (arith, f.few, g.few) }
  many_are_fine n ls rest ds h (many_skipped {d} {ls = inner} {mid} lt one many) =
      let f = one_is_fine (suc n) inner mid d (omega arith) one in
      let g = many_are_fine n mid rest ds h many in
      record { shallow = g.shallow; few = omega (arith, f.few, g.few) }

-- the data of a text are not too deep
pub data_are_shallow : (ls : List Lexeme) (ds : List Sexp) → Many 0 ls ds [] → sexps_depth (sexps ds) ≤ 500
data_are_shallow ls ds many = let f = many_are_fine 0 ls [] ds (omega arith) many in omega (arith, f.shallow)

-- the data of bytes of a file's length are of file size
pub data_are_of_file_size : (bytes : List ℕ) (ds : List Sexp) → length bytes ≤ 1_048_576 → Reads bytes ds → AreFileData ds
data_are_of_file_size bytes ds h r =
    let f = many_are_fine 0 r.lexemes [] ds (omega arith) r.data_are in
    let a = lexemes_are_no_more r.lexemes (body (chars bytes)) r.lexed in
    let b = body_is_no_longer (chars bytes) in
    let d : length (chars bytes) ≤ length bytes = subst (λ (x : List ℕ). length (chars bytes) ≤ length x) (encodes-chars bytes r.utf8) (length-le-encodes (chars bytes)) in
    record { depth = omega (arith, f.shallow); nodes = omega (arith, f.few, a, b, d); spelled = data_are_spelled bytes r.lexemes ds r.utf8 r.lexed r.data_are }
