-- Data are told apart by their code: the pieces of their spelling, from which the datum is built again from the last piece to the first.
use Rattle.std.specs.Prelude.{◌≡◌, ℕ, zero, suc, ℤ, pos, Bool, false, List, [], ◌∷◌, Option, Some, None, refl}
use Rattle.std.proofs.Common.{◌∙◌, ap}
use Rattle.std.specs.Coded.{Coded, code_by, coded×, coded_ℕ, coded_ℤ, coded_bool, coded_list, coded_option}
use Rattle.rdx_base.specs.declared.place.Place.{Place}
use Rattle.rdx_base.specs.declared.place.Span.{Span}
use Rattle.rdx_sexp.specs.Sexp.{Atom, integer, truth, text, symbol, keyword, Sexp, Sexps, leaf, list, nil, cons}

-- ---- atoms: a kind, a number, a truth value and bytes

abbrev AtomCode : Type 0
AtomCode = ℕ × ℤ × Bool × List ℕ

abbrev atom_code : Atom → AtomCode
atom_code (integer n) = (0, n, false, [])
atom_code (truth b) = (1, pos 0, b, [])
atom_code (text t) = (2, pos 0, false, t)
atom_code (symbol t) = (3, pos 0, false, t)
atom_code (keyword t) = (4, pos 0, false, t)

abbrev atom_of_kind : ℕ → ℤ → Bool → List ℕ → Atom
atom_of_kind zero n b t = integer n
atom_of_kind (suc zero) n b t = truth b
atom_of_kind (suc (suc zero)) n b t = text t
atom_of_kind (suc (suc (suc zero))) n b t = symbol t
atom_of_kind (suc (suc (suc (suc k)))) n b t = keyword t

abbrev atom_from_code : AtomCode → Atom
atom_from_code x = atom_of_kind x.0 x.1 x.2 x.3

pub atom-from_code : (a : Atom) → atom_from_code (atom_code a) ≡ a
atom-from_code (integer n) = refl
atom-from_code (truth b) = refl
atom-from_code (text t) = refl
atom-from_code (symbol t) = refl
atom-from_code (keyword t) = refl

abbrev coded_atom_code : Coded AtomCode
coded_atom_code = code_by (ℕ × (ℤ × (Bool × List ℕ))) (coded× coded_ℕ (coded× coded_ℤ (coded× coded_bool (coded_list coded_ℕ))))
    (λ x. (x.0, (x.1, (x.2, x.3)))) (λ p. (p.0, p.1.0, p.1.1.0, p.1.1.1)) (λ _. refl)

abbrev coded_atom : Coded Atom
coded_atom = code_by AtomCode coded_atom_code atom_code atom_from_code atom-from_code

-- ---- spans

abbrev coded_place : Coded Place
coded_place = code_by (ℕ × ℕ) (coded× coded_ℕ coded_ℕ) (λ p. (p.line, p.column)) (λ p. record { line = p.0; column = p.1 }) (λ _. refl)

abbrev coded_span : Coded Span
coded_span = code_by (Place × Place) (coded× coded_place coded_place) (λ s. (s.start, s.end)) (λ p. record { start = p.0; end = p.1 }) (λ _. refl)

-- ---- data

-- an atom with its span, the beginning of a list with the list's span, or, where there is none, the end of a list
abbrev Piece : Type 0
Piece = Option (Option Atom × Span)

abbrev mutual
  spell : Sexp → List Piece → List Piece
  spell (leaf a s) rest = Some (Some a, s) ∷ rest
  spell (list ds s) rest = Some (None, s) ∷ spell_all ds (None ∷ rest)

  spell_all : Sexps → List Piece → List Piece
  spell_all nil rest = rest
  spell_all (cons d ds) rest = spell d (spell_all ds rest)

abbrev put : Sexp → List Sexps → List Sexps
put d [] = []
put d (o ∷ outer) = cons d o ∷ outer

abbrev begin : Span → List Sexps → List Sexps
begin s [] = []
begin s (o ∷ outer) = put (list o s) outer

abbrev step : Piece → List Sexps → List Sexps
step None open_lists = nil ∷ open_lists
step (Some x) open_lists = spelled x.0 x.1
  where
    spelled : Option Atom → Span → List Sexps
    spelled None s = begin s open_lists
    spelled (Some a) s = put (leaf a s) open_lists

abbrev build : List Piece → List Sexps
build [] = nil ∷ []
build (m ∷ ms) = step m (build ms)

mutual
  build-spell : (d : Sexp) (rest : List Piece) → build (spell d rest) ≡ put d (build rest)
  build-spell (leaf a s) rest = refl
  build-spell (list ds s) rest = ap (begin s) (build-spell_all ds rest)

  build-spell_all : (ds : Sexps) (rest : List Piece) → build (spell_all ds (None ∷ rest)) ≡ ds ∷ build rest
  build-spell_all nil rest = refl
  build-spell_all (cons d ds) rest = build-spell d (spell_all ds (None ∷ rest)) ∙ ap (put d) (build-spell_all ds rest)

abbrev first : Sexps → Sexp
first nil = list nil (record { start = record { line = 0; column = 0 }; end = record { line = 0; column = 0 } })
first (cons d ds) = d

abbrev innermost : List Sexps → Sexps
innermost [] = nil
innermost (o ∷ outer) = o

abbrev to_pieces : Sexp → List Piece
to_pieces d = spell d []

abbrev from_pieces : List Piece → Sexp
from_pieces ms = first (innermost (build ms))

pub from-to_pieces : (d : Sexp) → from_pieces (to_pieces d) ≡ d
from-to_pieces d = ap (λ (o : List Sexps). first (innermost o)) (build-spell d [])

abbrev pub coded_sexp : Coded Sexp
coded_sexp = code_by (List Piece) (coded_list (coded_option (coded× (coded_option coded_atom) coded_span))) to_pieces from_pieces from-to_pieces
