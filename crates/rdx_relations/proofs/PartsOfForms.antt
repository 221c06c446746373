-- What the parts of a form have by what each datum has, where that passes from a list to its items.
use Rattle.std.proofs.Common.{◌≡◌, true, false, List, [], ◌∷◌, IsTrue}
use Rattle.std.specs.Prelude.{Option, Some, None, codes}
use Rattle.rdx_sexp.specs.Sexp.{Sexp, Sexps, list}
use Rattle.rdx_term.specs.Spelling.{is_name}
use Rattle.rdx_patterns.specs.Parts.{listed, text_of, is_symbol, is_word}
use Rattle.rdx_patterns.specs.Readable.{IsReadable}
use Rattle.rdx_parts.specs.Headed.{Headed}
use Rattle.rdx_relations.specs.Inside.FormOutlines.{domain_patterns}
use Rattle.rdx_parts.specs.Outlines.{Takes, one, several, each}
use Rattle.rdx_parts.specs.PartsHave.{Wanted, AreReadableItems, AreReadableSymbols, AreNames}
use Rattle.rdx_relations.specs.RelationForms.{RelationForm}
use Rattle.rdx_base.specs.declared.place.Span.{Span}

-- ---- names

-- a symbol that is readable
pub record IsNamed (f : Sexp) : Type 0 where
  pub symbol : is_symbol f ≡ true
  pub readable : IsReadable f

-- ---- several data

-- each of these has P
abbrev pub Each : (Sexp → Type 0) → List Sexp → Type 0
Each P [] = Unit {0}
Each P (d ∷ ds) = P d × Each P ds

module _ (P : Sexp → Type 0) where
  -- ---- forms

  -- where there are any, all have it
  abbrev pub EachIn : Option (List Sexp) → Type 0
  EachIn None = Unit {0}
  EachIn (Some ds) = Each P ds

  -- a list headed by a symbol whose parts have it
  pub record HeadedHas (q : Headed) : Type 0 where
    pub head : IsNamed q.head
    pub arguments : Each P q.arguments

  -- where there is one
  abbrev pub HeadedHasIn : Option Headed → Type 0
  HeadedHasIn None = Unit {0}
  HeadedHasIn (Some q) = HeadedHas q

  -- what a form of a relation is to have: such parts, and the name of a language, which `hole` is none of
  pub record RelationHas (r : RelationForm) : Type 0 where
    pub domain : Each P (domain_patterns r.domain)
    pub cases : Each P r.cases
    pub language : is_word (codes "hole") r.language ≡ false → IsTrue (is_name (text_of r.language))

  -- where there is one
  abbrev pub RelationHasIn : Option RelationForm → Type 0
  RelationHasIn None = Unit {0}
  RelationHasIn (Some r) = RelationHas r

-- ---- what passes on

-- P passes from a list to its items, and is had by readable data alone; where what is taken has it, T holds of that
pub record IsInherited (P : Sexp → Type 0) (T : Takes → Type 0) : Type 0 where
  pub readable : (d : Sexp) → P d → IsReadable d
  pub items : (ds : Sexps) (s : Span) → P (list ds s) → Each P (listed ds)
  pub taken_one : (p : Sexp) → P p → T (one p)
  pub taken_several : (ds : List Sexp) → AreReadableItems ds → Each P ds → T (several ds)
  pub taken_each : (ds : List Sexp) → Each P ds → T (each ds)

-- what is wanted of what is taken, and of names to be made that they are symbols
abbrev pub wanted : (Takes → Type 0) → Wanted
wanted T = record { taken = T; asked = λ q. Unit {0}; made = AreReadableSymbols }

-- the same, and that they are names
abbrev pub bound : (Takes → Type 0) → Wanted
bound R = record { taken = R; asked = λ q. Unit {0}; made = AreNames }
