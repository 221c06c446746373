-- The nonterminals to which data ask for cross nonterminals, by `(cross e)`, and the language that has those for which they ask.
use Rattle.std.specs.Prelude.{◌≡◌, ◌⊎◌, ℕ, List, [], ◌∷◌, ◌++◌, Result, Ok, Err, codes, if◌then◌else◌}
use Rattle.rdx_sexp.specs.Sexp.{Sexp, Sexps, leaf, list, nil, cons}
use Rattle.rdx_lang.specs.Crosses.{with_crosses_to}
use Rattle.rdx_lang.specs.Patterns.{Language}
use Rattle.rdx_patterns.specs.Kinds.{is_among}
use Rattle.rdx_patterns.specs.Nonterminals.{names_of}
use Rattle.rdx_patterns.specs.Parts.{is_word}
use Rattle.rdx_patterns.specs.Reading.{name_in}
use Rattle.rdx_patterns.specs.declared.shape.fault.DefFault.{DefFault}

-- ---- what is asked for

-- that of a list by its items, where these are the word `cross` and a name
abbrev pub end_of : Sexps → List (List ℕ)
end_of nil = []
end_of (cons w nil) = []
end_of (cons w (cons e nil)) = if is_word (codes "cross") w then name_in e else []
end_of (cons w (cons e (cons d ds))) = []

abbrev mutual
  -- those of a datum, however deep, in pre-order
  pub ends_in : Sexp → List (List ℕ)
  ends_in (leaf a s) = []
  ends_in (list ds s) = end_of ds ++ ends_among ds

  -- and those of several
  pub ends_among : Sexps → List (List ℕ)
  ends_among nil = []
  ends_among (cons d ds) = ends_in d ++ ends_among ds

-- ---- what a language is given

-- those that are among these names
abbrev pub known_ends : List (List ℕ) → List (List ℕ) → List (List ℕ)
known_ends ns [] = []
known_ends ns (y ∷ ys) = if is_among ns y then y ∷ known_ends ns ys else known_ends ns ys

-- the language with all cross nonterminals to those that are nonterminals of it
abbrev pub crossed_for : List (List ℕ) → Language → Language
crossed_for ys L = with_crosses_to L (known_ends (names_of L) ys)

-- what becomes of a language L over which data are read that ask for cross nonterminals to these: where something was read, it has gained those;
-- where not, it has gained them or stays
abbrev pub Gained : {A : Type 0} → Language → List (List ℕ) → Result A DefFault → Language → Type 0
Gained L ys (Ok x) M = M ≡ crossed_for ys L
Gained L ys (Err e) M = (M ≡ L) ⊎ (M ≡ crossed_for ys L)
