-- Shorthand in relations: behind the cases may stand `with` and then shortcuts, each of which says what an arrow of its own stands for (the Redex
-- reference manual, "Reduction Relations").
use Rattle.std.specs.Prelude.{ℕ, Bool, not, ◌&&◌, ◌||◌, List, [], ◌∷◌, ◌++◌, Option, Some, None, codes, bytes_eq, if◌then◌else◌}
use Rattle.rdx_sexp.specs.Sexp.{Sexp}
use Rattle.rdx_patterns.specs.Kinds.{is_among}
use Rattle.rdx_patterns.specs.Parts.{parts, is_symbol, is_word, text_of}

-- ---- cases and shortcuts

-- the cases: what stands before the first `with`
abbrev pub before_with : List Sexp → List Sexp
before_with [] = []
before_with (d ∷ ds) = if is_word (codes "with") d then [] else d ∷ before_with ds

-- and the shortcuts: what stands behind it
abbrev pub behind_with : List Sexp → List Sexp
behind_with [] = []
behind_with (d ∷ ds) = if is_word (codes "with") d then ds else behind_with ds

-- a shortcut `((old p t) (new a b))`: a case `(new q u extra ...)` stands for the case `(old p t extra ...)` with q in place of each a in p, and u
-- in place of each b in t
pub record Shortcut : Type 0 where
  pub old : Sexp
  pub pattern : Sexp
  pub result : Sexp
  pub new : Sexp
  pub for_pattern : Sexp
  pub for_result : Sexp

-- the new arrow is a symbol other than `-->`, and the two that are replaced are different symbols
abbrev pub is_new_arrow : Sexp → Sexp → Sexp → Bool
is_new_arrow n a b = is_symbol n && not (is_word (codes "-->") n) && is_symbol a && is_symbol b && not (bytes_eq (text_of a) (text_of b))

-- lists of these parts as a shortcut
abbrev pub shortcut_among : Option (List Sexp) → Option (List Sexp) → Option Shortcut
shortcut_among (Some (o ∷ p ∷ t ∷ [])) (Some (n ∷ a ∷ b ∷ [])) =
    if is_symbol o && is_new_arrow n a b
    then Some (record { old = o; pattern = p; result = t; new = n; for_pattern = a; for_result = b })
    else None
shortcut_among x y = None

-- the two lists of a shortcut
abbrev pub shortcut_of_lists : Option (List Sexp) → Option Shortcut
shortcut_of_lists (Some (c ∷ n ∷ [])) = shortcut_among (parts c) (parts n)
shortcut_of_lists o = None

-- a datum as a shortcut
abbrev pub shortcut_form : Sexp → Option Shortcut
shortcut_form d = shortcut_of_lists (parts d)

-- one more shortcut, where the datum is one
abbrev pub with_shortcut : Option Shortcut → List Shortcut → List Shortcut
with_shortcut None ss = ss
with_shortcut (Some s) ss = s ∷ ss

-- the shortcuts that data are, in their order
abbrev pub shortcuts_of : List Sexp → List Shortcut
shortcuts_of [] = []
shortcuts_of (d ∷ ds) = with_shortcut (shortcut_form d) (shortcuts_of ds)

-- those whose arrow is none of these and none of an earlier one: of several with one arrow the first counts
abbrev pub first_of_each : List (List ℕ) → List Shortcut → List Shortcut
first_of_each seen [] = []
first_of_each seen (s ∷ ss) =
    (if is_among seen (text_of s.new) then [] else s ∷ []) ++ first_of_each (text_of s.new ∷ seen) ss

-- ---- arrows

-- an arrow is `-->` or one of these
abbrev pub is_known_arrow : List (List ℕ) → Sexp → Bool
is_known_arrow news a = is_word (codes "-->") a || is_among news (text_of a)
