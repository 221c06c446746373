-- The items of a list pattern, read one by one.
use Rattle.std.proofs.Common.{◌≡◌, ◌++◌, ℕ, ◌+◌, ◌<◌, Bool, true, false, length, drop, get_or, List, [], ◌∷◌, Some, None, refl, ap, if◌then◌else◌}
use Rattle.std.specs.Bool.{then_some}
use Rattle.rdx_sexp.specs.Sexp.{Sexp, sexps}
use Rattle.rdx_term.specs.Spelling.{is_name}
use Rattle.rdx_lang.specs.Patterns.{Items, nil, one, many}
use Rattle.rdx_lang.specs.PatternView.{Slot, just, repeated, items_of}
use Rattle.rdx_patterns.specs.Heads.{Roles, next, rest}
use Rattle.rdx_patterns.specs.Parts.{text_of}
use Rattle.rdx_patterns.specs.Reading.{name_in, ellipsis_behind, with_item, role_items, reading, items_among}
use Rattle.rdx_patterns.specs.declared.patterns.position.Position.{Position}
use Rattle.rdx_patterns.proofs.Rests.{drop-at}

-- the name that a symbol is, where it is one, as a list
pub name-some : (d : Sexp) (x : List ℕ) → Some x ≡ then_some (is_name (text_of d)) (text_of d) → name_in d ≡ x ∷ []
name-some d x e = by_test (is_name (text_of d)) e
  where
    by_test : (b : Bool) → Some x ≡ then_some b (text_of d) → (let xs : List (List ℕ) = if b then text_of d ∷ [] else [] in xs) ≡ x ∷ []
    by_test true f = cc
    by_test false f = absurd cc

pub name-none : (d : Sexp) → None ≡ then_some (is_name (text_of d)) (text_of d) → name_in d ≡ []
name-none d e = by_test (is_name (text_of d)) e
  where
    by_test : (b : Bool) → None ≡ then_some b (text_of d) → (let xs : List (List ℕ) = if b then text_of d ∷ [] else [] in xs) ≡ []
    by_test true f = absurd cc
    by_test false f = refl

-- the items with those of slots in front
abbrev pub before : List Slot → Items → Items
before [] ps = ps
before (s ∷ slots) ps = with_item s (before slots ps)

-- one slot more
pub before-push : (slots : List Slot) (s : Slot) (ps : Items) → before (slots ++ s ∷ []) ps ≡ before slots (with_item s ps)
before-push [] s ps = refl
before-push (t ∷ slots) s ps = ap (with_item t) (before-push slots s ps)

-- no items behind
pub before-nil : (slots : List Slot) → before slots nil ≡ items_of slots
before-nil [] = refl
before-nil (just p ∷ slots) = ap (one p) (before-nil slots)
before-nil (repeated p n ∷ slots) = ap (many p n) (before-nil slots)

module _ (ns : List (List ℕ)) (pos : Position) where
  -- the next item is read
  pub items-at : (rs : Roles) (ds : List Sexp) (i : ℕ) (d : Sexp) → i < length ds → d ≡ get_or ds i d → items_among ns pos rs (sexps (drop i ds)) ≡ role_items (next rs d) (ellipsis_behind (rest rs d) (sexps (drop (i + 1) ds))) (reading ns pos d) (items_among ns pos (rest rs d) (sexps (drop (i + 1) ds)))
  items-at rs ds i d h e = ap (λ es. items_among ns pos rs (sexps es)) (drop-at ds i d h e)
