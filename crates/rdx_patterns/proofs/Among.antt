-- Nonterminals by their names.
use Rattle.std.proofs.Common.{◌≡◌, ℕ, Bool, List, [], ◌∷◌, refl, sym}
use Rattle.std.specs.Prelude.{◌||◌, bytes_eq, flat_map}
use Rattle.std.specs.Cmp.Lexicographic.{bytes_decides}
use Rattle.rdx_lang.specs.References.{is_among as is_defined_among}
use Rattle.rdx_lang.specs.declared.pattern.Ref.{Ref}
use Rattle.rdx_lang.specs.declared.pattern.Ref.TheVariants.{Nt, Cross}
use Rattle.rdx_patterns.specs.Kinds.{is_among}
use Rattle.rdx_patterns.specs.Nonterminals.{ref_names}
use Rattle.rdx_patterns.proofs.Tests.{either_way}

-- two texts are compared either way
pub bytes_eq-sym : (x y : List ℕ) → bytes_eq x y ≡ bytes_eq y x
bytes_eq-sym x y = either_way (bytes_eq x y) (bytes_eq y x)
    (λ e. (bytes_decides y x).1 (sym ((bytes_decides x y).0 e)))
    (λ e. (bytes_decides x y).1 (sym ((bytes_decides y x).0 e)))

-- one of two, each by an equal test
or_both : (a b c d : Bool) → a ≡ b → c ≡ d → (a || c) ≡ (b || d)
or_both a b c d e f = cc

-- a name among those of nonterminals is one of these
pub is_among-names : (x : List ℕ) (xs : List Ref) → is_among (flat_map ref_names xs) x ≡ is_defined_among (Nt x) xs
is_among-names x [] = refl
is_among-names x (Nt y ∷ xs) =
    or_both (bytes_eq y x) (bytes_eq x y) (is_among (flat_map ref_names xs) x) (is_defined_among (Nt x) xs) (bytes_eq-sym y x) (is_among-names x xs)
is_among-names x (Cross y z ∷ xs) = is_among-names x xs
