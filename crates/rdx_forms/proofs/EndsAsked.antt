-- What a form asks for, by its parts.
use Rattle.std.proofs.Common.{◌≡◌, ℕ, List, [], ◌∷◌, Option, Some, None, refl, ap, ◌∙◌, if◌then◌else◌}
use Rattle.std.specs.Prelude.{Bool, true, false}
use Rattle.rdx_sexp.specs.Sexp.{integer, truth, text, symbol, keyword, Sexp, leaf, list}
use Rattle.rdx_term.specs.Spelling.{is_name}
use Rattle.rdx_patterns.specs.Parts.{symbol_text, text_or_none, is_symbol}
use Rattle.rdx_patterns.specs.Reading.{name_in}
use Rattle.rdx_forms.specs.DefineParts.{ClosureParts, with_symbol}
use Rattle.rdx_forms.specs.Ends.{closure_ends}

-- one by a symbol asks for what this is, where it is a name
pub by-symbol : (q : ClosureParts) (x : List ℕ) → symbol_text q.by ≡ Some x → closure_ends (with_symbol (Some q)) ≡ (if is_name x then x ∷ [] else [])
by-symbol q x e =
    by_test (is_symbol q.by) (there_is q.by e) ∙ ap (λ (o : Option (List ℕ)). if is_name (text_or_none o) then text_or_none o ∷ [] else []) e
  where
    there_is : (d : Sexp) → symbol_text d ≡ Some x → is_symbol d ≡ true
    there_is (leaf (symbol y) s) f = refl
    there_is (leaf (integer n) s) f = absurd cc
    there_is (leaf (truth b) s) f = absurd cc
    there_is (leaf (text t) s) f = absurd cc
    there_is (leaf (keyword k) s) f = absurd cc
    there_is (list ds s) f = absurd cc

    by_test : (b : Bool) → b ≡ true → closure_ends (if b then Some q else None) ≡ name_in q.by
    by_test true f = refl
    by_test false f = absurd cc

-- where it is one
pub by-name : (q : ClosureParts) (x : List ℕ) → symbol_text q.by ≡ Some x → is_name x ≡ true → closure_ends (with_symbol (Some q)) ≡ x ∷ []
by-name q x e f = by-symbol q x e ∙ ap (λ (b : Bool). if b then x ∷ [] else []) f

-- and where it is none
pub by-no-name : (q : ClosureParts) (x : List ℕ) → symbol_text q.by ≡ Some x → is_name x ≡ false → closure_ends (with_symbol (Some q)) ≡ []
by-no-name q x e f = by-symbol q x e ∙ ap (λ (b : Bool). if b then x ∷ [] else []) f
