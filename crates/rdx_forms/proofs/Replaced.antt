-- Places of a list, and an element that is put in the place of another.
use Rattle.std.proofs.Common.{◌≡◌, ℕ, zero, suc, ◌<◌, length, get_or, set, List, [], ◌∷◌, Option, Some, IfSome, map, ap, sym, subst, arith}
use Rattle.std.specs.Rc.{rc_str_bytes}
use Rattle.rdx_lang.specs.Checked.{language_in}
use Rattle.rdx_lang.specs.Patterns.{Language}
use Rattle.rdx_lang.specs.ProgramView.{program_of}
use Rattle.rdx_lang.specs.Programs.{Program}
use Rattle.rdx_lang.specs.declared.checked.CheckedLang.{CheckedLang}
use Rattle.rdx_templates.specs.Scope.{scope_of}
use Rattle.rdx_answer.specs.Views.{bound_of}
use Rattle.rdx_forms.specs.KnownView.{known_of}
use Rattle.rdx_forms.specs.Model.Tabled.{AreTabled}
use Rattle.rdx_forms.specs.Known as model
use Rattle.rdx_forms.specs.declared.known.Known.{Known}

-- one with the same image changes no image
pub map-set : {A B : Type 0} (f : A → B) (xs : List A) (i : ℕ) (x y : A) → i < length xs → f y ≡ f (get_or xs i x) → map f (set xs i y) ≡ map f xs
map-set f [] i x y h e = absurd (omega arith)
map-set f (z ∷ xs) zero x y h e = ap (λ b. b ∷ map f xs) e
map-set f (z ∷ xs) (suc i) x y h e = ap (λ bs. f z ∷ bs) (map-set f xs i x y (omega arith) e)

-- where a place that is found lies within bounds, it does
pub some-within : (o : Option ℕ) (i n : ℕ) → IfSome o (λ j. j < n) → o ≡ Some i → i < n
some-within o i n h e = subst (λ (p : Option ℕ). IfSome p (λ j. j < n)) e h

-- what is known with these languages in place of its own
abbrev over_languages : Known → List CheckedLang → model.Known
over_languages k ls = record {
  scope = scope_of k.scope;
  languages = map (λ l. (l.0, rc_str_bytes l.1)) k.languages.items;
  ends = k.ends.items;
  program = record {
    languages = map language_in ls;
    metafunctions = (program_of k.program).metafunctions;
    judgements = (program_of k.program).judgements;
    relations = (program_of k.program).relations;
  };
  forms = bound_of k.forms.items;
}

-- it stays the same, where a language is put in the place of one with the same meaning
pub same-known : (k : Known) (i : ℕ) (x y : CheckedLang) → i < length k.program.languages.items → language_in y ≡ language_in (get_or k.program.languages.items i x)
    → over_languages k (set k.program.languages.items i y) ≡ known_of k
same-known k i x y h e =
    ap (λ (Ls : List Language). let P : Program = record (program_of k.program) { languages = Ls } in let K : model.Known = record { scope = scope_of k.scope; languages = map (λ l. (l.0, rc_str_bytes l.1)) k.languages.items; ends = k.ends.items; program = P; forms = bound_of k.forms.items } in K)
    (map-set language_in k.program.languages.items i x y h e)

-- what is defined is found in the tables as before
pub tables-stay : (k : Known) (i : ℕ) (x y : CheckedLang) → i < length k.program.languages.items → language_in y ≡ language_in (get_or k.program.languages.items i x)
    → AreTabled k.tables (over_languages k (set k.program.languages.items i y)).program
tables-stay k i x y h e = subst (λ (K : model.Known). AreTabled k.tables K.program) (sym (same-known k i x y h e)) k.tabled
