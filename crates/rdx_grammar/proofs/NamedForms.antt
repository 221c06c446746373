-- What a form defines has names, where the check of names passes and the symbols are spelled as those of terms.
use Rattle.std.proofs.Common.{◌≡◌, ℕ, false, List, [], ◌∷◌, Option, Some, None, subst}
use Rattle.std.specs.Prelude.{◌||◌, bytes_eq, codes, is_some}
use Rattle.rdx_sexp.specs.Sexp.{Sexp}
use Rattle.rdx_grammar.specs.Checks.{bad_name, bad_names, is_bad_nonterminal}
use Rattle.rdx_grammar.specs.Forms.{GrammarForm}
use Rattle.rdx_patterns.specs.AreNames.{AreNames}
use Rattle.rdx_grammar.specs.Inside.CheckedForms.{AreNamedIn, AreSpelledIn}
use Rattle.rdx_patterns.specs.Kinds.{kind_of}
use Rattle.rdx_patterns.specs.Names.{is_one_of, kept_words, is_bad_name, begins_with_dots, has_suffix}
use Rattle.rdx_grammar.specs.Nonterminals.{names_in}
use Rattle.rdx_patterns.specs.Parts.{text_of}
use Rattle.rdx_patterns.specs.PatternChecks.{bad_binders}
use Rattle.rdx_patterns.specs.Refusal.{named}
use Rattle.rdx_grammar.specs.Refused.{bad_name_at}
use Rattle.rdx_grammar.specs.Stands.{Stand, misshaped, defined, nonterminal, alternative, inherited, form_stands, definitions_stand}
use Rattle.rdx_patterns.specs.declared.shape.fault.DefKind.TheVariants.{BadName}
use Rattle.rdx_patterns.proofs.Booleans.{or_false}
use Rattle.rdx_grammar.proofs.DefinitionSpelled.{AreSpellings, names_in-spelled}
use Rattle.rdx_patterns.proofs.Firsts.{nothing, none_first, none_both}
use Rattle.rdx_grammar.proofs.FormNonterminals.{nonterminals_in, nonterminals_in-definitions}
use Rattle.rdx_patterns.proofs.SpelledNames.{name-spelled, language-not_hole}

-- the kept words but `hole`
abbrev others : List (List ℕ)
others =
    codes "name" ∷ codes "in-hole" ∷ codes "hide-hole" ∷ codes "cross" ∷ codes "variable-except" ∷ codes "variable-prefix" ∷ codes "side-condition"
    ∷ codes "::=" ∷ []

-- a name that a nonterminal may have is no `hole`
nonterminal-not_hole : (x : List ℕ) → is_bad_nonterminal x ≡ false → bytes_eq x (codes "hole") ≡ false
nonterminal-not_hole x e =
    let f = or_false (is_some (kind_of x) || is_one_of kept_words x || has_suffix x) (begins_with_dots x) e in
    let g = or_false (is_some (kind_of x) || is_one_of kept_words x) (has_suffix x) f.0 in
    let h : is_one_of kept_words x ≡ false = (or_false (is_some (kind_of x)) (is_one_of kept_words x) g.0).1 in
    (or_false (bytes_eq x (codes "hole")) (is_one_of others x) h).0

-- none of these is `hole`
abbrev AreOther : List (List ℕ) → Type 0
AreOther [] = Unit {0}
AreOther (x ∷ xs) = (bytes_eq x (codes "hole") ≡ false) × AreOther xs

-- the nonterminals that the check of names passes
others-nonterminals : (ss : List Stand) → bad_names ss ≡ [] → AreOther (nonterminals_in ss)
others-nonterminals [] e = tt
others-nonterminals (misshaped d ∷ ss) e = others-nonterminals ss e
others-nonterminals (defined d ∷ ss) e = others-nonterminals ss (none_both (bad_name (defined d)) (bad_names ss) e).1
others-nonterminals (nonterminal d ∷ ss) e =
    let f = none_first (is_bad_nonterminal (text_of d)) d (bad_names ss) e in
    (nonterminal-not_hole (text_of d) f.0, others-nonterminals ss f.1)
others-nonterminals (alternative os ∷ ss) e = others-nonterminals ss (none_both (bad_binders os) (bad_names ss) e).1
others-nonterminals (inherited d names again ∷ ss) e = others-nonterminals ss e

-- spellings other than `hole` are names
names-spelled : (xs : List (List ℕ)) → AreSpellings xs → AreOther xs → AreNames xs
names-spelled [] h k = tt
names-spelled (x ∷ xs) h k = (name-spelled x h.0 k.0, names-spelled xs h.1 k.1)

-- what the form defines has names
pub AreNamedIn-passed : (d : Sexp) (g : Option GrammarForm) → AreSpelledIn g → bad_name_at (form_stands d g) ≡ None → AreNamedIn g
AreNamedIn-passed d None h e = tt
AreNamedIn-passed d (Some g) h e =
    let none : bad_names (form_stands d (Some g)) ≡ [] = nothing (named BadName) (bad_names (form_stands d (Some g))) e in
    let f = none_first (is_bad_name (text_of g.name)) g.name (bad_names (definitions_stand g.definitions)) none in
    record {
      language = name-spelled (text_of g.name) h.language (language-not_hole (text_of g.name) f.0);
      nonterminals = names-spelled (names_in g.definitions) (names_in-spelled g.definitions h.definitions)
          (subst AreOther (nonterminals_in-definitions g.definitions) (others-nonterminals (definitions_stand g.definitions) f.1));
    }
