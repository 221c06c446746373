-- The nonterminals of known languages have names.
use Rattle.std.proofs.Common.{◌≡◌, ◌++◌, ◌∙◌, ℕ, Bool, true, false, List, [], ◌∷◌, Option, Some, None, IsTrue, refl, sym, ap, subst, if◌then◌else◌}
use Rattle.std.specs.Cmp.Lexicographic.{bytes_decides}
use Rattle.std.specs.Prelude.{bytes_eq}
use Rattle.rdx_sexp.specs.Sexp.{Sexp}
use Rattle.rdx_term.specs.Spelling.{is_name}
use Rattle.rdx_lang.specs.Crosses.{Way, new_cross, with_crosses, with_way, with_ways, language_ways, plain_definitions}
use Rattle.rdx_lang.specs.Members.{In}
use Rattle.rdx_lang.specs.Patterns.{Language}
use Rattle.rdx_lang.specs.Patterns as model
use Rattle.rdx_lang.specs.Programs.{language_among}
use Rattle.rdx_lang.specs.References.{is_among}
use Rattle.rdx_lang.specs.WellFormed.{defined}
use Rattle.rdx_lang.specs.declared.pattern.Ref.{Ref}
use Rattle.rdx_lang.specs.declared.pattern.Ref.TheVariants.{Nt, Cross}
use Rattle.rdx_patterns.proofs.Booleans.{or_true}
use Rattle.rdx_grammar.proofs.ExtendedNames.{is_among-append, heads-append, heads-extended, Within-added}
use Rattle.rdx_patterns.proofs.PlainDefinitions.{is_among-plain}
use Rattle.rdx_grammar.proofs.WellFormedForms.{refs, heads-definitions_of}
use Rattle.rdx_patterns.specs.Ends.{crossed_for, known_ends}
use Rattle.rdx_grammar.specs.Extension.{added}
use Rattle.rdx_patterns.specs.Found.{heads}
use Rattle.rdx_grammar.specs.Forms.{GrammarForm}
use Rattle.rdx_patterns.specs.AreNames.{AreNames}
use Rattle.rdx_grammar.specs.Languages.{definitions_of, written_over, language_over}
use Rattle.rdx_grammar.specs.Nonterminals.{names_in, all_names}
use Rattle.rdx_patterns.specs.Nonterminals.{names_of}
use Rattle.rdx_patterns.specs.Parts.{text_of}
use Rattle.rdx_forms.specs.Known.{Known, or_empty}
use Rattle.rdx_forms.specs.LanguageForms.{named_base}
use Rattle.rdx_query.proofs.FittingKnown.{plain-before}
use Rattle.rdx_forms.proofs.FoundByName.{language-among}

-- the nonterminals of a language, but for cross nonterminals, have names
abbrev pub HasNames : Language → Type 0
HasNames L = (x : List ℕ) → is_among (Nt x) (defined L) ≡ true → IsTrue (is_name x)

-- so do those of each of these
abbrev pub HaveNames : List Language → Type 0
HaveNames Ls = (L : Language) → In L Ls → HasNames L

-- ---- the cross nonterminals that a language needs

-- one more is no plain nonterminal
cross-plain : (b : Bool) (x y z : List ℕ) (ps : List model.Pattern) (xs : List Ref)
    → is_among (Nt x) (xs ++ heads (if b then [] else (Cross y z, ps) ∷ [])) ≡ true → is_among (Nt x) xs ≡ true
cross-plain true x y z ps xs h =
    or_true (is_among (Nt x) xs) (is_among (Nt x) []) (is_among (Nt x) xs ≡ true) (sym (is_among-append (Nt x) xs []) ∙ h) (λ e. e) (λ e. absurd cc)
cross-plain false x y z ps xs h =
    or_true (is_among (Nt x) xs) (is_among (Nt x) (Cross y z ∷ [])) (is_among (Nt x) xs ≡ true)
    (sym (is_among-append (Nt x) xs (Cross y z ∷ [])) ∙ h) (λ e. e) (λ e. absurd cc)

-- so a plain one was there before
way-plain : (L : Language) (w : Way) (x : List ℕ) → is_among (Nt x) (defined (with_way L w)) ≡ true → is_among (Nt x) (defined L) ≡ true
way-plain L w x h =
    let M = with_crosses L w.1 in
    plain-before L (w.1 ∷ []) x
    (cross-plain (is_among (Cross w.0 w.1) (defined M)) x w.0 w.1 _ (defined M)
    (ap (is_among (Nt x)) (sym (heads-append M.nonterminals (new_cross M w.1 w.0))) ∙ h))

-- with all that it needs
ways-plain : (L : Language) (ws : List Way) (x : List ℕ) → is_among (Nt x) (defined (with_ways L ws)) ≡ true → is_among (Nt x) (defined L) ≡ true
ways-plain L [] x h = h
ways-plain L (w ∷ ws) x h = way-plain L w x (ways-plain (with_way L w) ws x h)

-- ---- what a form defines

-- one of these names
named-of : (xs : List (List ℕ)) (x : List ℕ) → AreNames xs → is_among (Nt x) (refs xs) ≡ true → IsTrue (is_name x)
named-of [] x n h = absurd cc
named-of (y ∷ xs) x n h =
    or_true (bytes_eq x y) (is_among (Nt x) (refs xs)) (IsTrue (is_name x)) h
    (λ e. subst (λ (z : List ℕ). IsTrue (is_name z)) (sym ((bytes_decides x y).0 e)) n.0) (λ e. named-of xs x n.1 e)

-- the language of a form whose nonterminals have names, over one whose nonterminals do
pub over-names : (base : Language) (g : GrammarForm) → HasNames base → AreNames (names_in g.definitions) → HasNames (language_over base g)
over-names base g b n x h =
    let ns = all_names base g.definitions in
    let old = plain_definitions base.nonterminals in
    let new = definitions_of base ns g.definitions in
    let W = written_over base g in
    let k : is_among (Nt x) (heads old ++ heads (added old new)) ≡ true =
    ap (is_among (Nt x)) (sym (heads-extended old new)) ∙ ways-plain W (language_ways W) x h in
    or_true (is_among (Nt x) (heads old)) (is_among (Nt x) (heads (added old new))) (IsTrue (is_name x))
    (sym (is_among-append (Nt x) (heads old) (heads (added old new))) ∙ k)
    (λ e. b x (sym (is_among-plain base.nonterminals x) ∙ e))
    (λ e. named-of (names_in g.definitions) x n (ap (is_among (Nt x)) (sym (heads-definitions_of base ns g.definitions)) ∙ Within-added old new (Nt x) e))

-- a language keeps them with more cross nonterminals
pub crossed-names : (L : Language) (ys : List (List ℕ)) → HasNames L → HasNames (crossed_for ys L)
crossed-names L ys n x h = n x (plain-before L (known_ends (names_of L) ys) x h)

-- ---- the language that an extension names

-- one that is found, or none
or_empty-names : (Ls : List Language) (x : List ℕ) → HaveNames Ls → (o : Option Language) → language_among Ls x ≡ o → HasNames (or_empty o)
or_empty-names Ls x n None e = λ y h. absurd cc
or_empty-names Ls x n (Some L) e = n L (language-among Ls x L e)

-- has nonterminals with names
pub base-names : (K : Known) (o : Option Sexp) → HaveNames K.program.languages → HasNames (named_base K o)
base-names K None n = λ y h. absurd cc
base-names K (Some l) n = or_empty-names K.program.languages (text_of l) n (language_among K.program.languages (text_of l)) refl
