-- What comes of a pattern from the start.
use Rattle.std.proofs.Common.{◌≡◌, ℕ, List, [], refl, ap, ◌∙◌, true, Option, Some, None, Result, Ok, Err, sym, subst}
use Rattle.std.specs.Prelude.{IsFalse, IsErrAnd}
use Rattle.rand_pcg.specs.Lcg.{Lcg}
use Rattle.rdx_term.specs.Tree.{Tree}
use Rattle.rdx_term.specs.View.{tree_of}
use Rattle.rdx_term.specs.declared.term.Term.{Term}
use Rattle.rdx_lang.specs.Patterns.{Pattern, Language}
use Rattle.rdx_gen.specs.Answered.{Answers}
use Rattle.rdx_gen.specs.Generated.{outcome, Generates, has_bad_name, is_barren, makes, stops_deep, stops_large}
use Rattle.rdx_gen.specs.Generation.{Notes, Setting, lacks, term, inner_at, setting_of}
use Rattle.rdx_gen.specs.Generators.{Begins}
use Rattle.rdx_gen.specs.Heights.{known_in, term_height}
use Rattle.rdx_gen.specs.Inside.Answering.{answered}
use Rattle.rdx_gen.specs.Inside.Scopes.{language_here, setting_in, notes_here}
use Rattle.rdx_gen.specs.NameRules.{notes_of, first_bad_name}
use Rattle.rdx_gen.specs.Outcomes.{State}
use Rattle.rdx_gen.specs.Views.{Says}
use Rattle.rdx_gen.specs.declared.fault.GenFault.{GenFault}
use Rattle.rdx_gen.specs.declared.fault.GenFault.TheVariants as faults
use Rattle.rdx_gen.specs.declared.setting.Notes as code_notes
use Rattle.rdx_gen.specs.declared.setting.Setting as code
use Rattle.rdx_gen.specs.declared.stop.Stop.{Stop}
use Rattle.rdx_gen.specs.declared.stop.Stop.TheVariants.{TooDeep, TooLarge, NoMemory}

-- what there is to know of the language is the definition's
pub setting_known : (S : code.Setting) → setting_in S ≡ setting_of (language_here S)
setting_known S = (λ i. record {
  known = record { definitions = (language_here S).nonterminals; heights = S.high i };
  unmentioned = S.free i;
})

pub from_start : (S : code.Setting) (o : code_notes.Notes) (n size : ℕ) (p : Pattern) (w : Lcg) (ts : List (List ℕ × Tree)) (ls : List (List ℕ × ℕ))
    → notes_here o ≡ notes_of (known_in (language_here S)) p → ts ≡ [] → ls ≡ []
    → term (setting_in S) (inner_at (language_here S) (setting_in S) n) (notes_here o) size p (record { words = w; terms = ts; lengths = ls })
    ≡ outcome n (language_here S) p size w
from_start S o n size p w ts ls h t l =
    ap (λ (z : Setting). term z (inner_at (language_here S) z n) (notes_here o) size p (record { words = w; terms = ts; lengths = ls })) (setting_known S)
    ∙ ap (λ (z : Notes). term (setting_of (language_here S)) (inner_at (language_here S) (setting_of (language_here S)) n) z size p (record { words = w; terms = ts; lengths = ls })) h
    ∙ (λ i. term (setting_of (language_here S)) (inner_at (language_here S) (setting_of (language_here S)) n) (notes_of (known_in (language_here S)) p) size p
    (record { words = w; terms = t i; lengths = l i }))

-- a height that is lacking is none
pub lacking : (h : Option ℕ) → lacks h ≡ true → h ≡ None
lacking None e = refl
lacking (Some n) e = absurd cc

-- what comes of a pattern is the answer
pub generates_so : (n : ℕ) (L : Language) (p : Pattern) (size : ℕ) (w : Lcg) (r : Result Term Stop) (s : State) → first_bad_name L p ≡ None
    → IsFalse (lacks (term_height (known_in L) p)) → Says tree_of (outcome n L p size w) r s → Answers (λ a. Generates L p size w a s.words) (answered r)
generates_so n L p size w (Ok t) s b h e = makes n s b h e
generates_so n L p size w (Err TooDeep) s b h e = stops_deep n b h e
generates_so n L p size w (Err TooLarge) s b h e = stops_large n b h e
generates_so n L p size w (Err NoMemory) s b h e = tt

-- why there is no generator is the answer, and no word is taken
no_generator : (L : Language) (p : Pattern) (size : ℕ) (w : Lcg) (f : GenFault) → Begins L p (Err f) → Answers (λ a. Generates L p size w a w) (Err f)
no_generator L p size w (faults.GenName x) h = has_bad_name h
no_generator L p size w faults.Barren h = is_barren h.0 h.1
no_generator L p size w faults.TooDeep h = absurd h
no_generator L p size w faults.TooLarge h = absurd h
no_generator L p size w faults.NoMemory h = tt

pub refused_so : (L : Language) (p : Pattern) (size : ℕ) (w : Lcg) (r : Result Term GenFault) (f : GenFault) → IsErrAnd r (λ g. g ≡ f) → Begins L p (Err f)
    → Answers (λ a. Generates L p size w a w) r
refused_so L p size w (Ok t) f d h = absurd d
refused_so L p size w (Err g) f d h = subst (λ (z : GenFault). Answers (λ a. Generates L p size w a w) (Err z)) (sym d) (no_generator L p size w f h)
