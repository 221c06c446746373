-- What is accepted can be explained.
use Rattle.std.proofs.Common.{◌≡◌, ℕ, true, List, [], ◌∷◌, Option, Some, None, refl}
use Rattle.std.proofs.lemmas.Bool.{and_parts}
use Rattle.std.specs.Prelude.{◌&&◌, IsTrue}
use Rattle.std.specs.List.{list_all}
use Rattle.rdx_sexp.specs.Sexp.{Sexp}
use Rattle.rdx_sexp.specs.Size.{AreFileData}
use Rattle.rdx_lang.proofs.WellFormedCrosses.{well_formed-known}
use Rattle.rdx_lang.specs.Patterns.{Pattern, Language}
use Rattle.rdx_lang.specs.Programs.{Program, language_named}
use Rattle.rdx_lang.specs.WellFormed.{defined, is_well_formed_in}
use Rattle.rdx_deriv.specs.Holds.{Spoken}
use Rattle.rdx_answer.specs.Explained.{CanBeExplained, AllCanBeExplained, IsExplainable}
use Rattle.rdx_answer.specs.Queries.{Query, matches, whether, splits, value, holds, reducts, tagged, stepper, generate, check, alike, substituted, test_equal, test_step, test_run, test_match, test_holds, test_results}
use Rattle.rdx_forms.proofs.FoundByName.{language-among}
use Rattle.rdx_query.proofs.AcceptedLanguages.{accepted_languages-formed}
use Rattle.rdx_query.proofs.ValidFiles.{accepted-valid, accepted_queries-valid}
use Rattle.rdx_query.specs.File.{IsFile}
use Rattle.rdx_query.specs.ValidQueries.{is_valid_host, is_valid_pattern, is_valid_query, are_valid_queries, askable_in}

-- the pattern is well formed in the language of this name
spoken : (P : Program) (name : List ℕ) (p : Pattern) (o : Option Language) → language_named P name ≡ o → is_valid_pattern o p ≡ true
    → Spoken P name p (λ L. IsTrue (is_well_formed_in L p))
spoken P name p None e h = absurd cc
spoken P name p (Some L) e h = record { language = L; named = e; known = well_formed-known (defined L) p h; here = h }

-- a valid query can be explained
valid-explainable : (P : Program) (q : Query) → is_valid_query (askable_in P) q ≡ true → CanBeExplained P q
valid-explainable P (matches name p h) v =
    let A = askable_in P in
    spoken P name p (language_named P name) refl (and_parts (is_valid_pattern (A.languages name) p) (is_valid_host A.callable h) v).0
valid-explainable P (whether name p h) v = tt
valid-explainable P (splits name p h) v =
    let A = askable_in P in
    spoken P name p (language_named P name) refl (and_parts (is_valid_pattern (A.languages name) p) (is_valid_host A.callable h) v).0
valid-explainable P (value h) v = tt
valid-explainable P (holds q t) v = tt
valid-explainable P (reducts name h) v = tt
valid-explainable P (tagged name h) v = tt
valid-explainable P (stepper name h) v = tt
valid-explainable P (generate name p size seed) v = tt
valid-explainable P (check name p h attempts seed) v = tt
valid-explainable P (alike fs h k) v = tt
valid-explainable P (substituted fs h k l) v = tt
valid-explainable P (test_equal h k) v = tt
valid-explainable P (test_step name h ks) v = tt
valid-explainable P (test_run name h ks) v = tt
valid-explainable P (test_match name p h wanted) v = tt
valid-explainable P (test_holds q) v = tt
valid-explainable P test_results v = tt

-- so can each of several
all-explainable : (P : Program) (qs : List Query) → are_valid_queries P qs ≡ true → AllCanBeExplained P qs
all-explainable P [] v = tt
all-explainable P (q ∷ qs) v =
    let w = and_parts (is_valid_query (askable_in P) q) (list_all (is_valid_query (askable_in P)) qs) v in
    (valid-explainable P q w.0, all-explainable P qs w.1)

-- what a file asks can be explained
pub accepted-explainable : (ds : List Sexp) (P : Program) (qs : List Query) → AreFileData ds → IsFile ds P qs → IsExplainable P qs
accepted-explainable ds P qs z a =
    record {
      valid = accepted-valid ds P qs z a;
      languages = λ l L e. accepted_languages-formed ds P qs L z a (language-among P.languages l L e);
      queries = all-explainable P qs (accepted_queries-valid ds P qs z a);
    }
