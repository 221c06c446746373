-- What accepted queries name is known, and each known language is free of left recursion.
use Rattle.std.proofs.Common.{◌≡◌, ◌⊎◌, ◌++◌, ℕ, Bool, true, false, inl, inr, List, [], ◌∷◌, Option, Some, refl, sym, subst}
use Rattle.std.specs.Prelude.{bytes_eq, flat_map, is_some, IsSome, if◌then◌else◌}
use Rattle.rdx_sexp.specs.Sexp.{Sexp}
use Rattle.rdx_lang.proofs.Collecting.{only}
use Rattle.rdx_lang.proofs.FreeWithCrosses.{known_crosses_free}
use Rattle.rdx_lang.proofs.KnownCrosses.{KnowsAll, crosses_known}
use Rattle.rdx_lang.proofs.MemberLaws.{in-append}
use Rattle.rdx_lang.specs.Edges.{IsFree}
use Rattle.rdx_lang.specs.Programs.{Judgement, Mode, Program, judgement_among, judgement_named}
use Rattle.rdx_patterns.specs.Nonterminals.{names_of}
use Rattle.rdx_templates.specs.Scope.{mode_among, mode_of}
use Rattle.rdx_defs.specs.Scopes.{defined_judgements}
use Rattle.rdx_eval.specs.Laws.{AreFree}
use Rattle.rdx_forms.specs.Definitions.{Defined, language, metafunction, judgement, relation}
use Rattle.rdx_forms.specs.OneForm.{Defines}
use Rattle.rdx_query.specs.File.{Accepts, accepts_none, accepts_definition, accepts_query, accepts_passed}
use Rattle.rdx_forms.specs.Before.{known_before}
use Rattle.rdx_patterns.specs.Ends.{known_ends, crossed_for}
use Rattle.rdx_forms.specs.Known.{Known, known_as, with_definition}
use Rattle.rdx_answer.specs.Queries.{Query, NamesKnown}
use Rattle.rdx_answer.specs.Views.{AllNamesKnown}
use Rattle.rdx_query.proofs.DefinedJudgements.{judgements_in, HasMode, no-mode, defines-moded, asks-moded, passed-moded}
use Rattle.rdx_query.proofs.KnownLanguages.{KnowAll, defines-knows}
use Rattle.rdx_query.proofs.NamesKnown.{IsGrounded, IsAwaited, awaited-more, awaited-known, LanguagesKnown, languages_known-nothing, languages_known-more, JudgementsKnown, judgements_known-nothing, judgements_known-more, judgement-more, judgement-new, asks-awaited, defines-known}

-- ---- what is known

-- behind forms that define K, and before these: each language is free of left recursion and speaks of its own nonterminals alone, those of
-- relations and judgements are known, and each judgement that the scope has is defined, or the scope has it by these forms
pub record IsFit (K : Known) (ds : List Sexp) : Type 0 where
  pub free : AreFree K.program
  pub know : KnowAll K.program.languages
  pub languages : LanguagesKnown K.program
  pub judgements : JudgementsKnown K.program
  pub found : (x : List ℕ) → IsSome (mode_of K.scope x) → IsSome (judgement_named K.program x) ⊎ HasMode (flat_map defined_judgements ds) x

-- so it is before the first form of a file
pub fit-before : (ds : List Sexp) → IsFit (known_before ds) ds
fit-before ds = record { free = λ L i. elim i [ ]; know = λ L i. elim i [ ]; languages = languages_known-nothing; judgements = judgements_known-nothing; found = λ x m. inr m }

-- and behind what is defined: a language stays free with the cross nonterminals that it is given
free-more : (K : Known) (d : Sexp) (x : Defined) → KnowAll K.program.languages → AreFree K.program → Defines K d x → AreFree (with_definition K x).program
free-more K d (language L) k f a M i = elim (in-append K.program.languages (crossed_for K.ends L ∷ []) M i) [
  | inl j ↦ f M j
  | inr j ↦ subst IsFree (sym (only j)) (known_crosses_free L (known_ends (names_of L) K.ends) (defines-knows K d L k a) a.sound)
]
free-more K d (metafunction F) k f a M i = f M i
free-more K d (judgement J) k f a M i = f M i
free-more K d (relation R) k f a M i = f M i

know-more : (K : Known) (d : Sexp) (x : Defined) → KnowAll K.program.languages → Defines K d x → KnowAll (with_definition K x).program.languages
know-more K d (language L) k a M i = elim (in-append K.program.languages (crossed_for K.ends L ∷ []) M i) [
  | inl j ↦ k M j
  | inr j ↦ subst KnowsAll (sym (only j)) (crosses_known L (known_ends (names_of L) K.ends) (defines-knows K d L k a))
]
know-more K d (metafunction F) k a M i = k M i
know-more K d (judgement J) k a M i = k M i
know-more K d (relation R) k a M i = k M i

-- as it is known behind its form, what is defined has the same judgements, and its language is known
judgements-as : (ys : List (List ℕ)) (x : Defined) → judgements_in (known_as ys x) ≡ judgements_in x
judgements-as ys (language L) = refl
judgements-as ys (metafunction F) = refl
judgements-as ys (judgement J) = refl
judgements-as ys (relation R) = refl

grounded-as : (P : Program) (ys : List (List ℕ)) (x : Defined) → IsGrounded P x → IsGrounded P (known_as ys x)
grounded-as P ys (language L) g = g
grounded-as P ys (metafunction F) g = g
grounded-as P ys (judgement J) g = g
grounded-as P ys (relation R) g = g

-- the mode of a name is among the ones, or among the others
mode-by : (b : Bool) (m : Mode) (o p q : Option Mode) → (is_some q ≡ true → (is_some o ≡ true) ⊎ (is_some p ≡ true)) → is_some (if b then Some m else q) ≡ true
    → (is_some (if b then Some m else o) ≡ true) ⊎ (is_some p ≡ true)
mode-by true m o p q f e = inl refl
mode-by false m o p q f e = f e

mode-append : (js ks : List (List ℕ × Mode)) (x : List ℕ) → HasMode (js ++ ks) x → HasMode js x ⊎ HasMode ks x
mode-append [] ks x e = inr e
mode-append (j ∷ js) ks x e =
    mode-by (bytes_eq j.0 x) j.1 (mode_among js x) (mode_among ks x) (mode_among (js ++ ks) x) (mode-append js ks x) e

-- what a form defines comes over to the program
found-more : (K : Known) (d : Sexp) (ds : List Sexp) (x : Defined) → IsFit K (d ∷ ds) → Defines K d x → (y : List ℕ) → IsSome (mode_of K.scope y)
    → IsSome (judgement_named (with_definition K x).program y) ⊎ HasMode (flat_map defined_judgements ds) y
found-more K d ds x f a y m =
    elim (f.found y m) [
      | inl i ↦ inl (judgement-more K.program (known_as K.ends x) y i)
      | inr i ↦ by_front (mode-append (defined_judgements d) (flat_map defined_judgements ds) y i)
    ]
  where
    by_front : HasMode (defined_judgements d) y ⊎ HasMode (flat_map defined_judgements ds) y → IsSome (judgement_named (with_definition K x).program y) ⊎ HasMode (flat_map defined_judgements ds) y
    by_front (inl i) =
        inl (judgement-new K.program (known_as K.ends x) y
        (subst (λ (js : List Judgement). IsSome (judgement_among js y)) (sym (judgements-as K.ends x)) (defines-moded K d x y a i)))
    by_front (inr i) = inr i

fit-more : (K : Known) (d : Sexp) (ds : List Sexp) (x : Defined) → IsFit K (d ∷ ds) → Defines K d x → IsFit (with_definition K x) ds
fit-more K d ds x f a =
    let z = known_as K.ends x in
    let g : IsGrounded K.program z = grounded-as K.program K.ends x (defines-known K d x a) in
    record {
      free = free-more K d x f.know f.free a;
      know = know-more K d x f.know a;
      languages = languages_known-more K.program z g f.languages;
      judgements = judgements_known-more K.program z g f.judgements;
      found = found-more K d ds x f a;
    }

-- a form that defines no judgement
fit-behind : (K : Known) (d : Sexp) (ds : List Sexp) → IsFit K (d ∷ ds) → defined_judgements d ≡ [] → IsFit K ds
fit-behind K d ds f e = record {
  free = f.free;
  know = f.know;
  languages = f.languages;
  judgements = f.judgements;
  found = λ x m. subst (λ (js : List (List ℕ × Mode)). IsSome (judgement_named K.program x) ⊎ HasMode (js ++ flat_map defined_judgements ds) x) e (f.found x m);
}

-- ---- what is asked

-- what is known or awaited stays so
stays-awaited : (K : Known) (ds : List Sexp) (J : Known) (qs : List Query) → Accepts K ds J qs → (q : Query) → IsAwaited K q → IsAwaited J q
stays-awaited K [] J qs accepts_none q n = n
stays-awaited K (d ∷ ds) J qs (accepts_definition {x} a more) q n =
    stays-awaited (with_definition K x) ds J qs more q (awaited-more K x q n)
stays-awaited K (d ∷ ds) J qs (accepts_query {qs = rs} a more) q n = stays-awaited K ds J rs more q n
stays-awaited K (d ∷ ds) J qs (accepts_passed a more) q n = stays-awaited K ds J qs more q n

-- each language is free of left recursion, and what the queries name is known
pub record CanAnswer (K : Known) (qs : List Query) : Type 0 where
  pub fit : IsFit K []
  pub named : AllNamesKnown K.program qs

-- what was awaited is known where all is defined
now-known : (K : Known) (q : Query) → IsFit K [] → IsAwaited K q → NamesKnown K.program q
now-known K q f a = awaited-known K q f.judgements (λ x m. elim (f.found x m) [ inl i ↦ i | inr i ↦ absurd (no-mode x i) ]) a

-- so it is of what is accepted
pub can_answer : (K : Known) (ds : List Sexp) (J : Known) (qs : List Query) → IsFit K ds → Accepts K ds J qs → CanAnswer J qs
can_answer K [] J qs f accepts_none = record { fit = f; named = tt }
can_answer K (d ∷ ds) J qs f (accepts_definition {x} a more) = can_answer (with_definition K x) ds J qs (fit-more K d ds x f a) more
can_answer K (d ∷ ds) J qs f (accepts_query {q} {qs = rs} a more) =
    let c = can_answer K ds J rs (fit-behind K d ds f (asks-moded K d q a)) more in
    record { fit = c.fit; named = (now-known J q c.fit (stays-awaited K ds J rs more q (asks-awaited K d q f.languages a)), c.named) }
can_answer K (d ∷ ds) J qs f (accepts_passed a more) = can_answer K ds J qs (fit-behind K d ds f (passed-moded K d a)) more
