-- Forms read one by one.
use Rattle.std.proofs.Common.{◌≡◌, ◌++◌, ℕ, zero, suc, ◌+◌, ◌<◌, ◌≤◌, length, drop, get_or, List, [], ◌∷◌, refl, sym, subst, append_assoc, append-nil, arith}
use Rattle.rdx_sexp.specs.Sexp.{Sexp}
use Rattle.rdx_sexp.specs.Size.{AreFileData}
use Rattle.rdx_lang.proofs.MemberLaws.{flat_map-in}
use Rattle.rdx_lang.specs.Members.{In, here, there}
use Rattle.rdx_lang.specs.Programs.{Program}
use Rattle.rdx_patterns.specs.Readable.{IsReadable}
use Rattle.rdx_patterns.specs.Refusal.{Refusal, refusal_of}
use Rattle.rdx_patterns.specs.declared.shape.fault.DefFault.{DefFault}
use Rattle.rdx_patterns.specs.declared.shape.fault.DefFault.TheVariants.{Refused, NoMemory}
use Rattle.rdx_templates.specs.Scope.{Scope}
use Rattle.rdx_defs.specs.Scopes.{languages_in, scope_in}
use Rattle.rdx_answer.specs.Bound.{Bound}
use Rattle.rdx_forms.specs.BindingParts.{file_forms}
use Rattle.rdx_forms.specs.Definitions.{Defined}
use Rattle.rdx_forms.specs.Ends.{form_ends, file_ends}
use Rattle.rdx_forms.specs.Fitting.{AreReadable}
use Rattle.rdx_forms.specs.OneForm.{Defines, Asks, IsPassedOver}
use Rattle.rdx_query.specs.File.{Accepts, accepts_none, accepts_definition, accepts_query, accepts_passed, Refuses, refuses_here, refuses_behind_definition, refuses_behind_query, refuses_behind_passed, IsFile, IsFileRefusal}
use Rattle.rdx_forms.specs.Before.{known_before}
use Rattle.rdx_forms.specs.Answers.{IsFormFault}
use Rattle.rdx_patterns.specs.Among.{AreAmong}
use Rattle.rdx_query.specs.Inside.Steps.{Step, step_defines, step_asks, step_passes}
use Rattle.rdx_forms.specs.Known.{Known, nothing_in, with_definition}
use Rattle.rdx_answer.specs.Queries.{Query}
use Rattle.rdx_answer.specs.Views.{AllNamesKnown}
use Rattle.rdx_query.specs.Views.{IsFileFault}
use Rattle.rdx_patterns.proofs.Rests.{drop-at}
use Rattle.rdx_query.proofs.AskedNames.{fit-before, can_answer}

-- ---- what is read so far

-- behind K and the queries qs, which the forms before define and ask, the rest of a file decides what the file means
pub record SoFar (all rest : List Sexp) (K : Known) (qs : List Query) : Type 0 where
  pub scope : K.scope ≡ scope_in all
  pub languages : K.languages ≡ languages_in all
  pub ends : K.ends ≡ file_ends all
  pub forms : K.forms ≡ file_forms all
  pub accepted : (J : Known) (rs : List Query) → Accepts K rest J rs → Accepts (known_before all) all J (qs ++ rs)
  pub refused : (r : Refusal) → Refuses K rest r → IsFileRefusal all r

-- the next form defines something
behind_definition : (all more : List Sexp) (d : Sexp) (K : Known) (qs : List Query) (x : Defined) → Defines K d x → SoFar all (d ∷ more) K qs → SoFar all more (with_definition K x) qs
behind_definition all more d K qs x f s = record {
  scope = s.scope;
  languages = s.languages;
  ends = s.ends;
  forms = s.forms;
  accepted = λ J rs a. s.accepted J rs (accepts_definition f a);
  refused = λ r a. s.refused r (refuses_behind_definition f a);
}

-- the next form asks something
behind_query : (all more : List Sexp) (d : Sexp) (K : Known) (qs : List Query) (q : Query) → Asks K d q → SoFar all (d ∷ more) K qs → SoFar all more K (qs ++ q ∷ [])
behind_query all more d K qs q f s = record {
  scope = s.scope;
  languages = s.languages;
  ends = s.ends;
  forms = s.forms;
  accepted = λ J rs a. subst (λ (ps : List Query). Accepts (known_before all) all J ps) (sym (append_assoc qs (q ∷ []) rs)) (s.accepted J (q ∷ rs) (accepts_query f a));
  refused = λ r a. s.refused r (refuses_behind_query f a);
}

-- the next form is passed over
behind_passed : (all more : List Sexp) (d : Sexp) (K : Known) (qs : List Query) → IsPassedOver K d → SoFar all (d ∷ more) K qs → SoFar all more K qs
behind_passed all more d K qs f s = record {
  scope = s.scope;
  languages = s.languages;
  ends = s.ends;
  forms = s.forms;
  accepted = λ J rs a. s.accepted J rs (accepts_passed f a);
  refused = λ r a. s.refused r (refuses_behind_passed f a);
}

-- the same of what is equal
so_far-same : (all more : List Sexp) (K J : Known) (qs rs : List Query) → J ≡ K → rs ≡ qs → SoFar all more K qs → SoFar all more J rs
so_far-same all more K J qs rs e f s =
    subst (λ (ps : List Query). SoFar all more J ps) (sym f) (subst (λ (I : Known). SoFar all more I qs) (sym e) s)

-- the next form does what it does
stepped : (all more : List Sexp) (d : Sexp) (K J : Known) (qs rs : List Query) → Step K qs d J rs → SoFar all (d ∷ more) K qs → SoFar all more J rs
stepped all more d K J qs rs (step_defines x f e g) s = so_far-same all more (with_definition K x) J qs rs e g (behind_definition all more d K qs x f s)
stepped all more d K J qs rs (step_asks q f e g) s = so_far-same all more K J (qs ++ q ∷ []) rs e g (behind_query all more d K qs q f s)
stepped all more d K J qs rs (step_passes f e g) s = so_far-same all more K J qs rs e g (behind_passed all more d K qs f s)

-- before the first form
pub so_far-start : (all : List Sexp) (S : Scope) (ls : List (List ℕ × List ℕ)) (ys : List (List ℕ)) (bs : List Bound) → S ≡ scope_in all
    → ls ≡ languages_in all → ys ≡ file_ends all → bs ≡ file_forms all → SoFar all all (nothing_in S ls ys bs) []
so_far-start all S ls ys bs e f g h =
    subst (λ (K : Known). SoFar all all K []) (λ i. nothing_in (sym e i) (sym f i) (sym g i) (sym h i))
    (record { scope = refl; languages = refl; ends = refl; forms = refl; accepted = λ J rs a. a; refused = λ r a. a })

-- one form more
pub so_far-next : (all : List Sexp) (i : ℕ) (d : Sexp) (K J : Known) (qs rs : List Query) → i < length all → d ≡ get_or all i d → Step K qs d J rs → SoFar all (drop i all) K qs → SoFar all (drop (i + 1) all) J rs
so_far-next all i d K J qs rs h e a s =
    stepped all (drop (i + 1) all) d K J qs rs a (subst (λ (ds : List Sexp). SoFar all ds K qs) (drop-at all i d h e) s)

-- a form is refused
pub so_far-fault : (all : List Sexp) (i : ℕ) (d : Sexp) (K : Known) (qs : List Query) (x : DefFault) → i < length all → d ≡ get_or all i d → IsFormFault K d x → SoFar all (drop i all) K qs → IsFileFault all x
so_far-fault all i d K qs NoMemory h e a s = tt
so_far-fault all i d K qs (Refused r) h e a s = s.refused (refusal_of r) (subst (λ (ds : List Sexp). Refuses K ds (refusal_of r)) (sym (drop-at all i d h e)) (refuses_here a))

-- behind the last element nothing is left
drop-none : {A : Type 0} (xs : List A) (i : ℕ) → length xs ≤ i → drop i xs ≡ []
drop-none [] zero h = refl
drop-none [] (suc i) h = refl
drop-none (x ∷ xs) zero h = absurd (omega arith)
drop-none (x ∷ xs) (suc i) h = drop-none xs i (omega arith)

-- all forms are read
pub so_far-end : (all : List Sexp) (i : ℕ) (K : Known) (qs : List Query) → length all ≤ i → SoFar all (drop i all) K qs → IsFile all K.program qs
so_far-end all i K qs h s =
    subst (λ (ps : List Query). Accepts (known_before all) all (record (known_before all) { program = K.program }) ps) (append-nil qs)
    (subst (λ (J : Known). Accepts (known_before all) all J (qs ++ []))
    (λ j. record { scope = s.scope j; languages = s.languages j; ends = s.ends j; forms = s.forms j; program = K.program })
    (s.accepted K [] (subst (λ (ds : List Sexp). Accepts K ds K []) (sym (drop-none all i h)) accepts_none)))

-- and what they name is known
pub file-named : (ds : List Sexp) (P : Program) (qs : List Query) → IsFile ds P qs → AllNamesKnown P qs
file-named ds P qs a = (can_answer (known_before ds) ds _ qs (fit-before ds) a).named

-- ---- what can be read

-- each form can be
pub form-readable : (ds : List Sexp) (i : ℕ) (d : Sexp) → AreFileData ds → i < length ds → d ≡ get_or ds i d → IsReadable d
form-readable [] i d z h e = absurd (omega arith)
form-readable (c ∷ ds) zero d z h e = subst IsReadable (sym e) (record { nested = omega (arith, z.depth); spelled = z.spelled.0 })
form-readable (c ∷ ds) (suc i) d z h e = form-readable ds i d (record { depth = omega (arith, z.depth); nodes = omega (arith, z.nodes); spelled = z.spelled.1 }) (omega arith) e

-- so all can be
pub all-readable : (ds : List Sexp) → AreFileData ds → AreReadable ds
all-readable [] z = tt
all-readable (d ∷ ds) z = (
  record { nested = omega (arith, z.depth); spelled = z.spelled.0 },
  all-readable ds (record { depth = omega (arith, z.depth); nodes = omega (arith, z.nodes); spelled = z.spelled.1 }),
)

-- ---- what can be asked for

-- a form is one of the file's
form-among : (ds : List Sexp) (i : ℕ) (d : Sexp) → i < length ds → d ≡ get_or ds i d → In d ds
form-among [] i d h e = absurd (omega arith)
form-among (c ∷ ds) zero d h e = here e
form-among (c ∷ ds) (suc i) d h e = there (form-among ds i d (omega arith) e)

-- so what it asks for is among what the file does
pub form-ends-among : (ds : List Sexp) (i : ℕ) (d : Sexp) (ys : List (List ℕ)) → ys ≡ file_ends ds → i < length ds → d ≡ get_or ds i d → AreAmong (form_ends d) ys
form-ends-among ds i d ys e h f y j = subst (λ (zs : List (List ℕ)). In y zs) (sym e) (flat_map-in form_ends ds d y (form-among ds i d h f) j)
