-- What is known fits, with whatever a form defines.
use Rattle.std.proofs.Common.{◌≡◌, ◌++◌, ℕ, inl, inr, List, [], ◌∷◌, Some, refl, sym, ◌∙◌, subst}
use Rattle.std.specs.Prelude.{IsTrue}
use Rattle.rdx_lang.proofs.Collecting.{only}
use Rattle.rdx_lang.proofs.CrossesAgain.{plain_names_stay}
use Rattle.rdx_lang.proofs.MemberLaws.{in-append}
use Rattle.rdx_lang.proofs.NewCrosses.{in-plain_names, plain_names-among}
use Rattle.rdx_lang.specs.Crosses.{with_crosses_to}
use Rattle.rdx_lang.specs.Members.{In}
use Rattle.rdx_lang.specs.Patterns.{Language}
use Rattle.rdx_lang.specs.Programs.{Program, Metafunction, Judgement, Relation, language_among}
use Rattle.rdx_lang.specs.References.{is_among}
use Rattle.rdx_lang.specs.WellFormed.{defined}
use Rattle.rdx_lang.specs.declared.pattern.Ref.TheVariants.{Nt}
use Rattle.rdx_templates.specs.Scope.{Scope}
use Rattle.rdx_patterns.specs.Kinds as kinds
use Rattle.rdx_patterns.specs.Nonterminals.{names_of}
use Rattle.rdx_patterns.proofs.Among.{is_among-names}
use Rattle.rdx_patterns.proofs.KnownReadings.{in-known_ends, cross-there}
use Rattle.rdx_patterns.specs.Ends.{known_ends, crossed_for}
use Rattle.rdx_answer.specs.Bound.{Bound}
use Rattle.rdx_forms.specs.Definitions.{language, metafunction, judgement, relation}
use Rattle.rdx_forms.specs.Fitting.{IsCrossedTo, AreCrossed, IsRelationOf, IsFitting}
use Rattle.rdx_forms.specs.Known.{Known, nothing_in, with_definition}
use Rattle.rdx_forms.proofs.FoundByName.{language-stays}

-- ---- the cross nonterminals of one language

-- a nonterminal that is none of them was there before
pub plain-before : (L : Language) (zs : List (List ℕ)) (x : List ℕ) → IsTrue (is_among (Nt x) (defined (with_crosses_to L zs))) → IsTrue (is_among (Nt x) (defined L))
plain-before L zs x h =
    plain_names-among x (defined L) (subst (λ (ns : List (List ℕ)). In x ns) (plain_names_stay L zs) (in-plain_names x (defined (with_crosses_to L zs)) h))

-- so a language has all that a file asks for
pub is_crossed : (ys : List (List ℕ)) (L : Language) (y : List ℕ) → In y ys → IsCrossedTo (crossed_for ys L) y
is_crossed ys L y i h x k =
    let zs = known_ends (names_of L) ys in
    let e : IsTrue (kinds.is_among (names_of L) y) = is_among-names y (defined L) ∙ plain-before L zs y h in
    cross-there L zs x y (plain-before L zs x k) (in-known_ends (names_of L) ys y e i)

-- ---- all that is known

-- before the first form
pub fitting-nothing : (S : Scope) (ls : List (List ℕ × List ℕ)) (ys : List (List ℕ)) (bs : List Bound) → IsFitting (nothing_in S ls ys bs)
fitting-nothing S ls ys bs = record { crossed = λ L i. elim i [ ]; relations = λ R i. elim i [ ] }

-- with one language more
pub fitting-language : (K : Known) (L : Language) → IsFitting K → IsFitting (with_definition K (language L))
fitting-language K L f = record { crossed = crossed; relations = relations }
  where
    M : Language
    M = crossed_for K.ends L

    crossed : AreCrossed (K.program.languages ++ M ∷ []) K.ends
    crossed N i y j = elim (in-append K.program.languages (M ∷ []) N i) [
      | inl k ↦ f.crossed N k y j
      | inr k ↦ subst (λ (I : Language). IsCrossedTo I y) (sym (only k)) (is_crossed K.ends L y j)
    ]

    relations : (R : Relation) → In R K.program.relations → IsRelationOf (with_definition K (language L)).program R
    relations R i =
        let r = f.relations R i in
        record { language = r.language; named = language-stays K.program.languages M r.language R.language r.named; formed = r.formed }

-- what is no language changes nothing for the relations that are there
same-relation : (P Q : Program) (R : Relation) → Q.languages ≡ P.languages → IsRelationOf P R → IsRelationOf Q R
same-relation P Q R e r =
    record { language = r.language; named = subst (λ (Ls : List Language). language_among Ls R.language ≡ Some r.language) (sym e) r.named; formed = r.formed }

-- with one relation more that is one of its language
pub fitting-relation : (K : Known) (S : Relation) → IsRelationOf K.program S → IsFitting K → IsFitting (with_definition K (relation S))
fitting-relation K S s f = record { crossed = f.crossed; relations = relations }
  where
    Q : Program
    Q = (with_definition K (relation S)).program

    relations : (R : Relation) → In R (K.program.relations ++ S ∷ []) → IsRelationOf Q R
    relations R i = elim (in-append K.program.relations (S ∷ []) R i) [
      | inl j ↦ same-relation K.program Q R refl (f.relations R j)
      | inr j ↦ subst (λ (I : Relation). IsRelationOf Q I) (sym (only j)) (same-relation K.program Q S refl s)
    ]

-- with one metafunction more
pub fitting-metafunction : (K : Known) (M : Metafunction) → IsFitting K → IsFitting (with_definition K (metafunction M))
fitting-metafunction K M f = record {
  crossed = f.crossed;
  relations = λ R i. same-relation K.program (with_definition K (metafunction M)).program R refl (f.relations R i);
}

-- with one judgement more
pub fitting-judgement : (K : Known) (J : Judgement) → IsFitting K → IsFitting (with_definition K (judgement J))
fitting-judgement K J f = record {
  crossed = f.crossed;
  relations = λ R i. same-relation K.program (with_definition K (judgement J)).program R refl (f.relations R i);
}
