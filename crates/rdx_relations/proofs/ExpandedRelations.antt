-- What a form of a relation is, by what it is without shorthand.
use Rattle.std.proofs.Common.{◌≡◌, ◌∙◌, ℕ, Bool, true, false, List, [], ◌∷◌, Some, None, sym, ap, if◌then◌else◌}
use Rattle.std.specs.Prelude.{Result, Ok, Err, codes, option_map}
use Rattle.rdx_sexp.specs.Sexp.{Sexp}
use Rattle.rdx_lang.specs.declared.program.Relation.{Relation}
use Rattle.rdx_patterns.specs.Parts.{is_word}
use Rattle.rdx_patterns.specs.Refusal.{first_refusal}
use Rattle.rdx_patterns.specs.declared.shape.fault.DefFault.{DefFault}
use Rattle.rdx_patterns.specs.declared.shape.fault.DefFault.TheVariants.{Refused, NoMemory}
use Rattle.rdx_relations.specs.Answers.{ReadsRelation}
use Rattle.rdx_relations.specs.Expansion.{expanded_form}
use Rattle.rdx_relations.specs.Inside.ExpandedAnswers.{expanded_refusal, ReadsExpanded}
use Rattle.rdx_relations.specs.LanguageRefusal.{refusal_over}
use Rattle.rdx_relations.specs.RelationForms.{RelationForm, relation_form}
use Rattle.rdx_relations.specs.RelationReading.{expanded_reading}
use Rattle.rdx_relations.specs.RelationRefusal.{relation_refusal}
use Rattle.rdx_relations.specs.RelationStands.{relation_stands}
use Rattle.rdx_templates.specs.Scope.{Scope}
use Rattle.rdx_relations.specs.Shorthand.{before_with, behind_with}
use Rattle.rdx_parts.specs.PartsHave.{AreReadable}
use Rattle.rdx_relations.proofs.FormRefusals.{alone}

-- ---- refusals

module _ (S : Scope) (ns : List (List ℕ)) (d : Sexp) (r p : RelationForm) (ds : List Sexp) (e : relation_form d ≡ Some r)
    (f : p ≡ expanded_form r) (g : ds ≡ behind_with r.cases) where
  -- the refusal is that of what it is without shorthand
  pub expanded-refused : relation_refusal S ns d ≡ expanded_refusal S ns p ds
  expanded-refused =
      (λ i. refusal_over S ns (option_map (λ (q : RelationForm). q.language) (e i)) (relation_stands S ns d (e i)))
      ∙ (λ i. expanded_refusal S ns (sym f i) (sym g i))

  -- and so is what is read
  pub expanded-reads : (x : List ℕ) (q : Result Relation DefFault) → ReadsExpanded S ns x p ds q → ReadsRelation S ns x d q
  expanded-reads x (Ok R) h = record { passes = expanded-refused ∙ h.passes; parts = r; is_form = e; is_read = h.is_read ∙ ap (expanded_reading S ns x) f }
  expanded-reads x (Err (Refused q)) h = expanded-refused ∙ h
  expanded-reads x (Err NoMemory) h = tt

-- ---- readable data

-- what stands before `with`
pub readable-before : (ds : List Sexp) → AreReadable ds → AreReadable (before_with ds)
readable-before [] h = tt
readable-before (d ∷ ds) h = by_test (is_word (codes "with") d) (readable-before ds h.1)
  where
    by_test : (b : Bool) → AreReadable (before_with ds) → AreReadable (if b then [] else d ∷ before_with ds)
    by_test true k = tt
    by_test false k = (h.0, k)

-- and behind it
pub readable-behind : (ds : List Sexp) → AreReadable ds → AreReadable (behind_with ds)
readable-behind [] h = tt
readable-behind (d ∷ ds) h = by_test (is_word (codes "with") d) (readable-behind ds h.1)
  where
    by_test : (b : Bool) → AreReadable (behind_with ds) → AreReadable (if b then ds else behind_with ds)
    by_test true k = h.1
    by_test false k = k
