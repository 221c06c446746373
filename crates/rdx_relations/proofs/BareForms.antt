-- What stands in a form of a relation, without what is bound.
use Rattle.std.proofs.Common.{◌≡◌, ◌++◌, ℕ, false, [], List, ◌∷◌, map, refl, ap}
use Rattle.std.specs.Prelude.{Option, Some, None, if◌then◌else◌}
use Rattle.rdx_sexp.specs.Sexp.{Sexp}
use Rattle.rdx_patterns.specs.Kinds.{is_among}
use Rattle.rdx_patterns.specs.Occurrences.{occurrences}
use Rattle.rdx_patterns.specs.Parts.{text_of}
use Rattle.rdx_parts.specs.ExtraForms.{of_case}
use Rattle.rdx_relations.specs.Inside.BareForms as bare_forms
use Rattle.rdx_relations.specs.RelationForms.{CaseForm, case_form, RelationForm}
use Rattle.rdx_relations.specs.RelationStands.{case_stands, cases_stand, domain_stands, expanded_stands, arrows_stand, shortcut_stands, arrows_with, shortcuts_stand}
use Rattle.rdx_templates.specs.Scope.{Scope}
use Rattle.rdx_relations.specs.Shorthand.{Shortcut, shortcut_form, is_known_arrow}
use Rattle.rdx_parts.specs.Stands.{Stand, arrow, pattern, template, repeated}
use Rattle.rdx_parts.proofs.BareChecks.{bare, bare-both, bare-either, bare-extras}

-- the arrows of one
bare-arrows : (seen : List (List ℕ)) (s : Shortcut) → map bare (arrows_stand seen s) ≡ arrows_stand seen s
bare-arrows seen s =
    let b = is_known_arrow seen s.old in
    let c = is_among seen (text_of s.new) in
    let os = if b then [] else arrow s.old ∷ [] in
    let rs = if c then repeated s.new ∷ [] else [] in
    bare-both os rs os rs (bare-either b [] (arrow s.old ∷ []) [] (arrow s.old ∷ []) refl refl) (bare-either c (repeated s.new ∷ []) [] (repeated s.new ∷ []) [] refl refl)

-- one
bare-shortcut : (seen : List (List ℕ)) (d : Sexp) (o : Option Shortcut) → map bare (shortcut_stands seen d o) ≡ shortcut_stands seen d o
bare-shortcut seen d None = refl
bare-shortcut seen d (Some s) = bare-arrows seen s

-- several
bare-shortcuts : (seen : List (List ℕ)) (ds : List Sexp) → map bare (shortcuts_stand seen ds) ≡ shortcuts_stand seen ds
bare-shortcuts seen [] = refl
bare-shortcuts seen (d ∷ ds) =
    let o = shortcut_form d in
    let ss = shortcut_stands seen d o in
    let rs = shortcuts_stand (arrows_with seen o) ds in
    bare-both ss rs ss rs (bare-shortcut seen d o) (bare-shortcuts (arrows_with seen o) ds)

module _ (S : Scope) (ns : List (List ℕ)) where
  -- in a case
  bare-case : (d : Sexp) (o : Option CaseForm) → map bare (case_stands S ns d o) ≡ bare_forms.case_stands S d o
  bare-case d None = refl
  bare-case d (Some c) =
      ap (λ (ss : List Stand). arrow c.arrow ∷ pattern [] (occurrences 0 c.pattern) ∷ template [] c.result ∷ ss) (bare-extras S ns of_case _ false c.extras)

  -- in cases
  bare-cases : (ds : List Sexp) → map bare (cases_stand S ns ds) ≡ bare_forms.cases_stand S ds
  bare-cases [] = refl
  bare-cases (d ∷ ds) =
      bare-both (case_stands S ns d (case_form d)) (cases_stand S ns ds) (bare_forms.case_stands S d (case_form d)) (bare_forms.cases_stand S ds)
      (bare-case d (case_form d)) (bare-cases ds)

  -- in a relation without shorthand
  bare-expanded : (r : RelationForm) → map bare (expanded_stands S ns r) ≡ bare_forms.expanded_stands S r
  bare-expanded r = bare-both (domain_stands r.domain) (cases_stand S ns r.cases) (domain_stands r.domain) (bare_forms.cases_stand S r.cases) (bare-domain r.domain) (bare-cases r.cases)
    where
      bare-domain : (o : Option Sexp) → map bare (domain_stands o) ≡ domain_stands o
      bare-domain None = refl
      bare-domain (Some p) = refl

  -- and with shortcuts behind it
  pub bare-relation : (r : RelationForm) (ds : List Sexp) → map bare (expanded_stands S ns r ++ shortcuts_stand [] ds) ≡ bare_forms.relation_stands S r ds
  bare-relation r ds = bare-both (expanded_stands S ns r) (shortcuts_stand [] ds) (bare_forms.expanded_stands S r) (shortcuts_stand [] ds) (bare-expanded r) (bare-shortcuts [] ds)
