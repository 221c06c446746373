-- What a form of a relation gives by the names that are bound before each place is what it gives by the symbols that bind them.
use Rattle.std.proofs.Common.{◌≡◌, ◌++◌, ◌∙◌, ℕ, Bool, true, false, [], List, ◌∷◌, refl, sym, ap}
use Rattle.std.proofs.lemmas.List.{append-nil}
use Rattle.std.specs.Prelude.{Option, Some, None, if◌then◌else◌}
use Rattle.rdx_sexp.specs.Sexp.{Sexp}
use Rattle.rdx_patterns.specs.Kinds.{is_among}
use Rattle.rdx_patterns.specs.Parts.{text_of}
use Rattle.rdx_relations.specs.Inside.FormOutlines.{case_branch, in_case, case_branches, domain_patterns, relation_outline}
use Rattle.rdx_parts.specs.ByNames.{branch_faults, branches_faults, alone_faults, outline_faults}
use Rattle.rdx_relations.specs.RelationForms.{CaseForm, case_form, RelationForm}
use Rattle.rdx_relations.specs.RelationStands.{case_stands, cases_stand, domain_stands, expanded_stands, shortcut_stands, arrows_with, shortcuts_stand}
use Rattle.rdx_templates.specs.Scope.{Scope}
use Rattle.rdx_relations.specs.Shorthand.{Shortcut, shortcut_form, is_known_arrow}
use Rattle.rdx_parts.specs.Stands.{Stand, arrow, repeated}
use Rattle.rdx_parts.specs.declared.stands.faults.Check.{Check}
use Rattle.rdx_relations.proofs.LoneStands.{domain-lone}
use Rattle.rdx_parts.proofs.BranchStands.{branch_stands}
use Rattle.rdx_parts.proofs.NamesBound.{faults, passed, only, misshaped-none, skipped, faults-both, branch-faults, branches-append, alone-faults}

module _ (k : Check) (S : Scope) (ns : List (List ℕ)) where
  -- in a case
  case-faults : (d : Sexp) (o : Option CaseForm) → faults k S ns (case_stands S ns d o) ≡ branches_faults k S ns (in_case o)
  case-faults d None = misshaped-none k S ns d
  case-faults d (Some c) =
      skipped k S ns (arrow c.arrow) (branch_stands S ns false (case_branch c)) (passed k S ns (arrow c.arrow) refl refl refl refl)
      ∙ branch-faults k S ns false (case_branch c) ∙ sym (append-nil (branch_faults k S ns (case_branch c)))

  -- in cases
  cases-faults : (ds : List Sexp) → faults k S ns (cases_stand S ns ds) ≡ branches_faults k S ns (case_branches ds)
  cases-faults [] = refl
  cases-faults (d ∷ ds) =
      faults-both k S ns (case_stands S ns d (case_form d)) (cases_stand S ns ds) (branches_faults k S ns (in_case (case_form d)))
      (branches_faults k S ns (case_branches ds)) (case-faults d (case_form d)) (cases-faults ds)
      ∙ sym (branches-append k S ns (in_case (case_form d)) (case_branches ds))

  -- in an arrow of a shortcut that is none
  arrow-none : (b : Bool) (d : Sexp) → faults k S ns (if b then [] else arrow d ∷ []) ≡ []
  arrow-none true d = refl
  arrow-none false d = only k S ns (arrow d) [] (passed k S ns (arrow d) refl refl refl refl)

  -- in one that comes again
  repeated-none : (b : Bool) (d : Sexp) → faults k S ns (if b then repeated d ∷ [] else []) ≡ []
  repeated-none true d = only k S ns (repeated d) [] (passed k S ns (repeated d) refl refl refl refl)
  repeated-none false d = refl

  -- in a shortcut
  shortcut-none : (seen : List (List ℕ)) (d : Sexp) (o : Option Shortcut) → faults k S ns (shortcut_stands seen d o) ≡ []
  shortcut-none seen d None = misshaped-none k S ns d
  shortcut-none seen d (Some s) =
      let b = is_known_arrow seen s.old in
      let c = is_among seen (text_of s.new) in
      faults-both k S ns (if b then [] else arrow s.old ∷ []) (if c then repeated s.new ∷ [] else []) [] [] (arrow-none b s.old) (repeated-none c s.new)

  -- in shortcuts
  shortcuts-none : (seen : List (List ℕ)) (ds : List Sexp) → faults k S ns (shortcuts_stand seen ds) ≡ []
  shortcuts-none seen [] = refl
  shortcuts-none seen (d ∷ ds) =
      let o = shortcut_form d in
      faults-both k S ns (shortcut_stands seen d o) (shortcuts_stand (arrows_with seen o) ds) [] [] (shortcut-none seen d o) (shortcuts-none (arrows_with seen o) ds)

  -- in a form without shorthand
  expanded-faults : (r : RelationForm) → faults k S ns (expanded_stands S ns r) ≡ outline_faults k S ns (relation_outline r)
  expanded-faults r =
      let bs = branches_faults k S ns (case_branches r.cases) in
      faults-both k S ns (domain_stands r.domain) (cases_stand S ns r.cases) (alone_faults k ns (domain_patterns r.domain)) (bs ++ [])
      (ap (λ (ss : List Stand). faults k S ns ss) (domain-lone r.domain) ∙ alone-faults k S ns (domain_patterns r.domain))
      (cases-faults r.cases ∙ sym (append-nil bs))

  -- and with shortcuts behind it
  pub relation-faults : (r : RelationForm) (ds : List Sexp) → faults k S ns (expanded_stands S ns r ++ shortcuts_stand [] ds) ≡ outline_faults k S ns (relation_outline r)
  relation-faults r ds =
      faults-both k S ns (expanded_stands S ns r) (shortcuts_stand [] ds) (outline_faults k S ns (relation_outline r)) [] (expanded-faults r) (shortcuts-none [] ds)
      ∙ append-nil (outline_faults k S ns (relation_outline r))
