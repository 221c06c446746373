-- What the patterns of a readable form bind are names, where none of them may not be bound.
use Rattle.std.proofs.Common.{◌≡◌, ◌++◌, ◌∙◌, ℕ, Bool, true, false, List, [], ◌∷◌, IsTrue, refl, sym, arith}
use Rattle.std.proofs.lemmas.Grind.{flat_map-append}
use Rattle.std.specs.Prelude.{Option, Some, None, flat_map}
use Rattle.rdx_sexp.specs.Sexp.{Sexp, leaf, list, integer, truth, text, symbol, keyword, sexps}
use Rattle.rdx_term.specs.Spelling.{is_name}
use Rattle.rdx_patterns.specs.Occurrences.{Occurrence, occurrences}
use Rattle.rdx_patterns.specs.Names.{is_bad_name, is_bad_bound}
use Rattle.rdx_patterns.specs.Parts.{text_of, is_symbol}
use Rattle.rdx_patterns.specs.Readable.{IsReadable}
use Rattle.rdx_patterns.specs.PatternChecks.{Bound, bad_binder, bad_binders}
use Rattle.rdx_patterns.specs.declared.patterns.position.Position.TheVariants.{Query}
use Rattle.rdx_patterns.proofs.Firsts.{none_both, none_first}
use Rattle.rdx_patterns.proofs.SpelledNames.{name-spelled, bound-not_bad, language-not_hole}
use Rattle.rdx_patterns.proofs.PassedPatterns.{AreWritten, AreBoundNames, pattern-written, items-written, bound-are-names}
use Rattle.rdx_parts.specs.Arguments.{Arguments, is_misfit, data_at, data_by, patterns_in}
use Rattle.rdx_parts.specs.ExtraForms.{ExtraForm, such_that, provided, confirmed, holding, freshly, name, no_extra, ExtraPlace, form_at}
use Rattle.rdx_parts.specs.Headed.{Headed, headed}
use Rattle.rdx_parts.specs.BareStands as bare
use Rattle.rdx_relations.specs.Inside.BareForms as bare_forms
use Rattle.rdx_relations.specs.Inside.FormOutlines.{case_branch, in_case, case_branches, domain_patterns, relation_outline}
use Rattle.rdx_parts.specs.Outlines.{Takes, one, several, each, Branch, taken_occurrences}
use Rattle.rdx_parts.specs.PartsHave.{AreReadable, AreReadableSymbols, AreNames, IsReadableTaken, ArgumentsHave, PremiseHas, ExtraHas, ExtrasHave, BranchHas, BranchesHave, AloneHave, OutlineHas, BindNames, CanBind}
use Rattle.rdx_relations.specs.RelationForms.{CaseForm, case_form, RelationForm}
use Rattle.rdx_relations.specs.RelationStands.{domain_stands, shortcuts_stand}
use Rattle.rdx_templates.specs.Scope.{Scope, mode_of}
use Rattle.rdx_parts.specs.StandChecks.{bad_name, bad_names}
use Rattle.rdx_parts.specs.Stands.{Stand, premise_arguments, misfits, is_named}
use Rattle.rdx_relations.proofs.PartsOfForms.{wanted, bound}

-- names, as they are elsewhere
bind-names : (bs : List Bound) → AreBoundNames 4294967296 bs → BindNames bs
bind-names [] h = tt
bind-names (b ∷ bs) h = (h.0, bind-names bs h.1)

-- a symbol by which something may be defined is a name
pub symbol-name : (d : Sexp) → is_symbol d ≡ true → IsReadable d → is_bad_name (text_of d) ≡ false → IsTrue (is_name (text_of d))
symbol-name (leaf (integer n) s) h r e = absurd cc
symbol-name (leaf (truth b) s) h r e = absurd cc
symbol-name (leaf (text x) s) h r e = absurd cc
symbol-name (leaf (symbol x) s) h r e = name-spelled x r.spelled (language-not_hole x e)
symbol-name (leaf (keyword k) s) h r e = absurd cc
symbol-name (list ds s) h r e = absurd cc

-- ---- what is written

-- what stands in two places
written-both : (m : ℕ) (os qs : List Occurrence) → AreWritten m os → AreWritten m qs → AreWritten m (os ++ qs)
written-both m [] qs h k = k
written-both m (o ∷ os) qs h k = (h.0, written-both m os qs h.1 k)

-- several patterns
each-written : (ds : List Sexp) → AreReadable ds → AreWritten 4294967296 (flat_map (occurrences 0) ds)
each-written [] r = tt
each-written (d ∷ ds) r =
    written-both 4294967296 (occurrences 0 d) (flat_map (occurrences 0) ds) (pattern-written d r.0.nested r.0.spelled) (each-written ds r.1)

-- what is taken is written as a pattern is
pub taken-written : (w : Takes) → IsReadableTaken w → AreWritten 4294967296 (taken_occurrences w)
taken-written (one p) r = pattern-written p r.nested r.spelled
taken-written (several ds) r = items-written (sexps ds) (let l = r.nested in omega (arith, l)) r.spelled
taken-written (each ds) r = each-written ds r

-- ---- names that may not be

-- in two lists of what stands in a form
pub both : (ss rs : List Stand) → bad_names (ss ++ rs) ≡ [] → (bad_names ss ≡ []) × (bad_names rs ≡ [])
both ss rs e = none_both (bad_names ss) (bad_names rs) (sym (flat_map-append bad_name ss rs) ∙ e)

-- one more pattern among several
binders-first : (d : Sexp) (ds : List Sexp) → bad_binders (occurrences 0 d) ≡ [] → bad_binders (flat_map (occurrences 0) ds) ≡ []
    → bad_binders (flat_map (occurrences 0) (d ∷ ds)) ≡ []
binders-first d ds e f = flat_map-append bad_binder (occurrences 0 d) (flat_map (occurrences 0) ds) ∙ (λ i. e i ++ f i)

-- in the patterns among arguments
flagged-binders : (fs : List Bool) (ds : List Sexp) → bad_names (bare.flagged_stand fs ds) ≡ [] → bad_binders (flat_map (occurrences 0) (data_at fs ds)) ≡ []
flagged-binders [] ds e = refl
flagged-binders (f ∷ fs) [] e = refl
flagged-binders (true ∷ fs) (d ∷ ds) e =
    let k = none_both (bad_binders (occurrences 0 d)) (bad_names (bare.flagged_stand fs ds)) e in
    binders-first d (data_at fs ds) k.0 (flagged-binders fs ds k.1)
flagged-binders (false ∷ fs) (d ∷ ds) e = flagged-binders fs ds e

-- where there are flags
arguments-binders : (o : Option (List Bool)) (ds : List Sexp) → bad_names (bare.arguments_by o ds) ≡ [] → bad_binders (flat_map (occurrences 0) (data_by o ds)) ≡ []
arguments-binders None ds e = refl
arguments-binders (Some fs) ds e = flagged-binders fs ds e

-- what is taken binds names
pub can-bind : (ns : List (List ℕ)) (w : Takes) → IsReadableTaken w → bad_binders (taken_occurrences w) ≡ [] → CanBind ns w
can-bind ns w r e = record {
  readable = r;
  names = bind-names _ (bound-are-names ns Query 4294967296 (taken_occurrences w) (taken-written w r) e);
}

-- Where T holds of what is taken, and R follows where none of the names that it binds may not be bound, R holds of what is taken.
module _ (S : Scope) (T R : Takes → Type 0) (binds : (w : Takes) → T w → bad_binders (taken_occurrences w) ≡ [] → R w) where
  -- ---- extras

  -- arguments
  pub arguments-bind : (a : Arguments) → bad_names (bare.arguments_stand a) ≡ [] → ArgumentsHave S (wanted T) a → ArgumentsHave S (bound R) a
  arguments-bind a e h = record {
    patterns = binds (each (patterns_in a)) h.patterns (arguments-binders a.flags a.items e);
    readable = h.readable;
  }

  -- a premise
  pub premise-binds : (d : Sexp) (o : Option Headed) → bad_names (bare.held_stands S d o) ≡ [] → PremiseHas S (wanted T) o → PremiseHas S (bound R) o
  premise-binds d None e h = tt
  premise-binds d (Some q) e h =
      let a = premise_arguments S q in
      let k = both (misfits (is_misfit (mode_of S (text_of q.head)) q.arguments) d q.head) (bare.arguments_stand a) e in
      (tt, arguments-bind a k.1 h.1)

  -- names to be made
  fresh-named : (ds : List Sexp) → bad_names (bare.fresh_stands ds) ≡ [] → AreReadableSymbols ds → AreNames ds
  fresh-named [] e h = tt
  fresh-named (d ∷ ds) e h =
      let k = none_first (is_bad_bound (text_of d)) d (bad_names (bare.fresh_stands ds)) e in
      (symbol-name d h.0.0 h.0.1 (bound-not_bad (text_of d) k.0), fresh-named ds k.1 h.1)

  -- an extra
  extra-binds : (again : Bool) (d : Sexp) (e : ExtraForm) → bad_names (bare.extra_stands S again d e) ≡ [] → ExtraHas S (wanted T) e → ExtraHas S (bound R) e
  extra-binds again d (such_that p t) e h = (binds (one p) h.0 (none_both (bad_binders (occurrences 0 p)) [] e).0, h.1)
  extra-binds again d (provided t) e h = h
  extra-binds again d (confirmed t) e h = h
  extra-binds again d (holding c) e h = premise-binds c (headed c) e h
  extra-binds again d (freshly ds) e h = fresh-named ds e h
  extra-binds again d name e h = tt
  extra-binds again d no_extra e h = tt

  -- extras
  pub extras-bind : (k : ExtraPlace) (again : Bool) (ds : List Sexp) → bad_names (bare.extras_stand k S again ds) ≡ [] → ExtrasHave S (wanted T) k ds → ExtrasHave S (bound R) k ds
  extras-bind k again [] e h = tt
  extras-bind k again (d ∷ ds) e h =
      let f = both (bare.extra_stands S again d (form_at k d)) (bare.extras_stand k S (is_named again (form_at k d)) ds) e in
      (extra-binds again d (form_at k d) f.0 h.0, extras-bind k (is_named again (form_at k d)) ds f.1 h.1)

  -- ---- cases and clauses

  -- a branch
  pub branch-binds : (again : Bool) (b : Branch) → bad_names (bare.branch_stands S again b) ≡ [] → BranchHas S (wanted T) b → BranchHas S (bound R) b
  branch-binds again b e h =
      let k = none_both (bad_binders (taken_occurrences b.takes)) (bad_names (bare.extras_stand b.place S again b.extras)) e in
      record { takes = binds b.takes h.takes k.0; result = h.result; extras = extras-bind b.place again b.extras k.1 h.extras }

  -- a case before others
  case-binds : (d : Sexp) (o : Option CaseForm) (bs : List Branch) → bad_names (bare_forms.case_stands S d o) ≡ []
      → (BranchesHave S (wanted T) bs → BranchesHave S (bound R) bs) → BranchesHave S (wanted T) (in_case o ++ bs) → BranchesHave S (bound R) (in_case o ++ bs)
  case-binds d None bs e f h = f h
  case-binds d (Some c) bs e f h = (branch-binds false (case_branch c) e h.0, f h.1)

  -- cases
  cases-bind : (ds : List Sexp) → bad_names (bare_forms.cases_stand S ds) ≡ [] → BranchesHave S (wanted T) (case_branches ds) → BranchesHave S (bound R) (case_branches ds)
  cases-bind [] e h = tt
  cases-bind (d ∷ ds) e h =
      let k = both (bare_forms.case_stands S d (case_form d)) (bare_forms.cases_stand S ds) e in
      case-binds d (case_form d) (case_branches ds) k.0 (λ g. cases-bind ds k.1 g) h

  -- ---- relations and metafunctions

  -- a relation without shorthand, whatever shortcuts stand behind it
  pub relation-binds : (r : RelationForm) (ds : List Sexp) → bad_names (bare_forms.relation_stands S r ds) ≡ [] → OutlineHas S (wanted T) (relation_outline r)
      → OutlineHas S (bound R) (relation_outline r)
  relation-binds r ds e h =
      let k = both (domain_stands r.domain) (bare_forms.cases_stand S r.cases) (both (bare_forms.expanded_stands S r) (shortcuts_stand [] ds) e).0 in
      record { alone = by_domain r.domain k.0 h.alone; branches = cases-bind r.cases k.1 h.branches; rules = tt; questions = tt }
    where
      by_domain : (o : Option Sexp) → bad_names (domain_stands o) ≡ [] → AloneHave T (domain_patterns o) → AloneHave R (domain_patterns o)
      by_domain None f g = tt
      by_domain (Some p) f g = (binds (one p) g.0 (none_both (bad_binders (occurrences 0 p)) [] f).0, tt)
