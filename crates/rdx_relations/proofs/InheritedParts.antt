-- What each datum of a relation has, where that passes from a list to its items, the parts of the relation have; and so have parts that all forms have.
use Rattle.std.proofs.Common.{◌≡◌, ◌++◌, ◌<◌, Bool, true, false, List, [], ◌∷◌, IsTrue, refl, subst, arith, if◌then◌else◌}
use Rattle.std.proofs.Math.Nat.{le-max_left, le-max_right}
use Rattle.std.specs.List.{list_all}
use Rattle.std.specs.Prelude.{◌&&◌, Option, Some, None, codes}
use Rattle.rdx_sexp.specs.Sexp.{Sexp, Sexps, leaf, list, nil, cons, integer, truth, text, symbol, keyword}
use Rattle.rdx_sexp.specs.Size.{sexp_depth, sexps_depth, AreSpelled}
use Rattle.rdx_term.specs.Spelling.{is_name}
use Rattle.rdx_patterns.specs.Parts.{listed, parts, text_of, is_symbol, is_word}
use Rattle.rdx_patterns.specs.Readable.{IsReadable}
use Rattle.rdx_patterns.proofs.Booleans.{and_true}
use Rattle.rdx_patterns.proofs.SpelledNames.{name-spelled}
use Rattle.rdx_parts.specs.Arguments.{Arguments, patterns_in, data_at, data_by}
use Rattle.rdx_parts.specs.ExtraForms.{ExtraForm, such_that, provided, confirmed, holding, freshly, no_extra, ExtraPlace, of_case, of_clause, of_rule, condition_behind, fresh_names, extra_among, extra_form, is_extra_head, extra_behind, premise_among, form_at}
use Rattle.rdx_parts.specs.Headed.{Headed, headed_among, headed}
use Rattle.rdx_relations.specs.Inside.FormOutlines.{case_branch, in_case, case_branches, domain_patterns, relation_outline}
use Rattle.rdx_parts.specs.Outlines.{Takes, Branch}
use Rattle.rdx_parts.specs.PartsHave.{AreReadable, AreReadableSymbols, ArgumentsHave, PremiseHas, ExtraHas, ExtrasHave, BranchHas, BranchesHave, AloneHave, OutlineHas}
use Rattle.rdx_relations.specs.RelationForms.{CaseForm, case_among, case_form, RelationForm, is_keyword, relation_over, relation_among, relation_form}
use Rattle.rdx_templates.specs.Scope.{Scope}
use Rattle.rdx_parts.specs.Stands.{premise_arguments}
use Rattle.rdx_relations.proofs.PartsOfForms.{Each, EachIn, HeadedHasIn, RelationHas, RelationHasIn, IsInherited, wanted}

-- ---- readable data

-- the data of a list
pub items-readable : (ds : Sexps) → sexps_depth ds < 4294967296 → AreSpelled ds → AreReadable (listed ds)
items-readable nil l h = tt
items-readable (cons d ds) l h =
    let a = le-max_left (sexp_depth d) (sexps_depth ds) in
    let b = le-max_right (sexp_depth d) (sexps_depth ds) in
    (record { nested = omega (arith, a, l); spelled = h.0 }, items-readable ds (omega (arith, b, l)) h.1)

-- where each has what readable data alone have, all are readable
pub all-readable : (P : Sexp → Type 0) → ((d : Sexp) → P d → IsReadable d) → (ds : List Sexp) → Each P ds → AreReadable ds
all-readable P f [] h = tt
all-readable P f (d ∷ ds) h = (f d h.0, all-readable P f ds h.1)

-- symbols among them
symbols-readable : (ds : List Sexp) → list_all is_symbol ds ≡ true → AreReadable ds → AreReadableSymbols ds
symbols-readable [] e h = tt
symbols-readable (d ∷ ds) e h =
    let k = and_true (is_symbol d) (list_all is_symbol ds) e in
    ((k.0, h.0), symbols-readable ds k.1 h.1)

-- ---- names

-- a symbol other than `hole` is a name
pub symbol-name : (l : Sexp) → is_symbol l ≡ true → IsReadable l → is_word (codes "hole") l ≡ false → IsTrue (is_name (text_of l))
symbol-name (leaf (integer n) s) e r h = absurd cc
symbol-name (leaf (truth b) s) e r h = absurd cc
symbol-name (leaf (text x) s) e r h = absurd cc
symbol-name (leaf (symbol x) s) e r h = name-spelled x r.spelled h
symbol-name (leaf (keyword k) s) e r h = absurd cc
symbol-name (list ds s) e r h = absurd cc

module _ (P : Sexp → Type 0) (T : Takes → Type 0) (H : IsInherited P T) where
  -- ---- lists of data

  -- the parts of a datum
  pub parts-has : (d : Sexp) → P d → EachIn P (parts d)
  parts-has (leaf a s) r = tt
  parts-has (list ds s) r = H.items ds s r

  -- ---- names, and lists headed by them

  -- among parts
  headed_among-has : (o : Option (List Sexp)) → EachIn P o → HeadedHasIn P (headed_among o)
  headed_among-has None h = tt
  headed_among-has (Some []) h = tt
  headed_among-has (Some (x ∷ ds)) h = by_test (is_symbol x) refl
    where
      by_test : (b : Bool) → is_symbol x ≡ b → HeadedHasIn P (if b then Some (record { head = x; arguments = ds }) else None)
      by_test true e = record { head = record { symbol = e; readable = H.readable x h.0 }; arguments = h.1 }
      by_test false e = tt

  -- a datum as one
  pub headed-has : (d : Sexp) → P d → HeadedHasIn P (headed d)
  headed-has d r = headed_among-has (parts d) (parts-has d r)

  -- ---- arguments

  -- the data at which a flag is set
  data_at-has : (bs : List Bool) (ds : List Sexp) → Each P ds → Each P (data_at bs ds)
  data_at-has [] ds h = tt
  data_at-has (b ∷ bs) [] h = tt
  data_at-has (true ∷ bs) (d ∷ ds) h = (h.0, data_at-has bs ds h.1)
  data_at-has (false ∷ bs) (d ∷ ds) h = data_at-has bs ds h.1

  -- where there are flags
  data_by-has : (o : Option (List Bool)) (ds : List Sexp) → Each P ds → Each P (data_by o ds)
  data_by-has None ds h = tt
  data_by-has (Some bs) ds h = data_at-has bs ds h

  module _ (S : Scope) where
    -- all of them
    pub arguments-has : (a : Arguments) → Each P a.items → ArgumentsHave S (wanted T) a
    arguments-has a h = record { patterns = H.taken_each (patterns_in a) (data_by-has a.flags a.items h); readable = all-readable P H.readable a.items h }

    -- those of a premise
    premise_with-has : (o : Option Headed) → HeadedHasIn P o → PremiseHas S (wanted T) o
    premise_with-has None h = tt
    premise_with-has (Some q) h = (tt, arguments-has (premise_arguments S q) h.arguments)

    -- a datum as one
    pub premise-has : (d : Sexp) → P d → PremiseHas S (wanted T) (headed d)
    premise-has d r = premise_with-has (headed d) (headed-has d r)

    -- ---- extras

    -- one extra or another
    extra-when : (b : Bool) (e f : ExtraForm) → ExtraHas S (wanted T) e → ExtraHas S (wanted T) f → ExtraHas S (wanted T) (if b then e else f)
    extra-when true e f h k = h
    extra-when false e f h k = k

    -- behind the head of an extra of a clause
    condition_behind-has : (w : Sexp) (ds : List Sexp) → Each P ds → ExtraHas S (wanted T) (condition_behind w ds)
    condition_behind-has w [] h = tt
    condition_behind-has w (x ∷ []) h =
        extra-when (is_word (codes "side-condition") w) (provided x) (if is_word (codes "judgment-holds") w then holding x else no_extra) (H.readable x h.0)
        (extra-when (is_word (codes "judgment-holds") w) (holding x) no_extra (premise-has x h.0) tt)
    condition_behind-has w (p ∷ t ∷ []) h = extra-when (is_word (codes "where") w) (such_that p t) no_extra (H.taken_one p h.0, H.readable t h.1.0) tt
    condition_behind-has w (p ∷ t ∷ x ∷ xs) h = tt

    -- names to be made
    fresh_names-has : (ds : List Sexp) → Each P ds → ExtraHas S (wanted T) (fresh_names ds)
    fresh_names-has ds h = by_test (list_all is_symbol ds) refl
      where
        by_test : (b : Bool) → list_all is_symbol ds ≡ b → ExtraHas S (wanted T) (if b then freshly ds else no_extra)
        by_test true e = symbols-readable ds e (all-readable P H.readable ds h)
        by_test false e = tt

    -- among parts, of a case or a clause
    extra_among-has : (case : Bool) (o : Option (List Sexp)) → EachIn P o → ExtraHas S (wanted T) (extra_among case o)
    extra_among-has case None h = tt
    extra_among-has case (Some []) h = tt
    extra_among-has case (Some (w ∷ ds)) h =
        extra-when (case && is_word (codes "fresh") w) (fresh_names ds) (condition_behind w ds) (fresh_names-has ds h.1) (condition_behind-has w ds h.1)

    -- a datum as one
    extra-has : (case : Bool) (d : Sexp) → P d → ExtraHas S (wanted T) (extra_form case d)
    extra-has case (leaf (integer n) s) r = tt
    extra-has case (leaf (truth b) s) r = tt
    extra-has case (leaf (text x) s) r = tt
    extra-has case (leaf (symbol x) s) r = tt
    extra-has case (leaf (keyword k) s) r = tt
    extra-has case (list ds s) r = extra_among-has case (parts (list ds s)) (parts-has (list ds s) r)

    -- in rules, behind a head that gives a list another meaning
    behind_head-has : (w : Sexp) (ds : List Sexp) → Each P ds → ExtraHas S (wanted T) (extra_behind w ds)
    behind_head-has w [] h = tt
    behind_head-has w (x ∷ []) h =
        extra-when (is_word (codes "side-condition") w) (confirmed x) (if is_word (codes "judgment-holds") w then holding x else no_extra) (H.readable x h.0)
        (extra-when (is_word (codes "judgment-holds") w) (holding x) no_extra (premise-has x h.0) tt)
    behind_head-has w (p ∷ t ∷ []) h = extra-when (is_word (codes "where") w) (such_that p t) no_extra (H.taken_one p h.0, H.readable t h.1.0) tt
    behind_head-has w (p ∷ t ∷ x ∷ xs) h = tt

    -- the list d with these parts
    premise_among-has : (d : Sexp) (o : Option (List Sexp)) → P d → EachIn P o → ExtraHas S (wanted T) (premise_among d o)
    premise_among-has d None r h = tt
    premise_among-has d (Some []) r h = tt
    premise_among-has d (Some (w ∷ ds)) r h =
        extra-when (is_extra_head w) (extra_behind w ds) (if is_symbol w then holding d else no_extra) (behind_head-has w ds h.1)
        (extra-when (is_symbol w) (holding d) no_extra (premise-has d r) tt)

    -- a datum as an extra at such a place
    form-has : (k : ExtraPlace) (d : Sexp) → P d → ExtraHas S (wanted T) (form_at k d)
    form-has of_case d r = extra-has true d r
    form-has of_clause d r = extra-has false d r
    form-has of_rule d r = premise_among-has d (parts d) r (parts-has d r)

    -- several
    pub extras-has : (k : ExtraPlace) (ds : List Sexp) → Each P ds → ExtrasHave S (wanted T) k ds
    extras-has k [] r = tt
    extras-has k (d ∷ ds) r = (form-has k d r.0, extras-has k ds r.1)

    -- ---- cases

    -- where there is a case, its branch has such parts
    abbrev CaseIn : Option CaseForm → Type 0
    CaseIn None = Unit {0}
    CaseIn (Some c) = BranchHas S (wanted T) (case_branch c)

    -- a case, where a test holds
    case-when : (b : Bool) (c : CaseForm) → BranchHas S (wanted T) (case_branch c) → CaseIn (if b then Some c else None)
    case-when true c h = h
    case-when false c h = tt

    -- among parts
    case_among-has : (o : Option (List Sexp)) → EachIn P o → CaseIn (case_among o)
    case_among-has None h = tt
    case_among-has (Some []) h = tt
    case_among-has (Some (a ∷ [])) h = tt
    case_among-has (Some (a ∷ p ∷ [])) h = tt
    case_among-has (Some (a ∷ p ∷ t ∷ es)) h =
        case-when (is_symbol a) (record { arrow = a; pattern = p; result = t; extras = es })
        (record { takes = H.taken_one p h.1.0; result = H.readable t h.1.1.0; extras = extras-has of_case es h.1.1.1 })

    -- the case that a datum is
    pub case-has : (d : Sexp) (c : CaseForm) → P d → case_form d ≡ Some c → BranchHas S (wanted T) (case_branch c)
    case-has d c r e = subst CaseIn e (case_among-has (parts d) (parts-has d r))

    -- the branch, where there is one
    in_case-has : (o : Option CaseForm) (bs : List Branch) → CaseIn o → BranchesHave S (wanted T) bs → BranchesHave S (wanted T) (in_case o ++ bs)
    in_case-has None bs h k = k
    in_case-has (Some c) bs h k = (h, k)

    -- several
    cases-has : (ds : List Sexp) → Each P ds → BranchesHave S (wanted T) (case_branches ds)
    cases-has [] r = tt
    cases-has (d ∷ ds) r =
        in_case-has (case_form d) (case_branches ds) (case_among-has (parts d) (parts-has d r.0)) (cases-has ds r.1)

  -- ---- relations

  -- a domain and cases, or cases alone
  over-has : (l : Sexp) (ds : List Sexp) → is_symbol l ≡ true → P l → Each P ds → RelationHas P (relation_over l ds)
  over-has l [] e r h = record { domain = tt; cases = tt; language = symbol-name l e (H.readable l r) }
  over-has l (k ∷ []) e r h = record { domain = tt; cases = h; language = symbol-name l e (H.readable l r) }
  over-has l (k ∷ p ∷ cs) e r h = by_test (is_keyword (codes "domain") k)
    where
      by_test : (b : Bool) → RelationHas P (if b then record { language = l; domain = Some p; cases = cs } else record { language = l; domain = None; cases = k ∷ p ∷ cs })
      by_test true = record { domain = (h.1.0, tt); cases = h.1.1; language = symbol-name l e (H.readable l r) }
      by_test false = record { domain = tt; cases = h; language = symbol-name l e (H.readable l r) }

  -- among parts
  relation_among-has : (o : Option (List Sexp)) → EachIn P o → RelationHasIn P (relation_among o)
  relation_among-has None h = tt
  relation_among-has (Some []) h = tt
  relation_among-has (Some (x ∷ [])) h = tt
  relation_among-has (Some (x ∷ l ∷ ds)) h = by_test (is_word (codes "reduction-relation") x && is_symbol l) refl
    where
      by_test : (b : Bool) → (is_word (codes "reduction-relation") x && is_symbol l) ≡ b → RelationHasIn P (if b then Some (relation_over l ds) else None)
      by_test true e = over-has l ds (and_true (is_word (codes "reduction-relation") x) (is_symbol l) e).1 h.1.0 h.1.1
      by_test false e = tt

  -- the parts of a form that has it
  pub relation-has : (d : Sexp) (r : RelationForm) → P d → relation_form d ≡ Some r → RelationHas P r
  relation-has d r h e = subst (RelationHasIn P) e (relation_among-has (parts d) (parts-has d h))

  -- patterns that stand by themselves
  pub alone-has : (ps : List Sexp) → Each P ps → AloneHave T ps
  alone-has [] h = tt
  alone-has (p ∷ ps) h = (H.taken_one p h.0, alone-has ps h.1)

  -- its outline
  pub relation_outline-has : (S : Scope) (r : RelationForm) → RelationHas P r → OutlineHas S (wanted T) (relation_outline r)
  relation_outline-has S r h = record {
    alone = alone-has (domain_patterns r.domain) h.domain;
    branches = cases-has S r.cases h.cases;
    rules = tt;
    questions = tt;
  }
