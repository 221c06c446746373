-- The names that the rules of a relation bind are the texts of symbols that stand in it.
use Rattle.std.proofs.Common.{◌≡◌, ◌++◌, ◌∙◌, ◌<◌, ℕ, Bool, true, false, List, [], ◌∷◌, Option, Some, None, map, refl, sym, ap₂, subst, if◌then◌else◌}
use Rattle.std.proofs.lemmas.List.{map-append}
use Rattle.std.specs.List.{list_all}
use Rattle.std.specs.Prelude.{not, codes}
use Rattle.rdx_sexp.specs.Sexp.{integer, truth, text, symbol, keyword, Sexp, Sexps, leaf, list, nil, cons, sexps}
use Rattle.rdx_lang.specs.Closures.{rule_names}
use Rattle.rdx_lang.specs.Depths.{Use}
use Rattle.rdx_lang.specs.Patterns.{Language}
use Rattle.rdx_lang.specs.Programs.{Rule}
use Rattle.rdx_lang.specs.Scopes.{case_uses}
use Rattle.rdx_patterns.proofs.DepthsRead.{bound_use}
use Rattle.rdx_patterns.specs.Heads.{Head, naming, avoiding, prefixing, splitting, hiding, crossing, escaping, plain, Role, word, bound, spelt, pattern, ellipsis, unread, Roles, roles_of, head_among, next, rest, is_repeated, is_shaped, patterns as items_of_list}
use Rattle.rdx_patterns.specs.Nonterminals.{names_of}
use Rattle.rdx_patterns.specs.Occurrences.{Occurrence, key, binder, single, repeats, excepted, across, malformed, escape, keys, keys_in, role_occurrences, deeper, head_occurrences, occurrences, occurrences_among}
use Rattle.rdx_patterns.specs.Parts.{listed, text_of, is_symbol, is_word}
use Rattle.rdx_patterns.specs.PatternChecks as patterns
use Rattle.rdx_patterns.specs.PatternChecks.{binds, bound_when, all_bound}
use Rattle.rdx_patterns.specs.Reading.{reading}
use Rattle.rdx_patterns.specs.declared.patterns.position.Position.TheVariants.{Query}
use Rattle.rdx_parts.specs.Arguments.{patterns_in}
use Rattle.rdx_parts.specs.ExtraForms.{ExtraForm, such_that, provided, confirmed, holding, freshly, name, no_extra, of_case, form_at, condition_behind, fresh_names, extra_among}
use Rattle.rdx_parts.specs.ExtraReading.{extras_reading}
use Rattle.rdx_parts.specs.Headed.{Headed, headed}
use Rattle.rdx_relations.specs.Inside.FormOutlines.{case_branch, in_case, case_branches, relation_outline}
use Rattle.rdx_parts.specs.Outlines.{Takes, one, each, bound_by_taken}
use Rattle.rdx_parts.specs.PartsHave.{PremiseHas, ExtraHas, ExtrasHave, BranchHas, BranchesHave, OutlineHas}
use Rattle.rdx_relations.specs.RelationForms.{CaseForm, case_form, RelationForm}
use Rattle.rdx_relations.specs.RelationReading.{rule_reading, with_rule, rules_reading}
use Rattle.rdx_relations.specs.RelationStands.{case_stands, cases_stand, domain_stands, expanded_stands, shortcuts_stand}
use Rattle.rdx_templates.specs.Scope.{Scope}
use Rattle.rdx_parts.specs.Stands.{template, names_bound, premise_arguments, bound_by_premise, bound_freshly, bound_by_extra, bound_by_extras, extras_stand, bound_in}
use Rattle.rdx_relations.specs.RelationStands.{bound_by_case}
use Rattle.rdx_relations.proofs.AlikeSymbols.{alike-none}
use Rattle.rdx_relations.proofs.AskingParts.{BindsWithin}
use Rattle.rdx_relations.proofs.FormRefusals.{ArePassed}
use Rattle.rdx_relations.proofs.InheritedParts.{relation_outline-has}
use Rattle.rdx_parts.proofs.BranchStands.{branch_stands}
use Rattle.rdx_relations.proofs.PartsOfForms as forms
use Rattle.rdx_relations.proofs.PartsOfForms.{Each, RelationHas, IsInherited, wanted}
use Rattle.rdx_relations.proofs.PassedStands.{passed-both, pattern-first, template-first, arrow-first}
use Rattle.rdx_relations.proofs.PatternLists.{each-bound}
use Rattle.rdx_relations.proofs.ValidExtras.{alike-taken, taken-passed, extras-good}
use Rattle.rdx_query.proofs.SmallData.{SymbolsHave, AllSymbolsHave, IsSmall, small-items, small-readable, case-extras}

-- Q holds of the text of each symbol, and of that of what is none.
module _ (Q : List ℕ → Type 0) (empty : Q []) where
  -- ---- what stands in a pattern

  -- the text of a datum has it
  text-has : (d : Sexp) → SymbolsHave Q d → Q (text_of d)
  text-has (leaf (integer n) s) h = empty
  text-has (leaf (truth b) s) h = empty
  text-has (leaf (text x) s) h = empty
  text-has (leaf (symbol x) s) h = h
  text-has (leaf (keyword k) s) h = empty
  text-has (list ds s) h = empty

  -- what may bind a name does so by a text that has it
  abbrev OccurrenceHas : Occurrence → Type 0
  OccurrenceHas (key d) = Unit {0}
  OccurrenceHas (binder n d) = Q (text_of d)
  OccurrenceHas (single n d) = Q (text_of d)
  OccurrenceHas (repeats n d) = Q (text_of d)
  OccurrenceHas (excepted d) = Unit {0}
  OccurrenceHas (across d) = Unit {0}
  OccurrenceHas (malformed d) = Unit {0}
  OccurrenceHas (escape d) = Unit {0}

  -- so do all
  abbrev OccurrencesHave : List Occurrence → Type 0
  OccurrencesHave [] = Unit {0}
  OccurrencesHave (o ∷ os) = OccurrenceHas o × OccurrencesHave os

  -- two lists
  have-both : (os qs : List Occurrence) → OccurrencesHave os → OccurrencesHave qs → OccurrencesHave (os ++ qs)
  have-both [] qs h k = k
  have-both (o ∷ os) qs h k = (h.0, have-both os qs h.1 k)

  mutual
    -- keywords bind nothing
    keys-have : (d : Sexp) → OccurrencesHave (keys d)
    keys-have (leaf (integer n) s) = tt
    keys-have (leaf (truth b) s) = tt
    keys-have (leaf (text t) s) = tt
    keys-have (leaf (symbol x) s) = tt
    keys-have (leaf (keyword k) s) = (tt, tt)
    keys-have (list ds s) = keys_in-have ds

    keys_in-have : (ds : Sexps) → OccurrencesHave (keys_in ds)
    keys_in-have nil = tt
    keys_in-have (cons d ds) = have-both (keys d) (keys_in ds) (keys-have d) (keys_in-have ds)

  -- an item in a role
  role-has : (n : ℕ) (o : Option Role) (d : Sexp) (os : List Occurrence) → SymbolsHave Q d → OccurrencesHave os
      → OccurrencesHave (role_occurrences n o d os)
  role-has n None d os h k = tt
  role-has n (Some word) d os h k = tt
  role-has n (Some bound) d os h k = (text-has d h, tt)
  role-has n (Some spelt) d os h k = (tt, tt)
  role-has n (Some pattern) d os h k = k
  role-has n (Some ellipsis) d os h k = (text-has d h, tt)
  role-has n (Some unread) d os h k = keys-have d

  -- the list itself
  head-has : (h : Head) (d : Sexp) → OccurrencesHave (head_occurrences h d)
  head-has naming d = tt
  head-has avoiding d = tt
  head-has prefixing d = tt
  head-has splitting d = tt
  head-has hiding d = tt
  head-has crossing d = (tt, tt)
  head-has escaping d = (tt, tt)
  head-has plain d = tt

  -- a list that may have its shape
  shaped-has : (b : Bool) (whole : Sexp) (ds : Sexps) (os : List Occurrence) → OccurrencesHave os
      → OccurrencesHave (if b then os else malformed whole ∷ keys_in ds)
  shaped-has true whole ds os h = h
  shaped-has false whole ds os h = (tt, keys_in-have ds)

  mutual
    -- a pattern
    occurrences-have : (n : ℕ) (d : Sexp) → SymbolsHave Q d → OccurrencesHave (occurrences n d)
    occurrences-have n (leaf (integer z) s) h = tt
    occurrences-have n (leaf (truth b) s) h = tt
    occurrences-have n (leaf (text t) s) h = tt
    occurrences-have n (leaf (symbol x) s) h = (h, tt)
    occurrences-have n (leaf (keyword k) s) h = (tt, tt)
    occurrences-have n (list ds s) h =
        let k = head_among ds in
        let os = head_occurrences k (list ds s) in
        shaped-has (is_shaped ds) (list ds s) ds (os ++ occurrences_among n (roles_of k) ds)
        (have-both os (occurrences_among n (roles_of k) ds) (head-has k (list ds s)) (among-have n (roles_of k) ds h))

    -- items in these roles
    among-have : (n : ℕ) (rs : Roles) (ds : Sexps) → AllSymbolsHave Q ds → OccurrencesHave (occurrences_among n rs ds)
    among-have n rs nil h = tt
    among-have n rs (cons d ds) h =
        let m = deeper (is_repeated (rest rs d) ds) n in
        have-both (role_occurrences n (next rs d) d (occurrences m d)) (occurrences_among n (rest rs d) ds)
        (role-has n (next rs d) d (occurrences m d) h.0 (occurrences-have m d h.0)) (among-have n (rest rs d) ds h.1)

  -- ---- what binds

  -- the texts of symbols that bind names have it
  abbrev BoundHave : List patterns.Bound → Type 0
  BoundHave [] = Unit {0}
  BoundHave (b ∷ bs) = Q (text_of b.symbol) × BoundHave bs

  -- two lists
  bound-both : (bs cs : List patterns.Bound) → BoundHave bs → BoundHave cs → BoundHave (bs ++ cs)
  bound-both [] cs h k = k
  bound-both (b ∷ bs) cs h k = (h.0, bound-both bs cs h.1 k)

  -- one before others, where a test holds
  when-has : (b : Bool) (n : ℕ) (d : Sexp) (bs : List patterns.Bound) → Q (text_of d) → BoundHave bs → BoundHave (bound_when b n d ++ bs)
  when-has true n d bs h k = (h, k)
  when-has false n d bs h k = k

  -- by what stands in a pattern
  bound-have : (ns : List (List ℕ)) (os : List Occurrence) → OccurrencesHave os → BoundHave (all_bound ns Query os)
  bound-have ns [] h = tt
  bound-have ns (key d ∷ os) h = bound-have ns os h.1
  bound-have ns (binder n d ∷ os) h = (h.0, bound-have ns os h.1)
  bound-have ns (single n d ∷ os) h = when-has (binds ns Query (text_of d)) n d (all_bound ns Query os) h.0 (bound-have ns os h.1)
  bound-have ns (repeats n d ∷ os) h = when-has (not (is_word (codes "...") d)) n d (all_bound ns Query os) h.0 (bound-have ns os h.1)
  bound-have ns (excepted d ∷ os) h = bound-have ns os h.1
  bound-have ns (across d ∷ os) h = bound-have ns os h.1
  bound-have ns (malformed d ∷ os) h = bound-have ns os h.1
  bound-have ns (escape d ∷ os) h = bound-have ns os h.1

  -- ---- what is taken

  module _ (ns : List (List ℕ)) (n : ℕ) (room : n < 4294967296) where
    abbrev TakenHas : Takes → Type 0
    TakenHas w = BoundHave (bound_by_taken ns w)

    -- items of a list pattern
    all-have : (ds : List Sexp) → Each (IsSmall Q n) ds → AllSymbolsHave Q (sexps ds)
    all-have [] h = tt
    all-have (d ∷ ds) h = (h.0.symbols, all-have ds h.1)

    -- patterns that stand by themselves
    each-have : (ds : List Sexp) → Each (IsSmall Q n) ds → BoundHave (bound_by_taken ns (each ds))
    each-have [] h = tt
    each-have (d ∷ ds) h =
        subst BoundHave (sym (each-bound ns (d ∷ ds)))
        (bound-both (bound_in ns d) _ (bound-have ns (occurrences 0 d) (occurrences-have 0 d h.0.symbols)) (subst BoundHave (each-bound ns ds) (each-have ds h.1)))

    -- so it passes to the parts of a form
    inherited : IsInherited (IsSmall Q n) TakenHas
    inherited = record {
      readable = λ d h. small-readable Q n d room h;
      items = λ ds s h. small-items Q n ds s h;
      taken_one = λ p h. bound-have ns (occurrences 0 p) (occurrences-have 0 p h.symbols);
      taken_several = λ ds r h. bound-have ns (occurrences_among 0 items_of_list (sexps ds)) (among-have 0 items_of_list (sexps ds) (all-have ds h));
      taken_each = λ ds h. each-have ds h;
    }

    -- ---- names to be made

    -- those of an extra
    abbrev made_by : ExtraForm → List Sexp
    made_by (such_that p t) = []
    made_by (provided h) = []
    made_by (confirmed t) = []
    made_by (holding d) = []
    made_by (freshly ds) = ds
    made_by name = []
    made_by no_extra = []

    -- they are small
    abbrev EachHas : ExtraForm → Type 0
    EachHas e = Each (IsSmall Q n) (made_by e)

    -- a condition makes none
    behind-made : (w : Sexp) (ds : List Sexp) → EachHas (condition_behind w ds)
    behind-made w [] = tt
    behind-made w (h ∷ []) = by_tests (is_word (codes "side-condition") w) (is_word (codes "judgment-holds") w)
      where
        by_tests : (b c : Bool) → EachHas (if b then provided h else if c then holding h else no_extra)
        by_tests true c = tt
        by_tests false true = tt
        by_tests false false = tt
    behind-made w (p ∷ t ∷ []) = by_test (is_word (codes "where") w)
      where
        by_test : (b : Bool) → EachHas (if b then such_that p t else no_extra)
        by_test true = tt
        by_test false = tt
    behind-made w (p ∷ t ∷ d ∷ ds) = tt

    -- in `fresh`
    names-made : (ds : List Sexp) → Each (IsSmall Q n) ds → EachHas (fresh_names ds)
    names-made ds h = by_test (list_all is_symbol ds)
      where
        by_test : (b : Bool) → EachHas (if b then freshly ds else no_extra)
        by_test true = h
        by_test false = tt

    -- in a list
    among-made : (ds : List Sexp) → Each (IsSmall Q n) ds → EachHas (extra_among true (Some ds))
    among-made [] h = tt
    among-made (w ∷ ds) h = by_test (is_word (codes "fresh") w)
      where
        by_test : (b : Bool) → EachHas (if b then fresh_names ds else condition_behind w ds)
        by_test true = names-made ds h.1
        by_test false = behind-made w ds

    -- in whatever stands as an extra of a case
    extra-made : (d : Sexp) → IsSmall Q n d → EachHas (form_at of_case d)
    extra-made (leaf (integer z) s) h = tt
    extra-made (leaf (truth b) s) h = tt
    extra-made (leaf (text t) s) h = tt
    extra-made (leaf (symbol x) s) h = tt
    extra-made (leaf (keyword k) s) h = tt
    extra-made (list ds s) h = among-made (listed ds) (small-items Q n ds s h)

    -- ---- extras

    -- names to be made
    fresh-have : (ds : List Sexp) → Each (IsSmall Q n) ds → BoundHave (map bound_freshly ds)
    fresh-have [] h = tt
    fresh-have (d ∷ ds) h = (text-has d h.0.symbols, fresh-have ds h.1)

    module _ (S : Scope) where
      -- a premise
      premise-has : (o : Option Headed) → PremiseHas S (wanted TakenHas) o → BoundHave (bound_by_premise S ns o)
      premise-has None h = tt
      premise-has (Some q) h = subst BoundHave (each-bound ns (patterns_in (premise_arguments S q))) h.1.patterns

      -- an extra
      extra-has : (e : ExtraForm) → ExtraHas S (wanted TakenHas) e → EachHas e → BoundHave (bound_by_extra S ns e)
      extra-has (such_that p t) h k = h.0
      extra-has (provided t) h k = tt
      extra-has (confirmed t) h k = tt
      extra-has (holding d) h k = premise-has (headed d) h
      extra-has (freshly ds) h k = fresh-have ds k
      extra-has name h k = tt
      extra-has no_extra h k = tt

      -- extras
      extras-have : (ds : List Sexp) → ExtrasHave S (wanted TakenHas) of_case ds → Each (IsSmall Q n) ds → BoundHave (bound_by_extras of_case S ns ds)
      extras-have [] h k = tt
      extras-have (d ∷ ds) h k =
          bound-both (bound_by_extra S ns (form_at of_case d)) (bound_by_extras of_case S ns ds) (extra-has (form_at of_case d) h.0 (extra-made d k.0))
          (extras-have ds h.1 k.1)

  -- ---- rules

  -- the names have it
  abbrev pub NamesHave : List (List ℕ) → Type 0
  NamesHave [] = Unit {0}
  NamesHave (x ∷ xs) = Q x × NamesHave xs

  -- those of each rule do
  abbrev pub RulesBind : List Rule → Type 0
  RulesBind [] = Unit {0}
  RulesBind (r ∷ rs) = NamesHave (rule_names r) × RulesBind rs

  -- by the uses
  use-names : (bs : List patterns.Bound) → BoundHave bs → NamesHave (map (λ u. u.name) (map bound_use bs))
  use-names [] h = tt
  use-names (b ∷ bs) h = (h.0, use-names bs h.1)

  -- Forms are read over the names of L; none of what stands in the form is refused.
  module _ (S : Scope) (L : Language) (ys : List (List ℕ)) (n : ℕ) (room : n < 4294967296) where
    abbrev ns : List (List ℕ)
    ns = names_of L

    -- the rule of a case
    case-binds : (c : CaseForm) → BranchHas S (forms.bound (BindsWithin ys ns)) (case_branch c)
        → ArePassed S ns (branch_stands S ns false (case_branch c))
        → BranchHas S (wanted (TakenHas ns n room)) (case_branch c) → Each (IsSmall Q n) c.extras → NamesHave (rule_names (rule_reading S ns c))
    case-binds c h k w z =
        let bs = bound_in ns c.pattern in
        let all = bound_by_case S ns c in
        let p = reading ns Query c.pattern in
        let es = extras_reading of_case S ns bs c.extras in
        let others = extras_stand of_case S ns bs false c.extras in
        let a = pattern-first S ns [] (occurrences 0 c.pattern) (template (names_bound all) c.result ∷ others) k in
        let t = template-first S ns all c.result others a.1 in
        let q = taken-passed S L ys [] (one c.pattern) alike-none h.takes a.0 in
        let g = extras-good S L ys of_case bs false c.extras (alike-taken S L ys [] (one c.pattern) alike-none a.0) h.extras t.1 in
        let u : case_uses p es ≡ map bound_use all =
        ap₂ (λ (vs ws : List Use). vs ++ ws) q.1 g.1.1 ∙ sym (map-append bound_use bs (bound_by_extras of_case S ns c.extras)) in
        subst (λ (us : List Use). NamesHave (map (λ u. u.name) us)) (sym u)
        (use-names all (bound-both bs (bound_by_extras of_case S ns c.extras) w.takes (extras-have ns n room S c.extras w.extras z)))

    -- a case before others
    case-first : (d : Sexp) (o : Option CaseForm) (ds : List Sexp) → case_form d ≡ o
        → BranchesHave S (forms.bound (BindsWithin ys ns)) (in_case o ++ case_branches ds)
        → ArePassed S ns (case_stands S ns d o) → BranchesHave S (wanted (TakenHas ns n room)) (in_case o ++ case_branches ds) → IsSmall Q n d
        → (BranchesHave S (forms.bound (BindsWithin ys ns)) (case_branches ds) → BranchesHave S (wanted (TakenHas ns n room)) (case_branches ds)
        → RulesBind (rules_reading S ns ds))
        → RulesBind (with_rule S ns o (rules_reading S ns ds))
    case-first d None ds e h k w z f = f h w
    case-first d (Some c) ds e h k w z f =
        (case-binds c h.0 (arrow-first S ns c.arrow (branch_stands S ns false (case_branch c)) k) w.0 (case-extras Q n d c z e), f h.1 w.1)

    -- all cases
    cases-bind : (ds : List Sexp) → BranchesHave S (forms.bound (BindsWithin ys ns)) (case_branches ds) → ArePassed S ns (cases_stand S ns ds)
        → BranchesHave S (wanted (TakenHas ns n room)) (case_branches ds) → Each (IsSmall Q n) ds → RulesBind (rules_reading S ns ds)
    cases-bind [] h k w z = tt
    cases-bind (d ∷ ds) h k w z =
        let p = passed-both S ns (case_stands S ns d (case_form d)) (cases_stand S ns ds) k in
        case-first d (case_form d) ds refl h p.0 w z.0 (λ a b. cases-bind ds a p.1 b z.1)

    -- the rules of a form without shorthand, whatever shortcuts stand behind it
    pub rules-bind : (r : RelationForm) (ds : List Sexp) → OutlineHas S (forms.bound (BindsWithin ys ns)) (relation_outline r)
        → ArePassed S ns (expanded_stands S ns r ++ shortcuts_stand [] ds) → RelationHas (IsSmall Q n) r → RulesBind (rules_reading S ns r.cases)
    rules-bind r ds h k z =
        let p = passed-both S ns (domain_stands r.domain) (cases_stand S ns r.cases) (passed-both S ns (expanded_stands S ns r) (shortcuts_stand [] ds) k).0 in
        let w = relation_outline-has (IsSmall Q n) (TakenHas ns n room) (inherited ns n room) S r z in
        cases-bind r.cases h.branches p.1 w.branches z.cases
