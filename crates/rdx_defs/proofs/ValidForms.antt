-- What a form of a metafunction that is not refused stands for is valid over its language.
use Rattle.std.proofs.Common.{◌≡◌, ◌++◌, ◌∙◌, ℕ, Bool, true, false, not, List, [], ◌∷◌, refl, ap, subst, if◌then◌else◌}
use Rattle.std.proofs.lemmas.List.{append_assoc}
use Rattle.std.specs.Bool.{beq}
use Rattle.std.specs.List.{list_all}
use Rattle.std.specs.Prelude.{◌&&◌, ◌||◌, Option, Some, None, option_map, bytes_eq, nat_eq, nat_lt}
use Rattle.rdx_sexp.specs.Sexp.{Sexp, Sexps, sexps, nil, cons}
use Rattle.rdx_lang.specs.Depths.{Use, item_uses, agree, all_agree, is_shallow, closed_items_fit, has_fitting_names, has_one_depth_each}
use Rattle.rdx_lang.specs.Patterns as model
use Rattle.rdx_lang.specs.Patterns.{Language, Pattern, Items, closed, seq}
use Rattle.rdx_lang.specs.Programs.{Clause}
use Rattle.rdx_lang.specs.Valid.{is_valid_clause, is_valid_contract}
use Rattle.rdx_lang.specs.WellFormed.{defined, has_known_nonterminals, have_known_nonterminals, is_well_formed_in}
use Rattle.rdx_patterns.specs.Ends.{crossed_for}
use Rattle.rdx_patterns.specs.Heads.{Roles, patterns as items_of_list, next, rest}
use Rattle.rdx_patterns.specs.Nonterminals.{names_of}
use Rattle.rdx_patterns.specs.Parts.{text_of}
use Rattle.rdx_patterns.specs.Reading.{reading, items_among, is_pattern, ellipsis_behind, item_slot, with_item}
use Rattle.rdx_patterns.specs.declared.patterns.position.Position.TheVariants.{Query}
use Rattle.rdx_patterns.proofs.Booleans.{and_true, and_both}
use Rattle.rdx_patterns.proofs.Firsts.{none_both}
use Rattle.rdx_defs.specs.Inside.FormOutlines.{clause_branch, own_clause, in_clause, clause_branches, pattern_when, patterns_among, contract_patterns, metafunction_outline}
use Rattle.rdx_parts.specs.Outlines.{one, Branch}
use Rattle.rdx_defs.specs.Inside.BranchReadings.{branch_clause, branch_clauses}
use Rattle.rdx_defs.specs.Inside.Contracts.{IsContractIn}
use Rattle.rdx_parts.specs.PartsHave.{BranchesHave, AloneHave, OutlineHas, IsPattern, can_read}
use Rattle.rdx_defs.specs.MetafunctionForms.{ClauseForm, clause_form, ContractForm, MetafunctionForm}
use Rattle.rdx_defs.specs.MetafunctionReading.{with_clause, clauses_reading, closed_items, contract_reading}
use Rattle.rdx_parts.specs.ExtraReading.{argument_items}
use Rattle.rdx_defs.specs.MetafunctionStands.{clause_stands, clauses_stand, contract_stands, function_stands}
use Rattle.rdx_templates.specs.Scope.{Scope, callable}
use Rattle.rdx_parts.specs.StandChecks.{bad_name, bad_names}
use Rattle.rdx_parts.specs.Stands.{misshaped, function}
use Rattle.rdx_relations.proofs.AskingParts.{BindsWithin}
use Rattle.rdx_relations.proofs.FormRefusals.{ArePassed}
use Rattle.rdx_defs.proofs.LoneStands.{contract-lone}
use Rattle.rdx_parts.proofs.BranchStands.{branch_stands}
use Rattle.rdx_relations.proofs.PartsOfForms.{bound}
use Rattle.rdx_relations.proofs.PassedStands.{passed-both}
use Rattle.rdx_relations.proofs.ValidExtras.{alone-good}
use Rattle.rdx_relations.proofs.ValidForms.{branch-good}

-- Forms are read over the names of L and over M, which is L with the cross nonterminals to those of ys that are nonterminals of it.
module _ (S : Scope) (L : Language) (ys : List (List ℕ)) where
  abbrev ns : List (List ℕ)
  ns = names_of L

  abbrev M : Language
  M = crossed_for ys L

  -- ---- clauses

  -- clauses are valid, and those of the branches
  abbrev AreGoodClauses : List Sexp → List Branch → Type 0
  AreGoodClauses ds bs =
      BranchesHave S (can_read S M ns) bs
      × ((list_all (is_valid_clause (callable S) M) (branch_clauses S ns bs) ≡ true) × (clauses_reading S ns ds ≡ branch_clauses S ns bs))

  -- a clause that passes is one of this metafunction
  clause-first : (x : List ℕ) (d : Sexp) (o : Option ClauseForm) (ds : List Sexp) (bs : List Branch) → BranchesHave S (bound (BindsWithin ys ns)) (in_clause (own_clause x o) ++ bs)
      → ArePassed S ns (clause_stands S ns x d o) → (BranchesHave S (bound (BindsWithin ys ns)) bs → AreGoodClauses ds bs)
      → BranchesHave S (can_read S M ns) (in_clause (own_clause x o) ++ bs)
      × ((list_all (is_valid_clause (callable S) M) (branch_clauses S ns (in_clause (own_clause x o) ++ bs)) ≡ true)
      × (with_clause S ns o (clauses_reading S ns ds) ≡ branch_clauses S ns (in_clause (own_clause x o) ++ bs)))
  clause-first x d None ds bs h k f = absurd (let e = k.shapes in cc)
  clause-first x d (Some c) ds bs h k f = by_test (bytes_eq (text_of c.function) x) h k
    where
      by_test : (b : Bool) → BranchesHave S (bound (BindsWithin ys ns)) (in_clause (if b then Some c else None) ++ bs)
          → ArePassed S ns (if b then branch_stands S ns true (clause_branch c) else misshaped d ∷ [])
          → BranchesHave S (can_read S M ns) (in_clause (if b then Some c else None) ++ bs)
          × ((list_all (is_valid_clause (callable S) M) (branch_clauses S ns (in_clause (if b then Some c else None) ++ bs)) ≡ true)
          × (branch_clause S ns (clause_branch c) ∷ clauses_reading S ns ds ≡ branch_clauses S ns (in_clause (if b then Some c else None) ++ bs)))
      by_test true h k =
          let g = branch-good S L ys true (clause_branch c) h.0 k in
          let r = f h.1 in (
            (g.0, r.0),
            (
              and_both (is_valid_clause (callable S) M (branch_clause S ns (clause_branch c))) (list_all (is_valid_clause (callable S) M) (branch_clauses S ns bs)) g.1 r.1.0,
              ap (λ (cs : List Clause). branch_clause S ns (clause_branch c) ∷ cs) r.1.1,
            ),
          )
      by_test false h k = absurd (let e = k.shapes in cc)

  clauses-good : (x : List ℕ) (ds : List Sexp) → BranchesHave S (bound (BindsWithin ys ns)) (clause_branches x ds) → ArePassed S ns (clauses_stand S ns x ds) → AreGoodClauses ds (clause_branches x ds)
  clauses-good x [] h k = (tt, (refl, refl))
  clauses-good x (d ∷ ds) h k =
      let p = passed-both S ns (clause_stands S ns x d (clause_form d)) (clauses_stand S ns x ds) k in
      clause-first x d (clause_form d) ds (clause_branches x ds) h p.0 (λ g. clauses-good x ds g p.1)

  -- ---- contracts

  -- closing changes no nonterminals
  closed-known : (ps : Items) → have_known_nonterminals (defined M) (closed_items ps) ≡ have_known_nonterminals (defined M) ps
  closed-known model.nil = refl
  closed-known (model.one p ps) = ap (λ b. has_known_nonterminals (defined M) p && b) (closed-known ps)
  closed-known (model.many p n ps) = ap (λ b. has_known_nonterminals (defined M) p && b) (closed-known ps)

  -- their nonterminals are known, and they fit once they are closed
  abbrev pub AreWell : Items → Type 0
  AreWell ps = (have_known_nonterminals (defined M) ps ≡ true) × (closed_items_fit (closed_items ps) ≡ true)

  -- with one more that is well formed they are so
  pub with-well : (e : Option (Option (List ℕ))) (p : Pattern) (ps : Items) → is_well_formed_in M p ≡ true → AreWell ps → AreWell (with_item (item_slot e p) ps)
  with-well e p ps h k = by_slot e
    where
      known : have_known_nonterminals (defined M) (model.one p ps) ≡ true
      known = and_both (has_known_nonterminals (defined M) p) (have_known_nonterminals (defined M) ps) (and_true (has_known_nonterminals (defined M) p) (has_fitting_names p) h).0 k.0

      fit : closed_items_fit (closed_items (model.one p ps)) ≡ true
      fit = and_both (has_fitting_names p) (closed_items_fit (closed_items ps)) (and_true (has_known_nonterminals (defined M) p) (has_fitting_names p) h).1 k.1

      by_slot : (e : Option (Option (List ℕ))) → AreWell (with_item (item_slot e p) ps)
      by_slot None = (known, fit)
      by_slot (Some n) = (known, fit)

  well-first : (b : Bool) (d : Sexp) (qs : List Sexp) (e : Option (Option (List ℕ))) (ps : Items) → AloneHave (IsPattern M ns) (pattern_when b d ++ qs)
      → (AloneHave (IsPattern M ns) qs → AreWell ps) → AreWell (if b then with_item (item_slot e (reading ns Query d)) ps else ps)
  well-first true d qs e ps h f = with-well e (reading ns Query d) ps h.0.well_formed (f h.1)
  well-first false d qs e ps h f = f h

  -- so are items each pattern of which is well formed by itself
  items-well : (rs : Roles) (ds : Sexps) (qs : List Sexp) → AloneHave (IsPattern M ns) (patterns_among rs ds ++ qs) → AreWell (items_among ns Query rs ds)
  items-well rs nil qs h = (refl, refl)
  items-well rs (cons d ds) qs h =
      well-first (is_pattern (next rs d)) d (patterns_among (rest rs d) ds ++ qs) (ellipsis_behind (rest rs d) ds) (items_among ns Query (rest rs d) ds)
      (subst (AloneHave (IsPattern M ns)) (append_assoc (pattern_when (is_pattern (next rs d)) d) (patterns_among (rest rs d) ds) qs) h)
      (λ g. items-well (rest rs d) ds qs g)

  -- the last of several patterns
  last-good : (rs : Roles) (ds : Sexps) (p : Sexp) → AloneHave (IsPattern M ns) (patterns_among rs ds ++ p ∷ []) → IsPattern M ns (one p)
  last-good rs ds p h = of_last (patterns_among rs ds) h
    where
      of_last : (qs : List Sexp) → AloneHave (IsPattern M ns) (qs ++ p ∷ []) → IsPattern M ns (one p)
      of_last [] k = k.0
      of_last (q ∷ qs) k = of_last qs k.1

  -- uses of length names alone, around which nothing is repeated
  abbrev AreLengths : List Use → Type 0
  AreLengths [] = Unit {0}
  AreLengths (u ∷ us) = ((u.depth ≡ 0) × (u.is_length ≡ true)) × AreLengths us

  -- they agree
  agree-length : (u : Use) (us : List Use) → (u.depth ≡ 0) × (u.is_length ≡ true) → AreLengths us → list_all (agree u) us ≡ true
  agree-length u [] h k = refl
  agree-length u (v ∷ us) h k =
      and_both (agree u v) (list_all (agree u) us) (both_lengths (not (bytes_eq u.name v.name)) u.depth v.depth u.is_length v.is_length h.0 k.0.0 h.1 k.0.1) (agree-length u us h k.1)
    where
      both_lengths : (a : Bool) (m n : ℕ) (b c : Bool) → m ≡ 0 → n ≡ 0 → b ≡ true → c ≡ true → (a || (nat_eq m n && beq b c)) ≡ true
      both_lengths true m n b c e f g h = refl
      both_lengths false m n b c e f g h = λ i. nat_eq (e i) (f i) && beq (g i) (h i)

  agree-lengths : (us : List Use) → AreLengths us → all_agree us ≡ true
  agree-lengths [] h = refl
  agree-lengths (u ∷ us) h = and_both (list_all (agree u) us) (all_agree us) (agree-length u us h.0 h.1) (agree-lengths us h.1)

  shallow-lengths : (us : List Use) → AreLengths us → list_all is_shallow us ≡ true
  shallow-lengths [] h = refl
  shallow-lengths (u ∷ us) h = and_both (nat_lt u.depth 4294967296) (list_all is_shallow us) (ap (λ n. nat_lt n 4294967296) h.0.0) (shallow-lengths us h.1)

  -- closed items make no others
  closed-uses : (ps : Items) → AreLengths (item_uses 0 (closed_items ps))
  closed-uses model.nil = tt
  closed-uses (model.one p ps) = closed-uses ps
  closed-uses (model.many p None ps) = closed-uses ps
  closed-uses (model.many p (Some x) ps) = ((refl, refl), closed-uses ps)

  -- the list pattern of closed items that are well formed by themselves is
  pub closed-well_formed : (ps : Items) → have_known_nonterminals (defined M) ps ≡ true → closed_items_fit (closed_items ps) ≡ true → is_well_formed_in M (seq (closed_items ps)) ≡ true
  closed-well_formed ps e f =
      let p = seq (closed_items ps) in
      let us = item_uses 0 (closed_items ps) in
      and_both (have_known_nonterminals (defined M) (closed_items ps)) (has_fitting_names p) (closed-known ps ∙ e)
      (and_both (has_one_depth_each p) (closed_items_fit (closed_items ps))
      (and_both (all_agree us) (list_all is_shallow us) (agree-lengths us (closed-uses ps)) (shallow-lengths us (closed-uses ps))) f)

  -- the contract of a form is well formed
  contract-good : (o : Option ContractForm) → AloneHave (IsPattern M ns) (contract_patterns o) → IsContractIn M ns o
  contract-good None h = tt
  contract-good (Some c) h =
      let v = reading ns Query c.value in
      let f = and_true (has_known_nonterminals (defined M) v) (has_fitting_names v) (last-good items_of_list (sexps c.arguments) c.value h).well_formed in
      let w = items-well items_of_list (sexps c.arguments) (c.value ∷ []) h in
      record {
        arguments = closed-well_formed (argument_items ns c.arguments) w.0 w.1;
        value = and_both (has_known_nonterminals (defined M) v) (has_fitting_names (closed v)) f.0 f.1;
      }

  contract-valid : (o : Option ContractForm) → IsContractIn M ns o → is_valid_contract M (option_map (contract_reading ns) o) ≡ true
  contract-valid None h = refl
  contract-valid (Some c) h = and_both (is_well_formed_in M (contract_reading ns c).0) (is_well_formed_in M (contract_reading ns c).1) h.arguments h.value

  -- ---- metafunctions

  -- what a form that passes has
  pub record IsGoodMetafunction (m : MetafunctionForm) (f : Sexp) : Type 0 where
    pub branches : BranchesHave S (can_read S M ns) (clause_branches (text_of f) m.clauses)
    pub contract : IsContractIn M ns m.contract
    pub reading : clauses_reading S ns m.clauses ≡ branch_clauses S ns (clause_branches (text_of f) m.clauses)
    pub valid_clauses : list_all (is_valid_clause (callable S) M) (clauses_reading S ns m.clauses) ≡ true
    pub valid_contract : is_valid_contract M (option_map (contract_reading ns) m.contract) ≡ true

  pub metafunction-good : (m : MetafunctionForm) (f : Sexp) → OutlineHas S (bound (BindsWithin ys ns)) (metafunction_outline m (Some f)) → ArePassed S ns (function_stands S ns m (Some f)) → IsGoodMetafunction m f
  metafunction-good m f h k =
      let cs = clauses_stand S ns (text_of f) m.clauses in
      let b = none_both (bad_name (function f)) (bad_names (contract_stands m.contract ++ cs)) k.names in
      let p = passed-both S ns (contract_stands m.contract) cs (record { shapes = k.shapes; made = k.made; names = b.1; places = k.places; depths = k.depths; known = k.known; driving = k.driving; modes = k.modes }) in
      let a = alone-good S L ys (contract_patterns m.contract) h.alone (subst (ArePassed S ns) (contract-lone m.contract) p.0) in
      let c = clauses-good (text_of f) m.clauses h.branches p.1 in
      let o = contract-good m.contract a in
      record {
        branches = c.0;
        contract = o;
        reading = c.1.1;
        valid_clauses = ap (list_all (is_valid_clause (callable S) M)) c.1.1 ∙ c.1.0;
        valid_contract = contract-valid m.contract o;
      }
