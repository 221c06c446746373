-- A closure of a valid relation is valid, where the names of its contexts are free.
use Rattle.std.proofs.Common.{◌≡◌, ◌++◌, ◌∙◌, ℕ, suc, true, false, not, List, [], ◌∷◌, map, refl, sym, ap, subst}
use Rattle.std.proofs.lemmas.Bool.{and_from, and_parts, not-true, or_parts, or_right}
use Rattle.std.proofs.lemmas.List.{map-append}
use Rattle.std.proofs.lemmas.List.Folds.{list_any-append}
use Rattle.std.specs.Cmp.Lexicographic.{bytes_decides}
use Rattle.std.specs.List.{list_all, list_any}
use Rattle.std.specs.Prelude.{◌&&◌, ◌||◌, bytes_eq, nat_lt}
use Rattle.rdx_lang.specs.Closures.{context_name, closed_rule}
use Rattle.rdx_lang.specs.Depths.{Use, uses, name_use}
use Rattle.rdx_lang.specs.Fitting.{Bound, Called, drives, fits, fit, fits_in, fit_in}
use Rattle.rdx_lang.specs.Members.{In}
use Rattle.rdx_lang.specs.Modes.{Callable, fits_mode}
use Rattle.rdx_lang.specs.Patterns.{Pattern, Language, nt, named, in_hole, closed}
use Rattle.rdx_lang.specs.Programs.{Extra, such_as, provided, holds, fresh, Rule}
use Rattle.rdx_lang.specs.Scopes.{binds, bound_by, extra_uses, extras_uses, case_uses}
use Rattle.rdx_lang.specs.Templates.{Template, lit, var, fill, call, host, seq, Items, nil, one, many, Host, term, number, boolean, apply, both, either, Hosts, none, more}
use Rattle.rdx_lang.specs.Valid.{is_used, is_valid_extra, are_valid_extras, is_valid_rule, is_valid_domain}
use Rattle.rdx_lang.specs.WellFormed.{is_well_formed_in}
use Rattle.rdx_lang.specs.declared.pattern.Ref.TheVariants.{Cross}
use Rattle.rdx_lang.proofs.ClosedRules.{rule_in_context-well_formed, nonterminal-well_formed}
use Rattle.rdx_lang.proofs.MemberLaws.{in-map}
use Rattle.rdx_lang.proofs.Passing.{all_pass, member_passes}
use Rattle.rdx_reduce.specs.ClosureLaws.{LeavesAName, LeaveNames}
use Rattle.rdx_reduce.specs.ValidClosures.{ClosureIsValid, CompatibleIsValid}

-- ---- where more names are bound, what fits does

module _ (F : Called) (B D : Bound) (above : (x : List ℕ) (d : ℕ) → B x d ≡ true → D x d ≡ true) where
  mutual
    -- a template
    fits-more : (k : ℕ) (t : Template) → fits F B k t ≡ true → fits F D k t ≡ true
    fits-more k (lit t) e = refl
    fits-more k (var x d) e =
        let p = and_parts (B x d) (not (nat_lt k d)) e in
        and_from (D x d) (not (nat_lt k d)) (above x d p.0) p.1
    fits-more k (fill c t) e =
        let p = and_parts (fits F B k c) (fits F B k t) e in
        and_from (fits F D k c) (fits F D k t) (fits-more k c p.0) (fits-more k t p.1)
    fits-more k (call f ts) e =
        let p = and_parts (F f) (fit F B k ts) e in
        and_from (F f) (fit F D k ts) p.0 (fit-more k ts p.1)
    fits-more k (host h) e = fits_in-more k h e
    fits-more k (seq ts) e = fit-more k ts e

    -- items
    fit-more : (k : ℕ) (ts : Items) → fit F B k ts ≡ true → fit F D k ts ≡ true
    fit-more k nil e = refl
    fit-more k (one t ts) e =
        let p = and_parts (fits F B k t) (fit F B k ts) e in
        and_from (fits F D k t) (fit F D k ts) (fits-more k t p.0) (fit-more k ts p.1)
    fit-more k (many t ts) e =
        let p = and_parts (drives 0 t) (fits F B (suc k) t && fit F B k ts) e in
        let q = and_parts (fits F B (suc k) t) (fit F B k ts) p.1 in
        and_from (drives 0 t) (fits F D (suc k) t && fit F D k ts) p.0
        (and_from (fits F D (suc k) t) (fit F D k ts) (fits-more (suc k) t q.0) (fit-more k ts q.1))

    -- a host expression
    fits_in-more : (k : ℕ) (h : Host) → fits_in F B k h ≡ true → fits_in F D k h ≡ true
    fits_in-more k (term t) e = fits-more k t e
    fits_in-more k (number n) e = refl
    fits_in-more k (boolean b) e = refl
    fits_in-more k (apply op hs) e = fit_in-more k hs e
    fits_in-more k (both hs) e = fit_in-more k hs e
    fits_in-more k (either hs) e = fit_in-more k hs e

    -- several
    fit_in-more : (k : ℕ) (hs : Hosts) → fit_in F B k hs ≡ true → fit_in F D k hs ≡ true
    fit_in-more k none e = refl
    fit_in-more k (more h hs) e =
        let p = and_parts (fits_in F B k h) (fit_in F B k hs) e in
        and_from (fits_in F D k h) (fit_in F D k hs) (fits_in-more k h p.0) (fit_in-more k hs p.1)

  -- several templates
  all-more : (ts : List Template) → list_all (fits F B 0) ts ≡ true → list_all (fits F D 0) ts ≡ true
  all-more [] e = refl
  all-more (t ∷ ts) e =
      let p = and_parts (fits F B 0 t) (list_all (fits F B 0) ts) e in
      and_from (fits F D 0 t) (list_all (fits F D 0) ts) (fits-more 0 t p.0) (all-more ts p.1)

-- ---- one name more, which is none of the others

-- what was bound is
bound-more : (u : Use) (us : List Use) (x : List ℕ) (d : ℕ) → bound_by us x d ≡ true → bound_by (u ∷ us) x d ≡ true
bound-more u us x d e = or_right (binds u x d) (bound_by us x d) e

-- what is none of both lists is none of either
none-of_both : (x : List ℕ) (ys zs : List (List ℕ)) → list_any (bytes_eq x) (ys ++ zs) ≡ false
    → (list_any (bytes_eq x) ys ≡ false) × (list_any (bytes_eq x) zs ≡ false)
none-of_both x ys zs e = or_parts (list_any (bytes_eq x) ys) (list_any (bytes_eq x) zs) (sym (list_any-append (bytes_eq x) ys zs) ∙ e)

-- the names of uses
abbrev names : List Use → List (List ℕ)
names us = map (λ u. u.name) us

module _ (C : Callable) (L : Language) (x : List ℕ) where
  -- an extra behind it
  extra-more : (us : List Use) (e : Extra) → list_any (bytes_eq x) (names (extra_uses e)) ≡ false → is_valid_extra C L us e ≡ true
      → is_valid_extra C L (name_use 0 x ∷ us) e ≡ true
  extra-more us (such_as p t) f v =
      let F = C.functions in
      let vs = name_use 0 x ∷ us in
      let k = and_parts (is_well_formed_in L p) (fits F (bound_by us) 0 t) v in
      and_from (is_well_formed_in L p) (fits F (bound_by vs) 0 t) k.0 (fits-more F (bound_by us) (bound_by vs) (bound-more (name_use 0 x) us) 0 t k.1)
  extra-more us (provided h) f v =
      fits_in-more C.functions (bound_by us) (bound_by (name_use 0 x ∷ us)) (bound-more (name_use 0 x) us) 0 h v
  extra-more us (holds q) f v =
      let F = C.functions in
      let vs = name_use 0 x ∷ us in
      let k = and_parts (fits_mode (C.modes q.judgement) q) (list_all (fits F (bound_by us) 0) q.inputs && is_well_formed_in L q.outputs) v in
      let l = and_parts (list_all (fits F (bound_by us) 0) q.inputs) (is_well_formed_in L q.outputs) k.1 in
      and_from (fits_mode (C.modes q.judgement) q) (list_all (fits F (bound_by vs) 0) q.inputs && is_well_formed_in L q.outputs) k.0
      (and_from (list_all (fits F (bound_by vs) 0) q.inputs) (is_well_formed_in L q.outputs)
      (all-more F (bound_by us) (bound_by vs) (bound-more (name_use 0 x) us) q.inputs l.0) l.1)
  extra-more us (fresh y) f v =
      ap not ((λ i. (or_parts (bytes_eq x y) false f).0 i || is_used us y) ∙ not-true (is_used us y) v)

  -- extras behind it
  extras-more : (us : List Use) (es : List Extra) → list_any (bytes_eq x) (names (extras_uses es)) ≡ false → are_valid_extras C L us es ≡ true
      → are_valid_extras C L (name_use 0 x ∷ us) es ≡ true
  extras-more us [] f v = refl
  extras-more us (e ∷ es) f v =
      let vs = name_use 0 x ∷ us in
      let free = none-of_both x (names (extra_uses e)) (names (extras_uses es))
      (ap (list_any (bytes_eq x)) (sym (map-append (λ (u : Use). u.name) (extra_uses e) (extras_uses es))) ∙ f) in
      let k = and_parts (is_valid_extra C L us e) (are_valid_extras C L (us ++ extra_uses e) es) v in
      and_from (is_valid_extra C L vs e) (are_valid_extras C L (vs ++ extra_uses e) es) (extra-more us e free.0 k.0)
      (extras-more (us ++ extra_uses e) es free.1 k.1)

-- ---- closures

-- a name by itself, where it is bound
bound-here : (x : List ℕ) (us : List Use) → bound_by (name_use 0 x ∷ us) x 0 ≡ true
bound-here x us = λ i. ((bytes_decides x x).1 refl i && true) || bound_by us x 0

-- a rule in contexts of a pattern
closed_rule-valid : (C : Callable) (L : Language) (p : Pattern) (r : Rule) → is_well_formed_in L p ≡ true → LeavesAName r
    → is_valid_rule C L r ≡ true → is_valid_rule C L (closed_rule p r) ≡ true
closed_rule-valid C L p r w f v =
    let F = C.functions in
    let x = context_name r in
    let us = uses 0 r.pattern in
    let all = case_uses r.pattern r.extras in
    let u = name_use 0 x in
    let q = in_hole (named x (closed p)) r.pattern in
    let a = and_parts (is_well_formed_in L r.pattern) (are_valid_extras C L us r.extras && fits F (bound_by all) 0 r.result) v in
    let b = and_parts (are_valid_extras C L us r.extras) (fits F (bound_by all) 0 r.result) a.1 in
    let free = none-of_both x (names us) (names (extras_uses r.extras))
    (ap (list_any (bytes_eq x)) (sym (map-append (λ (w : Use). w.name) us (extras_uses r.extras))) ∙ f) in
    and_from (is_well_formed_in L q) (are_valid_extras C L (u ∷ us) r.extras && fits F (bound_by (u ∷ all)) 0 (fill (var x 0) r.result))
    (rule_in_context-well_formed L p r x w a.0 f)
    (and_from (are_valid_extras C L (u ∷ us) r.extras) (fits F (bound_by (u ∷ all)) 0 (fill (var x 0) r.result))
    (extras-more C L x us r.extras free.1 b.0)
    (and_from (fits F (bound_by (u ∷ all)) 0 (var x 0)) (fits F (bound_by (u ∷ all)) 0 r.result)
    (and_from (bound_by (u ∷ all) x 0) true (bound-here x all) refl)
    (fits-more F (bound_by all) (bound_by (u ∷ all)) (bound-more u all) 0 r.result b.1)))

-- all rules
closed_rules-valid : (C : Callable) (L : Language) (p : Pattern) (rs : List Rule) → is_well_formed_in L p ≡ true → LeaveNames rs
    → list_all (is_valid_rule C L) rs ≡ true → list_all (is_valid_rule C L) (map (closed_rule p) rs) ≡ true
closed_rules-valid C L p rs w f v = all_pass (is_valid_rule C L) (map (closed_rule p) rs) each
  where
    each : (s : Rule) → In s (map (closed_rule p) rs) → is_valid_rule C L s ≡ true
    each s i =
        let k = in-map (closed_rule p) rs s i in
        subst (λ (t : Rule). is_valid_rule C L t ≡ true) (sym k.2)
        (closed_rule-valid C L p k.0 w (f k.0 k.1) (member_passes (is_valid_rule C L) k.0 rs v k.1))

-- a closure of a relation over a language
pub closure_is_valid : ClosureIsValid
closure_is_valid C L p x R w f v =
    let k = and_parts (is_valid_domain L R.domain) (list_all (is_valid_rule C L) R.rules) v in
    and_from (is_valid_domain L R.domain) (list_all (is_valid_rule C L) (map (closed_rule p) R.rules)) k.0 (closed_rules-valid C L p R.rules w f k.1)

-- by the contexts of a nonterminal in itself
pub compatible_is_valid : CompatibleIsValid
compatible_is_valid C L e x R h = closure_is_valid C L (nt (Cross e e)) x R (nonterminal-well_formed L (Cross e e) h)
