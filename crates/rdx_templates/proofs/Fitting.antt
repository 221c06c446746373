-- What is read where no check refuses fits the names that are bound.
use Rattle.std.proofs.Common.{◌≡◌, ◌++◌, ◌∙◌, ℕ, suc, Bool, true, false, List, [], ◌∷◌, Option, Some, None, refl, sym, if◌then◌else◌}
use Rattle.std.proofs.lemmas.Grind.{flat_map-append}
use Rattle.std.specs.Prelude.{◌&&◌, not, flat_map, nat_lt, option_map, is_some, codes}
use Rattle.rdx_sexp.specs.Sexp.{Sexp, Sexps, leaf, list, nil, cons, integer, truth, text, symbol, keyword}
use Rattle.rdx_term.specs.Spelling.{is_name}
use Rattle.rdx_term.specs.Tree as tree
use Rattle.rdx_lang.specs.Fitting.{drives, fits, fit, fits_in, fit_in}
use Rattle.rdx_lang.specs.Templates as model
use Rattle.rdx_lang.specs.Templates.{Template, lit, Items, Hosts}
use Rattle.rdx_patterns.specs.Heads.{Roles, item, every, word, pattern, next, rest, is_repeated}
use Rattle.rdx_patterns.specs.Names.{begins_with_dots}
use Rattle.rdx_patterns.specs.Occurrences.{deeper}
use Rattle.rdx_patterns.specs.Parts.{is_symbol, is_word, text_of}
use Rattle.rdx_patterns.specs.PatternChecks.{when}
use Rattle.rdx_patterns.specs.Reading.{is_pattern}
use Rattle.rdx_patterns.specs.Refusal.{unnamed, named}
use Rattle.rdx_patterns.specs.declared.shape.fault.DefKind.TheVariants.{Shape, BadPattern, EllipsisDepth, EllipsisVariable, RacketEscape}
use Rattle.rdx_patterns.proofs.Booleans.{and_true, and_both, and_not_both}
use Rattle.rdx_patterns.proofs.Firsts.{none_both, none_first, none_of}
use Rattle.rdx_templates.specs.Bound.{Bound, depth_of, is_bound}
use Rattle.rdx_templates.specs.Earliest.{earliest, start}
use Rattle.rdx_templates.specs.HostHeads.{HostHead, quoting, applying, all_of, some_of, miscounted, foreign, host_head}
use Rattle.rdx_templates.specs.Scope.{Scope, has_metafunction}
use Rattle.rdx_templates.specs.TemplateChecks.{bad_part, bad_parts, are_fewer, shallow_part, shallow_parts, undriven_part, undriven_parts, escapes}
use Rattle.rdx_templates.specs.TemplateHeads.{TemplateHead, filling, evaluating, splicing, calling, listing, is_pair, is_triple, is_called, template_head, template_roles}
use Rattle.rdx_templates.specs.TemplateOccurrences.{TemplatePart, listed_parts, host_listed_parts, template_parts, parts_among, host_parts, host_parts_among, host_parts_behind}
use Rattle.rdx_templates.specs.TemplateReading.{by_depth, symbol_template, with_template, filled_by, hosted, quoted, head_text, assembled_template, assembled_host, template_reading, templates_among, host_reading, hosts_among, hosts_behind}
use Rattle.rdx_templates.specs.TemplateRefusal.{parts_refusal, template_refusal, host_refusal}
use Rattle.rdx_templates.specs.TemplateShapes.{template_shapes, host_shapes}
use Rattle.rdx_templates.proofs.Depths.{depth-bound}
use Rattle.rdx_templates.proofs.EarliestPlaces.{earliest-none}
use Rattle.rdx_templates.proofs.ItemTests.{item_parts}

-- where nothing comes of two lists, nothing comes of either
none_of_both : (f : TemplatePart → List Sexp) (ps qs : List TemplatePart) → flat_map f (ps ++ qs) ≡ [] → (flat_map f ps ≡ []) × (flat_map f qs ≡ [])
none_of_both f ps qs e = none_both (flat_map f ps) (flat_map f qs) (sym (flat_map-append f ps qs) ∙ e)

-- the contrary doesn't hold
not_false : (b : Bool) → not b ≡ false → b ≡ true
not_false true e = refl
not_false false e = absurd cc

-- a test fails where nothing comes of it
when_none : (b : Bool) (d : Sexp) → when b d ++ [] ≡ [] → b ≡ false
when_none b d e = (none_first b d [] e).0

-- no call but of a metafunction
calling_called : (a b c e : Bool) → (let h : TemplateHead = if a then filling else if b then evaluating else if c then splicing else if e then calling else listing in h) ≡ calling → e ≡ true
calling_called true b c e h = absurd cc
calling_called false true c e h = absurd cc
calling_called false false true e h = absurd cc
calling_called false false false true h = refl
calling_called false false false false h = absurd cc

calling_known : (S : Scope) (bs : Bound) (ds : Sexps) → template_head S bs ds ≡ calling → has_metafunction S (head_text ds) ≡ true
calling_known S bs nil h = absurd cc
calling_known S bs (cons d ds) h =
    let unbound = not (is_some (depth_of bs (text_of d))) in
    let f = has_metafunction S (text_of d) in
    let c = calling_called (is_word (codes "in-hole") d) (is_word (codes "unquote") d && is_pair (cons d ds)) (is_word (codes "unquote-splicing") d) (is_called S bs d) h in
    (and_true unbound f (and_true (is_symbol d) (unbound && f) c).1).1

-- so may the names be that are bound: a name that can stand in a template is bound with its depth
module _ (S : Scope) (bs : Bound) (B : List ℕ → ℕ → Bool) (bound : (x : List ℕ) (m : ℕ) → depth_of bs x ≡ Some m → begins_with_dots x ≡ false → B x m ≡ true) where
  -- which names are those of metafunctions
  abbrev F : List ℕ → Bool
  F x = has_metafunction S x

  -- no check refuses these
  pub record Passes (ps : List TemplatePart) : Type 0 where
    pub bad : bad_parts ps ≡ []
    pub shallow : shallow_parts bs ps ≡ []
    pub undriven : undriven_parts S bs ps ≡ []

  -- and so neither of two parts of them
  passes_both : (ps qs : List TemplatePart) → Passes (ps ++ qs) → Passes ps × Passes qs
  passes_both ps qs p =
      let a = none_of_both bad_part ps qs p.bad in
      let e = none_of_both (shallow_part bs) ps qs p.shallow in
      let g = none_of_both (undriven_part S bs) ps qs p.undriven in
      (record { bad = a.0; shallow = e.0; undriven = g.0 }, record { bad = a.1; shallow = e.1; undriven = g.1 })

  -- ---- symbols

  -- a name, by its depth
  name_fits : (n : ℕ) (x : List ℕ) (d : Sexp) (o : Option ℕ) → depth_of bs x ≡ o → begins_with_dots x ≡ false → when (are_fewer n o) d ++ [] ≡ [] → fits F B n (by_depth x o) ≡ true
  name_fits n x d None e g f = refl
  name_fits n x d (Some m) e g f = and_not_both (B x m) (nat_lt n m) (bound x m e g) (none_first (nat_lt n m) d [] f).0

  -- each symbol
  symbol_fits : (n : ℕ) (x : List ℕ) (d : Sexp) → begins_with_dots x ≡ false → when (are_fewer n (depth_of bs x)) d ++ [] ≡ [] → fits F B n (symbol_template bs x) ≡ true
  symbol_fits n x d g f = by_test (is_name x)
    where
      by_test : (b : Bool) → fits F B n (if b then by_depth x (depth_of bs x) else lit tree.hole) ≡ true
      by_test true = name_fits n x d (depth_of bs x) refl g f
      by_test false = refl

  -- ---- lists

  -- two items, the first a context
  filled_fits : (n : ℕ) (ts : Items) → fit F B n ts ≡ true → fits F B n (filled_by ts) ≡ true
  filled_fits n model.nil e = refl
  filled_fits n (model.one c model.nil) e = refl
  filled_fits n (model.one c (model.one t model.nil)) e =
      let k = and_true (fits F B n c) (fits F B n t && true) e in
      and_both (fits F B n c) (fits F B n t) k.0 (and_true (fits F B n t) true k.1).0
  filled_fits n (model.one c (model.one t (model.one u ts))) e = refl
  filled_fits n (model.one c (model.one t (model.many u ts))) e = refl
  filled_fits n (model.one c (model.many t ts)) e = refl
  filled_fits n (model.many c ts) e = refl

  -- one host expression
  hosted_fits : (n : ℕ) (hs : Hosts) → fit_in F B n hs ≡ true → fits F B n (hosted hs) ≡ true
  hosted_fits n model.none e = refl
  hosted_fits n (model.more h model.none) e = (and_true (fits_in F B n h) true e).0
  hosted_fits n (model.more h (model.more g hs)) e = refl

  -- one template
  quoted_fits : (n : ℕ) (ts : Items) → fit F B n ts ≡ true → fits_in F B n (quoted ts) ≡ true
  quoted_fits n model.nil e = refl
  quoted_fits n (model.one t model.nil) e = (and_true (fits F B n t) true e).0
  quoted_fits n (model.one t (model.one u ts)) e = refl
  quoted_fits n (model.one t (model.many u ts)) e = refl
  quoted_fits n (model.many t ts) e = refl

  -- a list with this head
  listed_fits : (n : ℕ) (h : TemplateHead) (b : Bool) (d : Sexp) (ps qs : List TemplatePart) (f : List ℕ) (ts : Items) (hs : Hosts) → (h ≡ calling → F f ≡ true)
      → (Passes ps → fit F B n ts ≡ true) → (Passes qs → fit_in F B n hs ≡ true) → Passes (listed_parts h b d ps qs)
      → fits F B n (assembled_template h f ts hs) ≡ true
  listed_fits n filling true d ps qs f ts hs k a e p = filled_fits n ts (a p)
  listed_fits n filling false d ps qs f ts hs k a e p = let x : d ∷ [] ≡ [] = p.bad in absurd cc
  listed_fits n evaluating b d ps qs f ts hs k a e p = hosted_fits n hs (e p)
  listed_fits n splicing b d ps qs f ts hs k a e p = refl
  listed_fits n calling b d ps qs f ts hs k a e p = and_both (F f) (fit F B n ts) (k refl) (a p)
  listed_fits n listing b d ps qs f ts hs k a e p = a p

  -- a list with this head as a host expression
  host_listed_fits : (n : ℕ) (h : HostHead) (d : Sexp) (ps qs : List TemplatePart) (ts : Items) (hs : Hosts)
      → (Passes ps → fit F B n ts ≡ true) → (Passes qs → fit_in F B n hs ≡ true) → Passes (host_listed_parts h d ps qs)
      → fits_in F B n (assembled_host h ts hs) ≡ true
  host_listed_fits n quoting d ps qs ts hs a e p = quoted_fits n ts (a p)
  host_listed_fits n (applying op) d ps qs ts hs a e p = e p
  host_listed_fits n all_of d ps qs ts hs a e p = e p
  host_listed_fits n some_of d ps qs ts hs a e p = e p
  host_listed_fits n miscounted d ps qs ts hs a e p = refl
  host_listed_fits n foreign d ps qs ts hs a e p = refl

  -- an item that may be a template, before others
  item_fits : (n : ℕ) (b r : Bool) (d : Sexp) (ts : Items)
      → (Passes (template_parts S bs (deeper r n) d) → fits F B (deeper r n) (template_reading S bs d) ≡ true)
      → Passes (item_parts S bs n b r d) → fit F B n ts ≡ true
      → fit F B n (if b then with_template r (template_reading S bs d) ts else ts) ≡ true
  item_fits n true true d ts f p k =
      let t = template_reading S bs d in
      let h = none_first (not (drives 0 t)) d (undriven_parts S bs (template_parts S bs (suc n) d)) p.undriven in
      and_both (drives 0 t) (fits F B (suc n) t && fit F B n ts) (not_false (drives 0 t) h.0)
      (and_both (fits F B (suc n) t) (fit F B n ts) (f (record { bad = p.bad; shallow = p.shallow; undriven = h.1 })) k)
  item_fits n true false d ts f p k = and_both (fits F B n (template_reading S bs d)) (fit F B n ts) (f p) k
  item_fits n false r d ts f p k = k

  mutual
    -- a datum around which n ellipses stand
    pub template_fits : (n : ℕ) (d : Sexp) → Passes (template_parts S bs n d) → fits F B n (template_reading S bs d) ≡ true
    template_fits n (leaf (integer z) s) p = refl
    template_fits n (leaf (truth b) s) p = refl
    template_fits n (leaf (text t) s) p = refl
    template_fits n (leaf (symbol x) s) p = symbol_fits n x (leaf (symbol x) s) (when_none (begins_with_dots x) (leaf (symbol x) s) p.bad) p.shallow
    template_fits n (leaf (keyword k) s) p = refl
    template_fits n (list ds s) p =
        let h = template_head S bs ds in
        let rs = template_roles h in
        listed_fits n h (is_triple ds) (list ds s) (parts_among S bs n rs ds) (host_parts_behind S bs n ds) (head_text ds) (templates_among S bs rs ds) (hosts_behind S bs ds)
        (calling_known S bs ds) (λ q. among_fits n rs ds q) (λ q. behind_fits n ds q) p

    -- items in these roles
    among_fits : (n : ℕ) (rs : Roles) (ds : Sexps) → Passes (parts_among S bs n rs ds) → fit F B n (templates_among S bs rs ds) ≡ true
    among_fits n rs nil p = refl
    among_fits n rs (cons d ds) p =
        let b = is_pattern (next rs d) in
        let r = is_repeated (rest rs d) ds in
        let q = passes_both (item_parts S bs n b r d) (parts_among S bs n (rest rs d) ds) p in
        item_fits n b r d (templates_among S bs (rest rs d) ds) (λ a. template_fits (deeper r n) d a) q.0 (among_fits n (rest rs d) ds q.1)

    -- a host expression
    pub host_fits : (n : ℕ) (d : Sexp) → Passes (host_parts S bs n d) → fits_in F B n (host_reading S bs d) ≡ true
    host_fits n (leaf (integer z) s) p = refl
    host_fits n (leaf (truth b) s) p = refl
    host_fits n (leaf (text t) s) p = refl
    host_fits n (leaf (symbol x) s) p = refl
    host_fits n (leaf (keyword k) s) p = refl
    host_fits n (list ds s) p =
        let rs = item word (every pattern) in
        host_listed_fits n (host_head ds) (list ds s) (parts_among S bs n rs ds) (host_parts_behind S bs n ds) (templates_among S bs rs ds) (hosts_behind S bs ds)
        (λ q. among_fits n rs ds q) (λ q. behind_fits n ds q) p

    -- host expressions
    hosts_fit : (n : ℕ) (ds : Sexps) → Passes (host_parts_among S bs n ds) → fit_in F B n (hosts_among S bs ds) ≡ true
    hosts_fit n nil p = refl
    hosts_fit n (cons d ds) p =
        let q = passes_both (host_parts S bs n d) (host_parts_among S bs n ds) p in
        and_both (fits_in F B n (host_reading S bs d)) (fit_in F B n (hosts_among S bs ds)) (host_fits n d q.0) (hosts_fit n ds q.1)

    -- host expressions behind a head
    behind_fits : (n : ℕ) (ds : Sexps) → Passes (host_parts_behind S bs n ds) → fit_in F B n (hosts_behind S bs ds) ≡ true
    behind_fits n nil p = refl
    behind_fits n (cons d ds) p = hosts_fit n ds p

-- ---- refusals

module _ (S : Scope) (bs : Bound) where
  -- a name has the depth with which it is bound
  first_depth : (x : List ℕ) (m : ℕ) → depth_of bs x ≡ Some m → begins_with_dots x ≡ false → is_bound bs x m ≡ true
  first_depth x m f g = depth-bound bs x m f

  -- where no check refuses, each lets all pass
  passed : (ds : List Sexp) (ps : List TemplatePart) → parts_refusal S bs ds ps ≡ None → Passes S bs (is_bound bs) first_depth ps
  passed ds ps e =
      let shape = option_map (unnamed Shape) (earliest start ds) in
      let bad = option_map (unnamed BadPattern) (earliest start (bad_parts ps)) in
      let shallow = option_map (named EllipsisDepth) (earliest start (shallow_parts bs ps)) in
      let undriven = option_map (unnamed EllipsisVariable) (earliest start (undriven_parts S bs ps)) in
      let escaped = option_map (unnamed RacketEscape) (earliest start (escapes ps)) in
      let later = none_of shape (bad ∷ shallow ∷ undriven ∷ escaped ∷ []) e in
      let deep = none_of bad (shallow ∷ undriven ∷ escaped ∷ []) later.1 in
      let driven = none_of shallow (undriven ∷ escaped ∷ []) deep.1 in
      let last = none_of undriven (escaped ∷ []) driven.1 in
      record {
        bad = earliest-none start (unnamed BadPattern) (bad_parts ps) deep.0;
        shallow = earliest-none start (named EllipsisDepth) (shallow_parts bs ps) driven.0;
        undriven = earliest-none start (unnamed EllipsisVariable) (undriven_parts S bs ps) last.0;
      }

  -- a datum that no check refuses as a template
  pub passed-fits : (d : Sexp) → template_refusal S bs d ≡ None → fits (has_metafunction S) (is_bound bs) 0 (template_reading S bs d) ≡ true
  passed-fits d e =
      let ps = template_parts S bs 0 d in
      template_fits S bs (is_bound bs) first_depth 0 d (passed (template_shapes d) ps e)

  -- and as a host expression
  pub passed_host-fits : (d : Sexp) → host_refusal S bs d ≡ None → fits_in (has_metafunction S) (is_bound bs) 0 (host_reading S bs d) ≡ true
  passed_host-fits d e =
      let ps = host_parts S bs 0 d in
      host_fits S bs (is_bound bs) first_depth 0 d (passed (host_shapes d) ps e)
