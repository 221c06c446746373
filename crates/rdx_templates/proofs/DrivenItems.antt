-- How far the items of a list reach, and the earliest of them that drives no ellipsis behind it.
use Rattle.std.proofs.Common.{◌≡◌, ◌++◌, ◌∙◌, ℕ, zero, suc, ◌+◌, ◌<◌, length, drop, get_or, max, Bool, true, false, List, [], Option, refl, sym, ap, arith, ne_eqb, if◌then◌else◌}
use Rattle.std.proofs.lemmas.Bool.{lt-ltb}
use Rattle.std.proofs.lemmas.Grind.{flat_map-append}
use Rattle.std.specs.Prelude.{not, nat_eq, nat_lt}
use Rattle.rdx_sexp.specs.Sexp.{Sexp, Sexps, leaf, list, nil, cons, sexps, integer, truth, text, symbol, keyword}
use Rattle.rdx_lang.specs.Fitting.{drives}
use Rattle.rdx_lang.specs.Templates.{Template, Items}
use Rattle.rdx_patterns.specs.Heads.{Roles, item, every, word, pattern, next, rest, is_repeated}
use Rattle.rdx_patterns.specs.Occurrences.{deeper}
use Rattle.rdx_patterns.specs.PatternChecks.{when}
use Rattle.rdx_patterns.specs.Reading.{is_pattern}
use Rattle.rdx_templates.specs.Bound.{Bound}
use Rattle.rdx_templates.specs.Earliest.{earliest, lesser, start}
use Rattle.rdx_templates.specs.HostHeads.{HostHead, quoting, applying, all_of, some_of, miscounted, foreign, host_head}
use Rattle.rdx_templates.specs.Reach.{reach, reach_among, reach_in, reach_in_all, outside, is_undriven}
use Rattle.rdx_templates.specs.Scope.{Scope}
use Rattle.rdx_templates.specs.TemplateChecks.{undriven_part, undriven_parts}
use Rattle.rdx_templates.specs.TemplateHeads.{TemplateHead, filling, evaluating, splicing, calling, listing, template_head, template_roles, is_triple}
use Rattle.rdx_templates.specs.TemplateOccurrences.{TemplatePart, repeated_when, listed_parts, host_listed_parts, template_parts, parts_among, host_parts, host_parts_among, host_parts_behind}
use Rattle.rdx_templates.specs.TemplateReading.{with_template, template_reading, templates_among, host_reading, hosts_among}
use Rattle.rdx_patterns.proofs.Rests.{drop-at}
use Rattle.rdx_templates.proofs.EarliestPlaces.{earliest_append}
use Rattle.rdx_templates.proofs.ItemTests.{item_parts, parts-at, templates-template, templates-other}
use Rattle.rdx_templates.proofs.Reaching.{drives-reach}

-- ---- reaching

-- what reaches no ellipsis drives none
none_driven : (n : ℕ) → not (nat_lt 0 n) ≡ nat_eq n 0
none_driven zero = refl
none_driven (suc n) = ap not (lt-ltb 0 (suc n) (omega arith)) ∙ sym (ne_eqb (suc n) 0 (omega arith))

-- an item before others
with-reach : (r : Bool) (t : Template) (ts : Items) → reach_among (with_template r t ts) ≡ max (outside r (reach t)) (reach_among ts)
with-reach true t ts = refl
with-reach false t ts = refl

-- the greatest of three, grouped otherwise
pub max-assoc : (a b c : ℕ) → max (max a b) c ≡ max a (max b c)
max-assoc a b c = omega arith

module _ (S : Scope) (bs : Bound) where
  -- from a template on
  pub reach-template : (rs : Roles) (ds : List Sexp) (i : ℕ) (d : Sexp) → i < length ds → d ≡ get_or ds i d → is_pattern (next rs d) ≡ true
      → reach_among (templates_among S bs rs (sexps (drop i ds)))
      ≡ max (outside (is_repeated (rest rs d) (sexps (drop (i + 1) ds))) (reach (template_reading S bs d))) (reach_among (templates_among S bs (rest rs d) (sexps (drop (i + 1) ds))))
  reach-template rs ds i d h e f =
      ap reach_among (templates-template S bs rs ds i d h e f)
      ∙ with-reach (is_repeated (rest rs d) (sexps (drop (i + 1) ds))) (template_reading S bs d) (templates_among S bs (rest rs d) (sexps (drop (i + 1) ds)))

  -- from another item on
  pub reach-other : (rs : Roles) (ds : List Sexp) (i : ℕ) (d : Sexp) → i < length ds → d ≡ get_or ds i d → is_pattern (next rs d) ≡ false
      → reach_among (templates_among S bs rs (sexps (drop i ds))) ≡ reach_among (templates_among S bs (rest rs d) (sexps (drop (i + 1) ds)))
  reach-other rs ds i d h e f = ap reach_among (templates-other S bs rs ds i d h e f)

  -- from a host expression on
  pub reach-host : (ds : List Sexp) (i : ℕ) (d : Sexp) → i < length ds → d ≡ get_or ds i d
      → reach_in_all (hosts_among S bs (sexps (drop i ds))) ≡ max (reach_in (host_reading S bs d)) (reach_in_all (hosts_among S bs (sexps (drop (i + 1) ds))))
  reach-host ds i d h e = ap (λ es. reach_in_all (hosts_among S bs (sexps es))) (drop-at ds i d h e)

  -- ---- undriven items, whatever the ellipses around the template are

  -- those among these
  abbrev undriven : List TemplatePart → List Sexp
  undriven ps = undriven_parts S bs ps

  -- of two lists of things
  both_undriven : (ps qs us vs : List TemplatePart) → undriven ps ≡ undriven qs → undriven us ≡ undriven vs → undriven (ps ++ us) ≡ undriven (qs ++ vs)
  both_undriven ps qs us vs e f = flat_map-append (undriven_part S bs) ps us ∙ (λ i. e i ++ f i) ∙ sym (flat_map-append (undriven_part S bs) qs vs)

  -- a list with this head
  listed_undriven : (h : TemplateHead) (b : Bool) (d : Sexp) (ts us hs gs : List TemplatePart) → undriven ts ≡ undriven us → undriven hs ≡ undriven gs
      → undriven (listed_parts h b d ts hs) ≡ undriven (listed_parts h b d us gs)
  listed_undriven filling true d ts us hs gs e f = e
  listed_undriven filling false d ts us hs gs e f = refl
  listed_undriven evaluating b d ts us hs gs e f = f
  listed_undriven splicing b d ts us hs gs e f = refl
  listed_undriven calling b d ts us hs gs e f = e
  listed_undriven listing b d ts us hs gs e f = e

  -- a list with this head as a host expression
  host_listed_undriven : (h : HostHead) (d : Sexp) (ts us hs gs : List TemplatePart) → undriven ts ≡ undriven us → undriven hs ≡ undriven gs
      → undriven (host_listed_parts h d ts hs) ≡ undriven (host_listed_parts h d us gs)
  host_listed_undriven quoting d ts us hs gs e f = e
  host_listed_undriven (applying op) d ts us hs gs e f = f
  host_listed_undriven all_of d ts us hs gs e f = f
  host_listed_undriven some_of d ts us hs gs e f = f
  host_listed_undriven miscounted d ts us hs gs e f = refl
  host_listed_undriven foreign d ts us hs gs e f = refl

  -- an item that may be a template
  item_undriven : (b r : Bool) (d : Sexp) (ps qs : List TemplatePart) → undriven ps ≡ undriven qs
      → undriven (if b then repeated_when r d ++ ps else []) ≡ undriven (if b then repeated_when r d ++ qs else [])
  item_undriven true r d ps qs e = both_undriven (repeated_when r d) (repeated_when r d) ps qs refl e
  item_undriven false r d ps qs e = refl

  mutual
    -- in a template
    pub undriven-anywhere : (m n : ℕ) (d : Sexp) → undriven (template_parts S bs m d) ≡ undriven (template_parts S bs n d)
    undriven-anywhere m n (leaf (integer z) s) = refl
    undriven-anywhere m n (leaf (truth b) s) = refl
    undriven-anywhere m n (leaf (text t) s) = refl
    undriven-anywhere m n (leaf (symbol x) s) = refl
    undriven-anywhere m n (leaf (keyword k) s) = refl
    undriven-anywhere m n (list ds s) =
        let h = template_head S bs ds in
        let rs = template_roles h in
        listed_undriven h (is_triple ds) (list ds s) (parts_among S bs m rs ds) (parts_among S bs n rs ds)
        (host_parts_behind S bs m ds) (host_parts_behind S bs n ds) (among-anywhere m n rs ds) (behind-anywhere m n ds)

    -- in items in these roles
    among-anywhere : (m n : ℕ) (rs : Roles) (ds : Sexps) → undriven (parts_among S bs m rs ds) ≡ undriven (parts_among S bs n rs ds)
    among-anywhere m n rs nil = refl
    among-anywhere m n rs (cons d ds) =
        let b = is_pattern (next rs d) in
        let r = is_repeated (rest rs d) ds in
        both_undriven (item_parts S bs m b r d) (item_parts S bs n b r d) (parts_among S bs m (rest rs d) ds) (parts_among S bs n (rest rs d) ds)
        (item_undriven b r d (template_parts S bs (deeper r m) d) (template_parts S bs (deeper r n) d) (undriven-anywhere (deeper r m) (deeper r n) d))
        (among-anywhere m n (rest rs d) ds)

    -- in a host expression
    host-anywhere : (m n : ℕ) (d : Sexp) → undriven (host_parts S bs m d) ≡ undriven (host_parts S bs n d)
    host-anywhere m n (leaf a s) = refl
    host-anywhere m n (list ds s) =
        let rs = item word (every pattern) in
        host_listed_undriven (host_head ds) (list ds s) (parts_among S bs m rs ds) (parts_among S bs n rs ds)
        (host_parts_behind S bs m ds) (host_parts_behind S bs n ds) (among-anywhere m n rs ds) (behind-anywhere m n ds)

    -- in host expressions
    hosts-anywhere : (m n : ℕ) (ds : Sexps) → undriven (host_parts_among S bs m ds) ≡ undriven (host_parts_among S bs n ds)
    hosts-anywhere m n nil = refl
    hosts-anywhere m n (cons d ds) =
        both_undriven (host_parts S bs m d) (host_parts S bs n d) (host_parts_among S bs m ds) (host_parts_among S bs n ds) (host-anywhere m n d) (hosts-anywhere m n ds)

    -- in host expressions behind a head
    behind-anywhere : (m n : ℕ) (ds : Sexps) → undriven (host_parts_behind S bs m ds) ≡ undriven (host_parts_behind S bs n ds)
    behind-anywhere m n nil = refl
    behind-anywhere m n (cons d ds) = hosts-anywhere m n ds

  -- ---- the earliest undriven item

  -- the earliest of two lists of things, one behind the other
  earliest_both : (ps qs : List TemplatePart) → earliest start (undriven (ps ++ qs)) ≡ lesser start (earliest start (undriven ps)) (earliest start (undriven qs))
  earliest_both ps qs = ap (earliest start) (flat_map-append (undriven_part S bs) ps qs) ∙ earliest_append start (undriven ps) (undriven qs)

  -- an item by itself
  item_by_itself : (r : Bool) (d : Sexp) → earliest start (undriven (repeated_when r d)) ≡ earliest start (when (is_undriven r (reach (template_reading S bs d))) d)
  item_by_itself true d =
      let t = template_reading S bs d in
      earliest_of_one (not (drives 0 t)) d ∙ ap (λ (b : Bool). earliest start (when b d)) (ap not (drives-reach 0 t) ∙ none_driven (reach t))
    where
      earliest_of_one : (b : Bool) (e : Sexp) → earliest start (when b e ++ []) ≡ earliest start (when b e)
      earliest_of_one true e = refl
      earliest_of_one false e = refl
  item_by_itself false d = refl

  -- an item that is a template, before others
  earliest_item : (b r : Bool) (d : Sexp) (ps : List TemplatePart) → b ≡ true
      → earliest start (undriven (item_parts S bs 0 b r d ++ ps))
      ≡ lesser start (lesser start (earliest start (when (is_undriven r (reach (template_reading S bs d))) d)) (earliest start (undriven (template_parts S bs 0 d)))) (earliest start (undriven ps))
  earliest_item true r d ps e =
      earliest_both (repeated_when r d ++ template_parts S bs (deeper r 0) d) ps
      ∙ ap (λ (o : Option Sexp). lesser start o (earliest start (undriven ps)))
      (earliest_both (repeated_when r d) (template_parts S bs (deeper r 0) d)
      ∙ (λ i. lesser start (item_by_itself r d i) (earliest start (undriven-anywhere (deeper r 0) 0 d i))))
  earliest_item false r d ps e = absurd cc

  -- another item before them
  earliest_other : (b r : Bool) (d : Sexp) (ps : List TemplatePart) → b ≡ false → earliest start (undriven (item_parts S bs 0 b r d ++ ps)) ≡ earliest start (undriven ps)
  earliest_other true r d ps e = absurd cc
  earliest_other false r d ps e = refl

  -- from a template on
  pub undriven-template : (rs : Roles) (ds : List Sexp) (i : ℕ) (d : Sexp) → i < length ds → d ≡ get_or ds i d → is_pattern (next rs d) ≡ true
      → earliest start (undriven_parts S bs (parts_among S bs 0 rs (sexps (drop i ds))))
      ≡ lesser start
      (lesser start (earliest start (when (is_undriven (is_repeated (rest rs d) (sexps (drop (i + 1) ds))) (reach (template_reading S bs d))) d)) (earliest start (undriven_parts S bs (template_parts S bs 0 d))))
      (earliest start (undriven_parts S bs (parts_among S bs 0 (rest rs d) (sexps (drop (i + 1) ds)))))
  undriven-template rs ds i d h e f =
      ap (λ (ps : List TemplatePart). earliest start (undriven ps)) (parts-at S bs 0 rs ds i d h e)
      ∙ earliest_item (is_pattern (next rs d)) (is_repeated (rest rs d) (sexps (drop (i + 1) ds))) d (parts_among S bs 0 (rest rs d) (sexps (drop (i + 1) ds))) f

  -- from another item on
  pub undriven-other : (rs : Roles) (ds : List Sexp) (i : ℕ) (d : Sexp) → i < length ds → d ≡ get_or ds i d → is_pattern (next rs d) ≡ false
      → earliest start (undriven_parts S bs (parts_among S bs 0 rs (sexps (drop i ds)))) ≡ earliest start (undriven_parts S bs (parts_among S bs 0 (rest rs d) (sexps (drop (i + 1) ds))))
  undriven-other rs ds i d h e f =
      ap (λ (ps : List TemplatePart). earliest start (undriven ps)) (parts-at S bs 0 rs ds i d h e)
      ∙ earliest_other (is_pattern (next rs d)) (is_repeated (rest rs d) (sexps (drop (i + 1) ds))) d (parts_among S bs 0 (rest rs d) (sexps (drop (i + 1) ds))) f

  -- from a host expression on
  pub undriven-host : (ds : List Sexp) (i : ℕ) (d : Sexp) → i < length ds → d ≡ get_or ds i d
      → earliest start (undriven_parts S bs (host_parts_among S bs 0 (sexps (drop i ds))))
      ≡ lesser start (earliest start (undriven_parts S bs (host_parts S bs 0 d))) (earliest start (undriven_parts S bs (host_parts_among S bs 0 (sexps (drop (i + 1) ds)))))
  undriven-host ds i d h e =
      ap (λ es. earliest start (undriven (host_parts_among S bs 0 (sexps es)))) (drop-at ds i d h e)
      ∙ earliest_both (host_parts S bs 0 d) (host_parts_among S bs 0 (sexps (drop (i + 1) ds)))
