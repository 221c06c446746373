-- What comes of an item of a list, by the test whether it is a template, and of the items behind a head.
use Rattle.std.proofs.Common.{◌≡◌, ◌++◌, ◌∙◌, ℕ, ◌+◌, ◌<◌, length, drop, get_or, Bool, true, false, List, [], ◌∷◌, refl, ap, if◌then◌else◌}
use Rattle.rdx_sexp.specs.Sexp.{Sexp, sexps}
use Rattle.rdx_lang.specs.Templates.{Template, Items, more}
use Rattle.rdx_patterns.specs.Heads.{Roles, item, word, next, rest, is_repeated}
use Rattle.rdx_patterns.specs.Occurrences.{deeper}
use Rattle.rdx_patterns.specs.Reading.{is_pattern}
use Rattle.rdx_patterns.proofs.Rests.{drop-at}
use Rattle.rdx_templates.specs.Bound.{Bound}
use Rattle.rdx_templates.specs.Scope.{Scope}
use Rattle.rdx_templates.specs.TemplateOccurrences.{TemplatePart, repeated_when, template_parts, parts_among}
use Rattle.rdx_templates.specs.TemplateReading.{with_template, template_reading, role_template, templates_among, host_reading, hosts_among}

module _ (S : Scope) (bs : Bound) where
  -- what stands in an item, where it is a template
  abbrev pub item_parts : ℕ → Bool → Bool → Sexp → List TemplatePart
  item_parts n is_one repeated d = if is_one then repeated_when repeated d ++ template_parts S bs (deeper repeated n) d else []

  -- what stands in the items from one on
  pub parts-at : (n : ℕ) (rs : Roles) (ds : List Sexp) (i : ℕ) (d : Sexp) → i < length ds → d ≡ get_or ds i d
      → parts_among S bs n rs (sexps (drop i ds))
      ≡ item_parts n (is_pattern (next rs d)) (is_repeated (rest rs d) (sexps (drop (i + 1) ds))) d ++ parts_among S bs n (rest rs d) (sexps (drop (i + 1) ds))
  parts-at n rs ds i d h e = ap (λ es. parts_among S bs n rs (sexps es)) (drop-at ds i d h e)

  -- the templates from one on
  pub templates-at : (rs : Roles) (ds : List Sexp) (i : ℕ) (d : Sexp) → i < length ds → d ≡ get_or ds i d
      → templates_among S bs rs (sexps (drop i ds))
      ≡ role_template (next rs d) (is_repeated (rest rs d) (sexps (drop (i + 1) ds))) (template_reading S bs d) (templates_among S bs (rest rs d) (sexps (drop (i + 1) ds)))
  templates-at rs ds i d h e = ap (λ es. templates_among S bs rs (sexps es)) (drop-at ds i d h e)

  -- the host expressions from one on
  pub hosts-at : (ds : List Sexp) (i : ℕ) (d : Sexp) → i < length ds → d ≡ get_or ds i d
      → hosts_among S bs (sexps (drop i ds)) ≡ more (host_reading S bs d) (hosts_among S bs (sexps (drop (i + 1) ds)))
  hosts-at ds i d h e = ap (λ es. hosts_among S bs (sexps es)) (drop-at ds i d h e)

  -- an item that is a template, before others
  if_template : (b r : Bool) (t : Template) (ts : Items) → b ≡ true → (if b then with_template r t ts else ts) ≡ with_template r t ts
  if_template true r t ts e = refl
  if_template false r t ts e = absurd cc

  -- another item
  if_other : (b r : Bool) (t : Template) (ts : Items) → b ≡ false → (if b then with_template r t ts else ts) ≡ ts
  if_other true r t ts e = absurd cc
  if_other false r t ts e = refl

  -- the templates from one that is one on
  pub templates-template : (rs : Roles) (ds : List Sexp) (i : ℕ) (d : Sexp) → i < length ds → d ≡ get_or ds i d → is_pattern (next rs d) ≡ true
      → templates_among S bs rs (sexps (drop i ds))
      ≡ with_template (is_repeated (rest rs d) (sexps (drop (i + 1) ds))) (template_reading S bs d) (templates_among S bs (rest rs d) (sexps (drop (i + 1) ds)))
  templates-template rs ds i d h e f =
      templates-at rs ds i d h e
      ∙ if_template (is_pattern (next rs d)) (is_repeated (rest rs d) (sexps (drop (i + 1) ds))) (template_reading S bs d) (templates_among S bs (rest rs d) (sexps (drop (i + 1) ds))) f

  -- the templates from another item on
  pub templates-other : (rs : Roles) (ds : List Sexp) (i : ℕ) (d : Sexp) → i < length ds → d ≡ get_or ds i d → is_pattern (next rs d) ≡ false
      → templates_among S bs rs (sexps (drop i ds)) ≡ templates_among S bs (rest rs d) (sexps (drop (i + 1) ds))
  templates-other rs ds i d h e f =
      templates-at rs ds i d h e
      ∙ if_other (is_pattern (next rs d)) (is_repeated (rest rs d) (sexps (drop (i + 1) ds))) (template_reading S bs d) (templates_among S bs (rest rs d) (sexps (drop (i + 1) ds))) f

  -- ---- behind a head

  -- what stands behind a word
  pub parts-behind : (n : ℕ) (rs : Roles) (ds : List Sexp) → parts_among S bs n (item word rs) (sexps ds) ≡ parts_among S bs n rs (sexps (drop 1 ds))
  parts-behind n rs [] = refl
  parts-behind n rs (d ∷ ds) = refl
