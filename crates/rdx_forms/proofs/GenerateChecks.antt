-- Which check refuses a form that generates a term or checks a property.
use Rattle.std.proofs.Common.{◌≡◌, ◌≤◌, ℕ, false, List, [], ◌∷◌, Option, Some, None, Result, Ok, Err, refl, sym, ◌∙◌, ap, subst, arith}
use Rattle.std.specs.Prelude.{is_some, option_map, IfOk}
use Rattle.rdx_sexp.specs.Sexp.{Sexp}
use Rattle.rdx_lang.specs.Checked.{pattern_in}
use Rattle.rdx_lang.specs.Patterns.{Language}
use Rattle.rdx_lang.specs.Programs.{language_named}
use Rattle.rdx_lang.specs.TemplateView.{host_of}
use Rattle.rdx_lang.specs.declared.checked.CheckedPat.{CheckedPat}
use Rattle.rdx_lang.specs.declared.template.HostExpr.{HostExpr}
use Rattle.rdx_parts.specs.Outlines.{one}
use Rattle.rdx_parts.specs.PartsHave.{BindNames}
use Rattle.rdx_parts.specs.Stands.{bound_among, bound_in, names_bound}
use Rattle.rdx_patterns.specs.Among.{AreAmong}
use Rattle.rdx_patterns.specs.Answers.{ReadsPattern}
use Rattle.rdx_patterns.specs.Ends.{ends_in}
use Rattle.rdx_patterns.specs.Nonterminals.{names_of}
use Rattle.rdx_patterns.specs.Occurrences.{Occurrence, occurrences}
use Rattle.rdx_patterns.specs.Parts.{parts, text_of}
use Rattle.rdx_patterns.specs.PatternChecks.{bad_binders}
use Rattle.rdx_patterns.specs.PatternRefusal.{keyword_at, bad_binder_at, bad_occurrence_at, depth_clash_at, escape_at, pattern_refusal}
use Rattle.rdx_patterns.specs.Reading.{reading}
use Rattle.rdx_patterns.specs.Readable.{IsReadable}
use Rattle.rdx_patterns.specs.Refusal.{Refusal, refusal_of, unnamed, named, or_else, first}
use Rattle.rdx_patterns.specs.declared.shape.fault.DefFault.{DefFault}
use Rattle.rdx_patterns.specs.declared.shape.fault.DefFault.TheVariants.{Refused, NoMemory}
use Rattle.rdx_patterns.specs.declared.shape.fault.DefKind.TheVariants.{Shape, UnknownLanguage, BadName, BadPattern, EllipsisDepth, EllipsisVariable, RacketEscape}
use Rattle.rdx_patterns.specs.declared.shape.fault.DefRefusal.{DefRefusal}
use Rattle.rdx_patterns.specs.declared.patterns.position.Position.TheVariants as position
use Rattle.rdx_patterns.proofs.Firsts.{nothing, none-empty}
use Rattle.rdx_relations.proofs.BoundParts.{can-bind}
use Rattle.rdx_templates.specs.Answers.{ReadsHost}
use Rattle.rdx_templates.specs.Bound.{Bound}
use Rattle.rdx_templates.specs.Earliest.{start, earliest}
use Rattle.rdx_templates.specs.Scope.{Scope}
use Rattle.rdx_templates.specs.TemplateChecks.{bad_parts, shallow_parts, undriven_parts, escapes}
use Rattle.rdx_templates.specs.TemplateOccurrences.{host_parts}
use Rattle.rdx_templates.specs.TemplateReading.{host_reading}
use Rattle.rdx_templates.specs.TemplateRefusal.{host_refusal}
use Rattle.rdx_forms.specs.HostForms.{host_shape_at, bad_host_at, host_escape_at}
use Rattle.rdx_forms.specs.Known.{Known, or_empty}
use Rattle.rdx_forms.specs.LanguageForms.{named_base, unknown_at, unknown_by}
use Rattle.rdx_forms.specs.GenerateForms.{GenerateParts, generate_parts, check_parts, numbers_at, check_undriven_at, generate_refusal, check_refusal, generate_over, check_over}
use Rattle.rdx_answer.specs.Queries.{generate, check}
use Rattle.rdx_forms.specs.Answers.{IsGenerating, IsChecking}
use Rattle.rdx_forms.specs.Faults.{IsFaultAt, IsRefusedBy}
use Rattle.rdx_forms.specs.Reported.{number, earlier}
use Rattle.rdx_forms.specs.Inside.Earlier.{IsFirstFault}
use Rattle.rdx_forms.specs.Inside.Generating.{ReadsNumbers, GenerateNumbers, CheckNumbers, generate_faults, check_faults, names_unless, names_to_read, both_refusal, ReadsBoth}
use Rattle.rdx_forms.proofs.CheckNumbers.{or_none, one-behind, none-at, IsFrom, Checks, AreChecks, refused, merge, merged, merge-checks, unnamed-number, named-number, earlier_of-first, refused-number}
use Rattle.rdx_forms.proofs.GainingNothing.{parts-ask}
use Rattle.rdx_forms.proofs.LanguageChecks.{unknown-number}
use Rattle.rdx_forms.proofs.FormParts.{GenerateItems, parts-readable}
use Rattle.rdx_forms.proofs.QueryChecks.{pattern_checks, pattern-checks, pattern-refusal, pattern-refused}

-- ---- the checks of a host expression in which names are bound

-- those behind the first
abbrev late_host_checks : Scope → Bound → Sexp → Checks
late_host_checks S bs d =
    (5, option_map (unnamed BadPattern) (earliest start (bad_parts (host_parts S bs 0 d))))
    ∷ (6, option_map (named EllipsisDepth) (earliest start (shallow_parts bs (host_parts S bs 0 d))))
    ∷ (9, option_map (unnamed EllipsisVariable) (earliest start (undriven_parts S bs (host_parts S bs 0 d))))
    ∷ (10, option_map (unnamed RacketEscape) (earliest start (escapes (host_parts S bs 0 d))))
    ∷ []

-- all of them
abbrev bound_host_checks : Scope → Bound → Sexp → Checks
bound_host_checks S bs d = (1, host_shape_at d) ∷ late_host_checks S bs d

-- their numbers ascend
late-host-checks : (n : ℕ) (S : Scope) (bs : Bound) (d : Sexp) → n ≤ 5 → AreChecks n (late_host_checks S bs d)
late-host-checks n S bs d h = (
  h,
  (
    unnamed-number BadPattern _,
    (omega arith, (named-number EllipsisDepth _, (omega arith, (unnamed-number EllipsisVariable _, (omega arith, (unnamed-number RacketEscape _, tt)))))),
  ),
)

bound-host-checks : (S : Scope) (bs : Bound) (d : Sexp) → AreChecks 0 (bound_host_checks S bs d)
bound-host-checks S bs d = (omega arith, (unnamed-number Shape _, late-host-checks 1 S bs d (omega arith)))

-- they refuse it
bound-host-refusal : (S : Scope) (bs : Bound) (d : Sexp) → host_refusal S bs d ≡ refused (bound_host_checks S bs d)
bound-host-refusal S bs d = refl

-- what is read of it is refused so
bound-host-refused : (S : Scope) (bs : Bound) (d : Sexp) (x : Result HostExpr DefFault) → ReadsHost S bs d x → IsRefusedBy (host_refusal S bs d) x
bound-host-refused S bs d (Ok h) a = a.0
bound-host-refused S bs d (Err (Refused r)) a = a
bound-host-refused S bs d (Err NoMemory) a = tt

-- ---- the names with which a host expression is read

-- what refuses has a number up to that of a name that may not be bound
abbrev IsEarly : Option Refusal → Type 0
IsEarly o = (r : Refusal) → o ≡ Some r → number r.kind ≤ 4

-- later checks do not matter behind a refusal by an early one
early-alone : (r : Refusal) (o p : Option Refusal) → number r.kind ≤ 4 → IsFrom 5 p → earlier (Some r) (or_else o p) ≡ earlier (Some r) o
early-alone r (Some q) p h f = refl
early-alone r None None h f = refl
early-alone r None (Some q) h f = let g : 5 ≤ number q.kind = f q refl in ap Some (earlier_of-first r q (omega (arith, h, g)))

-- nor behind the refusal of a pattern that binds a name that may not be bound
bad-alone : (d : Sexp) (k rest o p : Option Refusal) → IsEarly k → IsFrom 5 p
    → earlier (or_else k (or_else (Some (named BadName d)) rest)) (or_else o p) ≡ earlier (or_else k (or_else (Some (named BadName d)) rest)) o
bad-alone d (Some r) rest o p h f = early-alone r o p (h r refl) f
bad-alone d None rest o p h f = early-alone (named BadName d) o p (omega arith) f

-- that of a keyword does
early-keyword : (d : Sexp) → IsEarly (keyword_at (occurrences 0 d))
early-keyword d r e = let f : number r.kind ≡ 1 = unnamed-number Shape _ r e in omega (arith, f)

-- any names do behind a pattern that binds one that may not be bound
any-names : (S : Scope) (bs cs : Bound) (ns : List (List ℕ)) (p h d : Sexp) (ds : List Sexp) → bad_binders (occurrences 0 p) ≡ d ∷ ds
    → earlier (pattern_refusal ns p) (host_refusal S bs h) ≡ earlier (pattern_refusal ns p) (host_refusal S cs h)
any-names S bs cs ns p h d ds e =
    let os = occurrences 0 p in
    let rest = or_else (bad_occurrence_at ns os) (or_else (depth_clash_at ns os) (or_else (escape_at os) None)) in
    let early : Option Refusal = or_else (keyword_at os) (or_else (Some (named BadName d)) rest) in
    let first_path : pattern_refusal ns p ≡ early =
    λ i. or_else (keyword_at os) (or_else (option_map (named BadName) (first (e i))) rest)
    in
    let alone : (xs : Bound) → earlier (pattern_refusal ns p) (host_refusal S xs h) ≡ earlier early (host_shape_at h) =
    λ xs.
    (λ i. earlier (first_path i) (host_refusal S xs h))
    ∙ bad-alone d (keyword_at os) rest (host_shape_at h) (refused (late_host_checks S xs h)) (early-keyword p)
    (refused-number 5 (late_host_checks S xs h) (late-host-checks 5 S xs h (omega arith)))
    in
    alone bs ∙ sym (alone cs)

-- so those with which it is read do
names-do : (S : Scope) (ns : List (List ℕ)) (p h : Sexp) → earlier (pattern_refusal ns p) (host_refusal S (names_to_read ns p) h) ≡ both_refusal S ns p h
names-do S ns p h = by_list (bad_binders (occurrences 0 p)) refl
  where
    by_list : (xs : List Sexp) → bad_binders (occurrences 0 p) ≡ xs
        → earlier (pattern_refusal ns p) (host_refusal S (names_unless xs (names_bound (bound_in ns p))) h) ≡ both_refusal S ns p h
    by_list [] e = refl
    by_list (d ∷ ds) e = any-names S [] (names_bound (bound_in ns p)) ns p h d ds e

-- they are those of the pattern, where that is not refused
names-read : (ns : List (List ℕ)) (p : Sexp) → pattern_refusal ns p ≡ None → names_to_read ns p ≡ names_bound (bound_in ns p)
names-read ns p e =
    let os = occurrences 0 p in
    let checks = keyword_at os ∷ bad_binder_at os ∷ bad_occurrence_at ns os ∷ depth_clash_at ns os ∷ escape_at os ∷ [] in
    let none : bad_binders os ≡ [] = nothing (named BadName) (bad_binders os) (none-at 1 checks e) in
    λ i. names_unless (none i) (names_bound (bound_in ns p))

-- ---- a pattern and a host expression

-- both, by what is read of each
pub parts-read : (S : Scope) (ns : List (List ℕ)) (p h : Sexp) (x : Result CheckedPat DefFault) (y : Result HostExpr DefFault) (z : Result (CheckedPat × HostExpr) DefFault)
    → ReadsPattern ns p x → ReadsHost S (names_to_read ns p) h y
    → ((o q : Option Refusal) → IsRefusedBy o x → IsRefusedBy q y → IsRefusedBy (earlier o q) z)
    → IfOk z (λ r. (x ≡ Ok r.0) × (y ≡ Ok r.1)) → ReadsBoth S ns p h z
parts-read S ns p h x y (Err e) a b g k =
    subst (λ (o : Option Refusal). IsFaultAt o e) (names-do S ns p h)
    (g (pattern_refusal ns p) (host_refusal S (names_to_read ns p) h) (pattern-refused ns p x a) (bound-host-refused S (names_to_read ns p) h y b))
parts-read S ns p h x y (Ok r) a b g k =
    let c : ReadsPattern ns p (Ok r.0) = subst (ReadsPattern ns p) k.0 a in
    let d : ReadsHost S (names_to_read ns p) h (Ok r.1) = subst (ReadsHost S (names_to_read ns p) h) k.1 b in
    record {
      passes = sym (names-do S ns p h)
          ∙ g (pattern_refusal ns p) (host_refusal S (names_to_read ns p) h) (pattern-refused ns p x a) (bound-host-refused S (names_to_read ns p) h y b);
      pattern = c.1;
      host = d.1 ∙ ap (λ (bs : Bound). host_reading S bs h) (names-read ns p c.0);
    }

-- what is read of both is refused so
both-refused : (S : Scope) (ns : List (List ℕ)) (p h : Sexp) (x : Result (CheckedPat × HostExpr) DefFault) → ReadsBoth S ns p h x → IsRefusedBy (both_refusal S ns p h) x
both-refused S ns p h (Ok r) a = a.passes
both-refused S ns p h (Err e) a = a

-- and what is read of numbers
numbers-refused : (ds : List Sexp) (n m : ℕ) (x : Result (ℕ × ℕ) DefFault) → ReadsNumbers ds n m x → IsRefusedBy (numbers_at ds) x
numbers-refused ds n m (Ok v) a = ap numbers_at a.0
numbers-refused ds n m (Err e) a = a

-- ---- the language, known or not

-- a refusal of the language's name, of the parts over the nonterminals of the language, and of numbers
module _ (K : Known) (l : Sexp) (whole : Option Refusal) (part : List (List ℕ) → Option Refusal) (num : Option Refusal)
    (h : whole ≡ earlier (unknown_at K (Some l)) (earlier (part (names_of (named_base K (Some l)))) num)) where
  -- where it is unknown
  unknown-whole : {A B C : Type 0} (ns : List (List ℕ)) (r : DefRefusal) (x : Result A DefFault) (y : Result B DefFault) (z : Result C DefFault) (e : DefFault)
      → language_named K.program (text_of l) ≡ None → ns ≡ [] → refusal_of r ≡ named UnknownLanguage l → IsRefusedBy (part ns) x → IsRefusedBy num y
      → ((o p : Option Refusal) → IsRefusedBy o x → IsRefusedBy p y → IsRefusedBy (earlier o p) z) → IsFirstFault r z e → IsFaultAt whole e
  unknown-whole ns r x y z e n m i a b g f =
      let path : whole ≡ earlier (Some (refusal_of r)) (earlier (part ns) num) =
      h
      ∙ (λ j. earlier (unknown_by (n j) l) (earlier (part (names_of (or_empty (n j)))) num))
      ∙ (λ j. earlier (Some (sym i j)) (earlier (part (sym m j)) num))
      in
      subst (λ (o : Option Refusal). IsFaultAt o e) (sym path) (f (earlier (part ns) num) (g (part ns) num a b))

  -- where it is known
  module _ (L : Language) (k : language_named K.program (text_of l) ≡ Some L) where
    known-whole : whole ≡ earlier (part (names_of L)) num
    known-whole = h ∙ λ i. earlier (unknown_by (k i) l) (earlier (part (names_of (or_empty (k i)))) num)

    fault-whole : {A B : Type 0} (x : Result A DefFault) (y : Result B DefFault) (e : DefFault) → IsRefusedBy (part (names_of L)) x → IsRefusedBy num y
        → ((o p : Option Refusal) → IsRefusedBy o x → IsRefusedBy p y → IsFaultAt (earlier o p) e) → IsFaultAt whole e
    fault-whole x y e a b g = subst (λ (o : Option Refusal). IsFaultAt o e) (sym known-whole) (g (part (names_of L)) num a b)

-- ---- a form that has its shape

-- the check of numbers
abbrev number_check : List Sexp → Checks
number_check ds = (1, numbers_at ds) ∷ []

number-check : (ds : List Sexp) → AreChecks 0 (number_check ds)
number-check ds = (omega arith, (unnamed-number Shape _, tt))

-- the checks in their order, without brackets
generate_flat : (kw num unk bb bo dc esc : Option Refusal)
    → or_else (or_else kw num) (or_else unk (or_else bb (or_else bo (or_else dc (or_else esc None)))))
    ≡ or_else kw (or_else num (or_else unk (or_else bb (or_else bo (or_else dc (or_else esc None))))))
generate_flat kw num unk bb bo dc esc = one-behind kw num (or_else unk (or_else bb (or_else bo (or_else dc (or_else esc None)))))

check_flat : (kw hs num unk bb bo bh dc sh und esc hesc : Option Refusal)
    → or_else (or_else (or_else kw hs) num) (or_else unk (or_else bb (or_else (or_else bo bh) (or_else (or_else dc sh) (or_else und (or_else (or_else esc hesc) None))))))
    ≡ or_else kw (or_else hs (or_else num (or_else unk (or_else bb (or_else bo (or_else bh (or_else dc (or_else sh (or_else und (or_else esc (or_else hesc None)))))))))))
check_flat kw hs num unk bb bo bh dc sh und esc hesc =
    let last : Option Refusal = or_else und (or_else (or_else esc hesc) None) in
    let late : Option Refusal = or_else (or_else bo bh) (or_else (or_else dc sh) last) in
    let behind : Option Refusal = or_else unk (or_else bb late) in
    one-behind (or_else kw hs) num behind
    ∙ one-behind kw hs (or_else num behind)
    ∙ ap (λ o. or_else kw (or_else hs (or_else num (or_else unk (or_else bb o)))))
    (one-behind bo bh (or_else (or_else dc sh) last)
    ∙ ap (λ o. or_else bo (or_else bh o)) (one-behind dc sh last ∙ ap (λ o. or_else dc (or_else sh (or_else und o))) (one-behind esc hesc None)))

module _ (K : Known) (d : Sexp) (q : GenerateParts) where
  -- the nonterminals of its language
  abbrev names : List (List ℕ)
  names = names_of (named_base K (Some q.language))

  -- the check of its language
  abbrev language_check : Checks
  language_check = (2, unknown_at K (Some q.language)) ∷ []

  language-check : AreChecks 0 language_check
  language-check = (omega arith, (unknown-number K (Some q.language), tt))

  -- the refusal that is reported of one that generates a term
  generate-refusal : generate_refusal K d (Some q)
      ≡ earlier (unknown_at K (Some q.language)) (earlier (pattern_refusal names q.pattern) (numbers_at (generate_faults q)))
  generate-refusal =
      let os = occurrences 0 q.pattern in
      let ds = generate_faults q in
      let unknown = unknown_at K (Some q.language) in
      let kw = keyword_at os in
      let num = numbers_at ds in
      let pc = pattern_checks names q.pattern in
      let ps = pattern-checks names q.pattern in
      let all = merge pc (number_check ds) in
      generate_flat kw num unknown (bad_binder_at os) (bad_occurrence_at names os) (depth_clash_at names os) (escape_at os)
      ∙ merged 0 language_check all language-check (merge-checks 0 pc (number_check ds) ps (number-check ds))
      ∙ (λ j. earlier (or_none unknown j) (merged 0 pc (number_check ds) ps (number-check ds) j))
      ∙ (λ j. earlier unknown (earlier (sym (pattern-refusal names q.pattern) j) (or_none num j)))

  -- and of one that checks a property
  check-refusal : check_refusal K d (Some q)
      ≡ earlier (unknown_at K (Some q.language)) (earlier (both_refusal K.scope names q.pattern q.third) (numbers_at (check_faults q)))
  check-refusal =
      let os = occurrences 0 q.pattern in
      let ds = check_faults q in
      let bs = names_bound (bound_in names q.pattern) in
      let hs = host_parts K.scope bs 0 q.third in
      let unknown = unknown_at K (Some q.language) in
      let kw = keyword_at os in
      let shape = host_shape_at q.third in
      let num = numbers_at ds in
      let shallow = option_map (named EllipsisDepth) (earliest start (shallow_parts bs hs)) in
      let undriven = check_undriven_at K bs hs in
      let pc = pattern_checks names q.pattern in
      let ps = pattern-checks names q.pattern in
      let hc = bound_host_checks K.scope bs q.third in
      let hk = bound-host-checks K.scope bs q.third in
      let two = merge pc hc in
      let two-checks = merge-checks 0 pc hc ps hk in
      let all = merge two (number_check ds) in
      check_flat kw shape num unknown (bad_binder_at os) (bad_occurrence_at names os) (bad_host_at hs) (depth_clash_at names os) shallow undriven (escape_at os) (host_escape_at hs)
      ∙ merged 0 language_check all language-check (merge-checks 0 two (number_check ds) two-checks (number-check ds))
      ∙ (λ j. earlier (or_none unknown j) (merged 0 two (number_check ds) two-checks (number-check ds) j))
      ∙ (λ j. earlier unknown (earlier (merged 0 pc hc ps hk j) (or_none num j)))
      ∙ (λ j. earlier unknown (earlier (earlier (sym (pattern-refusal names q.pattern) j) (sym (bound-host-refusal K.scope bs q.third) j)) num))

-- ---- what is answered

-- nothing is found where there is no first
pub none-found : {A B : Type 0} (f : A → B) (o : Option A) (xs : List B) → is_some o ≡ false → option_map f o ≡ first xs → xs ≡ []
none-found f None xs h e = none-empty xs (sym e)
none-found f (Some x) xs h e = absurd cc

-- what a pattern binds are names, where it can be read and none of them may not be bound
pub found-bind : (ns : List (List ℕ)) (d : Sexp) (os : List Occurrence) → IsReadable d → os ≡ occurrences 0 d → bad_binders os ≡ [] → BindNames (bound_among ns os)
found-bind ns d os r e f =
    subst (λ (ps : List Occurrence). BindNames (bound_among ns ps)) (sym e)
    (can-bind ns (one d) r (ap bad_binders (sym e) ∙ f)).names

-- the pattern and what stands behind it can be read
pub items-readable : (d : Sexp) (q : GenerateParts) → GenerateItems (parts d) q → IsReadable d → IsReadable q.pattern × IsReadable q.third
items-readable d q i z =
    let k = (parts-readable d (i.head ∷ q.language ∷ q.pattern ∷ q.third ∷ q.options) i.are z).1.1 in
    (k.0, k.1.0)

-- the pattern asks for nothing but what the form does
pub items-ask : (zs : List (List ℕ)) (d : Sexp) (q : GenerateParts) → GenerateItems (parts d) q → AreAmong (ends_in d) zs → AreAmong (ends_in q.pattern) zs
items-ask zs d q i a = (parts-ask zs d (i.head ∷ q.language ∷ q.pattern ∷ q.third ∷ q.options) i.are a).1.1.0

-- a form that generates a term
module _ (K : Known) (d : Sexp) (q : GenerateParts) (e : generate_parts d ≡ Some q) where
  -- the refusal that is reported of it
  generate-whole : generate_refusal K d (generate_parts d)
      ≡ earlier (unknown_at K (Some q.language)) (earlier (pattern_refusal (names_of (named_base K (Some q.language))) q.pattern) (numbers_at (generate_faults q)))
  generate-whole = ap (generate_refusal K d) e ∙ generate-refusal K d q

  -- where its language is unknown
  pub generate-unknown : {A : Type 0} (ns : List (List ℕ)) (r : DefRefusal) (x : Result CheckedPat DefFault) (y : Result (ℕ × ℕ) DefFault) (z : Result A DefFault) (f : DefFault)
      → language_named K.program (text_of q.language) ≡ None → ns ≡ [] → refusal_of r ≡ named UnknownLanguage q.language → ReadsPattern ns q.pattern x → GenerateNumbers q y
      → ((o p : Option Refusal) → IsRefusedBy o x → IsRefusedBy p y → IsRefusedBy (earlier o p) z) → IsFirstFault r z f
      → IsFaultAt (generate_refusal K d (generate_parts d)) f
  generate-unknown ns r x y z f n m i a b g h =
      unknown-whole K q.language (generate_refusal K d (generate_parts d)) (λ ms. pattern_refusal ms q.pattern) (numbers_at (generate_faults q)) generate-whole
      ns r x y z f n m i (pattern-refused ns q.pattern x a) (numbers-refused (generate_faults q) _ _ y b) g h

  -- where it is known, and something is at fault
  pub generate-fault : (L : Language) (x : Result CheckedPat DefFault) (y : Result (ℕ × ℕ) DefFault) (f : DefFault) → language_named K.program (text_of q.language) ≡ Some L
      → ReadsPattern (names_of L) q.pattern x → GenerateNumbers q y → ((o p : Option Refusal) → IsRefusedBy o x → IsRefusedBy p y → IsFaultAt (earlier o p) f)
      → IsFaultAt (generate_refusal K d (generate_parts d)) f
  generate-fault L x y f k a b g =
      fault-whole K q.language (generate_refusal K d (generate_parts d)) (λ ms. pattern_refusal ms q.pattern) (numbers_at (generate_faults q)) generate-whole
      L k x y f (pattern-refused (names_of L) q.pattern x a) (numbers-refused (generate_faults q) _ _ y b) g

  -- where nothing is
  pub generate-asked : (L : Language) (c : CheckedPat) (v : ℕ × ℕ) (name : List ℕ) → language_named K.program (text_of q.language) ≡ Some L
      → ReadsPattern (names_of L) q.pattern (Ok c) → GenerateNumbers q (Ok v) → name ≡ text_of q.language → IsGenerating K d name (pattern_in c) v.0 v.1
  generate-asked L c v name k a b n = record {
    passes = known-whole K q.language (generate_refusal K d (generate_parts d)) (λ ms. pattern_refusal ms q.pattern) (numbers_at (generate_faults q)) generate-whole L k
        ∙ λ i. earlier (a.0 i) (numbers_at (b.0 i));
    means = ap (option_map (generate_over K)) e ∙ λ i. Some (generate (sym n i) (pattern_path i) (sym b.1.0 i) (sym b.1.1 i));
  }
    where
      pattern_path : reading (names_of (named_base K (Some q.language))) position.Query q.pattern ≡ pattern_in c
      pattern_path = ap (λ (o : Option Language). reading (names_of (or_empty o)) position.Query q.pattern) k ∙ sym a.1

-- a form that checks a property
module _ (K : Known) (d : Sexp) (q : GenerateParts) (e : check_parts d ≡ Some q) where
  -- the refusal that is reported of it
  check-whole : check_refusal K d (check_parts d)
      ≡ earlier (unknown_at K (Some q.language)) (earlier (both_refusal K.scope (names_of (named_base K (Some q.language))) q.pattern q.third) (numbers_at (check_faults q)))
  check-whole = ap (check_refusal K d) e ∙ check-refusal K d q

  -- where its language is unknown
  pub check-unknown : {A : Type 0} (ns : List (List ℕ)) (r : DefRefusal) (x : Result (CheckedPat × HostExpr) DefFault) (y : Result (ℕ × ℕ) DefFault) (z : Result A DefFault) (f : DefFault)
      → language_named K.program (text_of q.language) ≡ None → ns ≡ [] → refusal_of r ≡ named UnknownLanguage q.language → ReadsBoth K.scope ns q.pattern q.third x → CheckNumbers q y
      → ((o p : Option Refusal) → IsRefusedBy o x → IsRefusedBy p y → IsRefusedBy (earlier o p) z) → IsFirstFault r z f
      → IsFaultAt (check_refusal K d (check_parts d)) f
  check-unknown ns r x y z f n m i a b g h =
      unknown-whole K q.language (check_refusal K d (check_parts d)) (λ ms. both_refusal K.scope ms q.pattern q.third) (numbers_at (check_faults q)) check-whole
      ns r x y z f n m i (both-refused K.scope ns q.pattern q.third x a) (numbers-refused (check_faults q) _ _ y b) g h

  -- where it is known, and something is at fault
  pub check-fault : (L : Language) (x : Result (CheckedPat × HostExpr) DefFault) (y : Result (ℕ × ℕ) DefFault) (f : DefFault) → language_named K.program (text_of q.language) ≡ Some L
      → ReadsBoth K.scope (names_of L) q.pattern q.third x → CheckNumbers q y → ((o p : Option Refusal) → IsRefusedBy o x → IsRefusedBy p y → IsFaultAt (earlier o p) f)
      → IsFaultAt (check_refusal K d (check_parts d)) f
  check-fault L x y f k a b g =
      fault-whole K q.language (check_refusal K d (check_parts d)) (λ ms. both_refusal K.scope ms q.pattern q.third) (numbers_at (check_faults q)) check-whole
      L k x y f (both-refused K.scope (names_of L) q.pattern q.third x a) (numbers-refused (check_faults q) _ _ y b) g

  -- where nothing is
  pub check-asked : (L : Language) (c : CheckedPat × HostExpr) (v : ℕ × ℕ) (name : List ℕ) → language_named K.program (text_of q.language) ≡ Some L
      → ReadsBoth K.scope (names_of L) q.pattern q.third (Ok c) → CheckNumbers q (Ok v) → name ≡ text_of q.language
      → IsChecking K d name (pattern_in c.0) (host_of c.1) v.0 v.1
  check-asked L c v name k a b n = record {
    passes = known-whole K q.language (check_refusal K d (check_parts d)) (λ ms. both_refusal K.scope ms q.pattern q.third) (numbers_at (check_faults q)) check-whole L k
        ∙ λ i. earlier (a.passes i) (numbers_at (b.0 i));
    means = ap (option_map (check_over K)) e ∙ λ i. Some (check (sym n i) (pattern_path i) (host_path i) (sym b.1.0 i) (sym b.1.1 i));
  }
    where
      pattern_path : reading (names_of (named_base K (Some q.language))) position.Query q.pattern ≡ pattern_in c.0
      pattern_path = ap (λ (o : Option Language). reading (names_of (or_empty o)) position.Query q.pattern) k ∙ sym a.pattern

      host_path : host_reading K.scope (names_bound (bound_in (names_of (named_base K (Some q.language))) q.pattern)) q.third ≡ host_of c.1
      host_path = ap (λ (o : Option Language). host_reading K.scope (names_bound (bound_in (names_of (or_empty o)) q.pattern)) q.third) k ∙ sym a.host
