-- Which check refuses a query.
use Rattle.std.proofs.Common.{◌≡◌, ℕ, Bool, true, false, List, [], ◌∷◌, Option, Some, None, Result, Ok, Err, refl, sym, ◌∙◌, ap, subst, arith, if◌then◌else◌}
use Rattle.std.specs.Prelude.{option_map, bytes_eq}
use Rattle.std.specs.Cmp.Lexicographic.{bytes_decides}
use Rattle.rdx_sexp.specs.Sexp.{Sexp}
use Rattle.rdx_lang.specs.Checked.{pattern_in}
use Rattle.rdx_lang.specs.Patterns.{Language}
use Rattle.rdx_lang.specs.Programs.{Program, language_among, language_named}
use Rattle.rdx_lang.specs.TemplateView.{host_of}
use Rattle.rdx_lang.specs.declared.checked.CheckedPat.{CheckedPat}
use Rattle.rdx_lang.specs.declared.template.HostExpr.{HostExpr}
use Rattle.rdx_patterns.specs.Answers.{ReadsPattern}
use Rattle.rdx_patterns.specs.Nonterminals.{names_of}
use Rattle.rdx_patterns.specs.Occurrences.{occurrences}
use Rattle.rdx_patterns.specs.Parts.{text_of}
use Rattle.rdx_patterns.specs.PatternRefusal.{keyword_at, bad_binder_at, bad_occurrence_at, depth_clash_at, escape_at, pattern_refusal}
use Rattle.rdx_patterns.specs.Reading.{reading}
use Rattle.rdx_patterns.specs.Readable.{IsReadable}
use Rattle.rdx_patterns.specs.Refusal.{Refusal, refusal_of, named, or_else}
use Rattle.rdx_patterns.specs.declared.shape.fault.DefFault.{DefFault}
use Rattle.rdx_patterns.specs.declared.shape.fault.DefFault.TheVariants.{Refused, NoMemory}
use Rattle.rdx_patterns.specs.declared.shape.fault.DefKind.TheVariants.{Shape, UnknownLanguage, BadName, BadPattern, EllipsisDepth, RacketEscape}
use Rattle.rdx_patterns.specs.declared.shape.fault.DefRefusal.{DefRefusal}
use Rattle.rdx_patterns.specs.declared.patterns.position.Position.TheVariants as position
use Rattle.rdx_templates.specs.Answers.{ReadsHost}
use Rattle.rdx_templates.specs.TemplateRefusal.{host_refusal}
use Rattle.rdx_forms.specs.HostForms.{parts_of_host, host_shape_at, bad_host_at, undriven_host_at, host_escape_at}
use Rattle.rdx_forms.specs.Known.{Known, or_empty}
use Rattle.rdx_forms.specs.LanguageForms.{named_base, unknown_at, unknown_by}
use Rattle.rdx_forms.specs.MatchForms.{QueryParts, query_parts, query_shape_at, query_refusal, query_over, bad_query_at, query_escape_at}
use Rattle.rdx_forms.specs.Inside.Asking.{IsFit}
use Rattle.rdx_forms.specs.Answers.{IsAsked}
use Rattle.rdx_forms.specs.Reported.{earlier}
use Rattle.rdx_forms.specs.Inside.Earlier.{IsFirstFault}
use Rattle.rdx_forms.specs.Faults.{IsFaultAt, IsRefusedBy}
use Rattle.rdx_forms.proofs.CheckNumbers.{or_none, one-behind, Checks, AreChecks, refused, merge, merged, merge-checks, unnamed-number, named-number}
use Rattle.rdx_forms.proofs.LanguageChecks.{unknown-number}
use Rattle.rdx_forms.proofs.FormParts.{query-items, parts-readable}
use Rattle.rdx_forms.proofs.HostChecks.{host_checks, host-checks, host-refusal, host-refused}

-- ---- the checks of a pattern

-- the checks, over these nonterminals
abbrev pub pattern_checks : List (List ℕ) → Sexp → Checks
pattern_checks ns p =
    (1, keyword_at (occurrences 0 p))
    ∷ (4, bad_binder_at (occurrences 0 p))
    ∷ (5, bad_occurrence_at ns (occurrences 0 p))
    ∷ (6, depth_clash_at ns (occurrences 0 p))
    ∷ (10, escape_at (occurrences 0 p))
    ∷ []

-- their numbers ascend
pub pattern-checks : (ns : List (List ℕ)) (p : Sexp) → AreChecks 0 (pattern_checks ns p)
pattern-checks ns p = (
  omega arith,
  (
    unnamed-number Shape _,
    (
      omega arith,
      (
        named-number BadName _,
        (omega arith, (unnamed-number BadPattern _, (omega arith, (named-number EllipsisDepth _, (omega arith, (unnamed-number RacketEscape _, tt)))))),
      ),
    ),
  ),
)

-- they refuse it
pub pattern-refusal : (ns : List (List ℕ)) (p : Sexp) → pattern_refusal ns p ≡ refused (pattern_checks ns p)
pattern-refusal ns p = refl

-- what is read of it is refused so
pub pattern-refused : (ns : List (List ℕ)) (p : Sexp) (x : Result CheckedPat DefFault) → ReadsPattern ns p x → IsRefusedBy (pattern_refusal ns p) x
pattern-refused ns p (Ok c) a = a.0
pattern-refused ns p (Err (Refused r)) a = a
pattern-refused ns p (Err NoMemory) a = tt

-- ---- the checks of a query that has its shape

module _ (K : Known) (d : Sexp) (q : QueryParts) (f : IsFit d q) where
  -- the nonterminals of its language
  abbrev names : List (List ℕ)
  names = names_of (named_base K (Some q.language))

  -- the check of its language
  abbrev language_check : Checks
  language_check = (2, unknown_at K (Some q.language)) ∷ []

  -- it is refused by these
  chain : query_refusal K d (query_parts d) ≡ refused (merge language_check (merge (pattern_checks names q.pattern) (host_checks K.scope q.host)))
  chain =
      let os = occurrences 0 q.pattern in
      let ps = parts_of_host K q.host in
      let escapes_last : Option Refusal = or_else (query_escape_at os ps) None in
      let bad_last : Option Refusal = or_else (depth_clash_at names os) (or_else (undriven_host_at K ps) escapes_last) in
      let unknown_last : Option Refusal = or_else (unknown_at K (Some q.language)) (or_else (bad_binder_at os) (or_else (bad_query_at names os ps) bad_last)) in
      let behind : Option Refusal → Option Refusal = λ o. or_else (depth_clash_at names os) (or_else (undriven_host_at K ps) o) in
      let before : Option Refusal → Option Refusal = λ o.
      or_else (keyword_at os) (or_else (host_shape_at q.host) (or_else (unknown_at K (Some q.language)) (or_else (bad_binder_at os) o)))
      in
      let between : Option Refusal → Option Refusal = λ o.
      or_else (bad_occurrence_at names os) (or_else (bad_host_at ps) o)
      in
      ap (query_refusal K d) f.parts
      ∙ (λ i. or_else (query_shape_at d (if f.symbol i then Some q else None)) unknown_last)
      ∙ one-behind (keyword_at os) (host_shape_at q.host) unknown_last
      ∙ ap before (one-behind (bad_occurrence_at names os) (bad_host_at ps) bad_last)
      ∙ ap (λ o. before (between (behind o))) (one-behind (escape_at os) (host_escape_at ps) None)

  -- the pattern can be read
  pub pattern-readable : IsReadable d → IsReadable q.pattern
  pattern-readable z =
      let k = query-items d q f.parts in
      (parts-readable d (k.head ∷ q.language ∷ q.pattern ∷ q.host ∷ []) k.are z).1.1.0

  -- and so can the host expression
  pub host-readable : IsReadable d → IsReadable q.host
  host-readable z =
      let k = query-items d q f.parts in
      (parts-readable d (k.head ∷ q.language ∷ q.pattern ∷ q.host ∷ []) k.are z).1.1.1.0

  -- the refusal of its parts that is reported
  parts-refusal : query_refusal K d (query_parts d) ≡ earlier (unknown_at K (Some q.language)) (earlier (pattern_refusal names q.pattern) (host_refusal K.scope [] q.host))
  parts-refusal =
      let ps = pattern-checks names q.pattern in
      let hs = host-checks K.scope q.host in
      let ls : AreChecks 0 language_check = (omega arith, (unknown-number K (Some q.language), tt)) in
      let all = merge (pattern_checks names q.pattern) (host_checks K.scope q.host) in
      chain
      ∙ merged 0 language_check all ls (merge-checks 0 (pattern_checks names q.pattern) (host_checks K.scope q.host) ps hs)
      ∙ (λ i. earlier (or_none (unknown_at K (Some q.language)) i) (merged 0 (pattern_checks names q.pattern) (host_checks K.scope q.host) ps hs i))
      ∙ (λ i. earlier (unknown_at K (Some q.language)) (earlier (sym (pattern-refusal names q.pattern) i) (sym (host-refusal K.scope q.host) i)))

  -- ---- the language is unknown

  -- the refusal of the language's name, or an earlier one of the parts
  pub unknown-fault : {A : Type 0} (ns : List (List ℕ)) (r : DefRefusal) (x : Result CheckedPat DefFault) (y : Result HostExpr DefFault) (z : Result A DefFault) (e : DefFault) → language_named K.program (text_of q.language) ≡ None → ns ≡ []
      → refusal_of r ≡ named UnknownLanguage q.language → ReadsPattern ns q.pattern x → ReadsHost K.scope [] q.host y → ((o p : Option Refusal) → IsRefusedBy o x → IsRefusedBy p y → IsRefusedBy (earlier o p) z) → IsFirstFault r z e
      → IsFaultAt (query_refusal K d (query_parts d)) e
  unknown-fault ns r x y z e n m i a b g h =
      let host = host_refusal K.scope [] q.host in
      let whole : query_refusal K d (query_parts d) ≡ earlier (Some (refusal_of r)) (earlier (pattern_refusal ns q.pattern) host) =
      parts-refusal
      ∙ (λ j. earlier (unknown_by (n j) q.language) (earlier (pattern_refusal (names_of (or_empty (n j))) q.pattern) host))
      ∙ (λ j. earlier (Some (sym i j)) (earlier (pattern_refusal (sym m j) q.pattern) host))
      in
      subst (λ (o : Option Refusal). IsFaultAt o e) (sym whole)
      (h (earlier (pattern_refusal ns q.pattern) host) (g (pattern_refusal ns q.pattern) host (pattern-refused ns q.pattern x a) (host-refused K.scope q.host y b)))

  -- ---- the language L is known

  module _ (L : Language) (k : language_named K.program (text_of q.language) ≡ Some L) where
    -- it is refused where its parts are
    known-refusal : query_refusal K d (query_parts d) ≡ earlier (pattern_refusal (names_of L) q.pattern) (host_refusal K.scope [] q.host)
    known-refusal =
        parts-refusal ∙ λ i. earlier (unknown_by (k i) q.language) (earlier (pattern_refusal (names_of (or_empty (k i))) q.pattern) (host_refusal K.scope [] q.host))

    -- a fault of the parts
    pub parts-fault : (x : Result CheckedPat DefFault) (y : Result HostExpr DefFault) (e : DefFault) → ReadsPattern (names_of L) q.pattern x → ReadsHost K.scope [] q.host y
        → ((o p : Option Refusal) → IsRefusedBy o x → IsRefusedBy p y → IsFaultAt (earlier o p) e)
        → IsFaultAt (query_refusal K d (query_parts d)) e
    parts-fault x y e a b g =
        subst (λ (o : Option Refusal). IsFaultAt o e) (sym known-refusal)
        (g (pattern_refusal (names_of L) q.pattern) (host_refusal K.scope [] q.host) (pattern-refused (names_of L) q.pattern x a) (host-refused K.scope q.host y b))

    -- the parts are read
    pub parts-asked : (c : CheckedPat) (h : HostExpr) (name : List ℕ) → ReadsPattern (names_of L) q.pattern (Ok c) → ReadsHost K.scope [] q.host (Ok h) → name ≡ text_of q.language → IsAsked K d name (pattern_in c) (host_of h)
    parts-asked c h name a b n = record {
      passes = known-refusal ∙ λ i. earlier (a.0 i) (b.0 i);
      means = λ kind. ap (option_map (query_over K kind)) f.parts
          ∙ λ i. Some (kind (sym n i) (pattern_path i) (sym b.1 i));
    }
      where
        pattern_path : reading (names_of (named_base K (Some q.language))) position.Query q.pattern ≡ pattern_in c
        pattern_path = ap (λ (o : Option Language). reading (names_of (or_empty o)) position.Query q.pattern) k ∙ sym a.1

-- ---- names

-- the language by a test, or one behind it
named-by : (b : Bool) (L M : Language) (x : List ℕ) (o : Option Language) → bytes_eq L.name x ≡ b → (o ≡ Some M → M.name ≡ x) → (if b then Some L else o) ≡ Some M → M.name ≡ x
named-by true L M x o e f g = let h : L ≡ M = cc in subst (λ (N : Language). N.name ≡ x) h ((bytes_decides L.name x).0 e)
named-by false L M x o e f g = f g

-- what is known by a name has it
language_among-name : (Ls : List Language) (x : List ℕ) (M : Language) → language_among Ls x ≡ Some M → M.name ≡ x
language_among-name [] x M e = absurd cc
language_among-name (L ∷ Ls) x M e = named-by (bytes_eq L.name x) L M x (language_among Ls x) refl (language_among-name Ls x M) e

-- so it is in a program
pub language_named-name : (P : Program) (x : List ℕ) (M : Language) → language_named P x ≡ Some M → M.name ≡ x
language_named-name P x M e = language_among-name P.languages x M e
