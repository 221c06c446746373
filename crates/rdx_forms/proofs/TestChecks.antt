-- Which check refuses a form of tests over host expressions.
use Rattle.std.proofs.Common.{◌≡◌, ◌++◌, ℕ, ◌+◌, ◌<◌, length, drop, get_or, List, [], ◌∷◌, Option, Some, None, Result, Ok, Err, Vec, map, refl, sym, ◌∙◌, ap, subst, append_assoc, arith}
use Rattle.std.specs.Prelude.{option_map}
use Rattle.std.specs.declared.alloc.Global.{Global}
use Rattle.rdx_sexp.specs.Sexp.{Sexp}
use Rattle.rdx_lang.specs.Programs.{Relation, relation_named}
use Rattle.rdx_lang.specs.Templates.{Host}
use Rattle.rdx_lang.specs.TemplateView.{host_of}
use Rattle.rdx_lang.specs.declared.template.HostExpr.{HostExpr}
use Rattle.rdx_patterns.specs.Parts.{text_of}
use Rattle.rdx_patterns.specs.Readable.{IsReadable}
use Rattle.rdx_patterns.specs.Refusal.{Refusal, refusal_of, named, or_else}
use Rattle.rdx_patterns.specs.declared.shape.fault.DefFault.{DefFault}
use Rattle.rdx_patterns.specs.declared.shape.fault.DefKind.TheVariants.{Shape, BadPattern, UnknownName, EllipsisVariable, RacketEscape}
use Rattle.rdx_patterns.specs.declared.shape.fault.DefRefusal.{DefRefusal}
use Rattle.rdx_templates.specs.Answers.{ReadsHost}
use Rattle.rdx_templates.specs.Earliest.{start, earliest}
use Rattle.rdx_templates.specs.Scope.{Scope}
use Rattle.rdx_templates.specs.TemplateChecks.{bad_parts, undriven_parts, escapes}
use Rattle.rdx_templates.specs.TemplateReading.{host_reading}
use Rattle.rdx_templates.specs.TemplateRefusal.{host_refusal}
use Rattle.rdx_templates.specs.TemplateShapes.{host_shapes}
use Rattle.rdx_forms.specs.HostForms.{parts_of_host, host_of_datum, host_shape_at, bad_host_at, undriven_host_at, host_escape_at}
use Rattle.rdx_forms.specs.Known.{Known}
use Rattle.rdx_answer.specs.Queries.{test_equal}
use Rattle.rdx_forms.specs.StepForms.{unknown_relation_by}
use Rattle.rdx_forms.specs.TestForms.{EqualParts, LeadingParts, equal_parts, leading_parts, hosts_shape_at, bad_hosts_at, undriven_hosts_at, hosts_escape_at, unknown_tested_at, test_refusal_over, equal_refusal, leading_refusal}
use Rattle.rdx_forms.specs.Fitting.{AreReadable}
use Rattle.rdx_forms.specs.Inside.Asking.{hosts_refusal, ReadsHosts, IsEqualFit, IsLeadingFit}
use Rattle.rdx_forms.specs.Answers.{IsSame, IsLeading}
use Rattle.rdx_forms.specs.Reported.{earlier}
use Rattle.rdx_forms.specs.Inside.Earlier.{IsFirstFault}
use Rattle.rdx_forms.specs.Faults.{IsFaultAt, IsRefusedBy}
use Rattle.rdx_patterns.proofs.Rests.{drop-at}
use Rattle.rdx_forms.proofs.CheckNumbers.{or_none, one-behind, HasNumber, Checks, AreChecks, refused, merged, unnamed-number, first-number-of, earlier-assoc, earlier_none}
use Rattle.rdx_forms.proofs.FormParts.{equal-items, leading-items, parts-readable}
use Rattle.rdx_forms.proofs.HostChecks.{host_checks, host-checks, host-refusal, host-refused}
use Rattle.rdx_forms.proofs.StepChecks.{unknown-number}

-- ---- the checks of host expressions in their order

-- the checks, each of all of them
abbrev pub hosts_checks : Known → List Sexp → Checks
hosts_checks K hs = (1, hosts_shape_at hs) ∷ (5, bad_hosts_at K hs) ∷ (9, undriven_hosts_at K hs) ∷ (10, hosts_escape_at K hs) ∷ []

-- their numbers ascend
pub hosts-checks : (K : Known) (hs : List Sexp) → AreChecks 0 (hosts_checks K hs)
hosts-checks K hs =
    let shapes = first-number-of 1 host_shape_at hs (λ h. unnamed-number Shape (earliest start (host_shapes h))) in
    let bad = first-number-of 5 (λ h. bad_host_at (parts_of_host K h)) hs (λ h. unnamed-number BadPattern (earliest start (bad_parts (parts_of_host K h)))) in
    let undriven =
    first-number-of 9 (λ h. undriven_host_at K (parts_of_host K h)) hs
    (λ h. unnamed-number EllipsisVariable (earliest start (undriven_parts K.scope [] (parts_of_host K h))))
    in
    let racket =
    first-number-of 10 (λ h. host_escape_at (parts_of_host K h)) hs (λ h. unnamed-number RacketEscape (earliest start (escapes (parts_of_host K h))))
    in
    (omega arith, (shapes, (omega arith, (bad, (omega arith, (undriven, (omega arith, (racket, tt))))))))

-- four checks, each of one before others, are those of the one among those of the others
one_among : (a b c d e f g h : Option Refusal) → or_else (or_else a b) (or_else (or_else c d) (or_else (or_else e f) (or_else (or_else g h) None)))
    ≡ or_else a (or_else b (or_else c (or_else d (or_else e (or_else f (or_else g (or_else h None)))))))
one_among a b c d e f g h =
    let third : Option Refusal = or_else (or_else g h) None in
    let second : Option Refusal = or_else (or_else e f) third in
    one-behind a b (or_else (or_else c d) second)
    ∙ ap (λ o. or_else a (or_else b o))
    (one-behind c d second
    ∙ ap (λ o. or_else c (or_else d o)) (one-behind e f third ∙ ap (λ o. or_else e (or_else f o)) (one-behind g h None)))

-- what is reported with one host expression more
hosts-more : (K : Known) (h : Sexp) (hs : List Sexp)
    → refused (hosts_checks K (h ∷ hs)) ≡ earlier (refused (host_checks K.scope h)) (refused (hosts_checks K hs))
hosts-more K h hs =
    let ps = parts_of_host K h in
    one_among (host_shape_at h) (hosts_shape_at hs) (bad_host_at ps) (bad_hosts_at K hs) (undriven_host_at K ps) (undriven_hosts_at K hs) (host_escape_at ps)
    (hosts_escape_at K hs)
    ∙ merged 0 (host_checks K.scope h) (hosts_checks K hs) (host-checks K.scope h) (hosts-checks K hs)

-- they refuse them
pub hosts-refusal : (K : Known) (hs : List Sexp) → hosts_refusal K.scope hs ≡ refused (hosts_checks K hs)
hosts-refusal K [] = refl
hosts-refusal K (h ∷ hs) =
    (λ i. earlier (host-refusal K.scope h i) (hosts-refusal K hs i)) ∙ sym (hosts-more K h hs)

-- what is read of them is refused so
hosts-refused : (S : Scope) (ds : List Sexp) (x : Result (Vec HostExpr Global) DefFault) → ReadsHosts S ds x → IsRefusedBy (hosts_refusal S ds) x
hosts-refused S ds (Ok hs) a = a.0
hosts-refused S ds (Err e) a = a

-- ---- host expressions read one by one

-- with the refusal that is kept and what was read, the rest decides what all are
pub record HostsSoFar (S : Scope) (all rest : List Sexp) (kept : Option Refusal) (read : List Host) : Type 0 where
  pub readable : AreReadable rest
  pub refusal : hosts_refusal S all ≡ earlier kept (hosts_refusal S rest)
  pub readings : kept ≡ None → read ++ map (host_reading S []) rest ≡ map (host_reading S []) all

-- the same of what is equal
pub hosts-same : (S : Scope) (all rest : List Sexp) (kept now : Option Refusal) (read all_read : List Host) → kept ≡ now → read ≡ all_read
    → HostsSoFar S all rest kept read → HostsSoFar S all rest now all_read
hosts-same S all rest kept now read all_read e f s =
    subst (λ (o : Option Refusal). HostsSoFar S all rest o all_read) e (subst (HostsSoFar S all rest kept) f s)

-- the next is read
read-next : (S : Scope) (all more : List Sexp) (d : Sexp) (kept : Option Refusal) (read : List Host) (h : HostExpr) → ReadsHost S [] d (Ok h)
    → HostsSoFar S all (d ∷ more) kept read → HostsSoFar S all more kept (read ++ host_of h ∷ [])
read-next S all more d kept read h a s = record {
  readable = s.readable.1;
  refusal = s.refusal ∙ ap (λ o. earlier kept (earlier o (hosts_refusal S more))) a.0;
  readings = λ e. append_assoc read (host_of h ∷ []) (map (host_reading S []) more)
      ∙ ap (λ (x : Host). read ++ x ∷ map (host_reading S []) more) a.1 ∙ s.readings e;
}

-- some refusal is kept
kept-some : (o : Option Refusal) (r : Refusal) → earlier o (Some r) ≡ None → ⊥
kept-some None r e = absurd cc
kept-some (Some q) r e = absurd cc

-- the next is refused
kept-next : (S : Scope) (all more : List Sexp) (d : Sexp) (kept now : Option Refusal) (r : Refusal) (read : List Host) → host_refusal S [] d ≡ Some r
    → now ≡ earlier kept (Some r) → HostsSoFar S all (d ∷ more) kept read → HostsSoFar S all more now read
kept-next S all more d kept now r read a e s = record {
  readable = s.readable.1;
  refusal = s.refusal ∙ ap (λ o. earlier kept (earlier o (hosts_refusal S more))) a ∙ sym (earlier-assoc kept (Some r) (hosts_refusal S more))
      ∙ ap (λ o. earlier o (hosts_refusal S more)) (sym e);
  readings = λ n. absurd (kept-some kept r (sym e ∙ n));
}

-- the one at a place
module _ (S : Scope) (all : List Sexp) (i : ℕ) (d : Sexp) (kept : Option Refusal) (read : List Host) (h : i < length all) (e : d ≡ get_or all i d) where
  -- it is the first of the rest
  at_place : HostsSoFar S all (drop i all) kept read → HostsSoFar S all (d ∷ drop (i + 1) all) kept read
  at_place s = subst (λ (ds : List Sexp). HostsSoFar S all ds kept read) (drop-at all i d h e) s

  -- it is read
  pub hosts-read : (k : HostExpr) → ReadsHost S [] d (Ok k) → HostsSoFar S all (drop i all) kept read
      → HostsSoFar S all (drop (i + 1) all) kept (read ++ host_of k ∷ [])
  hosts-read k a s = read-next S all (drop (i + 1) all) d kept read k a (at_place s)

  -- it is refused
  pub hosts-kept : (r : Refusal) (now : Option Refusal) → host_refusal S [] d ≡ Some r → now ≡ earlier kept (Some r)
      → HostsSoFar S all (drop i all) kept read → HostsSoFar S all (drop (i + 1) all) now read
  hosts-kept r now a f s = kept-next S all (drop (i + 1) all) d kept now r read a f (at_place s)

-- ---- all checks

-- the number of the check of a relation's name
tested-number : (K : Known) (r : Option Sexp) → HasNumber 8 (unknown_tested_at K r)
tested-number K None q e = absurd cc
tested-number K (Some r) q e = unknown-number (relation_named K.program (text_of r)) r q e

-- the refusal over a name and host expressions that is reported
tested-refusal : (K : Known) (d : Sexp) (r : Option Sexp) (hs : List Sexp)
    → test_refusal_over K d r hs ≡ earlier (unknown_tested_at K r) (hosts_refusal K.scope hs)
tested-refusal K d r hs =
    let relation_check : Checks = (8, unknown_tested_at K r) ∷ [] in
    let rs : AreChecks 0 relation_check = (omega arith, (tested-number K r, tt)) in
    merged 0 relation_check (hosts_checks K hs) rs (hosts-checks K hs)
    ∙ (λ i. earlier (or_none (unknown_tested_at K r) i) (sym (hosts-refusal K hs) i))

-- ---- tests of two host expressions

module _ (K : Known) (d : Sexp) (q : EqualParts) (f : IsEqualFit d q) where
  -- both can be read
  pub equal-readable : IsReadable d → IsReadable q.found × IsReadable q.wanted
  equal-readable z =
      let k = equal-items d q f.parts in
      let a = parts-readable d (k.head ∷ q.found ∷ q.wanted ∷ []) k.are z in
      (a.1.0, a.1.1.0)

  -- the refusal that is reported
  equal-reported : equal_refusal K d (equal_parts d) ≡ earlier (host_refusal K.scope [] q.found) (host_refusal K.scope [] q.wanted)
  equal-reported =
      ap (equal_refusal K d) f.parts
      ∙ tested-refusal K d None (q.found ∷ q.wanted ∷ [])
      ∙ ap (earlier (host_refusal K.scope [] q.found)) (earlier_none (host_refusal K.scope [] q.wanted))

  -- a fault of the host expressions
  pub equal-fault : (x y : Result HostExpr DefFault) (e : DefFault) → ReadsHost K.scope [] q.found x → ReadsHost K.scope [] q.wanted y
      → ((o p : Option Refusal) → IsRefusedBy o x → IsRefusedBy p y → IsFaultAt (earlier o p) e)
      → IsFaultAt (equal_refusal K d (equal_parts d)) e
  equal-fault x y e a b g =
      subst (λ (o : Option Refusal). IsFaultAt o e) (sym equal-reported)
      (g (host_refusal K.scope [] q.found) (host_refusal K.scope [] q.wanted) (host-refused K.scope q.found x a) (host-refused K.scope q.wanted y b))

  -- both are read
  pub equal-asked : (h k : HostExpr) → ReadsHost K.scope [] q.found (Ok h) → ReadsHost K.scope [] q.wanted (Ok k) → IsSame K d (host_of h) (host_of k)
  equal-asked h k a b = record {
    passes = equal-reported ∙ λ i. earlier (a.0 i) (b.0 i);
    means = ap (option_map (λ (r : EqualParts). test_equal (host_of_datum K r.found) (host_of_datum K r.wanted))) f.parts
        ∙ λ i. Some (test_equal (sym a.1 i) (sym b.1 i));
  }

-- ---- tests of a relation

module _ (K : Known) (d : Sexp) (q : LeadingParts) (f : IsLeadingFit d q) where
  -- the host expressions can be read
  pub leading-readable : IsReadable d → IsReadable q.from × AreReadable q.wanted
  leading-readable z =
      let k = leading-items d q f.parts in
      (parts-readable d (k.head ∷ q.relation ∷ q.from ∷ q.wanted) k.are z).1.1

  -- the refusal of the host expressions
  abbrev hosts : Option Refusal
  hosts = earlier (host_refusal K.scope [] q.from) (hosts_refusal K.scope q.wanted)

  -- the refusal that is reported
  leading-reported : leading_refusal K d (leading_parts d) ≡ earlier (unknown_relation_by (relation_named K.program (text_of q.relation)) q.relation) hosts
  leading-reported =
      ap (leading_refusal K d) f.parts ∙ tested-refusal K d (Some q.relation) (q.from ∷ q.wanted)

  module _ (x : Result HostExpr DefFault) (y : Result (Vec HostExpr Global) DefFault)
      (a : ReadsHost K.scope [] q.from x) (b : ReadsHosts K.scope q.wanted y) where
    -- the relation is unknown
    pub leading-unknown : {A : Type 0} (z : Result A DefFault) (r : DefRefusal) (e : DefFault) → relation_named K.program (text_of q.relation) ≡ None
        → refusal_of r ≡ named UnknownName q.relation → ((o p : Option Refusal) → IsRefusedBy o x → IsRefusedBy p y → IsRefusedBy (earlier o p) z)
        → IsFirstFault r z e
        → IsFaultAt (leading_refusal K d (leading_parts d)) e
    leading-unknown z r e n m g h =
        let whole : leading_refusal K d (leading_parts d) ≡ earlier (Some (refusal_of r)) hosts =
        leading-reported ∙ (λ i. earlier (unknown_relation_by (n i) q.relation) hosts) ∙ (λ i. earlier (Some (sym m i)) hosts)
        in
        subst (λ (o : Option Refusal). IsFaultAt o e) (sym whole)
        (h hosts (g (host_refusal K.scope [] q.from) (hosts_refusal K.scope q.wanted) (host-refused K.scope q.from x a) (hosts-refused K.scope q.wanted y b)))

    -- the relation is known, and there is a fault of the host expressions
    pub leading-fault : (R : Relation) (e : DefFault) → relation_named K.program (text_of q.relation) ≡ Some R
        → ((o p : Option Refusal) → IsRefusedBy o x → IsRefusedBy p y → IsFaultAt (earlier o p) e)
        → IsFaultAt (leading_refusal K d (leading_parts d)) e
    leading-fault R e k g =
        subst (λ (o : Option Refusal). IsFaultAt o e) (sym (leading-reported ∙ λ i. earlier (unknown_relation_by (k i) q.relation) hosts))
        (g (host_refusal K.scope [] q.from) (hosts_refusal K.scope q.wanted) (host-refused K.scope q.from x a) (hosts-refused K.scope q.wanted y b))

  -- all are read
  pub leading-asked : (R : Relation) (h : HostExpr) (hs : Vec HostExpr Global) (name : List ℕ) → relation_named K.program (text_of q.relation) ≡ Some R
      → ReadsHost K.scope [] q.from (Ok h) → ReadsHosts K.scope q.wanted (Ok hs) → name ≡ text_of q.relation
      → IsLeading K d name (host_of h) (map host_of hs.items)
  leading-asked R h hs name k a b n = record {
    passes = leading-reported ∙ (λ i. earlier (unknown_relation_by (k i) q.relation) hosts) ∙ (λ i. earlier (a.0 i) (b.0 i));
    means = λ kind. ap (option_map (λ (r : LeadingParts). kind (text_of r.relation) (host_of_datum K r.from) (map (host_of_datum K) r.wanted))) f.parts
        ∙ λ i. Some (kind (sym n i) (sym a.1 i) (sym b.1 i));
  }
