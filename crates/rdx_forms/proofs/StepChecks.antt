-- Which check refuses a form that asks for the steps of a relation.
use Rattle.std.proofs.Common.{◌≡◌, ℕ, Bool, true, false, List, [], ◌∷◌, Option, Some, None, Result, Ok, Err, refl, sym, ◌∙◌, ap, subst, arith, if◌then◌else◌}
use Rattle.std.specs.Prelude.{option_map, bytes_eq}
use Rattle.std.specs.Cmp.Lexicographic.{bytes_decides}
use Rattle.rdx_sexp.specs.Sexp.{Sexp}
use Rattle.rdx_lang.specs.Programs.{Program, Relation, relation_among, relation_named}
use Rattle.rdx_lang.specs.TemplateView.{host_of}
use Rattle.rdx_lang.specs.declared.template.HostExpr.{HostExpr}
use Rattle.rdx_patterns.specs.Parts.{text_of}
use Rattle.rdx_patterns.specs.Readable.{IsReadable}
use Rattle.rdx_patterns.specs.Refusal.{Refusal, or_else}
use Rattle.rdx_patterns.specs.declared.shape.fault.DefFault.{DefFault}
use Rattle.rdx_patterns.specs.declared.shape.fault.DefFault.TheVariants.{Refused, NoMemory}
use Rattle.rdx_patterns.specs.declared.shape.fault.DefKind.TheVariants.{UnknownName}
use Rattle.rdx_templates.specs.Answers.{ReadsHost}
use Rattle.rdx_templates.specs.TemplateRefusal.{host_refusal}
use Rattle.rdx_forms.specs.HostForms.{parts_of_host, host_of_datum, bad_host_at, undriven_host_at, host_escape_at}
use Rattle.rdx_forms.specs.Known.{Known}
use Rattle.rdx_forms.specs.StepForms.{StepParts, step_parts, steps_shape_at, unknown_relation_by, unknown_relation_at, steps_refusal}
use Rattle.rdx_forms.specs.Inside.Asking.{IsStepFit}
use Rattle.rdx_forms.specs.Answers.{IsStepping}
use Rattle.rdx_forms.specs.Reported.{earlier}
use Rattle.rdx_forms.specs.Faults.{IsFaultAt, IsRefusedBy}
use Rattle.rdx_forms.proofs.CheckNumbers.{or_none, HasNumber, Checks, AreChecks, refused, merge, merged, named-number}
use Rattle.rdx_forms.proofs.FormParts.{step-items, parts-readable}
use Rattle.rdx_forms.proofs.HostChecks.{host_checks, host-checks, host-refusal, host-refused}

-- the number of the check of the relation's name
pub unknown-number : (o : Option Relation) (r : Sexp) → HasNumber 8 (unknown_relation_by o r)
unknown-number None r q e = named-number UnknownName (Some r) q e
unknown-number (Some R) r q e = absurd cc

module _ (K : Known) (d : Sexp) (q : StepParts) (f : IsStepFit d q) where
  -- the check of its relation
  abbrev relation_check : Checks
  relation_check = (8, unknown_relation_at K (Some q)) ∷ []

  -- it is refused by these
  chain : steps_refusal K d (step_parts d) ≡ refused (merge relation_check (host_checks K.scope q.host))
  chain =
      let ps = parts_of_host K q.host in
      let last =
      or_else (bad_host_at ps) (or_else (unknown_relation_at K (Some q)) (or_else (undriven_host_at K ps) (or_else (host_escape_at ps) None)))
      in
      ap (steps_refusal K d) f.parts
      ∙ λ i. or_else (steps_shape_at d (if f.symbol i then Some q else None)) last

  -- the host expression can be read
  pub host-readable : IsReadable d → IsReadable q.host
  host-readable z =
      let k = step-items d q f.parts in
      (parts-readable d (k.head ∷ q.relation ∷ q.host ∷ []) k.are z).1.1.0

  -- the refusal of its parts that is reported
  parts-refusal : steps_refusal K d (step_parts d) ≡ earlier (unknown_relation_at K (Some q)) (host_refusal K.scope [] q.host)
  parts-refusal =
      let rs : AreChecks 0 relation_check = (omega arith, (unknown-number (relation_named K.program (text_of q.relation)) q.relation, tt)) in
      chain
      ∙ merged 0 relation_check (host_checks K.scope q.host) rs (host-checks K.scope q.host)
      ∙ (λ i. earlier (or_none (unknown_relation_at K (Some q)) i) (sym (host-refusal K.scope q.host) i))

  -- the relation is unknown
  pub unknown-fault : (x : Result HostExpr DefFault) (e : DefFault) (r : Refusal) → relation_named K.program (text_of q.relation) ≡ None → unknown_relation_by None q.relation ≡ Some r → ReadsHost K.scope [] q.host x
      → ((o : Option Refusal) → IsRefusedBy o x → IsFaultAt (earlier (Some r) o) e)
      → IsFaultAt (steps_refusal K d (step_parts d)) e
  unknown-fault x e r n m a g =
      let p : unknown_relation_at K (Some q) ≡ Some r = ap (λ (o : Option Relation). unknown_relation_by o q.relation) n ∙ m in
      subst (λ (o : Option Refusal). IsFaultAt o e) (sym (parts-refusal ∙ ap (λ o. earlier o (host_refusal K.scope [] q.host)) p))
      (g (host_refusal K.scope [] q.host) (host-refused K.scope q.host x a))

  module _ (R : Relation) (k : relation_named K.program (text_of q.relation) ≡ Some R) where
    -- where the relation is known, the form is refused where its host expression is
    known-refusal : steps_refusal K d (step_parts d) ≡ host_refusal K.scope [] q.host
    known-refusal = parts-refusal ∙ λ i. earlier (unknown_relation_by (k i) q.relation) (host_refusal K.scope [] q.host)

    -- a fault of the host expression
    pub host-fault : (e : DefFault) → ReadsHost K.scope [] q.host (Err e) → IsFaultAt (steps_refusal K d (step_parts d)) e
    host-fault e a = subst (λ (o : Option Refusal). IsFaultAt o e) (sym known-refusal) (fault_of e a)
      where
        fault_of : (x : DefFault) → ReadsHost K.scope [] q.host (Err x) → IsFaultAt (host_refusal K.scope [] q.host) x
        fault_of (Refused r) b = b
        fault_of NoMemory b = tt

    -- the host expression is read
    pub host-asked : (h : HostExpr) (name : List ℕ) → ReadsHost K.scope [] q.host (Ok h) → name ≡ text_of q.relation → IsStepping K d name (host_of h)
    host-asked h name a n = record {
      passes = known-refusal ∙ a.0;
      means = λ kind. ap (option_map (λ (r : StepParts). kind (text_of r.relation) (host_of_datum K r.host))) f.parts
          ∙ λ i. Some (kind (sym n i) (sym a.1 i));
    }

-- ---- names

-- the relation by a test, or one behind it
named-by : (b : Bool) (R M : Relation) (x : List ℕ) (o : Option Relation) → bytes_eq R.name x ≡ b → (o ≡ Some M → M.name ≡ x) → (if b then Some R else o) ≡ Some M → M.name ≡ x
named-by true R M x o e f g = let h : R ≡ M = cc in subst (λ (N : Relation). N.name ≡ x) h ((bytes_decides R.name x).0 e)
named-by false R M x o e f g = f g

-- what is known by a name has it
relation_among-name : (Rs : List Relation) (x : List ℕ) (M : Relation) → relation_among Rs x ≡ Some M → M.name ≡ x
relation_among-name [] x M e = absurd cc
relation_among-name (R ∷ Rs) x M e = named-by (bytes_eq R.name x) R M x (relation_among Rs x) refl (relation_among-name Rs x M) e

-- so it is in a program
pub relation_named-name : (P : Program) (x : List ℕ) (M : Relation) → relation_named P x ≡ Some M → M.name ≡ x
relation_named-name P x M e = relation_among-name P.relations x M e
