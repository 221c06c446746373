-- Which check refuses a form that asks under the binding forms of a language.
use Rattle.std.proofs.Common.{◌≡◌, ℕ, List, [], ◌∷◌, Option, Some, None, Result, Ok, sym, ◌∙◌, ap, subst, arith}
use Rattle.std.specs.Prelude.{option_map}
use Rattle.rdx_sexp.specs.Sexp.{Sexp}
use Rattle.rdx_answer.specs.Bound.{forms_named}
use Rattle.rdx_answer.specs.Queries.{alike, substituted}
use Rattle.rdx_lang.specs.TemplateView.{host_of}
use Rattle.rdx_lang.specs.declared.template.HostExpr.{HostExpr}
use Rattle.rdx_patterns.specs.Parts.{text_of}
use Rattle.rdx_patterns.specs.Readable.{IsReadable}
use Rattle.rdx_patterns.specs.Refusal.{Refusal}
use Rattle.rdx_patterns.specs.declared.shape.fault.DefFault.{DefFault}
use Rattle.rdx_templates.specs.Answers.{ReadsHost}
use Rattle.rdx_templates.specs.TemplateRefusal.{host_refusal}
use Rattle.rdx_forms.specs.AlphaForms.{AlikeParts, PutParts, alike_parts, put_parts, bound_refusal_over, alike_refusal, put_refusal}
use Rattle.rdx_forms.specs.Answers.{IsAlikeAsked, IsPutAsked}
use Rattle.rdx_forms.specs.Faults.{IsFaultAt, IsRefusedBy}
use Rattle.rdx_forms.specs.HostForms.{host_of_datum}
use Rattle.rdx_forms.specs.Inside.Asking.{IsAlikeFit, IsPutFit, hosts_refusal}
use Rattle.rdx_forms.specs.Known.{Known}
use Rattle.rdx_forms.specs.LanguageForms.{unknown_at}
use Rattle.rdx_forms.specs.Reported.{earlier}
use Rattle.rdx_forms.proofs.CheckNumbers.{or_none, Checks, AreChecks, merged, earlier_none}
use Rattle.rdx_forms.proofs.FormParts.{alike-items, put-items, parts-readable}
use Rattle.rdx_forms.proofs.HostChecks.{host-refused}
use Rattle.rdx_forms.proofs.LanguageChecks.{unknown-number}
use Rattle.rdx_forms.proofs.TestChecks.{hosts_checks, hosts-checks, hosts-refusal}

-- ---- a language's name, and host expressions

-- the refusal over both that is reported
bound-refusal : (K : Known) (d l : Sexp) (hs : List Sexp)
    → bound_refusal_over K d l hs ≡ earlier (unknown_at K (Some l)) (hosts_refusal K.scope hs)
bound-refusal K d l hs =
    let language_check : Checks = (2, unknown_at K (Some l)) ∷ [] in
    let ls : AreChecks 0 language_check = (omega arith, (unknown-number K (Some l), tt)) in
    merged 0 language_check (hosts_checks K hs) ls (hosts-checks K hs)
    ∙ (λ i. earlier (or_none (unknown_at K (Some l)) i) (sym (hosts-refusal K hs) i))

-- ---- whether terms are alpha equivalent

module _ (K : Known) (d : Sexp) (q : AlikeParts) (f : IsAlikeFit d q) where
  -- both can be read
  pub alike-readable : IsReadable d → IsReadable q.one × IsReadable q.other
  alike-readable z =
      let k = alike-items d q f.parts in
      let a = parts-readable d (k.head ∷ q.language ∷ q.one ∷ q.other ∷ []) k.are z in
      (a.1.1.0, a.1.1.1.0)

  -- the refusal that is reported
  pub alike-reported : alike_refusal K d (alike_parts d)
      ≡ earlier (unknown_at K (Some q.language)) (earlier (host_refusal K.scope [] q.one) (host_refusal K.scope [] q.other))
  alike-reported =
      ap (alike_refusal K d) f.parts
      ∙ bound-refusal K d q.language (q.one ∷ q.other ∷ [])
      ∙ ap (λ o. earlier (unknown_at K (Some q.language)) (earlier (host_refusal K.scope [] q.one) o)) (earlier_none (host_refusal K.scope [] q.other))

  -- what the name and the host expressions are refused by is the fault
  pub alike-fault : {A B : Type 0} (x : Result A DefFault) (y z : Result HostExpr DefFault) (hosts : Result B DefFault) (e : DefFault)
      → IsRefusedBy (unknown_at K (Some q.language)) x → ReadsHost K.scope [] q.one y → ReadsHost K.scope [] q.other z
      → ((o p : Option Refusal) → IsRefusedBy o y → IsRefusedBy p z → IsRefusedBy (earlier o p) hosts)
      → ((o p : Option Refusal) → IsRefusedBy o x → IsRefusedBy p hosts → IsFaultAt (earlier o p) e)
      → IsFaultAt (alike_refusal K d (alike_parts d)) e
  alike-fault x y z hosts e u a b g h =
      subst (λ (o : Option Refusal). IsFaultAt o e) (sym alike-reported)
      (h (unknown_at K (Some q.language)) (earlier (host_refusal K.scope [] q.one) (host_refusal K.scope [] q.other)) u
      (g (host_refusal K.scope [] q.one) (host_refusal K.scope [] q.other) (host-refused K.scope q.one y a) (host-refused K.scope q.other z b)))

  -- all are read
  pub alike-asked : (name : List ℕ) (h k : HostExpr) → unknown_at K (Some q.language) ≡ None → name ≡ text_of q.language
      → ReadsHost K.scope [] q.one (Ok h) → ReadsHost K.scope [] q.other (Ok k) → IsAlikeAsked K d name (host_of h) (host_of k)
  alike-asked name h k u n a b = record {
    passes = alike-reported ∙ λ i. earlier (u i) (earlier (a.0 i) (b.0 i));
    means = ap (option_map (λ (r : AlikeParts). alike (forms_named K.forms (text_of r.language)) (host_of_datum K r.one) (host_of_datum K r.other))) f.parts
        ∙ λ i. Some (alike (forms_named K.forms (sym n i)) (sym a.1 i) (sym b.1 i));
  }

-- ---- a term put for a symbol

module _ (K : Known) (d : Sexp) (q : PutParts) (f : IsPutFit d q) where
  -- all can be read
  pub put-readable : IsReadable d → IsReadable q.whole × (IsReadable q.symbol × IsReadable q.value)
  put-readable z =
      let k = put-items d q f.parts in
      let a = parts-readable d (k.head ∷ q.language ∷ q.whole ∷ q.symbol ∷ q.value ∷ []) k.are z in
      (a.1.1.0, (a.1.1.1.0, a.1.1.1.1.0))

  -- the refusal that is reported
  pub put-reported : put_refusal K d (put_parts d)
      ≡ earlier (unknown_at K (Some q.language))
      (earlier (host_refusal K.scope [] q.whole) (earlier (host_refusal K.scope [] q.symbol) (host_refusal K.scope [] q.value)))
  put-reported =
      ap (put_refusal K d) f.parts
      ∙ bound-refusal K d q.language (q.whole ∷ q.symbol ∷ q.value ∷ [])
      ∙ ap (λ o. earlier (unknown_at K (Some q.language)) (earlier (host_refusal K.scope [] q.whole) (earlier (host_refusal K.scope [] q.symbol) o)))
      (earlier_none (host_refusal K.scope [] q.value))

  -- what the name and the host expressions are refused by is the fault
  pub put-fault : {A B C : Type 0} (x : Result A DefFault) (y z v : Result HostExpr DefFault) (inner : Result B DefFault) (hosts : Result C DefFault) (e : DefFault)
      → IsRefusedBy (unknown_at K (Some q.language)) x
      → ReadsHost K.scope [] q.whole y → ReadsHost K.scope [] q.symbol z → ReadsHost K.scope [] q.value v
      → ((o p : Option Refusal) → IsRefusedBy o z → IsRefusedBy p v → IsRefusedBy (earlier o p) inner)
      → ((o p : Option Refusal) → IsRefusedBy o y → IsRefusedBy p inner → IsRefusedBy (earlier o p) hosts)
      → ((o p : Option Refusal) → IsRefusedBy o x → IsRefusedBy p hosts → IsFaultAt (earlier o p) e)
      → IsFaultAt (put_refusal K d (put_parts d)) e
  put-fault x y z v inner hosts e u a b c m g h =
      let last : Option Refusal = earlier (host_refusal K.scope [] q.symbol) (host_refusal K.scope [] q.value) in
      subst (λ (o : Option Refusal). IsFaultAt o e) (sym put-reported)
      (h (unknown_at K (Some q.language)) (earlier (host_refusal K.scope [] q.whole) last) u
      (g (host_refusal K.scope [] q.whole) last (host-refused K.scope q.whole y a)
      (m (host_refusal K.scope [] q.symbol) (host_refusal K.scope [] q.value) (host-refused K.scope q.symbol z b) (host-refused K.scope q.value v c))))

  -- all are read
  pub put-asked : (name : List ℕ) (h k v : HostExpr) → unknown_at K (Some q.language) ≡ None → name ≡ text_of q.language
      → ReadsHost K.scope [] q.whole (Ok h) → ReadsHost K.scope [] q.symbol (Ok k) → ReadsHost K.scope [] q.value (Ok v)
      → IsPutAsked K d name (host_of h) (host_of k) (host_of v)
  put-asked name h k v u n a b c = record {
    passes = put-reported ∙ λ i. earlier (u i) (earlier (a.0 i) (earlier (b.0 i) (c.0 i)));
    means = ap
        (option_map (λ (r : PutParts). substituted (forms_named K.forms (text_of r.language)) (host_of_datum K r.whole) (host_of_datum K r.symbol) (host_of_datum K r.value)))
        f.parts
        ∙ λ i. Some (substituted (forms_named K.forms (sym n i)) (sym a.1 i) (sym b.1 i) (sym c.1 i));
  }
