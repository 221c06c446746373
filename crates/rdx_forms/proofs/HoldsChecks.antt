-- Which check refuses a form that asks whether a premise is met.
use Rattle.std.proofs.Common.{◌≡◌, ℕ, true, List, [], ◌∷◌, Option, Some, None, Result, Ok, Err, IfSome, refl, sym, ◌∙◌, ap, subst, arith}
use Rattle.std.specs.Prelude.{is_some, option_map, IsSome}
use Rattle.rdx_sexp.specs.Sexp.{Sexp}
use Rattle.rdx_lang.specs.Patterns.{Language}
use Rattle.rdx_lang.specs.ProgramView.{premise_of}
use Rattle.rdx_lang.specs.Programs.{Premise, language_named}
use Rattle.rdx_lang.specs.Templates.{Template}
use Rattle.rdx_lang.specs.TemplateView.{template_of}
use Rattle.rdx_patterns.specs.Parts.{parts, text_of}
use Rattle.rdx_patterns.specs.Readable.{IsReadable}
use Rattle.rdx_patterns.specs.Refusal.{Refusal, refusal_of, named_at}
use Rattle.rdx_patterns.specs.declared.shape.fault.DefFault.{DefFault}
use Rattle.rdx_patterns.specs.declared.shape.fault.DefFault.TheVariants.{Refused, NoMemory}
use Rattle.rdx_patterns.specs.declared.shape.fault.DefKind.TheVariants.{UnknownLanguage}
use Rattle.rdx_patterns.specs.declared.shape.fault.DefRefusal.{DefRefusal}
use Rattle.rdx_defs.specs.Answers.{ReadsPremise}
use Rattle.rdx_parts.specs.ExtraReading.{premise_reading}
use Rattle.rdx_parts.specs.Headed.{Headed, headed}
use Rattle.rdx_defs.specs.JudgementRefusal.{lone_premise_stands, premise_refusal}
use Rattle.rdx_templates.specs.Scope.{Scope}
use Rattle.rdx_templates.specs.TemplateReading.{template_reading}
use Rattle.rdx_parts.specs.Stands.{Stand, names_bound, bound_by_premise}
use Rattle.rdx_defs.specs.declared.judgements.premises.ReadPremise.{ReadPremise}
use Rattle.rdx_patterns.specs.Ends.{ends_in}
use Rattle.rdx_patterns.specs.Among.{AreAmong}
use Rattle.rdx_forms.specs.HoldsForms.{HoldsParts, holds_parts, holds_among, lone_parts, lone_among, asked_names, unfound, unfound_for, asked_unknown_at, holds_refusal, asked_premise, holds_by, holds_over, holds_test_by}
use Rattle.rdx_forms.specs.Known.{Known, judgement_language}
use Rattle.rdx_answer.specs.Queries.{holds, test_holds}
use Rattle.rdx_forms.specs.Inside.Asking.{IsHoldsFit}
use Rattle.rdx_forms.specs.Answers.{HoldsAskedBy, IsHolding, IsHoldsTest}
use Rattle.rdx_forms.specs.Reported.{number, earlier}
use Rattle.rdx_forms.specs.Inside.Earlier.{IsUnless}
use Rattle.rdx_forms.specs.Faults.{IsFaultAt, IsRefusedBy}
use Rattle.rdx_forms.proofs.CheckNumbers.{or_none, HasNumber, Checks, AreChecks, refused, merge, merged}
use Rattle.rdx_forms.proofs.ClauseStands.{of_lone_premise}
use Rattle.rdx_forms.proofs.FormParts.{parts-readable}
use Rattle.rdx_forms.proofs.GainingNothing.{parts-ask}
use Rattle.rdx_forms.proofs.StandNumbers.{nameless_checks, nameless-checks, nameless-refusal}

-- ---- the parts can be read

-- those among items
readable-among : (d : Sexp) (o : Option (List Sexp)) (q : HoldsParts) → parts d ≡ o → IsReadable d → holds_among o ≡ Some q → IsReadable q.premise × IfSome q.result IsReadable
readable-among d None q p z e = absurd cc
readable-among d (Some []) q p z e = absurd cc
readable-among d (Some (h ∷ [])) q p z e = absurd cc
readable-among d (Some (h ∷ x ∷ [])) q p z e =
    let r : HoldsParts = record { premise = x; result = None } in
    let f : r ≡ q = cc in
    subst (λ (p : HoldsParts). IsReadable p.premise × IfSome p.result IsReadable) f ((parts-readable d (h ∷ x ∷ []) p z).1.0, tt)
readable-among d (Some (h ∷ x ∷ t ∷ [])) q p z e =
    let r : HoldsParts = record { premise = x; result = Some t } in
    let f : r ≡ q = cc in
    let k = parts-readable d (h ∷ x ∷ t ∷ []) p z in
    subst (λ (p : HoldsParts). IsReadable p.premise × IfSome p.result IsReadable) f (k.1.0, k.1.1.0)
readable-among d (Some (h ∷ x ∷ t ∷ y ∷ ys)) q p z e = absurd cc

-- those of a form
pub holds-readable : (d : Sexp) (q : HoldsParts) → holds_parts d ≡ Some q → IsReadable d → IsReadable q.premise × IfSome q.result IsReadable
holds-readable d q e z = readable-among d (parts d) q refl z e

-- what the premise among items asks for is among what the form does
premise-asks-among : (zs : List (List ℕ)) (d : Sexp) (o : Option (List Sexp)) (q : HoldsParts) → parts d ≡ o → AreAmong (ends_in d) zs → holds_among o ≡ Some q → AreAmong (ends_in q.premise) zs
premise-asks-among zs d None q p a e = absurd cc
premise-asks-among zs d (Some []) q p a e = absurd cc
premise-asks-among zs d (Some (h ∷ [])) q p a e = absurd cc
premise-asks-among zs d (Some (h ∷ x ∷ [])) q p a e =
    let r : HoldsParts = record { premise = x; result = None } in
    let f : r ≡ q = cc in
    subst (λ (p : HoldsParts). AreAmong (ends_in p.premise) zs) f (parts-ask zs d (h ∷ x ∷ []) p a).1.0
premise-asks-among zs d (Some (h ∷ x ∷ t ∷ [])) q p a e =
    let r : HoldsParts = record { premise = x; result = Some t } in
    let f : r ≡ q = cc in
    subst (λ (p : HoldsParts). AreAmong (ends_in p.premise) zs) f (parts-ask zs d (h ∷ x ∷ t ∷ []) p a).1.0
premise-asks-among zs d (Some (h ∷ x ∷ t ∷ y ∷ ys)) q p a e = absurd cc

-- that of a form
pub premise-asks : (zs : List (List ℕ)) (d : Sexp) (q : HoldsParts) → holds_parts d ≡ Some q → AreAmong (ends_in d) zs → AreAmong (ends_in q.premise) zs
premise-asks zs d q e a = premise-asks-among zs d (parts d) q refl a e

-- what holds of the image of something holds of it
pub some-mapped : {A B : Type 0} (f : A → B) (P : B → Type 0) (o : Option A) → IfSome (option_map f o) P → IfSome o (λ x. P (f x))
some-mapped f P None k = tt
some-mapped f P (Some x) k = k

-- ---- the language of the judgement

-- the number of its check
unfound-number : (o : Option Language) (j : Sexp) (l : List ℕ) → HasNumber 2 (unfound o j l)
unfound-number None j l r e = let f : named_at UnknownLanguage j l ≡ r = cc in ap (λ (q : Refusal). number q.kind) (sym f)
unfound-number (Some L) j l r e = absurd cc

unfound_for-number : (K : Known) (j : Sexp) (o : Option (List ℕ)) → HasNumber 2 (unfound_for K j o)
unfound_for-number K j None r e = absurd cc
unfound_for-number K j (Some l) r e = unfound-number (language_named K.program l) j l r e

asked-number : (K : Known) (o : Option Headed) → HasNumber 2 (asked_unknown_at K o)
asked-number K None r e = absurd cc
asked-number K (Some q) r e = unfound_for-number K q.head (judgement_language K (text_of q.head)) r e

-- ---- what is read

-- what is read of the parts is refused so
premise-refused : (S : Scope) (ns : List (List ℕ)) (d : Sexp) (t : Option Sexp) (r : Result ReadPremise DefFault) → ReadsPremise S ns d t r → IsRefusedBy (premise_refusal S ns d t) r
premise-refused S ns d t (Ok q) a = a.passes
premise-refused S ns d t (Err (Refused r)) a = a
premise-refused S ns d t (Err NoMemory) a = tt

-- a premise, and the template behind it, make the query
means-by : (K : Known) (h : HoldsParts) (q : ReadPremise) (o : Option Headed) (p : Headed) → headed h.premise ≡ o → o ≡ Some p → premise_of q.premise ≡ premise_reading K.scope (asked_names K o) [] p
    → option_map template_of q.result ≡ option_map (template_reading K.scope (names_bound (bound_by_premise K.scope (asked_names K o) o))) h.result
    → option_map (holds_over K h.result) o ≡ Some (holds (premise_of q.premise) (option_map template_of q.result))
means-by K h q None p e f a b = absurd cc
means-by K h q (Some r) p e f a b =
    let g : r ≡ p = cc in
    let c : premise_of q.premise ≡ premise_reading K.scope (asked_names K (Some r)) [] r =
    subst (λ (s : Headed). premise_of q.premise ≡ premise_reading K.scope (asked_names K (Some r)) [] s) (sym g) a
    in
    λ i. Some (holds (sym c i) (sym b i))

module _ (K : Known) (d : Sexp) (h : HoldsParts) (f : IsHoldsFit d h) where
  -- the nonterminals of the language
  abbrev names : List (List ℕ)
  names = asked_names K (headed h.premise)

  -- what stands in the parts
  abbrev stands : List Stand
  stands = lone_premise_stands K.scope names h.premise h.result

  -- the check of the language
  abbrev language_check : Checks
  language_check = (2, asked_unknown_at K (headed h.premise)) ∷ []

  -- the form is refused by these
  chain : holds_refusal K d (holds_parts d) ≡ refused (merge language_check (nameless_checks K.scope names stands))
  chain = ap (holds_refusal K d) f.parts

  -- the refusal that is reported
  parts-refusal : holds_refusal K d (holds_parts d) ≡ earlier (asked_unknown_at K (headed h.premise)) (premise_refusal K.scope names h.premise h.result)
  parts-refusal =
      let ls : AreChecks 0 language_check = (omega arith, (asked-number K (headed h.premise), tt)) in
      chain
      ∙ merged 0 language_check (nameless_checks K.scope names stands) ls (nameless-checks K.scope names stands)
      ∙ λ i. earlier (or_none (asked_unknown_at K (headed h.premise)) i)
      (sym (nameless-refusal K.scope names stands (of_lone_premise K.scope names h.premise h.result)) i)

  -- the language is known, or the file has not the judgement
  as_read : (r : Result ReadPremise DefFault) → asked_unknown_at K (headed h.premise) ≡ None → ReadsPremise K.scope names h.premise h.result r → HoldsAskedBy K d r
  as_read (Ok q) e a = record {
    passes = parts-refusal ∙ λ i. earlier (e i) (a.passes i);
    means = ap (holds_by K) f.parts ∙ means-by K h q (headed h.premise) a.parts refl a.is_form a.is_read a.result;
  }
  as_read (Err (Refused r)) e a = parts-refusal ∙ ap (λ (o : Option Refusal). earlier o (premise_refusal K.scope names h.premise h.result)) e ∙ a
  as_read (Err NoMemory) e a = tt

  -- the answer, by what is said of the language
  pub holds-asked : (t : Option DefRefusal) (r z : Result ReadPremise DefFault) → option_map refusal_of t ≡ asked_unknown_at K (headed h.premise) → ReadsPremise K.scope names h.premise h.result r → IsUnless t r z → HoldsAskedBy K d z
  holds-asked None r z e a u = subst (HoldsAskedBy K d) (sym u) (as_read r (sym e) a)
  holds-asked (Some q) r (Ok v) e a u = absurd u
  holds-asked (Some q) r (Err x) e a u =
      subst (λ (o : Option Refusal). IsFaultAt o x)
      (ap (λ (o : Option Refusal). earlier o (premise_refusal K.scope names h.premise h.result)) e ∙ sym parts-refusal)
      (u (premise_refusal K.scope names h.premise h.result) (premise-refused K.scope names h.premise h.result r a))

-- ---- tests

-- what something is mapped to is something
pub some-image : {A B : Type 0} (f : A → B) (o : Option A) (p : Option B) → option_map f o ≡ p → is_some o ≡ true → is_some p ≡ true
some-image f None p e s = absurd cc
some-image f (Some x) p e s = ap is_some (sym e)

-- a premise alone is that of a form with or without a template
lone-among : (o : Option (List Sexp)) → is_some (lone_among o) ≡ true → holds_among o ≡ lone_among o
lone-among None e = absurd cc
lone-among (Some []) e = absurd cc
lone-among (Some (h ∷ [])) e = absurd cc
lone-among (Some (h ∷ x ∷ [])) e = refl
lone-among (Some (h ∷ x ∷ y ∷ ys)) e = absurd cc

-- what asks for a premise, without its template, tests it
tested-by : (K : Known) (s : Option Sexp) (o : Option Headed) (q : Premise) (t : Option Template) → option_map (holds_over K s) o ≡ Some (holds q t)
    → option_map (λ (p : Headed). test_holds (asked_premise K p)) o ≡ Some (test_holds q)
tested-by K s None q t e = absurd cc
tested-by K s (Some p) q t e = let f : asked_premise K p ≡ q = cc in ap (λ (r : Premise). Some (test_holds r)) f

tested-parts : (K : Known) (o : Option HoldsParts) (q : Premise) (t : Option Template) → holds_by K o ≡ Some (holds q t)
    → holds_test_by K o ≡ Some (test_holds q)
tested-parts K None q t e = absurd cc
tested-parts K (Some h) q t e = tested-by K h.result (headed h.premise) q t e

module _ (K : Known) (d : Sexp) (s : IsSome (lone_parts d)) where
  -- a test that has its parts has those of a form that asks for its premise
  lone : holds_parts d ≡ lone_parts d
  lone = lone-among (parts d) s

  -- so it tests the premise for which that asks
  pub holds-tested : (q : Premise) (t : Option Template) → IsHolding K d q t → IsHoldsTest K d q
  holds-tested q t a = record {
    passes = ap (holds_refusal K d) (sym lone) ∙ a.passes;
    means = ap (holds_test_by K) (sym lone) ∙ tested-parts K (holds_parts d) q t a.means;
  }
