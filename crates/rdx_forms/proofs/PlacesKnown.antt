-- What a name stands for, at the place that the table of its kind has for it.
use Rattle.std.proofs.Common.{◌≡◌, ◌∙◌, ◌<◌, ℕ, List, Global, length, get_or, map, Option, Some, None, IfSome, IfNone, refl, ap}
use Rattle.std.specs.Prelude.{is_some}
use Rattle.std.specs.Rc.{rc_str_bytes}
use Rattle.std.specs.declared.rc.RcStr.{RcStr}
use Rattle.rdx_term.specs.declared.name.Name.{Name}
use Rattle.rdx_lang.specs.Checked.{language_in}
use Rattle.rdx_lang.specs.Model.Places.{place_from}
use Rattle.rdx_lang.specs.ProgramView.{relation_of}
use Rattle.rdx_lang.specs.Programs.{Judgement, Metafunction, judgement_among, language_among, metafunction_among, relation_among}
use Rattle.rdx_lang.specs.declared.checked.CheckedLang.{CheckedLang}
use Rattle.rdx_lang.specs.declared.program.Relation.{Relation}
use Rattle.rdx_lang.proofs.FirstPlaces.{none-stands, place-among, place-map, stands-at}
use Rattle.rdx_forms.specs.Known.{paired_with}

-- what holds of the value that there is
pub if-found : (o : Option ℕ) (P : ℕ → Type 0) → ((j : ℕ) → o ≡ Some j → P j) → IfSome o P
if-found None P f = tt
if-found (Some j) P f = f j refl

-- what holds where there is none
pub if-missing : (o : Option ℕ) (P : Type 0) → (o ≡ None → P) → IfNone o P
if-missing None P f = f refl
if-missing (Some j) P f = tt

-- the first place of a text
abbrev first_place : List ℕ → List (List ℕ) → Option ℕ
first_place x ys = place_from (λ y. y) 0 x ys

module _ (ls : List CheckedLang) (x : List ℕ) (o : Option ℕ) (e : o ≡ first_place x (map (λ L. L.name) (map language_in ls))) where
  language-place : o ≡ place_from (λ l. (language_in l).name) 0 x ls
  language-place = e ∙ place-map (λ y. y) (λ L. L.name) 0 x (map language_in ls) ∙ place-map (λ L. L.name) language_in 0 x ls

  pub language-stands : (j : ℕ) → o ≡ Some j → (j < length ls) × ((d : CheckedLang) → language_among (map language_in ls) x ≡ Some (language_in (get_or ls j d)))
  language-stands j f =
      let s = stands-at (λ l. (language_in l).name) language_in (λ ks. language_among (map language_in ks)) (λ y. refl) (λ k ks y. refl) ls x o j language-place f in
      (s.within, s.stands)

  pub no-language : o ≡ None → language_among (map language_in ls) x ≡ None
  no-language f = none-stands (λ l. (language_in l).name) language_in (λ ks. language_among (map language_in ks)) (λ y. refl) (λ k ks y. refl) ls x o language-place f

  pub is-language : is_some o ≡ is_some (language_among (map language_in ls) x)
  is-language = ap is_some language-place ∙ place-among (λ l. (language_in l).name) language_in (λ ks. language_among (map language_in ks)) (λ y. refl) (λ k ks y. refl) 0 x ls

module _ (rs : List Relation) (x : List ℕ) (o : Option ℕ) (e : o ≡ first_place x (map (λ R. R.name) (map relation_of rs))) where
  relation-place : o ≡ place_from (λ r. (relation_of r).name) 0 x rs
  relation-place = e ∙ place-map (λ y. y) (λ R. R.name) 0 x (map relation_of rs) ∙ place-map (λ R. R.name) relation_of 0 x rs

  pub relation-stands : (j : ℕ) → o ≡ Some j → (j < length rs) × ((d : Relation) → relation_among (map relation_of rs) x ≡ Some (relation_of (get_or rs j d)))
  relation-stands j f =
      let s = stands-at (λ r. (relation_of r).name) relation_of (λ ks. relation_among (map relation_of ks)) (λ y. refl) (λ k ks y. refl) rs x o j relation-place f in
      (s.within, s.stands)

  pub no-relation : o ≡ None → relation_among (map relation_of rs) x ≡ None
  no-relation f = none-stands (λ r. (relation_of r).name) relation_of (λ ks. relation_among (map relation_of ks)) (λ y. refl) (λ k ks y. refl) rs x o relation-place f

-- the name of a judgement with that of its language
abbrev pub in_language : Name × RcStr Global → List ℕ × List ℕ
in_language p = (p.0, rc_str_bytes p.1)

module _ (ps : List (Name × RcStr Global)) (x : List ℕ) (o : Option ℕ) (e : o ≡ first_place x (map (λ p. p.0) ps)) where
  pair-place : o ≡ place_from (λ (p : Name × RcStr Global). p.0) 0 x ps
  pair-place = e ∙ place-map (λ y. y) (λ p. p.0) 0 x ps

  pub pair-stands : (j : ℕ) → o ≡ Some j → (j < length ps) × ((d : Name × RcStr Global) → paired_with (map in_language ps) x ≡ Some (rc_str_bytes (get_or ps j d).1))
  pair-stands j f =
      let s = stands-at (λ p. p.0) (λ p. rc_str_bytes p.1) (λ qs. paired_with (map in_language qs)) (λ y. refl) (λ k ks y. refl) ps x o j pair-place f in
      (s.within, s.stands)

  pub no-pair : o ≡ None → paired_with (map in_language ps) x ≡ None
  no-pair f = none-stands (λ p. p.0) (λ p. rc_str_bytes p.1) (λ qs. paired_with (map in_language qs)) (λ y. refl) (λ k ks y. refl) ps x o pair-place f

-- a metafunction has a name where it has a place
pub is-function : (Ms : List Metafunction) (x : List ℕ) (o : Option ℕ) → o ≡ first_place x (map (λ M. M.name) Ms) → is_some o ≡ is_some (metafunction_among Ms x)
is-function Ms x o e =
    ap is_some (e ∙ place-map (λ y. y) (λ M. M.name) 0 x Ms)
    ∙ place-among (λ M. M.name) (λ M. M) metafunction_among (λ y. refl) (λ k ks y. refl) 0 x Ms

-- so has a judgement
pub is-judgement : (Js : List Judgement) (x : List ℕ) (o : Option ℕ) → o ≡ first_place x (map (λ J. J.name) Js) → is_some o ≡ is_some (judgement_among Js x)
is-judgement Js x o e =
    ap is_some (e ∙ place-map (λ y. y) (λ J. J.name) 0 x Js)
    ∙ place-among (λ J. J.name) (λ J. J) judgement_among (λ y. refl) (λ k ks y. refl) 0 x Js
