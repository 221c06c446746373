-- The refusal of a form over a language, by that of what stands in it.
use Rattle.std.proofs.Common.{◌≡◌, ◌∙◌, ℕ, Bool, true, false, List, [], ◌∷◌, Option, Some, None, refl, sym, ap, if◌then◌else◌}
use Rattle.std.specs.Prelude.{is_some, codes, option_map}
use Rattle.rdx_sexp.specs.Sexp.{Sexp}
use Rattle.rdx_patterns.specs.Parts.{is_word}
use Rattle.rdx_patterns.specs.Refusal.{Refusal, unnamed, named, or_else, first_refusal}
use Rattle.rdx_patterns.specs.declared.shape.fault.DefKind.TheVariants.{Shape, UnknownLanguage, BadName, BadPattern, EllipsisDepth, UnknownName, EllipsisVariable, RacketEscape}
use Rattle.rdx_patterns.proofs.Firsts.{none_of}
use Rattle.rdx_templates.specs.Earliest.{start, earliest}
use Rattle.rdx_templates.specs.Scope.{Scope}
use Rattle.rdx_parts.specs.StandChecks.{shape_faults, shape_at, repeated_names, repeated_at, repeated_name_at, bad_names, bad_name_at, bad_places, bad_place_at, depth_faults, depth_fault_at, unknown_names, unknown_name_at, undriven_places, undriven_at, escape_places, escape_at, mode_faults, misfit_start, misfit_at, mode_fault_at}
use Rattle.rdx_parts.specs.StandRefusal.{stands_refusal}
use Rattle.rdx_parts.specs.Stands.{Stand}
use Rattle.rdx_relations.specs.Inside.Misshaped.{is_of_shape, is_misshaped}
use Rattle.rdx_relations.specs.LanguageRefusal.{unnamable_language_at, refusal_over}

-- ---- a language that some form may define

-- two checks around one that refuses nothing
around : (a r : Option Refusal) → or_else a (or_else None (or_else (or_else a r) None)) ≡ or_else a r
around None None = refl
around None (Some x) = refl
around (Some x) r = refl

-- the checks behind that of shapes
abbrev behind_shapes : Scope → List (List ℕ) → List Stand → List (Option Refusal)
behind_shapes S ns ss =
    repeated_name_at ss ∷ bad_name_at ss ∷ bad_place_at S ns ss ∷ depth_fault_at S ns ss ∷ unknown_name_at S ss
    ∷ undriven_at S ss ∷ escape_at S ss ∷ mode_fault_at ss ∷ []

-- then what stands in the form decides alone
pub nameable-over : (S : Scope) (ns : List (List ℕ)) (o : Option Sexp) (ss : List Stand) → unnamable_language_at o ≡ None → refusal_over S ns o ss ≡ stands_refusal S ns ss
nameable-over S ns o ss e =
    (λ i. first_refusal (shape_at ss ∷ e i ∷ stands_refusal S ns ss ∷ [])) ∙ around (shape_at ss) (first_refusal (behind_shapes S ns ss))

-- where nothing is refused, neither the name nor what stands in the form is
pub none-over : (S : Scope) (ns : List (List ℕ)) (o : Option Sexp) (ss : List Stand) → refusal_over S ns o ss ≡ None
    → (unnamable_language_at o ≡ None) × (stands_refusal S ns ss ≡ None)
none-over S ns o ss e =
    let a = none_of (shape_at ss) (unnamable_language_at o ∷ stands_refusal S ns ss ∷ []) e in
    let b = none_of (unnamable_language_at o) (stands_refusal S ns ss ∷ []) a.1 in
    (b.0, (none_of (stands_refusal S ns ss) [] b.1).0)

-- the refusal, where a test holds
abbrev when_hole : Bool → Sexp → Option Refusal
when_hole b l = if b then Some (named UnknownLanguage l) else None

-- such a name is another than `hole`
pub nameable-word : (l : Sexp) → unnamable_language_at (Some l) ≡ None → is_word (codes "hole") l ≡ false
nameable-word l = by_test (is_word (codes "hole") l)
  where
    by_test : (b : Bool) → when_hole b l ≡ None → b ≡ false
    by_test true e = absurd cc
    by_test false e = refl

-- ---- the refusal of what has not its shape

-- one of another check
other-check : {A : Type 0} (f : A → Refusal) (o : Option A) → ((x : A) → is_of_shape (f x).kind ≡ false) → is_misshaped (option_map f o) ≡ false
other-check f None h = refl
other-check f (Some x) h = h x

-- or of one of two
other-both : (o p : Option Refusal) → is_misshaped o ≡ false → is_misshaped p ≡ false → is_misshaped (or_else o p) ≡ false
other-both None p h k = k
other-both (Some r) p h k = h

-- no other check is of shapes
behind-shapes : (S : Scope) (ns : List (List ℕ)) (ss : List Stand) → is_misshaped (first_refusal (behind_shapes S ns ss)) ≡ false
behind-shapes S ns ss =
    other-both (repeated_name_at ss) _ (other-check repeated_at (earliest start (repeated_names [] ss)) (λ x. refl))
    (other-both (bad_name_at ss) _ (other-check (named BadName) (earliest start (bad_names ss)) (λ x. refl))
    (other-both (bad_place_at S ns ss) _ (other-check (unnamed BadPattern) (earliest start (bad_places S ns ss)) (λ x. refl))
    (other-both (depth_fault_at S ns ss) _ (other-check (named EllipsisDepth) (earliest start (depth_faults S ns ss)) (λ x. refl))
    (other-both (unknown_name_at S ss) _ (other-check (named UnknownName) (earliest start (unknown_names S ss)) (λ x. refl))
    (other-both (undriven_at S ss) _ (other-check (unnamed EllipsisVariable) (earliest start (undriven_places S ss)) (λ x. refl))
    (other-both (escape_at S ss) _ (other-check (unnamed RacketEscape) (earliest start (escape_places S ss)) (λ x. refl))
    (other-both (mode_fault_at ss) _ (other-check misfit_at (earliest misfit_start (mode_faults ss)) (λ x. refl)) refl)))))))

-- so the refusal is of shapes exactly where something has not its shape
misshaped-first : (o : Option Sexp) (r : Option Refusal) → is_misshaped r ≡ false → is_misshaped (or_else (option_map (unnamed Shape) o) r) ≡ is_some o
misshaped-first None r h = h
misshaped-first (Some d) r h = refl

-- then it comes before all others
first-of-all : (o : Option Sexp) (p q r : Option Refusal) → is_some o ≡ true → or_else (option_map (unnamed Shape) o) p ≡ or_else (option_map (unnamed Shape) o) q
first-of-all None p q r e = absurd cc
first-of-all (Some d) p q r e = refl

-- and else it is none of them
none-first : (o : Option Sexp) (p : Option Refusal) → is_some o ≡ false → or_else (option_map (unnamed Shape) o) p ≡ p
none-first None p e = refl
none-first (Some d) p e = absurd cc

module _ (S : Scope) (ns : List (List ℕ)) (ss : List Stand) (l : Sexp) where
  abbrev misshapen : Option Sexp
  misshapen = earliest start (shape_faults ss)

  stands-shapes : is_misshaped (stands_refusal S ns ss) ≡ is_some misshapen
  stands-shapes = misshaped-first misshapen (first_refusal (behind_shapes S ns ss)) (behind-shapes S ns ss)

  -- another name than `hole`, or something that has not its shape
  pub stays-over : (o : Option Refusal) (b : Bool) → is_word (codes "hole") l ≡ b → o ≡ stands_refusal S ns ss → (b ≡ true → is_misshaped o ≡ true)
      → o ≡ refusal_over S ns (Some l) ss
  stays-over o false e h k = h ∙ sym (nameable-over S ns (Some l) ss (ap (λ b. when_hole b l) e))
  stays-over o true e h k =
      h ∙ first-of-all misshapen (first_refusal (behind_shapes S ns ss)) (or_else (unnamable_language_at (Some l)) (or_else (stands_refusal S ns ss) None)) None
      (sym stands-shapes ∙ ap is_misshaped (sym h) ∙ k refl)

  -- `hole`, and nothing such
  pub hole-over : (o : Option Refusal) → is_word (codes "hole") l ≡ true → o ≡ stands_refusal S ns ss → is_misshaped o ≡ false
      → Some (named UnknownLanguage l) ≡ refusal_over S ns (Some l) ss
  hole-over o e h k =
      sym (
      none-first misshapen (or_else (unnamable_language_at (Some l)) (or_else (stands_refusal S ns ss) None)) (sym stands-shapes ∙ ap is_misshaped (sym h) ∙ k)
      ∙ ap (λ b. or_else (when_hole b l) (or_else (stands_refusal S ns ss) None)) e
      )
