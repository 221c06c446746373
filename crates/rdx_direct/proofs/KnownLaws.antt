-- What follows from what is known of nonterminals and of their alternatives.
use Rattle.std.proofs.Common.{arith, ◌≡◌, ◌<◌, ◌≤◌, ℕ, zero, suc, Bool as Truth, IsTrue, IsFalse, List, [], ◌∷◌, length, get_or, drop, sym, ◌∙◌, ap, subst}
use Rattle.std.specs.Prelude.{◌↔◌}
use Rattle.rdx_term.specs.Terms.{IsTerm}
use Rattle.rdx_term.specs.Tree.{Tree, tree_holes}
use Rattle.rdx_lang.proofs.FactLaws.{item_count-small}
use Rattle.rdx_lang.proofs.RuleSteps.{nt_inside}
use Rattle.rdx_lang.specs.Facts.{AreEach, IsAtMost, greatest, is_list, item_count}
use Rattle.rdx_lang.specs.Members.{In}
use Rattle.rdx_lang.specs.Patterns.{Pattern, Language, nt}
use Rattle.rdx_lang.specs.PatternView.{pattern_of, patterns_of}
use Rattle.rdx_lang.specs.Rules.{AreAlternatives, match_nt}
use Rattle.rdx_lang.specs.declared.facts.Each.{Each}
use Rattle.rdx_lang.specs.declared.facts.May.{May}
use Rattle.rdx_lang.specs.declared.pattern.Pat.{Pat}
use Rattle.rdx_lang.specs.declared.pattern.Ref.{Ref}
use Rattle.rdx_bind.specs.Searching.{AnyMatches, MatchesNone}
use Rattle.rdx_direct.specs.declared.choices.Hint.{Hint}
use Rattle.rdx_direct.specs.Inside.Going.{Fits}
use Rattle.rdx_direct.specs.Inside.Known.{IsHint}
use Rattle.rdx_direct.specs.Inside.Reaching.{IsApart}

-- what is known of the alternative at a place
pub each_at : (L : Language) (h : Hint) (xs : List Pat) (es : List Each) (i : ℕ) (e : Each) → h.may ≡ e.may → AreEach L (patterns_of xs) es → i < length es → e ≡ get_or es i e → IsHint L h (patterns_of (drop i xs))
each_at L h [] es zero e f a l g = tt
each_at L h [] es (suc i) e f a l g = tt
each_at L h (p ∷ ps) [] i e f a l g = absurd a
each_at L h (p ∷ ps) (x ∷ es) zero e f a l g = subst (λ m. IsAtMost L m (pattern_of p)) (sym (f ∙ ap (λ (y : Each). y.may) g)) a.0
each_at L h (p ∷ ps) (x ∷ es) (suc i) e f a l g = each_at L h ps es i e f a.1 (omega arith) g

module _ {L : Language} where
  -- where all may be, nothing is said
  pub at_most_all : {may : May} (p : Pattern) → IsTrue may.split → IsTrue may.atoms → may.least ≡ 0 → may.most ≡ greatest → IsTrue may.solid → IsTrue may.bind → IsAtMost L may p
  at_most_all {may} p s a l m o b = record {
    split = λ h. absurd (neither may.split s h);
    atoms = λ h. absurd (neither may.atoms a h);
    least = (λ t c k h. omega arith, λ t C u c k h. omega arith);
    most = λ h. absurd (omega arith);
    solid = λ h. absurd (neither may.solid o h);
    bind = λ h. absurd (neither may.bind b h);
  }
    where
      neither : (so : Truth) → IsTrue so → IsFalse so → ⊥
      neither so h g = cc

  -- a pattern of which it is known that it does not match such a term
  pub no_atom : {may : May} {p : Pattern} {t : Tree} → IsFalse may.atoms → IsFalse (is_list t) → IsAtMost L may p → MatchesNone L p t
  no_atom {t = t} h f k b m = let g : IsTrue (is_list t) = k.atoms h t b m in absurd cc

  -- or that it neither matches nor splits one of so many items
  pub apart_shorter : {may : May} {p : Pattern} {t : Tree} → item_count t < may.least → IsTrue (is_list t) → IsAtMost L may p → IsApart L p t
  apart_shorter {may} {t = t} h f k = record {
    match_none = λ b m. let g : may.least ≤ item_count t = k.least.0 t b m f in absurd (omega arith);
    split_none = λ s d. let g : may.least ≤ item_count t = k.least.1 t _ _ s.binding d.split f in absurd (omega arith);
  }

  pub apart_longer : {may : May} {p : Pattern} {t : Tree} → IsTerm t → may.most < item_count t → IsTrue (is_list t) → IsAtMost L may p → IsApart L p t
  apart_longer {may} {t = t} w h f k =
      let s : may.most < greatest = omega (arith, item_count-small t w) in
      record {
        match_none = λ b m. let g : item_count t ≤ may.most = (k.most s).0 t b m f in absurd (omega arith);
        split_none = λ u d. let g : item_count t ≤ may.most = (k.most s).1 t _ _ u.binding d.split f in absurd (omega arith);
      }

  pub no_solid : {may : May} {p : Pattern} {t : Tree} → IsFalse may.solid → tree_holes t ≡ 0 → IsAtMost L may p → MatchesNone L p t
  no_solid {t = t} h f k b m = k.solid h t b m f

  -- a nonterminal matches where one of its alternatives does
  pub fits_there : {x : Ref} {t : Tree} {p : Pattern} (ps : List Pattern) → AreAlternatives L x ps → In p ps → Fits L p t → Fits L (nt x) t
  fits_there {p = p} ps are i f = record { binding = _; matched = match_nt ((are p).0 i) f.matched }

  -- and nowhere else
  pub fits_nowhere : {x : Ref} {t : Tree} (ps : List Pattern) → AreAlternatives L x ps → (AnyMatches L ps t → ⊥) → Fits L (nt x) t → ⊥
  fits_nowhere ps are n f =
      let i = nt_inside f.matched in
      n (record { pattern = i.0.pattern; among = (are i.0.pattern).1 i.0.alternative; binding = i.0.binding; matched = i.0.matched })

  -- so it is found whether it matches
  pub nt_fits_by : {x : Ref} {t : Tree} {any : Truth} (ps : List Pattern) → AreAlternatives L x ps → (IsTrue any ↔ AnyMatches L ps t) → (IsTrue any ↔ Fits L (nt x) t)
  nt_fits_by ps are f = (
    λ h. let a = f.0 h in fits_there ps are a.among (record { binding = a.binding; matched = a.matched }),
    λ g. let i = nt_inside g.matched in f.1 (record { pattern = i.0.pattern; among = (are i.0.pattern).1 i.0.alternative; binding = i.0.binding; matched = i.0.matched }),
  )
