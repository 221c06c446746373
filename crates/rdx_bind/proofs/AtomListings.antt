-- Listings of at most the empty binding, and the patterns that match by the term alone.
use Rattle.std.proofs.Common.{◌≡◌, ℕ, eqb, Bool as Truth, true, false, if◌then◌else◌, IsTrue, List, [], ◌∷◌, refl, sym, ◌∙◌, ap, subst}
use Rattle.std.specs.List.{starts_with}
use Rattle.std.specs.Prelude.{◌↔◌, not}
use Rattle.rdx_term.specs.Bare.{bare}
use Rattle.rdx_term.specs.Tree.{Tree, hole, integer, truth, text, symbol, list}
use Rattle.rdx_lang.proofs.Collecting.{no_member, only}
use Rattle.rdx_lang.proofs.RuleSteps.{IsSymbol, wild_inside, kind_inside, except_inside, prefix_inside, hole_inside, lit_inside}
use Rattle.rdx_lang.specs.Bindings.{Binding, no_names}
use Rattle.rdx_lang.specs.Listing.{IsListing, AllMatches}
use Rattle.rdx_lang.specs.Members.{here}
use Rattle.rdx_lang.specs.Order.{binding_cmp}
use Rattle.rdx_lang.specs.Patterns.{wild, of_kind, except, prefix, lit, Language}
use Rattle.rdx_lang.specs.Patterns.{hole as hole_pattern}
use Rattle.rdx_lang.specs.Rules.{Match, match_wild, match_kind, match_except, match_prefix, match_hole, match_lit, is_of_kind, is_one_of}
use Rattle.rdx_lang.specs.declared.pattern.Kind.{Kind}
use Rattle.rdx_bind.specs.Atoms.{is_other_symbol, has_prefix}

-- the empty binding alone
abbrev pub empty_alone : List Binding
empty_alone = no_names ∷ []

-- a listing of the empty binding where something holds, and of none where not
pub listing_where : {R : Binding → Type 0} {bs : List Binding} (holds : Truth) → bs ≡ (if holds then empty_alone else []) → (IsTrue holds → R no_names) → ((b : Binding) → R b → IsTrue holds × (b ≡ no_names)) → IsListing binding_cmp bs R
listing_where {R} {bs} true e f g = subst (λ (xs : List Binding). IsListing binding_cmp xs R) (sym e) (record {
  ascending = (tt, tt);
  sound = λ b h. subst R (sym (only h)) (f refl);
  complete = λ b r. here (g b r).1;
})
listing_where {R} {bs} false e f g = subst (λ (xs : List Binding). IsListing binding_cmp xs R) (sym e) (record {
  ascending = tt;
  sound = λ b h. no_member h;
  complete = λ b r. let k : IsTrue false = (g b r).0 in absurd cc;
})

-- a listing of none
pub listing_none : {R : Binding → Type 0} {bs : List Binding} → bs ≡ [] → ((b : Binding) → R b → ⊥) → IsListing binding_cmp bs R
listing_none e f = listing_where false e (λ h. absurd cc) (λ b r. absurd (f b r))

-- what is not so is false
not-true : (a : Truth) → IsTrue (not a) → a ≡ false
not-true true h = absurd cc
not-true false h = refl

-- a symbol that passes the test of `variable-except`
except_passes : (rs : List (List ℕ)) (t : Tree) → IsSymbol (λ s. is_one_of rs s ≡ false) t → IsTrue (is_other_symbol rs t)
except_passes rs t i = ap (is_other_symbol rs) i.same ∙ ap not i.passes

-- a symbol that passes the test of `variable-prefix`
prefix_passes : (r : List ℕ) (t : Tree) → IsSymbol (λ s. starts_with eqb s r ≡ true) t → IsTrue (has_prefix r t)
prefix_passes r t i = ap (has_prefix r) i.same ∙ i.passes

module _ {L : Language} where
  -- `_` matches each term
  pub listing_wild : {t : Tree} {bs : List Binding} → bs ≡ empty_alone → AllMatches L wild t bs
  listing_wild e = listing_where true e (λ h. match_wild) (λ b m. (refl, wild_inside m))

  -- a symbol other than these is matched
  except_outside : {rs : List (List ℕ)} (t : Tree) → IsTrue (is_other_symbol rs t) → Match L (except rs) t no_names
  except_outside hole h = absurd cc
  except_outside (integer z) h = absurd cc
  except_outside (truth a) h = absurd cc
  except_outside (text s) h = absurd cc
  except_outside {rs} (symbol s) h = match_except (not-true (is_one_of rs s) h)
  except_outside (list m ts) h = absurd cc

  -- `variable-except` matches by the test of symbols
  pub listing_except : {rs : List (List ℕ)} {t : Tree} {bs : List Binding} (holds : Truth) → bs ≡ (if holds then empty_alone else []) → holds ≡ is_other_symbol rs t → AllMatches L (except rs) t bs
  listing_except {rs} {t = t} holds e f = listing_where holds e (λ h. except_outside t (sym f ∙ h)) (λ b m. let i = except_inside m in (f ∙ except_passes rs t i.0, i.1))

  -- a symbol that begins so is matched
  prefix_outside : {r : List ℕ} (t : Tree) → IsTrue (has_prefix r t) → Match L (prefix r) t no_names
  prefix_outside hole h = absurd cc
  prefix_outside (integer z) h = absurd cc
  prefix_outside (truth a) h = absurd cc
  prefix_outside (text s) h = absurd cc
  prefix_outside (symbol s) h = match_prefix h
  prefix_outside (list m ts) h = absurd cc

  -- `variable-prefix` matches by the test of symbols
  pub listing_prefix : {r : List ℕ} {t : Tree} {bs : List Binding} (holds : Truth) → bs ≡ (if holds then empty_alone else []) → holds ≡ has_prefix r t → AllMatches L (prefix r) t bs
  listing_prefix {r} {t = t} holds e f = listing_where holds e (λ h. prefix_outside t (sym f ∙ h)) (λ b m. let i = prefix_inside m in (f ∙ prefix_passes r t i.0, i.1))

  -- a built-in name matches by its test
  pub listing_kind : {k : Kind} {t : Tree} {bs : List Binding} (holds : Truth) → bs ≡ (if holds then empty_alone else []) → holds ≡ is_of_kind L k t → AllMatches L (of_kind k) t bs
  listing_kind holds e f = listing_where holds e (λ h. match_kind (sym f ∙ h)) (λ b m. let i = kind_inside m in (f ∙ i.0, i.1))

  -- a literal matches what is equal without marks
  pub listing_lit : {u t : Tree} {bs : List Binding} (holds : Truth) → bs ≡ (if holds then empty_alone else []) → (IsTrue holds ↔ (bare t ≡ bare u)) → AllMatches L (lit u) t bs
  listing_lit holds e f = listing_where holds e (λ h. match_lit (f.0 h)) (λ b m. let i = lit_inside m in (f.1 i.0, i.1))

  -- `hole` matches the hole
  pub listing_hole : {t : Tree} {bs : List Binding} (holds : Truth) → bs ≡ (if holds then empty_alone else []) → (IsTrue holds ↔ (t ≡ hole)) → AllMatches L hole_pattern t bs
  listing_hole {t} holds e f = listing_where holds e (λ h. subst (λ (u : Tree). Match L hole_pattern u no_names) (sym (f.0 h)) match_hole) (λ b m. let i = hole_inside m in (f.1 i.0, i.1))
