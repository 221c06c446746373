-- The listings of nonterminals and of patterns with a name, from those of their parts.
use Rattle.std.proofs.Common.{◌≡◌, Bool as Truth, if◌then◌else◌, IsTrue, List, [], ◌∷◌, length, refl, sym, subst, arith}
use Rattle.std.specs.Prelude.{◌↔◌}
use Rattle.rdx_term.specs.Tree.{Tree}
use Rattle.rdx_lang.proofs.Collecting.{listing_of, In_along, no_member, only}
use Rattle.rdx_lang.proofs.RuleSteps.{nt_inside, hide_hole_inside, closed_inside}
use Rattle.rdx_lang.specs.Bindings.{Binding}
use Rattle.rdx_lang.specs.Listing.{IsListing, AllMatches}
use Rattle.rdx_lang.specs.Members.{here}
use Rattle.rdx_lang.specs.Order.{binding_cmp}
use Rattle.rdx_lang.specs.Patterns.{Pattern, nt, hide_hole, closed, Language}
use Rattle.rdx_lang.specs.Rules.{Match, AreAlternatives, match_nt, match_hide_hole, match_closed}
use Rattle.rdx_lang.specs.Shown.{bindings_of, binding_of}
use Rattle.rdx_lang.specs.declared.binding.Binding as code
use Rattle.rdx_lang.specs.declared.pattern.Ref.{Ref}
use Rattle.rdx_bind.proofs.Namings.{match_under, under_inside}
use Rattle.rdx_bind.specs.Combining.{Named}
use Rattle.rdx_bind.specs.Namings.{Naming, under}
use Rattle.rdx_bind.specs.Searching.{AnyMatches}
use Rattle.rdx_bind.proofs.AtomListings.{empty_alone, listing_where}

module _ {L : Language} where
  -- a nonterminal matches what some alternative matches
  pub listing_nt : {x : Ref} {t : Tree} {bs : List Binding} (ps : List Pattern) (any : Truth) → AreAlternatives L x ps → bs ≡ (if any then empty_alone else []) → (IsTrue any ↔ AnyMatches L ps t)
      → AllMatches L (nt x) t bs
  listing_nt ps any are e f =
      listing_where any e (λ h. let a = f.0 h in match_nt ((are a.pattern).0 a.among) a.matched)
      (λ b m. let i = nt_inside m in (f.1 (record { pattern = i.0.pattern; among = (are i.0.pattern).1 i.0.alternative; binding = i.0.binding; matched = i.0.matched }), i.1))

  -- what a pattern with a name binds comes of what the pattern binds
  named_from : (n : Naming) {q : Pattern} {t : Tree} (b : Binding) (cs : List Binding) → IsListing binding_cmp cs (Match L q t) → Match L (under n q) t b → Named cs n t b
  named_from n b cs l m = let i = under_inside n m in record { from = i.inside; among = l.complete i.inside i.matched; by = i.joined }

  -- a pattern with a name binds what the pattern binds, and the name
  pub listing_named : (n : Naming) {q : Pattern} {t : Tree} {bs : List Binding} (cs : List Binding) → IsListing binding_cmp cs (Match L q t) → IsListing binding_cmp bs (Named cs n t)
      → AllMatches L (under n q) t bs
  listing_named n cs l m = listing_of (λ b a. match_under n (l.sound a.from a.among) a.by) (λ b h. named_from n b cs l h) m

-- ---- what a listing of the code's bindings says

-- no bindings of the code stand for none
pub no_bindings : (bs : List code.Binding) → length bs ≡ 0 → bindings_of bs ≡ []
no_bindings [] e = refl
no_bindings (b ∷ bs) e = absurd (omega arith)

-- what is not empty stands for some
pub some_bindings : (bs : List code.Binding) → (length bs ≡ 0 → ⊥) → bindings_of bs ≡ [] → ⊥
some_bindings [] n e = n refl
some_bindings (b ∷ bs) n e = absurd cc

-- what is not empty has a member
pub some_of_listing : {R : Binding → Type 0} (bs : List code.Binding) → (length bs ≡ 0 → ⊥) → IsListing binding_cmp (bindings_of bs) R → (b : Binding) × R b
some_of_listing [] n l = absurd (n refl)
some_of_listing (b ∷ bs) n l = (binding_of b, l.sound (binding_of b) (here refl))

-- what is empty has none
pub none_of_listing : {R : Binding → Type 0} (bs : List code.Binding) → length bs ≡ 0 → IsListing binding_cmp (bindings_of bs) R → (b : Binding) → R b → ⊥
none_of_listing [] e l b r = no_member (l.complete b r)
none_of_listing (c ∷ bs) e l b r = absurd (omega arith)

-- ---- hidden and closed patterns

module _ {L : Language} where
  -- a hidden pattern binds what its part binds
  pub listing_hide_hole : {q : Pattern} {t : Tree} {bs : List Binding} → AllMatches L q t bs → AllMatches L (hide_hole q) t bs
  listing_hide_hole l = listing_of (λ b h. match_hide_hole h) (λ b h. hide_hole_inside h) l

  -- a closed pattern matches what its part matches
  pub listing_closed : {q : Pattern} {t : Tree} {bs : List Binding} (ps : List Pattern) (any : Truth) → ps ≡ q ∷ [] → bs ≡ (if any then empty_alone else []) → (IsTrue any ↔ AnyMatches L ps t)
      → AllMatches L (closed q) t bs
  listing_closed {q} {t} ps any e g f =
      listing_where any g (λ h. let a = f.0 h in match_closed (subst (λ (p : Pattern). Match L p t a.binding) (only (In_along ps (q ∷ []) e a.among)) a.matched))
      (λ b m. let i = closed_inside m in (f.1 (record { pattern = q; among = In_along (q ∷ []) ps (sym e) (here refl); binding = i.0.binding; matched = i.0.matched }), i.1))
