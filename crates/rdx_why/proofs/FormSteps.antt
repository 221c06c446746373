-- Steps down from patterns that fit by themselves, and forms of patterns that split no term.
use Rattle.std.proofs.Common.{◌≡◌, ℕ, Bool, true, false, List, [], refl, subst}
use Rattle.std.specs.Prelude.{not, IsTrue, ⊤}
use Rattle.rdx_term.specs.Bare.{bare}
use Rattle.rdx_term.specs.Tree.{Tree, symbol}
use Rattle.rdx_term.specs.Tree.{hole as the_hole}
use Rattle.rdx_lang.specs.Bindings.{Binding, no_names}
use Rattle.rdx_lang.specs.Members.{In}
use Rattle.rdx_lang.specs.Patterns.{Pattern, wild, of_kind, except, prefix, hole, lit, nt, named, differ, in_hole, hide_hole, closed, seq, Language}
use Rattle.rdx_lang.specs.Rules.{Match, Split, match_wild, match_kind, match_except, match_prefix, match_hole, match_lit, split_hole, is_of_kind, is_one_of}
use Rattle.rdx_bind.specs.Atoms.{is_other_symbol, has_prefix}
use Rattle.rdx_deriv.specs.Uses.{IsAlone, IsMatchUse, IsSplitUse}
use Rattle.rdx_why.specs.Inside.Shapes.{IsAtom, IsWhole}
use Rattle.rdx_why.specs.Inside.Steps.{IsStep, AllFollowIn, goals_in}
use Rattle.rdx_why.specs.declared.step.Step.{Step}

-- a pattern of such a form splits nothing
pub whole_splits : {L : Language} (p : Pattern) {t C s : Tree} {b : Binding} → IsWhole p → Split L p t C s b → ⊥
whole_splits wild w h = elim h [ ]
whole_splits (of_kind k) w h = elim h [ ]
whole_splits (except rs) w h = elim h [ ]
whole_splits (prefix r) w h = elim h [ ]
whole_splits hole w h = w
whole_splits (lit u) w h = elim h [ ]
whole_splits (nt x) w h = w
whole_splits (named x q) w h = w
whole_splits (differ x q) w h = w
whole_splits (in_hole q r) w h = w
whole_splits (hide_hole q) w h = elim h [ ]
whole_splits (closed q) w h = w
whole_splits (seq ps) w h = w

not-false : (b : Bool) → b ≡ false → not b ≡ true
not-false true h = absurd cc
not-false false h = refl

module _ (L : Language) (l : List ℕ) (s : Step) (e : s.choice.items ≡ []) (u : goals_in s ≡ []) where
  none_follow : AllFollowIn L l (goals_in s)
  none_follow g i = elim (subst (In g) u i) [ ]

  fits_alone : (F : Type 0) (b : Binding) → F → b ≡ no_names → IsAlone F b s.choice.items (goals_in s)
  fits_alone F b h n = record { fits = h; nameless = n; no_choice = e; nothing_under = u }

  atom_use : (p : Pattern) {t : Tree} {b : Binding} → IsAtom p → Match L p t b → IsMatchUse L l p t b s.choice.items (goals_in s)
  atom_use wild a match_wild = fits_alone ⊤ no_names tt refl
  atom_use (of_kind k) {t = t} a (match_kind h) = fits_alone (IsTrue (is_of_kind L k t)) no_names h refl
  atom_use (except rs) a (match_except {s = r} h) =
      fits_alone (IsTrue (is_other_symbol rs (symbol r))) no_names (not-false (is_one_of rs r) h) refl
  atom_use (prefix r) a (match_prefix {s = x} h) = fits_alone (IsTrue (has_prefix r (symbol x))) no_names h refl
  atom_use hole a match_hole = fits_alone (the_hole ≡ the_hole) no_names refl refl
  atom_use (lit u) {t = t} a (match_lit h) = fits_alone (bare t ≡ bare u) no_names h refl
  atom_use (nt x) a m = absurd a
  atom_use (named x q) a m = absurd a
  atom_use (differ x q) a m = absurd a
  atom_use (in_hole q r) a m = absurd a
  atom_use (hide_hole q) a m = absurd a
  atom_use (closed q) a m = absurd a
  atom_use (seq ps) a m = absurd a

  -- a match by one that fits by itself
  pub atom_match : (p : Pattern) {t : Tree} {b : Binding} → IsAtom p → Match L p t b → IsStep L l (IsMatchUse L l p t b) s
  atom_match p a m = record { use_of_rule = atom_use p a m; follow = none_follow }

  -- the hole splits a term into itself and the term
  pub hole_split : {t C z : Tree} {b : Binding} → Split L hole t C z b → IsStep L l (IsSplitUse L l hole t C z b) s
  hole_split split_hole = record { use_of_rule = fits_alone _ no_names (refl, refl) refl; follow = none_follow }
