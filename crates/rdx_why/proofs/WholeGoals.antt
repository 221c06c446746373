-- Goals with their mismatch sets: those that look like the one that is asked, and follow.
use Rattle.std.proofs.Common.{◌≡◌, ℕ, zero, suc, ◌<◌, List, [], ◌∷◌, Some, IsTrue, length, get_or, map, refl, sym, ◌∙◌, ap, subst, arith}
use Rattle.rdx_term.specs.Tree.{Tree}
use Rattle.rdx_lang.specs.Bindings.{Binding, visible}
use Rattle.rdx_lang.specs.Members.{In, here, there}
use Rattle.rdx_lang.specs.Patterns.{Pattern, Language}
use Rattle.rdx_lang.specs.Programs.{Program, language_named}
use Rattle.rdx_lang.specs.Rules.{Match, Split}
use Rattle.rdx_lang.specs.WellFormed.{has_known_nonterminals, defined, is_well_formed_in}
use Rattle.rdx_eval.specs.Answers.{value}
use Rattle.rdx_deriv.specs.Derivations.{Goal, matched, split, judged}
use Rattle.rdx_why.specs.Explaining.{CanBeAsked, HasKnownRules, HasOutputs, seen}
use Rattle.rdx_deriv.specs.Holds.{Spoken}
use Rattle.rdx_why.specs.Inside.Steps.{IsOnTheWay}
use Rattle.rdx_deriv.specs.Judged.{Judged, calls}
use Rattle.rdx_deriv.specs.Laws.{Follows}
use Rattle.rdx_deriv.proofs.JudgedOutputs.{outputs_are_judged}

-- no goal that looks like this one follows
abbrev NoneSeen : Program → Goal → Type 0
NoneSeen P (matched l p t v) = (c : Binding) → visible c ≡ v → Follows P (matched l p t c) → ⊥
NoneSeen P (split l p t C s v) = (c : Binding) → visible c ≡ v → Follows P (split l p t C s c) → ⊥
NoneSeen P (judged j a o) = Follows P (judged j a o) → ⊥

none_seen : (P : Program) (h : Goal) → NoneSeen P h → (g : Goal) → seen g ≡ h → Follows P g → ⊥
none_seen P h n (matched l p t c) e f = subst (NoneSeen P) (sym e) n c refl f
none_seen P h n (split l p t C s c) e f = subst (NoneSeen P) (sym e) n c refl f
none_seen P h n (judged j a o) e f = subst (NoneSeen P) (sym e) n f

module _ (P : Program) (l : List ℕ) (p : Pattern) (L : Language) (named : language_named P l ≡ Some L) where
  same_language : (M : Language) → language_named P l ≡ Some M → M ≡ L
  same_language M e = cc

  spoken_of : {R : Language → Type 0} → Spoken P l p (λ M. IsTrue (is_well_formed_in M p)) → R L → Spoken P l p R
  spoken_of a r = record {
    language = L;
    named = named;
    known = subst (λ M. IsTrue (has_known_nonterminals (defined M) p)) (same_language a.language a.named) a.known;
    here = r;
  }

  -- what is found follows
  pub match_follows : Spoken P l p (λ M. IsTrue (is_well_formed_in M p)) → (t : Tree) (b : Binding) → Match L p t b → Follows P (matched l p t b)
  match_follows a t b m = spoken_of {R = λ M. Match M p t b} a m

  pub split_follows : Spoken P l p (λ M. IsTrue (is_well_formed_in M p)) → (t C u : Tree) (b : Binding) → Split L p t C u b
      → Follows P (split l p t C u b)
  split_follows a t C u b m = spoken_of {R = λ M. Split M p t C u b} a m

  -- where none is found, no goal that looks so follows
  pub no_match : (t : Tree) (v : Binding) → ((b : Binding) → Match L p t b → visible b ≡ v → ⊥)
      → (g : Goal) → seen g ≡ matched l p t v → Follows P g → ⊥
  no_match t v none = none_seen P (matched l p t v) (λ c e f. none c (subst (λ M. Match M p t c) (same_language f.language f.named) f.here) e)

  pub no_split : (t C u : Tree) (v : Binding) → ((b : Binding) → Split L p t C u b → visible b ≡ v → ⊥)
      → (g : Goal) → seen g ≡ split l p t C u v → Follows P g → ⊥
  no_split t C u v none =
      none_seen P (split l p t C u v) (λ c e f. none c (subst (λ M. Split M p t C u c) (same_language f.language f.named) f.here) e)

-- where a judgement has no such outputs, no goal that looks so follows
pub no_judgement : (P : Program) (j : List ℕ) (a o : Tree) → ¬ Follows P (judged j a o)
    → (g : Goal) → seen g ≡ judged j a o → Follows P g → ⊥
no_judgement P j a o none = none_seen P (judged j a o) none

-- what a judgement is answered is what it has
pub listed_judged : (P : Program) (j : List ℕ) (a o : Tree) (os : List Tree) → (calls P).outputs_of j a (value os) → In o os → Judged P j a o
listed_judged P j a o os h i = (outputs_are_judged P j a os h).sound o i

pub judged_listed : (P : Program) (j : List ℕ) (a o : Tree) (os : List Tree) → (calls P).outputs_of j a (value os) → Judged P j a o → In o os
judged_listed P j a o os h i = (outputs_are_judged P j a os h).complete o i

-- a judgement is the goal itself
pub judged_goal : (P : Program) (j i : List ℕ) (a o b q : Tree) (g : Goal) → i ≡ j → b ≡ a → q ≡ o → g ≡ judged j a o → CanBeAsked P g
    → Judged P j a o → (seen (judged i b q) ≡ seen g) × IsOnTheWay P (judged i b q)
judged_goal P j i a o b q g d e f s h k =
    let asked : HasKnownRules P × HasOutputs P j a = subst (CanBeAsked P) s h in
    let same : judged i b q ≡ judged j a o = ap (λ x. judged x b q) d ∙ ap (λ x. judged j x q) e ∙ ap (λ x. judged j a x) f in
    (ap seen (same ∙ sym s), subst (IsOnTheWay P) (sym same) (k, asked.1, asked.0))

-- what stands at a place is a member
pub at_in : {A B : Type 0} (f : A → B) (xs : List A) (i : ℕ) (x : A) → i < length xs → x ≡ get_or xs i x → In (f x) (map f xs)
at_in f [] i x h e = absurd (omega arith)
at_in f (y ∷ ys) zero x h e = here (ap f e)
at_in f (y ∷ ys) (suc i) x h e = there (at_in f ys i x (omega arith) e)

-- where none is found, no goal that looks like the asked one follows
pub none_matches : (P : Program) (l : List ℕ) (p : Pattern) (t : Tree) (b v : Binding) (L : Language) (G : Goal) → G ≡ matched l p t b
    → language_named P l ≡ Some L → v ≡ visible b → ((c : Binding) → Match L p t c → visible c ≡ v → ⊥)
    → (g : Goal) → seen g ≡ seen G → Follows P g → ⊥
none_matches P l p t b v L G e n m none g s f =
    no_match P l p L n t (visible b) (λ c h w. none c h (w ∙ sym m)) g (s ∙ ap seen e) f

pub none_splits : (P : Program) (l : List ℕ) (p : Pattern) (t C u : Tree) (b v : Binding) (L : Language) (G : Goal) → G ≡ split l p t C u b
    → language_named P l ≡ Some L → v ≡ visible b → ((c : Binding) → Split L p t C u c → visible c ≡ v → ⊥)
    → (g : Goal) → seen g ≡ seen G → Follows P g → ⊥
none_splits P l p t C u b v L G e n m none g s f =
    no_split P l p L n t C u (visible b) (λ c h w. none c h (w ∙ sym m)) g (s ∙ ap seen e) f

pub none_judged : (P : Program) (j : List ℕ) (a o : Tree) (G : Goal) → G ≡ judged j a o → (Judged P j a o → ⊥)
    → (g : Goal) → seen g ≡ seen G → Follows P g → ⊥
none_judged P j a o G e none g s f = no_judgement P j a o none g (s ∙ ap seen e) f
