-- The names of rules, by the rules of the code.
use Rattle.std.proofs.Common.{◌≡◌, ◌<◌, ◌≤◌, ℕ, suc, zero, List, [], ◌∷◌, Option, Some, None, length, get_or, map, refl, sym, ap, subst, arith}
use Rattle.std.specs.Borrow.{Bor}
use Rattle.std.specs.List.{HoldsAt}
use Rattle.std.specs.Option.{IfSome, MatchOption, option_copied}
use Rattle.std.specs.Prelude.{option_map}
use Rattle.rdx_lang.specs.ProgramView.{rule_of}
use Rattle.rdx_lang.specs.declared.program.Rule.{Rule}
use Rattle.rdx_answer.specs.StepAnswers.{name_at}

-- at the place of a rule stands its name
pub name-there : (rs : List Rule) (i : ℕ) (r : Rule) → i < length rs → r ≡ get_or rs i r → name_at (map rule_of rs) i ≡ (rule_of r).name
name-there [] i r h e = absurd (omega arith)
name-there (q ∷ rs) zero r h e = ap (λ x. (rule_of x).name) (sym e)
name-there (q ∷ rs) (suc i) r h e = name-there rs i r (omega arith) e

-- behind the last rule is none
name-none : (rs : List Rule) (i : ℕ) → length rs ≤ i → name_at (map rule_of rs) i ≡ None
name-none [] i h = refl
name-none (q ∷ rs) zero h = absurd (omega arith)
name-none (q ∷ rs) (suc i) h = name-none rs i (omega arith)

-- where a look-up finds none
pub no_name : (rs : List Rule) (i : ℕ) (o : Option (Bor Rule)) → o ≡ None
    → MatchOption o (length rs ≤ i) (λ x. (i < length rs) × HoldsAt (λ y. x.now ≡ y) rs i) → name_at (map rule_of rs) i ≡ None
no_name rs i o e m =
    name-none rs i (subst (λ (p : Option (Bor Rule)). MatchOption p (length rs ≤ i) (λ x. (i < length rs) × HoldsAt (λ y. x.now ≡ y) rs i)) e m)

-- and where it finds one
pub found_name : (rs : List Rule) (i : ℕ) (o : Option (Bor Rule)) (r : Bor Rule) → o ≡ Some r → IfSome o (λ x. x.now ≡ get_or rs i x.now)
    → MatchOption o (length rs ≤ i) (λ x. (i < length rs) × HoldsAt (λ y. x.now ≡ y) rs i) → name_at (map rule_of rs) i ≡ (rule_of r.now).name
found_name rs i o r e s m =
    name-there rs i r.now
    (subst (λ (p : Option (Bor Rule)). MatchOption p (length rs ≤ i) (λ x. (i < length rs) × HoldsAt (λ y. x.now ≡ y) rs i)) e m).0
    (subst (λ (p : Option (Bor Rule)). IfSome p (λ x. x.now ≡ get_or rs i x.now)) e s)

-- what is lent, seen
pub lent : {A B : Type 0} (f : A → B) (o : Option (Bor A)) → option_map (λ x. f x.now) o ≡ option_map f (option_copied o)
lent f None = refl
lent f (Some x) = refl
