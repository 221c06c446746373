-- What nonterminals give, one level down.
use Rattle.std.proofs.Common.{◌≡◌, ◌≤◌, ℕ, zero, suc, ◌+◌, ◌-◌, ◌<◌, List, [], ◌∷◌, length, get_or, map, refl, sym, ap, subst, ◌∙◌, arith, add-one, Option, None, true, false}
use Rattle.std.specs.Prelude.{slice_index_or, Bool, if◌then◌else◌}
use Rattle.std.specs.Borrow.{Bor}
use Rattle.rdx_term.specs.Tree.{Tree}
use Rattle.rdx_lang.specs.Lookup.{alternatives_of, alternatives_among}
use Rattle.rdx_lang.specs.Patterns.{Pattern, wild, Definition, Language}
use Rattle.rdx_lang.specs.References.{is_same}
use Rattle.rdx_lang.specs.declared.pattern.Ref.{Ref}
use Rattle.rdx_gen.specs.Generation.{Setting, term, context, by_alternative, inner_at, no_notes}
use Rattle.rdx_gen.specs.Heights.{term_height, context_height}
use Rattle.rdx_gen.specs.Inside.Scopes.{setting_in, language_here, inner_in, notes_in, term_here, context_here, term_alternative, context_alternative}
use Rattle.rdx_gen.specs.Inside.Weights.{weight, patterns_weight, definitions_weight, level_weight, weight_in, weight_here}
use Rattle.rdx_gen.specs.Outcomes.{Outcome, State, made, stopped, nothing, after}
use Rattle.rdx_gen.specs.declared.setting.Notes.{Notes}
use Rattle.rdx_gen.specs.declared.setting.Scope.{Scope}
use Rattle.rdx_gen.specs.declared.setting.Setting as code
use Rattle.rdx_gen.proofs.SameHeights.{read-two}

level_term : (L : Language) (S : Setting) (n m : ℕ) (x : Ref) (size : ℕ) (s : State) → m + 1 ≡ n
    → (inner_at L S n).as_term x size s ≡ by_alternative (alternatives_of L x) (map (term_height S.known) (alternatives_of L x)) size
    (λ p s'. term S (inner_at L S m) no_notes (size - 1) p s') s
unfolding inner_at
level_term L S n m x size s e = subst (λ (z : ℕ). (inner_at L S z).as_term x size s ≡ by_alternative (alternatives_of L x) (map (term_height S.known) (alternatives_of L x)) size
    (λ p s'. term S (inner_at L S m) no_notes (size - 1) p s') s) e (rw add-one refl)

level_context : (L : Language) (S : Setting) (n m : ℕ) (x : Ref) (size : ℕ) (s : State) → m + 1 ≡ n
    → (inner_at L S n).as_context x size s ≡ by_alternative (alternatives_of L x) (map (context_height S.known) (alternatives_of L x)) size
    (λ p s'. context S (inner_at L S m) no_notes (size - 1) p s') s
unfolding inner_at
level_context L S n m x size s e = subst (λ (z : ℕ). (inner_at L S z).as_context x size s ≡ by_alternative (alternatives_of L x) (map (context_height S.known) (alternatives_of L x)) size
    (λ p s'. context S (inner_at L S m) no_notes (size - 1) p s') s) e (rw add-one refl)

-- a pattern that is picked, and what comes of it
pub among : (ps : List Pattern) (r : Outcome ℕ) (G : Pattern → State → Outcome Tree)
    → after r (λ k s'. G (slice_index_or ps k wild) s') ≡ after (after r (λ k s'. made (slice_index_or ps k wild) s')) (λ p s'. G p s')
among ps (made k s) G = refl
among ps (stopped l w) G = refl
among ps nothing G = refl

-- a nonterminal gives what its alternative gives one level down
module _ (S : code.Setting) (c d : Scope) (x : Ref) (s s1 : State) (p : Pattern) (a : d.notes ≡ None) (z : d.size ≡ c.size - 1) (l : d.levels + 1 ≡ c.levels) where
  pub term_inside : term_alternative S c x s ≡ made p s1 → (inner_in S c).as_term x c.size s ≡ term_here S d p s1
  term_inside h =
      let G : Pattern → State → Outcome Tree = λ (q : Pattern) (y : State). term (setting_in S) (inner_at (language_here S) (setting_in S) d.levels) no_notes (c.size - 1) q y in
      level_term (language_here S) (setting_in S) c.levels d.levels x c.size s l
      ∙ among (alternatives_of (language_here S) x) _ G ∙ ap (λ r. after r (λ q y. G q y)) h
      ∙ ap (λ (k : ℕ). term (setting_in S) (inner_in S d) no_notes k p s1) (sym z)
      ∙ ap (λ (o : Option (Bor Notes)). term (setting_in S) (inner_in S d) (notes_in o) d.size p s1) (sym a)

  pub context_inside : context_alternative S c x s ≡ made p s1 → (inner_in S c).as_context x c.size s ≡ context_here S d p s1
  context_inside h =
      let G : Pattern → State → Outcome Tree = λ (q : Pattern) (y : State). context (setting_in S) (inner_at (language_here S) (setting_in S) d.levels) no_notes (c.size - 1) q y in
      level_context (language_here S) (setting_in S) c.levels d.levels x c.size s l
      ∙ among (alternatives_of (language_here S) x) _ G ∙ ap (λ r. after r (λ q y. G q y)) h
      ∙ ap (λ (k : ℕ). context (setting_in S) (inner_in S d) no_notes k p s1) (sym z)
      ∙ ap (λ (o : Option (Bor Notes)). context (setting_in S) (inner_in S d) (notes_in o) d.size p s1) (sym a)

-- the pattern at a place, whatever stands for one that is not there
pub pattern_there : {A : Type 0} (f : A → Pattern) (xs : List A) (k : ℕ) (x : A) → k < length xs → x ≡ get_or xs k x → slice_index_or (map f xs) k wild ≡ f x
pattern_there f [] k x h e = absurd (omega arith)
pattern_there f (y ∷ xs) zero x h e = ap f (sym e)
pattern_there f (y ∷ xs) (suc k) x h e = pattern_there f xs k x (omega arith) e

-- ---- weights

-- one alternative weighs no more than all
-- the alternatives of a definition of the code
pub defined_there : {A : Type 0} (L : Language) (f : A → Definition) (xs : List A) (i : ℕ) (x : A) → map f xs ≡ L.nonterminals → i < length xs → x ≡ get_or xs i x
    → get_or (map (λ (d : Definition). d.1) L.nonterminals) i [] ≡ (f x).1
defined_there L f xs i x e l h =
    ap (λ (ds : List Definition). get_or (map (λ (d : Definition). d.1) ds) i []) (sym e) ∙ read-two (λ (d : Definition). d.1) f xs i x [] l h

pub one_weight : {A : Type 0} (f : A → Pattern) (W : ℕ) (xs : List A) (k : ℕ) (x : A) → k < length xs → x ≡ get_or xs k x
    → weight W (f x) ≤ patterns_weight W (map f xs)
one_weight f W [] k x h e = absurd (omega arith)
one_weight f W (y ∷ xs) zero x h e = let d : weight W (f x) ≡ weight W (f y) = ap (λ z. weight W (f z)) e in omega (arith, d)
one_weight f W (y ∷ xs) (suc k) x h e = let d = one_weight f W xs k x (omega arith) e in omega (arith, d)

-- the alternatives of one nonterminal weigh no more than all definitions
among_here : (W n m k : ℕ) (b : Bool) (ps qs : List Pattern) → patterns_weight W ps ≡ n → patterns_weight W qs ≤ m
    → patterns_weight W (if b then ps else qs) ≤ n + m
among_here W n m k true ps qs d e = omega (arith, d)
among_here W n m k false ps qs d e = omega (arith, e)

among_weight : (W : ℕ) (ds : List Definition) (x : Ref) → patterns_weight W (alternatives_among ds x) ≤ definitions_weight W ds
among_weight W [] x = omega arith
among_weight W (d ∷ ds) x = among_here W (patterns_weight W d.1) (definitions_weight W ds) 0 (is_same x d.0) d.1 (alternatives_among ds x) refl (among_weight W ds x)

level_up : (L : Language) (n m : ℕ) → m + 1 ≡ n → level_weight L n ≡ definitions_weight (level_weight L m) L.nonterminals + 1
unfolding level_weight
level_up L n m e = subst (λ (z : ℕ). level_weight L z ≡ definitions_weight (level_weight L m) L.nonterminals + 1) e (rw add-one refl)

-- an alternative weighs less one level down than its nonterminal
pub inside_less : (S : code.Setting) (c d : Scope) (x : Ref) (p : Pattern) → d.levels + 1 ≡ c.levels
    → weight (weight_in S d) p ≤ patterns_weight (weight_in S d) (alternatives_of (language_here S) x) → weight_here S d p < weight_in S c
inside_less S c d x p l h =
    let u : weight_in S c ≡ definitions_weight (weight_in S d) (language_here S).nonterminals + 1 = level_up (language_here S) c.levels d.levels l in
    let v : patterns_weight (weight_in S d) (alternatives_of (language_here S) x) ≤ definitions_weight (weight_in S d) (language_here S).nonterminals =
    among_weight (weight_in S d) (language_here S).nonterminals x in
    omega (arith, u, v, h)
