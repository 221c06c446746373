-- A list one item at a time.
use Rattle.std.proofs.Common.{◌≡◌, ◌+◌, ℕ, suc, List, [], ◌∷◌, ◌++◌, length, Option, refl, sym, ap, subst, arith}
use Rattle.std.specs.Prelude.{Result}
use Rattle.rdx_term.specs.Tree.{Tree}
use Rattle.rdx_lang.specs.Patterns.{Pattern, Items}
use Rattle.rdx_lang.specs.PatternView.{Slot, just, repeated, items_of}
use Rattle.rdx_gen.specs.Inside.Frames.{list_gives, item_then, spot_then, turns_then, beside, Leads}
use Rattle.rdx_gen.specs.Inside.Scopes.{term_here, context_here, items_here, turns_here, length_here, new_length_here}
use Rattle.rdx_gen.specs.Outcomes.{Outcome, State, made, stopped, nothing, after, listed, marked}
use Rattle.rdx_gen.specs.declared.frames.Move.{Move}
use Rattle.rdx_gen.specs.declared.frames.Spot.{Spot}
use Rattle.rdx_gen.specs.declared.frames.Spot.TheVariants as spots
use Rattle.rdx_gen.specs.declared.setting.Scope.{Scope}
use Rattle.rdx_gen.specs.declared.setting.Setting.{Setting}
use Rattle.rdx_gen.specs.declared.stop.Stop.{Stop}

-- one thing after two is one after the second, after the first
pub after_both : {A B C : Type 0} (r : Outcome A) (f : A → State → Outcome B) (g : B → State → Outcome C)
    → after (after r f) g ≡ after r (λ x s. after (f x s) g)
after_both (made x s) f g = refl
after_both (stopped l w) f g = refl
after_both nothing f g = refl

-- one thing after three
pub after_three : {A B C D : Type 0} (r : Outcome A) (f : A → State → Outcome B) (g : B → State → Outcome C) (h : C → State → Outcome D)
    → after (after r (λ x s. after (f x s) g)) h ≡ after r (λ x s. after (f x s) (λ y s'. after (g y s') h))
after_three (made x s) f g h = after_both (f x s) g h
after_three (stopped l w) f g h = refl
after_three nothing f g h = refl

module _ (S : Setting) (c : Scope) (xs : List Slot) (found : List Tree) (s : State) where
  nowhere : (x : Slot) → list_gives S c spots.Nowhere (items_of (x ∷ xs)) found s ≡ item_then S c spots.Nowhere (items_of xs) x found s
  nowhere (just p) = after_both (term_here S c p s) (λ t s'. items_here S c (items_of xs) (found ++ t ∷ []) s') listed
  nowhere (repeated p x) =
      after_three (length_here S c p x s) (λ n s'. turns_here S c p n found s') (λ more s'. items_here S c (items_of xs) more s') listed

  behind : (k : ℕ) (x : Slot) → list_gives S c (spots.Behind k) (items_of (x ∷ xs)) found s ≡ item_then S c (spots.Behind k) (items_of xs) x found s
  behind k (just p) = after_both (term_here S c p s) (λ t s'. items_here S c (items_of xs) (found ++ t ∷ []) s') (λ ts s'. marked k ts s')
  behind k (repeated p x) =
      after_three (length_here S c p x s) (λ n s'. turns_here S c p n found s') (λ more s'. items_here S c (items_of xs) more s') (λ ts s'. marked k ts s')

  ahead : (k : ℕ) (x : Slot) → list_gives S c (spots.Ahead (suc k)) (items_of (x ∷ xs)) found s ≡ item_then S c (spots.Ahead k) (items_of xs) x found s
  ahead k (just p) = refl
  ahead k (repeated p x) = refl

  pub leads_nowhere : (k : Spot) (x : Slot) (r : Result Move Stop) (s' : State) → k ≡ spots.Nowhere
      → Leads S (item_then S c k (items_of xs) x found s) r s' → Leads S (list_gives S c k (items_of (x ∷ xs)) found s) r s'
  leads_nowhere k x r s' e h =
      let d : item_then S c k (items_of xs) x found s ≡ list_gives S c k (items_of (x ∷ xs)) found s =
      subst (λ (z : Spot). item_then S c z (items_of xs) x found s ≡ list_gives S c z (items_of (x ∷ xs)) found s) (sym e) (sym (nowhere x)) in
      subst (λ (o : Outcome Tree). Leads S o r s') d h

  pub leads_behind : (k : Spot) (i : ℕ) (x : Slot) (r : Result Move Stop) (s' : State) → k ≡ spots.Behind i
      → Leads S (item_then S c k (items_of xs) x found s) r s' → Leads S (list_gives S c k (items_of (x ∷ xs)) found s) r s'
  leads_behind k i x r s' e h =
      let d : item_then S c k (items_of xs) x found s ≡ list_gives S c k (items_of (x ∷ xs)) found s =
      subst (λ (z : Spot). item_then S c z (items_of xs) x found s ≡ list_gives S c z (items_of (x ∷ xs)) found s) (sym e) (sym (behind i x)) in
      subst (λ (o : Outcome Tree). Leads S o r s') d h

  pub leads_ahead : (k : Spot) (i j : ℕ) (x : Slot) (r : Result Move Stop) (s' : State) → k ≡ spots.Ahead i → j + 1 ≡ i
      → Leads S (item_then S c (spots.Ahead j) (items_of xs) x found s) r s' → Leads S (list_gives S c k (items_of (x ∷ xs)) found s) r s'
  leads_ahead k i j x r s' e l h =
      let m : suc j ≡ i = omega (arith, l) in
      let d : item_then S c (spots.Ahead j) (items_of xs) x found s ≡ list_gives S c k (items_of (x ∷ xs)) found s =
      subst (λ (z : Spot). item_then S c (spots.Ahead j) (items_of xs) x found s ≡ list_gives S c z (items_of (x ∷ xs)) found s) (sym e)
      (subst (λ (z : ℕ). item_then S c (spots.Ahead j) (items_of xs) x found s ≡ list_gives S c (spots.Ahead z) (items_of (x ∷ xs)) found s) m (sym (ahead j x))) in
      subst (λ (o : Outcome Tree). Leads S o r s') d h

-- a repetition with the context, when it is known how many terms stand before that
pub repeated_spot : (S : Setting) (c : Scope) (ps : Items) (p : Pattern) (x : Option (List ℕ)) (found : List Tree) (s : State) (n : ℕ) (s1 : State)
    → new_length_here S c p x s ≡ made n s1
    → spot_then S c ps (repeated p x) found s ≡ turns_then S c p n found s1 (λ before s2.
    after (context_here S c p s2) (λ C s3. beside S c p x ps (length before) (before ++ C ∷ []) s3))
repeated_spot S c ps p x found s n s1 h = ap (λ (r : Outcome ℕ). after r (λ n s'. turns_then S c p n found s' (λ before s2.
    after (context_here S c p s2) (λ C s3. beside S c p x ps (length before) (before ++ C ∷ []) s3)))) h
