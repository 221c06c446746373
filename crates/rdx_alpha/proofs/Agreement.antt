-- Among which bodies a tree stands matters only for its free symbols.
use Rattle.std.proofs.Common.{◌≡◌, ℕ, suc, Bool, true, false, not, List, [], ◌∷◌, Option, Some, None, refl, sym, ap, ◌∙◌, subst, if◌then◌else◌, bytes_eq}
use Rattle.std.specs.List.{list_any}
use Rattle.rdx_term.specs.Tree.{Tree, hole, integer, truth, text, symbol, list, Trees, nil, cons}
use Rattle.rdx_alpha.specs.Forms.{Form}
use Rattle.rdx_alpha.specs.Instances.{Role, of_head, of_binder, of_plain, of_body, roles, first_role, other_roles}
use Rattle.rdx_alpha.specs.Free.{is_free_as, is_free, is_free_among}
use Rattle.rdx_alpha.specs.Nameless.{Nameless, free, blank, several, more, place_in, bound_at, occurrence, around_item, blanks, blanked, as_head, nameless_as, nameless_in, nameless_among, put_for, put_for_all}
use Rattle.rdx_alpha.proofs.NameFacts.{or_first, or_second, both, name_itself, same_name, bound_here}

-- ---- one more body around

-- what is the same among two lists of bodies is so with one more
pub one_around : (names : List (List ℕ)) (one two : List (List (List ℕ))) (s : List ℕ) → ((d : ℕ) → occurrence d one s ≡ occurrence d two s)
    → (d : ℕ) → occurrence d (names ∷ one) s ≡ occurrence d (names ∷ two) s
one_around names one two s h d = ap (bound_at d (place_in s names)) (h (suc d))

-- an inner body that binds a name hides what is around
pub hidden_around : (names : List (List ℕ)) (one two : List (List (List ℕ))) (s : List ℕ) → list_any (bytes_eq s) names ≡ true
    → (d : ℕ) → occurrence d (names ∷ one) s ≡ occurrence d (names ∷ two) s
hidden_around names one two s e d = bound_here d s names (occurrence (suc d) one s) (occurrence (suc d) two s) e

-- a name that is bound by an inner body, or means the same around it
pub hidden_or_same : (names : List (List ℕ)) (one two : List (List (List ℕ))) (s : List ℕ)
    → (list_any (bytes_eq s) names ≡ false → (d : ℕ) → occurrence d one s ≡ occurrence d two s) → (d : ℕ) → occurrence d (names ∷ one) s ≡ occurrence d (names ∷ two) s
hidden_or_same names one two s h = by (list_any (bytes_eq s) names) refl
  where
    by : (b : Bool) → list_any (bytes_eq s) names ≡ b → (d : ℕ) → occurrence d (names ∷ one) s ≡ occurrence d (names ∷ two) s
    by true e = hidden_around names one two s e
    by false e = one_around names one two s (h e)

-- ---- trees

-- each name that is free in a tree means the same among these bodies as among those
abbrev pub Agree : List Form → Tree → List (List (List ℕ)) → List (List (List ℕ)) → Type 0
Agree fs t one two = (s : List ℕ) → is_free fs s t ≡ true → (d : ℕ) → occurrence d one s ≡ occurrence d two s

-- so in an item with this role
abbrev pub AgreeIn : List Form → Role → Tree → List (List (List ℕ)) → List (List (List ℕ)) → Type 0
AgreeIn fs r t one two = (s : List ℕ) → is_free_as s r (is_free fs s t) ≡ true → (d : ℕ) → occurrence d one s ≡ occurrence d two s

-- an item is the same where it is so by itself among the bodies that are around its inside
pub item-agrees : (fs : List Form) (r : Role) (t : Tree) (one two : List (List (List ℕ))) → AgreeIn fs r t one two
    → (Agree fs t (around_item r one) (around_item r two) → nameless_in fs (around_item r one) t ≡ nameless_in fs (around_item r two) t)
    → nameless_as r t (nameless_in fs (around_item r one) t) ≡ nameless_as r t (nameless_in fs (around_item r two) t)
item-agrees fs of_head t one two h g = refl
item-agrees fs of_binder t one two h g = refl
item-agrees fs of_plain t one two h g = g h
item-agrees fs (of_body names) t one two h g =
    g (λ s f. hidden_or_same names one two s (λ e. h s (both (not (list_any (bytes_eq s) names)) (is_free fs s t) (ap not e) f)))

mutual
  -- among bodies that agree on its free symbols, a tree is the same without names
  pub nameless-agrees : (fs : List Form) (t : Tree) (one two : List (List (List ℕ))) → Agree fs t one two → nameless_in fs one t ≡ nameless_in fs two t
  nameless-agrees fs hole one two h = refl
  nameless-agrees fs (integer n) one two h = refl
  nameless-agrees fs (truth b) one two h = refl
  nameless-agrees fs (text s) one two h = refl
  nameless-agrees fs (symbol s) one two h = h s (name_itself s) 0
  nameless-agrees fs (list m ts) one two h = ap several (nameless_among-agrees fs (roles fs ts) ts one two h)

  nameless_among-agrees : (fs : List Form) (rs : List Role) (ts : Trees) (one two : List (List (List ℕ)))
      → ((s : List ℕ) → is_free_among fs s rs ts ≡ true → (d : ℕ) → occurrence d one s ≡ occurrence d two s)
      → nameless_among fs one rs ts ≡ nameless_among fs two rs ts
  nameless_among-agrees fs rs nil one two h = refl
  nameless_among-agrees fs rs (cons t ts) one two h =
      let e = item-agrees fs (first_role rs) t one two
      (λ s f. h s (or_first (is_free_as s (first_role rs) (is_free fs s t)) (is_free_among fs s (other_roles rs) ts) f))
      (nameless-agrees fs t (around_item (first_role rs) one) (around_item (first_role rs) two)) in
      let g = nameless_among-agrees fs (other_roles rs) ts one two
      (λ s f. h s (or_second (is_free_as s (first_role rs) (is_free fs s t)) (is_free_among fs s (other_roles rs) ts) f)) in
      λ i. more (e i) (g i)

-- ---- what nothing is put for

-- a place among a body's names is not changed by what is put for a free name
pub put-bound_at : (x : List ℕ) (w : Nameless) (d : ℕ) (o : Option ℕ) (n : Nameless) → put_for x w (bound_at d o n) ≡ bound_at d o (put_for x w n)
put-bound_at x w d None n = refl
put-bound_at x w d (Some k) n = refl

-- another name stays
pub put-other : (x : List ℕ) (w : Nameless) (s : List ℕ) → bytes_eq s x ≡ false → (d : ℕ) (around : List (List (List ℕ)))
    → put_for x w (occurrence d around s) ≡ occurrence d around s
put-other x w s e d [] = ap (λ (b : Bool). if b then w else free s) e
put-other x w s e d (names ∷ around) =
    put-bound_at x w d (place_in s names) (occurrence (suc d) around s) ∙ ap (bound_at d (place_in s names)) (put-other x w s e (suc d) around)

-- blanks stay
put-blanks : (x : List ℕ) (w : Nameless) (ts : Trees) → put_for_all x w (blanks ts) ≡ blanks ts
put-blanks x w nil = refl
put-blanks x w (cons t ts) = ap (more blank) (put-blanks x w ts)

-- a binder place has no free symbol for which something is put
pub put-blanked : (x : List ℕ) (w : Nameless) (t : Tree) → put_for x w (blanked t) ≡ blanked t
put-blanked x w hole = refl
put-blanked x w (integer n) = refl
put-blanked x w (truth b) = refl
put-blanked x w (text s) = refl
put-blanked x w (symbol s) = refl
put-blanked x w (list m ts) = ap several (put-blanks x w ts)

-- heads stay
pub put-head : (x : List ℕ) (w : Nameless) (t : Tree) → put_for x w (as_head t) ≡ as_head t
put-head x w t = refl

-- each occurrence of x stays: a body binds it
abbrev pub Stays : List ℕ → Nameless → List (List (List ℕ)) → Type 0
Stays x w around = (d : ℕ) → put_for x w (occurrence d around x) ≡ occurrence d around x

-- so with one more body
pub stays_around : (x : List ℕ) (w : Nameless) (names : List (List ℕ)) (around : List (List (List ℕ))) → Stays x w around → Stays x w (names ∷ around)
stays_around x w names around h d =
    put-bound_at x w d (place_in x names) (occurrence (suc d) around x) ∙ ap (bound_at d (place_in x names)) (h (suc d))

-- and where the innermost binds it
pub stays_bound : (x : List ℕ) (w : Nameless) (names : List (List ℕ)) (around : List (List (List ℕ))) → list_any (bytes_eq x) names ≡ true
    → Stays x w (names ∷ around)
stays_bound x w names around e d =
    put-bound_at x w d (place_in x names) (occurrence (suc d) around x)
    ∙ bound_here d x names (put_for x w (occurrence (suc d) around x)) (occurrence (suc d) around x) e

occurrence-stays : (x : List ℕ) (w : Nameless) (around : List (List (List ℕ))) (s : List ℕ) → Stays x w around
    → put_for x w (occurrence 0 around s) ≡ occurrence 0 around s
occurrence-stays x w around s h = by (bytes_eq s x) refl
  where
    by : (b : Bool) → bytes_eq s x ≡ b → put_for x w (occurrence 0 around s) ≡ occurrence 0 around s
    by true e = subst (λ y. put_for x w (occurrence 0 around y) ≡ occurrence 0 around y) (sym (same_name s x e)) (h 0)
    by false e = put-other x w s e 0 around

item-stays : (fs : List Form) (x : List ℕ) (w : Nameless) (r : Role) (t : Tree) (around : List (List (List ℕ))) → Stays x w around
    → (Stays x w (around_item r around) → put_for x w (nameless_in fs (around_item r around) t) ≡ nameless_in fs (around_item r around) t)
    → put_for x w (nameless_as r t (nameless_in fs (around_item r around) t)) ≡ nameless_as r t (nameless_in fs (around_item r around) t)
item-stays fs x w of_head t around h g = put-head x w t
item-stays fs x w of_binder t around h g = put-blanked x w t
item-stays fs x w of_plain t around h g = g h
item-stays fs x w (of_body names) t around h g = g (stays_around x w names around h)

-- a tree in which x is bound stays
mutual
  -- where a body around binds x, nothing is put for it
  pub nameless-stays : (fs : List Form) (x : List ℕ) (w : Nameless) (t : Tree) (around : List (List (List ℕ))) → Stays x w around
      → put_for x w (nameless_in fs around t) ≡ nameless_in fs around t
  nameless-stays fs x w hole around h = refl
  nameless-stays fs x w (integer n) around h = refl
  nameless-stays fs x w (truth b) around h = refl
  nameless-stays fs x w (text s) around h = refl
  nameless-stays fs x w (symbol s) around h = occurrence-stays x w around s h
  nameless-stays fs x w (list m ts) around h = ap several (nameless_among-stays fs x w (roles fs ts) ts around h)

  nameless_among-stays : (fs : List Form) (x : List ℕ) (w : Nameless) (rs : List Role) (ts : Trees) (around : List (List (List ℕ))) → Stays x w around
      → put_for_all x w (nameless_among fs around rs ts) ≡ nameless_among fs around rs ts
  nameless_among-stays fs x w rs nil around h = refl
  nameless_among-stays fs x w rs (cons t ts) around h =
      let e = item-stays fs x w (first_role rs) t around h (nameless-stays fs x w t (around_item (first_role rs) around)) in
      let f = nameless_among-stays fs x w (other_roles rs) ts around h in
      λ i. more (e i) (f i)
