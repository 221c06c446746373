-- Paths held as a tree: where a tree and its branches lead.
use Rattle.std.proofs.Common.{◌≡◌, ◌∙◌, ◌⊎◌, inl, inr, ◌++◌, ℕ, Bool, true, false, IsTrue, IsFalse, List, [], ◌∷◌, reverse, Vec, refl, sym, ap, subst, append_assoc, append-nil}
use Rattle.std.specs.Prelude.{◌↔◌, ◌||◌}
use Rattle.std.specs.declared.alloc.Global.{Global}
use Rattle.std.proofs.lemmas.List.{map-append, reverse-append}
use Rattle.rdx_lang.proofs.Collecting.{adds_one, In_along, no_member, only}
use Rattle.rdx_lang.proofs.MemberLaws.{in-append, append-left, append-right}
use Rattle.rdx_lang.specs.Collecting.{Adds, Arises}
use Rattle.rdx_lang.specs.Members.{In, here, there}
use Rattle.rdx_direct.specs.Inside.Paths.{AreBoth, GoesBehind, LeadAlike, Leads, leads_here, leads_inside, LeadsIn, LeadsWithin, paths_in}
use Rattle.rdx_direct.specs.declared.paths.Branch.{Branch, out-Branch, roll-Branch, out-roll-Branch}
use Rattle.rdx_direct.specs.declared.paths.Paths.{Paths, out-Paths, roll-Paths, out-roll-Paths}

-- ---- a tree

-- the root is one of the paths, or w leads along a branch
abbrev pub LeadsBy : Bool → List Branch → List ℕ → Type 0
LeadsBy so bs w = (IsTrue so × (w ≡ [])) ⊎ LeadsIn bs w

-- it leads to the root, or along one of its branches
pub leads_out : (P : Paths) (w : List ℕ) → Leads P w → LeadsBy (out-Paths P).here (out-Paths P).inside.items w
leads_out P w (leads_here h) = inl (h, refl)
leads_out P w (leads_inside {B = B} {w = v} i l) = inr (record { branch = B; path = v; among = i; along = refl; leads = l })

-- and what does so is one of its paths
pub leads_back : (P : Paths) (w : List ℕ) → LeadsBy (out-Paths P).here (out-Paths P).inside.items w → Leads P w
leads_back P w (inl h) = subst (λ (v : List ℕ). Leads P v) (sym h.1) (leads_here h.0)
leads_back P w (inr l) = subst (λ (v : List ℕ). Leads P v) (sym l.along) (leads_inside l.among l.leads)

-- the same of one that is put together
pub leads_made : (so : Bool) (inside : Vec Branch Global) (w : List ℕ) → Leads (roll-Paths (record { here = so; inside = inside })) w ↔ LeadsBy so inside.items w
leads_made so inside w =
    let P : Paths = roll-Paths (record { here = so; inside = inside }) in
    let e : out-Paths P ≡ record { here = so; inside = inside } = out-roll-Paths (record { here = so; inside = inside }) in (
      λ h. subst (λ x. LeadsBy x.here x.inside.items w) e (leads_out P w h),
      λ h. leads_back P w (subst (λ x. LeadsBy x.here x.inside.items w) (sym e) h),
    )

-- ---- branches

-- where there is no branch, nothing leads along one
pub leads_nowhere : {X : Type 0} (bs : List Branch) (w : List ℕ) → bs ≡ [] → LeadsIn bs w → X
leads_nowhere bs w e l = no_member (In_along bs [] e l.among)

-- an empty list beside another adds nothing
pub leads_alone : (bs : List Branch) (w : List ℕ) → LeadsIn bs w ↔ (LeadsIn [] w ⊎ LeadsIn bs w)
leads_alone bs w = (λ l. inr l, elim [ inl l ↦ leads_nowhere [] w refl l | inr l ↦ l ])

-- branches that are equal lead to the same
pub leads_along : (xs ys : List Branch) (w : List ℕ) → xs ≡ ys → LeadsIn xs w → LeadsIn ys w
leads_along xs ys w e l = subst (λ bs. LeadsIn bs w) e l

-- the branches of two lists lead where those of one or the other do
pub leads_append : (xs ys : List Branch) (w : List ℕ) → LeadsIn (xs ++ ys) w ↔ (LeadsIn xs w ⊎ LeadsIn ys w)
leads_append xs ys w = (
  split,
  elim [
    | inl l ↦ record { branch = l.branch; path = l.path; among = append-left xs ys l.branch l.among; along = l.along; leads = l.leads }
    | inr l ↦ record { branch = l.branch; path = l.path; among = append-right xs ys l.branch l.among; along = l.along; leads = l.leads }
  ],
)
  where
    split : LeadsIn (xs ++ ys) w → LeadsIn xs w ⊎ LeadsIn ys w
    split l = elim (in-append xs ys l.branch l.among) [
      | inl i ↦ inl (record { branch = l.branch; path = l.path; among = i; along = l.along; leads = l.leads })
      | inr i ↦ inr (record { branch = l.branch; path = l.path; among = i; along = l.along; leads = l.leads })
    ]

-- the same, where what is in both lists is told by an equation
pub leads_together : (xs ys zs : List Branch) (w : List ℕ) → zs ≡ xs ++ ys → LeadsIn zs w ↔ (LeadsIn xs w ⊎ LeadsIn ys w)
leads_together xs ys zs w e = subst (λ bs. LeadsIn bs w ↔ (LeadsIn xs w ⊎ LeadsIn ys w)) (sym e) (leads_append xs ys w)

-- one branch leads into its place, and on by its paths
pub leads_single : (b : Branch) (w : List ℕ) → LeadsIn (b ∷ []) w ↔ LeadsWithin (out-Branch b).place (out-Branch b).paths w
leads_single b w = (to, λ l. record { branch = b; path = l.path; among = here refl; along = l.along; leads = l.among })
  where
    to : LeadsIn (b ∷ []) w → LeadsWithin (out-Branch b).place (out-Branch b).paths w
    to l = subst (λ c. LeadsWithin (out-Branch c).place (out-Branch c).paths w) (only l.among) (record { path = l.path; along = l.along; among = l.leads })

-- the same of one that is put together
pub leads_one : (n : ℕ) (P : Paths) (w : List ℕ) → LeadsIn (roll-Branch (record { place = n; paths = P }) ∷ []) w ↔ LeadsWithin n P w
leads_one n P w =
    subst (λ x. LeadsIn (roll-Branch (record { place = n; paths = P }) ∷ []) w ↔ LeadsWithin x.place x.paths w)
    (out-roll-Branch (record { place = n; paths = P })) (leads_single (roll-Branch (record { place = n; paths = P })) w)

-- a member of a list turned round is one of the list
pub in-reverse : {A : Type 0} (xs : List A) (x : A) → In x (reverse xs) → In x xs
in-reverse [] x h = h
in-reverse (y ∷ ys) x h = elim (in-append (reverse ys) (y ∷ []) x (In_along (reverse (y ∷ ys)) (reverse ys ++ y ∷ []) (reverse-append (y ∷ []) ys) h)) [
  | inl i ↦ there (in-reverse ys x i)
  | inr i ↦ here (only i)
]

-- and a member of the list is one of it turned round
pub reverse-in : {A : Type 0} (xs : List A) (x : A) → In x xs → In x (reverse xs)
reverse-in [] x h = h
reverse-in (y ∷ ys) x h = In_along (reverse ys ++ y ∷ []) (reverse (y ∷ ys)) (sym (reverse-append (y ∷ []) ys)) (go (λ i. reverse-in ys x i) h)
  where
    go : (In x ys → In x (reverse ys)) → In x (y ∷ ys) → In x (reverse ys ++ y ∷ [])
    go deeper (here e) = append-right (reverse ys) (y ∷ []) x (here e)
    go deeper (there i) = append-left (reverse ys) (y ∷ []) x (deeper i)

-- branches turned round lead to the same
pub leads_turned : (xs : List Branch) (w : List ℕ) → LeadsIn (reverse xs) w ↔ LeadsIn xs w
leads_turned xs w = (
  λ l. record { branch = l.branch; path = l.path; among = in-reverse xs l.branch l.among; along = l.along; leads = l.leads },
  λ l. record { branch = l.branch; path = l.path; among = reverse-in xs l.branch l.among; along = l.along; leads = l.leads },
)

-- ---- two lists of branches together

-- the last branch of ys moves to the end of xs
pub moves_last : (xs xs' ys ys' zs us : List Branch) (b : Branch) → ys ≡ ys' ++ b ∷ [] → xs' ≡ xs ++ b ∷ [] → LeadAlike xs ys zs us → LeadAlike xs' ys' zs us
moves_last xs xs' ys ys' zs us b e f a w = (
  λ h. (a w).0 (elim h [ inl l ↦ at_first ((leads_together xs (b ∷ []) xs' w f).0 l) | inr l ↦ inr ((leads_together ys' (b ∷ []) ys w e).1 (inl l)) ]),
  λ h. elim ((a w).1 h) [ inl l ↦ inl ((leads_together xs (b ∷ []) xs' w f).1 (inl l)) | inr l ↦ at_second ((leads_together ys' (b ∷ []) ys w e).0 l) ],
)
  where
    at_first : LeadsIn xs w ⊎ LeadsIn (b ∷ []) w → LeadsIn xs w ⊎ LeadsIn ys w
    at_first (inl l) = inl l
    at_first (inr l) = inr ((leads_together ys' (b ∷ []) ys w e).1 (inr l))

    at_second : LeadsIn ys' w ⊎ LeadsIn (b ∷ []) w → LeadsIn xs' w ⊎ LeadsIn ys' w
    at_second (inl l) = inr l
    at_second (inr l) = inl ((leads_together xs (b ∷ []) xs' w f).1 (inr l))

-- found, left and right lead where all do: so they still do where the last branch of right goes to the end of found, joined with what left
-- has at its end for it
module _ {F F1 F2 L L1 L2 R R1 S B C X : Type 0} (right : R ↔ (R1 ⊎ B)) (moved : (F1 ⊎ L1) ↔ (F ⊎ L)) (taken : L1 ↔ (L2 ⊎ S)) (joined : C ↔ (S ⊎ B)) (pushed : F2 ↔ (F1 ⊎ C))
    (before : (F ⊎ (L ⊎ R)) ↔ X) where
  from_moved : F1 ⊎ L1 → X
  from_moved h = before.0 (elim (moved.0 h) [ inl f ↦ inl f | inr l ↦ inr (inl l) ])

  from_right : R1 ⊎ B → X
  from_right h = before.0 (inr (inr (right.1 h)))

  from_joined : S ⊎ B → X
  from_joined (inl s) = from_moved (inr (taken.1 (inr s)))
  from_joined (inr b) = from_right (inr b)

  from_pushed : F1 ⊎ C → X
  from_pushed (inl f) = from_moved (inl f)
  from_pushed (inr c) = from_joined (joined.0 c)

  after_moved : F1 ⊎ L1 → F2 ⊎ (L2 ⊎ R1)
  after_moved (inl f) = inl (pushed.1 (inl f))
  after_moved (inr l) = elim (taken.0 l) [ inl k ↦ inr (inl k) | inr s ↦ inl (pushed.1 (inr (joined.1 (inl s)))) ]

  after_right : R1 ⊎ B → F2 ⊎ (L2 ⊎ R1)
  after_right (inl r) = inr (inr r)
  after_right (inr b) = inl (pushed.1 (inr (joined.1 (inr b))))

  after_all : F ⊎ (L ⊎ R) → F2 ⊎ (L2 ⊎ R1)
  after_all (inl f) = after_moved (moved.1 (inl f))
  after_all (inr (inl l)) = after_moved (moved.1 (inr l))
  after_all (inr (inr r)) = after_right (right.0 r)

  pub merged : (F2 ⊎ (L2 ⊎ R1)) ↔ X
  merged = (
    elim [ inl f ↦ from_pushed (pushed.0 f) | inr (inl l) ↦ from_moved (inr (taken.1 (inl l))) | inr (inr r) ↦ from_right (inl r) ],
    λ x. after_all (before.1 x),
  )

-- one branch of both leads where they do
pub leads_both : (n : ℕ) (s b : Branch) (P : Paths) (w : List ℕ) → (out-Branch s).place ≡ n → (out-Branch b).place ≡ n → AreBoth (out-Branch s).paths (out-Branch b).paths P
    → LeadsIn (roll-Branch (record { place = n; paths = P }) ∷ []) w ↔ (LeadsIn (s ∷ []) w ⊎ LeadsIn (b ∷ []) w)
leads_both n s b P w e f a = (λ l. to ((leads_one n P w).0 l), λ h. (leads_one n P w).1 (from h))
  where
    to : LeadsWithin n P w → LeadsIn (s ∷ []) w ⊎ LeadsIn (b ∷ []) w
    to l = elim ((a l.path).0 l.among) [
      | inl k ↦ inl ((leads_single s w).1 (record { path = l.path; along = l.along ∙ ap (λ m. m ∷ l.path) (sym e); among = k }))
      | inr k ↦ inr ((leads_single b w).1 (record { path = l.path; along = l.along ∙ ap (λ m. m ∷ l.path) (sym f); among = k }))
    ]

    first : LeadsWithin (out-Branch s).place (out-Branch s).paths w → LeadsWithin n P w
    first l = record { path = l.path; along = l.along ∙ ap (λ m. m ∷ l.path) e; among = (a l.path).1 (inl l.among) }

    second : LeadsWithin (out-Branch b).place (out-Branch b).paths w → LeadsWithin n P w
    second l = record { path = l.path; along = l.along ∙ ap (λ m. m ∷ l.path) f; among = (a l.path).1 (inr l.among) }

    from : LeadsIn (s ∷ []) w ⊎ LeadsIn (b ∷ []) w → LeadsWithin n P w
    from (inl l) = first ((leads_single s w).0 l)
    from (inr l) = second ((leads_single b w).0 l)

-- a tree of both has the paths of both
pub made_both : (P Q : Paths) (p q : Bool) (inside : Vec Branch Global) → (out-Paths P).here ≡ p → (out-Paths Q).here ≡ q
    → ((w : List ℕ) → LeadsIn inside.items w ↔ (LeadsIn (out-Paths P).inside.items w ⊎ LeadsIn (out-Paths Q).inside.items w))
    → AreBoth P Q (roll-Paths (record { here = p || q; inside = inside }))
made_both P Q p q inside e f a w = (λ h. to ((leads_made (p || q) inside w).0 h), λ h. (leads_made (p || q) inside w).1 (from h))
  where
    one_so : (x y : Bool) → IsTrue (x || y) → IsTrue x ⊎ IsTrue y
    one_so true y h = inl refl
    one_so false y h = inr h

    first_so : (x y : Bool) → IsTrue x → IsTrue (x || y)
    first_so true y h = refl
    first_so false y h = absurd cc

    second_so : (x y : Bool) → IsTrue y → IsTrue (x || y)
    second_so true y h = refl
    second_so false y h = h

    to : LeadsBy (p || q) inside.items w → Leads P w ⊎ Leads Q w
    to (inl h) = elim (one_so p q h.0) [ inl k ↦ inl (leads_back P w (inl (subst IsTrue (sym e) k, h.1))) | inr k ↦ inr (leads_back Q w (inl (subst IsTrue (sym f) k, h.1))) ]
    to (inr l) = elim ((a w).0 l) [ inl k ↦ inl (leads_back P w (inr k)) | inr k ↦ inr (leads_back Q w (inr k)) ]

    first : LeadsBy (out-Paths P).here (out-Paths P).inside.items w → LeadsBy (p || q) inside.items w
    first (inl h) = inl (first_so p q (subst IsTrue e h.0), h.1)
    first (inr l) = inr ((a w).1 (inl l))

    second : LeadsBy (out-Paths Q).here (out-Paths Q).inside.items w → LeadsBy (p || q) inside.items w
    second (inl h) = inl (second_so p q (subst IsTrue f h.0), h.1)
    second (inr l) = inr ((a w).1 (inr l))

    from : Leads P w ⊎ Leads Q w → LeadsBy (p || q) inside.items w
    from (inl h) = first (leads_out P w h)
    from (inr h) = second (leads_out Q w h)

-- ---- listing

-- w goes on behind v, into the place of the branch and on by its paths
abbrev pub GoesAlong : List ℕ → Branch → List ℕ → Type 0
GoesAlong v b w = GoesBehind (v ++ (out-Branch b).place ∷ []) (out-Branch b).paths w

-- a path behind v ends there, or goes on along a branch
pub goes_out : (v : List ℕ) (P : Paths) (w : List ℕ) → GoesBehind v P w ↔ ((IsTrue (out-Paths P).here × (w ≡ v)) ⊎ Arises (GoesAlong v) (out-Paths P).inside.items w)
goes_out v P w = (
  λ g. to g (leads_out P g.path g.among),
  elim [ inl h ↦ record { path = []; along = h.1 ∙ sym (append-nil v); among = leads_here h.0 } | inr h ↦ from h ],
)
  where
    to : (g : GoesBehind v P w) → LeadsBy (out-Paths P).here (out-Paths P).inside.items g.path → (IsTrue (out-Paths P).here × (w ≡ v)) ⊎ Arises (GoesAlong v) (out-Paths P).inside.items w
    to g (inl h) = inl (h.0, g.along ∙ ap (λ u. v ++ u) h.1 ∙ append-nil v)
    to g (inr l) = inr (record { from = l.branch; among = l.among; by = record { path = l.path; along = g.along ∙ ap (λ u. v ++ u) l.along ∙ sym (append_assoc v ((out-Branch l.branch).place ∷ []) l.path); among = l.leads } })

    from : Arises (GoesAlong v) (out-Paths P).inside.items w → GoesBehind v P w
    from h = record { path = (out-Branch h.from).place ∷ h.by.path; along = h.by.along ∙ append_assoc v ((out-Branch h.from).place ∷ []) h.by.path; among = leads_inside h.among h.by.among }

-- what was added at the end of the path, and along the branches
pub goes_added : (v : List ℕ) (P : Paths) (xs ys zs : List (List ℕ)) → Adds (λ w. IsTrue (out-Paths P).here × (w ≡ v)) xs ys → Adds (Arises (GoesAlong v) (out-Paths P).inside.items) ys zs → Adds (GoesBehind v P) xs zs
goes_added v P xs ys zs a b w = (
  λ h. elim ((b w).0 h) [ inl i ↦ elim ((a w).0 i) [ inl o ↦ inl o | inr r ↦ inr ((goes_out v P w).1 (inl r)) ] | inr r ↦ inr ((goes_out v P w).1 (inr r)) ],
  elim [ inl o ↦ (b w).1 (inl ((a w).1 (inl o))) | inr g ↦ back ((goes_out v P w).0 g) ],
)
  where
    back : (IsTrue (out-Paths P).here × (w ≡ v)) ⊎ Arises (GoesAlong v) (out-Paths P).inside.items w → In w zs
    back (inl h) = (b w).1 (inl ((a w).1 (inr h)))
    back (inr h) = (b w).1 (inr h)

-- what is added where there is a path to the root: the path so far
pub root_added : (so : Bool) (v : List ℕ) (p : Vec ℕ Global) (old new : List (Vec ℕ Global)) → IsTrue so → p.items ≡ v → new ≡ old ++ p ∷ [] → Adds (λ w. IsTrue so × (w ≡ v)) (paths_in old) (paths_in new)
root_added so v p old new h e f =
    adds_one (λ w. IsTrue so × (w ≡ v)) (paths_in old) (paths_in new) v
    (ap paths_in f ∙ map-append (λ (q : Vec ℕ Global). q.items) old (p ∷ []) ∙ ap (λ w. paths_in old ++ w ∷ []) e) (h, refl) (λ w k. k.1)

-- and nothing where there is none
pub root_left : (so : Bool) (v : List ℕ) (old new : List (Vec ℕ Global)) → IsFalse so → new ≡ old → Adds (λ w. IsTrue so × (w ≡ v)) (paths_in old) (paths_in new)
root_left so v old new h e w = (λ i. inl (In_along (paths_in new) (paths_in old) (ap paths_in e) i), elim [ inl o ↦ In_along (paths_in old) (paths_in new) (ap paths_in (sym e)) o | inr k ↦ absurd (apart so h k.0) ])
  where
    apart : (so : Bool) → IsFalse so → IsTrue so → ⊥
    apart true h k = absurd cc
    apart false h k = absurd cc
