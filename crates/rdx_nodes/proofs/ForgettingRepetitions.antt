-- What a repetition binds, and what it binds where names are left out before.
use Rattle.std.proofs.Common.{◌≡◌, ℕ, List, [], ◌∷◌, length, map, Option, Some, refl, sym, subst}
use Rattle.std.proofs.lemmas.List.{length-map}
use Rattle.rdx_lang.specs.Ascending.{IsAscending}
use Rattle.rdx_lang.specs.Bindings.{len, Binding, no_names, one_name, name_cmp, bound_names, HasAscendingNames}
use Rattle.rdx_lang.specs.Collections.{IsCollection, IsRepetition, without_length, with_length}
use Rattle.rdx_lang.specs.Join.{IsJoin}
use Rattle.rdx_lang.specs.Members.{In, here, there}
use Rattle.rdx_lang.proofs.CollectionLaws.{AreMaps, BindNames, collection-ascends, one_collection, some_collection}
use Rattle.rdx_lang.proofs.JoinLaws.{unit_right, one_name-ascends}
use Rattle.rdx_lang.proofs.MemberLaws.{in-map}
use Rattle.rdx_nodes.specs.Inside.Forgetting.{without_names, ForgetsLength, forgets_no_length, forgets_length, keeps_length}
use Rattle.rdx_nodes.proofs.ForgettingBindings.{other_names, other_names-ascend, without-ascends, without-one, without-other, join-forgotten, join-kept, join-back, sets-with, without-collection}

-- finite maps stay finite maps
maps-without : (xs : List (List ℕ)) (cs : List Binding) → AreMaps cs → AreMaps (map (without_names xs) cs)
maps-without xs cs f b i =
    let k = in-map (without_names xs) cs b i in
    subst (λ (c : Binding). HasAscendingNames c) (sym k.2) (without-ascends xs k.0 (f k.0 k.1))

module _ (xs ys zs : List (List ℕ)) (a : IsAscending name_cmp ys) (e : zs ≡ other_names xs ys) where
  -- the names that stay ascend
  zs_ascend : IsAscending name_cmp zs
  zs_ascend = subst (λ (ws : List (List ℕ)). IsAscending name_cmp ws) (sym e) (other_names-ascend xs ys a)

  -- the collection without names, by the names that stay
  stays : (cs : List Binding) (c : Binding) → IsCollection ys cs c → IsCollection zs (map (without_names xs) cs) (without_names xs c)
  stays cs c h = subst (λ (ws : List (List ℕ)). IsCollection ws (map (without_names xs) cs) (without_names xs c)) (sym e) (without-collection xs ys cs c h)

  -- what a repetition binds, without names, is what it binds where they are left out in each turn
  pub repetition-forth : {n m : Option (List ℕ)} {cs : List Binding} {c : Binding} → ForgetsLength xs n m → IsRepetition ys cs n c
      → IsRepetition zs (map (without_names xs) cs) m (without_names xs c)
  repetition-forth {cs = cs} {c = c} forgets_no_length (without_length h) = without_length (stays cs c h)
  repetition-forth {cs = cs} {c = b} (forgets_length {x = x} i) (with_length {c = c} h j) =
      let f : without_names xs b ≡ without_names xs c = join-forgotten xs x (len (length cs)) c b i (collection-ascends ys cs c a h) j in
      without_length (subst (λ (d : Binding). IsCollection zs (map (without_names xs) cs) d) (sym f) (stays cs c h))
  repetition-forth {cs = cs} {c = b} (keeps_length {x = x} i) (with_length {c = c} h j) =
      let k = join-kept xs x (len (length cs)) c b i j in
      with_length (stays cs c h)
      (subst (λ (n : ℕ). IsJoin (without_names xs c) (one_name x (len n)) (without_names xs b)) (sym (length-map cs (without_names xs))) k)

  -- what a repetition binds with the names that were left out in each turn
  abbrev RepetitionBack : List Binding → Option (List ℕ) → Binding → Type 0
  RepetitionBack cs n c = (d : Binding) × IsRepetition ys cs n d × (without_names xs d ≡ c)

  module _ (cs : List Binding) (maps : AreMaps cs) (bind : BindNames ys cs) where
    -- the collection
    collection-back : (c : Binding) → IsCollection zs (map (without_names xs) cs) c → (d : Binding) × IsCollection ys cs d × (without_names xs d ≡ c)
    collection-back c h =
        let d = some_collection ys cs bind c.differs (sets-with xs cs h.differs) in
        (d.0, d.1, one_collection zs (map (without_names xs) cs) (without_names xs d.0) c zs_ascend (maps-without xs cs maps) (stays cs d.0 d.1) h)

    -- the collection and the length name, where that is none of the names of a turn that are left out
    with_back : (x : List ℕ) (c d e : Binding) → ((y : List ℕ) → In y xs → In y ys → y ≡ x → ⊥) → IsCollection zs (map (without_names xs) cs) c
        → without_names xs (one_name x (len (length cs))) ≡ d → IsJoin c d e → RepetitionBack cs (Some x) e
    with_back x c d e apart h f j =
        let k = collection-back c h in
        let r = join-back xs k.0 (one_name x (len (length cs))) c d e (collection-ascends ys cs k.0 a k.1) (one_name-ascends x (len (length cs)))
        (no_other k.0 k.1.names) k.2 f j in
        (r.0, with_length k.1 r.1, r.2)
      where
        no_other : (b : Binding) → bound_names b ≡ ys → (y : List ℕ) → In y xs → In y (bound_names b) → In y (x ∷ []) → ⊥
        no_other b g y i l (here m) = apart y i (subst (λ (ws : List (List ℕ)). In y ws) g l) m
        no_other b g y i l (there m) = elim m [ ]

    -- each repetition without names is that of one with them
    pub repetition-back : {n m : Option (List ℕ)} {c : Binding} → ((x : List ℕ) → n ≡ Some x → In x xs → In x ys → ⊥) → ForgetsLength xs n m
        → IsRepetition zs (map (without_names xs) cs) m c → RepetitionBack cs n c
    repetition-back {c = c} apart forgets_no_length (without_length h) = let k = collection-back c h in (k.0, without_length k.1, k.2)
    repetition-back {c = c} apart (forgets_length {x = x} i) (without_length h) =
        with_back x c no_names c at_name h (without-one xs x (len (length cs)) i) (unit_right c (collection-ascends zs (map (without_names xs) cs) c zs_ascend h))
      where
        at_name : (y : List ℕ) → In y xs → In y ys → y ≡ x → ⊥
        at_name y k l f = apart x refl i (subst (λ (w : List ℕ). In w ys) f l)
    repetition-back {c = b} apart (keeps_length {x = x} f) (with_length {c = c} h j) =
        with_back x c (one_name x (len (length cs))) b (λ y k l g. f (subst (λ (w : List ℕ). In w xs) g k)) h (without-other xs x (len (length cs)) f)
        (subst (λ (n : ℕ). IsJoin c (one_name x (len n)) b) (length-map cs (without_names xs)) j)
