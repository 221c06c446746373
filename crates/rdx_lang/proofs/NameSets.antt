-- Names put among names, one after the other: neither their order nor how often they come makes a difference.
use Rattle.std.proofs.Common.{◌≡◌, ℕ, List, [], ◌∷◌, Option, Some, None, map, refl, sym, ◌∙◌, ap, subst}
use Rattle.std.proofs.lemmas.Cmp.{tied_itself}
use Rattle.std.specs.BTreeSet.{insert_key}
use Rattle.std.specs.declared.cmp.Ordering.{Ordering}
use Rattle.std.specs.declared.cmp.Ordering.TheVariants.{Less, Equal, Greater}
use Rattle.std.specs.Ordering.{match_ordering, ordering_reverse, on}
use Rattle.rdx_lang.specs.Bindings.{name_cmp}
use Rattle.rdx_lang.specs.Model.TotalOrders.{name_cmp-total}
use Rattle.rdx_lang.specs.Names.{placed, with_name, add_names, with_length_name, names, item_names}
use Rattle.rdx_lang.specs.Patterns.{Pattern, wild, of_kind, except, prefix, hole, lit, nt, named, differ, in_hole, hide_hole, closed, seq, Items, nil, one, many}
use Rattle.rdx_lang.specs.declared.key.Key.{Key}
use Rattle.rdx_lang.proofs.Keys.{turned, map-inserted}
use Rattle.rdx_lang.proofs.OrderLaws.{name_cmp-tells}

-- ---- two names

-- the first comes before the second and all that follows it
first : (x y : List ℕ) (ys : List (List ℕ)) → name_cmp x y ≡ Less → with_name x (y ∷ ys) ≡ x ∷ y ∷ ys
first x y ys e = ap (λ o. placed o x y ys (with_name x ys)) e

-- the name is there
there_already : (x y : List ℕ) (ys : List (List ℕ)) → name_cmp x y ≡ Equal → with_name x (y ∷ ys) ≡ y ∷ ys
there_already x y ys e = ap (λ o. placed o x y ys (with_name x ys)) e

-- the place of the name is further on
further : (x y : List ℕ) (ys : List (List ℕ)) → name_cmp x y ≡ Greater → with_name x (y ∷ ys) ≡ y ∷ with_name x ys
further x y ys e = ap (λ o. placed o x y ys (with_name x ys)) e

-- what is below another, the other is above
turned_back : (x y : List ℕ) → name_cmp x y ≡ Less → name_cmp y x ≡ Greater
turned_back x y e = name_cmp-total.antisymm y x ∙ ap ordering_reverse e

-- a name below another comes before it, whichever came first
lower_before : (x y : List ℕ) (zs : List (List ℕ)) → name_cmp x y ≡ Less → with_name x (with_name y zs) ≡ with_name y (with_name x zs)
lower_before x y [] e = first x y [] e ∙ sym (further y x [] (turned_back x y e))
lower_before x y (z ∷ zs) e = by_order (name_cmp x z) (name_cmp y z) refl refl (lower_before x y zs e)
  where
    by_order : (o r : Ordering) → name_cmp x z ≡ o → name_cmp y z ≡ r → with_name x (with_name y zs) ≡ with_name y (with_name x zs)
        → with_name x (with_name y (z ∷ zs)) ≡ with_name y (with_name x (z ∷ zs))
    by_order Less Less f g h =
        ap (with_name x) (first y z zs g) ∙ first x y (z ∷ zs) e
        ∙ sym (ap (with_name y) (first x z zs f) ∙ further y x (z ∷ zs) (turned_back x y e) ∙ ap (λ ws. x ∷ ws) (first y z zs g))
    by_order Less Equal f g h =
        ap (with_name x) (there_already y z zs g) ∙ first x z zs f
        ∙ sym (ap (with_name y) (first x z zs f) ∙ further y x (z ∷ zs) (turned_back x y e) ∙ ap (λ ws. x ∷ ws) (there_already y z zs g))
    by_order Less Greater f g h =
        ap (with_name x) (further y z zs g) ∙ first x z (with_name y zs) f
        ∙ sym (ap (with_name y) (first x z zs f) ∙ further y x (z ∷ zs) (turned_back x y e) ∙ ap (λ ws. x ∷ ws) (further y z zs g))
    by_order Equal Less f g h = absurd (let k : name_cmp x z ≡ Less = name_cmp-total.trans x y z e g in cc)
    by_order Equal Equal f g h = ap (with_name x) (there_already y z zs g) ∙ there_already x z zs f
        ∙ sym (ap (with_name y) (there_already x z zs f) ∙ there_already y z zs g)
    by_order Equal Greater f g h =
        ap (with_name x) (further y z zs g) ∙ there_already x z (with_name y zs) f
        ∙ sym (ap (with_name y) (there_already x z zs f) ∙ further y z zs g)
    by_order Greater Less f g h = absurd (let k : name_cmp x z ≡ Less = name_cmp-total.trans x y z e g in cc)
    by_order Greater Equal f g h =
        absurd (let k : name_cmp x z ≡ Less = subst (λ (w : List ℕ). name_cmp x w ≡ Less) (name_cmp-tells y z g) e in cc)
    by_order Greater Greater f g h =
        ap (with_name x) (further y z zs g) ∙ further x z (with_name y zs) f ∙ ap (λ ws. z ∷ ws) h
        ∙ sym (ap (with_name y) (further x z zs f) ∙ further y z (with_name x zs) g)

-- two names come in any order
with_name-swap : (x y : List ℕ) (zs : List (List ℕ)) → with_name x (with_name y zs) ≡ with_name y (with_name x zs)
with_name-swap x y zs = by_order (name_cmp x y) refl
  where
    by_order : (o : Ordering) → name_cmp x y ≡ o → with_name x (with_name y zs) ≡ with_name y (with_name x zs)
    by_order Less e = lower_before x y zs e
    by_order Equal e = let d : x ≡ y = name_cmp-tells x y e in λ i. with_name (d i) (with_name (sym d i) zs)
    by_order Greater e = sym (lower_before y x zs (turned name_cmp name_cmp-total x y e))

-- a name that comes twice is there once
with_name-twice : (x : List ℕ) (zs : List (List ℕ)) → with_name x (with_name x zs) ≡ with_name x zs
with_name-twice x [] = there_already x x [] (tied_itself name_cmp-total x)
with_name-twice x (z ∷ zs) = by_order (name_cmp x z) refl (with_name-twice x zs)
  where
    by_order : (o : Ordering) → name_cmp x z ≡ o → with_name x (with_name x zs) ≡ with_name x zs
        → with_name x (with_name x (z ∷ zs)) ≡ with_name x (z ∷ zs)
    by_order Less e h = ap (with_name x) (first x z zs e) ∙ there_already x x (z ∷ zs) (tied_itself name_cmp-total x) ∙ sym (first x z zs e)
    by_order Equal e h = ap (with_name x) (there_already x z zs e)
    by_order Greater e h = ap (with_name x) (further x z zs e) ∙ further x z (with_name x zs) e ∙ ap (λ ws. z ∷ ws) h
        ∙ sym (further x z zs e)

-- ---- the names of lists

-- one name more on the left is one more in all
add_names-with_name : (x : List ℕ) (ys zs : List (List ℕ)) → add_names (with_name x ys) zs ≡ with_name x (add_names ys zs)
add_names-with_name x [] zs = refl
add_names-with_name x (y ∷ ys) zs = by_order (name_cmp x y) refl (add_names-with_name x ys zs)
  where
    by_order : (o : Ordering) → name_cmp x y ≡ o → add_names (with_name x ys) zs ≡ with_name x (add_names ys zs)
        → add_names (placed o x y ys (with_name x ys)) zs ≡ with_name x (with_name y (add_names ys zs))
    by_order Less e h = refl
    by_order Equal e h =
        let d : x ≡ y = name_cmp-tells x y e in sym (with_name-twice y (add_names ys zs))
        ∙ ap (λ w. with_name w (with_name y (add_names ys zs))) (sym d)
    by_order Greater e h = ap (with_name y) h ∙ with_name-swap y x (add_names ys zs)

-- of three lists any two come together first
add_names-assoc : (xs ys zs : List (List ℕ)) → add_names (add_names xs ys) zs ≡ add_names xs (add_names ys zs)
add_names-assoc [] ys zs = refl
add_names-assoc (x ∷ xs) ys zs = add_names-with_name x (add_names xs ys) zs ∙ ap (with_name x) (add_names-assoc xs ys zs)

-- a name comes before or after the names of a list
with_name-add_names : (y : List ℕ) (xs zs : List (List ℕ)) → add_names xs (with_name y zs) ≡ with_name y (add_names xs zs)
with_name-add_names y [] zs = refl
with_name-add_names y (x ∷ xs) zs = ap (with_name x) (with_name-add_names y xs zs) ∙ with_name-swap x y (add_names xs zs)

-- two lists come in any order
add_names-swap : (xs ys zs : List (List ℕ)) → add_names xs (add_names ys zs) ≡ add_names ys (add_names xs zs)
add_names-swap xs [] zs = refl
add_names-swap xs (y ∷ ys) zs = with_name-add_names y xs (add_names ys zs) ∙ ap (with_name y) (add_names-swap xs ys zs)

-- the names of two lists come one list after the other
add_names-in_turn : (xs ys zs : List (List ℕ)) → add_names (add_names xs ys) zs ≡ add_names ys (add_names xs zs)
add_names-in_turn xs ys zs = add_names-assoc xs ys zs ∙ add_names-swap xs ys zs

-- ---- the names of a pattern

-- a name of a pattern comes behind the others
pub in_turn-named : (x : List ℕ) (q : Pattern) (zs : List (List ℕ))
    → add_names (names (named x q)) zs ≡ with_name x (add_names (names q) zs)
in_turn-named x q zs = add_names-in_turn (names q) (x ∷ []) zs

-- the names of two patterns come one pattern after the other
pub in_turn-in_hole : (q r : Pattern) (zs : List (List ℕ))
    → add_names (names (in_hole q r)) zs ≡ add_names (names r) (add_names (names q) zs)
in_turn-in_hole q r zs = add_names-in_turn (names q) (names r) zs

-- so do those of a pattern and the items after it
pub in_turn-one : (p : Pattern) (ps : Items) (zs : List (List ℕ))
    → add_names (item_names (one p ps)) zs ≡ add_names (item_names ps) (add_names (names p) zs)
in_turn-one p ps zs = add_names-in_turn (names p) (item_names ps) zs

-- a length name comes behind the names of its repetition
with_length_name-in_turn : (n : Option (List ℕ)) (xs zs : List (List ℕ))
    → add_names (with_length_name n xs) zs ≡ add_names (with_length_name n []) (add_names xs zs)
with_length_name-in_turn None xs zs = refl
with_length_name-in_turn (Some x) xs zs = add_names-in_turn xs (x ∷ []) zs

-- so it does before the items after it
pub in_turn-many : (p : Pattern) (n : Option (List ℕ)) (ps : Items) (zs : List (List ℕ))
    → add_names (item_names (many p n ps)) zs ≡ add_names (item_names ps) (add_names (with_length_name n []) (add_names (names p) zs))
in_turn-many p n ps zs = add_names-in_turn (with_length_name n (names p)) (item_names ps) zs
    ∙ ap (add_names (item_names ps)) (with_length_name-in_turn n (names p) zs)

-- what two lists are by themselves, they are together
both_alone : (xs ys : List (List ℕ)) → add_names ys [] ≡ ys → add_names (add_names xs ys) [] ≡ add_names xs ys
both_alone xs ys e = add_names-assoc xs ys [] ∙ ap (add_names xs) e

mutual
  -- the names of a pattern, put one after the other, are its names
  pub names-alone : (p : Pattern) → add_names (names p) [] ≡ names p
  names-alone wild = refl
  names-alone (of_kind k) = refl
  names-alone (except rs) = refl
  names-alone (prefix r) = refl
  names-alone hole = refl
  names-alone (lit u) = refl
  names-alone (nt x) = refl
  names-alone (named x q) = both_alone (names q) (x ∷ []) refl
  names-alone (differ x q) = names-alone q
  names-alone (in_hole q r) = both_alone (names q) (names r) (names-alone r)
  names-alone (hide_hole q) = names-alone q
  names-alone (closed q) = refl
  names-alone (seq ps) = item_names-alone ps

  -- so are those of items
  item_names-alone : (ps : Items) → add_names (item_names ps) [] ≡ item_names ps
  item_names-alone nil = refl
  item_names-alone (one p ps) = both_alone (names p) (item_names ps) (item_names-alone ps)
  item_names-alone (many p n ps) = both_alone (with_length_name n (names p)) (item_names ps) (item_names-alone ps)

-- ---- names as keys

-- a key that comes in is a name put among the others
key-inserted : (x : List ℕ) (ys : List (List ℕ)) → insert_key name_cmp ys x ≡ with_name x ys
key-inserted x [] = refl
key-inserted x (y ∷ ys) = by_order (name_cmp x y) (key-inserted x ys)
  where
    by_order : (o : Ordering) → insert_key name_cmp ys x ≡ with_name x ys
        → match_ordering o (x ∷ y ∷ ys) (y ∷ ys) (y ∷ insert_key name_cmp ys x) ≡ placed o x y ys (with_name x ys)
    by_order Less e = refl
    by_order Equal e = refl
    by_order Greater e = ap (λ ws. y ∷ ws) e

-- so it is for the names of keys
pub names-inserted : (ks : List Key) (k : Key)
    → map (λ x. x.name) (insert_key (on (λ x. x.name) name_cmp) ks k) ≡ with_name k.name (map (λ x. x.name) ks)
names-inserted ks k = map-inserted (λ x. x.name) name_cmp ks k ∙ key-inserted k.name (map (λ x. x.name) ks)
