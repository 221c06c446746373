-- Bound names that are found by their texts, when one more is put in.
use Rattle.std.proofs.Common.{◌≡◌, ◌∙◌, ◌++◌, ◌+◌, ◌<◌, ℕ, Bool, true, false, cond, List, [], ◌∷◌, length, drop, Option, Some, None, BTreeMap, Bor, refl, sym, ap, subst, if◌then◌else◌, arith}
use Rattle.std.proofs.lemmas.List.{drop_all, length-append}
use Rattle.std.proofs.lemmas.Map.Text.{btree_map_updates_str}
use Rattle.std.specs.BTreeMap.{Updates}
use Rattle.std.specs.Cmp.Lexicographic.{bytes_decides, slice_cmp}
use Rattle.std.specs.Ordering.{nat_cmp}
use Rattle.std.specs.Prelude.{IsTrue, OnOk, Result, Ok, Err, bytes_eq, is_ok, is_some}
use Rattle.rdx_term.specs.Spelling.{is_name}
use Rattle.rdx_templates.specs.Bound.{Bound, depth_of}
use Rattle.rdx_templates.specs.Model.Depths.{FindsDepths, depth_in, few}

-- the depth of a text, where it is the first of all, or else another
abbrev first_or : Option ℕ → Option ℕ → Option ℕ
first_or (Some n) o = Some n
first_or None o = o

-- the depth that a text has with one more name behind the others
depth-more : (bs : Bound) (e : List ℕ × ℕ) (x : List ℕ) → depth_of (bs ++ e ∷ []) x ≡ first_or (depth_of bs x) (if bytes_eq e.0 x then Some e.1 else None)
depth-more [] e x = refl
depth-more (b ∷ bs) e x = by_test (bytes_eq b.0 x) (depth-more bs e x)
  where
    by_test : (t : Bool) → depth_of (bs ++ e ∷ []) x ≡ first_or (depth_of bs x) (if bytes_eq e.0 x then Some e.1 else None)
        → (let p : Option ℕ = if t then Some b.1 else depth_of (bs ++ e ∷ []) x in p)
        ≡ first_or (if t then Some b.1 else depth_of bs x) (if bytes_eq e.0 x then Some e.1 else None)
    by_test true f = refl
    by_test false f = f

-- what has a depth has none more
known : (o : Option ℕ) (t : Bool) (n : ℕ) → (t ≡ true → is_some o ≡ true) → first_or o (if t then Some n else None) ≡ o
known (Some m) t n h = refl
known None true n h = let g : is_some (let p : Option ℕ = None in p) ≡ true = h refl in absurd cc
known None false n h = refl

-- with a name that is among them once more behind them, the same is found
pub finds-again : (bs : Bound) (e : List ℕ × ℕ) (m : BTreeMap (Bor (List ℕ)) ℕ) → is_some (depth_in m e.0) ≡ true → FindsDepths bs m → FindsDepths (bs ++ e ∷ []) m
finds-again bs e m h all x =
    let same : depth_of (bs ++ e ∷ []) x ≡ depth_of bs x =
    depth-more bs e x
    ∙ known (depth_of bs x) (bytes_eq e.0 x) e.1
    (λ t. ap (λ y. is_some (depth_of bs y)) (sym ((bytes_decides e.0 x).0 t)) ∙ ap is_some (sym (all e.0).0) ∙ h) in (
      (all x).0 ∙ sym same,
      λ t. (all x).1 (ap is_some (sym same) ∙ t),
    )

-- what a text has, where it may be a new one
found-new : (o p : Option ℕ) (t : Bool) (n : ℕ) → (t ≡ true → o ≡ None) → p ≡ o → cond t (Some n) p ≡ first_or o (if t then Some n else None)
found-new o p true n h g = ap (λ q. first_or q (Some n)) (sym (h refl))
found-new (Some m) p false n h g = g
found-new None p false n h g = g

-- where it has a depth, it had one before, or it is the new one
some-new : (o : Option ℕ) (t : Bool) (n : ℕ) (W : Type 0) → (is_some o ≡ true → W) → (t ≡ true → W) → is_some (first_or o (if t then Some n else None)) ≡ true → W
some-new (Some m) t n W f g h = f refl
some-new None true n W f g h = g refl
some-new None false n W f g h = absurd cc

-- a text without a depth
none : (o : Option ℕ) → is_some o ≡ false → o ≡ None
none (Some n) h = absurd cc
none None h = refl

-- with a new name behind them, which is put in, it is found too
pub finds-new : (bs : Bound) (e : List ℕ × ℕ) (k : Bor (List ℕ)) (old new : BTreeMap (Bor (List ℕ)) ℕ) → k.now ≡ e.0 → is_some (depth_in old e.0) ≡ false → IsTrue (is_name e.0)
    → Updates (λ x y. slice_cmp nat_cmp x.now y.now) old new k (Some e.1) → FindsDepths bs old → FindsDepths (bs ++ e ∷ []) new
finds-new bs e k old new q h w u all x =
    let o = depth_of bs x in
    let is_here : bytes_eq e.0 x ≡ true → o ≡ None =
    λ t. none o (ap (λ y. is_some (depth_of bs y)) (sym ((bytes_decides e.0 x).0 t)) ∙ ap is_some (sym (all e.0).0) ∙ h) in (
      btree_map_updates_str k.now old new (Some e.1) u x
          ∙ ap (λ y. cond (bytes_eq y x) (Some e.1) (depth_in old x)) q
          ∙ found-new o (depth_in old x) (bytes_eq e.0 x) e.1 is_here (all x).0
          ∙ sym (depth-more bs e x),
      λ t. some-new o (bytes_eq e.0 x) e.1 (IsTrue (is_name x)) (all x).1
          (λ s. subst (λ y. IsTrue (is_name y)) ((bytes_decides e.0 x).0 s) w) (ap is_some (sym (depth-more bs e x)) ∙ t),
    )

-- one more among the first few changes nothing of those behind them, of which there are none
pub finds-few : (bs : Bound) (e : List ℕ × ℕ) (m : BTreeMap (Bor (List ℕ)) ℕ) → length bs < few → FindsDepths (drop few bs) m → FindsDepths (drop few (bs ++ e ∷ [])) m
finds-few bs e m h all =
    let n : length (bs ++ e ∷ []) ≡ length bs + 1 = length-append bs (e ∷ []) in
    subst (λ (cs : Bound). FindsDepths cs m) (drop_all few bs (omega arith) ∙ sym (drop_all few (bs ++ e ∷ []) (omega (arith, n)))) all

-- what there is of a value, where there is one
pub on_ok : {A E : Type 0} (r : Result A E) (P : Type 0) → is_ok r ≡ true → OnOk r P → P
on_ok (Ok x) P h p = p
on_ok (Err x) P h p = absurd cc
