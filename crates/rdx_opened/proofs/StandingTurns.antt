-- What a repetition of an opened pattern binds, and what it stands for: the sequences of what its turns stand for, with their sets together.
use Rattle.std.proofs.Common.{◌≡◌, inl, inr, ◌↔◌, ℕ, zero, suc, pred, List, [], ◌∷◌, length, Option, Some, refl, sym, ◌∙◌, ap, subst}
use Rattle.rdx_term.specs.Tree.{Tree}
use Rattle.rdx_lang.specs.Ascending.{IsAscending}
use Rattle.rdx_lang.specs.Bindings.{Value, many, len, Values, more, Mismatch, unlike, Binding, one_name, name_cmp, bound_names, HasAscendingNames}
use Rattle.rdx_lang.specs.Collections.{AreValuesOf, of_none, of_more, IsSequenceOf, AreSetsOf, sets_of_none, sets_of_more, IsCollection, IsRepetition, without_length, with_length}
use Rattle.rdx_lang.specs.Join.{AreApart, JoinsSets, IsJoin}
use Rattle.rdx_lang.specs.Members.{In, here, there}
use Rattle.rdx_lang.specs.Model.TotalOrders.{name_cmp-total}
use Rattle.rdx_lang.proofs.CollectionLaws.{AreMaps, BindNames, collection-ascends, some_collection}
use Rattle.rdx_lang.proofs.JoinLaws.{one_name-ascends, bound_names-member, one_value}
use Rattle.rdx_lang.proofs.OrderLaws.{fixed_by_members}
use Rattle.rdx_lang.proofs.SetJoins.{no_sets_left, sets_join}
use Rattle.rdx_bind.proofs.NoSets.{no_sets_joined}
use Rattle.rdx_opened.specs.Opening.{Mark, mark_names, IsAt, at_first, at_later, LeafAt, leaf_many, IsLeaf, IsApart, Stands}
use Rattle.rdx_opened.proofs.Leaves.{bound_value, SequenceLeaf, leaf-sequence}
use Rattle.rdx_opened.proofs.Standing.{stands-one, stands-part, stands-name, name-no_common, stands-join, stands-opened}

-- ---- turns

-- d is what this turn binds
pub data IsTurn : List Binding → ℕ → Binding → Type 0 where
  turn_first : {d : Binding} {cs : List Binding} → IsTurn (d ∷ cs) zero d
  turn_later : {c d : Binding} {cs : List Binding} {i : ℕ} → IsTurn cs i d → IsTurn (c ∷ cs) (suc i) d

-- it is one of the bindings
turn-in : {cs : List Binding} {i : ℕ} {d : Binding} → IsTurn cs i d → In d cs
turn-in turn_first = here refl
turn-in (turn_later h) = there (turn-in h)

-- a mark, which stands at a place of the mismatch name x, has the term in this turn, and inside of it in these
pub record IsTurnLeaf (ms : List Mark) (cs : List Binding) (x y : List ℕ) (i : ℕ) (is : List ℕ) (t : Tree) : Type 0 where
  pub binding : Binding
  pub turn : IsTurn cs i binding
  pub leaf : IsLeaf ms binding x y is t

-- some mark has it in some turn
abbrev pub TurnLeaves : List Mark → List Binding → List ℕ → Tree → Type 0
TurnLeaves ms cs x t = (y : List ℕ) × (i : ℕ) × (is : List ℕ) × IsTurnLeaf ms cs x y i is t

-- two terms that the marks of one mismatch name have are equal nowhere but at one place and in the same turns
abbrev pub AreTurnsApart : List Mark → List Binding → Type 0
AreTurnsApart ms cs =
    (x y z : List ℕ) (i j : ℕ) (is js : List ℕ) (t : Tree) → IsTurnLeaf ms cs x y i is t → IsTurnLeaf ms cs x z j js t
    → (y ≡ z) × (i ≡ j) × (is ≡ js)

-- a leaf of the first turn
first_leaf : {ms : List Mark} {c : Binding} {cs : List Binding} {x y is : List ℕ} {t : Tree} → IsLeaf ms c x y is t
    → IsTurnLeaf ms (c ∷ cs) x y zero is t
first_leaf {c = c} l = record { binding = c; turn = turn_first; leaf = l }

-- and of a later one
later_leaf : {ms : List Mark} {c : Binding} {cs : List Binding} {x y : List ℕ} {i : ℕ} {is : List ℕ} {t : Tree} → IsTurnLeaf ms cs x y i is t
    → IsTurnLeaf ms (c ∷ cs) x y (suc i) is t
later_leaf l = record { binding = l.binding; turn = turn_later l.turn; leaf = l.leaf }

-- so they are in the first turn
pub first_apart : (ms : List Mark) (c : Binding) (cs : List Binding) → AreTurnsApart ms (c ∷ cs) → IsApart ms c
first_apart ms c cs f x y z is js t l m = let h = f x y z zero zero is js t (first_leaf l) (first_leaf m) in (h.0, h.2)

-- and in the others
pub later_apart : (ms : List Mark) (c : Binding) (cs : List Binding) → AreTurnsApart ms (c ∷ cs) → AreTurnsApart ms cs
later_apart ms c cs f x y z i j is js t l m =
    let h = f x y z (suc i) (suc j) is js t (later_leaf l) (later_leaf m) in (h.0, ap pred h.1, h.2)

-- ---- what each turn stands for

-- each of these bindings stands for the one beside it
pub data StandEach (ms : List Mark) : List Binding → List Binding → Type 0 where
  each_none : StandEach ms [] []
  each_more : {c b : Binding} {cs bs : List Binding} → Stands ms c b → StandEach ms cs bs → StandEach ms (c ∷ cs) (b ∷ bs)

-- they are equally many
each-length : {ms : List Mark} {cs bs : List Binding} → StandEach ms cs bs → length cs ≡ length bs
each-length each_none = refl
each-length (each_more s r) = ap suc (each-length r)

-- what they stand for are finite maps
each-maps : {ms : List Mark} {cs bs : List Binding} → StandEach ms cs bs → AreMaps bs
each-maps each_none b i = elim i [ ]
each-maps (each_more s r) b (here e) = subst (λ (d : Binding). HasAscendingNames d) (sym e) s.ascending
each-maps (each_more s r) b (there i) = each-maps r b i

-- they have no sets themselves
each-plain : {ms : List Mark} {cs bs : List Binding} {ls : List Mismatch} → StandEach ms cs bs → AreSetsOf cs ls → ls ≡ []
each-plain each_none sets_of_none = refl
each-plain {ls = ls} (each_more {c = c} s r) (sets_of_more {ms = ks} k j) = no_sets_joined c.differs ks ls j s.plain (each-plain r k)

each-no_sets : {ms : List Mark} {cs bs : List Binding} → StandEach ms cs bs → AreSetsOf cs []
each-no_sets each_none = sets_of_none
each-no_sets (each_more s r) =
    sets_of_more (each-no_sets r) (subst (λ (ls : List Mismatch). JoinsSets ls [] []) (sym s.plain) (no_sets_left [] (tt, tt)))

-- a term in their sets is one that a mark has in a turn
sets-leaf : {ms : List Mark} {cs bs : List Binding} {ls : List Mismatch} → StandEach ms cs bs → AreSetsOf bs ls → (x : List ℕ) (t : Tree)
    → In (x, t) (unlike ls) → TurnLeaves ms cs x t
sets-leaf each_none sets_of_none x t h = elim h [ ]
sets-leaf (each_more s r) (sets_of_more k j) x t h = elim (j.sound (x, t) h) [
  | inl l ↦ let m = (s.sets x t).0 l in (m.0, zero, m.1, first_leaf m.2)
  | inr l ↦ let m = sets-leaf r k x t l in (m.0, suc m.1, m.2, later_leaf m.3)
]

-- and the other way
leaf-sets : {ms : List Mark} {cs bs : List Binding} {ls : List Mismatch} → StandEach ms cs bs → AreSetsOf bs ls
    → {x y : List ℕ} {i : ℕ} {is : List ℕ} {t : Tree} {d : Binding} → IsTurn cs i d → IsLeaf ms d x y is t → In (x, t) (unlike ls)
leaf-sets each_none sets_of_none h l = elim h [ ]
leaf-sets (each_more s r) (sets_of_more k j) {x = x} {y = y} {is = is} {t = t} turn_first l = j.left (x, t) ((s.sets x t).1 (y, is, l))
leaf-sets (each_more s r) (sets_of_more k j) {x = x} {t = t} (turn_later h) l = j.right (x, t) (leaf-sets r k h l)

-- no turn is the first and a later one
not_first : {P : Type 0} (i : ℕ) → zero ≡ suc i → P
not_first i e = absurd cc

-- where the terms of the marks differ, the sets come together
some_sets : {ms : List Mark} {cs bs : List Binding} → StandEach ms cs bs → AreTurnsApart ms cs → (ls : List Mismatch) × AreSetsOf bs ls
some_sets each_none f = ([], sets_of_none)
some_sets {ms = ms} (each_more {c = c} {b = b} {cs = cs} {bs = bs} s r) f = with_rest (some_sets r (later_apart ms c cs f))
  where
    with_rest : ((ls : List Mismatch) × AreSetsOf bs ls) → (ls : List Mismatch) × AreSetsOf (b ∷ bs) ls
    with_rest k = let j = sets_join b.differs k.0 apart in (j.0, sets_of_more k.1 j.1)
      where
        apart : AreApart b.differs k.0
        apart u i h =
            let l = (s.sets u.0 u.1).0 i in
            let m = sets-leaf r k.1 u.0 u.1 h in
            not_first m.1 (f u.0 l.0 m.0 zero (suc m.1) l.1 m.2 u.1 (first_leaf l.2) (later_leaf m.3)).1

-- and where they come together, the terms differ
each-apart : {ms : List Mark} {cs bs : List Binding} {ls : List Mismatch} → StandEach ms cs bs → AreSetsOf bs ls
    → {x y z : List ℕ} {i j : ℕ} {is js : List ℕ} {t : Tree} {d e : Binding} → IsTurn cs i d → IsLeaf ms d x y is t → IsTurn cs j e
    → IsLeaf ms e x z js t
    → (y ≡ z) × (i ≡ j) × (is ≡ js)
each-apart each_none sets_of_none h l g m = elim h [ ]
each-apart (each_more s r) (sets_of_more k j) {x = x} {y = y} {z = z} {is = is} {js = js} {t = t} turn_first l turn_first m =
    let h = s.apart x y z is js t l m in (h.0, refl, h.1)
each-apart (each_more s r) (sets_of_more k j) {x = x} {y = y} {is = is} {t = t} turn_first l (turn_later g) m =
    absurd (j.apart (x, t) ((s.sets x t).1 (y, is, l)) (leaf-sets r k g m))
each-apart (each_more s r) (sets_of_more k j) {x = x} {z = z} {js = js} {t = t} (turn_later h) l turn_first m =
    absurd (j.apart (x, t) ((s.sets x t).1 (z, js, m)) (leaf-sets r k h l))
each-apart (each_more s r) (sets_of_more k j) (turn_later h) l (turn_later g) m =
    let n = each-apart r k h l g m in (n.0, ap suc n.1, n.2)

pub turns_apart : {ms : List Mark} {cs bs : List Binding} {ls : List Mismatch} → StandEach ms cs bs → AreSetsOf bs ls → AreTurnsApart ms cs
turns_apart s k x y z i j is js t l m = each-apart s k l.turn l.leaf m.turn m.leaf

-- ---- sequences

-- a name that is no mark has the same values in each
values-whole : {ms : List Mark} {cs bs : List Binding} → StandEach ms cs bs → {x : List ℕ} {vs : Values} → (In x (mark_names ms) → ⊥)
    → AreValuesOf x cs vs → AreValuesOf x bs vs
values-whole each_none n of_none = of_none
values-whole (each_more s r) {x = x} n (of_more {v = v} i h) = of_more ((s.pairs (x, v)).1 (i, n)) (values-whole r n h)

-- the values of a name are fixed, where the bindings are finite maps
same_values : {x : List ℕ} {cs : List Binding} {vs ws : Values} → AreMaps cs → AreValuesOf x cs vs → AreValuesOf x cs ws → vs ≡ ws
same_values m of_none of_none = refl
same_values {x = x} m (of_more {b = b} {v = v} i h) (of_more {v = w} k g) =
    let e : v ≡ w = one_value x v w b.pairs (m b (here refl)).0 i k in
    let d = same_values (λ c l. m c (there l)) h g in
    λ i. more (e i) (d i)

-- the value in a turn
record ValueThere (x : List ℕ) (vs : Values) (i : ℕ) (d : Binding) : Type 0 where
  pub value : Value
  pub at : IsAt vs i value
  pub bound : In (x, value) d.pairs

value_there : {x : List ℕ} {cs : List Binding} {vs : Values} {i : ℕ} {d : Binding} → AreValuesOf x cs vs → IsTurn cs i d → ValueThere x vs i d
value_there of_none g = elim g [ ]
value_there (of_more {v = v} k h) turn_first = record { value = v; at = at_first; bound = k }
value_there (of_more k h) (turn_later g) = let r = value_there h g in record { value = r.value; at = at_later r.at; bound = r.bound }

-- the turn of a value
record TurnThere (x : List ℕ) (cs : List Binding) (i : ℕ) (v : Value) : Type 0 where
  pub binding : Binding
  pub turn : IsTurn cs i binding
  pub bound : In (x, v) binding.pairs

turn_there : {x : List ℕ} {cs : List Binding} {vs : Values} {i : ℕ} {v : Value} → AreValuesOf x cs vs → IsAt vs i v → TurnThere x cs i v
turn_there of_none g = elim g [ ]
turn_there (of_more {b = b} k h) at_first = record { binding = b; turn = turn_first; bound = k }
turn_there (of_more k h) (at_later g) = let r = turn_there h g in record { binding = r.binding; turn = turn_later r.turn; bound = r.bound }

-- the first turn of some, and the others
abbrev first_turn : List ℕ → ℕ
first_turn [] = zero
first_turn (i ∷ is) = i

abbrev other_turns : List ℕ → List ℕ
other_turns [] = []
other_turns (i ∷ is) = is

-- the turn in which a leaf of a collection is one of that turn
record InTurn (ms : List Mark) (cs : List Binding) (x y ks : List ℕ) (t : Tree) : Type 0 where
  pub turn : ℕ
  pub inside : List ℕ
  pub same : ks ≡ turn ∷ inside
  pub leaf : IsTurnLeaf ms cs x y turn inside t

module _ (ms : List Mark) (xs : List (List ℕ)) (cs : List Binding) (c : Binding) (g : IsCollection xs cs c) where
  -- a leaf of a collection is one of a turn
  leaf_turn : {x y ks : List ℕ} {t : Tree} → IsLeaf ms c x y ks t → InTurn ms cs x y ks t
  leaf_turn {y = y} {ks = ks} {t = t} l =
      let q : IsSequenceOf y cs l.value = g.sequences y l.value l.bound in
      let k : SequenceLeaf q.sequence ks t = leaf-sequence (subst (λ (v : Value). LeafAt v ks t) q.same l.leaf) in
      let h : TurnThere y cs k.turn k.value = turn_there q.values k.at in
      record {
        turn = k.turn;
        inside = k.inside;
        same = k.same;
        leaf = record { binding = h.binding; turn = h.turn; leaf = record { value = k.value; mark = l.mark; bound = h.bound; leaf = k.leaf } };
      }

  -- so the terms of the collection differ, where those of the turns do
  pub collection_apart : AreTurnsApart ms cs → IsApart ms c
  collection_apart f x y z is js t l m =
      let p = leaf_turn l in
      let q = leaf_turn m in
      let h = f x y z p.turn q.turn p.inside q.inside t p.leaf q.leaf in
      (h.0, p.same ∙ (λ k. h.1 k ∷ h.2 k) ∙ sym q.same)

  module _ (maps : AreMaps cs) (bind : BindNames xs cs) where
    -- a leaf of a turn is one of the collection
    turn_leaf : {x y is : List ℕ} {i : ℕ} {t : Tree} {d : Binding} → IsTurn cs i d → IsLeaf ms d x y is t → IsLeaf ms c x y (i ∷ is) t
    turn_leaf {x = x} {y = y} {is = is} {i = i} {t = t} {d = d} h l =
        let n : In y xs = subst (λ (ys : List (List ℕ)). In y ys) (bind d (turn-in h)) (bound_names-member (y, l.value) d l.bound) in
        let k : (v : Value) × In (y, v) c.pairs = bound_value c (subst (λ (ys : List (List ℕ)). In y ys) (sym g.names) n) in
        let q : IsSequenceOf y cs k.0 = g.sequences y k.0 k.1 in
        let w : ValueThere y q.sequence i d = value_there q.values h in
        let e : l.value ≡ w.value = one_value y l.value w.value d.pairs (maps d (turn-in h)).0 l.bound w.bound in
        let f : LeafAt w.value is t = subst (λ (v : Value). LeafAt v is t) e l.leaf in
        record {
          value = k.0;
          mark = l.mark;
          bound = k.1;
          leaf = subst (λ (v : Value). LeafAt v (i ∷ is) t) (sym q.same) (leaf_many w.at f);
        }

    -- so the terms of the turns differ, where those of the collection do
    pub collection-turns_apart : IsApart ms c → AreTurnsApart ms cs
    collection-turns_apart f x y z i j is js t l m =
        let h = f x y z (i ∷ is) (j ∷ js) t (turn_leaf l.turn l.leaf) (turn_leaf m.turn m.leaf) in (h.0, ap first_turn h.1, ap other_turns h.1)

-- the terms of the turns of a repetition differ, where those that it binds do
pub repetition-turns_apart : (ms : List Mark) (xs : List (List ℕ)) (cs : List Binding) → AreMaps cs → BindNames xs cs
    → {n : Option (List ℕ)} {c : Binding} → IsRepetition xs cs n c → IsApart ms c → AreTurnsApart ms cs
repetition-turns_apart ms xs cs maps bind {c = c} (without_length g) f = collection-turns_apart ms xs cs c g maps bind f
repetition-turns_apart ms xs cs maps bind (with_length {c = c} g j) f = collection-turns_apart ms xs cs c g maps bind (stands-part j.pairs.left f)

-- ---- collections

-- ys are the names of xs that are no marks
abbrev pub AreOthers : List Mark → List (List ℕ) → List (List ℕ) → Type 0
AreOthers ms xs ys = (z : List ℕ) → (In z ys ↔ (In z xs × (In z (mark_names ms) → ⊥)))

-- a length name is no mark
abbrev pub IsNoMark : List Mark → Option (List ℕ) → Type 0
IsNoMark ms n = (z : List ℕ) → n ≡ Some z → In z (mark_names ms) → ⊥

-- what a binding stands for binds the names of it that are no marks
pub stands-names : {ms : List Mark} {xs ys : List (List ℕ)} {c b : Binding} → AreOthers ms xs ys → IsAscending name_cmp ys → Stands ms c b
    → bound_names c ≡ xs → bound_names b ≡ ys
stands-names {xs = xs} {ys = ys} {c = c} {b = b} o a s e = fixed_by_members name_cmp name_cmp-total (bound_names b) ys s.ascending.0 a forth back
  where
    forth : (z : List ℕ) → In z (bound_names b) → In z ys
    forth z i =
        let k = bound_value b i in
        let h = (s.pairs (z, k.0)).0 k.1 in
        (o z).1 (subst (λ (ws : List (List ℕ)). In z ws) e (bound_names-member (z, k.0) c h.0), h.1)

    back : (z : List ℕ) → In z ys → In z (bound_names b)
    back z i =
        let h = (o z).0 i in
        let k = bound_value c (subst (λ (ws : List (List ℕ)). In z ws) (sym e) h.0) in
        bound_names-member (z, k.0) b ((s.pairs (z, k.0)).1 (k.1, h.1))

-- so do those that several stand for
pub each-names : {ms : List Mark} {xs ys : List (List ℕ)} {cs bs : List Binding} → AreOthers ms xs ys → IsAscending name_cmp ys → StandEach ms cs bs
    → BindNames xs cs → BindNames ys bs
each-names o a each_none f b i = elim i [ ]
each-names o a (each_more {c = c} s r) f b (here e) = ap bound_names e ∙ stands-names o a s (f c (here refl))
each-names o a (each_more s r) f b (there i) = each-names o a r (λ d k. f d (there k)) b i

module _ (ms : List Mark) (xs ys : List (List ℕ)) (o : AreOthers ms xs ys) (a : IsAscending name_cmp ys)
    (cs bs : List Binding) (s : StandEach ms cs bs) (maps : AreMaps cs) (bind : BindNames xs cs) where
  -- a collection of the turns stands for one of what they stand for
  pub collection-stands : (c b : Binding) → IsCollection xs cs c → IsCollection ys bs b → IsApart ms c → Stands ms c b
  collection-stands c b g h f = record {
    plain = each-plain s g.differs;
    ascending = collection-ascends ys bs b a h;
    pairs = λ p. (λ i. forth p.0 p.1 i, λ k. back p.0 p.1 k.0 k.1);
    sets = λ x t. (sets_forth x t, λ k. sets_back k.2);
    apart = f;
  }
    where
      bound : (z : List ℕ) (v : Value) → In (z, v) c.pairs → In z xs
      bound z v i = subst (λ (ws : List (List ℕ)). In z ws) g.names (bound_names-member (z, v) c i)

      bound_whole : (z : List ℕ) (v : Value) → In (z, v) b.pairs → In z ys
      bound_whole z v i = subst (λ (ws : List (List ℕ)). In z ws) h.names (bound_names-member (z, v) b i)

      same : (z : List ℕ) (v w : Value) → (In z (mark_names ms) → ⊥) → In (z, v) c.pairs → In (z, w) b.pairs → v ≡ w
      same z v w n i k =
          let q = g.sequences z v i in
          let r = h.sequences z w k in
          q.same ∙ ap many (same_values (each-maps s) (values-whole s n q.values) r.values) ∙ sym r.same

      forth : (z : List ℕ) (v : Value) → In (z, v) b.pairs → In (z, v) c.pairs × (In z (mark_names ms) → ⊥)
      forth z v i =
          let n = (o z).0 (bound_whole z v i) in
          let k = bound_value c (subst (λ (ws : List (List ℕ)). In z ws) (sym g.names) n.0) in
          (subst (λ (w : Value). In (z, w) c.pairs) (same z k.0 v n.1 k.1 i) k.1, n.1)

      back : (z : List ℕ) (v : Value) → In (z, v) c.pairs → (In z (mark_names ms) → ⊥) → In (z, v) b.pairs
      back z v i n =
          let k = bound_value b (subst (λ (ws : List (List ℕ)). In z ws) (sym h.names) ((o z).1 (bound z v i, n))) in
          subst (λ (w : Value). In (z, w) b.pairs) (sym (same z v k.0 n i k.1)) k.1

      sets_forth : (x : List ℕ) (t : Tree) → In (x, t) (unlike b.differs) → (y : List ℕ) × (is : List ℕ) × IsLeaf ms c x y is t
      sets_forth x t i =
          let l = sets-leaf s h.differs x t i in
          (l.0, l.1 ∷ l.2, turn_leaf ms xs cs c g maps bind l.3.turn l.3.leaf)

      sets_back : {x y is : List ℕ} {t : Tree} → IsLeaf ms c x y is t → In (x, t) (unlike b.differs)
      sets_back l = let k = leaf_turn ms xs cs c g l in leaf-sets s h.differs k.leaf.turn k.leaf.leaf

  -- where the terms of a collection of the turns differ, there is one of what they stand for
  pub collection-forth : (c : Binding) → IsCollection xs cs c → IsApart ms c → (b : Binding) × IsCollection ys bs b × Stands ms c b
  collection-forth c g f =
      let k = some_sets s (collection-turns_apart ms xs cs c g maps bind f) in
      let b = some_collection ys bs (each-names o a s bind) k.0 k.1 in
      (b.0, b.1, collection-stands c b.0 g b.1 f)

  -- so what a collection of the turns stands for is one of what they stand for
  pub stands-collection : (c b : Binding) → IsCollection xs cs c → Stands ms c b → IsCollection ys bs b
  stands-collection c b g h =
      let k = collection-forth c g h.apart in subst (λ (d : Binding). IsCollection ys bs d) (stands-one k.2 h) k.1

  -- and where there is this one, there is that one
  pub collection-back : (b : Binding) → IsCollection ys bs b → (c : Binding) × IsCollection xs cs c × Stands ms c b
  collection-back b h =
      let c = some_collection xs cs bind [] (each-no_sets s) in
      (c.0, c.1, collection-stands c.0 b c.1 h (collection_apart ms xs cs c.0 c.1 (turns_apart s h.differs)))

  -- ---- repetitions

  -- so it is with what a repetition binds
  pub repetition-forth : {n : Option (List ℕ)} {c : Binding} → IsNoMark ms n → IsRepetition xs cs n c → IsApart ms c
      → (b : Binding) × IsRepetition ys bs n b × Stands ms c b
  repetition-forth {c = c} m (without_length g) f = let k = collection-forth c g f in (k.0, without_length k.1, k.2)
  repetition-forth {c = e} m (with_length {x = z} {c = c} g j) f =
      let v : Value = len (length cs) in
      let k = collection-forth c g (stands-part j.pairs.left f) in
      let h = stands-join k.2 (stands-name v (m z refl)) (name-no_common ms c z v (m z refl)) j f in
      (h.0, with_length k.1 (subst (λ (i : ℕ). IsJoin k.0 (one_name z (len i)) h.0) (each-length s) h.1), h.2)

  -- so what the one stands for is the other
  pub stands-repetition : {n : Option (List ℕ)} {c b : Binding} → IsNoMark ms n → IsRepetition xs cs n c → Stands ms c b → IsRepetition ys bs n b
  stands-repetition {n = n} m g h =
      let k = repetition-forth m g h.apart in subst (λ (d : Binding). IsRepetition ys bs n d) (stands-one k.2 h) k.1

  -- and the other way
  pub repetition-back : {n : Option (List ℕ)} {b : Binding} → IsAscending name_cmp xs → IsNoMark ms n → IsRepetition ys bs n b
      → (c : Binding) × IsRepetition xs cs n c × Stands ms c b
  repetition-back {b = b} d m (without_length h) = let k = collection-back b h in (k.0, without_length k.1, k.2)
  repetition-back {b = w} d m (with_length {x = z} {c = b} h j) =
      let v : Value = len (length cs) in
      let k = collection-back b h in
      let e =
      stands-opened k.2 (stands-name v (m z refl)) (name-no_common ms k.0 z v (m z refl)) (collection-ascends xs cs k.0 d k.1) (one_name-ascends z v)
      (subst (λ (i : ℕ). IsJoin b (one_name z (len i)) w) (sym (each-length s)) j) in
      (e.0, with_length k.1 e.1, e.2)
