-- What a repetition binds: finite maps, of exactly its names; one at most, and one wherever each of its turns binds these names and the sets
-- of the turns are apart.
use Rattle.std.proofs.Common.{◌≡◌, ℕ, List, [], ◌∷◌, length, Option, refl, sym, ◌∙◌, ap, subst}
use Rattle.rdx_lang.specs.Ascending.{IsAscending}
use Rattle.rdx_lang.specs.Bindings.{Value, many, len, Values, none, more, Pair, Mismatch, Binding, one_name, name_cmp, pair_names, bound_names, HasAscendingNames, AreSets}
use Rattle.rdx_lang.specs.Collections.{AreValuesOf, of_none, of_more, IsSequenceOf, AreSetsOf, sets_of_none, sets_of_more, IsCollection, IsRepetition, without_length, with_length}
use Rattle.rdx_lang.specs.Join.{JoinsSets, IsJoin}
use Rattle.rdx_lang.specs.Members.{In, here, there}
use Rattle.rdx_lang.specs.Model.TotalOrders.{pair_cmp-total}
use Rattle.rdx_lang.specs.Names.{with_length_name}
use Rattle.rdx_lang.specs.Order.{pair_cmp}
use Rattle.rdx_lang.proofs.JoinLaws.{pairs_ascend, one_join, join_ascends, bound_names-member, one_value}
use Rattle.rdx_lang.proofs.MemberLaws.{in-map}
use Rattle.rdx_lang.proofs.NameLists.{joined}
use Rattle.rdx_lang.proofs.OrderLaws.{fixed_by_members}
use Rattle.rdx_lang.proofs.SetJoins.{one_sets_join}

-- each of the bindings is a finite map
abbrev pub AreMaps : List Binding → Type 0
AreMaps cs = (b : Binding) → In b cs → HasAscendingNames b

-- each of them binds exactly these names
abbrev pub BindNames : List (List ℕ) → List Binding → Type 0
BindNames xs cs = (b : Binding) → In b cs → bound_names b ≡ xs

-- ---- the names

-- the sets of bindings together are sets
pub sets_of-sets : {cs : List Binding} {ms : List Mismatch} → AreSetsOf cs ms → AreSets ms
sets_of-sets sets_of_none = (tt, tt)
sets_of-sets (sets_of_more s j) = j.sets

-- a collection is two finite maps, where its names ascend
pub collection-ascends : (xs : List (List ℕ)) (cs : List Binding) (c : Binding) → IsAscending name_cmp xs → IsCollection xs cs c
    → HasAscendingNames c
collection-ascends xs cs c a h = (subst (λ (ys : List (List ℕ)). IsAscending name_cmp ys) (sym h.names) a, sets_of-sets h.differs)

-- so is what a repetition binds
pub repetition-ascends : {xs : List (List ℕ)} {cs : List Binding} {n : Option (List ℕ)} {b : Binding} →
    IsAscending name_cmp xs → IsRepetition xs cs n b → HasAscendingNames b
repetition-ascends {xs = xs} {cs = cs} {b = b} a (without_length h) = collection-ascends xs cs b a h
repetition-ascends a (with_length h j) = join_ascends j

-- a repetition binds the names of its pattern and its length name
pub repetition-names : {xs : List (List ℕ)} {cs : List Binding} {n : Option (List ℕ)} {b : Binding} →
    IsRepetition xs cs n b → bound_names b ≡ with_length_name n xs
repetition-names (without_length h) = h.names
repetition-names {cs = cs} (with_length {x = x} {c = c} h j) = joined c (one_name x (len (length cs))) ((tt, tt), (tt, tt)) j h.names refl

-- ---- one at most

-- a name stands for one sequence at most, where the bindings are finite maps
one_sequence : {x : List ℕ} {cs : List Binding} {vs ws : Values} → AreMaps cs → AreValuesOf x cs vs → AreValuesOf x cs ws → vs ≡ ws
one_sequence m of_none of_none = refl
one_sequence {x = x} m (of_more {b = b} {v = v} i h) (of_more {v = w} k g) =
    let e : v ≡ w = one_value x v w b.pairs (m b (here refl)).0 i k in
    let d = one_sequence (λ c l. m c (there l)) h g in
    λ i. more (e i) (d i)

-- the values of one name in two collections are equal
one_value_each : (x : List ℕ) (cs : List Binding) (v w : Value) → AreMaps cs → IsSequenceOf x cs v → IsSequenceOf x cs w → v ≡ w
one_value_each x cs v w m h g = h.same ∙ ap many (one_sequence m h.values g.values) ∙ sym g.same

-- what one collection has another has
within : (xs : List (List ℕ)) (cs : List Binding) (c d : Binding) → AreMaps cs → IsCollection xs cs c → IsCollection xs cs d → (p : Pair)
    → In p c.pairs → In p d.pairs
within xs cs c d m h g p i =
    let n : In p.0 (bound_names d) = subst (λ (ys : List (List ℕ)). In p.0 ys) (h.names ∙ sym g.names) (bound_names-member p c i) in
    let q : (q : Pair) × In q d.pairs × (p.0 ≡ q.0) = in-map (λ (r : Pair). r.0) d.pairs p.0 n in
    let s : IsSequenceOf p.0 cs q.0.1 = subst (λ (x : List ℕ). IsSequenceOf x cs q.0.1) (sym q.2) (g.sequences q.0.0 q.0.1 q.1) in
    let v : p.1 ≡ q.0.1 = one_value_each p.0 cs p.1 q.0.1 m (h.sequences p.0 p.1 i) s in
    let same : q.0 ≡ p = sym (λ j. (q.2 j, v j)) in
    subst (λ (r : Pair). In r d.pairs) same q.1

-- the sets of bindings together are one
pub one_sets_of : {cs : List Binding} {ms ns : List Mismatch} → AreSetsOf cs ms → AreSetsOf cs ns → ms ≡ ns
one_sets_of sets_of_none sets_of_none = refl
one_sets_of {ms = ms} {ns = ns} (sets_of_more {b = b} {ms = ls} s j) (sets_of_more {ms = ks} r k) =
    let e : ls ≡ ks = one_sets_of s r in
    one_sets_join b.differs ls ms ns j (subst (λ (js : List Mismatch). JoinsSets b.differs js ns) (sym e) k)

-- collections of the same bindings are equal, where these are finite maps
pub one_collection : (xs : List (List ℕ)) (cs : List Binding) (c d : Binding) → IsAscending name_cmp xs → AreMaps cs
    → IsCollection xs cs c → IsCollection xs cs d → c ≡ d
one_collection xs cs c d a m h g =
    let i : IsAscending pair_cmp c.pairs = pairs_ascend c.pairs (collection-ascends xs cs c a h).0 in
    let k : IsAscending pair_cmp d.pairs = pairs_ascend d.pairs (collection-ascends xs cs d a g).0 in
    let e : c.pairs ≡ d.pairs = fixed_by_members pair_cmp pair_cmp-total c.pairs d.pairs i k (within xs cs c d m h g) (within xs cs d c m g h) in
    let f : c.differs ≡ d.differs = one_sets_of h.differs g.differs in
    λ l. record { pairs = e l; differs = f l }

-- so is what a repetition binds
pub one_repetition : {xs : List (List ℕ)} {cs : List Binding} {n : Option (List ℕ)} {b d : Binding} →
    IsAscending name_cmp xs → AreMaps cs → IsRepetition xs cs n b → IsRepetition xs cs n d → b ≡ d
one_repetition {xs = xs} {cs = cs} {b = b} {d = d} a m (without_length h) (without_length g) = one_collection xs cs b d a m h g
one_repetition {xs = xs} {cs = cs} {b = b} {d = d} a m (with_length {x = x} {c = c} h j) (with_length {c = e} g k) =
    let same : e ≡ c = one_collection xs cs e c a m g h in
    one_join c (one_name x (len (length cs))) b d j (subst (λ (f : Binding). IsJoin f (one_name x (len (length cs))) d) same k)

-- ---- one there is

-- a name that each of the bindings has stands for a sequence
some_sequence : (x : List ℕ) (cs : List Binding) → ((b : Binding) → In b cs → In x (bound_names b)) → (vs : Values) × AreValuesOf x cs vs
some_sequence x [] f = (none, of_none)
some_sequence x (b ∷ cs) f =
    let vs = some_sequence x cs (λ c i. f c (there i)) in
    let p : (p : Pair) × In p b.pairs × (x ≡ p.0) = in-map (λ (q : Pair). q.0) b.pairs x (f b (here refl)) in
    (more p.0.1 vs.0, of_more (subst (λ (y : List ℕ). In (y, p.0.1) b.pairs) (sym p.2) p.1) vs.1)

-- exactly these names, each with the sequence of what it stands for in the bindings
record Collected (xs : List (List ℕ)) (cs : List Binding) : Type 0 where
  pub pairs : List Pair
  pub names : pair_names pairs ≡ xs
  pub sequences : (x : List ℕ) (v : Value) → In (x, v) pairs → IsSequenceOf x cs v

-- names that each of the bindings has have such sequences
collected : (xs : List (List ℕ)) (cs : List Binding) → ((x : List ℕ) → In x xs → (b : Binding) → In b cs → In x (bound_names b))
    → Collected xs cs
collected [] cs f = record { pairs = []; names = refl; sequences = λ x v i. elim i [ ] }
collected (x ∷ xs) cs f = with_rest (some_sequence x cs (f x (here refl))) (collected xs cs (λ y i. f y (there i)))
  where
    with_rest : ((vs : Values) × AreValuesOf x cs vs) → Collected xs cs → Collected (x ∷ xs) cs
    with_rest s c = record { pairs = (x, many s.0) ∷ c.pairs; names = ap (λ ys. x ∷ ys) c.names; sequences = sequences }
      where
        sequences : (y : List ℕ) (v : Value) → In (y, v) ((x, many s.0) ∷ c.pairs) → IsSequenceOf y cs v
        sequences y v (here e) = record {
          sequence = s.0;
          same = ap (λ (p : Pair). p.1) e;
          values = subst (λ (z : List ℕ). AreValuesOf z cs s.0) (sym (ap (λ (p : Pair). p.0) e)) s.1;
        }
        sequences y v (there i) = c.sequences y v i

-- bindings of the same names have a collection, where their sets come together
pub some_collection : (xs : List (List ℕ)) (cs : List Binding) → BindNames xs cs → (ms : List Mismatch) → AreSetsOf cs ms
    → (c : Binding) × IsCollection xs cs c
some_collection xs cs f ms s =
    let c = collected xs cs (λ x i b k. subst (λ (ys : List (List ℕ)). In x ys) (sym (f b k)) i) in
    (record { pairs = c.pairs; differs = ms }, record { names = c.names; sequences = c.sequences; differs = s })
