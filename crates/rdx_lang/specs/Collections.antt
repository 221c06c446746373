-- What a repetition binds: each name to the sequence of what it stands for in each turn, and the length name to how many turns there are; and
-- each mismatch name to the terms that its turns have under it, which all differ, also across turns.
use Rattle.std.specs.Prelude.{◌≡◌, ℕ, List, [], ◌∷◌, length, Option, Some, None}
use Rattle.rdx_lang.specs.Bindings.{Value, many, len, Values, none, more, Mismatch, Binding, bound_names, one_name}
use Rattle.rdx_lang.specs.Join.{JoinsSets, IsJoin}
use Rattle.rdx_lang.specs.Members.{In}

-- vs is what the name x stands for in each of these bindings, in their order
pub data AreValuesOf (x : List ℕ) : List Binding → Values → Type 0 where
  of_none : AreValuesOf x [] none
  of_more : {b : Binding} {bs : List Binding} {v : Value} {vs : Values} → In (x, v) b.pairs → AreValuesOf x bs vs → AreValuesOf x (b ∷ bs) (more v vs)

-- the value is such a sequence
pub record IsSequenceOf (x : List ℕ) (bs : List Binding) (v : Value) : Type 0 where
  pub sequence : Values
  pub same : v ≡ many sequence
  pub values : AreValuesOf x bs sequence

-- ms are the sets of all these bindings together, of which no two had a common term under one name: those of the first, joined with those of
-- the others
pub data AreSetsOf : List Binding → List Mismatch → Type 0 where
  sets_of_none : AreSetsOf [] []
  sets_of_more : {b : Binding} {bs : List Binding} {ms ns : List Mismatch} → AreSetsOf bs ms → JoinsSets b.differs ms ns → AreSetsOf (b ∷ bs) ns

-- c binds exactly these names, each to the sequence of what it stands for in the bindings bs, and has the sets of these together
pub record IsCollection (xs : List (List ℕ)) (bs : List Binding) (c : Binding) : Type 0 where
  pub names : bound_names c ≡ xs
  pub sequences : (x : List ℕ) (v : Value) → In (x, v) c.pairs → IsSequenceOf x bs v
  pub differs : AreSetsOf bs c.differs

-- b is what a repetition of a pattern with the names xs binds, whose turns bind cs, without a length name or with one
pub data IsRepetition (xs : List (List ℕ)) (cs : List Binding) : Option (List ℕ) → Binding → Type 0 where
  without_length : {b : Binding} → IsCollection xs cs b → IsRepetition xs cs None b
  with_length : {x : List ℕ} {c b : Binding} → IsCollection xs cs c → IsJoin c (one_name x (len (length cs))) b → IsRepetition xs cs (Some x) b
