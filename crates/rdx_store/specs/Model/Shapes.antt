-- What keys stand for: a term with the id of each item in place of the item. And the test by which keys are equal, and what a hasher is
-- fed for one.
use Rattle.std.specs.Prelude.{ℕ, ℤ, Bool, true, false, ◌&&◌, nat_eq, List, [], ◌++◌, Option}
use Rattle.std.specs.Bool.{beq}
use Rattle.std.specs.Hash as fed
use Rattle.std.specs.Option.{option_eq}
use Rattle.std.specs.Ordering.{int_eq}
use Rattle.std.specs.Cmp.Lexicographic.{pointwise}

-- a term of each kind, a list by its mark and the ids of its items
pub data Shape : Type 0 where
  hole_shape : Shape
  integer_shape : ℤ → Shape
  truth_shape : Bool → Shape
  text_shape : List ℕ → Shape
  symbol_shape : List ℕ → Shape
  list_shape : Option ℕ → List ℕ → Shape

-- the ids of the items; what is no list has none
abbrev pub ids_in : Shape → List ℕ
ids_in hole_shape = []
ids_in (integer_shape n) = []
ids_in (truth_shape b) = []
ids_in (text_shape s) = []
ids_in (symbol_shape s) = []
ids_in (list_shape m is) = is

-- the two are of one kind and hold the same
abbrev pub shape_eq : Shape → Shape → Bool
shape_eq hole_shape hole_shape = true
shape_eq (integer_shape n) (integer_shape k) = int_eq n k
shape_eq (truth_shape b) (truth_shape c) = beq b c
shape_eq (text_shape s) (text_shape r) = pointwise nat_eq s r
shape_eq (symbol_shape s) (symbol_shape r) = pointwise nat_eq s r
shape_eq (list_shape m is) (list_shape n js) = option_eq nat_eq m n && pointwise nat_eq is js
shape_eq s r = false

-- what a hasher is fed: the number of the kind, and what the shape holds
abbrev pub shape_fed : Shape → fed.HashWrites
shape_fed hole_shape = fed.u8 0
shape_fed (integer_shape n) = fed.u8 1 ++ fed.i128 n
shape_fed (truth_shape b) = fed.u8 2 ++ fed.bool b
shape_fed (text_shape s) = fed.u8 3 ++ fed.str s
shape_fed (symbol_shape s) = fed.u8 4 ++ fed.str s
shape_fed (list_shape m is) = fed.u8 5 ++ (fed.option fed.usize m ++ fed.slice fed.usize is)
