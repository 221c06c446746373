-- The shapes that keys stand for.
use Rattle.std.specs.Rc.{rc_str_bytes}
use Rattle.rdx_store.specs.Model.Shapes.{Shape, hole_shape, integer_shape, truth_shape, text_shape, symbol_shape, list_shape}
use Rattle.rdx_store.specs.declared.key.Key.{Key}
use Rattle.rdx_store.specs.declared.key.Key.TheVariants.{Hole, Int, Bool, Str, Sym, List}

-- the shape of a key
abbrev pub shape_of : Key → Shape
shape_of Hole = hole_shape
shape_of (Int n) = integer_shape n
shape_of (Bool b) = truth_shape b
shape_of (Str s) = text_shape (rc_str_bytes s)
shape_of (Sym s) = symbol_shape s
shape_of (List m is) = list_shape m is.items
