-- Nonterminals in a vector.
use Rattle.std.specs.Prelude.{ℕ, Bool, true, false, List, Option, None, map, Vec}
use Rattle.std.specs.Borrow.{Bor}
use Rattle.std.specs.declared.alloc.Global.{Global}
use Rattle.rdx_lang.specs.Patterns.{Pattern}
use Rattle.rdx_lang.specs.declared.pattern.Ref.{Ref}
use Rattle.rdx_gen.specs.NameRules.{first_in_alternatives}

-- those that a vector of borrowed ones has
abbrev pub refs_in : Vec (Bor Ref) Global → List Ref
refs_in v = map (λ r. r.now) v.items

-- the first name that breaks a rule in one of the alternatives, where they are marked
abbrev pub first_where : Bool → List Pattern → Option (List ℕ)
first_where true ps = first_in_alternatives ps
first_where false ps = None
