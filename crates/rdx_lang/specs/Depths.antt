-- The depth of a name in a pattern: how many repetitions stand around it. A name stands for one term at depth 0, for a sequence at depth 1,
-- for a sequence of sequences at depth 2; so it has one depth in a pattern, and it does not stand for the length of a repetition as well.
use Rattle.std.specs.Prelude.{ℕ, suc, Bool, true, false, not, ◌&&◌, ◌||◌, List, [], ◌∷◌, ◌++◌, Option, Some, None, bytes_eq, nat_eq, nat_lt}
use Rattle.std.specs.Bool.{beq}
use Rattle.std.specs.List.{list_all}
use Rattle.rdx_lang.specs.Patterns.{Pattern, wild, of_kind, except, prefix, hole, lit, nt, named, differ, in_hole, hide_hole, closed, seq, Items, nil, one, many}

-- one place at which a name is bound: the name, how many repetitions stand around it, and whether it is the length name of one, around which
-- that one does not count
pub record Use : Type 0 where
  pub name : List ℕ
  pub depth : ℕ
  pub is_length : Bool

-- the use of a name
abbrev pub name_use : ℕ → List ℕ → Use
name_use n x = record { name = x; depth = n; is_length = false }

-- the use of the length name of a repetition, where it has one
abbrev pub length_use : ℕ → Option (List ℕ) → List Use
length_use n None = []
length_use n (Some x) = record { name = x; depth = n; is_length = true } ∷ []

abbrev mutual
  -- the uses in a pattern around which n repetitions stand, in the order in which they are written: a name before those inside its pattern,
  -- a length name behind those of its repetition; a closed pattern binds none
  pub uses : ℕ → Pattern → List Use
  uses n wild = []
  uses n (of_kind k) = []
  uses n (except rs) = []
  uses n (prefix r) = []
  uses n hole = []
  uses n (lit u) = []
  uses n (nt x) = []
  uses n (named x q) = name_use n x ∷ uses n q
  uses n (differ x q) = uses n q
  uses n (in_hole q r) = uses n q ++ uses n r
  uses n (hide_hole q) = uses n q
  uses n (closed q) = []
  uses n (seq ps) = item_uses n ps

  -- the uses in items
  pub item_uses : ℕ → Items → List Use
  item_uses n nil = []
  item_uses n (one p ps) = uses n p ++ item_uses n ps
  item_uses n (many p x ps) = uses (suc n) p ++ length_use n x ++ item_uses n ps

-- two uses are of two names, or both at one depth and of one kind
abbrev pub agree : Use → Use → Bool
agree u v = not (bytes_eq u.name v.name) || (nat_eq u.depth v.depth && beq u.is_length v.is_length)

-- each two of them do
abbrev pub all_agree : List Use → Bool
all_agree [] = true
all_agree (u ∷ us) = list_all (agree u) us && all_agree us

-- the depths that a name may have are below this
abbrev pub depth_limit : ℕ
depth_limit = 4294967296

-- the depth is one of these
abbrev pub is_shallow : Use → Bool
is_shallow u = nat_lt u.depth depth_limit

-- each name that the pattern binds has one depth, below the limit, and none is a length name as well
abbrev pub has_one_depth_each : Pattern → Bool
has_one_depth_each p = all_agree (uses 0 p) && list_all is_shallow (uses 0 p)

abbrev mutual
  -- so has each closed pattern in the pattern, by itself
  pub closed_parts_fit : Pattern → Bool
  closed_parts_fit wild = true
  closed_parts_fit (of_kind k) = true
  closed_parts_fit (except rs) = true
  closed_parts_fit (prefix r) = true
  closed_parts_fit hole = true
  closed_parts_fit (lit u) = true
  closed_parts_fit (nt x) = true
  closed_parts_fit (named x q) = closed_parts_fit q
  closed_parts_fit (differ x q) = closed_parts_fit q
  closed_parts_fit (in_hole q r) = closed_parts_fit q && closed_parts_fit r
  closed_parts_fit (hide_hole q) = closed_parts_fit q
  closed_parts_fit (closed q) = has_one_depth_each q && closed_parts_fit q
  closed_parts_fit (seq ps) = closed_items_fit ps

  -- and each in the items
  pub closed_items_fit : Items → Bool
  closed_items_fit nil = true
  closed_items_fit (one p ps) = closed_parts_fit p && closed_items_fit ps
  closed_items_fit (many p x ps) = closed_parts_fit p && closed_items_fit ps

-- the names of the pattern fit together, and so do those of each closed pattern in it
abbrev pub has_fitting_names : Pattern → Bool
has_fitting_names p = has_one_depth_each p && closed_parts_fit p
