-- What the places of one name have in common.
use Rattle.std.specs.Prelude.{ℕ, suc, Bool, true, false, not, ◌&&◌, ◌||◌, List, [], ◌∷◌, bytes_eq, nat_lt, unwrap_or, if◌then◌else◌}
use Rattle.std.specs.Borrow.{Bor}
use Rattle.std.specs.HashMap.{HashMap, get_by}
use Rattle.rdx_lang.specs.Patterns.{Pattern, wild}
use Rattle.rdx_gen.specs.Alike.{is_alike}
use Rattle.rdx_gen.specs.NameRules.{Place, is_inside, times, stands_again, any_inside, any_other}
use Rattle.rdx_gen.specs.declared.group.Group.{Group}

-- of the places of the name at u, among all of a pattern
abbrev pub group_of : List Place → Place → Group
group_of all u = record {
  seen = nat_lt 0 (times u.name all);
  several = stands_again u.name all;
  inside = any_inside u.name all;
  differs = any_other u.name u.part all;
}

-- the name at a place breaks a rule, where its places have this in common
abbrev pub breaks_by : Place → Group → Bool
breaks_by u g = u.is_mismatch || (if u.is_length then g.inside else (g.differs || (g.several && g.inside)))

-- it breaks one in an alternative
abbrev pub breaks_alternative_by : Place → Group → Bool
breaks_alternative_by u g = u.is_mismatch || g.several

-- the name, where it is wanted
abbrev pub name_where : Bool → List ℕ → List (List ℕ)
name_where true x = x ∷ []
name_where false x = []

-- no place
abbrev pub no_group : Group
no_group = record { seen = false; several = false; inside = false; differs = false }

-- one place more, where the first has the pattern p
abbrev pub with_place : Pattern → Place → Group → Group
with_place p u g = record { seen = true; several = g.several || g.seen; inside = g.inside || is_inside u; differs = g.differs || not (is_alike p u.part) }

-- those of the name x among these more
abbrev pub gathered : List ℕ → Pattern → Group → List Place → Group
gathered x p g [] = g
gathered x p g (u ∷ us) = gathered x p (if bytes_eq u.name x then with_place p u g else g) us

-- the number of the first place of the name x; how many there are, where it has none
abbrev pub first_place : List ℕ → List Place → ℕ
first_place x [] = 0
first_place x (u ∷ us) = if bytes_eq u.name x then 0 else suc (first_place x us)

-- the pattern there
abbrev pub first_part : List ℕ → List Place → Pattern
first_part x [] = wild
first_part x (u ∷ us) = if bytes_eq u.name x then u.part else first_part x us

-- a number, looked up by a name; n where there is none
abbrev pub number_in : {S : Type 0} → HashMap (Bor (List ℕ)) ℕ S → ℕ → List ℕ → ℕ
number_in m n x = unwrap_or (get_by (λ k. bytes_eq x k.now) m) n
