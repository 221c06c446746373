-- The modes of judgements (after the Redex reference manual, "Other Relations"), and what fits them: as many inputs and outputs as a mode has, none
-- of them under an ellipsis.
use Rattle.std.specs.Prelude.{ℕ, zero, suc, Bool, true, false, ◌&&◌, List, [], ◌∷◌, Option, Some, None, length, nat_eq}
use Rattle.rdx_lang.specs.Fitting.{Called}
use Rattle.rdx_lang.specs.Patterns.{Pattern, Items, wild, of_kind, except, prefix, hole, lit, nt, named, differ, in_hole, hide_hole, closed, seq, nil, one, many}
use Rattle.rdx_lang.specs.Programs.{Mode, Premise, JudgementRule}

-- the mode of the judgement of each name, where there is one
abbrev pub Modes : Type 0
Modes = List ℕ → Option Mode

-- what may be called: which names are those of metafunctions, and the modes of judgements
pub record Callable : Type 0 where
  pub functions : Called
  pub modes : Modes

-- how many arguments are inputs
abbrev pub input_count : Mode → ℕ
input_count [] = 0
input_count (true ∷ m) = suc (input_count m)
input_count (false ∷ m) = input_count m

-- and how many are outputs
abbrev pub output_count : Mode → ℕ
output_count [] = 0
output_count (true ∷ m) = output_count m
output_count (false ∷ m) = suc (output_count m)

-- there are n items, none under an ellipsis
abbrev pub are_single : ℕ → Items → Bool
are_single zero nil = true
are_single zero (one p ps) = false
are_single (suc n) nil = false
are_single (suc n) (one p ps) = are_single n ps
are_single n (many p x ps) = false

-- the pattern is that of lists of n terms, an item for each
abbrev pub is_list_of : ℕ → Pattern → Bool
is_list_of n wild = false
is_list_of n (of_kind k) = false
is_list_of n (except rs) = false
is_list_of n (prefix r) = false
is_list_of n hole = false
is_list_of n (lit u) = false
is_list_of n (nt x) = false
is_list_of n (named x q) = false
is_list_of n (differ x q) = false
is_list_of n (in_hole q r) = false
is_list_of n (hide_hole q) = false
is_list_of n (closed q) = false
is_list_of n (seq ps) = are_single n ps

-- the premise fits the mode of its judgement, if there is one
abbrev pub fits_mode : Option Mode → Premise → Bool
fits_mode None q = false
fits_mode (Some m) q = nat_eq (length q.inputs) (input_count m) && is_list_of (output_count m) q.outputs

-- the rule fits the mode of its judgement
abbrev pub rule_fits_mode : Mode → JudgementRule → Bool
rule_fits_mode m r = is_list_of (input_count m) r.inputs && nat_eq (length r.outputs) (output_count m)
