-- The text of an answer: how many there are, and then a line for each.
use Rattle.std.specs.Prelude.{ℕ, Bool, true, false, ◌&&◌, nat_lt, List, [], ◌∷◌, ◌++◌, Option, Some, None, map, length, codes, decimal, if◌then◌else◌}
use Rattle.rdx_term.specs.Context.{is_context}
use Rattle.rdx_term.specs.Path.{path}
use Rattle.rdx_term.specs.Text.{tree_text, spaced_text, label_text}
use Rattle.rdx_term.specs.Tree as tree
use Rattle.rdx_term.specs.Tree.{Tree, Trees, trees, tree_holes}
use Rattle.rdx_lang.specs.Bindings.{Value, one, many, len, Values, none, more, Pair, Binding}
use Rattle.rdx_lang.specs.Decompositions.{Decomposition}
use Rattle.rdx_eval.specs.Answers.{Fault, undefined, ambiguous, not_contract, spent, not_context, too_deep, too_large, lengths_differ, outside, overflow, divide_by_zero}
use Rattle.rdx_eval.specs.declared.fault.Side.{Side}
use Rattle.rdx_eval.specs.declared.fault.Side.TheVariants.{In, Out}
use Rattle.rdx_delta.specs.Operations.{operation_text}

-- ---- paths

-- each place with a space before it
abbrev pub further_places : List ℕ → List ℕ
further_places [] = []
further_places (k ∷ ks) = codes " " ++ decimal k ++ further_places ks

-- the places of a path, with a space between two
abbrev pub places_text : List ℕ → List ℕ
places_text [] = []
places_text (k ∷ ks) = decimal k ++ further_places ks

-- ` at [places]`: where a context has its own hole
abbrev pub at_text : Tree → List ℕ
at_text t = codes " at [" ++ places_text (path t) ++ codes "]"

-- ---- bindings

-- a context with other holes than its own: its text does not say which is its own
abbrev pub has_other_holes : Tree → Bool
has_other_holes t = is_context t && nat_lt 1 (tree_holes t)

-- What a name is bound to, printed: a term, such a context with its path; a sequence in square brackets; a length in decimal.
abbrev mutual
  pub value_text : Value → List ℕ
  value_text (one t) = tree_text t ++ (if has_other_holes t then at_text t else [])
  value_text (many vs) = codes "[" ++ values_text vs ++ codes "]"
  value_text (len n) = decimal n

  -- the values with one space between two
  pub values_text : Values → List ℕ
  values_text none = []
  values_text (more v vs) = value_text v ++ further_values vs

  -- each value with a space before it
  pub further_values : Values → List ℕ
  further_values none = []
  further_values (more v vs) = codes " " ++ value_text v ++ further_values vs

-- `name = value`
abbrev pub pair_text : Pair → List ℕ
pair_text p = p.0 ++ codes " = " ++ value_text p.1

-- each pair with a comma before it
abbrev pub further_text : List Pair → List ℕ
further_text [] = []
further_text (p ∷ ps) = codes ", " ++ pair_text p ++ further_text ps

-- the pairs with commas between, or `-` where there are none
abbrev pub pairs_text : List Pair → List ℕ
pairs_text [] = codes "-"
pairs_text (p ∷ ps) = pair_text p ++ further_text ps

-- the names of a binding with their values; its mismatch names are not printed
abbrev pub binding_text : Binding → List ℕ
binding_text b = pairs_text b.pairs

-- ---- splits

-- `context at [places] is part with binding`
abbrev pub split_text : Decomposition → List ℕ
split_text d = tree_text d.context ++ at_text d.context ++ codes " is " ++ tree_text d.part ++ codes " with " ++ binding_text d.binding

-- ---- answers

-- a text on a line of its own, after two blanks
abbrev pub line_text : List ℕ → List ℕ
line_text x = codes "  " ++ x ++ codes "\n"

-- each text on such a line
abbrev pub lines_text : List (List ℕ) → List ℕ
lines_text [] = []
lines_text (x ∷ xs) = line_text x ++ lines_text xs

-- what there is, how many there are, and then the lines
abbrev pub counted_text : List ℕ → List (List ℕ) → List ℕ
counted_text what xs = what ++ codes " " ++ decimal (length xs) ++ codes "\n" ++ lines_text xs

-- `match N`, and the N bindings
abbrev pub matches_text : List Binding → List ℕ
matches_text bs = counted_text (codes "match") (map binding_text bs)

-- `splits N`, and the N splits
abbrev pub splits_text : List Decomposition → List ℕ
splits_text ds = counted_text (codes "splits") (map split_text ds)

-- whether there are some
abbrev pub whether_text : List Binding → List ℕ
whether_text [] = codes "matches #f\n"
whether_text (b ∷ bs) = codes "matches #t\n"

-- `value t`
abbrev pub value_line : Tree → List ℕ
value_line t = codes "value " ++ tree_text t ++ codes "\n"

-- whether a premise is met
abbrev pub holds_text : Bool → List ℕ
holds_text true = codes "holds #t\n"
holds_text false = codes "holds #f\n"

-- `answers N`, and the N terms
abbrev pub answers_text : List Tree → List ℕ
answers_text ts = counted_text (codes "answers") (map tree_text ts)

-- `reducts N`, and the N terms
abbrev pub reducts_text : List Tree → List ℕ
reducts_text ts = counted_text (codes "reducts") (map tree_text ts)

-- the name of a rule; `-` where it has none
abbrev pub rule_name_text : Option (List ℕ) → List ℕ
rule_name_text None = codes "-"
rule_name_text (Some x) = label_text x

-- `name reduct`, of a step by the rule of this name
abbrev pub step_text : Option (List ℕ) × Tree → List ℕ
step_text s = rule_name_text s.0 ++ codes " " ++ tree_text s.1

-- `steps N`, and the N steps
abbrev pub steps_text : List (Option (List ℕ) × Tree) → List ℕ
steps_text ss = counted_text (codes "steps") (map step_text ss)

-- ---- faults

-- `(f t ...)`: a call of what is written so, with these arguments
abbrev pub call_text : List ℕ → Trees → List ℕ
call_text f ts = codes "(" ++ f ++ spaced_text ts ++ codes ")"

-- the items of a list; other terms have none
abbrev pub items_of : Tree → Trees
items_of tree.hole = tree.nil
items_of (tree.integer n) = tree.nil
items_of (tree.truth b) = tree.nil
items_of (tree.text x) = tree.nil
items_of (tree.symbol x) = tree.nil
items_of (tree.list m ts) = ts

-- the word for what a contract speaks of, between spaces: what goes in, or what comes out
abbrev pub side_text : Side → List ℕ
side_text In = codes " in "
side_text Out = codes " out "

-- what a fault is called, with its numbers and terms
abbrev pub fault_name : Fault → List ℕ
fault_name (undefined f a) = codes "Undefined " ++ call_text f (items_of a)
fault_name (ambiguous f a t u) =
    codes "Ambiguous " ++ call_text f (items_of a) ++ codes " gives " ++ tree_text t ++ codes " and " ++ tree_text u
fault_name (not_contract f s t) = codes "NotContract " ++ f ++ side_text s ++ tree_text t
fault_name (spent f) = codes "Spent " ++ f
fault_name (not_context h) = codes "NotContext " ++ decimal h
fault_name too_deep = codes "TooDeep"
fault_name too_large = codes "TooLarge"
fault_name (lengths_differ m n) = codes "Lengths " ++ decimal m ++ codes " and " ++ decimal n
fault_name (outside op ts) = codes "HostDomain " ++ call_text (operation_text op) (trees ts)
fault_name (overflow op ts) = codes "Overflow " ++ call_text (operation_text op) (trees ts)
fault_name (divide_by_zero op ts) = codes "DivideByZero " ++ call_text (operation_text op) (trees ts)

-- the line of a fault
abbrev pub fault_line : Fault → List ℕ
fault_line f = codes "fault " ++ fault_name f ++ codes "\n"

-- ---- faults of walks and runs

-- `fault NoSuchReduct I of N`: a choice by which there is no step
abbrev pub no_such_reduct_line : ℕ → ℕ → List ℕ
no_such_reduct_line i n = codes "fault NoSuchReduct " ++ decimal i ++ codes " of " ++ decimal n ++ codes "\n"

-- `fault Branches t`, `fault RunBound 10000`: why a run rests in no term
abbrev pub branches_line : Tree → List ℕ
branches_line t = codes "fault Branches " ++ tree_text t ++ codes "\n"

abbrev pub bound_line : List ℕ
bound_line = codes "fault RunBound 10000\n"
