-- What closures do, stated for the contracts of the module of laws: the rule of a closure matches a term where the closing pattern splits it and the
-- rule matches the part; it takes the step that the rule takes there, inside of the context; and it meets the faults that the rule
-- meets there, and those of filling the context.
use Rattle.std.specs.Prelude.{◌≡◌, ◌↔◌, ℕ, IsTrue, IsFalse, List, Some, bytes_eq, slice_get}
use Rattle.std.specs.List.{list_all, list_any}
use Rattle.rdx_term.specs.Fill.{fill_of}
use Rattle.rdx_term.specs.Limits.{KeepsLimits}
use Rattle.rdx_term.specs.Tree.{Tree, hole}
use Rattle.rdx_lang.specs.Bindings.{Binding, one_name}
use Rattle.rdx_lang.specs.Bindings.{one as one_term}
use Rattle.rdx_lang.specs.Closures.{rule_names, context_name, closed_rule, context_closure}
use Rattle.rdx_lang.specs.Join.{IsJoin}
use Rattle.rdx_lang.specs.Laws.{SplitsWhole}
use Rattle.rdx_lang.specs.Listing.{IsListing, IsSeen}
use Rattle.rdx_lang.specs.Members.{In}
use Rattle.rdx_lang.specs.Modes.{Callable}
use Rattle.rdx_lang.specs.Patterns.{Pattern, Language}
use Rattle.rdx_lang.specs.Programs.{Program, Relation, Rule}
use Rattle.rdx_lang.specs.Rules.{Match, Split}
use Rattle.rdx_lang.specs.Valid.{is_valid_rule}
use Rattle.rdx_eval.specs.Answers.{Answer, value, fault, Fault, not_contract, Then}
use Rattle.rdx_eval.specs.Calls.{Calls}
use Rattle.rdx_eval.specs.Asking.{AskedIf}
use Rattle.rdx_eval.specs.Fresh.{avoiding}
use Rattle.rdx_eval.specs.Heights.{calls_at}
use Rattle.rdx_eval.specs.Instantiation.{Makes}
use Rattle.rdx_eval.specs.Making.{IsFilled}
use Rattle.rdx_eval.specs.declared.fault.Side.TheVariants as sides
use Rattle.rdx_reduce.specs.FirstFaults.{FailsAfter, MeetsFault, IsFirst}
use Rattle.rdx_reduce.specs.Steps.{Step, step_cmp, Reducts, Steps}
use Rattle.rdx_reduce.specs.TakenSteps.{TakesStep}

-- ---- matching

-- q splits t into a context and a part, whatever it binds there; p matches the part; and b is what p binds, joined with the name x for the context
pub record MatchesInside (L : Language) (q : Pattern) (x : List ℕ) (p : Pattern) (t : Tree) (b : Binding) : Type 0 where
  pub context : Tree
  pub part : Tree
  pub forgotten : Binding
  pub inner : Binding
  pub split : Split L q t context part forgotten
  pub matched : Match L p part inner
  pub joined : IsJoin (one_name x (one_term context)) inner b

-- the pattern of a closed rule matches exactly where the closing pattern splits the term and the rule's pattern matches the part
abbrev pub MatchesInContext : Type 0
MatchesInContext =
    (L : Language) (q : Pattern) (r : Rule) (t : Tree) (b : Binding)
    → (Match L (closed_rule q r).pattern t b ↔ MatchesInside L q (context_name r) r.pattern t b)

-- the name of the context is none that the rule binds
abbrev pub LeavesAName : Rule → Type 0
LeavesAName r = IsFalse (list_any (bytes_eq (context_name r)) (rule_names r))

-- each of these rules leaves the name of a context free
abbrev pub LeaveNames : List Rule → Type 0
LeaveNames rs = (r : Rule) → In r rs → LeavesAName r

-- what the rule's pattern binds has a join with the name of the context, whichever the context is
abbrev pub ContextIsJoined : Type 0
ContextIsJoined =
    (L : Language) (r : Rule) (C s : Tree) (b : Binding) → LeavesAName r → Match L r.pattern s b
    → (c : Binding) × IsJoin (one_name (context_name r) (one_term C)) b c

-- ---- steps

-- q splits t into a context and a part, the rule takes a step from the part, and u is the context filled with what that leads to, within the
-- limits of terms; the whole term is w
pub record TakesStepInside (L : Language) (C : Calls) (w : Tree) (q : Pattern) (r : Rule) (t u : Tree) : Type 0 where
  pub context : Tree
  pub part : Tree
  pub forgotten : Binding
  pub reduct : Tree
  pub split : Split L q t context part forgotten
  pub taken : TakesStep L C w r part reduct
  pub filled : u ≡ fill_of context reduct
  pub within : KeepsLimits u

-- where a rule is valid, the closed rule takes exactly the steps that the rule takes inside of contexts; fresh names avoid what stands around the
-- part, too
abbrev pub StepsInContext : Type 0
StepsInContext =
    (L : Language) (P : Program) (n : ℕ) (F : Callable) (q : Pattern) (r : Rule) (w t u : Tree) → IsTrue (is_valid_rule F L r) → LeavesAName r
    → (TakesStep L (calls_at P n) w (closed_rule q r) t u ↔ TakesStepInside L (calls_at P n) w q r t u)

-- so a closing pattern that splits the term with nothing in the context, as a nonterminal with `hole` as an alternative does, leaves to a valid rule
-- its own steps, where they lead to terms within the limits
abbrev pub KeepsOwnSteps : Type 0
KeepsOwnSteps =
    (L : Language) (P : Program) (n : ℕ) (F : Callable) (q : Pattern) (r : Rule) (w t u : Tree) → IsTrue (is_valid_rule F L r) → LeavesAName r
    → SplitsWhole L q t → KeepsLimits u → TakesStep L (calls_at P n) w r t u → TakesStep L (calls_at P n) w (closed_rule q r) t u

-- the rule at the step's place, of these rules, takes the step from t inside of a context
pub record IsTakenInside (L : Language) (C : Calls) (q : Pattern) (t : Tree) (rs : List Rule) (s : Step) : Type 0 where
  pub rule : Rule
  pub placed : slice_get rs s.rule ≡ Some rule
  pub taken : TakesStepInside L C t q rule t s.reduct

-- where there is no fault, the steps of a closure of a relation with valid rules are a listing of those that its rules take inside of contexts; the
-- domain of the relation is that of the closure, and asked of whole terms
abbrev pub ClosureLists : Type 0
ClosureLists =
    (L : Language) (P : Program) (n : ℕ) (F : Callable) (q : Pattern) (x : List ℕ) (R : Relation) (t : Tree) (ss : List Step)
    → IsTrue (list_all (is_valid_rule F L) R.rules) → LeaveNames R.rules
    → Steps L (calls_at P n) (context_closure q x R) t (value ss) → IsListing step_cmp ss (IsTakenInside L (calls_at P n) q t R.rules)

-- ---- faults

-- what the result of a rule makes, put into a context, where that is in the domain of R, if R has one
abbrev pub ReductsInside : Language → Calls → Relation → Tree → Rule → Binding → Answer Tree → Type 0
ReductsInside L C R c r b =
    Then (Then (Makes C b r.result) (IsFilled c)) (λ u. AskedIf L R.domain u (not_contract R.name sides.Out u) (λ a. a ≡ value u))

-- q splits t into a context and a part; with the part the rule meets the fault behind so many of its extras, where S is what its result makes in
-- that context; and b is the binding that it meets it with, joined with the name of the context
pub record MeetsFaultInside (L : Language) (C : Calls) (S : Tree → Rule → Binding → Answer Tree → Type 0) (w : Tree) (q : Pattern) (t : Tree) (r : Rule)
    (n : ℕ) (b : Binding) (f : Fault) : Type 0 where
  pub context : Tree
  pub part : Tree
  pub forgotten : Binding
  pub first : Binding
  pub last : Binding
  pub split : Split L q t context part forgotten
  pub matched : IsSeen (Match L r.pattern part) first
  pub fails : FailsAfter L C (S context r) (avoiding w) r.extras first n last f
  pub joined : IsJoin (one_name (context_name r) (one_term context)) last b

-- where a rule is valid, the closed rule meets exactly the faults that the rule meets inside of contexts, in a relation with whatever domain
abbrev pub FaultsInContext : Type 0
FaultsInContext =
    (L : Language) (P : Program) (n : ℕ) (F : Callable) (R : Relation) (q : Pattern) (r : Rule) (w t : Tree) (k : ℕ) (b : Binding) (f : Fault)
    → IsTrue (is_valid_rule F L r) → LeavesAName r
    → (MeetsFault L (calls_at P n) (Reducts L (calls_at P n) R) w t (closed_rule q r) k b f
    ↔ MeetsFaultInside L (calls_at P n) (ReductsInside L (calls_at P n) R) w q t r k b f)

-- so such a closing pattern leaves to a valid rule its own faults, too, behind as many of its extras, where the domain is the same and a reduct that is
-- not in it is within the limits of terms; the context is the hole
abbrev pub KeepsOwnFaults : Type 0
KeepsOwnFaults =
    (L : Language) (P : Program) (n : ℕ) (F : Callable) (R : Relation) (q : Pattern) (r : Rule) (w t : Tree) (k : ℕ) (b : Binding) (f : Fault)
    → IsTrue (is_valid_rule F L r) → LeavesAName r → SplitsWhole L q t
    → ((u : Tree) → f ≡ not_contract R.name sides.Out u → KeepsLimits u)
    → MeetsFault L (calls_at P n) (Reducts L (calls_at P n) R) w t r k b f
    → (c : Binding) × IsJoin (one_name (context_name r) (one_term hole)) b c
    × MeetsFault L (calls_at P n) (Reducts L (calls_at P n) R) w t (closed_rule q r) k c f

-- whatever the steps of a closure of a relation with valid rules are answered, it is a fault exactly where this is the first: that the whole term is
-- not in the domain, or else of those that the rules of the relation meet inside of contexts; bindings are in order with the name of the context
-- among theirs
abbrev pub ClosureFaults : Type 0
ClosureFaults =
    (L : Language) (P : Program) (n : ℕ) (F : Callable) (q : Pattern) (x : List ℕ) (R : Relation) (t : Tree) (f : Fault) (a : Answer (List Step))
    → IsTrue (list_all (is_valid_rule F L) R.rules) → LeaveNames R.rules → Steps L (calls_at P n) (context_closure q x R) t a
    → (a ≡ fault f
    ↔ IsFirst L (context_closure q x R)
    (MeetsFaultInside L (calls_at P n) (ReductsInside L (calls_at P n) (context_closure q x R)) t q t) R.rules t f)
