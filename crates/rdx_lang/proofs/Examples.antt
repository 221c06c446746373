-- The worked examples hold.
use Rattle.std.proofs.Common.{◌≡◌, ℕ, ◌<◌, true, false, Option, None, List, [], ◌∷◌, refl, sym, ◌∙◌, ap, subst, ◌⊎◌, inl, inr, arith, codes}
use Rattle.std.specs.declared.cmp.Ordering.{Ordering}
use Rattle.std.specs.declared.cmp.Ordering.TheVariants.{Less, Equal}
use Rattle.std.proofs.lemmas.Cmp.{tied_itself}
use Rattle.rdx_term.specs.Tree.{Tree, list, Trees, cons}
use Rattle.rdx_term.specs.Tree.{nil as no_trees}
use Rattle.rdx_term.specs.Tree.{hole as the_hole}
use Rattle.rdx_term.specs.Fill.{fill_of}
use Rattle.rdx_lang.specs.Ascending.{IsAscending}
use Rattle.rdx_lang.specs.Bindings.{Value, Pair, Binding, of_pairs, no_names, one_name, name_cmp}
use Rattle.rdx_lang.specs.Bindings.{one as one_term}
use Rattle.rdx_lang.specs.Decompositions.{Decomposition}
use Rattle.rdx_lang.specs.Edges.{edge_nt, edge_named, edge_right, Reaches, at_once, further, IsRecursive}
use Rattle.rdx_lang.specs.Empty.{IsEmpty, empty_hole, empty_nt, empty_named}
use Rattle.rdx_lang.specs.Examples.{int, first_marked, second_marked, list_of_one, list_of_two, binds, seq_of_one, seq_of_two, e, f, e_1, Numbers, Twins, ThroughAName, UnderAList, TwoEqual, TwoDifferent, TwoMarks, NameAround, NameAroundItself, Forgotten, OnceForTwo, Mentioned, ExceptMentionsNone, NonterminalsAreNotMentioned, PrefixFirst, ItemsDecide, FirstPairDecides, NameKeepsTheTerm, ListTakesOff}
use Rattle.rdx_lang.specs.Examples.{marked_first, marked_second, E, E_1, any, number, Contexts, split_into, in_place, nested, BehindAList, InEachPlace, AtEitherHole, HiddenSplitsNothing, OneItemSplits, NeverAtBoth, ContextInContext, NameOfATerm, EqualContexts, ContextsWithMarks, EmptyThroughAnother, EmptyLeadsOn, ContextTakesOff}
use Rattle.rdx_lang.specs.Join.{IsJoin}
use Rattle.rdx_lang.proofs.JoinLaws.{one_join, join_agrees, turned_join, unit_left, unit_right, unit_right-only, joined_itself, none_left, none_left-only, one_left-only, one_right-only, one_itself-only}
use Rattle.rdx_lang.specs.Listing.{IsListing, SplitsInto}
use Rattle.rdx_lang.specs.Members.{In, here, there}
use Rattle.rdx_lang.proofs.NameLaws.{match-ascends, split-ascends}
use Rattle.rdx_lang.specs.Order.{value_cmp, decomposition_cmp}
use Rattle.rdx_lang.specs.Model.ValueOrder.{value_cmp-total}
use Rattle.rdx_lang.specs.Patterns.{Pattern, of_kind, hole, nt, named, in_hole, seq, Items, Definition, Language}
use Rattle.rdx_lang.specs.Rules.{is_of_kind, Match, IsAlternative, match_kind, match_hole, match_nt, match_named, match_in_hole, match_hide_hole, match_seq, match_none, match_one}
use Rattle.rdx_lang.specs.Rules.{is_integer, Split, split_hole, split_nt, split_named, split_in_hole, split_seq, split_here, split_behind}
use Rattle.rdx_lang.specs.declared.pattern.Kind.{Kind}
use Rattle.rdx_lang.specs.declared.pattern.Kind.TheVariants.{Number, Natural}
use Rattle.rdx_lang.specs.declared.pattern.Ref.{Ref}
use Rattle.rdx_lang.proofs.LookupLaws.{alternatives_of-all}
use Rattle.rdx_lang.proofs.RankLaws.{ranked_is_free}
use Rattle.rdx_lang.proofs.SeenListings.{matches_listed, splits_listed}
use Rattle.rdx_lang.proofs.SetJoins.{no_sets_left}
use Rattle.rdx_lang.proofs.RuleSteps.{hole_inside, named_inside, in_hole_inside, hide_hole_inside, hole_splits, kind_splits, hide_hole_splits, nt_splits, named_splits, in_hole_splits, seq_splits}

-- ---- listings

-- R holds of each of these
abbrev pub HoldsOfAll : {A : Type 0} → (A → Type 0) → List A → Type 0
HoldsOfAll R [] = Unit {0}
HoldsOfAll R (x ∷ xs) = R x × HoldsOfAll R xs

-- so it holds of the members
pub of_member : {A : Type 0} (R : A → Type 0) (xs : List A) → HoldsOfAll R xs → (x : A) → In x xs → R x
of_member R [] h x i = elim i [ ]
of_member R (y ∷ xs) h x (here d) = subst R (sym d) h.0
of_member R (y ∷ xs) h x (there i) = of_member R xs h.1 x i

-- the listing of these members
pub listed : {A : Type 0} {cmp : A → A → Ordering} {R : A → Type 0} (xs : List A) → IsAscending cmp xs → HoldsOfAll R xs → ((x : A) → R x → In x xs) → IsListing cmp xs R
listed {R = R} xs a h only = record { ascending = a; sound = of_member R xs h; complete = only }

-- the listing of one member
pub one_alone : {A : Type 0} {cmp : A → A → Ordering} {R : A → Type 0} (x : A) → R x → ((y : A) → R y → y ≡ x) → IsListing cmp (x ∷ []) R
one_alone x r only = listed (x ∷ []) (tt, tt) (r, tt) (λ y h. here (only y h))

-- the listing of no member
pub no_member : {A : Type 0} {cmp : A → A → Ordering} {R : A → Type 0} → ((x : A) → R x → ⊥) → IsListing cmp [] R
no_member none = listed [] tt tt (λ x h. absurd (none x h))

-- ---- joins

-- values that the order tells apart are different
pub apart : (v w : Value) → value_cmp v w ≡ Less → v ≡ w → ⊥
apart v w l d =
    let k : value_cmp v v ≡ Equal = tied_itself value_cmp-total v in
    let m : value_cmp v v ≡ Less = subst (λ (u : Value). value_cmp v u ≡ Less) (sym d) l in
    absurd cc

-- a name with two values has none
pub two_values : (x : List ℕ) (v w : Value) (c : Binding) → value_cmp v w ≡ Less → IsJoin (one_name x v) (one_name x w) c → ⊥
two_values x v w c l j = apart v w l ((join_agrees (one_name x v) (one_name x w) c j).pairs x v w (here refl) (here refl))

-- ---- patterns

-- how a list pattern of two items matches a list of two
record Both (L : Language) (p q : Pattern) (t u : Tree) (b : Binding) : Type 0 where
  pub first : Binding
  pub second : Binding
  pub matches_first : Match L p t first
  pub matches_second : Match L q u second
  pub joined : IsJoin first second b

-- such a match
two : {L : Language} {p q : Pattern} {t u : Tree} {b : Binding} (c d : Binding) → Match L p t c → Match L q u d → IsJoin c d b → Match L (seq_of_two p q) (list_of_two t u) b
two c d g h j = match_seq (match_one g (match_one h match_none (unit_right d (match-ascends h))) j)

-- each match is such a match
both : {L : Language} {p q : Pattern} {t u : Tree} {b : Binding} → Match L (seq_of_two p q) (list_of_two t u) b → Both L p q t u b
both (match_seq {b = b} (match_one {c = c} g (match_one {c = d} h match_none k) j)) = record {
  first = c;
  second = d;
  matches_first = g;
  matches_second = h;
  joined = subst (λ (s : Binding). IsJoin c s b) (unit_right-only (match-ascends h) k) j;
}

-- a nonterminal binds nothing
nt_binds : {L : Language} {x : Ref} {t : Tree} {b : Binding} → Match L (nt x) t b → b ≡ no_names
nt_binds (match_nt a h) = refl

-- a built-in name binds nothing
kind_binds : {L : Language} {k : Kind} {t : Tree} {b : Binding} → Match L (of_kind k) t b → b ≡ no_names
kind_binds (match_kind h) = refl

-- it matches the terms of its kind
kind_matches : {L : Language} {k : Kind} {t : Tree} {b : Binding} → Match L (of_kind k) t b → is_of_kind L k t ≡ true
kind_matches (match_kind h) = h

-- a named nonterminal binds its name alone
named_nt_binds : {L : Language} {x : List ℕ} {y : Ref} {t : Tree} {b : Binding} → Match L (named x (nt y)) t b → b ≡ binds x t
named_nt_binds (match_named (match_nt a h) j) = one_left-only j

-- and so does a named built-in name
pub named_kind_binds : {L : Language} {x : List ℕ} {k : Kind} {t : Tree} {b : Binding} → Match L (named x (of_kind k)) t b → b ≡ binds x t
named_kind_binds (match_named (match_kind h) j) = one_left-only j

-- a named nonterminal matches what the nonterminal matches
named_nt : {L : Language} (x : List ℕ) {y : Ref} (t : Tree) → Match L (nt y) t no_names → Match L (named x (nt y)) t (binds x t)
named_nt x t h = match_named h (unit_left (binds x t) ((tt, tt), (tt, tt)))

-- a join of equal bindings
pub joined_by : {a b c d s : Binding} → a ≡ c → b ≡ d → IsJoin a b s → IsJoin c d s
joined_by {a} {b} {c} {d} {s} g h j = subst (λ (x : Binding). IsJoin x d s) g (subst (λ (y : Binding). IsJoin a y s) h j)

-- ---- a name that stands twice

-- an integer is an e of `Numbers`
number_of_numbers : (n : ℕ) → Match Numbers (nt e) (int n) no_names
number_of_numbers n = match_nt (record { all = of_kind Number ∷ []; defined = here refl; among = here refl }) (match_kind refl)

-- e_1 = 1
abbrev one_bound : Binding
one_bound = binds (codes "e_1") (int 1)

-- 1 is an e_1
one_of_numbers : Match Numbers e_1 (int 1) one_bound
one_of_numbers = named_nt (codes "e_1") (int 1) (number_of_numbers 1)

pub two_equal : TwoEqual
two_equal = matches_listed (refl, tt) (one_alone one_bound (two one_bound one_bound one_of_numbers one_of_numbers (joined_itself one_bound ((tt, tt), (tt, tt)) refl))
    (λ c h. let d = both h in one_itself-only (joined_by (named_nt_binds d.matches_first) (named_nt_binds d.matches_second) d.joined)))

pub two_different : TwoDifferent
two_different = matches_listed tt (no_member (λ c h. let d = both h in
    two_values (codes "e_1") (one_term (int 1)) (one_term (int 2)) c refl (joined_by (named_nt_binds d.matches_first) (named_nt_binds d.matches_second) d.joined)))

pub two_marks : TwoMarks
two_marks = matches_listed tt (no_member (λ c h. let d = both h in
    two_values (codes "any_1") (one_term first_marked) (one_term second_marked) c refl (joined_by (named_kind_binds d.matches_first) (named_kind_binds d.matches_second) d.joined)))

-- ---- a name around a pattern

-- two pairs in the order of their names are the join of the one and the other
pub two_pairs : (p q : Pair) → name_cmp p.0 q.0 ≡ Less → IsJoin (of_pairs (p ∷ [])) (of_pairs (q ∷ [])) (of_pairs (p ∷ q ∷ []))
two_pairs p q l = record {
  pairs = record { map = ((l, tt), (tt, tt)); sound = sound; left = left; right = λ r i. there i };
  differs = no_sets_left [] (tt, tt);
}
  where
    sound : (r : Pair) → In r (p ∷ q ∷ []) → In r (p ∷ []) ⊎ In r (q ∷ [])
    sound r (here d) = inl (here d)
    sound r (there i) = inr i

    left : (r : Pair) → In r (p ∷ []) → In r (p ∷ q ∷ [])
    left r (here d) = here d
    left r (there i) = elim i [ ]

-- e_1 = 1 and x = (1 2)
abbrev around : Binding
around = of_pairs ((codes "e_1", one_term (int 1)) ∷ (codes "x", one_term (list_of_two (int 1) (int 2))) ∷ [])

around_joined : IsJoin one_bound (binds (codes "x") (list_of_two (int 1) (int 2))) around
around_joined = two_pairs (codes "e_1", one_term (int 1)) (codes "x", one_term (list_of_two (int 1) (int 2))) refl

-- what `(e_1 e)` binds at `(1 2)`
inside : {b : Binding} → Match Numbers (seq_of_two e_1 (nt e)) (list_of_two (int 1) (int 2)) b → b ≡ one_bound
inside h = let d = both h in one_right-only (joined_by (named_nt_binds d.matches_first) (nt_binds d.matches_second) d.joined)

around_alone : {b : Binding} → Match Numbers (named (codes "x") (seq_of_two e_1 (nt e))) (list_of_two (int 1) (int 2)) b → b ≡ around
around_alone (match_named {b = b} h j) =
    one_join one_bound (binds (codes "x") (list_of_two (int 1) (int 2))) b around (joined_by (inside h) refl j) around_joined

pub name_around : NameAround
name_around = matches_listed (refl, tt) (one_alone around
    (match_named (two one_bound no_names one_of_numbers (number_of_numbers 2) (unit_right one_bound ((tt, tt), (tt, tt)))) around_joined)
    (λ c h. around_alone h))

-- x would be 1 and `(1)`
both_x : {b : Binding} → Match Numbers (named (codes "x") (seq_of_one (named (codes "x") (nt e)))) (list_of_one (int 1)) b → ⊥
both_x (match_named {b = b} (match_seq (match_one h match_none m)) j) =
    two_values (codes "x") (one_term (int 1)) (one_term (list_of_one (int 1))) b refl (joined_by (unit_right-only (match-ascends h) m ∙ named_nt_binds h) refl j)

pub name_around_itself : NameAroundItself
name_around_itself = matches_listed tt (no_member (λ c h. both_x h))

-- ---- a nonterminal forgets

-- an integer is an e of `Twins`
number_of_twins : (n : ℕ) → Match Twins (nt e) (int n) no_names
number_of_twins n =
    match_nt (record { all = of_kind Number ∷ of_kind Natural ∷ seq_of_two e_1 e_1 ∷ []; defined = here refl; among = here refl }) (match_kind refl)

-- an integer twice is an e of `Twins`
twin : (n : ℕ) → Match Twins (nt e) (list_of_two (int n) (int n)) no_names
twin n =
    match_nt (record { all = of_kind Number ∷ of_kind Natural ∷ seq_of_two e_1 e_1 ∷ []; defined = here refl; among = there (there (here refl)) })
    (two (binds (codes "e_1") (int n)) (binds (codes "e_1") (int n)) (named_nt (codes "e_1") (int n) (number_of_twins n)) (named_nt (codes "e_1") (int n) (number_of_twins n))
    (joined_itself (binds (codes "e_1") (int n)) ((tt, tt), (tt, tt)) refl))

pub forgotten : Forgotten
forgotten = matches_listed (refl, tt) (one_alone no_names (two no_names no_names (twin 1) (twin 2) none_left)
    (λ c h. let d = both h in none_left-only (joined_by (nt_binds d.matches_first) (nt_binds d.matches_second) d.joined)))

pub once_for_two : OnceForTwo
once_for_two = matches_listed (refl, tt) (one_alone one_bound (named_nt (codes "e_1") (int 1) (number_of_twins 1)) (λ c h. named_nt_binds h))

-- ---- `variable-not-otherwise-mentioned`

pub mentioned : Mentioned
mentioned = matches_listed tt (no_member (λ c h. let k : false ≡ true = kind_matches h in absurd cc))

pub except_mentions_none : ExceptMentionsNone
except_mentions_none = matches_listed (refl, tt) (one_alone no_names (match_kind refl) (λ c h. kind_binds h))

pub nonterminals_are_not_mentioned : NonterminalsAreNotMentioned
nonterminals_are_not_mentioned = matches_listed (refl, tt) (one_alone no_names (match_kind refl) (λ c h. kind_binds h))

-- ---- the order of bindings

pub prefix_first : PrefixFirst
prefix_first = refl

pub items_decide : ItemsDecide
items_decide = refl

pub first_pair_decides : FirstPairDecides
first_pair_decides = refl

-- ---- left edges

-- no left edge leads from a list pattern
from_seq : {L : Language} {ps : Items} {p : Pattern} → Reaches L (seq ps) p → ⊥
from_seq (at_once g) = elim g [ ]
from_seq (further g h) = elim g [ ]

-- the one alternative of e
alternative_of_e : (p : Pattern) → IsAlternative ThroughAName e p → p ≡ seq_of_one (nt f)
alternative_of_e p a = alone ((alternatives_of-all ThroughAName e refl p).1 a)
  where
    alone : In p (seq_of_one (nt f) ∷ []) → p ≡ seq_of_one (nt f)
    alone (here d) = d
    alone (there i) = elim i [ ]

-- e does not reach itself
e_ends : (p : Pattern) → Reaches ThroughAName (nt e) p → p ≡ nt e → ⊥
e_ends p (at_once (edge_nt {p = q} a)) d = let k : nt e ≡ seq_of_one (nt f) = sym d ∙ alternative_of_e q a in absurd cc
e_ends p (further (edge_nt {p = q} a) h) d = from_seq (subst (λ (r : Pattern). Reaches ThroughAName r p) (alternative_of_e q a) h)

pub name_keeps_the_term : NameKeepsTheTerm
name_keeps_the_term = record {
  before = (e, seq_of_one (nt f) ∷ []) ∷ [];
  alternatives = of_kind Number ∷ named (codes "x") (nt f) ∷ [];
  behind = [];
  defined = refl;
  recursive = further (edge_nt (record { all = of_kind Number ∷ named (codes "x") (nt f) ∷ []; defined = there (here refl); among = there (here refl) })) (at_once edge_named);
  first = first;
}
  where
    first : (d : Definition) → In d ((e, seq_of_one (nt f) ∷ []) ∷ []) → ¬ IsRecursive ThroughAName d.0
    first d (here k) r = e_ends (nt e) (subst (λ (x : Ref). IsRecursive ThroughAName x) (ap (λ (c : Definition). c.0) k) r) refl
    first d (there i) r = elim i [ ]

pub list_takes_off : ListTakesOff
list_takes_off =
    let l : 0 < 1 = omega arith in
    ranked_is_free UnderAList (0 ∷ 0 ∷ 1 ∷ 1 ∷ []) (record { distinct = refl; well_formed = refl })
    (record { each = refl; fall = ((tt, ((((l, (l, tt)), ((l, (l, tt)), tt))), tt)), tt) })

-- ---- splits of lists of two

-- a list pattern of two items splits at its first item, or at its second
data Halves (L : Language) (p q : Pattern) (t u C s : Tree) (b : Binding) : Type 0 where
  in_first : {D : Tree} {c d : Binding} → C ≡ marked_first D u → Split L p t D s c → Match L q u d → IsJoin c d b → Halves L p q t u C s b
  in_second : {D : Tree} {c d : Binding} → C ≡ marked_second t D → Match L p t c → Split L q u D s d → IsJoin c d b → Halves L p q t u C s b

-- each split is one of these
halves : {L : Language} {p q : Pattern} {m : Option ℕ} {t u C s : Tree} {b : Binding} → Split L (seq_of_two p q) (list m (cons t (cons u no_trees))) C s b → Halves L p q t u C s b
halves (split_seq {b = b} (split_here {c = c} h (match_one g match_none k) j) e) =
    in_first e h g (subst (λ (d : Binding). IsJoin c d b) (unit_right-only (match-ascends g) k) j)
halves (split_seq {b = b} (split_behind {c = c} g (split_here h match_none k) j) e) =
    in_second e g h (subst (λ (d : Binding). IsJoin c d b) (unit_right-only (split-ascends h) k) j)
halves (split_seq (split_behind g (split_behind h i k) j) e) = elim i [ ]

-- and each of these is a split
split_first : {L : Language} {p q : Pattern} {m : Option ℕ} {t u D s : Tree} {c d b : Binding} → Split L p t D s c → Match L q u d → IsJoin c d b
    → Split L (seq_of_two p q) (list m (cons t (cons u no_trees))) (marked_first D u) s b
split_first {d = d} h g j = split_seq (split_here h (match_one g match_none (unit_right d (match-ascends g))) j) refl

split_second : {L : Language} {p q : Pattern} {m : Option ℕ} {t u D s : Tree} {c d b : Binding} → Match L p t c → Split L q u D s d → IsJoin c d b
    → Split L (seq_of_two p q) (list m (cons t (cons u no_trees))) (marked_second t D) s b
split_second {d = d} g h j = split_seq (split_behind g (split_here h match_none (unit_right d (split-ascends h))) j) refl

-- a split, by its three parts
pub is_split : (d : Decomposition) {C s : Tree} {b : Binding} → d.context ≡ C → d.part ≡ s → d.binding ≡ b → d ≡ split_into C s b
is_split d e f g = λ i. record { context = e i; part = f i; binding = g i }

-- ---- contexts

-- each term is an `any`
any_term : {L : Language} (t : Tree) → Match L any t no_names
any_term t = match_kind refl

-- the alternatives of E
abbrev e_patterns : List Pattern
e_patterns = hole ∷ seq_of_two (nt E) any ∷ seq_of_two any (nt E) ∷ []

-- E splits what one of its alternatives splits
by_alternative : {p : Pattern} {t C s : Tree} {c : Binding} → In p e_patterns → Split Contexts p t C s c → Split Contexts (nt E) t C s no_names
by_alternative {p = p} i h = split_nt (record { all = e_patterns; defined = here refl; among = i }) h

-- how E splits a term
data SplitsE (t C s : Tree) : Type 0 where
  as_hole : C ≡ the_hole → s ≡ t → SplitsE t C s
  on_left : {c : Binding} → Split Contexts (seq_of_two (nt E) any) t C s c → SplitsE t C s
  on_right : {c : Binding} → Split Contexts (seq_of_two any (nt E)) t C s c → SplitsE t C s

-- it binds nothing, and splits in one of these ways
splits_of_e : {t C s : Tree} {b : Binding} → Split Contexts (nt E) t C s b → SplitsE t C s × (b ≡ no_names)
splits_of_e {t = t} {C = C} {s = s} h =
    let k = nt_splits h in (by_form k.0.pattern ((alternatives_of-all Contexts E refl k.0.pattern).1 k.0.alternative) k.0.split, k.1)
  where
    by_form : {c : Binding} (p : Pattern) → In p e_patterns → Split Contexts p t C s c → SplitsE t C s
    by_form {c} p (here d) g = let w = hole_splits (subst (λ (q : Pattern). Split Contexts q t C s c) d g) in as_hole w.0 w.1
    by_form {c} p (there (here d)) g = on_left (subst (λ (q : Pattern). Split Contexts q t C s c) d g)
    by_form {c} p (there (there (here d))) g = on_right (subst (λ (q : Pattern). Split Contexts q t C s c) d g)
    by_form p (there (there (there i))) g = elim i [ ]

-- the term is no list
abbrev NoList : Tree → Type 0
NoList t = (m : Option ℕ) (ts : Trees) → t ≡ list m ts → ⊥

-- an integer is no list, nor is the hole
int_no_list : (n : ℕ) → NoList (int n)
int_no_list n m ts d = absurd cc

hole_no_list : NoList the_hole
hole_no_list m ts d = absurd cc

-- E splits what is no list into the hole and itself
splits_of_atom : {t C s : Tree} {b : Binding} → NoList t → Split Contexts (nt E) t C s b → (C ≡ the_hole) × (s ≡ t) × (b ≡ no_names)
splits_of_atom {t = t} {C = C} {s = s} {b = b} n h = let k = splits_of_e h in by_way k.0 k.1
  where
    by_way : SplitsE t C s → b ≡ no_names → (C ≡ the_hole) × (s ≡ t) × (b ≡ no_names)
    by_way (as_hole c p) d = (c, p, d)
    by_way (on_left g) d = let w = seq_splits g in absurd (n w.mark w.items w.same)
    by_way (on_right g) d = let w = seq_splits g in absurd (n w.mark w.items w.same)

-- how it splits a list of two terms that are no lists
data SplitsPair (m : Option ℕ) (t u C s : Tree) : Type 0 where
  as_whole : C ≡ the_hole → s ≡ list m (cons t (cons u no_trees)) → SplitsPair m t u C s
  at_left : C ≡ marked_first the_hole u → s ≡ t → SplitsPair m t u C s
  at_right : C ≡ marked_second t the_hole → s ≡ u → SplitsPair m t u C s

splits_of_pair : {m : Option ℕ} {t u C s : Tree} {b : Binding} → NoList t → NoList u → Split Contexts (nt E) (list m (cons t (cons u no_trees))) C s b → SplitsPair m t u C s × (b ≡ no_names)
splits_of_pair {m = m} {t = t} {u = u} {C = C} {s = s} n o h = let k = splits_of_e h in (by_way k.0, k.1)
  where
    of_left : {c : Binding} → Halves Contexts (nt E) any t u C s c → SplitsPair m t u C s
    of_left (in_first d g i j) = let w = splits_of_atom n g in at_left (d ∙ ap (λ (x : Tree). marked_first x u) w.0) w.1
    of_left (in_second d g i j) = absurd (kind_splits i)

    of_right : {c : Binding} → Halves Contexts any (nt E) t u C s c → SplitsPair m t u C s
    of_right (in_first d g i j) = absurd (kind_splits g)
    of_right (in_second d g i j) = let w = splits_of_atom o i in at_right (d ∙ ap (λ (x : Tree). marked_second t x) w.0) w.1

    by_way : SplitsE (list m (cons t (cons u no_trees))) C s → SplitsPair m t u C s
    by_way (as_hole c p) = as_whole c p
    by_way (on_left g) = of_left (halves g)
    by_way (on_right g) = of_right (halves g)

-- it splits each term so
e_whole : (t : Tree) → Split Contexts (nt E) t the_hole t no_names
e_whole t = by_alternative (here refl) split_hole

e_left : (m : Option ℕ) (t u : Tree) → Split Contexts (nt E) (list m (cons t (cons u no_trees))) (marked_first the_hole u) t no_names
e_left m t u = by_alternative (there (here refl)) (split_first (e_whole t) (any_term u) none_left)

e_right : (m : Option ℕ) (t u : Tree) → Split Contexts (nt E) (list m (cons t (cons u no_trees))) (marked_second t the_hole) u no_names
e_right m t u = by_alternative (there (there (here refl))) (split_second (any_term t) (e_whole u) none_left)

pub at_either_hole : AtEitherHole
at_either_hole = splits_listed (refl, (refl, (refl, tt))) (listed members ascending each only)
  where
    members : List Decomposition
    members = split_into the_hole (list_of_two the_hole the_hole) no_names ∷ split_into first_marked the_hole no_names ∷ split_into second_marked the_hole no_names ∷ []

    ascending : IsAscending decomposition_cmp members
    ascending = ((refl, (refl, tt)), ((refl, tt), (tt, tt)))

    each : HoldsOfAll (SplitsInto Contexts (nt E) (list_of_two the_hole the_hole)) members
    each = (e_whole (list_of_two the_hole the_hole), (e_left None the_hole the_hole, (e_right None the_hole the_hole, tt)))

    by_place : (d : Decomposition) → SplitsPair None the_hole the_hole d.context d.part → d.binding ≡ no_names → In d members
    by_place d (as_whole c p) b = here (is_split d c p b)
    by_place d (at_left c p) b = there (here (is_split d c p b))
    by_place d (at_right c p) b = there (there (here (is_split d c p b)))

    only : (d : Decomposition) → SplitsInto Contexts (nt E) (list_of_two the_hole the_hole) d → In d members
    only d h = let k = splits_of_pair hole_no_list hole_no_list h in by_place d k.0 k.1

-- ---- what stands in a hole

-- a list is no number
no_number : {m : Option ℕ} {t : Tree} {ts : Trees} {b : Binding} → t ≡ list m ts → Match Contexts number t b → ⊥
no_number {b = b} d h = let k : false ≡ true = kind_matches (subst (λ (x : Tree). Match Contexts number x b) d h) in absurd cc

-- what `(in-hole E_1 q)` matches: a context and a part, which q matches; E_1 stands for the context
record InHoleOfE (q : Pattern) (t : Tree) (b : Binding) : Type 0 where
  pub context : Tree
  pub part : Tree
  pub inner : Binding
  pub split : Split Contexts (nt E) t context part no_names
  pub matched : Match Contexts q part inner
  pub joined : IsJoin (binds (codes "E_1") context) inner b

in_hole_of_e : {q : Pattern} {t : Tree} {b : Binding} → Match Contexts (in_hole E_1 q) t b → InHoleOfE q t b
in_hole_of_e {t = t} h =
    let k = in_hole_inside h in
    let n = named_splits k.split in
    let none : n.inside ≡ no_names = (splits_of_e n.split).1 in
    let named : k.outer ≡ binds (codes "E_1") k.context = one_left-only (joined_by none refl n.joined) in
    record {
      context = k.context;
      part = k.part;
      inner = k.inner;
      split = subst (λ (c : Binding). Split Contexts (nt E) t k.context k.part c) none n.split;
      matched = k.matched;
      joined = joined_by named refl k.joined;
    }

-- and each such is a match
in_hole_by_e : {q : Pattern} {t C s : Tree} {d b : Binding} → Split Contexts (nt E) t C s no_names → Match Contexts q s d → IsJoin (binds (codes "E_1") C) d b
    → Match Contexts (in_hole E_1 q) t b
in_hole_by_e {C = C} h g j = match_in_hole (split_named h (unit_left (binds (codes "E_1") C) ((tt, tt), (tt, tt)))) g j

-- E_1 and number_1 together
in_place_joined : (C t : Tree) → IsJoin (binds (codes "E_1") C) (binds (codes "number_1") t) (in_place C t)
in_place_joined C t = two_pairs (codes "E_1", one_term C) (codes "number_1", one_term t) refl

-- `number_1`
abbrev number_1 : Pattern
number_1 = named (codes "number_1") number

number_1_matches : (n : ℕ) → Match Contexts number_1 (int n) (binds (codes "number_1") (int n))
number_1_matches n = match_named (match_kind refl) (unit_left (binds (codes "number_1") (int n)) ((tt, tt), (tt, tt)))

pub in_each_place : InEachPlace
in_each_place = matches_listed (refl, (refl, tt)) (listed members ((refl, tt), (tt, tt)) each only)
  where
    members : List Binding
    members = in_place (marked_first the_hole (int 2)) (int 1) ∷ in_place (marked_second (int 1) the_hole) (int 2) ∷ []

    each : HoldsOfAll (Match Contexts (in_hole E_1 number_1) (list_of_two (int 1) (int 2))) members
    each = (
      in_hole_by_e (e_left None (int 1) (int 2)) (number_1_matches 1) (in_place_joined (marked_first the_hole (int 2)) (int 1)),
      (in_hole_by_e (e_right None (int 1) (int 2)) (number_1_matches 2) (in_place_joined (marked_second (int 1) the_hole) (int 2)), tt),
    )

    placed : (b : Binding) (C s : Tree) → SplitsPair None (int 1) (int 2) C s → Match Contexts number s no_names → b ≡ in_place C s → In b members
    placed b C s (as_whole c p) g d = absurd (no_number p g)
    placed b C s (at_left c p) g d = here (d ∙ (λ i. in_place (c i) (p i)))
    placed b C s (at_right c p) g d = there (here (d ∙ (λ i. in_place (c i) (p i))))

    only : (b : Binding) → Match Contexts (in_hole E_1 number_1) (list_of_two (int 1) (int 2)) b → In b members
    only b h =
        let k = in_hole_of_e h in
        let n = named_inside k.matched in
        let g : Match Contexts number k.part no_names = subst (λ (c : Binding). Match Contexts number k.part c) (kind_binds n.matched) n.matched in
        let j : IsJoin (binds (codes "E_1") k.context) (binds (codes "number_1") k.part) b = joined_by refl (named_kind_binds k.matched) k.joined in
        placed b k.context k.part (splits_of_pair (int_no_list 1) (int_no_list 2) k.split).0 g (one_join _ _ b (in_place k.context k.part) j (in_place_joined k.context k.part))

-- what `(in-hole E_1 number)` matches in a list of two
data NumberIn (t u : Tree) (b : Binding) : Type 0 where
  number_left : is_integer t ≡ true → b ≡ binds (codes "E_1") (marked_first the_hole u) → NumberIn t u b
  number_right : is_integer u ≡ true → b ≡ binds (codes "E_1") (marked_second t the_hole) → NumberIn t u b

number_in : {m : Option ℕ} {t u : Tree} {b : Binding} → NoList t → NoList u → Match Contexts (in_hole E_1 number) (list m (cons t (cons u no_trees))) b → NumberIn t u b
number_in {m = m} {t = t} {u = u} {b = b} n o h =
    let k = in_hole_of_e h in
    by_place k.context k.part (splits_of_pair n o k.split).0 (subst (λ (c : Binding). Match Contexts number k.part c) (kind_binds k.matched) k.matched)
    (one_right-only (joined_by refl (kind_binds k.matched) k.joined))
  where
    by_place : (C s : Tree) → SplitsPair m t u C s → Match Contexts number s no_names → b ≡ binds (codes "E_1") C → NumberIn t u b
    by_place C s (as_whole c p) g d = absurd (no_number p g)
    by_place C s (at_left c p) g d =
        number_left (kind_matches (subst (λ (x : Tree). Match Contexts number x no_names) p g)) (d ∙ ap (binds (codes "E_1")) c)
    by_place C s (at_right c p) g d =
        number_right (kind_matches (subst (λ (x : Tree). Match Contexts number x no_names) p g)) (d ∙ ap (binds (codes "E_1")) c)

number_at_left : (n : ℕ) (u : Tree) → Match Contexts (in_hole E_1 number) (list_of_two (int n) u) (binds (codes "E_1") (marked_first the_hole u))
number_at_left n u = in_hole_by_e (e_left None (int n) u) (match_kind refl) (unit_right (binds (codes "E_1") (marked_first the_hole u)) ((tt, tt), (tt, tt)))

-- E_1 does not stand for two contexts of which the one is less than the other
two_contexts : {a b s : Binding} (C D : Tree) → value_cmp (one_term C) (one_term D) ≡ Less → a ≡ binds (codes "E_1") C → b ≡ binds (codes "E_1") D → IsJoin a b s → ⊥
two_contexts {s = s} C D l d c j = two_values (codes "E_1") (one_term C) (one_term D) s l (joined_by d c j)

pub equal_contexts : EqualContexts
equal_contexts = matches_listed (refl, tt) (one_alone same (two same same (number_at_left 1 (int 2)) (number_at_left 3 (int 2)) (joined_itself same ((tt, tt), (tt, tt)) refl)) only)
  where
    same : Binding
    same = binds (codes "E_1") (marked_first the_hole (int 2))

    by_places : {a b s : Binding} → NumberIn (int 1) (int 2) a → NumberIn (int 3) (int 2) b → IsJoin a b s → s ≡ same
    by_places (number_left h d) (number_left i c) j = one_itself-only (joined_by d c j)
    by_places (number_left h d) (number_right i c) j = absurd (two_contexts (marked_first the_hole (int 2)) (marked_second (int 3) the_hole) refl d c j)
    by_places {a} {b} {s} (number_right h d) (number_left i c) j =
        absurd (two_contexts (marked_first the_hole (int 2)) (marked_second (int 1) the_hole) refl c d (turned_join a b s j))
    by_places (number_right h d) (number_right i c) j = absurd (two_contexts (marked_second (int 1) the_hole) (marked_second (int 3) the_hole) refl d c j)

    only : (s : Binding) → Match Contexts (seq_of_two (in_hole E_1 number) (in_hole E_1 number)) (list_of_two (list_of_two (int 1) (int 2)) (list_of_two (int 3) (int 2))) s → s ≡ same
    only s h =
        let k = both h in
        by_places (number_in (int_no_list 1) (int_no_list 2) k.matches_first) (number_in (int_no_list 3) (int_no_list 2) k.matches_second) k.joined

pub contexts_with_marks : ContextsWithMarks
contexts_with_marks = matches_listed tt (no_member none)
  where
    by_places : {a b s : Binding} → NumberIn (int 1) the_hole a → NumberIn the_hole (int 2) b → IsJoin a b s → ⊥
    by_places (number_left h d) (number_left i c) j = let k : false ≡ true = i in absurd cc
    by_places (number_left h d) (number_right i c) j = two_contexts first_marked second_marked refl d c j
    by_places (number_right h d) n j = let k : false ≡ true = h in absurd cc

    none : (s : Binding) → Match Contexts (seq_of_two (in_hole E_1 number) (in_hole E_1 number)) (list_of_two (marked_second (int 1) the_hole) (marked_first the_hole (int 2))) s → ⊥
    none s h =
        let k = both h in
        by_places (number_in (int_no_list 1) hole_no_list k.matches_first) (number_in hole_no_list (int_no_list 2) k.matches_second) k.joined

-- ---- one item at a time

pub hidden_splits_nothing : HiddenSplitsNothing
hidden_splits_nothing = (
  matches_listed (refl, tt) (one_alone no_names (match_hide_hole match_hole) (λ b h. (hole_inside (hide_hole_inside h)).1)),
  splits_listed tt (no_member (λ d h. hide_hole_splits h)),
  splits_listed (refl, tt) (one_alone (split_into the_hole the_hole no_names) split_hole (λ d h. let k = hole_splits h in is_split d k.0 k.1 k.2)),
)

-- how `(hole hole)` splits a list of two
pub data AtOneHole (t u : Tree) (C s : Tree) (b : Binding) : Type 0 where
  first_hole : u ≡ the_hole → C ≡ marked_first the_hole u → s ≡ t → b ≡ no_names → AtOneHole t u C s b
  second_hole : t ≡ the_hole → C ≡ marked_second t the_hole → s ≡ u → b ≡ no_names → AtOneHole t u C s b

at_one_hole : {m : Option ℕ} {t u C s : Tree} {b : Binding} → Split Contexts (seq_of_two hole hole) (list m (cons t (cons u no_trees))) C s b → AtOneHole t u C s b
at_one_hole {t = t} {u = u} {C = C} {s = s} {b = b} h = by_half (halves h)
  where
    by_half : Halves Contexts hole hole t u C s b → AtOneHole t u C s b
    by_half (in_first d g i j) =
        let k = hole_splits g in
        let n = hole_inside i in
        first_hole n.0 (d ∙ ap (λ (x : Tree). marked_first x u) k.0) k.1 (none_left-only (joined_by k.2 n.1 j))
    by_half (in_second d g i j) =
        let k = hole_splits i in
        let n = hole_inside g in
        second_hole n.0 (d ∙ ap (λ (x : Tree). marked_second t x) k.0) k.1 (none_left-only (joined_by n.1 k.2 j))

-- the list `(hole hole)`, split at either item
abbrev pub at_either_item : List Decomposition
at_either_item = split_into first_marked the_hole no_names ∷ split_into second_marked the_hole no_names ∷ []

pub is_either : (d : Decomposition) → AtOneHole the_hole the_hole d.context d.part d.binding → In d at_either_item
is_either d (first_hole n c p b) = here (is_split d c p b)
is_either d (second_hole n c p b) = there (here (is_split d c p b))

pub one_item_splits : OneItemSplits
one_item_splits = splits_listed (refl, (refl, tt)) (listed at_either_item ((refl, tt), (tt, tt)) each (λ d h. is_either d (at_one_hole h)))
  where
    each : HoldsOfAll (SplitsInto Contexts (seq_of_two hole hole) (list_of_two the_hole the_hole)) at_either_item
    each = (split_first split_hole match_hole none_left, (split_second match_hole split_hole none_left, tt))

pub never_at_both : NeverAtBoth
never_at_both = splits_listed tt (no_member (λ d h. by_hole (at_one_hole h)))
  where
    by_hole : {C s : Tree} {b : Binding} → AtOneHole (int 1) (int 2) C s b → ⊥
    by_hole (first_hole n c p d) = absurd cc
    by_hole (second_hole n c p d) = absurd cc

-- ---- contexts in contexts

-- `(hole any)` splits a list of two at its first item
at_first_item : {m : Option ℕ} {t u C s : Tree} {b : Binding} → Split Contexts (seq_of_two hole any) (list m (cons t (cons u no_trees))) C s b
    → (C ≡ marked_first the_hole u) × (s ≡ t) × (b ≡ no_names)
at_first_item {t = t} {u = u} {C = C} {s = s} {b = b} h = by_half (halves h)
  where
    by_half : Halves Contexts hole any t u C s b → (C ≡ marked_first the_hole u) × (s ≡ t) × (b ≡ no_names)
    by_half (in_first d g i j) = let k = hole_splits g in (d ∙ ap (λ (x : Tree). marked_first x u) k.0, k.1, none_left-only (joined_by k.2 (kind_binds i) j))
    by_half (in_second d g i j) = absurd (kind_splits i)

-- and `(any hole)` at its second
at_second_item : {m : Option ℕ} {t u C s : Tree} {b : Binding} → Split Contexts (seq_of_two any hole) (list m (cons t (cons u no_trees))) C s b
    → (C ≡ marked_second t the_hole) × (s ≡ u) × (b ≡ no_names)
at_second_item {t = t} {u = u} {C = C} {s = s} {b = b} h = by_half (halves h)
  where
    by_half : Halves Contexts any hole t u C s b → (C ≡ marked_second t the_hole) × (s ≡ u) × (b ≡ no_names)
    by_half (in_first d g i j) = absurd (kind_splits g)
    by_half (in_second d g i j) = let k = hole_splits i in (d ∙ ap (λ (x : Tree). marked_second t x) k.0, k.1, none_left-only (joined_by (kind_binds g) k.2 j))

pub context_in_context : ContextInContext
context_in_context = splits_listed (refl, tt) (one_alone (split_into nested (int 2) (binds (codes "x") nested)) split only)
  where
    split : Split Contexts (named (codes "x") (in_hole (seq_of_two hole any) (seq_of_two any hole))) (list_of_two (list_of_two (int 1) (int 2)) (int 3)) nested (int 2) (binds (codes "x") nested)
    split =
        split_named
        (split_in_hole (split_first split_hole (any_term (int 3)) none_left) (split_second (any_term (int 1)) split_hole none_left) refl none_left)
        (unit_left (binds (codes "x") nested) ((tt, tt), (tt, tt)))

    only : (d : Decomposition) → SplitsInto Contexts (named (codes "x") (in_hole (seq_of_two hole any) (seq_of_two any hole))) (list_of_two (list_of_two (int 1) (int 2)) (int 3)) d → d ≡ split_into nested (int 2) (binds (codes "x") nested)
    only d h =
        let n = named_splits h in
        let k = in_hole_splits n.split in
        let o = at_first_item k.split in
        let i = at_second_item (subst (λ (x : Tree). Split Contexts (seq_of_two any hole) x k.second d.part k.inner) o.1 k.again) in
        let c : d.context ≡ nested = k.filled ∙ (λ j. fill_of (o.0 j) (i.0 j)) in
        let none : n.inside ≡ no_names = none_left-only (joined_by o.2 i.2 k.joined) in
        is_split d c i.1 (one_left-only (joined_by none refl n.joined) ∙ ap (binds (codes "x")) c)

pub name_of_a_term : NameOfATerm
name_of_a_term = matches_listed (refl, tt) (one_alone (binds (codes "x") (list_of_two (int 1) (int 2))) matched only)
  where
    matched : Match Contexts (named (codes "x") (in_hole (seq_of_two hole any) number)) (list_of_two (int 1) (int 2)) (binds (codes "x") (list_of_two (int 1) (int 2)))
    matched =
        match_named (match_in_hole (split_first split_hole (any_term (int 2)) none_left) (match_kind refl) none_left)
        (unit_left (binds (codes "x") (list_of_two (int 1) (int 2))) ((tt, tt), (tt, tt)))

    only : (b : Binding) → Match Contexts (named (codes "x") (in_hole (seq_of_two hole any) number)) (list_of_two (int 1) (int 2)) b → b ≡ binds (codes "x") (list_of_two (int 1) (int 2))
    only b h =
        let n = named_inside h in
        let k = in_hole_inside n.matched in
        let none : n.inside ≡ no_names = none_left-only (joined_by (at_first_item k.split).2 (kind_binds k.matched) k.joined) in
        one_left-only (joined_by none refl n.joined)

-- ---- Empty patterns

pub empty_through_another : EmptyThroughAnother
empty_through_another =
    empty_nt (record { all = nt f ∷ []; defined = here refl; among = here refl })
    (empty_nt (record { all = named (codes "x") hole ∷ []; defined = there (here refl); among = here refl }) (empty_named empty_hole))

pub empty_leads_on : EmptyLeadsOn
empty_leads_on = record {
  before = [];
  alternatives = in_hole (nt f) (nt e) ∷ [];
  behind = (f, hole ∷ []) ∷ [];
  defined = refl;
  recursive =
      further (edge_nt (record { all = in_hole (nt f) (nt e) ∷ []; defined = here refl; among = here refl }))
      (at_once (edge_right (empty_nt (record { all = hole ∷ []; defined = there (here refl); among = here refl }) empty_hole)));
  first = λ d i. elim i [ ];
}

-- f is not Empty, since its one alternative is a list
list_not_empty : IsEmpty BehindAList (nt f) → ⊥
list_not_empty (empty_nt {p = p} a h) = by_form ((alternatives_of-all BehindAList f refl p).1 a)
  where
    of_list : IsEmpty BehindAList (seq_of_two hole any) → ⊥
    of_list k = elim k [ ]

    by_form : In p (seq_of_two hole any ∷ []) → ⊥
    by_form (here d) = of_list (subst (IsEmpty BehindAList) d h)
    by_form (there i) = elim i [ ]

pub context_takes_off : ContextTakesOff
context_takes_off =
    let l : 1 < 2 = omega arith in
    let m : 0 < 1 = omega arith in
    let n : 2 < 3 = omega arith in
    ranked_is_free BehindAList (2 ∷ 1 ∷ 3 ∷ 0 ∷ 0 ∷ 0 ∷ []) (record { distinct = refl; well_formed = refl })
    (record { each = refl; fall = ((((l, (m, tt)), ((λ k. absurd (list_not_empty k)), (n, tt))), tt), (((tt, (tt, tt)), tt), tt)) })
