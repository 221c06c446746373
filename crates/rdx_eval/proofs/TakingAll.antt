-- The patterns of contracts that are not asked match: each term, or each list.
use Rattle.std.proofs.Common.{◌≡◌, ◌≤◌, true, false, List, [], ◌∷◌, Option, Some, None, length, refl, sym, arith}
use Rattle.std.proofs.lemmas.Bool.{and_parts}
use Rattle.rdx_term.specs.Tree.{Tree, integer, truth, text, symbol, list, Trees, cons}
use Rattle.rdx_term.specs.Tree.{nil as no_trees}
use Rattle.rdx_term.specs.Tree.{hole as the_hole}
use Rattle.rdx_lang.specs.Bindings.{Binding, no_names, one_name}
use Rattle.rdx_lang.specs.Bindings.{one as one_term}
use Rattle.rdx_lang.specs.Collections.{AreSetsOf, sets_of_none, sets_of_more, IsRepetition, without_length}
use Rattle.rdx_lang.specs.Edges.{IsFree}
use Rattle.rdx_lang.specs.Members.{In}
use Rattle.rdx_lang.specs.Names.{names}
use Rattle.rdx_lang.specs.Patterns.{Pattern, wild, of_kind, except, prefix, hole, lit, nt, named, differ, in_hole, hide_hole, closed, seq, Items, nil, one, many, Language}
use Rattle.rdx_lang.specs.PatternView.{Slot, just, repeated, items_of}
use Rattle.rdx_lang.specs.Rules.{Match, MatchItems, MatchRun, match_wild, match_kind, match_named, match_closed, match_seq, match_none, match_many, run_end, run_more}
use Rattle.rdx_lang.specs.declared.pattern.Kind.{Kind}
use Rattle.rdx_lang.specs.declared.pattern.Kind.TheVariants.{Any, Number, Natural, Integer, Real, Text, Boolean, Variable, Unmentioned}
use Rattle.rdx_lang.proofs.Collecting.{no_member}
use Rattle.rdx_lang.proofs.JoinLaws.{none_left, unit_left}
use Rattle.rdx_lang.proofs.SetJoins.{no_sets_left}
use Rattle.rdx_lang.proofs.SomeListings.{has_listing}
use Rattle.rdx_eval.specs.Answers.{value, Fault}
use Rattle.rdx_eval.specs.Asking.{AskedIf}
use Rattle.rdx_eval.specs.Inside.Asked.{Passes, is_any_kind, is_any, takes_inside, takes_each, takes_lists, is_a_list, takes_all}
use Rattle.rdx_eval.proofs.ContractLaws.{asked-allowed}

-- ---- one term

-- `any` matches each term
kind_taken : (L : Language) (k : Kind) (t : Tree) → is_any_kind k ≡ true → Match L (of_kind k) t no_names
kind_taken L Any t e = match_kind refl
kind_taken L Number t e = absurd cc
kind_taken L Natural t e = absurd cc
kind_taken L Integer t e = absurd cc
kind_taken L Real t e = absurd cc
kind_taken L Text t e = absurd cc
kind_taken L Boolean t e = absurd cc
kind_taken L Variable t e = absurd cc
kind_taken L Unmentioned t e = absurd cc

-- so does `_`
any_taken : (L : Language) (p : Pattern) (t : Tree) → is_any p ≡ true → Match L p t no_names
any_taken L wild t e = match_wild
any_taken L (of_kind k) t e = kind_taken L k t e
any_taken L (except rs) t e = absurd cc
any_taken L (prefix r) t e = absurd cc
any_taken L hole t e = absurd cc
any_taken L (lit u) t e = absurd cc
any_taken L (nt x) t e = absurd cc
any_taken L (named x q) t e = absurd cc
any_taken L (differ x q) t e = absurd cc
any_taken L (in_hole q r) t e = absurd cc
any_taken L (hide_hole q) t e = absurd cc
any_taken L (closed q) t e = absurd cc
any_taken L (seq ps) t e = absurd cc

-- each of them under a name does with some binding
inside_taken : (L : Language) (p : Pattern) (t : Tree) → takes_inside p ≡ true → (c : Binding) × Match L p t c
inside_taken L wild t e = (no_names, match_wild)
inside_taken L (of_kind k) t e = (no_names, kind_taken L k t e)
inside_taken L (except rs) t e = absurd cc
inside_taken L (prefix r) t e = absurd cc
inside_taken L hole t e = absurd cc
inside_taken L (lit u) t e = absurd cc
inside_taken L (nt x) t e = absurd cc
inside_taken L (named x q) t e = let b = one_name x (one_term t) in (b, match_named (any_taken L q t e) (unit_left b ((tt, tt), (tt, tt))))
inside_taken L (differ x q) t e = absurd cc
inside_taken L (in_hole q r) t e = absurd cc
inside_taken L (hide_hole q) t e = absurd cc
inside_taken L (closed q) t e = absurd cc
inside_taken L (seq ps) t e = absurd cc

-- and none where it is closed
each_taken : (L : Language) (p : Pattern) (t : Tree) → takes_each p ≡ true → Match L p t no_names
each_taken L wild t e = match_wild
each_taken L (of_kind k) t e = kind_taken L k t e
each_taken L (except rs) t e = absurd cc
each_taken L (prefix r) t e = absurd cc
each_taken L hole t e = absurd cc
each_taken L (lit u) t e = absurd cc
each_taken L (nt x) t e = absurd cc
each_taken L (named x q) t e = absurd cc
each_taken L (differ x q) t e = absurd cc
each_taken L (in_hole q r) t e = absurd cc
each_taken L (hide_hole q) t e = absurd cc
each_taken L (closed q) t e = match_closed (inside_taken L q t e).1
each_taken L (seq ps) t e = absurd cc

-- they have no names
each_nameless : (p : Pattern) → takes_each p ≡ true → names p ≡ []
each_nameless wild e = refl
each_nameless (of_kind k) e = refl
each_nameless (except rs) e = absurd cc
each_nameless (prefix r) e = absurd cc
each_nameless hole e = absurd cc
each_nameless (lit u) e = absurd cc
each_nameless (nt x) e = absurd cc
each_nameless (named x q) e = absurd cc
each_nameless (differ x q) e = absurd cc
each_nameless (in_hole q r) e = absurd cc
each_nameless (hide_hole q) e = absurd cc
each_nameless (closed q) e = refl
each_nameless (seq ps) e = absurd cc

-- ---- each item of a list

-- the turns of such a pattern over all items, which bind nothing
record Turns (L : Language) (p : Pattern) (ts : Trees) : Type 0 where
  pub turns : List Binding
  pub run : MatchRun L p nil ts turns no_names
  pub nothing : AreSetsOf turns []

takes_items : (L : Language) (p : Pattern) (ts : Trees) → takes_each p ≡ true → Turns L p ts
takes_items L p no_trees e = record { turns = []; run = run_end match_none; nothing = sets_of_none }
takes_items L p (cons t ts) e =
    let k = takes_items L p ts e in
    record {
      turns = no_names ∷ k.turns;
      run = run_more (each_taken L p t e) k.run;
      nothing = sets_of_more k.nothing (no_sets_left [] (tt, tt));
    }

items_taken : (L : Language) (ps : Items) (ts : Trees) → takes_lists ps ≡ true → MatchItems L ps ts no_names
items_taken L nil ts e = absurd cc
items_taken L (one p ps) ts e = absurd cc
items_taken L (many p (Some x) ps) ts e = absurd cc
items_taken L (many p None nil) ts e =
    let k = takes_items L p ts e in
    let r : IsRepetition (names p) k.turns None no_names =
    without_length (record { names = sym (each_nameless p e); sequences = λ x v i. no_member i; differs = k.nothing }) in
    match_many k.run r none_left
items_taken L (many p None (one q ps)) ts e = absurd cc
items_taken L (many p None (many q x ps)) ts e = absurd cc

list_taken : (L : Language) (ps : Items) (t : Tree) → is_a_list t ≡ true → takes_lists ps ≡ true → Match L (seq ps) t no_names
list_taken L ps the_hole d e = absurd cc
list_taken L ps (integer z) d e = absurd cc
list_taken L ps (truth b) d e = absurd cc
list_taken L ps (text s) d e = absurd cc
list_taken L ps (symbol s) d e = absurd cc
list_taken L ps (list m ts) d e = match_seq (items_taken L ps ts e)

-- several items are not such
pub several_refused : (ss : List Slot) → 2 ≤ length ss → takes_lists (items_of ss) ≡ false
several_refused [] n = absurd (omega arith)
several_refused (just p ∷ ss) n = refl
several_refused (repeated p (Some x) ∷ ss) n = refl
several_refused (repeated p None ∷ []) n = absurd (omega arith)
several_refused (repeated p None ∷ just q ∷ ss) n = refl
several_refused (repeated p None ∷ repeated q x ∷ ss) n = refl

-- ---- what is not asked

pub all_taken : (L : Language) (p : Pattern) (t : Tree) → takes_all p t ≡ true → Match L p t no_names
all_taken L wild t e = match_wild
all_taken L (of_kind k) t e = kind_taken L k t e
all_taken L (except rs) t e = absurd cc
all_taken L (prefix r) t e = absurd cc
all_taken L hole t e = absurd cc
all_taken L (lit u) t e = absurd cc
all_taken L (nt x) t e = absurd cc
all_taken L (named x q) t e = absurd cc
all_taken L (differ x q) t e = absurd cc
all_taken L (in_hole q r) t e = absurd cc
all_taken L (hide_hole q) t e = absurd cc
all_taken L (closed q) t e = match_closed (inside_taken L q t e).1
all_taken L (seq ps) t e = let k = and_parts (is_a_list t) (takes_lists ps) e in list_taken L ps t k.0 k.1

-- where a pattern is known to match, a checked language has a listing of how it does, which is not empty
pub asked-known : (L : Language) → IsFree L → (o : Option Pattern) (p : Pattern) (t : Tree) (bad : Fault) → o ≡ Some p → Match L p t no_names
    → AskedIf L o t bad Passes (value tt)
asked-known L free o p t bad e m =
    let l = has_listing L free p t in
    let i : In no_names l.found = l.listing.complete no_names (record { whole = no_names; holds = m; seen = refl }) in
    asked-allowed L o p t bad Passes l.found (value tt) e l.listing (some_found l.found i) refl
  where
    some_found : (bs : List Binding) → In no_names bs → 1 ≤ length bs
    some_found [] i = no_member i
    some_found (b ∷ bs) i = omega arith
