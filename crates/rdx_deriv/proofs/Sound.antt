-- What a derivation that holds derives follows by the rules: a use of a rule is one of the rule, once what stands under it follows.
use Rattle.std.proofs.Common.{◌≡◌, ℕ, zero, suc, true, false, Bool, List, [], ◌∷◌, Some, refl, sym, ap, subst}
use Rattle.std.specs.Prelude.{not, slice_get}
use Rattle.rdx_term.specs.Tree.{Tree, integer, truth, text, symbol, list, Trees}
use Rattle.rdx_term.specs.Tree.{hole as the_hole}
use Rattle.rdx_lang.specs.Bindings.{Binding, no_names, visible}
use Rattle.rdx_lang.specs.Members.{In, here, there}
use Rattle.rdx_lang.specs.Patterns.{Pattern, wild, of_kind, except, prefix, hole, lit, nt, named, differ, in_hole, hide_hole, closed, seq, Items, Language}
use Rattle.rdx_lang.specs.Programs.{Extra, such_as, provided, holds, fresh, Program, language_named}
use Rattle.rdx_lang.specs.Rules.{IsAlternative, Match, MatchItems, MatchRun, match_wild, match_kind, match_except, match_prefix, match_hole, match_lit, match_nt, match_named, match_differ, match_in_hole, match_hide_hole, match_closed, match_seq, match_none, match_one, match_many, run_end, run_more, is_one_of}
use Rattle.rdx_lang.specs.Rules.{Split, SplitItems, SplitRun, split_hole, split_nt, split_named, split_differ, split_in_hole, split_closed, split_seq, split_here, split_behind, split_many, run_here, run_there, run_behind}
use Rattle.rdx_lang.specs.declared.pattern.Ref.{Ref}
use Rattle.rdx_bind.specs.Atoms.{is_other_symbol, has_prefix}
use Rattle.rdx_eval.specs.Fresh.{Avoided, avoiding}
use Rattle.rdx_eval.specs.Fresh as fresh_names
use Rattle.rdx_deriv.specs.Derivations.{Goal, matched, split, judged, Derivation, Derivations, node, none, more, root, roots}
use Rattle.rdx_deriv.specs.Holds.{IsNode, Holds, AllHold}
use Rattle.rdx_deriv.specs.Judged.{judged_by, Leads, leads_end, leads_where, leads_condition, leads_premise, leads_fresh}
use Rattle.rdx_deriv.specs.JudgementUses.{ExtraUses}
use Rattle.rdx_deriv.specs.Laws.{Follows}
use Rattle.rdx_deriv.specs.Uses.{IsAlternativeAt, nowhere, at, ItemUses, TurnUses, uses_none, uses_one, uses_many, turns_end, turns_more, IsMatchUse, IsSplitUse}

-- ---- small facts

-- what is found at a place is a member
pub placed-in : {A : Type 0} (xs : List A) (i : ℕ) (x : A) → slice_get xs i ≡ Some x → In x xs
placed-in [] i x e = absurd cc
placed-in (y ∷ xs) zero x e = here (cc)
placed-in (y ∷ xs) (suc i) x e = there (placed-in xs i x e)

-- the alternative at a place is one
pub at-alternative : (L : Language) (x : Ref) (i : ℕ) (p : Pattern) → IsAlternativeAt L x i p → IsAlternative L x p
at-alternative L x i p a = record { all = a.all; defined = a.defined; among = placed-in a.all i p a.there }

not-true : (b : Bool) → not b ≡ true → b ≡ false
not-true true h = absurd cc
not-true false h = refl

-- `variable-except`
except_match : (L : Language) (rs : List (List ℕ)) (t : Tree) → is_other_symbol rs t ≡ true → Match L (except rs) t no_names
except_match L rs the_hole h = absurd cc
except_match L rs (integer n) h = absurd cc
except_match L rs (truth b) h = absurd cc
except_match L rs (text s) h = absurd cc
except_match L rs (symbol s) h = match_except (not-true (is_one_of rs s) h)
except_match L rs (list m ts) h = absurd cc

-- `variable-prefix`
prefix_match : (L : Language) (r : List ℕ) (t : Tree) → has_prefix r t ≡ true → Match L (prefix r) t no_names
prefix_match L r the_hole h = absurd cc
prefix_match L r (integer n) h = absurd cc
prefix_match L r (truth b) h = absurd cc
prefix_match L r (text s) h = absurd cc
prefix_match L r (symbol s) h = match_prefix h
prefix_match L r (list m ts) h = absurd cc

-- the first of these is a member
first-in : {A : Type 0} {xs : List A} {x : A} {ys : List A} → xs ≡ x ∷ ys → In x xs
first-in {x = x} e = subst (λ zs. In x zs) (sym e) (here refl)

-- so is the second
second-in : {A : Type 0} {xs : List A} {x y : A} {ys : List A} → xs ≡ x ∷ y ∷ ys → In y xs
second-in {y = y} e = subst (λ zs. In y zs) (sym e) (there (here refl))

-- ---- one node

-- what stands under a node follows
abbrev pub AllFollow : Program → List Goal → Type 0
AllFollow P gs = (g : Goal) → In g gs → Follows P g

-- what stands behind the first does
behind-first : {P : Program} {g : Goal} {gs hs : List Goal} → gs ≡ g ∷ hs → AllFollow P gs → AllFollow P hs
behind-first e a h i = a h (subst (λ ks. In h ks) (sym e) (there i))

-- and what stands behind the second
behind-second : {P : Program} {f g : Goal} {gs hs : List Goal} → gs ≡ f ∷ g ∷ hs → AllFollow P gs → AllFollow P hs
behind-second e a h i = a h (subst (λ ks. In h ks) (sym e) (there (there i)))

module _ (P : Program) (l : List ℕ) (L : Language) (e : language_named P l ≡ Some L) where
  -- two languages of one name are the same
  same_language : (M : Language) → language_named P l ≡ Some M → M ≡ L
  same_language M f = cc

  match_under : {p : Pattern} {t : Tree} {b : Binding} → Follows P (matched l p t b) → Match L p t b
  match_under {p = p} {t = t} {b = b} d = subst (λ M. Match M p t b) (same_language d.language d.named) d.here

  split_under : {p : Pattern} {t C s : Tree} {b : Binding} → Follows P (split l p t C s b) → Split L p t C s b
  split_under {p = p} {t = t} {C = C} {s = s} {b = b} d = subst (λ M. Split M p t C s b) (same_language d.language d.named) d.here

  -- the first goal under a node
  first_match : {gs hs : List Goal} {p : Pattern} {t : Tree} {b : Binding} → AllFollow P gs → gs ≡ matched l p t b ∷ hs → Match L p t b
  first_match {p = p} {t = t} {b = b} a f = match_under (a (matched l p t b) (first-in f))

  first_split : {gs hs : List Goal} {p : Pattern} {t C s : Tree} {b : Binding} → AllFollow P gs → gs ≡ split l p t C s b ∷ hs → Split L p t C s b
  first_split {p = p} {t = t} {C = C} {s = s} {b = b} a f = split_under (a (split l p t C s b) (first-in f))

  -- the goals behind the first
  behind : {g : Goal} {gs : List Goal} → AllFollow P (g ∷ gs) → AllFollow P gs
  behind a h i = a h (there i)

  mutual
    -- items, none of which is split
    items_match : {ps : Items} {ts : Trees} {ks : List ℕ} {gs : List Goal} {b : Binding} →
        AllFollow P gs → ItemUses l nowhere ps ts ks gs b → MatchItems L ps ts b
    items_match a uses_none = match_none
    items_match a (uses_one {gs = gs} f u j) = match_one (first_match a (ap (λ g. g ∷ gs) f)) (items_match (behind a) u) j
    items_match a (uses_many r h j) = match_many (turns_match a r) h j

    turns_match : {p : Pattern} {ps : Items} {ts : Trees} {k : ℕ} {ks : List ℕ} {gs : List Goal} {cs : List Binding} {d : Binding} →
        AllFollow P gs → TurnUses l nowhere p ps ts k ks gs cs d → MatchRun L p ps ts cs d
    turns_match a (turns_end u) = run_end (items_match a u)
    turns_match a (turns_more {gs = gs} f r) = run_more (first_match a (ap (λ g. g ∷ gs) f)) (turns_match (behind a) r)

  mutual
    -- items, one of which is split
    items_split : {D s : Tree} {ps : Items} {ts : Trees} {ks : List ℕ} {gs : List Goal} {b : Binding} (k : ℕ) →
        AllFollow P gs → ItemUses l (at k D s) ps ts ks gs b → SplitItems L ps ts k D s b
    items_split zero a (uses_one {gs = gs} f u j) = split_here (first_split a (ap (λ g. g ∷ gs) f)) (items_match (behind a) u) j
    items_split (suc k) a (uses_one {gs = gs} f u j) = split_behind (first_match a (ap (λ g. g ∷ gs) f)) (items_split k (behind a) u) j
    items_split k a (uses_many r h j) = split_many (turns_split k a r) h j

    turns_split : {D s : Tree} {p : Pattern} {ps : Items} {ts : Trees} {n : ℕ} {ks : List ℕ} {gs : List Goal} {cs : List Binding} {d : Binding}
        (k : ℕ) →
        AllFollow P gs → TurnUses l (at k D s) p ps ts n ks gs cs d → SplitRun L p ps ts k D s cs d
    turns_split k a (turns_end u) = run_behind (items_split k a u)
    turns_split zero a (turns_more {gs = gs} f r) = run_here (first_split a (ap (λ g. g ∷ gs) f)) (turns_match (behind a) r)
    turns_split (suc k) a (turns_more {gs = gs} f r) = run_there (first_match a (ap (λ g. g ∷ gs) f)) (turns_split k (behind a) r)

  module _ (ks : List ℕ) (gs : List Goal) (a : AllFollow P gs) where
    -- a use of a rule of matching
    match_use : (p : Pattern) (t : Tree) (b : Binding) → IsMatchUse L l p t b ks gs → Match L p t b
    match_use wild t b u = subst (λ c. Match L wild t c) (sym u.nameless) match_wild
    match_use (of_kind k) t b u = subst (λ c. Match L (of_kind k) t c) (sym u.nameless) (match_kind u.fits)
    match_use (except rs) t b u = subst (λ c. Match L (except rs) t c) (sym u.nameless) (except_match L rs t u.fits)
    match_use (prefix r) t b u = subst (λ c. Match L (prefix r) t c) (sym u.nameless) (prefix_match L r t u.fits)
    match_use hole t b u = subst (λ c. Match L hole t c) (sym u.nameless) (subst (λ v. Match L hole v no_names) (sym u.fits) match_hole)
    match_use (lit v) t b u = subst (λ c. Match L (lit v) t c) (sym u.nameless) (match_lit u.fits)
    match_use (nt x) t b u =
        subst (λ c. Match L (nt x) t c) (sym u.one.passes) (match_nt (at-alternative L x u.place u.pattern u.alternative) (first_match a u.one.under))
    match_use (named x q) t b u = match_named (first_match a u.under) u.passes
    match_use (differ x q) t b u = match_differ (first_match a u.under) u.passes
    match_use (in_hole q r) t b u =
        match_in_hole (first_split a u.under) (match_under (a (matched l r u.part u.inner) (second-in u.under))) u.joined
    match_use (hide_hole q) t b u = match_hide_hole (subst (λ c. Match L q t c) u.passes (first_match a u.under))
    match_use (closed q) t b u = subst (λ c. Match L (closed q) t c) (sym u.passes) (match_closed (first_match a u.under))
    match_use (seq ps) t b u = subst (λ v. Match L (seq ps) v b) (sym u.same) (match_seq (items_match a u.uses))

    -- a use of a rule of splitting
    split_use : (p : Pattern) (t C s : Tree) (b : Binding) → IsSplitUse L l p t C s b ks gs → Split L p t C s b
    split_use wild t C s b u = absurd u
    split_use (of_kind k) t C s b u = absurd u
    split_use (except rs) t C s b u = absurd u
    split_use (prefix r) t C s b u = absurd u
    split_use hole t C s b u =
        subst (λ c. Split L hole t C s c) (sym u.nameless)
        (subst (λ v. Split L hole t v s no_names) (sym u.fits.0) (subst (λ v. Split L hole t the_hole v no_names) (sym u.fits.1) split_hole))
    split_use (lit v) t C s b u = absurd u
    split_use (nt x) t C s b u =
        subst (λ c. Split L (nt x) t C s c) (sym u.one.passes)
        (split_nt (at-alternative L x u.place u.pattern u.alternative) (first_split a u.one.under))
    split_use (named x q) t C s b u = split_named (first_split a u.under) u.passes
    split_use (differ x q) t C s b u = split_differ (first_split a u.under) u.passes
    split_use (in_hole q r) t C s b u =
        split_in_hole (first_split a u.under) (split_under (a (split l r u.part u.second s u.inner) (second-in u.under))) u.filled u.joined
    split_use (hide_hole q) t C s b u = absurd u
    split_use (closed q) t C s b u = subst (λ c. Split L (closed q) t C s c) (sym u.passes) (split_closed (first_split a u.under))
    split_use (seq ps) t C s b u =
        subst (λ v. Split L (seq ps) v C s b) (sym u.same) (split_seq (items_split u.place a u.uses) u.around)

  -- goals of extras lead from one binding to another
  extras_lead : (w : Avoided) (es : List Extra) (b c : Binding) (gs : List Goal) → AllFollow P gs → ExtraUses P l w es c b gs → Leads P L w es b c
  extras_lead w [] b c gs a u = subst (λ d. Leads P L w [] b d) (sym u.0) leads_end
  extras_lead w (such_as p m ∷ es) b c gs a u =
      leads_where u.made (first_match a u.goals) u.join (extras_lead w es u.joined c u.left (behind-first u.goals a) u.behind)
  extras_lead w (provided h ∷ es) b c gs a u = leads_condition u.term u.made u.not_false (extras_lead w es b c gs a u.behind)
  extras_lead w (holds q ∷ es) b c gs a u =
      leads_premise u.made (a (judged q.judgement u.inputs u.outputs) (first-in u.goals))
      (match_under (a (matched l q.outputs u.outputs u.found) (second-in u.goals))) u.join
      (extras_lead w es u.joined c u.left (behind-second u.goals a) u.behind)
  extras_lead w (fresh x ∷ es) b c gs a u =
      leads_fresh u.join (extras_lead (fresh_names.behind w (fresh x)) es u.joined c gs a u.behind)

-- a node whose goals below follow is of what follows
pub node-follows : (P : Program) (g : Goal) (ks : List ℕ) (gs : List Goal) → IsNode P g ks gs → AllFollow P gs → Follows P g
node-follows P (matched l p t b) ks gs n a =
    record { language = n.language; named = n.named; known = n.known; here = match_use P l n.language n.named ks gs a p t b n.here }
node-follows P (split l p t C s b) ks gs n a =
    record { language = n.language; named = n.named; known = n.known; here = split_use P l n.language n.named ks gs a p t C s b n.here }
node-follows P (judged j a o) ks gs n f =
    let l : List ℕ = n.rule_for.judgement.language in
    judged_by n.rule_for (first_match P l n.language n.rule_for.language f n.goals)
    (extras_lead P l n.language n.rule_for.language (avoiding a) n.rule.extras (visible n.found) n.final n.left (behind-first n.goals f) n.extras)
    n.made

-- ---- the whole derivation

mutual
  pub what_holds_follows : (P : Program) (d : Derivation) → Holds P d → Follows P (root d)
  what_holds_follows P (node g ks ds) h = node-follows P g ks (roots ds) h.0 (all_follow P ds h.1)

  pub all_follow : (P : Program) (ds : Derivations) → AllHold P ds → AllFollow P (roots ds)
  all_follow P none h g i = elim i [ ]
  all_follow P (more d ds) h g (here e) = subst (λ k. Follows P k) (sym e) (what_holds_follows P d h.0)
  all_follow P (more d ds) h g (there i) = all_follow P ds h.1 g i
