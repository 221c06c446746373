-- Items in two parts: they match terms exactly where these come in two parts, which the parts of the items match, and they split them where
-- one part splits its terms and the other matches its own.
use Rattle.std.proofs.Common.{◌≡◌, List, [], ◌∷◌, ◌++◌, refl, sym, ap, subst}
use Rattle.rdx_term.specs.Tree.{Tree, trees}
use Rattle.rdx_lang.proofs.CollectionLaws.{repetition-ascends}
use Rattle.rdx_lang.proofs.JoinLaws.{unit_left, unit_left-only}
use Rattle.rdx_lang.proofs.Joins.{joined_first, joined_last}
use Rattle.rdx_lang.proofs.NameLaws.{names-ascend, match-ascends, items-ascends, run-ascends}
use Rattle.rdx_lang.specs.Bindings.{Binding, no_names}
use Rattle.rdx_lang.specs.Join.{IsJoin}
use Rattle.rdx_lang.specs.Patterns.{Pattern, Language}
use Rattle.rdx_lang.specs.PatternView.{Slot, just, repeated, items_of}
use Rattle.rdx_lang.specs.Rules.{MatchItems, MatchRun, match_none, match_one, match_many, run_end, run_more}

-- the terms come in two parts, and b is joined of what the parts of the items bind for them
pub record MatchParts (L : Language) (xs ys : List Slot) (ts : List Tree) (b : Binding) : Type 0 where
  pub firsts : List Tree
  pub others : List Tree
  pub terms : ts ≡ firsts ++ others
  pub first : Binding
  pub other : Binding
  pub firsts_matched : MatchItems L (items_of xs) (trees firsts) first
  pub others_matched : MatchItems L (items_of ys) (trees others) other
  pub joined : IsJoin first other b

-- the same of a run of p before the first items
pub record RunParts (L : Language) (p : Pattern) (xs ys : List Slot) (ts : List Tree) (cs : List Binding) (b : Binding) : Type 0 where
  pub firsts : List Tree
  pub others : List Tree
  pub terms : ts ≡ firsts ++ others
  pub first : Binding
  pub other : Binding
  pub run : MatchRun L p (items_of xs) (trees firsts) cs first
  pub others_matched : MatchItems L (items_of ys) (trees others) other
  pub joined : IsJoin first other b

module _ {L : Language} where
  -- a run that ends where the items match terms in two parts
  run_ends : {p : Pattern} (xs ys : List Slot) (ts : List Tree) (d : Binding) → MatchParts L xs ys ts d → RunParts L p xs ys ts [] d
  run_ends xs ys ts d k = record {
    firsts = k.firsts;
    others = k.others;
    terms = k.terms;
    first = k.first;
    other = k.other;
    run = run_end k.firsts_matched;
    others_matched = k.others_matched;
    joined = k.joined;
  }

  -- a run before items in two parts, where these match terms in two parts
  pub run_parts : {p : Pattern} {cs : List Binding} (xs ys : List Slot) → ((ts : List Tree) (b : Binding) → MatchItems L (items_of (xs ++ ys)) (trees ts) b → MatchParts L xs ys ts b)
      → (ts : List Tree) (d : Binding) → MatchRun L p (items_of (xs ++ ys)) (trees ts) cs d → RunParts L p xs ys ts cs d
  run_parts xs ys behind [] d (run_end h) = run_ends xs ys [] d (behind [] d h)
  run_parts xs ys behind (t ∷ ts) d (run_end h) = run_ends xs ys (t ∷ ts) d (behind (t ∷ ts) d h)
  run_parts xs ys behind (t ∷ ts) d (run_more h r) =
      let k = run_parts xs ys behind ts d r in
      record {
        firsts = t ∷ k.firsts;
        others = k.others;
        terms = ap (λ (us : List Tree). t ∷ us) k.terms;
        first = k.first;
        other = k.other;
        run = run_more h k.run;
        others_matched = k.others_matched;
        joined = k.joined;
      }

  -- items in two parts match terms in two parts
  pub match_parts : (xs ys : List Slot) (ts : List Tree) (b : Binding) → MatchItems L (items_of (xs ++ ys)) (trees ts) b → MatchParts L xs ys ts b
  match_parts [] ys ts b m = record {
    firsts = [];
    others = ts;
    terms = refl;
    first = no_names;
    other = b;
    firsts_matched = match_none;
    others_matched = m;
    joined = unit_left b (items-ascends m);
  }
  match_parts (just p ∷ xs) ys [] b m = elim m [ ]
  match_parts (just p ∷ xs) ys (t ∷ ts) b (match_one {c = c} {d = d} h g j) =
      let k : MatchParts L xs ys ts d = match_parts xs ys ts d g in
      let l = joined_first c k.first k.other d b (match-ascends h) (items-ascends k.firsts_matched) k.joined j in
      record {
        firsts = t ∷ k.firsts;
        others = k.others;
        terms = ap (λ (us : List Tree). t ∷ us) k.terms;
        first = l.0;
        other = k.other;
        firsts_matched = match_one h k.firsts_matched l.1;
        others_matched = k.others_matched;
        joined = l.2;
      }
  match_parts (repeated p n ∷ xs) ys ts b (match_many {cs = cs} {c = c} {d = d} h e j) =
      let k : RunParts L p xs ys ts cs d = run_parts xs ys (λ us f m. match_parts xs ys us f m) ts d h in
      let l = joined_first c k.first k.other d b (repetition-ascends (names-ascend p) e) (run-ascends k.run) k.joined j in
      record {
        firsts = k.firsts;
        others = k.others;
        terms = k.terms;
        first = l.0;
        other = k.other;
        firsts_matched = match_many k.run e l.1;
        others_matched = k.others_matched;
        joined = l.2;
      }

  -- a run before the first items, and those behind them
  pub parts_run : {p : Pattern} {cs : List Binding} (xs ys : List Slot) (vs : List Tree) (d : Binding)
      → ((us : List Tree) (c b : Binding) → MatchItems L (items_of xs) (trees us) c → IsJoin c d b → MatchItems L (items_of (xs ++ ys)) (trees (us ++ vs)) b)
      → (us : List Tree) (c b : Binding) → MatchRun L p (items_of xs) (trees us) cs c → IsJoin c d b → MatchRun L p (items_of (xs ++ ys)) (trees (us ++ vs)) cs b
  parts_run xs ys vs d both [] c b (run_end h) j = run_end (both [] c b h j)
  parts_run xs ys vs d both (u ∷ us) c b (run_end h) j = run_end (both (u ∷ us) c b h j)
  parts_run xs ys vs d both (u ∷ us) c b (run_more h r) j = run_more h (parts_run xs ys vs d both us c b r j)

  -- and the other way
  pub parts_match : (xs ys : List Slot) (us vs : List Tree) (c d b : Binding) → MatchItems L (items_of xs) (trees us) c → MatchItems L (items_of ys) (trees vs) d → IsJoin c d b
      → MatchItems L (items_of (xs ++ ys)) (trees (us ++ vs)) b
  parts_match [] ys [] vs c d b match_none m j = subst (λ (e : Binding). MatchItems L (items_of ys) (trees vs) e) (sym (unit_left-only (items-ascends m) j)) m
  parts_match [] ys (u ∷ us) vs c d b h m j = elim h [ ]
  parts_match (just p ∷ xs) ys [] vs c d b h m j = elim h [ ]
  parts_match (just p ∷ xs) ys (u ∷ us) vs c d b (match_one {c = x} {d = y} h g k) m j =
      let l = joined_last x y d c b (items-ascends g) (items-ascends m) k j in
      match_one h (parts_match xs ys us vs y d l.0 g m l.1) l.2
  parts_match (repeated p n ∷ xs) ys us vs c d b (match_many {c = x} {d = y} h e k) m j =
      let l = joined_last x y d c b (run-ascends h) (items-ascends m) k j in
      match_many (parts_run xs ys vs d (λ ws f a g i. parts_match xs ys ws vs f d a g m i) us y l.0 h l.1) e l.2
